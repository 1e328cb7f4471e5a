-- A name that waited for its bracket: it has one, or it stands alone.
use Prim.Native.Nat.{ℕ, zero, suc, ◌+◌, ◌≤◌, ◌<◌}
use mathlib.Core.Path.{◌≡◌, refl, sym as inv, ap, subst, ◌∙◌}
use mathlib.Core.Bool.{true, false, true≢false}
use mathlib.Core.List.{List}
use native.Mathlib.Omega.{arith}
use lib.ListN.{length}
use Rattle.grammar.specs.Token.{opening, Piece, token}
use Rattle.grammar.specs.Front.{front}
use Rattle.grammar.specs.Syntax.{none, Rule}
use Rattle.grammar.specs.Names.{variable_number}
use Rattle.reading.specs.Part.{none_yet, Part, formulas, inside, Mode, named, complete, expects, State, state, put, next, settle}
use Rattle.reading.specs.Reader.{nodes, variables, going, judge_taken, judge_token, judge}
use Rattle.reading.specs.SizeLaws.{put-variables}
use Rattle.reading.proofs.LimitLaws.{settle-small}
use Rattle.reading.specs.Limits.{SmallState}
use Rattle.pieces.specs.Found as Found
use Rattle.pieces.specs.Found.{front_at}
use Rattle.pieces.specs.declared.Found.{Found}
use Rattle.pieces.specs.declared.Found.TheVariants as F
use Rattle.nametable.specs.Table.{word}
use Rattle.stages.specs.declared.Mode as M
use Rattle.stages.specs.declared.Mode.TheVariants.{Between, Expects, Named, Complete}
use Rattle.stages.specs.declared.Stage.{Stage}
use Rattle.stages.specs.Stage.{mode_of, Settled, Deep, root, level, grown, NameInside, Held, is_opening_found}
use Rattle.stages.proofs.Depths.{put_count}
use Rattle.stages.proofs.Holding.{named-nodes, held-settled}
use Rattle.stages.proofs.Kept.{word-long}
use Rattle.stages.proofs.Turning.{opening_piece, opening_front, front-opening, judge-settled, is_bracket}
use Rattle.drafts.specs.declared.Draft.{Draft}
use Rattle.building.specs.declared.Work.{Work}
use Rattle.building.specs.Built.{Built, Ready, Opened, Alone}
use Rattle.reader.specs.declared.Turn.{Turn}
use Rattle.reader.specs.Kept.{tables_of, levels, Kept, Numbered, Sofar, Step, Turning, waits}
use Rattle.reader.proofs.Stepping.{kept-sofar, put-levels}

deep-levels : {counts : List ℕ} (p : Part) (k : ℕ) → Deep counts p k → k ≡ levels p
deep-levels (formulas fs) k root = refl
deep-levels (inside p v d) k (level {k = j} h t) = ap suc (deep-levels p j h)

not-waiting : (m : M.Mode) → waits m ≡ false → Settled m
not-waiting Between e = tt
not-waiting Expects e = tt
not-waiting Named e = true≢false e
not-waiting Complete e = tt

waiting : (m : M.Mode) → waits m ≡ true → m ≡ Named
waiting Between e = absurd (true≢false (inv e))
waiting Expects e = absurd (true≢false (inv e))
waiting Named e = refl
waiting Complete e = absurd (true≢false (inv e))

-- No name waits

pub plain_step : {text : List ℕ} {at : ℕ} {w : Turn} {s s' : State} → Turning text at w s s' → waits w.stage.mode ≡ false → Step text at w.stage.depth w.stage.formulas w.v w.found s s'
plain_step {w = w} {s} t e =
    record {
      depth_is = deep-levels s.part w.stage.depth t.held.deep;
      count_is = t.held.formulas_are;
      small = t.held.small;
      settled = held-settled w.stage t.held (not-waiting w.stage.mode e);
      piece = t.piece;
      rest = t.rest;
      shown = t.shown;
      judged = t.judged;
      numbered = t.numbered;
      few = t.few;
    }

-- One waits

abbrev work_of : Draft → Stage → Work
work_of b c = record { draft = b; depth = c.depth; at = c.at; len = c.len }

named-mode : {text counts vars : List ℕ} (c : Stage) {s : State} → Held text counts vars c s → c.mode ≡ Named → s.mode ≡ named (word text c.at c.len)
named-mode {text} c h e = h.mode_is ∙ ap (λ (m : M.Mode). mode_of text m c.at c.len) e

named-inside : {text counts vars : List ℕ} (c : Stage) {s : State} → Held text counts vars c s → c.mode ≡ Named → (c.at + c.len ≤ length text) × (c.at < 65536)
named-inside {text} c h e = subst (λ (m : M.Mode). NameInside text m c.at c.len) e h.name_inside

named-short : (cs : List Rule) (p : Part) (m : Mode) (w : List ℕ) → SmallState (state cs p m) → m ≡ named w → length w ≤ 32
named-short cs p m w s e = let t : SmallState (state cs p (named w)) = subst (λ (x : Mode). SmallState (state cs p x)) e s in t.mode.2

built-at : {text out opens starts lens heads nexts counts vars : List ℕ} {b : Draft} (c : Stage) {s : State} → Held text counts vars c s → Kept text out opens starts lens heads nexts b s →
    Built text out opens starts lens heads nexts b (tables_of s.rules) s.part c.depth
built-at {text} {out} {opens} {starts} {lens} {heads} {nexts} {b = b} c {s} h k =
    subst (Built text out opens starts lens heads nexts b (tables_of s.rules) s.part) (inv (deep-levels s.part c.depth h.deep)) k.built

nodes-low : {text counts vars : List ℕ} (c : Stage) {s : State} → Held text counts vars c s → c.mode ≡ Named → nodes s.part ≤ 255
nodes-low c h e = omega (arith, named-nodes c h e, h.nodes_are)

pub ready : {text out opens starts lens heads nexts : List ℕ} {b : Draft} {at : ℕ} {w : Turn} {s s' : State} → Kept text out opens starts lens heads nexts b s → Turning text at w s s' → waits w.stage.mode ≡ true →
    Ready text out opens starts lens heads nexts (work_of b w.stage)
ready {text} {w = w} {s} k t e =
    let c = w.stage in
    let m = waiting c.mode e in
    let i = named-inside c t.held m in
    record {
      base = tables_of s.rules;
      part = s.part;
      built = built-at c t.held k;
      small = t.held.small.part;
      count = nodes-low c t.held m;
      name_inside = i.0;
      name_low = i.1;
      name_short = omega (arith, word-long text c.at c.len i.0, named-short s.rules s.part s.mode (word text c.at c.len) t.held.small (named-mode c t.held m));
    }

-- it has a bracket

opening-after : (cs : List Rule) (p : Part) (m : Mode) (w : List ℕ) (at : ℕ) (s : State) → m ≡ named w → judge_token (state cs p m) at opening ≡ going s → s ≡ state cs (inside p w none_yet) expects
opening-after cs p m w at s e j =
    let h : going (state cs (inside p w none_yet) expects) ≡ going s = inv (ap (λ (x : Mode). judge_taken (next cs p x opening) 0 false at) e) ∙ j in
    let q : state cs (inside p w none_yet) expects ≡ s = cc in
    inv q

pub bracket-sofar : {text out out' opens opens' starts lens heads nexts starts' lens' heads' nexts' : List ℕ} {b r : Draft} {at : ℕ} {w : Turn} {s s' : State} → Kept text out opens starts lens heads nexts b s → Turning text at w s s' →
    waits w.stage.mode ≡ true → is_opening_found w.found ≡ true → Opened text out out' opens opens' starts lens heads nexts starts' lens' heads' nexts' (work_of b w.stage) r →
    Sofar text out' opens' starts' lens' heads' nexts' r s'
bracket-sofar {text} {out} {out'} {opens} {opens'} {starts} {lens} {heads} {nexts} {starts'} {lens'} {heads'} {nexts'} {b} {r} {at} {w} {s} {s'} k t e o a =
    let c = w.stage in
    let m = waiting c.mode e in
    let v = word text c.at c.len in
    let h : front t.piece t.rest ≡ front_at text at F.Opening = inv t.shown ∙ ap (front_at text at) (is_bracket w.found o) in
    let q : t.piece ≡ token opening = cc in
    let j : judge_token s at opening ≡ going s' = subst (λ (x : Piece). judge s at x ≡ going s') q t.judged in
    let z = opening-after s.rules s.part s.mode v at s' (named-mode c t.held m) j in
    let d : c.depth + 1 ≡ suc (levels s.part) = omega (arith, deep-levels s.part c.depth t.held.deep) in
    kept-sofar
    (subst (Kept text out' opens' starts' lens' heads' nexts' r) (inv z)
    (record {
      built =
          subst (Built text out' opens' starts' lens' heads' nexts' r (tables_of s.rules) (inside s.part v none_yet)) d
          (a.builds (tables_of s.rules) s.part (built-at c t.held k) (nodes-low c t.held m));
      start = k.start;
      behind = k.behind ∙ inv a.from_stays;
      done = a.kept k.start (omega (arith, k.behind)) ∙ k.done;
    }))

-- it stands alone

settled-named : (cs : List Rule) (p : Part) (m : Mode) (w : List ℕ) → m ≡ named w → settle (state cs p m) ≡ state cs (put p w none) complete
settled-named cs p m w e = ap (λ (x : Mode). settle (state cs p x)) e

numbered-same : (text : List ℕ) (at v : ℕ) (found : Found) (s s' : State) → variables s.part ≡ variables s'.part → Numbered text at found v s → Numbered text at found v s'
numbered-same text at v (F.Name end) s s' e h = tt
numbered-same text at v (F.Variable end) s s' e h = h ∙ ap (λ (l : List (List ℕ)). variable_number l (Found.part text at end)) e
numbered-same text at v F.Space s s' e h = tt
numbered-same text at v (F.Comment end) s s' e h = tt
numbered-same text at v F.Opening s s' e h = tt
numbered-same text at v F.Closing s s' e h = tt
numbered-same text at v F.Comma s s' e h = tt
numbered-same text at v F.Arrow s s' e h = tt
numbered-same text at v F.Stop s s' e h = tt
numbered-same text at v F.HalfArrow s s' e h = tt
numbered-same text at v F.HalfStop s s' e h = tt
numbered-same text at v F.Nothing s s' e h = tt

module _ {text out out' opens starts lens heads nexts starts' lens' heads' nexts' : List ℕ} {b r : Draft} {at : ℕ} {w : Turn} {s s' : State} (k : Kept text out opens starts lens heads nexts b s) (t : Turning text at w s s')
    (e : waits w.stage.mode ≡ true) (o : is_opening_found w.found ≡ false) (a : Alone text out out' opens starts lens heads nexts starts' lens' heads' nexts' (work_of b w.stage) r) where
  abbrev v : List ℕ
  v = word text w.stage.at w.stage.len

  abbrev alone : State
  alone = state s.rules (put s.part v none) complete

  alone-is : settle s ≡ alone
  alone-is = settled-named s.rules s.part s.mode v (named-mode w.stage t.held (waiting w.stage.mode e))

  pub alone-kept : Kept text out' opens starts' lens' heads' nexts' r alone
  alone-kept =
      let d : w.stage.depth ≡ levels (put s.part v none) = deep-levels s.part w.stage.depth t.held.deep ∙ inv (put-levels s.part v none) in
      record {
        built =
            subst (Built text out' opens starts' lens' heads' nexts' r (tables_of s.rules) (put s.part v none)) d
            (a.builds (tables_of s.rules) s.part (built-at w.stage t.held k) (nodes-low w.stage t.held (waiting w.stage.mode e)));
        start = k.start;
        behind = k.behind ∙ inv a.from_stays;
        done = a.kept k.start (omega (arith, k.behind)) ∙ k.done;
      }

  pub alone-step : (n : ℕ) → n ≡ grown w.stage.depth w.stage.formulas → Step text at w.stage.depth n w.v w.found alone s'
  alone-step n z =
      let x : opening_piece t.piece ≡ false = ap opening_front (inv t.shown) ∙ front-opening text at w.found ∙ o in
      record {
        depth_is = deep-levels s.part w.stage.depth t.held.deep ∙ inv (put-levels s.part v none);
        count_is = z ∙ put_count s.part w.stage.depth w.stage.formulas v none t.held.deep t.held.formulas_are;
        small = subst SmallState alone-is (settle-small s.rules s.part s.mode t.held.small);
        settled = refl;
        piece = t.piece;
        rest = t.rest;
        shown = t.shown;
        judged = subst (λ (y : State). judge y at t.piece ≡ going s') alone-is (judge-settled s at t.piece x ∙ t.judged);
        numbered = numbered-same text at w.v w.found s alone (inv (put-variables s.part v none)) t.numbered;
        few = t.few;
      }

pub then-root : (k n : ℕ) → k ≡ 0 → n + 1 ≡ grown k n
then-root zero n z = refl
then-root (suc k) n z = absurd (omega arith)

pub then-nested : (k n : ℕ) → (k ≡ 0 → ⊥) → n ≡ grown k n
then-nested zero n z = absurd (z refl)
then-nested (suc k) n z = refl
