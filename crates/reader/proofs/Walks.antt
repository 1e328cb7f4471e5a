-- One pass over a text.
use Prim.Native.Nat.{ℕ, zero, suc, ◌+◌, ◌-◌, ◌≤◌, ◌<◌}
use mathlib.Core.Path.{◌≡◌, refl, sym as inv, ap, ap₂, subst, ◌∙◌}
use mathlib.Core.Bool.{Bool, true, false}
use mathlib.Core.List.{List, [], ◌∷◌}
use native.Mathlib.Omega.{arith}
use lib.ListN.{length, drop, length-drop, length-append}
use lib.Seq.{length-take-le}
use Rattle.grammar.specs.Token.{Token, name, variable, opening, closing, comma, arrow, stop, Piece, token, blank, comment, spelt}
use Rattle.grammar.specs.Front as Front
use Rattle.grammar.specs.Front.{front, broken, unexpected, front_of}
use Rattle.grammar.specs.Syntax.{Rule}
use Rattle.grammar.specs.Names.{rule_spots, variable_number}
use Rattle.grammar.specs.NameLaws.{Numbers, fresh, known, numbers}
use Rattle.reading.specs.Part.{none_yet, Part, formulas, inside, rule_of, Mode, between, expects, named, complete, State, state, start, Taken, taken, wrong, next, settle, is_opening}
use Rattle.reading.specs.Reader as Reader
use Rattle.reading.specs.Reader.{variables, limit, long, going, bad, judge_taken, judge_token, judge, Outcome, read, refused, ended, go_on, from_front, walk}
use Rattle.reading.proofs.Whole.{Healthy, HealthyTaken, next-healthy, settle-healthy}
use Rattle.pieces.specs.Found as Found
use Rattle.pieces.specs.Found.{Inside, Shows, front_at}
use Rattle.pieces.specs.declared.Found.{Found}
use Rattle.pieces.specs.declared.Found.TheVariants as F
use Rattle.stages.specs.declared.Mode as M
use Rattle.stages.specs.declared.Mode.TheVariants.{Between, Expects, Named, Complete}
use Rattle.stages.specs.declared.Stage.{Stage}
use Rattle.std.specs.Prelude.{Result, Ok, Err}
use Rattle.pieces.specs.declared.Refusal.{Refusal}
use Rattle.pieces.specs.Refusal.{number}
use Rattle.stages.specs.Stage.{mode_of, root, Held, Goes, Turned}
use Rattle.stages.specs.Variables.{Variables}
use Rattle.stages.proofs.Turning.{judge-settled}
use Rattle.drafts.specs.declared.Draft.{Draft}
use Rattle.drafts.specs.Drafted.{bytes_of}
use Rattle.reader.specs.declared.Turn.{Turn}
use Rattle.reader.specs.Effect.{Effect, stays, argues, closes, stops, effect}
use Rattle.reader.specs.Kept.{tables_of, done_bytes, Numbered, Sofar, Turning, BuiltOn}
use Rattle.pieces.specs.Found.{end_of}
use Rattle.reader.specs.Walking.{starting, ends, whole, Ends, Grown, Going}

-- Rules only grow

effect-grows : {t : Token} {s s' : State} → Effect t s s' → length (done_bytes s.rules) ≤ length (done_bytes s'.rules)
effect-grows (stays h) = omega arith
effect-grows (argues l) = omega arith
effect-grows (closes f) = omega arith
effect-grows (stops {cs = cs} {f} {fs}) = omega (arith, length-append (done_bytes cs) (5 ∷ length (rule_of f fs []).body ∷ bytes_of (tables_of cs) [] (rule_spots (rule_of f fs []))))

settled_twice : (cs : List Rule) (p : Part) (m : Mode) → settle (settle (state cs p m)) ≡ settle (state cs p m)
settled_twice cs p between = refl
settled_twice cs p expects = refl
settled_twice cs p (named w) = refl
settled_twice cs p complete = refl

opening-rules : (cs : List Rule) (p : Part) (m : Mode) (at : ℕ) (s : State) → judge_token (state cs p m) at opening ≡ going s → s.rules ≡ cs
opening-rules cs p between at s e = let z : ◌≡◌ {A = ℕ} 0 1 = cc in absurd (omega arith)
opening-rules cs p expects at s e = let z : ◌≡◌ {A = ℕ} 0 1 = cc in absurd (omega arith)
opening-rules cs p (named w) at s e = let q : state cs (inside p w none_yet) expects ≡ s = cc in ap (λ (x : State). x.rules) (inv q)
opening-rules cs p complete at s e = let z : ◌≡◌ {A = ℕ} 0 1 = cc in absurd (omega arith)

token-grows : (s s' : State) (at : ℕ) (t : Token) → is_opening t ≡ false → judge s at (token t) ≡ going s' → length (done_bytes s.rules) ≤ length (done_bytes s'.rules)
token-grows s s' at t h e = effect-grows (effect (settle s) s' t at (settled_twice s.rules s.part s.mode) (judge-settled s at (token t) h ∙ e))

gap_grows : (s s' : State) → going (settle s) ≡ going s' → length (done_bytes s.rules) ≤ length (done_bytes s'.rules)
gap_grows s s' e = let q : settle s ≡ s' = cc in omega (arith, ap (λ (x : State). length (done_bytes x.rules)) q)

piece-grows : (s s' : State) (at : ℕ) (p : Piece) → judge s at p ≡ going s' → length (done_bytes s.rules) ≤ length (done_bytes s'.rules)
piece-grows s s' at (token (name w)) e = token-grows s s' at (name w) refl e
piece-grows s s' at (token (variable w)) e = token-grows s s' at (variable w) refl e
piece-grows s s' at (token opening) e = omega (arith, ap (λ (x : List Rule). length (done_bytes x)) (opening-rules s.rules s.part s.mode at s' e))
piece-grows s s' at (token closing) e = token-grows s s' at closing refl e
piece-grows s s' at (token comma) e = token-grows s s' at comma refl e
piece-grows s s' at (token arrow) e = token-grows s s' at arrow refl e
piece-grows s s' at (token stop) e = token-grows s s' at stop refl e
piece-grows s s' at (blank b) e = gap_grows s s' e
piece-grows s s' at (comment c) e = gap_grows s s' e

pub over-grown : (text out opens starts lens heads nexts : List ℕ) (w : Turn) → 32769 < w.draft.from → Grown text out out opens opens starts lens heads nexts starts lens heads nexts w w.draft
over-grown text out opens starts lens heads nexts w l =
    record {
      sofar =
          λ at s s' h t.
          record {
            kept = λ (z : w.draft.from ≤ 32769). absurd (omega (arith, z, l));
            grown = omega (arith, h.grown, piece-grows s s' at t.piece t.judged);
          };
    }

pub built-grown : (text out out' opens opens' starts lens heads nexts starts' lens' heads' nexts' : List ℕ) (w : Turn) (r : Draft) → w.draft.from ≤ 32769 →
    BuiltOn text out out' opens opens' starts lens heads nexts starts' lens' heads' nexts' w r → Grown text out out' opens opens' starts lens heads nexts starts' lens' heads' nexts' w r
built-grown text out out' opens opens' starts lens heads nexts starts' lens' heads' nexts' w r l b = record { sofar = λ at s s' h t. b.sofar at s s' (h.kept l) t }

-- Health

going-healthy : (n : Taken) (k : ℕ) (l : Bool) (at : ℕ) (s : State) → HealthyTaken n → judge_taken n k l at ≡ going s → Healthy s.part s.mode
going-healthy wrong k l at s h e = let z : ◌≡◌ {A = ℕ} 0 1 = cc in absurd (omega arith)
going-healthy (taken x) zero false at s h e = let q : x ≡ s = cc in subst (λ (y : State). Healthy y.part y.mode) q h
going-healthy (taken x) zero true at s h e = let z : ◌≡◌ {A = ℕ} 0 1 = cc in absurd (omega arith)
going-healthy (taken x) (suc k) l at s h e = let z : ◌≡◌ {A = ℕ} 0 1 = cc in absurd (omega arith)

gap_healthy : (s s' : State) → Healthy s.part s.mode → going (settle s) ≡ going s' → Healthy s'.part s'.mode
gap_healthy s s' h e = let q : settle s ≡ s' = cc in subst (λ (y : State). Healthy y.part y.mode) q (settle-healthy s.part s.mode h)

piece-healthy : (s s' : State) (at : ℕ) (p : Piece) → Healthy s.part s.mode → judge s at p ≡ going s' → Healthy s'.part s'.mode
piece-healthy s s' at (token t) h e = going-healthy (next s.rules s.part s.mode t) (limit s.rules s.part t) (long t) at s' (next-healthy s.rules s.part s.mode t) e
piece-healthy s s' at (blank b) h e = gap_healthy s s' h e
piece-healthy s s' at (comment c) h e = gap_healthy s s' h e

-- Where a piece ends

pub record At (text : List ℕ) (at : ℕ) (p : Piece) (r : List ℕ) (end : ℕ) : Type 0 where
  pub rest_is : r ≡ drop end text
  pub length_is : at + length (spelt p) ≡ end
  pub onward : at < end
  pub inside : end ≤ length text

same-front : (text : List ℕ) (at end : ℕ) (p q : Piece) (r t : List ℕ) → front p r ≡ front q t → At text at p r end → At text at q t end
same-front text at end p q r t e a = let x : p ≡ q = cc in let y : r ≡ t = cc in subst (λ (z : Piece). At text at z t end) x (subst (λ (z : List ℕ). At text at p z end) y a)

span : (text : List ℕ) (at end : ℕ) → at ≤ end → end ≤ length text → length (Found.part text at end) ≡ end - at
span text at end l h = length-take-le (end - at) (drop at text) (omega (arith, length-drop at text, l, h))

pub piece-end : (text : List ℕ) (at : ℕ) (found : Found) (p : Piece) (r : List ℕ) → Inside text at found → front_at text at found ≡ front p r → At text at p r (end_of at found)
piece-end text at (F.Name end) p r i e =
    same-front text at end _ p _ r e (record { rest_is = refl; length_is = omega (arith, span text at end (omega (arith, i.0)) i.1, i.0); onward = i.0; inside = i.1 })
piece-end text at (F.Variable end) p r i e =
    same-front text at end _ p _ r e (record { rest_is = refl; length_is = omega (arith, span text at end (omega (arith, i.0)) i.1, i.0); onward = i.0; inside = i.1 })
piece-end text at F.Space p r i e = same-front text at (at + 1) _ p _ r e (record { rest_is = refl; length_is = refl; onward = omega arith; inside = i })
piece-end text at (F.Comment end) p r i e =
    same-front text at end _ p _ r e (record { rest_is = refl; length_is = omega (arith, span text (at + 1) end (omega (arith, i.0)) i.1, i.0); onward = i.0; inside = i.1 })
piece-end text at F.Opening p r i e = same-front text at (at + 1) _ p _ r e (record { rest_is = refl; length_is = refl; onward = omega arith; inside = i })
piece-end text at F.Closing p r i e = same-front text at (at + 1) _ p _ r e (record { rest_is = refl; length_is = refl; onward = omega arith; inside = i })
piece-end text at F.Comma p r i e = same-front text at (at + 1) _ p _ r e (record { rest_is = refl; length_is = refl; onward = omega arith; inside = i })
piece-end text at F.Arrow p r i e = same-front text at (at + 2) _ p _ r e (record { rest_is = refl; length_is = refl; onward = omega arith; inside = i })
piece-end text at F.Stop p r i e = same-front text at (at + 1) _ p _ r e (record { rest_is = refl; length_is = refl; onward = omega arith; inside = i })
piece-end text at F.HalfArrow p r i e = let z : ◌≡◌ {A = ℕ} 0 1 = cc in absurd (omega arith)
piece-end text at F.HalfStop p r i e = let z : ◌≡◌ {A = ℕ} 0 1 = cc in absurd (omega arith)
piece-end text at F.Nothing p r i e = let z : ◌≡◌ {A = ℕ} 0 1 = cc in absurd (omega arith)

-- A turn of the pass

some_left : (fuel : ℕ) (s : State) (at : ℕ) (l : List ℕ) → 0 < length l → 0 < fuel → walk fuel s at l ≡ from_front s at (front_of l) (walk (fuel - 1))
some_left zero s at l h f = absurd (omega arith)
some_left (suc k) s at [] h f = absurd (omega arith)
some_left (suc k) s at (b ∷ l) h f = let z : k ≡ suc k - 1 = omega arith in ap (λ (n : ℕ). from_front s at (front_of (b ∷ l)) (walk n)) z

module _ {text counts vars out opens starts lens heads nexts : List ℕ} {c : Stage} {b : Draft} {at : ℕ} (g : Going text counts vars out opens starts lens heads nexts c b at) (l : at < length text) (found : Found) (shows : Shows text at found) where
  goes_on : from_front g.now at (front_at text at found) (walk (g.fuel - 1)) ≡ whole text
  goes_on =
      ap (λ (f : Front.Front). from_front g.now at f (walk (g.fuel - 1))) shows.says
      ∙ inv (some_left g.fuel g.now at (drop at text) (omega (arith, length-drop at text, l)) (omega (arith, g.enough)))
      ∙ g.left

  pub bad-ends : (r : Result Stage Refusal) (k : Refusal) {counts' vars' : List ℕ} → r ≡ Err k → Turned text counts' vars' g.now at found r → whole text ≡ refused (number k.code) k.place
  bad-ends r k {counts'} {vars'} e t =
      let x : Turned text counts' vars' g.now at found (Err k) = subst (Turned text counts' vars' g.now at found) e t in
      inv goes_on ∙ x.turns (walk (g.fuel - 1))

  module _ {counts' vars' : List ℕ} {r : Result Stage Refusal} {c' : Stage} (e : r ≡ Ok c') (t : Turned text counts' vars' g.now at found r) where
    pub goes : Goes text counts' vars' g.now at (front_at text at found) c'
    goes = let x : Turned text counts' vars' g.now at found (Ok c') = subst (Turned text counts' vars' g.now at found) e t in x.turns

    pub turning : (v : ℕ) → ((counts : List ℕ) (d : Stage) (s : State) → Held text counts vars d s → d.variables ≡ c.variables → Numbered text at found v s) → v < 65536 →
        Turning text at (record { draft = b; stage = c; found = found; v = v }) g.now goes.after
    turning v n few =
        record { counts = counts; vars = vars; held = g.held; piece = goes.piece; rest = goes.rest; shown = goes.shown; judged = goes.judged; numbered = n counts c g.now g.held refl; few = few }

    pub again : {out' opens' starts' lens' heads' nexts' : List ℕ} {b' : Draft} (end : ℕ) → end ≡ end_of at found → Sofar text out' opens' starts' lens' heads' nexts' b' goes.after →
        Going text counts' vars' out' opens' starts' lens' heads' nexts' c' b' end
    again end q h =
        let a = piece-end text at found goes.piece goes.rest shows.inside goes.shown in
        record {
          now = goes.after;
          held = goes.held;
          sofar = h;
          fuel = g.fuel - 1;
          enough = omega (arith, g.enough, q, a.onward, a.inside);
          left =
              ap₂ (λ (i : ℕ) (x : List ℕ). walk (g.fuel - 1) goes.after i x) (q ∙ inv a.length_is) (ap (λ (i : ℕ). drop i text) q ∙ inv a.rest_is)
              ∙ inv (ap (λ (j : Reader.Judged). go_on j (λ n. walk (g.fuel - 1) n (at + length (spelt goes.piece)) goes.rest)) goes.judged)
              ∙ inv (ap (λ (f : Front.Front). from_front g.now at f (walk (g.fuel - 1))) goes.shown)
              ∙ goes_on;
          healthy = piece-healthy g.now goes.after at goes.piece g.healthy goes.judged;
          inside = omega (arith, q, a.inside);
          short = g.short;
        }

    pub nearer : (end : ℕ) → end ≡ end_of at found → length text - end < length text - at
    nearer end q = let a = piece-end text at found goes.piece goes.rest shows.inside goes.shown in omega (arith, q, a.onward, a.inside)

-- The end

none_left : (fuel : ℕ) (s : State) (at : ℕ) (l : List ℕ) → length l ≡ 0 → walk fuel s at l ≡ ended s.rules s.mode at
none_left zero s at l h = refl
none_left (suc k) s at [] h = refl
none_left (suc k) s at (b ∷ l) h = absurd (omega arith)

module _ {text counts vars out opens starts lens heads nexts : List ℕ} {c : Stage} {b : Draft} {at : ℕ} (g : Going text counts vars out opens starts lens heads nexts c b at) (l : length text ≤ at) where
  at_end : whole text ≡ ended g.now.rules g.now.mode at
  at_end = inv g.left ∙ none_left g.fuel g.now at (drop at text) (omega (arith, length-drop at text, l))

  ended_with : (m : M.Mode) → g.now.mode ≡ mode_of text m c.at c.len → Ends text out opens starts lens heads nexts (ends m b at)
  ended_with Between e =
      let x : whole text ≡ ended g.now.rules between at = at_end ∙ ap (λ (m : Mode). ended g.now.rules m at) e in
      let p : g.now.part ≡ formulas [] = subst (Healthy g.now.part) e g.healthy in
      record {
        ends_with =
            record {
              rules = g.now.rules;
              reads = x;
              sofar = subst (λ (y : Part). Sofar text out opens starts lens heads nexts b (state g.now.rules y between)) p (subst (λ (y : Mode). Sofar text out opens starts lens heads nexts b (state g.now.rules g.now.part y)) e g.sofar);
            };
      }
  ended_with Expects e = record { ends_with = at_end ∙ ap (λ (m : Mode). ended g.now.rules m at) e }
  ended_with Named e = record { ends_with = at_end ∙ ap (λ (m : Mode). ended g.now.rules m at) e }
  ended_with Complete e = record { ends_with = at_end ∙ ap (λ (m : Mode). ended g.now.rules m at) e }

  pub walk_ends : (r : Result Draft Refusal) → r ≡ ends c.mode b at → Ends text out opens starts lens heads nexts r
  walk_ends r q = subst (Ends text out opens starts lens heads nexts) (inv q) (ended_with c.mode g.held.mode_is)

pub bad-walk : (text out opens starts lens heads nexts : List ℕ) (k : Refusal) → whole text ≡ refused (number k.code) k.place → Ends text out opens starts lens heads nexts (Err k)
bad-walk text out opens starts lens heads nexts k e = record { ends_with = e }

-- The start

no-variables : (text vars : List ℕ) → Variables text vars [] 0
no-variables text vars = record { count = refl; few = omega arith; inside = λ i (l : i < 0). absurd (omega arith); named = λ i (l : i < 0). absurd (omega arith) }

pub begins : (text counts vars out opens starts lens heads nexts : List ℕ) (c : Stage) (b : Draft) → c ≡ starting → length counts ≡ 256 → length vars ≡ 128 → length text ≤ 65536 → Sofar text out opens starts lens heads nexts b start →
    Going text counts vars out opens starts lens heads nexts c b 0
begins text counts vars out opens starts lens heads nexts c b e p q l h =
    record {
      now = start;
      held =
          subst (λ (x : Stage). Held text counts vars x start) (inv e)
          (record {
            mode_is = refl;
            deep = root;
            formulas_are = refl;
            nodes_are = refl;
            rules_are = refl;
            variables_are = no-variables text vars;
            small = record { rules = tt; part = (tt, omega arith); count = omega arith; named = omega arith; mode = omega arith };
            counts_long = p;
            vars_long = q;
            name_inside = tt;
          });
      sofar = h;
      fuel = suc (length text);
      enough = omega arith;
      left = refl;
      healthy = refl;
      inside = omega arith;
      short = l;
    }

-- The number of a variable

pub numbered-told : (text : List ℕ) (at v : ℕ) (found g : Found) (s : State) → found ≡ g → Numbered text at g v s → Numbered text at found v s
numbered-told text at v found g s e h = subst (λ (f : Found). Numbered text at f v s) (inv e) h

pub variables-at : {text counts vars : List ℕ} (c : Stage) {s : State} (n : ℕ) → Held text counts vars c s → c.variables ≡ n → Variables text vars (variables s.part) n
variables-at {text} {vars = vars} c {s} n h e = subst (Variables text vars (variables s.part)) e h.variables_are

pub number-few : (text vars : List ℕ) (names : List (List ℕ)) (n r at end : ℕ) (found : Found) → found ≡ F.Variable end → Variables text vars names n → r ≡ variable_number names (Found.part text at end) → r < 65536
number-few text vars names n r at end found g h e = low (numbers names (Found.part text at end))
  where
    low : Numbers names (Found.part text at end) → r < 65536
    low (fresh a b) = omega (arith, e, h.count, h.few)
    low (known a b) = omega (arith, e, h.count, h.few)
