-- What each piece adds to what is held.
use Prim.Native.Nat.{ℕ, ◌+◌, ◌-◌, ◌≤◌}
use mathlib.Core.Path.{◌≡◌, refl, sym as inv, ap, subst, ◌∙◌}
use mathlib.Core.List.{List}
use native.Mathlib.Omega.{arith}
use lib.ListN.{length, drop}
use lib.Seq.{length-take-le}
use Rattle.grammar.specs.Token.{Token, variable, opening, closing, arrow, stop, Piece, token}
use Rattle.grammar.specs.Front.{front, broken, unexpected}
use Rattle.grammar.specs.Syntax.{none, Rule}
use Rattle.grammar.specs.Names.{variable_number}
use Rattle.reading.specs.Part.{and_variable, Part, formulas, inside, Mode, State, state, terms_of, put, settle}
use Rattle.reading.specs.Reader.{variables, going, judge}
use Rattle.reading.specs.Limits.{SmallState}
use Rattle.pieces.specs.Found as Found
use Rattle.pieces.specs.Found.{front_at}
use Rattle.pieces.specs.declared.Found.{Found}
use Rattle.pieces.specs.declared.Found.TheVariants as F
use Rattle.drafts.specs.declared.Draft.{Draft}
use Rattle.building.specs.Built.{Built, Nested, Argued, Closed}
use Rattle.reader.specs.Effect.{Stays, Effect, stays, argues, closes, stops, effect}
use Rattle.reader.specs.Kept.{tables_of, levels, Kept, Numbered, Sofar, Step}

-- What stays

same_kept : {text out opens starts lens heads nexts : List ℕ} {b : Draft} {cs : List Rule} {p : Part} (m m' : Mode) → Kept text out opens starts lens heads nexts b (state cs p m) → Kept text out opens starts lens heads nexts b (state cs p m')
same_kept m m' k = record { built = k.built; start = k.start; behind = k.behind; done = k.done }

start-low : {text out opens starts lens heads nexts : List ℕ} {b : Draft} {s : State} (k : Kept text out opens starts lens heads nexts b s) → k.start ≤ length out
start-low k = omega (arith, k.behind, k.built.drafted.low, k.built.drafted.long)

pub kept-sofar : {text out opens starts lens heads nexts : List ℕ} {b : Draft} {s : State} → Kept text out opens starts lens heads nexts b s → Sofar text out opens starts lens heads nexts b s
kept-sofar {out = out} k = record { kept = λ l. k; grown = omega (arith, k.behind, ap length k.done, length-take-le k.start out (start-low k)) }

-- the piece that the program has found
pub step-piece : {text : List ℕ} {at depth n v : ℕ} {found : Found} {s s' : State} (g : Found) (p : Piece) (r : List ℕ) → Step text at depth n v found s s' → found ≡ g → front_at text at g ≡ front p r → judge s at p ≡ going s'
step-piece {text} {at} {s = s} g p r t e f =
    let h : front t.piece t.rest ≡ front p r = inv t.shown ∙ ap (front_at text at) e ∙ f in
    let q : t.piece ≡ p = cc in
    subst (λ (x : Piece). judge s at x ≡ going _) q t.judged

stays-kept : {text out opens starts lens heads nexts : List ℕ} {b : Draft} {s s' : State} (t : Token) → Stays t → Effect t s s' → Kept text out opens starts lens heads nexts b s → Kept text out opens starts lens heads nexts b s'
stays-kept t h (stays {m = m} {m'} x) k = same_kept m m' k
stays-kept t h (argues l) k = absurd h
stays-kept t h (closes f) k = absurd h
stays-kept t h stops k = absurd h

pub token-stays : {text out opens starts lens heads nexts : List ℕ} {b : Draft} {at depth n v : ℕ} {found : Found} {s s' : State} (g : Found) (t : Token) (r : List ℕ) → Kept text out opens starts lens heads nexts b s →
    Step text at depth n v found s s' → found ≡ g → front_at text at g ≡ front (token t) r → Stays t → Sofar text out opens starts lens heads nexts b s'
token-stays {at = at} {s = s} {s'} g t r k x e f h = kept-sofar (stays-kept t h (effect s s' t at x.settled (step-piece g (token t) r x e f)) k)

pub gap_stays : {text out opens starts lens heads nexts : List ℕ} {b : Draft} {at depth n v : ℕ} {found : Found} {s s' : State} (g : Found) (p : Piece) (r : List ℕ) → Kept text out opens starts lens heads nexts b s →
    Step text at depth n v found s s' → found ≡ g → front_at text at g ≡ front p r → judge s at p ≡ going (settle s) → Sofar text out opens starts lens heads nexts b s'
gap_stays {text} {out} {opens} {starts} {lens} {heads} {nexts} {b} {at} {s = s} {s'} g p r k x e f j =
    let h : going (settle s) ≡ going s' = inv j ∙ step-piece g p r x e f in
    let q : settle s ≡ s' = cc in
    kept-sofar (subst (Kept text out opens starts lens heads nexts b) (inv x.settled ∙ q) k)

no-opening : {s s' : State} → Effect opening s s' → ⊥
no-opening (stays h) = h

pub opening_never : {text : List ℕ} {at depth n v : ℕ} {found : Found} {s s' : State} {A : Type 0} → Step text at depth n v found s s' → found ≡ F.Opening → A
opening_never {text} {at} {s = s} {s'} x e = absurd (no-opening (effect s s' opening at x.settled (step-piece F.Opening (token opening) _ x e refl)))

pub broken_never : {text : List ℕ} {at depth n v : ℕ} {found : Found} {s s' : State} {A : Type 0} (g : Found) (t : Token) → Step text at depth n v found s s' → found ≡ g → front_at text at g ≡ broken t → A
broken_never {text} {at} g t x e f = let h : front x.piece x.rest ≡ broken t = inv x.shown ∙ ap (front_at text at) e ∙ f in let z : ◌≡◌ {A = ℕ} 0 1 = cc in absurd (omega arith)

pub nothing_never : {text : List ℕ} {at depth n v : ℕ} {found : Found} {s s' : State} {A : Type 0} → Step text at depth n v found s s' → found ≡ F.Nothing → A
nothing_never {text} {at} x e = let h : front x.piece x.rest ≡ unexpected = inv x.shown ∙ ap (front_at text at) e in let z : ◌≡◌ {A = ℕ} 0 1 = cc in absurd (omega arith)

-- A variable

variable-nested : {text out opens starts lens heads nexts : List ℕ} {b : Draft} {s s' : State} (w : List ℕ) (depth : ℕ) → Effect (variable w) s s' → depth ≡ levels s.part → SmallState s → Kept text out opens starts lens heads nexts b s →
    Nested out opens b depth 255
variable-nested w depth (stays h) e c k = absurd h
variable-nested {text} {out} {opens} {starts} {lens} {heads} {nexts} {b} w depth (argues {cs = cs} {q = q} {u = u} {d = d} l) e c k =
    record {
      text = text;
      starts = starts;
      lens = lens;
      heads = heads;
      nexts = nexts;
      base = tables_of cs;
      part = inside q u d;
      built = subst (Built text out opens starts lens heads nexts b (tables_of cs) (inside q u d)) (inv e) k.built;
      small = c.part;
      count = l;
      deep = omega (arith, e);
    }

variable-kept : {text out out' opens starts lens heads nexts : List ℕ} {b r : Draft} {s s' : State} (w : List ℕ) (depth v : ℕ) → Effect (variable w) s s' → depth ≡ levels s.part → v ≡ variable_number (variables s.part) w →
    Argued out out' opens b depth v r → Kept text out opens starts lens heads nexts b s → Kept text out' opens starts lens heads nexts r s'
variable-kept w depth v (stays h) e z a k = absurd h
variable-kept {text} {out} {out'} {opens} {starts} {lens} {heads} {nexts} {b} {r} w depth v (argues {cs = cs} {q = q} {u = u} {d = d} l) e z a k =
    record {
      built =
          subst (Built text out' opens starts lens heads nexts r (tables_of cs) (inside q u (and_variable d w))) e
          (a.builds text starts lens heads nexts (tables_of cs) q u w d (subst (Built text out opens starts lens heads nexts b (tables_of cs) (inside q u d)) (inv e) k.built) l z);
      start = k.start;
      behind = k.behind ∙ inv a.from_stays;
      done = a.kept k.start (omega (arith, k.behind)) ∙ k.done;
    }

module _ {text : List ℕ} {at depth n v end : ℕ} {found : Found} {s s' : State} (x : Step text at depth n v found s s') (e : found ≡ F.Variable end) where
  variable-effect : Effect (variable (Found.part text at end)) s s'
  variable-effect = effect s s' (variable (Found.part text at end)) at x.settled (step-piece (F.Variable end) (token (variable (Found.part text at end))) (drop end text) x e refl)

  pub argument-nested : {out opens starts lens heads nexts : List ℕ} {b : Draft} → Kept text out opens starts lens heads nexts b s → Nested out opens b depth 255
  argument-nested k = variable-nested (Found.part text at end) depth variable-effect x.depth_is x.small k

  pub argument-sofar : {out out' opens starts lens heads nexts : List ℕ} {b r : Draft} → Argued out out' opens b depth v r → Kept text out opens starts lens heads nexts b s → Sofar text out' opens starts lens heads nexts r s'
  argument-sofar a k =
      kept-sofar (variable-kept (Found.part text at end) depth v variable-effect x.depth_is (subst (λ (f : Found). Numbered text at f v s) e x.numbered) a k)

-- A closing bracket

pub put-levels : (q : Part) (u : List ℕ) (own : _) → levels (put q u own) ≡ levels q
put-levels (formulas fs) u own = refl
put-levels (inside p v d) u own = refl

bracket-nested : {text out opens starts lens heads nexts : List ℕ} {b : Draft} {s s' : State} (depth : ℕ) → Effect closing s s' → depth ≡ levels s.part → SmallState s → Kept text out opens starts lens heads nexts b s →
    Nested out opens b depth 256
bracket-nested depth (stays h) e c k = absurd h
bracket-nested {text} {out} {opens} {starts} {lens} {heads} {nexts} {b} depth (closes {cs} {q} {u} {d} f) e c k =
    record {
      text = text;
      starts = starts;
      lens = lens;
      heads = heads;
      nexts = nexts;
      base = tables_of cs;
      part = inside q u d;
      built = subst (Built text out opens starts lens heads nexts b (tables_of cs) (inside q u d)) (inv e) k.built;
      small = c.part;
      count = c.count;
      deep = omega (arith, e);
    }

bracket-kept : {text out out' opens starts lens heads nexts : List ℕ} {b : Draft} {s s' : State} (depth : ℕ) → Effect closing s s' → depth ≡ levels s.part → SmallState s → Closed out out' opens b depth →
    Kept text out opens starts lens heads nexts b s → Kept text out' opens starts lens heads nexts b s'
bracket-kept depth (stays h) e c a k = absurd h
bracket-kept {text} {out} {out'} {opens} {starts} {lens} {heads} {nexts} {b} depth (closes {cs} {q} {u} {d} f) e c a k =
    let z : depth - 1 ≡ levels (put q u (terms_of d none)) = omega (arith, e, put-levels q u (terms_of d none)) in
    record {
      built =
          subst (Built text out' opens starts lens heads nexts b (tables_of cs) (put q u (terms_of d none))) z
          (a.builds text starts lens heads nexts (tables_of cs) q u d (subst (Built text out opens starts lens heads nexts b (tables_of cs) (inside q u d)) (inv e) k.built) c.count f);
      start = k.start;
      behind = k.behind;
      done = a.kept k.start (omega (arith, k.behind)) ∙ k.done;
    }

module _ {text : List ℕ} {at depth n v : ℕ} {found : Found} {s s' : State} (x : Step text at depth n v found s s') (e : found ≡ F.Closing) where
  closing-effect : Effect closing s s'
  closing-effect = effect s s' closing at x.settled (step-piece F.Closing (token closing) (drop (at + 1) text) x e refl)

  pub closing-nested : {out opens starts lens heads nexts : List ℕ} {b : Draft} → Kept text out opens starts lens heads nexts b s → Nested out opens b depth 256
  closing-nested k = bracket-nested depth closing-effect x.depth_is x.small k

  pub closing-sofar : {out out' opens starts lens heads nexts : List ℕ} {b : Draft} → Closed out out' opens b depth → Kept text out opens starts lens heads nexts b s → Sofar text out' opens starts lens heads nexts b s'
  closing-sofar a k = kept-sofar (bracket-kept depth closing-effect x.depth_is x.small a k)

-- a piece that adds nothing
pub other-stays : {text out opens starts lens heads nexts : List ℕ} {b : Draft} {at depth n v : ℕ} {s s' : State} (found : Found) → ((end : ℕ) → found ≡ F.Variable end → ⊥) → (found ≡ F.Closing → ⊥) → (found ≡ F.Stop → ⊥) →
    Kept text out opens starts lens heads nexts b s → Step text at depth n v found s s' → Sofar text out opens starts lens heads nexts b s'
other-stays (F.Name end) q r t k x = token-stays _ _ _ k x refl refl tt
other-stays (F.Variable end) q r t k x = absurd (q end refl)
other-stays F.Space q r t k x = gap_stays _ _ _ k x refl refl refl
other-stays (F.Comment end) q r t k x = gap_stays _ _ _ k x refl refl refl
other-stays F.Opening q r t k x = opening_never x refl
other-stays F.Closing q r t k x = absurd (r refl)
other-stays F.Comma q r t k x = token-stays _ _ _ k x refl refl tt
other-stays F.Arrow q r t k x = token-stays _ _ _ k x refl refl tt
other-stays F.Stop q r t k x = absurd (t refl)
other-stays F.HalfArrow q r t k x = broken_never _ arrow x refl refl
other-stays F.HalfStop q r t k x = broken_never _ stop x refl refl
other-stays F.Nothing q r t k x = nothing_never x refl
