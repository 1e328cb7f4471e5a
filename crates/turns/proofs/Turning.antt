-- What a piece leads to, in numbers, is what the few modes make of it.
use Prim.Native.Nat.{ℕ, zero, suc, ◌-◌, ◌≤◌, ◌<◌}
use mathlib.Core.Path.{◌≡◌, refl, sym as inv, ap, ap₂}
use mathlib.Core.Bool.{Bool, true, false, true≢false}
use mathlib.Core.List.{List, [], ◌∷◌}
use native.Mathlib.Omega.{arith}
use lib.ListN.{length, get_or, set}
use lib.Seq.{get_or-set_same, get_or-set_other}
use lib.Dec.{leb, ltb}
use borrow.Author.Tests.{ne_eqb, ltb-true, lt-ltb}
use Rattle.terms.specs.When.{◌⇒◌∣◌}
use Rattle.pieces.specs.declared.Found.{Found}
use Rattle.asking.specs.Asking.{full, code}
use Rattle.halfway.specs.declared.Mode.{Mode}
use Rattle.halfway.specs.declared.Mode.TheVariants.{Begin, Expects, Named, Complete, Over, Wrong}
use Rattle.halfway.specs.declared.Stage.{Stage}
use Rattle.halfway.specs.Machine.{deep, when, behind}
use Rattle.halfway.specs.Stage.{is_wrong, full_at, code_at, next, stack, tally_of, Low, Ready, Advances, Roomy, Held}

-- The counts of the open brackets

pub deep-stack : (counts : List ℕ) (d : ℕ) → deep (stack counts d) ≡ ltb 0 d
deep-stack counts zero = refl
deep-stack counts (suc d) = inv (lt-ltb 0 (suc d) (omega arith))

pub full-stack : (counts : List ℕ) (d a : ℕ) → full_at counts d a ≡ full a (stack counts d)
full-stack counts zero a = refl
full-stack counts (suc d) a = rw (ne_eqb (suc d) 0 (λ (q : suc d ≡ 0). omega arith)) (ap (λ (i : ℕ). leb 8 (get_or counts i 0)) (let q : suc d - 1 ≡ d = omega arith in q))

pub code-stack : (counts : List ℕ) (c : Stage) → code_at counts c ≡ code (tally_of counts c)
code-stack counts c = ap (λ (z : Bool). z ⇒ 14 ∣ leb 4096 c.words ⇒ 15 ∣ 0) (full-stack counts c.depth c.outside)

pub stack_set : (counts : List ℕ) (d i v : ℕ) → d ≤ i → stack (set counts i v) d ≡ stack counts d
stack_set counts zero i v h = refl
stack_set counts (suc d) i v h = ap₂ ◌∷◌ (get_or-set_other counts i d v 0 (λ (q : d ≡ i). omega arith)) (stack_set counts d i v (omega arith))

pub stack_top : (counts : List ℕ) (d v : ℕ) → d < length counts → stack (set counts d v) (suc d) ≡ v ∷ stack counts d
stack_top counts d v h = ap₂ ◌∷◌ (get_or-set_same counts d v 0 h) (stack_set counts d d v (omega arith))

-- Room

pub low-more : (n m : ℕ) (bs : List ℕ) → n ≤ m → Low n bs → Low m bs
low-more n m [] h l = tt
low-more n m (b ∷ bs) h l = (omega (arith, l.0), low-more n m bs h l.1)

pub roomy-depth : (m : Mode) (d n : ℕ) → Roomy m d n → d ≤ n
roomy-depth Begin d n h = h
roomy-depth Expects d n h = h
roomy-depth Named d n h = omega arith
roomy-depth Complete d n h = h
roomy-depth Over d n h = h
roomy-depth Wrong d n h = h

top-low : (counts : List ℕ) (d at : ℕ) → Low at (stack counts d) → (d ≡ 0 → ⊥) → get_or counts (d - 1) 0 < at
top-low counts zero at l n = absurd (n refl)
top-low counts (suc d) at l n = rw (let q : suc d - 1 ≡ d = omega arith in q) l.0

pub ready : {counts : List ℕ} {c : Stage} {at : ℕ} → Held counts c at → at < 65536 → Ready counts c
ready {counts} {c} {at} h l =
    record {
      depth = omega (arith, h.long, h.few, roomy-depth c.mode c.depth c.words h.roomy);
      few = omega (arith, h.long);
      outside = omega (arith, h.outside);
      top = λ n. omega (arith, top-low counts c.depth at h.low n);
    }

closing-deep : (m : Mode) (b : Bool) → is_wrong (behind m (when b Complete)) ≡ false → b ≡ true
closing-deep m true e = refl
closing-deep Begin false e = absurd (true≢false e)
closing-deep Expects false e = absurd (true≢false e)
closing-deep Named false e = absurd (true≢false e)
closing-deep Complete false e = absurd (true≢false e)
closing-deep Over false e = absurd (true≢false e)
closing-deep Wrong false e = absurd (true≢false e)

pub advances : {counts : List ℕ} {c : Stage} {at : ℕ} (found : Found) → Held counts c at → at < 65536 → is_wrong (next c found) ≡ false → Advances counts c found
advances {c = c} found h l e =
    record {
      ready = ready h l;
      words = omega (arith, h.few);
      closes = λ q. ltb-true 0 c.depth (closing-deep c.mode (ltb 0 c.depth) (rw q at e));
    }
