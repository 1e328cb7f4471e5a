-- Bytes written one behind the other.
use Prim.Native.Nat.{ℕ, zero, suc, ◌+◌, ◌≤◌, ◌<◌}
use mathlib.Core.Path.{◌≡◌, refl, sym as inv, ap, subst, ◌∙◌}
use mathlib.Core.List.{List, [], ◌∷◌, ◌++◌, append_assoc, append-nil}
use native.Mathlib.Omega.{arith}
use lib.ListN.{length, set, take, drop, length-append, length-set}
use lib.Seq.{take-set-le}
use Rattle.symbols.specs.Sections.{part}
use Rattle.drafts.specs.Writing.{Wrote}

take_push : (m : ℕ) (l : List ℕ) (x : ℕ) → m < length l → take (suc m) (set l m x) ≡ take m l ++ (x ∷ [])
take_push m [] x h = absurd (omega arith)
take_push zero (y ∷ l) x h = refl
take_push (suc m) (y ∷ l) x h = ap (λ (t : List ℕ). y ∷ t) (take_push m l x (omega arith))

part_push : (from m j : ℕ) (l : List ℕ) (x : ℕ) → from + m ≡ j → j < length l → take (suc m) (drop from (set l j x)) ≡ take m (drop from l) ++ (x ∷ [])
part_push zero m j l x e h = let q : m ≡ j = omega (arith, e) in subst (λ (i : ℕ). take (suc m) (set l i x) ≡ take m l ++ (x ∷ [])) q (take_push m l x (omega (arith, e, h)))
part_push (suc from) m j [] x e h = absurd (omega arith)
part_push (suc from) m zero (y ∷ l) x e h = absurd (omega arith)
part_push (suc from) m (suc j) (y ∷ l) x e h = part_push from m j l x (omega (arith, e)) (omega arith)

none : (out : List ℕ) (at : ℕ) → Wrote out out at []
none out at =
    record {
      pushed = λ from len e. let q : len + 0 ≡ len = omega arith in ap (λ (n : ℕ). part from n out) q ∙ inv (append-nil (part from len out));
      kept = λ n l. refl;
      same = refl;
    }

pub more : (out out₁ : List ℕ) (at j : ℕ) (bs : List ℕ) (x : ℕ) → j ≡ at + length bs → j < length out → Wrote out out₁ at bs → Wrote out (set out₁ j x) at (bs ++ (x ∷ []))
more out out₁ at j bs x p l w =
    record {
      pushed =
          λ from len e.
          let q : len + length (bs ++ (x ∷ [])) ≡ suc (len + length bs) = omega (arith, length-append bs (x ∷ [])) in
          ap (λ (n : ℕ). part from n (set out₁ j x)) q
          ∙ part_push from (len + length bs) j out₁ x (omega (arith, e, p)) (omega (arith, l, w.same))
          ∙ ap (λ (t : List ℕ). t ++ (x ∷ [])) (w.pushed from len e)
          ∙ append_assoc (part from len out) bs (x ∷ []);
      kept = λ n h. take-set-le n out₁ j x (omega (arith, h, p)) ∙ w.kept n h;
      same = length-set out₁ j x ∙ w.same;
    }

pub three : (out : List ℕ) (at a b c : ℕ) → at + 3 ≤ length out → Wrote out (set (set (set out at a) (at + 1) b) (at + 2) c) at (a ∷ b ∷ c ∷ [])
three out at a b c l =
    more out (set (set out at a) (at + 1) b) at (at + 2) (a ∷ b ∷ []) c (omega arith) (omega (arith, l))
    (more out (set out at a) at (at + 1) (a ∷ []) b (omega arith) (omega (arith, l)) (more out out at at [] a (omega arith) (omega (arith, l)) (none out at)))

pub fourth : (out out₁ : List ℕ) (at a b c d : ℕ) → at + 4 ≤ length out → Wrote out out₁ at (a ∷ b ∷ c ∷ []) → Wrote out (set out₁ (at + 3) d) at (a ∷ b ∷ c ∷ d ∷ [])
fourth out out₁ at a b c d l w = more out out₁ at (at + 3) (a ∷ b ∷ c ∷ []) d (omega arith) (omega (arith, l)) w
