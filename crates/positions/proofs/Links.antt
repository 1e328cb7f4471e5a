-- Laws of a link: the root b points to the root a, which is smaller.
use Prim.Native.Nat.{ℕ, zero, suc, ◌+◌, ◌≤◌, ◌<◌}
use native.Mathlib.Omega.{arith}
use native.Mathlib.Decide.{ℕ_discrete}
use native.Mathlib.Nat.{add-zero}
use mathlib.Core.Path.{◌≡◌, refl, sym, ap, ◌∙◌}
use mathlib.Core.Bool.{Bool, true, false}
use mathlib.Core.List.{List, [], ◌∷◌}
use lib.ListN.{length, get_or, set, length-set}
use lib.Seq.{get_or-set_same, get_or-set_other}
use borrow.Author.Tests.{eq-eqb, ne_eqb}
use Rattle.positions.specs.Classes.{root, Down, Agree, Label}
use Rattle.positions.specs.Steps.{tally, own, one_if, roots}
use Rattle.positions.specs.RootLaws.{root_self, root-step, upward}

pub tally-set : (t : ℕ → ℕ → ℕ) (l : List ℕ) (i j v : ℕ) → j < length l → tally t i (set l j v) + t (i + j) (get_or l j 0) ≡ tally t i l + t (i + j) v
tally-set t [] i j v h = absurd (omega arith)
tally-set t (u ∷ l) i zero v h = rw (add-zero i) (omega arith)
tally-set t (u ∷ l) i (suc j) v h =
    let e : i + suc j ≡ suc i + j = omega arith in
    rw e (omega (arith, tally-set t l (suc i) j v (omega arith)))

-- where each counts one at most
pub tally_le : (t : ℕ → ℕ → ℕ) → ((i u : ℕ) → t i u ≤ 1) → (i : ℕ) (l : List ℕ) → tally t i l ≤ length l
tally_le t h i [] = omega arith
tally_le t h i (u ∷ l) = omega (arith, tally_le t h (suc i) l, h i u)

pub one_le : (b : Bool) → one_if b ≤ 1
one_le true = omega arith
one_le false = omega arith

own_same : (i : ℕ) → own i i ≡ 1
own_same i = ap one_if (eq-eqb i i refl)

pub own-other : (i u : ℕ) → (u ≡ i → ⊥) → own i u ≡ 0
own-other i u n = ap one_if (ne_eqb u i n)

pub roots-set : (up : List ℕ) (b a : ℕ) → b < length up → get_or up b 0 ≡ b → (a ≡ b → ⊥) → roots (set up b a) + 1 ≡ roots up
roots-set up b a h e n =
    let z : 0 + b ≡ b = omega arith in
    let x : tally own 0 (set up b a) + own b b ≡ tally own 0 up + own b a = rw (z, e) at (tally-set own up 0 b a h) in
    omega (arith, x, own_same b, own-other b a n)

module _ (up : List ℕ) (down : Down up) (a b : ℕ) (less : a < b) (inn : b < length up) (ra : get_or up a 0 ≡ a) (rb : get_or up b 0 ≡ b) where
  pub down-set : Down (set up b a)
  down-set p = elim (ℕ_discrete p b) [
    | yes e ↦ let x : get_or (set up b a) p 0 ≡ a = rw e (get_or-set_same up b a 0 inn) in omega arith
    | no n ↦ let x : get_or (set up b a) p 0 ≡ get_or up p 0 = get_or-set_other up b p a 0 n in omega (arith, down p)
  ]

  self_set : (r : ℕ) → (r ≡ b → ⊥) → get_or up r 0 ≡ r → root (set up b a) r ≡ r
  self_set r n e = root_self (set up b a) down-set r (get_or-set_other up b r a 0 n ∙ e)

  root-b : root (set up b a) b ≡ a
  root-b = root-step (set up b a) down-set b ∙ rw (get_or-set_same up b a 0 inn) (self_set a (λ e. omega arith) ra)

  pub moved : (p : ℕ) → root up p ≡ b → root (set up b a) p ≡ a
  moved = upward up down (λ p. root up p ≡ b → root (set up b a) p ≡ a)
      (λ r e h. let x : r ≡ b = sym (root_self up down r e) ∙ h in rw x root-b)
      (λ p l ih h. elim (ℕ_discrete p b) [
        | yes e ↦ rw e root-b
        | no n ↦ root-step (set up b a) down-set p ∙ rw (get_or-set_other up b p a 0 n) (ih (sym (root-step up down p) ∙ h))
      ])

  pub kept : (p : ℕ) → (root up p ≡ b → ⊥) → root (set up b a) p ≡ root up p
  kept = upward up down (λ p. (root up p ≡ b → ⊥) → root (set up b a) p ≡ root up p)
      (λ r e h. rw (root_self up down r e) (self_set r (λ x. h (root_self up down r e ∙ x)) e))
      (λ p l ih h. elim (ℕ_discrete p b) [
        | yes e ↦ absurd (h (rw e (root_self up down b rb)))
        | no n ↦ root-step (set up b a) down-set p ∙ rw (get_or-set_other up b p a 0 n) (ih (λ x. h (root-step up down p ∙ x)) ∙ sym (root-step up down p))
      ])

  pub agree-set : (f : Label) → Agree f up → f a ≡ f b → Agree f (set up b a)
  agree-set f g e p h = elim (ℕ_discrete (root up p) b) [
    | yes y ↦ rw (moved p y) (g p (rw length-set at h) ∙ ap f y ∙ sym e)
    | no n ↦ rw (kept p n) (g p (rw length-set at h))
  ]

  pub agree-meets : (f : Label) → Agree f (set up b a) → f a ≡ f b
  agree-meets f g = ap f (sym root-b) ∙ sym (g b (rw length-set inn))

  pub agree_keeps : (f : Label) → Agree f (set up b a) → Agree f up
  agree_keeps f g p h = elim (ℕ_discrete (root up p) b) [
    | yes y ↦ g p (rw length-set h) ∙ ap f (moved p y) ∙ agree-meets f g ∙ ap f (sym y)
    | no n ↦ g p (rw length-set h) ∙ ap f (kept p n)
  ]
