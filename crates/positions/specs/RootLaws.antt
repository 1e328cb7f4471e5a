-- Laws of `root`.
use Prim.Native.Nat.{ℕ, zero, suc, ◌≤◌, ◌<◌}
use Rattle.std.proofs.Common.{arith, ◌∙◌}
use Rattle.std.proofs.Math.Decide.{ℕ_discrete}
use Rattle.std.specs.Prelude.{◌≡◌, refl, List}
use Rattle.std.proofs.Math.Path.{sym}
use Rattle.std.proofs.Math.ListN.{get_or}
use Rattle.positions.specs.Classes.{climb, root, Down}

-- strong induction
pub strong {ℓ} : (P : ℕ → Type ℓ) → ((n : ℕ) → ((m : ℕ) → m < n → P m) → P n) → (n : ℕ) → P n
strong P h n = below (suc n) n (omega arith)
  where
    below : (k m : ℕ) → m < k → P m
    below zero m q = absurd (omega arith)
    below (suc k) m q = h m (λ j r. below k j (omega arith))

module _ (up : List ℕ) (down : Down up) where
  climb-root : (k r : ℕ) → get_or up r 0 ≡ r → climb k up r ≡ r
  climb-root zero r e = refl
  climb-root (suc k) r e = rw e (climb-root k r e)

  stable : (j k q : ℕ) → q ≤ j → q ≤ k → climb j up q ≡ climb k up q
  stable zero k q h i = sym (climb-root k q (omega (arith, down q)))
  stable (suc j) zero q h i = climb-root (suc j) q (omega (arith, down q))
  stable (suc j) (suc k) q h i = elim (ℕ_discrete (get_or up q 0) q) [
    | yes e ↦ rw e (climb-root j q e ∙ sym (climb-root k q e))
    | no n ↦ stable j k (get_or up q 0) (omega (arith, down q)) (omega (arith, down q))
  ]

  pub root_self : (r : ℕ) → get_or up r 0 ≡ r → root up r ≡ r
  unfolding root
  root_self r e = climb-root r r e

  pub root-step : (p : ℕ) → root up p ≡ root up (get_or up p 0)
  unfolding root
  root-step zero = let e : get_or up 0 0 ≡ 0 = omega (arith, down 0) in rw e
  root-step (suc p) = elim (ℕ_discrete (get_or up (suc p) 0) (suc p)) [
    | yes e ↦ rw e (climb-root p (suc p) e ∙ sym (climb-root (suc p) (suc p) e))
    | no n ↦ stable p (get_or up (suc p) 0) (get_or up (suc p) 0) (omega (arith, down (suc p))) (omega arith)
  ]

  -- to show a thing of p: at a root, and from what p points to
  pub upward {ℓ} : (P : ℕ → Type ℓ) → ((r : ℕ) → get_or up r 0 ≡ r → P r) → ((p : ℕ) → get_or up p 0 < p → P (get_or up p 0) → P p) → (p : ℕ) → P p
  upward P base more = strong P (λ p ih. elim (ℕ_discrete (get_or up p 0) p) [
    | yes e ↦ base p e
    | no n ↦ let l : get_or up p 0 < p = omega (arith, down p) in more p l (ih (get_or up p 0) l)
  ])

  pub root_fix : (p : ℕ) → get_or up (root up p) 0 ≡ root up p
  root_fix = upward (λ p. get_or up (root up p) 0 ≡ root up p) (λ r e. rw (root_self r e) e) (λ p l ih. rw (root-step p) ih)

  pub root_le : (p : ℕ) → root up p ≤ p
  root_le = upward (λ p. root up p ≤ p) (λ r e. rw (root_self r e) (omega arith)) (λ p l ih. rw (root-step p) (omega arith))

  pub root-root : (p : ℕ) → root up (root up p) ≡ root up p
  root-root p = root_self (root up p) (root_fix p)
