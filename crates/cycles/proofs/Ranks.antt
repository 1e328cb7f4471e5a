-- Laws of ranks.
use Prim.Native.Nat.{ℕ, ◌+◌, ◌≤◌, ◌<◌}
use native.Mathlib.Omega.{arith}
use native.Mathlib.Decide.{ℕ_discrete}
use mathlib.Core.Path.{◌≡◌, ap, ◌∙◌}
use mathlib.Core.List.{List}
use lib.ListN.{length, get_or, set, length-set}
use lib.Seq.{get_or-set_same, get_or-set_other}
use lib.Dec.{eqb}
use borrow.Author.Tests.{eq-eqb, ne_eqb}
use Rattle.words.specs.Word.{arity_of}
use Rattle.positions.specs.Words.{child}
use Rattle.positions.specs.Classes.{root}
use Rattle.positions.specs.Steps.{tally, one_if}
use Rattle.positions.specs.Ranking.{under, blank, Ranked}
use Rattle.positions.proofs.Links.{tally-set, tally_le, one_le}

pub blank_le : (l : List ℕ) → tally blank 0 l ≤ length l
blank_le l = tally_le blank (λ i u. one_le (eqb u 0)) 0 l

module _ (w e up pick rank : List ℕ) (s r : ℕ) (k : Ranked w e up pick rank s) (inn : r < length w) (zero-r : get_or rank r 0 ≡ 0)
    (can : (i : ℕ) → i < arity_of (get_or w (get_or pick r 0) 0) → 0 < under e up rank (get_or pick r 0) i) where
  other : (q : ℕ) → 0 < get_or rank q 0 → get_or (set rank r s) q 0 ≡ get_or rank q 0
  other q h = get_or-set_other rank r q s 0 (λ z. omega (arith, h, zero-r, ap (λ t. get_or rank t 0) z))

  here : get_or (set rank r s) r 0 ≡ s
  here = get_or-set_same rank r s 0 (omega (arith, k.rank_length))

  fewer : tally blank 0 (set rank r s) + 1 ≡ tally blank 0 rank
  fewer =
      let x : tally blank 0 (set rank r s) + one_if (eqb (get_or rank r 0) 0) ≡ tally blank 0 rank + one_if (eqb s 0) = tally-set blank rank 0 r s (omega (arith, k.rank_length)) in
      omega (arith, x, ap one_if (eq-eqb (get_or rank r 0) 0 zero-r), ap one_if (ne_eqb s 0 (λ y. omega (arith, y, k.positive))))

  pub room : s ≤ length w
  room = omega (arith, fewer, k.count)

  pub marked : Ranked w e up pick (set rank r s) (s + 1)
  marked = record {
    rank_length = length-set rank r s ∙ k.rank_length;
    positive = omega arith;
    count = omega (arith, fewer, k.count);
    below = λ q. elim (ℕ_discrete q r) [
      | yes y ↦ rw (y, here) (omega arith)
      | no n ↦ rw (get_or-set_other rank r q s 0 n) (omega (arith, k.below q))
    ];
    above = λ q i h p l. elim (ℕ_discrete q r) [
      | yes y ↦ let l' : i < arity_of (get_or w (get_or pick r 0) 0) = rw y at l in
          rw (y, here, other (root up (child e (get_or pick r 0) i)) (can i l')) (can i l', k.below (root up (child e (get_or pick r 0) i)))
      | no n ↦
          let e1 : get_or (set rank r s) q 0 ≡ get_or rank q 0 = get_or-set_other rank r q s 0 n in
          let p' : 0 < get_or rank q 0 = rw e1 at p in
          let a = k.above q i h p' l in
          rw (e1, other (root up (child e (get_or pick q 0) i)) a.0) a
    ];
  }

pub unranked : (w e up pick rank : List ℕ) → length rank ≡ length w → ((r : ℕ) → get_or rank r 0 ≡ 0) → Ranked w e up pick rank 1
unranked w e up pick rank l z = record {
  rank_length = l;
  positive = omega arith;
  count = omega (arith, blank_le rank);
  below = λ r. omega (arith, z r);
  above = λ r i h p q. absurd (omega (arith, p, z r));
}
