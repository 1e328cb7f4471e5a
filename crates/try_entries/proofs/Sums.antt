-- The sum over an area, byte by byte.
use Rattle.std.proofs.Common.{◌≡◌, ℕ, suc, ◌+◌, ◌<◌, ◌≤◌, List, length, get_or, drop, sym as inv, refl, ap, ◌∙◌, arith, drop-cons}
use Rattle.std.proofs.Math.Seq.{drop-length}
use Rattle.try_entries.specs.Sum.{added, summed_from, summed}

pub record Summing (bytes : List ℕ) (i sum : ℕ) : Type 0 where
  pub inside : i ≤ length bytes
  pub small : sum < 2147483648
  pub rest : summed_from sum (drop i bytes) ≡ summed bytes

module _ (bytes : List ℕ) where
  pub summing_start : Summing bytes 0 1
  summing_start = record { inside = omega arith; small = omega arith; rest = refl }

  pub summing-step : (i sum next : ℕ) → Summing bytes i sum → i < length bytes → next ≡ added sum (get_or bytes i 0) → next < 2147483648 → Summing bytes (i + 1) next
  summing-step i sum next g l e s =
      record {
        inside = omega arith;
        small = s;
        rest =
            ap (λ (n : ℕ). summed_from n (drop (i + 1) bytes)) e
            ∙ ap (λ (k : ℕ). summed_from (added sum (get_or bytes i 0)) (drop k bytes)) (let q : i + 1 ≡ suc i = omega arith in q)
            ∙ inv (ap (summed_from sum) (drop-cons bytes i 0 l))
            ∙ g.rest;
      }

  pub summing-end : (i sum : ℕ) → Summing bytes i sum → length bytes ≤ i → sum ≡ summed bytes
  summing-end i sum g l =
      let q : i ≡ length bytes = omega (arith, g.inside) in
      inv (ap (summed_from sum) (ap (λ (k : ℕ). drop k bytes) q ∙ drop-length bytes)) ∙ g.rest
