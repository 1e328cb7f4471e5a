-- Bytes copied to an area's front, and sizes summed up.
use Prim.Native.Nat.{ℕ, suc, ◌+◌, ◌-◌, ◌*◌, ◌≤◌, ◌<◌}
use mathlib.Core.Path.{◌≡◌, refl, ap, ap₂, ◌∙◌, subst}
use mathlib.Core.List.{List, [], ◌∷◌}
use native.Mathlib.Omega.{arith}
use lib.ListN.{length, get_or, set, take, drop, length-drop}
use lib.Seq.{length-take-le, drop-cons}
use Rattle.std.specs.List.{sum_by}
use Rattle.std.proofs.lemmas.List.Sums.{sum_by-cons}
use Rattle.nametable.specs.Table.{word}
use Rattle.storage.specs.Storage.{Written}
use Rattle.storage.proofs.Filling.{Filling, filling-start, filling-length, filling-done, filling-next}
use Rattle.listing.specs.Lists.{sizes}

-- Bytes

pub word-long : (s : List ℕ) (start len : ℕ) → start + len ≤ length s → length (word s start len) ≡ len
word-long s start len h = length-take-le len (drop start s) (omega (arith, length-drop start s))

pub record Copying (area₀ area s : List ℕ) (start len i : ℕ) : Type 0 where
  pub below : i ≤ len
  pub fill : Filling (word s start len) area₀ area i (word s (start + i) (len - i))

module _ (area₀ s : List ℕ) (start len : ℕ) (inside : start + len ≤ length s) where
  pub copying-start : len ≤ length area₀ → Copying area₀ area₀ s start len 0
  copying-start h =
      record {
        below = omega arith;
        fill =
            subst (Filling (word s start len) area₀ area₀ 0)
            (ap₂ (word s) (let p : start ≡ start + 0 = omega arith in p) (let q : len ≡ len - 0 = omega arith in q))
            (filling-start (omega (arith, word-long s start len inside)));
      }

  word_first : (i : ℕ) → i < len → word s (start + i) (len - i) ≡ get_or s (start + i) 0 ∷ word s (start + (i + 1)) (len - (i + 1))
  word_first i l =
      ap₂ take (let p : len - i ≡ suc (len - (i + 1)) = omega arith in p) (drop-cons s (start + i) 0 (omega arith))
      ∙ ap (λ (k : ℕ). get_or s (start + i) 0 ∷ word s k (len - (i + 1))) (let q : suc (start + i) ≡ start + (i + 1) = omega arith in q)

  pub copying-step : (area : List ℕ) (i : ℕ) → Copying area₀ area s start len i → i < len → Copying area₀ (set area i (get_or s (start + i) 0)) s start len (i + 1)
  copying-step area i g l = record { below = omega arith; fill = filling-next (subst (Filling (word s start len) area₀ area i) (word_first i l) g.fill) }

  pub copying-length : (area : List ℕ) (i : ℕ) → Copying area₀ area s start len i → length area ≡ length area₀
  copying-length area i g = filling-length g.fill

  pub copying-end : (area : List ℕ) (i : ℕ) → Copying area₀ area s start len i → len ≤ i → Written (word s start len) area₀ area len
  copying-end area i g h =
      let z : len - i ≡ 0 = omega arith in
      let w = filling-done (subst (Filling (word s start len) area₀ area i) (ap (word s (start + i)) z) g.fill) in
      subst (Written (word s start len) area₀ area) (let q : i ≡ len = omega (arith, g.below) in q) w

-- Sizes

pub sizes-sum : (lens : List ℕ) → sum_by (λ (n : ℕ). 4 + n) lens ≡ sizes lens
sizes-sum [] = refl
sizes-sum (n ∷ lens) = sum_by-cons (λ (m : ℕ). 4 + m) n lens ∙ ap (λ (x : ℕ). 4 + n + x) (sizes-sum lens)

pub sizes-few : (lens : List ℕ) → ((k : ℕ) → get_or lens k 0 < 256) → sizes lens ≤ 259 * length lens
sizes-few [] h = omega arith
sizes-few (n ∷ lens) h = omega (arith, h 0, sizes-few lens (λ k. h (suc k)))

pub ruleset copying = (copying-start, copying-step, copying-length, copying-end)
