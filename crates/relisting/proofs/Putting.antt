-- Own names one behind the other.
use Prim.Native.Nat.{ℕ, zero, suc, ◌+◌, ◌-◌, ◌*◌, ◌/◌, ◌%◌, ◌≤◌, ◌<◌}
use mathlib.Core.Path.{◌≡◌, refl, sym as inv, ap, ap₂, ◌∙◌, subst}
use mathlib.Core.List.{List, [], ◌∷◌, ◌++◌}
use native.Mathlib.Omega.{arith}
use lib.ListN.{length, get_or, take, drop, length-drop, length-append}
use lib.Seq.{length-take-le, drop-cons}
use borrow.Rule.Slice.PartMut.{put_mid}
use Rattle.nametable.specs.Table.{word}
use Rattle.stages.proofs.Kept.{word-long}
use Rattle.storage.specs.Storage.{Written}
use Rattle.storage.proofs.Filling.{Filling, filling-start, filling-left, filling-length, filling-done, filling-part}
use Rattle.listing.specs.Lists.{noted}
use Rattle.relisting.specs.Relisted.{Owns, Puts}

-- the names from the i-th on
noted-next : (a n i : ℕ) (names : List (List ℕ)) → i < length names →
    noted a n (drop i names) ≡ (a ∷ n / 256 ∷ n % 256 ∷ length (get_or names i []) ∷ get_or names i []) ++ noted a (suc n) (drop (suc i) names)
noted-next a n i names h = ap (noted a n) (drop-cons names i [] h)

noted-none : (a n i : ℕ) (names : List (List ℕ)) → length names ≤ i → noted a n (drop i names) ≡ []
noted-none a n zero [] h = refl
noted-none a n (suc i) [] h = refl
noted-none a n zero (w ∷ l) h = absurd (omega arith)
noted-none a n (suc i) (w ∷ l) h = noted-none a n i l (omega arith)

-- How many bytes

module _ (table : List ℕ) (from count : ℕ) where
  pub record Measuring (sum i : ℕ) : Type 0 where
    pub below : i ≤ count
    pub low : sum ≤ 65540 * i
    pub is : (text : List ℕ) (names : List (List ℕ)) (a first : ℕ) → Owns text table from names count → sum + length (noted a (first + i) (drop i names)) ≡ length (noted a first names)

  pub measuring-start : Measuring 0 0
  measuring-start = record { below = omega arith; low = omega arith; is = λ text names a first o. ap (λ (n : ℕ). 0 + length (noted a n names)) (let z : first + 0 ≡ first = omega arith in z) ∙ omega arith }

  name-length : (text : List ℕ) (names : List (List ℕ)) (i : ℕ) → Owns text table from names count → i < count → length (get_or names i []) ≡ get_or table (16384 + (from + i)) 0 + 1
  name-length text names i o l = ap length (inv (o.words.spelt i l)) ∙ word-long text (get_or table (from + i) 0) (get_or table (16384 + (from + i)) 0 + 1) (o.words.inside i l)

  pub measuring-step : (sum i m : ℕ) → Measuring sum i → i < count → m ≡ get_or table (16384 + (from + i)) 0 → m < 65536 → Measuring (sum + (5 + m)) (i + 1)
  measuring-step sum i m g l e lo =
      record {
        below = omega arith;
        low = omega (arith, g.low);
        is =
            λ text names a first o.
            let x = g.is text names a first o in
            let y = ap length (noted-next a (first + i) i names (omega (arith, o.words.count, l))) in
            let z = length-append (get_or names i []) (noted a (suc (first + i)) (drop (suc i) names)) in
            let q = name-length text names i o l in
            let p = ap₂ (λ (n j : ℕ). length (noted a n (drop j names))) (let z : suc (first + i) ≡ first + (i + 1) = omega arith in z) (let z : suc i ≡ i + 1 = omega arith in z) in
            omega (arith, x, y, z, q, p, e);
      }

  pub measuring-end : (sum i : ℕ) → Measuring sum i → count ≤ i → (text : List ℕ) (names : List (List ℕ)) (a first : ℕ) → Owns text table from names count → sum ≡ length (noted a first names)
  measuring-end sum i g l text names a first o = omega (arith, g.is text names a first o, ap length (noted-none a (first + i) i names (omega (arith, o.words.count, l))))

  pub measuring-low : (sum i : ℕ) → Measuring sum i → sum ≤ 65540 * count
  measuring-low sum i g = omega (arith, g.low, g.below)

pub ruleset measuring = (measuring-start, measuring-step, measuring-end, measuring-low)

-- Writing

module _ (area₀ text table : List ℕ) (from count a first : ℕ) where
  pub record Putting (area : List ℕ) (at i : ℕ) : Type 0 where
    pub puts : Puts area₀ text table from count a first
    pub below : i ≤ count
    pub fill : Filling (noted a first puts.names) area₀ area at (noted a (first + i) (drop i puts.names))

  pub putting-start : Puts area₀ text table from count a first → Putting area₀ 0 0
  putting-start p =
      record {
        puts = p;
        below = omega arith;
        fill = subst (Filling (noted a first p.names) area₀ area₀ 0) (ap (λ (n : ℕ). noted a n p.names) (let z : first ≡ first + 0 = omega arith in z)) (filling-start p.room);
      }

  module _ {area : List ℕ} {at i : ℕ} (g : Putting area at i) where
    pub putting-length : length area ≡ length area₀
    putting-length = filling-length g.fill

    pub putting-inside : at ≤ length area
    putting-inside = omega (arith, filling-left g.fill, filling-length g.fill, g.fill.room)

    module _ (l : i < count) (s m : ℕ) (es : s ≡ get_or table (from + i) 0) (em : m ≡ get_or table (16384 + (from + i)) 0) where
      pub entry-inside : s + (m + 1) ≤ length text
      entry-inside = omega (arith, g.puts.owns.words.inside i l, es, em)

      pub entry-short : m + 1 < 256
      entry-short = omega (arith, g.puts.owns.short i l, em)

      pub entry-number : first + i < 65536
      entry-number = omega (arith, g.puts.numbers, l)

      name_is : get_or g.puts.names i [] ≡ word text s (m + 1)
      name_is = inv (g.puts.owns.words.spelt i l) ∙ ap₂ (λ (x y : ℕ). word text x (y + 1)) (inv es) (inv em)

      next-fill : Filling (noted a first g.puts.names) area₀ area at ((a ∷ (first + i) / 256 ∷ (first + i) % 256 ∷ (m + 1) ∷ word text s (m + 1)) ++ noted a (first + (i + 1)) (drop (i + 1) g.puts.names))
      next-fill =
          subst (Filling (noted a first g.puts.names) area₀ area at)
          (noted-next a (first + i) i g.puts.names (omega (arith, g.puts.owns.words.count, l))
          ∙ ap₂ (λ (n : ℕ) (w : List ℕ). (a ∷ (first + i) / 256 ∷ (first + i) % 256 ∷ n ∷ w) ++ noted a (suc (first + i)) (drop (suc i) g.puts.names)) (ap length name_is ∙ word-long text s (m + 1) entry-inside) name_is
          ∙ ap₂ (λ (n j : ℕ). (a ∷ (first + i) / 256 ∷ (first + i) % 256 ∷ (m + 1) ∷ word text s (m + 1)) ++ noted a n (drop j g.puts.names)) (let z : suc (first + i) ≡ first + (i + 1) = omega arith in z) (let z : suc i ≡ i + 1 = omega arith in z))
          g.fill

      pub entry-room : m + 1 + 4 ≤ length (take (length area - at) (drop at area))
      entry-room =
          let rest = noted a (first + (i + 1)) (drop (i + 1) g.puts.names) in
          omega (arith, length-take-le (length area - at) (drop at area) (omega (arith, length-drop at area)), filling-left next-fill, filling-length g.fill, g.fill.room, length-append (word text s (m + 1)) rest, word-long text s (m + 1) entry-inside)

      pub entry-counted : (part : List ℕ) (r : ℕ) → Written (a ∷ (first + i) / 256 ∷ (first + i) % 256 ∷ (m + 1) ∷ word text s (m + 1)) (take (length area - at) (drop at area)) part r → at + r ≤ length area
      entry-counted part r w =
          omega (arith, w.count, word-long text s (m + 1) entry-inside, entry-room, length-take-le (length area - at) (drop at area) (omega (arith, length-drop at area)), putting-inside)

      pub putting-next : (part : List ℕ) (r : ℕ) → Written (a ∷ (first + i) / 256 ∷ (first + i) % 256 ∷ (m + 1) ∷ word text s (m + 1)) (take (length area - at) (drop at area)) part r →
          Putting (put_mid at (length area - at) area part) (at + r) (i + 1)
      putting-next part r w = record { puts = g.puts; below = omega arith; fill = filling-part next-fill w }

    pub putting-end : count ≤ i → (names : List (List ℕ)) → Owns text table from names count → Written (noted a first names) area₀ area at
    putting-end h names o =
        subst (λ (x : List (List ℕ)). Written (noted a first x) area₀ area at) (owns-one g.puts.names names g.puts.owns o)
        (filling-done (subst (Filling (noted a first g.puts.names) area₀ area at) (noted-none a (first + i) i g.puts.names (omega (arith, g.puts.owns.words.count, h))) g.fill))
      where
        same_from : (n : ℕ) (x y : List (List ℕ)) → length x ≡ n → length y ≡ n → ((j : ℕ) → j < n → get_or x j [] ≡ get_or y j []) → x ≡ y
        same_from n [] [] p q f = refl
        same_from n [] (v ∷ y) p q f = absurd (omega arith)
        same_from n (w ∷ x) [] p q f = absurd (omega arith)
        same_from zero (w ∷ x) (v ∷ y) p q f = absurd (omega arith)
        same_from (suc n) (w ∷ x) (v ∷ y) p q f = ap₂ (λ (u : List ℕ) (t : List (List ℕ)). u ∷ t) (f 0 (omega arith)) (same_from n x y (omega arith) (omega arith) (λ j (k : j < n). f (suc j) (omega arith)))

        owns-one : (x y : List (List ℕ)) → Owns text table from x count → Owns text table from y count → x ≡ y
        owns-one x y p q = same_from count x y p.words.count q.words.count (λ j k. inv (p.words.spelt j k) ∙ q.words.spelt j k)

pub ruleset putting = (putting-start, entry-inside, entry-short, entry-number, entry-room, putting-next, putting-end)
