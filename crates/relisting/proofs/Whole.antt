-- The parts of a list one behind the other.
use Prim.Native.Nat.{ℕ, suc, ◌+◌, ◌-◌, ◌/◌, ◌%◌, ◌≤◌}
use mathlib.Core.Path.{◌≡◌, refl, sym as inv, ap, ap₂, ◌∙◌}
use mathlib.Core.List.{List, [], ◌∷◌, ◌++◌, append-nil, append_assoc}
use native.Mathlib.Omega.{arith}
use lib.ListN.{length, take, drop, length-drop, length-append}
use lib.Seq.{length-take-le, take-append_seam, drop-append_seam}
use borrow.Rule.Slice.PartMut.{put_mid}
use Rattle.grammar.specs.Names.{Sort, Constant, Compound, Predicate, kind, entries}
use Rattle.nametable.specs.Table.{word}
use Rattle.stages.proofs.Kept.{word-long}
use Rattle.namelist.specs.Table.{entries_on}
use Rattle.storage.specs.Storage.{Written}
use Rattle.storage.proofs.Filling.{Filling, filling-left, filling-length, filling-done, filling-part}
use Rattle.listing.specs.Lists.{noted}
use Rattle.relisting.specs.declared.Part.{Part}
use Rattle.relisting.specs.Relisted.{Other, Owns, Puts, Sorts, part_bytes}

-- Two parts

module _ (A B area area₁ : List ℕ) (n : ℕ) (room : length (A ++ B) ≤ length area) (w : Written A area area₁ n) where
  fill : Filling (A ++ B) area area₁ n (B ++ [])
  fill = record { room = room; front = A; long = inv w.count; written = w.holds; same = ap (λ (x : List ℕ). A ++ x) (append-nil B) }

  pub two-start : n ≤ length area₁
  two-start = omega (arith, filling-left fill, filling-length fill, fill.room)

  pub two-length : length area₁ ≡ length area
  two-length = filling-length fill

  pub two-room : length B ≤ length (take (length area₁ - n) (drop n area₁))
  two-room =
      omega (arith, length-append B [], filling-left fill, filling-length fill, fill.room, length-take-le (length area₁ - n) (drop n area₁) (omega (arith, length-drop n area₁)))

  pub two-written : (part : List ℕ) (r : ℕ) → Written B (take (length area₁ - n) (drop n area₁)) part r → Written (A ++ B) area (put_mid n (length area₁ - n) area₁ part) (n + r)
  two-written part r v = filling-done (filling-part fill v)

  pub two-counted : (part : List ℕ) (r : ℕ) → Written B (take (length area₁ - n) (drop n area₁)) part r → n + r ≤ length area
  two-counted part r v = omega (arith, (two-written part r v).count, length-append A B, room)

-- One sort

module _ (area names text table : List ℕ) (p : Part) (s : Sorts area names text table p) where
  abbrev given_part : List ℕ
  given_part = word names p.from (p.to - p.from)

  abbrev own_part : List ℕ
  own_part = noted p.kind p.first s.own

  pub sort-inside : p.from + (p.to - p.from) ≤ length names
  sort-inside = omega (arith, s.onward, s.inside)

  pub sort-first : p.to - p.from ≤ length area
  sort-first = omega (arith, s.room, length-append given_part own_part, word-long names p.from (p.to - p.from) sort-inside)

  module _ (area₁ : List ℕ) (w : Written given_part area area₁ (p.to - p.from)) where
    pub sort-start : p.to - p.from ≤ length area₁
    sort-start = two-start given_part own_part area area₁ (p.to - p.from) s.room w

    pub sort-length : length area₁ ≡ length area
    sort-length = two-length given_part own_part area area₁ (p.to - p.from) s.room w

    pub sort-puts : Puts (take (length area₁ - (p.to - p.from)) (drop (p.to - p.from) area₁)) text table p.base p.count p.kind p.first
    sort-puts =
        record { names = s.own; owns = s.owns; inside = s.table_inside; long = s.long; numbers = s.numbers; room = two-room given_part own_part area area₁ (p.to - p.from) s.room w }

    module _ (part : List ℕ) (r : ℕ) (v : (own : List (List ℕ)) → Owns text table p.base own p.count → Written (noted p.kind p.first own) (take (length area₁ - (p.to - p.from)) (drop (p.to - p.from) area₁)) part r) where
      pub sort-counted : (p.to - p.from) + r ≤ length area
      sort-counted = two-counted given_part own_part area area₁ (p.to - p.from) s.room w part r (v s.own s.owns)

      pub sort-written : (own : List (List ℕ)) → Owns text table p.base own p.count → Written (part_bytes names p own) area (put_mid (p.to - p.from) (length area₁ - (p.to - p.from)) area₁ part) ((p.to - p.from) + r)
      sort-written own o =
          let same : length (noted p.kind p.first own) ≡ length own_part = inv (v own o).count ∙ (v s.own s.owns).count in
          two-written given_part (noted p.kind p.first own) area area₁ (p.to - p.from) (omega (arith, length-append given_part (noted p.kind p.first own), length-append given_part own_part, same, s.room)) w part r (v own o)

-- The parts of the list that is given

entries-noted : (k : Sort) (n : ℕ) (l : List (List ℕ)) → noted (kind k) n l ≡ entries k n l
entries-noted k n [] = refl
entries-noted k n (w ∷ l) = ap (λ (x : List ℕ). (kind k ∷ n / 256 ∷ n % 256 ∷ length w ∷ w) ++ x) (entries-noted k (suc n) l)

entries-append : (k : Sort) (n : ℕ) (a b : List (List ℕ)) → entries k n (a ++ b) ≡ entries k n a ++ entries k (n + length a) b
entries-append k n [] b = ap (λ (i : ℕ). entries k i b) (let z : n ≡ n + 0 = omega arith in z)
entries-append k n (w ∷ a) b =
    ap (λ (x : List ℕ). kind k ∷ n / 256 ∷ n % 256 ∷ length w ∷ x)
    (ap (λ (x : List ℕ). w ++ x) (entries-append k (suc n) a b ∙ ap (λ (i : ℕ). entries k (suc n) a ++ entries k i b) (let z : suc n + length a ≡ n + suc (length a) = omega arith in z))
    ∙ inv (append_assoc w (entries k (suc n) a) (entries k (n + suc (length a)) b)))

pub sort-bytes : (k : Sort) (c : ℕ) (a b : List (List ℕ)) → c ≡ length a → entries k 0 a ++ noted (kind k) c b ≡ entries k 0 (a ++ b)
sort-bytes k c a b e =
    ap (λ (x : List ℕ). entries k 0 a ++ x) (entries-noted k c b ∙ ap (λ (i : ℕ). entries k i b) (e ∙ (let z : length a ≡ 0 + length a = omega arith in z)))
    ∙ inv (entries-append k 0 a b)

pub other-second : (a b : List (List ℕ)) → Other Constant (entries_on Compound 0 a ++ entries_on Predicate 0 b)
other-second [] [] = tt
other-second [] (w ∷ b) = λ (e : Predicate ≡ Constant). let z : ◌≡◌ {A = ℕ} 4 2 = ap kind e in omega arith
other-second (w ∷ a) b = λ (e : Compound ≡ Constant). let z : ◌≡◌ {A = ℕ} 3 2 = ap kind e in omega arith

pub other-third : (b : List (List ℕ)) → Other Compound (entries_on Predicate 0 b)
other-third [] = tt
other-third (w ∷ b) = λ (e : Predicate ≡ Compound). let z : ◌≡◌ {A = ℕ} 4 3 = ap kind e in omega arith

pub front-part : (A B s : List ℕ) (n : ℕ) → s ≡ A ++ B → n ≡ length A → take n s ≡ A
front-part A B s n e q = ap₂ take q e ∙ take-append_seam A B

pub back-part : (A B s : List ℕ) (n : ℕ) → s ≡ A ++ B → n ≡ length A → drop n s ≡ B
back-part A B s n e q = ap₂ drop q e ∙ drop-append_seam A B
