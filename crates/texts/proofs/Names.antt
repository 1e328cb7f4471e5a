-- The names of a text as they stand in the table, and their list.
use Prim.Native.Nat.{ℕ, zero, suc, ◌+◌, ◌-◌, ◌/◌, ◌%◌, ◌≤◌, ◌<◌}
use mathlib.Core.Path.{◌≡◌, refl, sym as inv, ap, ap₂, ◌∙◌, subst}
use mathlib.Core.List.{List, [], ◌∷◌, ◌++◌, append-nil}
use native.Mathlib.Omega.{arith}
use lib.ListN.{length, get_or, take, drop, length-drop, length-append}
use lib.Seq.{length-take-le, take-take}
use borrow.Rule.Slice.PartMut.{put_mid}
use Rattle.grammar.specs.Names.{Sort, Constant, Compound, Predicate, kind, entries, names, name_list}
use Rattle.grammar.specs.Syntax.{Rule}
use Rattle.nametable.specs.Table.{word}
use Rattle.symbols.specs.Sections.{part, Holds}
use Rattle.symbols.specs.declared.Section.{Section}
use Rattle.drafts.specs.declared.Draft.{Draft}
use Rattle.storage.specs.Storage.{Written}
use Rattle.storage.proofs.Filling.{Filling, filling-left, filling-length, filling-done, filling-part}
use Rattle.listing.specs.Lists.{heard, noted, sizes, Within}
use Rattle.listing.proofs.Listed.{noted-long}
use Rattle.texts.specs.Finished.{Named, list_bytes, list_size}

-- A section

names-heard : (text S L : List ℕ) (ns : List (List ℕ)) (n : ℕ) → length ns ≡ n → n ≤ length S → n ≤ length L → ((i : ℕ) → i < n → word text (get_or S i 0) (get_or L i 0) ≡ get_or ns i []) →
    heard text (take n S) (take n L) ≡ ns
names-heard text S L [] zero c p q h = refl
names-heard text S L [] (suc n) c p q h = absurd (omega arith)
names-heard text S L (w ∷ ns) zero c p q h = absurd (omega arith)
names-heard text [] L (w ∷ ns) (suc n) c p q h = absurd (omega arith)
names-heard text (s ∷ S) [] (w ∷ ns) (suc n) c p q h = absurd (omega arith)
names-heard text (s ∷ S) (l ∷ L) (w ∷ ns) (suc n) c p q h =
    ap₂ (λ (x : List ℕ) (y : List (List ℕ)). x ∷ y) (h 0 (omega arith)) (names-heard text S L ns n (omega arith) (omega arith) (omega arith) (λ i (k : i < n). h (suc i) (omega arith)))

names-within : (text S L : List ℕ) (n : ℕ) → n ≤ length S → n ≤ length L → ((i : ℕ) → i < n → get_or S i 0 + get_or L i 0 ≤ length text) → Within text (take n S) (take n L)
names-within text S L zero p q h = tt
names-within text [] L (suc n) p q h = absurd (omega arith)
names-within text (s ∷ S) [] (suc n) p q h = absurd (omega arith)
names-within text (s ∷ S) (l ∷ L) (suc n) p q h = (h 0 (omega arith), names-within text S L n (omega arith) (omega arith) (λ i (k : i < n). h (suc i) (omega arith)))

module _ {text starts lens heads nexts : List ℕ} {c : Section} {ns : List (List ℕ)} (h : Holds text starts lens heads nexts c ns) (few : c.count ≤ c.room) where
  long : (l : List ℕ) → c.from + c.room ≤ length l → c.count ≤ length (part c.from c.room l)
  long l r = omega (arith, few, length-take-le c.room (drop c.from l) (omega (arith, length-drop c.from l)))

  front : (l : List ℕ) → take c.count (part c.from c.room l) ≡ part c.from c.count l
  front l = take-take c.count c.room (drop c.from l) few

  pub section_heard : heard text (part c.from c.count starts) (part c.from c.count lens) ≡ ns
  section_heard =
      ap₂ (heard text) (inv (front starts)) (inv (front lens))
      ∙ names-heard text (part c.from c.room starts) (part c.from c.room lens) ns c.count h.table.entries.count (long starts h.starts_room) (long lens h.lens_room) h.table.entries.named

  pub section_within : Within text (part c.from c.count starts) (part c.from c.count lens)
  section_within =
      subst (λ (x : List ℕ). Within text x (part c.from c.count lens)) (front starts)
      (subst (Within text (take c.count (part c.from c.room starts))) (front lens)
      (names-within text (part c.from c.room starts) (part c.from c.room lens) c.count (long starts h.starts_room) (long lens h.lens_room) h.table.entries.inside))

-- The slice of a table that is a section

pub sliced : (a k : ℕ) (l : List ℕ) → take (a + k - a) (drop a l) ≡ part a k l
sliced a k l = ap (λ (n : ℕ). take n (drop a l)) (let z : a + k - a ≡ k = omega arith in z)

pub sizes-sliced : (a k : ℕ) (l : List ℕ) → sizes (take (a + k - a) (drop a l)) ≡ sizes (part a k l)
sizes-sliced a k l = ap sizes (sliced a k l)

pub within-sliced : (text S L : List ℕ) (a k : ℕ) → Within text (part a k S) (part a k L) → Within text (take (a + k - a) (drop a S)) (take (a + k - a) (drop a L))
within-sliced text S L a k w = subst (λ (x : List ℕ). Within text x (take (a + k - a) (drop a L))) (inv (sliced a k S)) (subst (Within text (part a k S)) (inv (sliced a k L)) w)

pub written-sliced : (text S L before after : List ℕ) (kind a k r : ℕ) → Written (noted kind 0 (heard text (take (a + k - a) (drop a S)) (take (a + k - a) (drop a L)))) before after r →
    Written (noted kind 0 (heard text (part a k S) (part a k L))) before after r
written-sliced text S L before after kind a k r w = subst (λ (x : List ℕ). Written x before after r) (ap (noted kind 0) (ap₂ (heard text) (sliced a k S) (sliced a k L))) w

-- The list

entries-noted : (k : Sort) (n : ℕ) (l : List (List ℕ)) → noted (kind k) n l ≡ entries k n l
entries-noted k n [] = refl
entries-noted k n (w ∷ l) = ap (λ (x : List ℕ). (kind k ∷ n / 256 ∷ n % 256 ∷ length w ∷ w) ++ x) (entries-noted k (suc n) l)

pub list-named : (cs : List Rule) (x y z : List (List ℕ)) → x ≡ names cs Constant → y ≡ names cs Compound → z ≡ names cs Predicate →
    noted 2 0 x ++ (noted 3 0 y ++ noted 4 0 z) ≡ name_list cs
list-named cs x y z p q r =
    ap₂ (λ (a b : List ℕ). a ++ b) (ap (noted 2 0) p ∙ entries-noted Constant 0 (names cs Constant))
    (ap₂ (λ (a b : List ℕ). a ++ b) (ap (noted 3 0) q ∙ entries-noted Compound 0 (names cs Compound)) (ap (noted 4 0) r ∙ entries-noted Predicate 0 (names cs Predicate)))

module _ (text starts lens : List ℕ) (b : Draft) (named : Named text starts lens b) where
  abbrev first : List ℕ
  first = noted 2 0 (heard text (part 0 b.constants starts) (part 0 b.constants lens))

  abbrev second : List ℕ
  second = noted 3 0 (heard text (part 11264 b.compounds starts) (part 11264 b.compounds lens))

  abbrev third : List ℕ
  third = noted 4 0 (heard text (part 19712 b.predicates starts) (part 19712 b.predicates lens))

  first-long : length first ≡ sizes (part 0 b.constants lens)
  first-long = noted-long 2 0 text (part 0 b.constants starts) (part 0 b.constants lens) named.constants

  second-long : length second ≡ sizes (part 11264 b.compounds lens)
  second-long = noted-long 3 0 text (part 11264 b.compounds starts) (part 11264 b.compounds lens) named.compounds

  third-long : length third ≡ sizes (part 19712 b.predicates lens)
  third-long = noted-long 4 0 text (part 19712 b.predicates starts) (part 19712 b.predicates lens) named.predicates

  pub list-long : length (list_bytes text starts lens b) ≡ list_size lens b
  list-long = omega (arith, length-append first (second ++ third), length-append second third, first-long, second-long, third-long)

  module _ (area area₁ : List ℕ) (r : ℕ) (room : list_size lens b ≤ length area) (w : Written first area area₁ r) where
    fill₁ : Filling (list_bytes text starts lens b) area area₁ r (second ++ third)
    fill₁ = record { room = omega (arith, list-long, room); front = first; long = inv w.count; written = w.holds; same = refl }

    pub second-room : sizes (part 11264 b.compounds lens) ≤ length (take (length area₁ - r) (drop r area₁))
    second-room =
        omega (arith, second-long, length-append second third, filling-left fill₁, filling-length fill₁, fill₁.room, length-take-le (length area₁ - r) (drop r area₁) (omega (arith, length-drop r area₁)))

    module _ (part₂ area₂ : List ℕ) (s : ℕ) (w₂ : Written second (take (length area₁ - r) (drop r area₁)) part₂ s) (e : area₂ ≡ put_mid r (length area₁ - r) area₁ part₂) where
      fill₂ : Filling (list_bytes text starts lens b) area area₂ (r + s) (third ++ [])
      fill₂ = subst (λ (x : List ℕ). Filling (list_bytes text starts lens b) area x (r + s) (third ++ [])) (inv e) (subst (Filling (list_bytes text starts lens b) area (put_mid r (length area₁ - r) area₁ part₂) (r + s)) (inv (append-nil third)) (filling-part fill₁ w₂))

      pub third-counted : r + s ≤ length area
      third-counted = omega (arith, filling-left fill₂, fill₂.room)

      pub third-room : sizes (part 19712 b.predicates lens) ≤ length (take (length area₂ - (r + s)) (drop (r + s) area₂))
      third-room =
          omega (arith, third-long, length-append third [], filling-left fill₂, filling-length fill₂, fill₂.room, length-take-le (length area₂ - (r + s)) (drop (r + s) area₂) (omega (arith, length-drop (r + s) area₂)))

      module _ (part₃ : List ℕ) (t : ℕ) (w₃ : Written third (take (length area₂ - (r + s)) (drop (r + s) area₂)) part₃ t) where
        fill₃ : Filling (list_bytes text starts lens b) area (put_mid (r + s) (length area₂ - (r + s)) area₂ part₃) (r + s + t) []
        fill₃ = filling-part fill₂ w₃

        pub list_written : Written (list_bytes text starts lens b) area (put_mid (r + s) (length area₂ - (r + s)) area₂ part₃) (r + s + t)
        list_written = filling-done fill₃

        pub list_counted : r + s + t ≤ length area
        list_counted = omega (arith, filling-left fill₃, fill₃.room)
