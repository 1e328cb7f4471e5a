-- A name list: "record kind, number, length in one byte, name; entries rise by kind, then number" (document 02, C-13).
use Rattle.std.specs.Prelude.{ℕ, ◌/◌, ◌%◌, ◌<◌, ◌≡◌, ◌⊎◌, ◌&&◌, List, [], ◌∷◌, ◌++◌, length, eqb}
use Rattle.terms.specs.When.{◌⇒◌∣◌}
use Rattle.grammar.specs.Names.{Sort, kind, is_sort}
use Rattle.printing.specs.Named.{Naming}
use Rattle.printing.specs.Fit.{Fit}

-- what the symbol of a sort and a number is called
pub record Entry : Type 0 where
  pub sort : Sort
  pub number : ℕ
  pub name : List ℕ

abbrev pub listed : List Entry → List ℕ
listed [] = []
listed (x ∷ l) = kind x.sort ∷ x.number / 256 ∷ x.number % 256 ∷ length x.name ∷ x.name ++ listed l

-- "entries rise strictly by kind, then number"
abbrev pub Before : Entry → Entry → Type 0
Before x y = (kind x.sort < kind y.sort) ⊎ ((x.sort ≡ y.sort) × (x.number < y.number))

-- a relation to each entry of a list
abbrev pub ToEach : (Entry → Type 0) → List Entry → Type 0
ToEach R [] = Unit {0}
ToEach R (x ∷ l) = R x × ToEach R l

-- of each entry to each later one
abbrev pub Along : (Entry → Entry → Type 0) → List Entry → Type 0
Along R [] = Unit {0}
Along R (x ∷ l) = ToEach (R x) l × Along R l

-- a number of two bytes; "a name is of C-13's form, 1 to 32 bytes"
pub record Proper (x : Entry) : Type 0 where
  pub low : x.number < 65536
  pub fit : Fit x.name

-- not "a name shared by two symbols of one sort"
abbrev pub Apart : Entry → Entry → Type 0
Apart x y = x.sort ≡ y.sort → x.name ≡ y.name → ⊥

-- the bytes are the list of these entries, in C-13's form
pub record IsList (s : List ℕ) (l : List Entry) : Type 0 where
  pub bytes : s ≡ listed l
  pub rises : Along Before l
  pub proper : ToEach Proper l
  pub apart : Along Apart l

-- Names by the list

-- the entry is one of the list's
abbrev pub In : Entry → List Entry → Type 0
In x [] = ⊥
In x (y ∷ l) = (x ≡ y) ⊎ In x l

-- what a symbol is called; nothing, if it has no name
abbrev pub naming : List Entry → Naming
naming [] k n = []
naming (x ∷ l) k n = (is_sort k x.sort && eqb n x.number) ⇒ x.name ∣ naming l k n
