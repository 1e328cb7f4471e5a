-- The parts of a list, and the query's own names behind them.
use Rattle.std.specs.Prelude.{ℕ, ◌+◌, ◌-◌, ◌≤◌, ◌<◌, ◌≡◌, List, [], ◌∷◌, ◌++◌, length, get_or}
use Rattle.grammar.specs.Names.{Sort, Constant, Compound, Predicate, kind, entries}
use Rattle.namelist.specs.List.{Entry}
use Rattle.namelist.specs.ListLaws.{Stands}
use Rattle.namelist.specs.Table.{entries_on}
use Rattle.listing.specs.Lists.{noted}
use Rattle.grammar.specs.Names.{list_of}
use Rattle.nametable.specs.Table.{word}
use Rattle.questions.specs.Given.{given_from}
use Rattle.grammar.specs.Query.{Given}
use Rattle.known.specs.declared.Known.{Known}
use Rattle.laying.specs.declared.Draft.{Draft}
use Rattle.laying.specs.Words.{Words, Knowing}
use Rattle.relisting.specs.declared.Part.{Part}

-- no entry of this sort stands in front
abbrev pub Other : Sort → List Entry → Type 0
Other k [] = Unit {0}
Other k (x ∷ l) = x.sort ≡ k → ⊥

pub record Skipped (s : List ℕ) (from a r : ℕ) : Type 0 where
  pub ends : (k : Sort) (n : ℕ) (ns : List (List ℕ)) (rest : List Entry) → Stands s from (entries_on k n ns ++ rest) → a ≡ kind k → Other k rest → r ≡ from + length (entries k n ns)
  pub stands : (k : Sort) (n : ℕ) (ns : List (List ℕ)) (rest : List Entry) → Stands s from (entries_on k n ns ++ rest) → a ≡ kind k → Other k rest → Stands s r rest

-- names of the table, none longer than 32 bytes
pub record Owns (text table : List ℕ) (from : ℕ) (names : List (List ℕ)) (n : ℕ) : Type 0 where
  pub words : Words text table from names n
  pub short : (i : ℕ) → i < n → get_or table (16384 + (from + i)) 0 + 1 ≤ 32

pub record Puts (area text table : List ℕ) (from count a first : ℕ) : Type 0 where
  pub names : List (List ℕ)
  pub owns : Owns text table from names count
  pub inside : from + count ≤ 16384
  pub long : length table ≡ 32768
  pub numbers : first + count ≤ 65536
  pub room : length (noted a first names) ≤ length area

-- A sort's part of the list

abbrev pub part_bytes : List ℕ → Part → List (List ℕ) → List ℕ
part_bytes names p own = word names p.from (p.to - p.from) ++ noted p.kind p.first own

pub record Sorts (area names text table : List ℕ) (p : Part) : Type 0 where
  pub own : List (List ℕ)
  pub owns : Owns text table p.base own p.count
  pub onward : p.from ≤ p.to
  pub inside : p.to ≤ length names
  pub table_inside : p.base + p.count ≤ 16384
  pub long : length table ≡ 32768
  pub numbers : p.first + p.count ≤ 65536
  pub room : length (part_bytes names p own) ≤ length area

abbrev pub part_of : ℕ → ℕ → ℕ → ℕ → ℕ → ℕ → Part
part_of from to base count a first = record { from = from; to = to; base = base; count = count; kind = a; first = first }

abbrev pub constants_part : Known → Draft → ℕ → Part
constants_part g d x = part_of 0 x 4096 d.constants 2 g.constants

abbrev pub compounds_part : Known → Draft → ℕ → ℕ → Part
compounds_part g d x y = part_of x y 8192 d.compounds 3 g.compounds

abbrev pub predicates_part : Known → Draft → ℕ → ℕ → Part
predicates_part g d y end = part_of y end 12288 d.predicates 4 g.predicates

-- The list

abbrev pub with_own : Given → (Sort → List (List ℕ)) → Given
with_own g own k = g k ++ own k

pub record Sizes (table : List ℕ) (d : Draft) : Type 0 where
  pub long : length table ≡ 32768
  pub constants : d.constants ≤ 4096
  pub compounds : d.compounds ≤ 4096
  pub predicates : d.predicates ≤ 4096

pub record Owned (text table : List ℕ) (d : Draft) (own : Sort → List (List ℕ)) : Type 0 where
  pub constants : Owns text table 4096 (own Constant) d.constants
  pub compounds : Owns text table 8192 (own Compound) d.compounds
  pub predicates : Owns text table 12288 (own Predicate) d.predicates

pub record Relists (names text table : List ℕ) (g : Known) (d : Draft) (own : Sort → List (List ℕ)) : Type 0 where
  pub knowing : Knowing names g
  pub owned : Owned text table d own
  pub sizes : Sizes table d

pub record Listable (area names text table : List ℕ) (g : Known) (d : Draft) : Type 0 where
  pub own : Sort → List (List ℕ)
  pub relists : Relists names text table g d own
  pub room : length (list_of (with_own (given_from names) own)) ≤ length area
  pub low : length (list_of (with_own (given_from names) own)) ≤ 1073741824
