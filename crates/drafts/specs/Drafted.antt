-- The nodes of a rule, in the order of the text (reading, Draft), as the program holds them: their bytes, and the names so far of each sort.
use Rattle.std.specs.Prelude.{ℕ, ◌+◌, ◌*◌, ◌/◌, ◌%◌, ◌≤◌, ◌≡◌, List, [], ◌∷◌, ◌++◌, length, take}
use Rattle.grammar.specs.Names as Names
use Rattle.grammar.specs.Names.{Sort, Spot, variable_spot, symbol_spot, names_after}
use Rattle.grammar.specs.GrowLaws.{numbered_on}
use Rattle.format.specs.Format.{encode, node_records}
use Rattle.symbols.specs.declared.Section.{Section}
use Rattle.symbols.specs.Sections.{part, Holds}
use Rattle.drafts.specs.declared.Kind.{Kind}
use Rattle.drafts.specs.declared.Kind.TheVariants.{Constant, Compound, Predicate}
use Rattle.drafts.specs.declared.Draft.{Draft}
use Rattle.drafts.specs.Writing.{Wrote}

abbrev pub sort_of_kind : Kind → Sort
sort_of_kind Constant = Names.Constant
sort_of_kind Compound = Names.Compound
sort_of_kind Predicate = Names.Predicate

-- the names of each sort
abbrev pub Tables : Type 0
Tables = Sort → List (List ℕ)

abbrev pub after : Tables → List Spot → Tables
after T e k = names_after k (T k) e

-- the bytes of nodes, numbered by the names as they come
abbrev pub bytes_of : Tables → List (List ℕ) → List Spot → List ℕ
bytes_of T seen e = encode (node_records (numbered_on T seen e))

-- a sort of symbols that have an arity
abbrev pub Bracketed : Sort → Type 0
Bracketed Names.Constant = ⊥
Bracketed Names.Compound = Unit {0}
Bracketed Names.Predicate = Unit {0}

-- how many bytes nodes have
abbrev pub weight : List Spot → ℕ
weight [] = 0
weight (variable_spot w ∷ e) = 3 + weight e
weight (symbol_spot Names.Constant w n ∷ e) = 3 + weight e
weight (symbol_spot Names.Compound w n ∷ e) = 4 + weight e
weight (symbol_spot Names.Predicate w n ∷ e) = 4 + weight e

-- where the names of each sort stand: a book of 32,768 bytes, and one rule more, has no more of them
abbrev pub section_of : Draft → Kind → Section
section_of b Constant = record { from = 0; room = 11264; heads = 0; count = b.constants }
section_of b Compound = record { from = 11264; room = 8448; heads = 4096; count = b.compounds }
section_of b Predicate = record { from = 19712; room = 8448; heads = 8192; count = b.predicates }

abbrev pub counted_of : Draft → Kind → ℕ → ℕ → Draft
counted_of b Constant n len = record { from = b.from; len = len; constants = n; compounds = b.compounds; predicates = b.predicates }
counted_of b Compound n len = record { from = b.from; len = len; constants = b.constants; compounds = n; predicates = b.predicates }
counted_of b Predicate n len = record { from = b.from; len = len; constants = b.constants; compounds = b.compounds; predicates = n }

pub record Drafted (text out starts lens heads nexts : List ℕ) (b : Draft) (T : Tables) (e : List Spot) : Type 0 where
  pub bytes : part b.from b.len out ≡ bytes_of T [] e
  pub tables : (k : Kind) → Holds text starts lens heads nexts (section_of b k) (after T e (sort_of_kind k))
  pub constants_few : 3 * b.constants ≤ b.from + b.len
  pub compounds_few : 4 * b.compounds ≤ b.from + b.len
  pub predicates_few : 4 * b.predicates ≤ b.from + b.len
  pub low : b.from ≤ 32769
  pub long : length out ≡ 33800

pub record Somewhere (text out starts lens heads nexts : List ℕ) (b : Draft) : Type 0 where
  pub base : Tables
  pub spots : List Spot
  pub drafted : Drafted text out starts lens heads nexts b base spots

-- one node more, a symbol that has no argument yet
pub record Adds (text out out' starts lens heads nexts starts' lens' heads' nexts' : List ℕ) (b : Draft) (k : Kind) (w : List ℕ) (r : Draft) : Type 0 where
  pub adds : (T : Tables) (e : List Spot) → Drafted text out starts lens heads nexts b T e → Drafted text out' starts' lens' heads' nexts' r T (e ++ (symbol_spot (sort_of_kind k) w 0 ∷ []))
  pub from_stays : r.from ≡ b.from
  pub grows : r.len ≤ b.len + 4
  pub kept : (n : ℕ) → n ≤ b.from → take n out' ≡ take n out

-- one node more, a variable
pub record AddsVariable (out out' : List ℕ) (b : Draft) (v : ℕ) (r : Draft) : Type 0 where
  pub wrote : Wrote out out' (b.from + b.len) (1 ∷ v / 256 ∷ v % 256 ∷ [])
  pub draft : r ≡ record { from = b.from; len = b.len + 3; constants = b.constants; compounds = b.compounds; predicates = b.predicates }
