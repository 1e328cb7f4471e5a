-- One predicate, one arity (document 02, C-18): the uses of predicate numbers in the order of reading, when they keep one arity, and what a check remembers of them.
use Rattle.std.specs.Prelude.{ℕ, ◌+◌, ◌≡◌, Bool, true, ◌||◌, ◌⊎◌, List, [], ◌∷◌, ◌++◌, get_or, eqb}
use Rattle.terms.specs.Node.{constant, compound, predicate, var, sym, Expr}
use Rattle.terms.specs.When.{◌⇒◌∣◌}
use Rattle.search.specs.Next as Next
use Rattle.words.specs.Flat.{flat}
use Rattle.format.specs.declared.Record.{Record}
use Rattle.format.specs.declared.Record.TheVariants.{Variable, Constant, Compound, Formula, Clause, Goal, End}

-- Uses

-- a predicate number, and the arity that a formula uses it with
pub record Use : Type 0 where
  pub number : ℕ
  pub arity : ℕ

abbrev pub use_of : ℕ → ℕ → Use
use_of p n = record { number = p; arity = n }

-- the uses of a goal's nodes; terms have none
abbrev pub node_uses : Expr → List Use
node_uses [] = []
node_uses (var v ∷ e) = node_uses e
node_uses (sym (constant c) ∷ e) = node_uses e
node_uses (sym (compound f n) ∷ e) = node_uses e
node_uses (sym (predicate p n) ∷ e) = use_of p n ∷ node_uses e

abbrev pub goal_uses : Next.Goal → List Use
goal_uses g = node_uses (flat g)

-- "in heads or bodies"
abbrev pub book_uses : Next.Book → List Use
book_uses [] = []
book_uses (c ∷ b) = goal_uses (c.head ∷ c.body) ++ book_uses b

-- the same of records
abbrev pub record_uses : Record → List Use
record_uses (Variable v) = []
record_uses (Constant c) = []
record_uses (Compound f n) = []
record_uses (Formula p n) = use_of p n ∷ []
record_uses (Clause n) = []
record_uses (Goal n) = []
record_uses End = []

abbrev pub uses_of : List Record → List Use
uses_of [] = []
uses_of (r ∷ rs) = record_uses r ++ uses_of rs

-- the number p is used with the arity n
abbrev pub Used : ℕ → ℕ → List Use → Type 0
Used p n [] = ⊥
Used p n (u ∷ us) = ((u.number ≡ p) × (u.arity ≡ n)) ⊎ Used p n us

-- no number is used "with two different arities"
abbrev pub OneArity : List Use → Type 0
OneArity us = (p n m : ℕ) → Used p n us → Used p m us → n ≡ m

-- a goal that may be asked of a book: "a query that uses one against its book or against itself" is refused
abbrev pub Suits : Next.Book → Next.Goal → Type 0
Suits b g = OneArity (book_uses b ++ goal_uses g)

-- the number of the record's formula is used with another arity
pub record AnotherArity (us : List Use) (r : Record) : Type 0 where
  pub number : ℕ
  pub arity : ℕ
  pub before : ℕ
  pub is : r ≡ Formula number arity
  pub met : Used number before us
  pub other : before ≡ arity → ⊥

-- What a check remembers: 0 of a number that was not met, and one more than its arity of one that was.

abbrev pub Memory : Type 0
Memory = ℕ → ℕ

abbrev pub nothing_met : Memory
nothing_met p = 0

unfoldable pub meet : Memory → ℕ → ℕ → Memory
meet m p n q = eqb q p ⇒ n + 1 ∣ m q

-- after one more record
abbrev pub meets : Memory → Record → Memory
meets m (Variable v) = m
meets m (Constant c) = m
meets m (Compound f n) = m
meets m (Formula p n) = meet m p n
meets m (Clause n) = m
meets m (Goal n) = m
meets m End = m

-- after some uses
abbrev pub recall : Memory → List Use → Memory
recall m [] = m
recall m (u ∷ us) = recall (meet m u.number u.arity) us

-- not a formula "whose predicate number had another arity before"
unfoldable pub keeps : Memory → Record → Bool
keeps m (Variable v) = true
keeps m (Constant c) = true
keeps m (Compound f n) = true
keeps m (Formula p n) = eqb (m p) 0 || eqb (m p) (n + 1)
keeps m (Clause n) = true
keeps m (Goal n) = true
keeps m End = true

-- a table with an entry for each number
abbrev pub recalled : List ℕ → Memory
recalled table p = get_or table p 0
