-- What a good book and a good goal are, and their images (document 01, "Records" and "Sizes"). Books and goals are those of the crate `search`. That they keep one arity
-- (document 02, C-18) is said apart, in Arities, since a goal keeps it together with its book.
use Rattle.std.specs.Prelude.{ℕ, suc, ◌+◌, ◌/◌, ◌%◌, ◌≤◌, ◌<◌, List, [], ◌∷◌, ◌++◌, length, get_or}
use Rattle.terms.specs.Node.{constant, compound, predicate, Node, var, sym, Expr}
use Rattle.terms.specs.Number.{Numbered}
use Rattle.search.specs.Next as Next
use Rattle.search.specs.Room.{nodes}
use Rattle.words.specs.Flat.{flat}
use Rattle.format.specs.declared.Record.{Record}
use Rattle.format.specs.declared.Record.TheVariants.{Variable, Constant, Compound, Formula, Clause, Goal, End}

-- Images

-- the table of records: "kind"
abbrev pub record_kind : Record → ℕ
record_kind (Variable v) = 1
record_kind (Constant c) = 2
record_kind (Compound f n) = 3
record_kind (Formula p n) = 4
record_kind (Clause n) = 5
record_kind (Goal n) = 6
record_kind End = 7

-- "A record is one byte of kind, then a body whose length the kind fixes. Numbers are most significant byte first."
abbrev pub encode_record : Record → List ℕ
encode_record (Variable v) = 1 ∷ v / 256 ∷ v % 256 ∷ []
encode_record (Constant c) = 2 ∷ c / 256 ∷ c % 256 ∷ []
encode_record (Compound f n) = 3 ∷ f / 256 ∷ f % 256 ∷ n ∷ []
encode_record (Formula p n) = 4 ∷ p / 256 ∷ p % 256 ∷ n ∷ []
encode_record (Clause n) = 5 ∷ n ∷ []
encode_record (Goal n) = 6 ∷ n / 256 ∷ n % 256 ∷ []
encode_record End = 7 ∷ []

abbrev pub encode : List Record → List ℕ
encode [] = []
encode (r ∷ rs) = encode_record r ++ encode rs

abbrev pub node_record : Node → Record
node_record (var v) = Variable v
node_record (sym (constant c)) = Constant c
node_record (sym (compound f n)) = Compound f n
node_record (sym (predicate p n)) = Formula p n

abbrev pub node_records : Expr → List Record
node_records [] = []
node_records (x ∷ e) = node_record x ∷ node_records e

-- "A clause is followed by its head, then its body."
abbrev pub clause_records : Next.Clause → List Record
clause_records c = Clause (length c.body) ∷ node_records (flat (c.head ∷ c.body))

-- "A book is any number of clauses, then 07, then nothing."
abbrev pub book_records : Next.Book → List Record
book_records [] = End ∷ []
book_records (c ∷ b) = clause_records c ++ book_records b

abbrev pub goal_records : Next.Goal → List Record
goal_records g = Goal (length g) ∷ node_records (flat g)

abbrev pub encode_book : Next.Book → List ℕ
encode_book b = encode (book_records b)

abbrev pub encode_goal : Next.Goal → List ℕ
encode_goal g = encode (goal_records g)

-- Formulas: rows (terms, Row) with the table's ranges

-- n terms in a row
pub data Terms : ℕ → Expr → Type 0 where
  terms_none : Terms 0 []
  terms_var : {n v : ℕ} {e : Expr} → v < 65536 → Terms n e → Terms (suc n) (var v ∷ e)
  terms_constant : {n c : ℕ} {e : Expr} → c < 65536 → Terms n e → Terms (suc n) (sym (constant c) ∷ e)
  terms_compound : {n f a : ℕ} {e : Expr} → f < 65536 → 1 ≤ a → a ≤ 8 → Terms (n + a) e → Terms (suc n) (sym (compound f a) ∷ e)

pub data IsFormula : Expr → Type 0 where
  formula : {p a : ℕ} {e : Expr} → p < 65536 → a ≤ 8 → Terms a e → IsFormula (sym (predicate p a) ∷ e)

abbrev pub AreFormulas : Next.Goal → Type 0
AreFormulas [] = Unit
AreFormulas (f ∷ g) = IsFormula f × AreFormulas g

-- Sizes

-- each variable is below n
abbrev pub Below : ℕ → Expr → Type 0
Below n [] = Unit
Below n (var v ∷ e) = (v < n) × Below n e
Below n (sym s ∷ e) = Below n e

-- so many nodes and variables at most, and "variables are numbered from 0 by first appearance, left to right"
pub record Fitting (most variables : ℕ) (g : Next.Goal) : Type 0 where
  pub size : nodes g ≤ most
  pub below : Below variables (flat g)
  pub numbered : Numbered g

-- "Clause: 256 nodes, variables 0 to 63."
pub record GoodClause (c : Next.Clause) : Type 0 where
  pub few : length c.body ≤ 16
  pub formulas : AreFormulas (c.head ∷ c.body)
  pub fitting : Fitting 256 64 (c.head ∷ c.body)

abbrev pub GoodClauses : Next.Book → Type 0
GoodClauses [] = Unit
GoodClauses (c ∷ b) = GoodClause c × GoodClauses b

-- "Book: 32,768 bytes, 512 clauses."
pub record GoodBook (b : Next.Book) : Type 0 where
  pub few : length b ≤ 512
  pub clauses : GoodClauses b
  pub short : length (encode_book b) ≤ 32768

-- "Goal: 512 formulas, 4,096 nodes"; a number of two bytes is below 65,536: a goal has no limit of its own on variables
pub record GoodGoal (g : Next.Goal) : Type 0 where
  pub few : length g ≤ 512
  pub formulas : AreFormulas g
  pub fitting : Fitting 4096 65536 g

abbrev pub Bytes : List ℕ → Type 0
Bytes s = (i : ℕ) → get_or s i 0 < 256
