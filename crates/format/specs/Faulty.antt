-- What a refusal means (document 01, "Codes"; document 02, C-18): an input's fault, its code and its place, told by what books and queries are and not by how they
-- are read. A query is held to the uses `us` of predicate numbers in its book; a book to none.
-- That a check answers just this: proofs/Refusals.
use Rattle.std.specs.Prelude.{ℕ, suc, ◌≤◌, ◌<◌, ◌≡◌, List, [], ◌∷◌, ◌++◌, length}
use Rattle.terms.specs.Node.{Node, Expr}
use Rattle.terms.specs.Subst.{In}
use Rattle.terms.specs.Number.{Numbered}
use Rattle.search.specs.Next as Next
use Rattle.format.specs.declared.Form.{Form}
use Rattle.format.specs.declared.Form.TheVariants.{Book, Query}
use Rattle.format.specs.declared.Record.{Record}
use Rattle.format.specs.declared.Record.TheVariants.{Variable, Constant, Compound, Formula, Clause, Goal, End}
use Rattle.format.specs.Format.{record_kind, encode_record, encode, node_record, node_records, book_records, goal_records, encode_book, encode_goal, AreFormulas, GoodBook, GoodGoal}
use Rattle.format.specs.Arities.{Use, book_uses, goal_uses, uses_of, OneArity, AnotherArity}

-- "The first number of a pair is for the book, the second for the query."
abbrev pub pair : Form → ℕ → ℕ → ℕ
pair Book book query = book
pair Query book query = query

-- Books and queries, whatever their sizes

-- formulas in the table's ranges, "variables .. numbered from 0 by first appearance"
pub record Formed (most : ℕ) (g : Next.Goal) : Type 0 where
  pub few : length g ≤ most
  pub formulas : AreFormulas g
  pub numbered : Numbered g

-- a clause has a head, and a body of "0 to 16"
abbrev pub FormedClauses : Next.Book → Type 0
FormedClauses [] = Unit
FormedClauses (c ∷ b) = Formed 17 (c.head ∷ c.body) × FormedClauses b

-- all records of a book, or of a query
abbrev pub Complete : Form → List Record → Type 0
Complete Book rs = (b : Next.Book) × FormedClauses b × (rs ≡ book_records b)
Complete Query rs = (g : Next.Goal) × Formed 512 g × (rs ≡ goal_records g)

-- the records with which one begins
abbrev pub Beginning : Form → List Record → Type 0
Beginning form rs = (more : List Record) × Complete form (rs ++ more)

-- The tests of a record that stands behind others

-- 1: some record of this kind, and some more behind it, go on from rs
pub record KindAllowed (form : Form) (rs : List Record) (kind : ℕ) : Type 0 where
  pub like : Record
  pub same : record_kind like ≡ kind
  pub begins : Beginning form (rs ++ like ∷ [])

-- 3: the ranges of the table
abbrev pub InRange : Record → Type 0
InRange (Variable v) = Unit
InRange (Constant c) = Unit
InRange (Compound f n) = (1 ≤ n) × (n ≤ 8)
InRange (Formula p n) = n ≤ 8
InRange (Clause n) = n ≤ 16
InRange (Goal n) = n ≤ 512
InRange End = Unit

-- rs ends with a clause record or a goal record, and the nodes e behind it
pub data EndsIn (rs : List Record) (e : Expr) : Type 0 where
  in_clause : (before : List Record) (n : ℕ) → rs ≡ before ++ Clause n ∷ node_records e → EndsIn rs e
  in_goal : (before : List Record) (n : ℕ) → rs ≡ before ++ Goal n ∷ node_records e → EndsIn rs e

abbrev pub clause_count : List Record → ℕ
clause_count [] = 0
clause_count (Variable v ∷ rs) = clause_count rs
clause_count (Constant c ∷ rs) = clause_count rs
clause_count (Compound f n ∷ rs) = clause_count rs
clause_count (Formula p n ∷ rs) = clause_count rs
clause_count (Clause n ∷ rs) = suc (clause_count rs)
clause_count (Goal n ∷ rs) = clause_count rs
clause_count (End ∷ rs) = clause_count rs

-- 4: "A size is passed at the 513th clause record, the 257th node of a clause, the 4,097th node of a query, or a book variable numbered 64 or more."
pub data SizePassed (form : Form) (rs : List Record) (r : Record) : Type 0 where
  clause_passed : (n : ℕ) → form ≡ Book → r ≡ Clause n → 512 ≤ clause_count rs → SizePassed form rs r
  node_passed : (x : Node) (e : Expr) → r ≡ node_record x → EndsIn rs e → pair form 256 4096 ≤ length e → SizePassed form rs r
  variable_passed : (v : ℕ) → form ≡ Book → r ≡ Variable v → 64 ≤ v → SizePassed form rs r

-- the least number that is no variable of e
pub record NextUnused (e : Expr) (n : ℕ) : Type 0 where
  pub unused : In n e → ⊥
  pub used : (v : ℕ) → v < n → In v e

-- 5: "variable number above the next unused one"
pub record NumberAbove (rs : List Record) (r : Record) : Type 0 where
  pub nodes : Expr
  pub next : ℕ
  pub number : ℕ
  pub is : r ≡ Variable number
  pub since : EndsIn rs nodes
  pub unused : NextUnused nodes next
  pub above : next < number

-- The first fault

-- the bytes `rest` begin with the record r, whose kind is allowed
pub record Stands (form : Form) (rs : List Record) (rest : List ℕ) (r : Record) : Type 0 where
  pub later : List ℕ
  pub bytes : rest ≡ encode_record r ++ later
  pub allowed : KindAllowed form rs (record_kind r)

-- what stands behind rs fails a test and none before it: "kind, body cut, range, size, variable number", and the arity, "the last check within a record": a formula
-- before it, of the book or of the query, uses its predicate number with another. A record is missing where nothing stands there and rs is
-- not complete; behind complete records no kind is allowed, so any byte there is one after the end; a body is cut where less is left than its record is long.
pub data Fails (form : Form) (us : List Use) (rs : List Record) (rest : List ℕ) (code : ℕ) : Type 0 where
  missing : rest ≡ [] → (Complete form rs → ⊥) → code ≡ pair form 2 12 → Fails form us rs rest code
  of_kind : (kind : ℕ) (later : List ℕ) → rest ≡ kind ∷ later → (KindAllowed form rs kind → ⊥) → code ≡ pair form 2 12 → Fails form us rs rest code
  of_cut : (kind : ℕ) (later : List ℕ) → rest ≡ kind ∷ later → (a : KindAllowed form rs kind) → length rest < length (encode_record a.like) →
      code ≡ pair form 3 13 → Fails form us rs rest code
  of_range : (r : Record) → Stands form rs rest r → (InRange r → ⊥) → code ≡ pair form 4 14 → Fails form us rs rest code
  of_size : (r : Record) → Stands form rs rest r → InRange r → SizePassed form rs r → code ≡ pair form 5 15 → Fails form us rs rest code
  of_number : (r : Record) → Stands form rs rest r → InRange r → (SizePassed form rs r → ⊥) → NumberAbove rs r → code ≡ pair form 6 16 → Fails form us rs rest code
  of_arity : (r : Record) → Stands form rs rest r → InRange r → (SizePassed form rs r → ⊥) → (NumberAbove rs r → ⊥) → AnotherArity (us ++ uses_of rs) r → code ≡ pair form 7 17 → Fails form us rs rest code

-- no size is passed in rs
abbrev pub WithinSizes : Form → List Record → Type 0
WithinSizes form rs = (before : List Record) (r : Record) (more : List Record) → rs ≡ before ++ r ∷ more → SizePassed form before r → ⊥

-- a place up to which nothing is wrong: "Its place is the offset of its kind byte."
pub record GoodUpTo (form : Form) (us : List Use) (s : List ℕ) (place : ℕ) : Type 0 where
  pub before : List Record
  pub rest : List ℕ
  pub bytes : s ≡ encode before ++ rest
  pub offset : place ≡ length (encode before)
  pub begins : Beginning form before
  pub sizes : WithinSizes form before
  pub arities : OneArity (us ++ uses_of before)

-- "A book over 32,768 bytes is code 5 at place 32,768, and a query over 16,387 bytes is code 15 at place 16,387, before any record is read. Otherwise records
-- are read in order and the first bad one decides."
pub data Faulty (form : Form) (us : List Use) (s : List ℕ) (code place : ℕ) : Type 0 where
  over_long : pair form 32768 16387 < length s → code ≡ pair form 5 15 → place ≡ pair form 32768 16387 → Faulty form us s code place
  at_place : length s ≤ pair form 32768 16387 → (g : GoodUpTo form us s place) → Fails form us g.before g.rest code → Faulty form us s code place

-- the image of a good book, or of a good goal, that keeps one arity
abbrev pub Good : Form → List Use → List ℕ → Type 0
Good Book us s = (b : Next.Book) × GoodBook b × OneArity (us ++ book_uses b) × (encode_book b ≡ s)
Good Query us s = (g : Next.Goal) × GoodGoal g × OneArity (us ++ goal_uses g) × (encode_goal g ≡ s)
