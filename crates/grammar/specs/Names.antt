-- From names to numbers (document 02, C-13): "Names get numbers from 0 by first appearance, arity aside, separately for the three sorts of symbol";
-- "each lone `_` a new variable".
use Rattle.std.specs.Prelude.{ℕ, zero, suc, ◌/◌, ◌%◌, Bool, true, false, ◌&&◌, List, [], ◌∷◌, ◌++◌, map, length, eqb}
use Rattle.terms.specs.Node.{Symbol, constant, compound, predicate, var, sym, Expr}
use Rattle.terms.specs.When.{◌⇒◌∣◌}
use Rattle.search.specs.Next as Next
use Rattle.grammar.specs.Syntax.{Terms, none, variable_then, name_then, Formula, Rule}

-- Nodes with names, in the order of the text

-- the record kinds 02, 03 and 04
pub data Sort : Type 0 where
  Constant : Sort
  Compound : Sort
  Predicate : Sort

-- a variable; or a symbol, with its arity
pub data Spot : Type 0 where
  variable_spot : List ℕ → Spot
  symbol_spot : Sort → List ℕ → ℕ → Spot

abbrev pub count : Terms → ℕ
count none = 0
count (variable_then w ts) = suc (count ts)
count (name_then w own ts) = suc (count ts)

-- a name that stands alone is a constant
abbrev pub called : ℕ → Sort
called zero = Constant
called (suc n) = Compound

abbrev pub spots_then : Terms → List Spot → List Spot
spots_then none r = r
spots_then (variable_then w ts) r = variable_spot w ∷ spots_then ts r
spots_then (name_then w own ts) r = symbol_spot (called (count own)) w (count own) ∷ spots_then own (spots_then ts r)

abbrev pub formula_spots : Formula → List Spot
formula_spots f = symbol_spot Predicate f.symbol (count f.arguments) ∷ spots_then f.arguments []

abbrev pub formulas_spots : List Formula → List Spot
formulas_spots [] = []
formulas_spots (f ∷ fs) = formula_spots f ++ formulas_spots fs

abbrev pub rule_spots : Rule → List Spot
rule_spots c = formulas_spots (c.head ∷ c.body)

abbrev pub text_spots : List Rule → List Spot
text_spots [] = []
text_spots (c ∷ cs) = rule_spots c ++ text_spots cs

-- Names by first appearance

abbrev pub same_name : List ℕ → List ℕ → Bool
same_name [] [] = true
same_name [] (b ∷ v) = false
same_name (a ∷ w) [] = false
same_name (a ∷ w) (b ∷ v) = eqb a b && same_name w v

-- where a name stands first in a list: its index, or the list's length
abbrev pub place : List ℕ → List (List ℕ) → ℕ
place w [] = 0
place w (v ∷ l) = same_name w v ⇒ 0 ∣ suc (place w l)

abbrev pub within : List ℕ → List (List ℕ) → Bool
within w [] = false
within w (v ∷ l) = same_name w v ⇒ true ∣ within w l

-- those seen, with w at the end unless it is there
abbrev pub grow : List (List ℕ) → List ℕ → List (List ℕ)
grow seen w = within w seen ⇒ seen ∣ seen ++ (w ∷ [])

abbrev pub is_sort : Sort → Sort → Bool
is_sort Constant Constant = true
is_sort Constant Compound = false
is_sort Constant Predicate = false
is_sort Compound Constant = false
is_sort Compound Compound = true
is_sort Compound Predicate = false
is_sort Predicate Constant = false
is_sort Predicate Compound = false
is_sort Predicate Predicate = true

-- the names of a sort after those of `seen`, by first appearance
abbrev pub names_after : Sort → List (List ℕ) → List Spot → List (List ℕ)
names_after k seen [] = seen
names_after k seen (variable_spot w ∷ e) = names_after k seen e
names_after k seen (symbol_spot j w n ∷ e) = names_after k (is_sort k j ⇒ grow seen w ∣ seen) e

abbrev pub names : List Rule → Sort → List (List ℕ)
names cs k = names_after k [] (text_spots cs)

-- Variables of a clause

abbrev pub lone : List ℕ → Bool
lone w = same_name w (95 ∷ [])

-- the number of a variable behind those seen
abbrev pub variable_number : List (List ℕ) → List ℕ → ℕ
variable_number seen w = lone w ⇒ length seen ∣ place w seen

abbrev pub with_variable : List (List ℕ) → List ℕ → List (List ℕ)
with_variable seen w = lone w ⇒ seen ++ (w ∷ []) ∣ grow seen w

abbrev pub variables_after : List (List ℕ) → List Spot → List (List ℕ)
variables_after seen [] = seen
variables_after seen (variable_spot w ∷ e) = variables_after (with_variable seen w) e
variables_after seen (symbol_spot k w n ∷ e) = variables_after seen e

-- The book

abbrev pub symbol_for : Sort → ℕ → ℕ → Symbol
symbol_for Constant c n = constant c
symbol_for Compound f n = compound f n
symbol_for Predicate p n = predicate p n

module _ (table : Sort → List (List ℕ)) where
  abbrev pub numbered : List (List ℕ) → List Spot → Expr
  numbered seen [] = []
  numbered seen (variable_spot w ∷ e) = var (variable_number seen w) ∷ numbered (with_variable seen w) e
  numbered seen (symbol_spot k w n ∷ e) = sym (symbol_for k (place w (table k)) n) ∷ numbered seen e

  abbrev pub numbered_all : List (List ℕ) → List Formula → Next.Goal
  numbered_all seen [] = []
  numbered_all seen (f ∷ fs) = numbered seen (formula_spots f) ∷ numbered_all (variables_after seen (formula_spots f)) fs

  -- variables are numbered afresh in each clause, head first
  abbrev pub clause : Rule → Next.Clause
  clause c =
      record { head = numbered [] (formula_spots c.head); body = numbered_all (variables_after [] (formula_spots c.head)) c.body }

abbrev pub book : List Rule → Next.Book
book cs = map (clause (names cs)) cs

-- The name list: "record kind, number, length in one byte, name; entries rise by kind, then number"

abbrev pub kind : Sort → ℕ
kind Constant = 2
kind Compound = 3
kind Predicate = 4

abbrev pub entries : Sort → ℕ → List (List ℕ) → List ℕ
entries k n [] = []
entries k n (w ∷ l) = (kind k ∷ n / 256 ∷ n % 256 ∷ length w ∷ w) ++ entries k (suc n) l

abbrev pub list_of : (Sort → List (List ℕ)) → List ℕ
list_of table = entries Constant 0 (table Constant) ++ (entries Compound 0 (table Compound) ++ entries Predicate 0 (table Predicate))

abbrev pub name_list : List Rule → List ℕ
name_list cs = list_of (names cs)
