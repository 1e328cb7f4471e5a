-- The book and the goal that bytes are the image of, computed. Of the image of a good book, or a good goal, that is the one it is the image of
-- (`book_of-image`, `goal_of-image`).
use Rattle.std.specs.Prelude.{ℕ, zero, suc, ◌+◌, List, [], ◌∷◌, length, get_or, take, drop, ltb}
use Rattle.terms.specs.Node.{constant, compound, predicate, var, sym, Expr}
use Rattle.terms.specs.Row.{span}
use Rattle.terms.specs.When.{◌⇒◌∣◌}
use Rattle.search.specs.Next as Next
use Rattle.format.specs.declared.Record.{Record}
use Rattle.format.specs.declared.Record.TheVariants.{Variable, Constant, Compound, Formula, Clause, Goal, End}
use Rattle.format.specs.Reading.{body_length, record_at}

-- the records from a place on, k at most
abbrev pub records_from : ℕ → List ℕ → ℕ → List Record
records_from zero s at = []
records_from (suc k) s at = ltb at (length s) ⇒ record_at s at (get_or s at 0) ∷ records_from k s (at + 1 + body_length (get_or s at 0)) ∣ []

-- the nodes at the front
abbrev pub nodes_of : List Record → Expr
nodes_of [] = []
nodes_of (Variable v ∷ rs) = var v ∷ nodes_of rs
nodes_of (Constant c ∷ rs) = sym (constant c) ∷ nodes_of rs
nodes_of (Compound f n ∷ rs) = sym (compound f n) ∷ nodes_of rs
nodes_of (Formula p n ∷ rs) = sym (predicate p n) ∷ nodes_of rs
nodes_of (Clause n ∷ rs) = []
nodes_of (Goal n ∷ rs) = []
nodes_of (End ∷ rs) = []

-- the first n formulas
abbrev pub formulas_of : ℕ → Expr → Next.Goal
formulas_of zero e = []
formulas_of (suc n) e = take (span 1 e) e ∷ formulas_of n (drop (span 1 e) e)

-- a clause of its formulas, head first
abbrev pub clause_of : Next.Goal → Next.Clause
clause_of [] = record { head = []; body = [] }
clause_of (f ∷ g) = record { head = f; body = g }

-- a clause for each clause record
abbrev pub clauses_of : List Record → Next.Book
clauses_of [] = []
clauses_of (Variable v ∷ rs) = clauses_of rs
clauses_of (Constant c ∷ rs) = clauses_of rs
clauses_of (Compound f n ∷ rs) = clauses_of rs
clauses_of (Formula p n ∷ rs) = clauses_of rs
clauses_of (Clause n ∷ rs) = clause_of (formulas_of (suc n) (nodes_of rs)) ∷ clauses_of rs
clauses_of (Goal n ∷ rs) = clauses_of rs
clauses_of (End ∷ rs) = clauses_of rs

abbrev pub formulas_after : List Record → Next.Goal
formulas_after [] = []
formulas_after (Variable v ∷ rs) = []
formulas_after (Constant c ∷ rs) = []
formulas_after (Compound f n ∷ rs) = []
formulas_after (Formula p n ∷ rs) = []
formulas_after (Clause n ∷ rs) = []
formulas_after (Goal n ∷ rs) = formulas_of n (nodes_of rs)
formulas_after (End ∷ rs) = []

-- a record is at least one byte long
unfoldable pub book_of : List ℕ → Next.Book
book_of s = clauses_of (records_from (length s) s 0)

unfoldable pub goal_of : List ℕ → Next.Goal
goal_of s = formulas_after (records_from (length s) s 0)
