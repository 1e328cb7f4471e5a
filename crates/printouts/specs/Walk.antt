-- The text of a book or a goal, record by record: what each record adds to it. That this is the text by trees: WalkLaws.
use Rattle.std.specs.Prelude.{ℕ, zero, suc, List, [], ◌∷◌, ◌++◌, length, ltb}
use Rattle.terms.specs.When.{◌⇒◌∣◌}
use Rattle.format.specs.declared.Record.{Record}
use Rattle.format.specs.declared.Record.TheVariants.{Variable, Constant, Compound, Formula, Clause, Goal, End}
use Rattle.grammar.specs.Names as Names
use Rattle.printing.specs.Named.{Naming, variable_name}
use Rattle.printouts.specs.declared.Turn.{Turn}
use Rattle.printouts.specs.declared.Turn.TheVariants as T

-- What stands before a formula, and behind a clause, by where the text stands

abbrev pub sign : Turn → List ℕ
sign T.Start = []
sign T.Head = []
sign T.First = 32 ∷ 58 ∷ 45 ∷ 32 ∷ []
sign T.Later = 44 ∷ 32 ∷ []
sign T.Goal = []

abbrev pub ending : Turn → List ℕ
ending T.Start = []
ending T.Head = 46 ∷ 10 ∷ []
ending T.First = 46 ∷ 10 ∷ []
ending T.Later = 46 ∷ 10 ∷ []
ending T.Goal = 46 ∷ 10 ∷ []

-- behind a formula
abbrev pub next_turn : Turn → Turn
next_turn T.Start = T.Later
next_turn T.Head = T.First
next_turn T.First = T.Later
next_turn T.Later = T.Later
next_turn T.Goal = T.Later

abbrev pub turn_after : Turn → Record → Turn
turn_after turn (Variable v) = turn
turn_after turn (Constant c) = turn
turn_after turn (Compound f n) = turn
turn_after turn (Formula p n) = next_turn turn
turn_after turn (Clause n) = T.Head
turn_after turn (Goal n) = T.Goal
turn_after turn End = T.Start

-- What is owed: the arguments still to come of each symbol that is open, the innermost first.

-- one of them begins
abbrev pub begun : List ℕ → List ℕ
begun [] = []
begun (zero ∷ o) = zero ∷ o
begun (suc n ∷ o) = n ∷ o

-- a term ends: brackets close round it, and a comma stands before the next one
abbrev pub closings : List ℕ → List ℕ
closings [] = []
closings (zero ∷ o) = 41 ∷ closings o
closings (suc n ∷ o) = 44 ∷ []

abbrev pub left : List ℕ → List ℕ
left [] = []
left (zero ∷ o) = left o
left (suc n ∷ o) = suc n ∷ o

-- a symbol with arguments; no more than 4,096 are ever open
abbrev pub deeper : ℕ → List ℕ → List ℕ
deeper n o = ltb (length o) 4096 ⇒ n ∷ o ∣ o

abbrev pub opened : ℕ → List ℕ
opened zero = []
opened (suc n) = suc n ∷ []

abbrev pub bracket : ℕ → List ℕ
bracket zero = []
bracket (suc n) = 40 ∷ []

abbrev pub owed_after : List ℕ → Record → List ℕ
owed_after o (Variable v) = left (begun o)
owed_after o (Constant c) = left (begun o)
owed_after o (Compound f n) = deeper n (begun o)
owed_after o (Formula p n) = opened n
owed_after o (Clause n) = []
owed_after o (Goal n) = []
owed_after o End = []

module _ (name : Naming) where
  abbrev pub piece : Turn → List ℕ → Record → List ℕ
  piece turn o (Variable v) = variable_name v ++ closings (begun o)
  piece turn o (Constant c) = name Names.Constant c ++ closings (begun o)
  piece turn o (Compound f n) = name Names.Compound f ++ (40 ∷ [])
  piece turn o (Formula p n) = sign turn ++ (name Names.Predicate p ++ bracket n)
  piece turn o (Clause n) = ending turn
  piece turn o (Goal n) = []
  piece turn o End = ending turn

  abbrev pub walked : Turn → List ℕ → List Record → List ℕ
  walked turn o [] = []
  walked turn o (r ∷ rs) = piece turn o r ++ walked (turn_after turn r) (owed_after o r) rs
