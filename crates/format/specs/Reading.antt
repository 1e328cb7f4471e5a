-- What a check of a book or a query answers, record by record (document 01, "Records", "Sizes" and "Codes").
use Rattle.std.specs.Prelude.{ℕ, zero, suc, ◌+◌, ◌-◌, ◌*◌, ◌≤◌, ◌≡◌, Bool, true, false, not, ◌&&◌, ◌||◌, List, length, get_or, eqb, leb, ltb, Result, Ok, Err}
use Rattle.terms.specs.When.{◌⇒◌∣◌}
use Rattle.format.specs.declared.Check.{Check}
use Rattle.format.specs.declared.State.{State}
use Rattle.format.specs.declared.Form.{Form}
use Rattle.format.specs.declared.Form.TheVariants.{Book, Query}
use Rattle.format.specs.declared.Record.{Record}
use Rattle.format.specs.declared.Record.TheVariants.{Variable, Constant, Compound, Formula, Clause, Goal, End}
use Rattle.format.specs.declared.Fault.{Fault}
use Rattle.format.specs.declared.Fault.TheVariants.{Kind, Cut, Range, Size, Number, Arity}
use Rattle.format.specs.Arities.{Memory, nothing_met, meets, keeps}

-- Records

-- "a body whose length the kind fixes": 2 for 01 and 02, 3 for 03 and 04, 1 for 05, 2 for 06, none for 07
unfoldable pub body_length : ℕ → ℕ
body_length kind = leb kind 2 ⇒ 2 ∣ leb kind 4 ⇒ 3 ∣ eqb kind 5 ⇒ 1 ∣ eqb kind 6 ⇒ 2 ∣ 0

-- "Numbers are most significant byte first."
unfoldable pub number_at : List ℕ → ℕ → ℕ
number_at s at = get_or s at 0 * 256 + get_or s (at + 1) 0

-- the record of this kind whose kind byte stands at a place
unfoldable pub record_at : List ℕ → ℕ → ℕ → Record
record_at s at kind =
    eqb kind 1 ⇒ Variable (number_at s (at + 1))
    ∣ eqb kind 2 ⇒ Constant (number_at s (at + 1))
    ∣ eqb kind 3 ⇒ Compound (number_at s (at + 1)) (get_or s (at + 3) 0)
    ∣ eqb kind 4 ⇒ Formula (number_at s (at + 1)) (get_or s (at + 3) 0)
    ∣ eqb kind 5 ⇒ Clause (get_or s (at + 1) 0)
    ∣ eqb kind 6 ⇒ Goal (number_at s (at + 1))
    ∣ End

-- Sizes and codes

-- "Clause: 256 nodes"; "Goal: .. 4,096 nodes"
abbrev pub node_limit : Form → ℕ
node_limit Book = 256
node_limit Query = 4096

-- "variables 0 to 63"; a query has no limit of its own: a number of two bytes is below this
abbrev pub variable_limit : Form → ℕ
variable_limit Book = 64
variable_limit Query = 65536

-- "Book: 32,768 bytes"; a goal has "at most 16,387"
abbrev pub byte_limit : Form → ℕ
byte_limit Book = 32768
byte_limit Query = 16387

-- "The first number of a pair is for the book, the second for the query."
abbrev pub code_base : Form → ℕ
code_base Book = 0
code_base Query = 10

abbrev pub fault_number : Fault → ℕ
fault_number Kind = 2
fault_number Cut = 3
fault_number Range = 4
fault_number Size = 5
fault_number Number = 6
fault_number Arity = 7

-- "the clauses of a good book, the nodes of a good query"
abbrev pub count_of : Form → State → ℕ
count_of Book state = state.clauses
count_of Query state = state.nodes

-- "Codes 1 to 19 refuse the input .. and give .. every count 0."
abbrev pub refused : Form → Fault → ℕ → Check
refused form fault place = record { code = code_base form + fault_number fault; place = place; count = 0 }

-- The state after a record

-- before the first node of a clause or goal, or past its end
abbrev pub between : ℕ → ℕ → Bool → State
between formulas clauses closed = record { terms = 0; formulas = formulas; nodes = 0; variables = 0; clauses = clauses; closed = closed }

abbrev pub start : State
start = between 0 0 false

-- one node more, with what is owed then and the next unused variable
abbrev pub after_node : State → ℕ → ℕ → ℕ → State
after_node state terms formulas variables =
    record { terms = terms; formulas = formulas; nodes = state.nodes + 1; variables = variables; clauses = state.clauses; closed = state.closed }

unfoldable pub next_unused : ℕ → ℕ → ℕ
next_unused variables v = eqb v variables ⇒ variables + 1 ∣ variables

-- "Compound terms and formulas are followed by their arguments. A clause is followed by its head, then its body."
unfoldable pub after : State → Record → State
after state (Variable v) = after_node state (state.terms - 1) state.formulas (next_unused state.variables v)
after state (Constant c) = after_node state (state.terms - 1) state.formulas state.variables
after state (Compound f n) = after_node state (state.terms - 1 + n) state.formulas state.variables
after state (Formula p n) = after_node state n (state.formulas - 1) state.variables
after state (Clause n) = between (n + 1) (state.clauses + 1) state.closed
after state (Goal n) = between n 0 true
after state End = between 0 state.clauses true

-- counters that leave room to count on
pub record Small (state : State) : Type 0 where
  pub terms : state.terms ≤ 16777216
  pub nodes : state.nodes ≤ 65536
  pub variables : state.variables ≤ 65536
  pub clauses : state.clauses ≤ 65536

-- The tests of a record: "kind, body cut, range, size, variable number"; then the arity, "the last check within a record" (document 02, C-18)

-- the kinds that stand outside a clause or a goal: "a book is any number of clauses, then 07"; "a query is one goal"
abbrev pub opens : Form → ℕ → Bool
opens Book kind = eqb kind 5 || eqb kind 7
opens Query kind = eqb kind 6

-- whether a record of this kind may stand next: a term, if one is owed; else a formula, if one is; else nothing after the end
unfoldable pub allowed : Form → State → ℕ → Bool
allowed form state kind =
    ltb 0 state.terms ⇒ (leb 1 kind && leb kind 3)
    ∣ ltb 0 state.formulas ⇒ eqb kind 4
    ∣ state.closed ⇒ false
    ∣ opens form kind

-- the ranges of the table: arity "1 to 8", "0 to 8"; formulas "0 to 16", "0 to 512"
unfoldable pub in_range : Record → Bool
in_range (Variable v) = true
in_range (Constant c) = true
in_range (Compound f n) = leb 1 n && leb n 8
in_range (Formula p n) = leb n 8
in_range (Clause n) = leb n 16
in_range (Goal n) = leb n 512
in_range End = true

-- "A size is passed at the 513th clause record, the 257th node of a clause, the 4,097th node of a query, or a book variable numbered 64 or more."
unfoldable pub is_in_size : Form → State → Record → Bool
is_in_size form state (Variable v) = ltb state.nodes (node_limit form) && ltb v (variable_limit form)
is_in_size form state (Constant c) = ltb state.nodes (node_limit form)
is_in_size form state (Compound f n) = ltb state.nodes (node_limit form)
is_in_size form state (Formula p n) = ltb state.nodes (node_limit form)
is_in_size form state (Clause n) = ltb state.clauses 512
is_in_size form state (Goal n) = true
is_in_size form state End = true

-- not "above the next unused one"
unfoldable pub is_in_order : State → Record → Bool
is_in_order state (Variable v) = leb v state.variables
is_in_order state (Constant c) = true
is_in_order state (Compound f n) = true
is_in_order state (Formula p n) = true
is_in_order state (Clause n) = true
is_in_order state (Goal n) = true
is_in_order state End = true

unfoldable pub judge_record : Form → State → Memory → Record → Result State Fault
judge_record form state m item =
    not (in_range item) ⇒ Err Range
    ∣ not (is_in_size form state item) ⇒ Err Size
    ∣ not (is_in_order state item) ⇒ Err Number
    ∣ not (keeps m item) ⇒ Err Arity
    ∣ Ok (after state item)

unfoldable pub judge : Form → State → Memory → List ℕ → ℕ → Result State Fault
judge form state m s at =
    not (allowed form state (get_or s at 0)) ⇒ Err Kind
    ∣ leb (length s - at) (body_length (get_or s at 0)) ⇒ Err Cut
    ∣ judge_record form state m (record_at s at (get_or s at 0))

-- The answer

-- no term and no formula is owed, and the end of the book or the goal was read
unfoldable pub whole : State → Bool
whole state = ltb 0 state.terms ⇒ false ∣ ltb 0 state.formulas ⇒ false ∣ state.closed

-- where the input ends: good, or "a missing record"
unfoldable pub finish : Form → State → ℕ → Check
finish form state end = whole state ⇒ record { code = 0; place = 0; count = count_of form state } ∣ refused form Kind end

-- a record that was taken, and what is answered after it; or its fault: "Its place is the offset of its kind byte."
abbrev pub go_further : Form → ℕ → Result State Fault → (State → Check) → Check
go_further form at (Ok state) rest = rest state
go_further form at (Err fault) rest = refused form fault at

-- the records from a place on, k at most: "records are read in order and the first bad one decides"; "A missing record has the input's length as place."
unfoldable pub walk : Form → ℕ → List ℕ → ℕ → State → Memory → Check
walk form zero s at state m = finish form state (length s)
walk form (suc k) s at state m =
    ltb at (length s) ⇒ go_further form at (judge form state m s at) (λ next. walk form k s (at + 1 + body_length (get_or s at 0)) next (meets m (record_at s at (get_or s at 0))))
    ∣ finish form state (length s)

-- what is remembered after the records from a place on, k at most
unfoldable pub met_from : ℕ → List ℕ → ℕ → Memory → Memory
met_from zero s at m = m
met_from (suc k) s at m = ltb at (length s) ⇒ met_from k s (at + 1 + body_length (get_or s at 0)) (meets m (record_at s at (get_or s at 0))) ∣ m

-- "A book over 32,768 bytes is code 5 at place 32,768, and a query over 16,387 bytes is code 15 at place 16,387, before any record is read." A record is
-- at least one byte long, so there are not more of them than bytes.
unfoldable pub verdict : Form → Memory → List ℕ → Check
verdict form m s =
    ltb (byte_limit form) (length s) ⇒ refused form Size (byte_limit form)
    ∣ walk form (suc (length s)) s 0 start m

abbrev pub book_verdict : List ℕ → Check
book_verdict s = verdict Book nothing_met s

-- what a book leaves remembered
abbrev pub met : List ℕ → Memory
met s = met_from (suc (length s)) s 0 nothing_met

-- "The single query check now takes the book and checks it first" (document 02, C-18): the book's code and place, and count 0; then the query's, against its book.
unfoldable pub query_verdict : List ℕ → List ℕ → Check
query_verdict book s = eqb (book_verdict book).code 0 ⇒ verdict Query (met book) s ∣ book_verdict book

-- a query that is good by some book
pub record Askable (s : List ℕ) : Type 0 where
  pub book : List ℕ
  pub good : (query_verdict book s).code ≡ 0
