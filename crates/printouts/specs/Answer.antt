-- An answer of a run is no goal of the path: its variables keep the closing goal's numbers, and its own go on from there (document 02, C-11), so that 16 would refuse it
-- as a query. It is held to what a query is held to, the numbers of its variables apart: as the same bytes with 0 for each of them.
use Rattle.std.specs.Prelude.{ℕ, zero, suc, ◌+◌, List, length, get_or, set, eqb, ltb}
use Rattle.terms.specs.When.{◌⇒◌∣◌}
use Rattle.words.specs.Flat.{flat}
use Rattle.format.specs.declared.Check.{Check}
use Rattle.format.specs.Reading.{body_length, query_verdict}
use Rattle.format.specs.Decode.{goal_of}
use Rattle.printing.specs.Named.{printed_goal}
use Rattle.printouts.specs.declared.Printout.{Printout}
use Rattle.printouts.specs.Outcome.{Prints, outcome, outcome_area}

-- the record whose kind byte stands at a place, a variable's number 0
unfoldable pub clear_at : List ℕ → ℕ → List ℕ
clear_at s at = eqb (get_or s at 0) 1 ⇒ set (set s (at + 1) 0) (at + 2) 0 ∣ s

-- the records from a place on, k at most, as far as their bodies are whole
unfoldable pub cleared : ℕ → List ℕ → ℕ → List ℕ
cleared zero s at = s
cleared (suc k) s at = ltb (at + body_length (get_or s at 0)) (length s) ⇒ cleared k (clear_at s at) (at + 1 + body_length (get_or s at 0)) ∣ s

abbrev pub unnumbered : List ℕ → List ℕ
unnumbered s = cleared (length s) s 0

abbrev pub answer_verdict : List ℕ → List ℕ → Check
answer_verdict book s = query_verdict book (unnumbered s)

-- printed with the numbers that it has
abbrev pub PrintsFound : List ℕ → List ℕ → List ℕ → List ℕ → Printout → List ℕ → Type 0
PrintsFound book found names area = Prints (answer_verdict book found) (flat (goal_of found)) (λ name. printed_goal name (goal_of found)) names area

abbrev pub found_answer : List ℕ → List ℕ → List ℕ → List ℕ → Printout
found_answer book found names area = outcome (answer_verdict book found) (flat (goal_of found)) (λ name. printed_goal name (goal_of found)) names area

abbrev pub found_area : List ℕ → List ℕ → List ℕ → List ℕ → List ℕ
found_area book found names area = outcome_area (answer_verdict book found) (flat (goal_of found)) (λ name. printed_goal name (goal_of found)) names area
