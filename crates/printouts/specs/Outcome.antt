-- What printing answers (document 02, C-14).
use Rattle.std.specs.Prelude.{ℕ, ◌≤◌, ◌<◌, ◌≡◌, ◌⊎◌, Bool, not, ◌||◌, List, ◌++◌, length, drop, eqb, ltb}
use Rattle.terms.specs.When.{◌⇒◌∣◌}
use Rattle.terms.specs.Node.{Expr}
use Rattle.words.specs.Flat.{flat}
use Rattle.format.specs.declared.Check.{Check}
use Rattle.format.specs.Reading.{book_verdict, query_verdict}
use Rattle.format.specs.Decode.{book_of, goal_of}
use Rattle.printing.specs.Named.{Naming, printed, printed_goal}
use Rattle.printing.specs.Renumbered.{book_nodes}
use Rattle.namelist.specs.List.{Entry, IsList, naming}
use Rattle.namelist.specs.Bytes.{entries_of, is_list}
use Rattle.namelist.specs.NamingLaws.{AllNamed, Unnamed, all_named}
use Rattle.printouts.specs.declared.Printout.{Printout}

abbrev pub refusal : ℕ → ℕ → Printout
refusal code place = record { code = code; place = place; bytes = 0 }

abbrev pub done : ℕ → Printout
done n = record { code = 0; place = 0; bytes = n }

-- What is printed: what its check answers, its nodes, and its text by what its symbols are called.
module _ (found : Check) (e : Expr) (text : Naming → List ℕ) (names area : List ℕ) where
  -- "Refusals: book codes, 45 a list not in C-13's form or a name shared by two symbols of one sort, 44 a used symbol has no name, 46 the text doesn't fit the text area or is
  -- over 65,536 bytes; in this order." Nothing is written then; "44, 45, 46 have place 0".
  pub data Prints : Printout → List ℕ → Type 0 where
    not_good : (found.code ≡ 0 → ⊥) → Prints (refusal found.code found.place) area
    no_list : found.code ≡ 0 → ((l : List Entry) → IsList names l → ⊥) → Prints (refusal 45 0) area
    no_name : {l : List Entry} → found.code ≡ 0 → IsList names l → Unnamed l e → Prints (refusal 44 0) area
    no_room : {l : List Entry} → found.code ≡ 0 → IsList names l → AllNamed l e → (65536 < length (text (naming l))) ⊎ (length area < length (text (naming l))) → Prints (refusal 46 0) area
    prints : {l : List Entry} → found.code ≡ 0 → IsList names l → AllNamed l e → length (text (naming l)) ≤ 65536 → length (text (naming l)) ≤ length area →
        Prints (done (length (text (naming l)))) (text (naming l) ++ drop (length (text (naming l))) area)

  -- The same, computed

  abbrev pub text_by : List ℕ
  text_by = text (naming (entries_of names))

  abbrev pub too_long : Bool
  too_long = ltb 65536 (length text_by) || ltb (length area) (length text_by)

  unfoldable pub outcome : Printout
  outcome =
      not (eqb found.code 0) ⇒ refusal found.code found.place
      ∣ not (is_list names) ⇒ refusal 45 0
      ∣ not (all_named (entries_of names) e) ⇒ refusal 44 0
      ∣ too_long ⇒ refusal 46 0
      ∣ done (length text_by)

  -- the text at the area's front, the rest as it was
  unfoldable pub outcome_area : List ℕ
  outcome_area = eqb outcome.code 0 ⇒ text_by ++ drop (length text_by) area ∣ area

-- "Write a good book with its name list as text"
abbrev pub PrintsBook : List ℕ → List ℕ → List ℕ → Printout → List ℕ → Type 0
PrintsBook book names area = Prints (book_verdict book) (book_nodes (book_of book)) (λ name. printed name (book_of book)) names area

abbrev pub print_answer : List ℕ → List ℕ → List ℕ → Printout
print_answer book names area = outcome (book_verdict book) (book_nodes (book_of book)) (λ name. printed name (book_of book)) names area

abbrev pub print_area : List ℕ → List ℕ → List ℕ → List ℕ
print_area book names area = outcome_area (book_verdict book) (book_nodes (book_of book)) (λ name. printed name (book_of book)) names area

-- the same for a goal or an answer that is good by its book
abbrev pub PrintsGoal : List ℕ → List ℕ → List ℕ → List ℕ → Printout → List ℕ → Type 0
PrintsGoal book goal names area = Prints (query_verdict book goal) (flat (goal_of goal)) (λ name. printed_goal name (goal_of goal)) names area

abbrev pub goal_answer : List ℕ → List ℕ → List ℕ → List ℕ → Printout
goal_answer book goal names area = outcome (query_verdict book goal) (flat (goal_of goal)) (λ name. printed_goal name (goal_of goal)) names area

abbrev pub goal_area : List ℕ → List ℕ → List ℕ → List ℕ → List ℕ
goal_area book goal names area = outcome_area (query_verdict book goal) (flat (goal_of goal)) (λ name. printed_goal name (goal_of goal)) names area
