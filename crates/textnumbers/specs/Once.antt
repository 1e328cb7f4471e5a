-- For each entry for C: no two outcomes satisfy its contract.
use Rattle.std.specs.Prelude.{ℕ, ◌≡◌, List}
use Rattle.std.proofs.Common.{sym as inv, ◌∙◌}
use Rattle.printouts.specs.declared.Printout.{Printout}
use Rattle.printouts.specs.Outcome.{print_answer, print_area, goal_answer, goal_area}
use Rattle.printouts.specs.Answer.{found_answer, found_area}
use Rattle.readouts.specs.Outcome.{read_answer, read_book, names_read}
use Rattle.questions.specs.Outcome.{outcome, query_area, list_area}
use Rattle.textnumbers.specs.Numbers.{text_number, read_number, query_number}

-- a number and an area that are said
abbrev Says : Printout → List ℕ → ℕ → List ℕ → Type 0
Says p s n t = (n ≡ text_number p) × (t ≡ s)

one : (p : Printout) (s : List ℕ) {n n' : ℕ} {t t' : List ℕ} → Says p s n t → Says p s n' t' → (n ≡ n') × (t ≡ t')
one p s (a, b) (a', b') = (a ∙ inv a', b ∙ inv b')

module _ (book names area : List ℕ) where
  pub print_book_number_once : {n n' : ℕ} {t t' : List ℕ} → Says (print_answer book names area) (print_area book names area) n t → Says (print_answer book names area) (print_area book names area) n' t' → (n ≡ n') × (t ≡ t')
  print_book_number_once = one (print_answer book names area) (print_area book names area)

module _ (book goal names area : List ℕ) where
  pub print_goal_number_once : {n n' : ℕ} {t t' : List ℕ} → Says (goal_answer book goal names area) (goal_area book goal names area) n t → Says (goal_answer book goal names area) (goal_area book goal names area) n' t' → (n ≡ n') × (t ≡ t')
  print_goal_number_once = one (goal_answer book goal names area) (goal_area book goal names area)

  pub print_answer-number_once : {n n' : ℕ} {t t' : List ℕ} → Says (found_answer book goal names area) (found_area book goal names area) n t → Says (found_answer book goal names area) (found_area book goal names area) n' t' → (n ≡ n') × (t ≡ t')
  print_answer-number_once = one (found_answer book goal names area) (found_area book goal names area)

-- a number and both areas
module _ (text books lists : List ℕ) where
  abbrev SaysRead : ℕ → List ℕ → List ℕ → Type 0
  SaysRead n b l = (n ≡ read_number (read_answer text books lists)) × (b ≡ read_book text books lists) × (l ≡ names_read text books lists)

  pub read-text-number_once : {n n' : ℕ} {b b' l l' : List ℕ} → SaysRead n b l → SaysRead n' b' l' → (n ≡ n') × (b ≡ b') × (l ≡ l')
  read-text-number_once (p, q, s) (p', q', s') = (p ∙ inv p', q ∙ inv q', s ∙ inv s')

module _ (text book names query list : List ℕ) where
  abbrev SaysQuery : ℕ → List ℕ → List ℕ → Type 0
  SaysQuery n q l = (n ≡ query_number (outcome text book names query list)) × (q ≡ query_area text book names query list) × (l ≡ list_area text book names query list)

  pub read-query-number_once : {n n' : ℕ} {q q' l l' : List ℕ} → SaysQuery n q l → SaysQuery n' q' l' → (n ≡ n') × (q ≡ q') × (l ≡ l')
  read-query-number_once (a, b, c) (a', b', c') = (a ∙ inv a', b ∙ inv b', c ∙ inv c')
