-- How big the figures of printing are, and that the parts of the number are theirs.
use Rattle.std.specs.Prelude.{ℕ, ◌+◌, ◌*◌, ◌/◌, ◌%◌, ◌^◌, ◌≤◌, ◌<◌, ◌≡◌, refl, List, eqb}
use Rattle.std.proofs.Common.{sym as inv, subst, inl, inr, arith, eqb-true, eq-eqb, ne_eqb}
use Rattle.std.proofs.Math.Decide.{ℕ_discrete}
use Rattle.std.proofs.lemmas.Bool.{eqb-false}
use Rattle.terms.specs.Cases.{cases}
use Rattle.terms.specs.Node.{Expr}
use Rattle.words.specs.Flat.{flat}
use Rattle.format.specs.declared.Check.{Check}
use Rattle.format.specs.Reading.{book_verdict, query_verdict}
use Rattle.format.specs.Decode.{book_of, goal_of}
use Rattle.format.proofs.Codes.{Coded, book-coded, query-coded}
use Rattle.areas.proofs.Places.{book-place, query-place}
use Rattle.printing.specs.Named.{Naming, printed, printed_goal}
use Rattle.printing.specs.Renumbered.{book_nodes}
use Rattle.namelist.specs.Bytes.{is_list, entries_of}
use Rattle.namelist.specs.NamingLaws.{all_named}
use Rattle.printouts.specs.declared.Printout.{Printout}
use Rattle.printouts.specs.Outcome.{refusal, outcome, too_long, print_answer, goal_answer}
use Rattle.printouts.proofs.OutcomeLaws.{is-not-good, is-no-list, is-no-name, is-no-room, is-printed, short-means}
use Rattle.printouts.specs.Answer.{unnumbered, answer_verdict, found_answer}
use Rattle.textnumbers.specs.Numbers.{text_field, text_number, TextNarrow}

-- a check's code and place
record Small (c : Check) : Type 0 where
  code : c.code < 256
  place : c.place ≤ 32768

module _ (found : Check) (e : Expr) (text : Naming → List ℕ) (names area : List ℕ) (small : Small found) where
  refused : (code place : ℕ) → code < 256 → place ≤ 32768 → TextNarrow (refusal code place)
  refused code place h l = record { code = h; place = omega (arith, l); bytes = omega arith }

  outcome-narrow : TextNarrow (outcome found e text names area)
  outcome-narrow =
      cases (eqb found.code 0)
      (λ z.
      let good = eqb-true found.code 0 z in
      cases (is_list names)
      (λ l.
      cases (all_named (entries_of names) e)
      (λ n.
      cases (too_long found e text names area) (λ w. subst TextNarrow (is-no-room found e text names area good l n w).answer (refused 46 0 (omega arith) (omega arith)))
      (λ w.
      let s = (short-means found e text names area w).0 in
      subst TextNarrow (is-printed found e text names area good l n w).answer (record { code = omega arith; place = omega arith; bytes = omega (arith, s) })))
      (λ n. subst TextNarrow (is-no-name found e text names area good l n).answer (refused 44 0 (omega arith) (omega arith))))
      (λ l. subst TextNarrow (is-no-list found e text names area good l).answer (refused 45 0 (omega arith) (omega arith))))
      (λ z. subst TextNarrow (is-not-good found e text names area (eqb-false found.code 0 z)).answer (refused found.code found.place small.code small.place))

low : (least code : ℕ) → least ≤ 12 → Coded least code → code ≤ 17
low least code l (inl z) = omega arith
low least code l (inr k) = omega (arith, k.1)

book-small : (book : List ℕ) → Small (book_verdict book)
book-small book = record { code = omega (arith, low 2 (book_verdict book).code (omega arith) (book-coded book)); place = book-place book }

query-of-bad : (book query : List ℕ) → ((book_verdict book).code ≡ 0 → ⊥) → query_verdict book query ≡ book_verdict book
unfolding query_verdict
query-of-bad book query n = rw (ne_eqb (book_verdict book).code 0 n) refl

query-small : (book query : List ℕ) → Small (query_verdict book query)
query-small book query = elim (ℕ_discrete (book_verdict book).code 0) [
  | yes z ↦ record { code = omega (arith, low 12 (query_verdict book query).code (omega arith) (query-coded book query z)); place = omega (arith, query-place book query z) }
  | no n ↦ subst Small (inv (query-of-bad book query n)) (book-small book)
]

pub book-narrow : (book names area : List ℕ) → TextNarrow (print_answer book names area)
book-narrow book names area = outcome-narrow (book_verdict book) (book_nodes (book_of book)) (λ name. printed name (book_of book)) names area (book-small book)

pub goal-narrow : (book goal names area : List ℕ) → TextNarrow (goal_answer book goal names area)
goal-narrow book goal names area = outcome-narrow (query_verdict book goal) (flat (goal_of goal)) (λ name. printed_goal name (goal_of goal)) names area (query-small book goal)

pub answer-narrow : (book answer names area : List ℕ) → TextNarrow (found_answer book answer names area)
answer-narrow book answer names area = outcome-narrow (answer_verdict book answer) (flat (goal_of answer)) (λ name. printed_goal name (goal_of answer)) names area (query-small book (unnumbered answer))

-- the number's parts, of each of the three
module _ (p : Printout) (n : TextNarrow p) where
  field-narrow : text_field p < 2 ^ 24
  field-narrow = cases (eqb p.code 0) (λ z. rw z n.bytes) (λ z. rw z n.place)

  pub text-parts : (text_number p % 256 ≡ p.code) × (text_number p / 256 % 2 ^ 24 ≡ text_field p) × (text_number p / 2 ^ 32 ≡ 0)
  text-parts = (omega (arith, n.code, field-narrow), omega (arith, n.code, field-narrow), omega (arith, n.code, field-narrow))

  pub number-printed : p.code ≡ 0 → text_number p ≡ 256 * p.bytes
  number-printed z = rw (eq-eqb p.code 0 z) (omega (arith, z))

  pub number-refused : (p.code ≡ 0 → ⊥) → text_number p ≡ p.code + 256 * p.place
  number-refused z = rw (ne_eqb p.code 0 z) refl
