-- Printing and reading together (document 02, C-14), over the entries' contracts: what printing a goal or an answer leaves, reading against the same book and names answers with the same
-- goal, or with the answer whose variables are numbered afresh, and with the same names, and with nothing else but 43.
use Rattle.std.specs.Prelude.{ℕ, ◌≤◌, ◌<◌, ◌≡◌, refl, ◌⊎◌, List, [], ◌∷◌, ◌++◌, length}
use Rattle.std.proofs.Common.{sym as inv, ap, ◌∙◌, subst}
use Rattle.terms.specs.Node.{constant, compound, predicate, var, sym, Expr}
use Rattle.terms.specs.Number.{number, number_all, grow}
use Rattle.search.specs.Next as Next
use Rattle.words.specs.Flat.{flat, flat-number}
use Rattle.format.specs.Reading.{book_verdict, query_verdict}
use Rattle.format.specs.Decode.{book_of, goal_of}
use Rattle.format.specs.Format.{Bytes, encode_goal}
use Rattle.format.specs.Arities.{Use, use_of, node_uses, book_uses, OneArity, Suits}
use Rattle.format.proofs.Meaning.{query-book}
use Rattle.format.proofs.Decoding.{goal_of-suits}
use Rattle.grammar.specs.Names.{list_of}
use Rattle.grammar.specs.Query.{Given, names_with, goal, ReadingQuery}
use Rattle.asking.specs.Accepted.{Accepted}
use Rattle.namelist.specs.List.{Entry, IsList, naming}
use Rattle.namelist.specs.Meaning.{entries-one}
use Rattle.namelist.specs.Table.{table_entries, table-naming}
use Rattle.printouts.specs.Outcome.{goal_answer}
use Rattle.printouts.specs.Answer.{unnumbered, answer_verdict, found_answer}
use Rattle.printouts.proofs.AnswerLaws.{found-good, found-suits}
use Rattle.printouts.proofs.AgainGoal.{Tells, goal-out, goal-good, goal-checked, goal_text_of, goal-is-read, found-checked, found_text_of, found-is-read}
use Rattle.questions.specs.declared.ReadQuery.{ReadQuery}
use Rattle.questions.specs.Given.{Gives}
use Rattle.questions.proofs.GivenLaws.{listed}
use Rattle.questions.specs.Outcome.{refusal, filled}
use Rattle.questions.proofs.OutcomeLaws.{no_room, reads, reads-is}
use Rattle.questions.specs.Is.{Is}

abbrev pub done : ℕ → ℕ → ReadQuery
done q n = record { code = 0; place = 0; query = q; names = n }

-- reading the text against a book and a list gives this goal and the same names where there is room for them, and 43 where there is none
pub record Back (text book names : List ℕ) (g : Next.Goal) : Type 0 where
  pub given : (query list : List ℕ) → length (encode_goal g) ≤ length query → length names ≤ length list →
      Is text book names query list (done (length (encode_goal g)) (length names)) (filled (encode_goal g) query) (filled names list)
  pub full : (query list : List ℕ) → (length query < length (encode_goal g)) ⊎ (length list < length names) → Is text book names query list (refusal 43 0) query list

module _ (text book names : List ℕ) (names-bytes : Bytes names) (checked : (book_verdict book).code ≡ 0) (given : Given) (v : Gives names given) where
  tells : (l : List Entry) → IsList names l → Tells l given
  tells l i k n = ap (λ (e : List Entry). naming e k n) (entries-one names l (table_entries given) i (listed names given v)) ∙ table-naming given k n

  back : (g : Next.Goal) → ReadingQuery given text g (list_of given) → Suits (book_of book) g → Back text book names g
  back g r s =
      let accepted : Accepted text r.formulas = record { asks = r.asks; sized = r.sized; short = r.short } in
      let goals : goal given r.formulas ≡ g = inv r.goal_is in
      let lists : list_of (names_with given r.formulas) ≡ names = inv r.list_is ∙ inv v.is in
      let suits : Suits (book_of book) (goal given r.formulas) = subst (Suits (book_of book)) r.goal_is s in
      record {
        given = λ query list h k.
            subst (λ (n : List ℕ). Is text book names query list (done (length (encode_goal g)) (length n)) (filled (encode_goal g) query) (filled n list)) lists
            (subst (λ (x : Next.Goal). Is text book names query list (done (length (encode_goal x)) (length (list_of (names_with given r.formulas)))) (filled (encode_goal x) query) (filled (list_of (names_with given r.formulas)) list)) goals
            (reads-is text book names query list names-bytes
            (reads checked v accepted suits (subst (λ (x : Next.Goal). length (encode_goal x) ≤ length query) (inv goals) h) (subst (λ (n : List ℕ). length n ≤ length list) (inv lists) k))));
        full = λ query list h.
            reads-is text book names query list names-bytes
            (no_room checked v accepted suits
            (subst (λ (n : List ℕ). (length query < length (encode_goal (goal given r.formulas))) ⊎ (length list < length n)) (inv lists)
            (subst (λ (x : Next.Goal). (length query < length (encode_goal x)) ⊎ (length list < length names)) (inv goals) h)));
      }

number-uses : (seen : List ℕ) (e : Expr) → node_uses (number seen e) ≡ node_uses e
number-uses seen [] = refl
number-uses seen (var v ∷ e) = number-uses (grow seen v) e
number-uses seen (sym (constant c) ∷ e) = number-uses seen e
number-uses seen (sym (compound f n) ∷ e) = number-uses seen e
number-uses seen (sym (predicate p n) ∷ e) = ap (λ (us : List Use). use_of p n ∷ us) (number-uses seen e)

module _ (book bytes names area : List ℕ) (book-bytes : Bytes book) (these : Bytes bytes) (names-bytes : Bytes names) (given : Given) (v : Gives names given) where
  -- a goal
  pub goal-printed-then-read : (goal_answer book bytes names area).code ≡ 0 → Back (goal_text_of book bytes names area these names-bytes) book names (goal_of bytes)
  goal-printed-then-read z =
      let c = goal-checked book bytes names area these names-bytes z in
      let o = goal-out (query_verdict book bytes) bytes names area names-bytes (goal-good book bytes names area these names-bytes) z in
      back (goal_text_of book bytes names area these names-bytes) book names names-bytes (query-book book bytes c) given v (goal_of bytes)
      (goal-is-read book bytes names area these names-bytes z given (tells (goal_text_of book bytes names area these names-bytes) book names names-bytes (query-book book bytes c) given v o.entries o.list))
      (goal_of-suits book bytes book-bytes these c)

  -- an answer
  pub found-printed-then-read : (found_answer book bytes names area).code ≡ 0 → Back (found_text_of book bytes names area these names-bytes) book names (number_all [] (goal_of bytes))
  found-printed-then-read z =
      let c = found-checked book bytes names area these names-bytes z in
      let o = goal-out (answer_verdict book bytes) bytes names area names-bytes (found-good book bytes these) z in
      let us : node_uses (flat (number_all [] (goal_of bytes))) ≡ node_uses (flat (goal_of bytes)) = ap node_uses (flat-number [] (goal_of bytes)) ∙ number-uses [] (flat (goal_of bytes)) in
      back (found_text_of book bytes names area these names-bytes) book names names-bytes (query-book book (unnumbered bytes) c) given v (number_all [] (goal_of bytes))
      (found-is-read book bytes names area these names-bytes z given (tells (found_text_of book bytes names area these names-bytes) book names names-bytes (query-book book (unnumbered bytes) c) given v o.entries o.list))
      (subst (λ (l : List Use). OneArity (book_uses (book_of book) ++ l)) (inv us) (found-suits book bytes these c book-bytes))
