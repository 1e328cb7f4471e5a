-- The answer of every run is printed: its check is good, whatever the run's code.
use Rattle.std.specs.Prelude.{ℕ, zero, suc, ◌≤◌, ◌≡◌, refl, List, [], ◌∷◌, ◌++◌, map, length, take, drop}
use Rattle.std.proofs.Common.{arith, zero-add, add_comm, sym as inv, ap, ap₂, ◌∙◌, subst, length-append}
use Rattle.std.proofs.Math.Option.{some, some-injective}
use Rattle.std.proofs.lemmas.List.{length-map}
use Rattle.std.proofs.Math.Seq.{take-append_seam}
use Rattle.terms.specs.Node.{constant, compound, predicate, var, sym, Expr}
use Rattle.terms.specs.Row.{Row, row_end, row_var, row_sym, Every}
use Rattle.terms.specs.Subst.{Subst, apply}
use Rattle.terms.specs.Substitution.{Symbols}
use Rattle.search.specs.Next.{Book, Goal}
use Rattle.search.specs.Step.{next, next_goal}
use Rattle.search.specs.Room.{nodes, fits_iff}
use Rattle.search.specs.Run.{goal_at}
use Rattle.search.proofs.NextTheorem.{next_iff}
use Rattle.search.proofs.PathLaws.{step-goal}
use Rattle.search.specs.Answer.{Answered, answer_at, Answers}
use Rattle.search.proofs.AnswerLaws.{small_iff, answer-zero, answered-runs}
use Rattle.search.proofs.AnswerRuns.{answers-goal}
use Rattle.search.proofs.AnswerGoals.{answer-every, both-numbered}
use Rattle.search.proofs.FollowsLaws.{answer_instance}
use Rattle.loops.specs.Path.{path-zero}
use Rattle.words.specs.Flat.{flat, flat-size, flat_append}
use Rattle.format.specs.Format.{Terms, terms_none, terms_var, terms_constant, terms_compound, IsFormula, formula, AreFormulas, Below, GoodBook, GoodGoal, encode_goal, Bytes}
use Rattle.format.specs.Arities.{Use, use_of, node_uses, goal_uses, book_uses, OneArity, Suits}
use Rattle.format.specs.Decode.{book_of, goal_of}
use Rattle.format.specs.declared.Check.{Check}
use Rattle.format.specs.Reading.{book_verdict}
use Rattle.format.proofs.Numbering.{ordered}
use Rattle.format.proofs.Meaning.{book_good}
use Rattle.format.specs.ArityLaws.{one_left}
use Rattle.format.proofs.Premises.{book-clauses}
use Rattle.areas.proofs.GoodGoals.{TermSymbol, Tabled, tabled, formulas-tabled, tabled-formulas, next-tabled, ordered-below, book-atomic, goal-atomics}
use Rattle.outcomes.specs.declared.Answer.{Answer}
use Rattle.outcomes.specs.Outcome.{closing, run_answer, run_answer_area}
use Rattle.outcomes.proofs.Demands.{taken}
use Rattle.printouts.specs.Answer.{answer_verdict}
use Rattle.printouts.proofs.AnswerImage.{found-image}

below_right : (n : ℕ) (a b : Expr) → Below n (a ++ b) → Below n b
below_right n [] b p = p
below_right n (var v ∷ a) b p = below_right n a b p.1
below_right n (sym s ∷ a) b p = below_right n a b p

below_left : (n : ℕ) (a b : Expr) → Below n (a ++ b) → Below n a
below_left n [] b p = tt
below_left n (var v ∷ a) b p = (p.0, below_left n a b p.1)
below_left n (sym s ∷ a) b p = below_left n a b p

terms_of : (e : Expr) {n : ℕ} → Row n e → Symbols TermSymbol e → Below 65536 e → Terms n e
terms_of [] row_end o b = terms_none
terms_of (var v ∷ e) (row_var r) o b = terms_var b.0 (terms_of e r o b.1)
terms_of (sym (constant c) ∷ e) (row_sym r) o b = terms_constant o.0 (terms_of e (rw zero-add at r) o.1 b)
terms_of (sym (compound f a) ∷ e) (row_sym {n = n} r) o b = terms_compound o.0.0 o.0.1 o.0.2 (terms_of e (rw (add_comm a n) at r) o.1 b)
terms_of (sym (predicate p a) ∷ e) r o b = absurd o.0

formula_of : (f : Expr) → Tabled f → Below 65536 f → IsFormula f
formula_of f (tabled {e = e} w q r o) b = formula w q (terms_of e r o b)

formulas-of : (g : Goal) → Every Tabled g → Below 65536 (flat g) → AreFormulas g
formulas-of [] p b = tt
formulas-of (f ∷ g) p b = (formula_of f p.0 (below_left 65536 f (flat g) b), formulas-of g p.1 (below_right 65536 f (flat g) b))

-- a formula uses its own predicate alone

no-uses : (e : Expr) → Symbols TermSymbol e → (l : Expr) → node_uses (e ++ l) ≡ node_uses l
no-uses [] o l = refl
no-uses (var v ∷ e) o l = no-uses e o l
no-uses (sym (constant c) ∷ e) o l = no-uses e o.1 l
no-uses (sym (compound f n) ∷ e) o l = no-uses e o.1 l
no-uses (sym (predicate p n) ∷ e) o l = absurd o.0

-- so formulas and their instances use the same

module _ (θ : Subst) (g h : Goal) (rest : node_uses (flat h) ≡ node_uses (flat g)) where
  one_more : (f : Expr) → Tabled f → Tabled (apply θ f) → node_uses (apply θ f ++ flat h) ≡ node_uses (f ++ flat g)
  one_more f (tabled {p = p} {a = a} {e = e} w l r o) (tabled w' l' r' o') = ap (λ (x : List Use). use_of p a ∷ x) (no-uses (apply θ e) o' (flat h) ∙ rest ∙ inv (no-uses e o (flat g)))

same-uses : (θ : Subst) (g : Goal) → Every Tabled g → Every Tabled (map (apply θ) g) → node_uses (flat (map (apply θ) g)) ≡ node_uses (flat g)
same-uses θ [] p q = refl
same-uses θ (f ∷ g) p q = one_more θ g (map (apply θ) g) (same-uses θ g p.1 q.1) f p.0 q.0

module _ (P : Book) (good_book : GoodBook P) (q : Goal) (good : GoodGoal q) (suits : Suits P q) (budget : ℕ) (r : Answered) (runs : Answers P budget q r) where
  there : goal_at P q r.steps ≡ some r.goal
  there = answers-goal P budget q r runs

  abbrev a : Goal
  a = answer_at P q r.steps

  keeps : (g h : Goal) → Every Tabled g → next_goal P g ≡ some h → Every Tabled h
  keeps g h p e = let s = step-goal (next P g) h e in next-tabled P good_book.clauses g p s.0 h ((next_iff P (book-clauses P good_book) g (tabled-formulas g p) s.0 h).1 s.1)

  answer-tabled : Every Tabled a
  answer-tabled = answer-every P q Tabled keeps (formulas-tabled q good.formulas) r.steps r.goal there

  answer-size : nodes a ≤ 4096
  answer-size = by r.steps refl
    where
      by : (n : ℕ) → r.steps ≡ n → nodes (answer_at P q n) ≤ 4096
      by zero e = subst (λ (x : Goal). nodes x ≤ 4096) (inv (answer-zero P q)) good.fitting.size
      by (suc n) e = (small_iff (answer_at P q (suc n))).0 (runs.slim (suc n) (omega arith) (omega (arith, e)))

  goal-size : nodes r.goal ≤ 4096
  goal-size = by r.steps refl
    where
      by : (n : ℕ) → r.steps ≡ n → nodes r.goal ≤ 4096
      by zero e = subst (λ (x : Goal). nodes x ≤ 4096) (some-injective q r.goal (inv (path-zero (next_goal P) q) ∙ ap (goal_at P q) (inv e) ∙ there)) good.fitting.size
      by (suc n) e = ((fits_iff r.goal).0 (runs.roomy r.steps r.goal (omega (arith, e)) (omega arith) there)).1

  answer-below : Below 65536 (flat a)
  answer-below =
      below_right 65536 (flat r.goal) (flat a)
      (subst (Below 65536) (flat_append r.goal a)
      (ordered-below 65536 0 (flat (r.goal ++ a)) (ordered (r.goal ++ a) (both-numbered P q good.fitting.numbered r.steps r.goal there))
      (omega (arith, ap length (flat_append r.goal a), length-append (flat r.goal) (flat a), flat-size r.goal, flat-size a, goal-size, answer-size))))

  pub answer-found : (book : List ℕ) → Bytes book → (book_verdict book).code ≡ 0 → book_of book ≡ P → answer_verdict book (encode_goal a) ≡ record { code = 0; place = 0; count = nodes a }
  answer-found book bytes z is =
      let i = answer_instance P (book-atomic P good_book) q (goal-atomics q good) r.steps r.goal there in
      let uses : goal_uses a ≡ goal_uses q = ap goal_uses i.2 ∙ same-uses i.0 q (formulas-tabled q good.formulas) (subst (Every Tabled) i.2 answer-tabled) in
      found-image a (formulas-of a answer-tabled answer-below) (omega (arith, ap length i.2, length-map q (apply i.0), good.few)) answer-size book bytes z
      (subst (λ (b : Book). Suits b a) (inv is) (subst (λ (l : List Use). OneArity (book_uses P ++ l)) (inv uses) suits))

-- "A run with code 20" and on: what stands at the front of the answer area
module _ (book query : List ℕ) (budget : ℕ) (area space : List ℕ) (book-bytes : Bytes book) (query-bytes : Bytes query) where
  abbrev result : Answer
  result = run_answer book query budget area space

  pub run-answer-found : 20 ≤ result.code → (answer_verdict book (take result.answer (run_answer_area book query budget area space))).code ≡ 0
  run-answer-found high =
      let r = closing book query budget in
      let t = taken book query budget area space book-bytes query-bytes high in
      let i = t.images in
      let runs = answered-runs (book_of book) budget (goal_of query) in
      let image = ap₂ take (ap (λ (x : Answer). x.answer) t.answer_is) t.answer_area_is ∙ take-append_seam (encode_goal r.answer) (drop (length (encode_goal r.answer)) space) in
      let z = (book_good book book-bytes).1 (book_of book, i.good_book, one_left (book_uses (book_of book)) (goal_uses (goal_of query)) i.suits, i.book_image) in
      ap (λ (s : List ℕ). (answer_verdict book s).code) (image ∙ ap encode_goal runs.answer)
      ∙ ap (λ (c : Check). c.code) (answer-found (book_of book) i.good_book (goal_of query) i.good_goal i.suits budget r runs book book-bytes z refl)
