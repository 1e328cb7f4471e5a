-- One step, from the clause that is found to what is held after it.
use Prim.Native.Nat.{ℕ, ◌+◌, ◌-◌, ◌<◌, ◌≤◌}
use native.Mathlib.Omega.{arith}
use mathlib.Core.Path.{◌≡◌, sym as inv, ap, ◌∙◌, subst}
use mathlib.Core.Option.{some}
use mathlib.Core.List.{List, [], ◌∷◌, ◌++◌, append-nil}
use lib.ListN.{length, take, drop, length-append, length-drop}
use lib.Seq.{length-take-le, take-take, take_at, drop_at}
use borrow.Rule.Slice.PartMut.{put_mid, same_len_mid}
use Rattle.terms.specs.Node.{Expr}
use Rattle.terms.specs.Row.{Row, Every, Formulas}
use Rattle.search.specs.Next.{Book, Goal, First, Resolved, clause_at}
use Rattle.search.proofs.NextTheorem.{next_iff}
use Rattle.search.specs.Step.{goal_in, next_goal}
use Rattle.search.specs.Answer.{small, next_answer}
use Rattle.search.proofs.AnswerLaws.{last-behind}
use Rattle.words.specs.Held.{Placed, BookOn}
use Rattle.words.specs.HeldLaws.{clauses-of}
use Rattle.picking.specs.Picking.{Picked}
use Rattle.applying.specs.Applying.{Onward}
use Rattle.bounds.specs.Sizing.{Weighed}
use Rattle.std.specs.Prelude.{Option}
use Rattle.bounds.specs.declared.Weight.{Weight}
use Rattle.trials.specs.Trying.{trail, clause_words}
use Rattle.figures.specs.Figures.{FigureOf}
use Rattle.heapgoals.specs.Holding.{used, Holds}
use Rattle.heapgoals.specs.HoldLaws.{Fore, holds-levels, holds-words}
use Rattle.heapgoals.specs.declared.Standing.{Standing}
use Rattle.attempts.specs.Trying.{laid, Fitted, Sought}
use Rattle.treads.specs.Stepping.{IsUnderWay, Went, Treads}
use Rattle.treads.specs.Adding.{span_words, head_long}
use Rattle.treads.specs.declared.sizing.Span.{Span}
use Rattle.std.specs.declared.option.Option.TheVariants.{Some}
use Rattle.attempts.specs.declared.Found.TheVariants as Seen
use Rattle.attempts.proofs.Extending.{part-front}

every_front : (Q : Expr → Type 0) (g a : Goal) → Every Q (g ++ a) → Every Q g
every_front Q [] a p = tt
every_front Q (f ∷ g) a (x, p) = (x, every_front Q g a p)

-- what is held, with other words behind it and other levels
pub held_still : {words words' cells cells' levels levels' : List ℕ} {s : Standing} {g a : Goal} → Holds words cells levels s g a → take s.top words' ≡ take s.top words → length words' ≡ length words → Fore levels levels' → cells' ≡ cells
    → Holds words' cells' levels' s g a
held_still {words' = words'} {levels' = levels'} {s} {g} {a} h e l x ec = subst (λ c. Holds words' c levels' s g a) (inv ec) (holds-levels x (holds-words e (omega (arith, h.inside, l)) h))

-- the next goal and answer are the path's
module _ {book shelf : List ℕ} {P : Book} (o : BookOn book shelf P) (f : Expr) (g a : Goal) (formulas : Formulas (f ∷ (g ++ a))) {i : ℕ} (picked : Picked f P 0 i) (l : i < length P) where
  chosen : First f P i (clause_at P i)
  chosen = let z : i - 0 ≡ i = omega arith in subst (λ j. First f P j (clause_at P i)) z (picked.found l)

  pub goal-next : (h : Goal) → Resolved f g (clause_at P i) h → next_goal P (f ∷ g) ≡ some h
  goal-next h r = ap goal_in ((next_iff P (clauses-of o.held) (f ∷ g) (every_front (Row 1) (f ∷ g) a formulas) i h).0 (clause_at P i, chosen, r))

  pub answer-next : (h b : Goal) → Onward f g a (clause_at P i) h b → next_answer P (f ∷ g) a ≡ b
  unfolding next_answer
  answer-next h b x =
      let both = (next_iff P (clauses-of o.held) (f ∷ (g ++ a)) formulas i (h ++ b)).0 (clause_at P i, chosen, x.whole) in
      rw (ap goal_in both, next_answer) (last-behind h b (length a) x.as_many)

module _ {book shelf words cells levels : List ℕ} {P : Book} {s : Standing} {f : Expr} {g a : Goal} (o : BookOn book shelf P) (h : Holds words cells levels s (f ∷ g) a) (room : s.base ≤ 8192) (enough : s.top + 256 ≤ length words) (most : length words ≤ 8448)
    {words' cells' tables levels' : List ℕ} (long : length words' ≡ length words) (x : Fore levels levels') {i count : ℕ} (size : Option Weight) (t : Sought P f book shelf (take s.top words) words' cells s cells' tables (Seen.Clause i count size))
    (c : Span) (p : Placed book c.start c.head c.end c.bodies (clause_at P i)) (is : span_words book c ≡ clause_words book shelf (length P) i) where
  abbrev end : ℕ
  end = s.top + (c.end - c.start)

  clause-long : length (span_words book c) ≡ c.end - c.start
  clause-long = length-take-le (c.end - c.start) (drop c.start book) (omega (arith, length-drop c.start book, p.within))

  pub clause-few : c.end - c.start ≤ 256
  clause-few = omega (arith, clause-long, p.clause.size)

  pub end-inside : end ≤ length words'
  end-inside = omega (arith, clause-few, enough, long)

  lent : take (end - 0) (drop 0 words') ≡ laid (used words s) s.base (span_words book c)
  lent = part-front end words' ∙ ap (λ n. take n words') (ap (λ n. s.top + n) (inv clause-long)) ∙ subst (λ l. take (s.top + length l) words' ≡ laid (used words s) s.base l) (inv is) t.2.front

  heap-long : length (take (end - 0) (drop 0 words')) ≡ end
  heap-long = ap length (part-front end words') ∙ length-take-le end words' end-inside

  pub weighed-there : Weighed (take (end - 0) (drop 0 words')) cells' s.base (trail tables) count size
  weighed-there = subst (λ y. Weighed y cells' s.base (trail tables) count size) (ap (laid (used words s) s.base) (inv is) ∙ inv lent) t.3

  module _ (figure : FigureOf (span_words book c) (head_long c) c.bodies c.figure) where
    pub under_way : IsUnderWay book words cells levels' s c (take (end - 0) (drop 0 words')) cells' tables count f g a (clause_at P i)
    under_way = record {
      held = holds-levels x h;
      placed = p;
      is = lent;
      figure = figure;
      fitted = subst (λ y. Fitted y cells s cells' tables count) (ap (laid (used words s) s.base) (inv is) ∙ inv lent) t.2.fitted;
      room = room;
      short = omega (arith, enough, most);
    }

    pub gone : {levels'' : List ℕ} {t' : Standing} → Went levels' s c (take (end - 0) (drop 0 words')) cells' tables count levels'' (Some t') → Treads P f g a words' cells' levels'' s (Some t')
    gone {levels''} {t'} (top, y) =
        let (n, b, on, fit, little, held) = y book words cells f g a (clause_at P i) under_way in
        let same = answer-next o f g a h.formulas t.0 t.1 n b on in (
          n,
          goal-next o f g a h.formulas t.0 t.1 n on.goal,
          fit,
          ap small same ∙ little,
          subst (Holds words' cells' levels'' t' n) (inv same) (holds-words (front top) (omega (arith, top, heap-long, end-inside)) held),
          omega (arith, top, heap-long),
        )
      where
        front : t'.top ≡ length (take (end - 0) (drop 0 words')) → take t'.top words' ≡ take t'.top (take (end - 0) (drop 0 words'))
        front top = rw (top ∙ heap-long) (inv (take-take end end words' (omega arith)) ∙ ap (take end) (inv (part-front end words')))

-- the figures behind the trial's part of the stack: what the trial leaves of them, as they are lent, and when they are back
module _ (stack part : List ℕ) (long : length stack ≡ 1411) (same : length part ≡ length (take 387 stack)) where
  part-long : length part ≡ 387
  part-long = same ∙ length-take-le 387 stack (omega (arith, long))

  behind-long : length (drop 387 stack) ≡ 1024
  behind-long = omega (arith, length-drop 387 stack, long)

  pub figures-left : drop 387 (part ++ drop 387 stack) ≡ drop 387 stack
  figures-left = drop_at part (drop 387 stack) 387 part-long

  pub figures-lent : take 1024 (drop 387 (part ++ drop 387 stack)) ≡ drop 387 stack
  figures-lent = ap (take 1024) figures-left ∙ (ap (take 1024) (inv (append-nil (drop 387 stack))) ∙ take_at (drop 387 stack) [] 1024 behind-long)

  pub lent-long : length (take 1024 (drop 387 (part ++ drop 387 stack))) ≡ 1024
  lent-long = ap length figures-lent ∙ behind-long

  module _ (figures : List ℕ) (as_long : length figures ≡ length (take 1024 (drop 387 (part ++ drop 387 stack)))) where
    pub figures-back : drop 387 (put_mid 387 1024 (part ++ drop 387 stack) figures) ≡ figures
    figures-back =
        drop_at (take 387 (part ++ drop 387 stack)) (figures ++ drop 1024 (drop 387 (part ++ drop 387 stack))) 387 (length-take-le 387 (part ++ drop 387 stack) (omega (arith, length-append part (drop 387 stack), part-long)))
        ∙ ap (λ e. figures ++ e) (ap (drop 1024) (figures-left ∙ inv (append-nil (drop 387 stack))) ∙ drop_at (drop 387 stack) [] 1024 behind-long) ∙ append-nil figures

    pub stack_long : length (put_mid 387 1024 (part ++ drop 387 stack) figures) ≡ length stack
    stack_long = same_len_mid 387 1024 (part ++ drop 387 stack) figures as_long ∙ omega (arith, length-append part (drop 387 stack), part-long, behind-long, long)
