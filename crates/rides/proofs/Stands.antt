-- The state that a ride starts from, as it comes to the heap.
use Prim.Native.Nat.{ℕ, ◌+◌, ◌≤◌}
use native.Mathlib.Omega.{arith}
use mathlib.Core.Path.{◌≡◌, sym as inv, ap, ◌∙◌, subst}
use mathlib.Core.List.{List, ◌∷◌, ◌++◌}
use lib.ListN.{length, take, drop, length-drop}
use lib.Seq.{length-take-le}
use Rattle.terms.specs.Number.{Numbered}
use Rattle.search.specs.Next.{Book, Goal}
use Rattle.search.specs.Answer.{answer_at}
use Rattle.search.proofs.AnswerLaws.{answer-whole}
use Rattle.search.proofs.RunLaws.{state-sound}
use Rattle.words.specs.Held.{GoalIn, RowIn}
use Rattle.words.specs.HeldLaws.{row_of}
use Rattle.matching.specs.TrialLaws.{Free}
use Rattle.states.proofs.Visits.{numbered-at}
use Rattle.heapgoals.specs.Rows.{Sided, Clean}
use Rattle.rides.specs.Riding.{Starts}
use Rattle.rides.specs.declared.Start.{Start}

module _ {P : Book} {q : Goal} {words saved : List ℕ} {x : Start} (y : Starts P q words saved x) where
  abbrev n : ℕ
  n = x.place.words

  abbrev w : ℕ
  w = x.place.answer

  pub start-within : n + w ≤ length words
  start-within = y.opens.here.answer_within

  pub start_small : n + w ≤ 8192
  start_small =
      let o = y.opens.here in
      omega (arith, o.holds.size, length-take-le n words o.within, o.answer.size, length-take-le w (drop n words) (omega (arith, length-drop n words, o.answer_within)))

  module _ (part : List ℕ) (k : ℕ) (e : k ≡ n + w) (is : part ≡ take k words) where
    part-is : part ≡ take (n + w) words
    part-is = is ∙ ap (λ i. take i words) e

    pub part-long : length part ≡ n + w
    part-long = ap length part-is ∙ length-take-le (n + w) words start-within

    pub sided : Sided part (record { words = n; first = x.place.front; formulas = x.place.formulas; answers = x.answers }) y.opens.formula y.opens.rest (answer_at P q x.place.detector.step)
    sided =
        let o = y.opens in
        let t = x.place.detector.step in
        let a = answer_at P q t in
        record {
          held = subst (λ r. RowIn r n x.place.formulas (o.formula ∷ o.rest) a) (inv part-is)
              (row_of words n w start-within (subst (GoalIn (take n words) x.place.formulas) o.is o.here.holds) o.here.answer);
          first = o.front;
          answers = y.answers ∙ inv (answer-whole P q t o.here.state.goal (state-sound P q t o.here.state o.here.reached).1).1;
          numbered = subst (λ g. Numbered (g ++ a)) o.is (numbered-at P q t o.here.state y.numbered o.here.reached);
        }

    pub clean : (cells levels : List ℕ) → Free cells → length cells ≡ 8256 → length levels ≡ 1028 → Clean part words cells levels
    clean cells levels free cl ll =
        record { front = ap (λ i. take i words) part-long ∙ inv part-is; within = omega (arith, part-long, start-within); free = free; cells_long = cl; levels_long = ll }
