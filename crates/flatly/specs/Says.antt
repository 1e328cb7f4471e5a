-- What the flat run says more than the plain one (document 02, C-20): with a budget that is large enough it never says that the steps are used up, but solved, stuck, unknown
-- predicate or loop, or that a next goal or a next answer has no room. Nothing here looks at the code: `flat_run_answer` is what the contract of `flat_run` says.
use Rattle.std.specs.Prelude.{ℕ, ◌+◌, ◌*◌, ◌^◌, ◌≤◌, ◌≡◌, List, ◌∷◌, ◌++◌, length}
use Rattle.std.proofs.Common.{arith, sym as inv, ap, ◌∙◌, subst}
use Rattle.std.proofs.Math.Decide.{ℕ_discrete}
use Rattle.std.proofs.Math.Option.{some}
use Rattle.terms.specs.Node.{Expr}
use Rattle.loops.proofs.Finite.{Listed}
use Rattle.search.specs.Next.{Book, Goal}
use Rattle.search.specs.Run.{Closed, run, goal_at}
use Rattle.search.specs.Answer.{Answered}
use Rattle.search.proofs.AnswerLaws.{answered-runs}
use Rattle.search.proofs.AnswerRuns.{answered-run}
use Rattle.flat.specs.Flat.{FlatGoal}
use Rattle.flat.proofs.Closing.{Settled, settled_20, settled_21, settled_22, settled_26}
use Rattle.format.specs.declared.Check.{Check}
use Rattle.format.specs.Reading.{query_verdict}
use Rattle.format.specs.Arities.{Use, book_uses, goal_uses}
use Rattle.format.specs.Format.{Bytes}
use Rattle.format.specs.Decode.{book_of, goal_of}
use Rattle.flatness.specs.Profile.{query_flat}
use Rattle.flatness.proofs.Refusals.{query-flat-book, query-flat-is}
use Rattle.flatness.proofs.Paths as Paths
use Rattle.flatness.proofs.Paths.{predicates_of, constants_of, FlatPair, pair_of}
use Rattle.outcomes.specs.declared.admit.Admitted.{Admitted}
use Rattle.outcomes.specs.declared.Answer.{Answer}
use Rattle.outcomes.specs.Outcome.{room, closing}
use Rattle.outcomes.specs.Refusals.{both_decide}
use Rattle.outcomes.specs.Running.{answer-taken}
use Rattle.outcomes.proofs.Figures as Figures
use Rattle.outcomes.proofs.Figures.{RunCode, run-codes}
use Rattle.flatly.specs.Outcome.{flat_run_answer}
use Rattle.flatly.specs.Ways.{by_checks, run_taken}

-- how a run ends that has steps enough
pub data Ends : ℕ → Type 0 where
  settled : {c : ℕ} → Settled c → Ends c
  no_room : Ends 24
  no_room_for_answer : Ends 27

-- from 20 to 24, and not 23
low_3 : (c : ℕ) → 22 ≤ c → c ≤ 24 → (c ≡ 23 → ⊥) → Ends c
low_3 c a b n = elim (ℕ_discrete c 22) [ yes e ↦ rw e (settled settled_22) | no z ↦ (let e : c ≡ 24 = omega (arith, a, b, n, z) in rw e no_room) ]

low : (c : ℕ) → 20 ≤ c → c ≤ 24 → (c ≡ 23 → ⊥) → Ends c
low c a b n = elim (ℕ_discrete c 20) [
  | yes e ↦ rw e (settled settled_20)
  | no x ↦ elim (ℕ_discrete c 21) [ yes e ↦ rw e (settled settled_21) | no y ↦ low_3 c (above c a x y) b n ]
]
  where
    above : (c : ℕ) → 20 ≤ c → (c ≡ 20 → ⊥) → (c ≡ 21 → ⊥) → 22 ≤ c
    above c a x y = omega arith

-- a book and a query that the flat check takes
module _ (book query : List ℕ) (book-bytes : Bytes book) (query-bytes : Bytes query) (good : (query_flat book query).code ≡ 0) where
  abbrev P : Book
  P = book_of book

  abbrev q : Goal
  q = goal_of query

  both : FlatPair P q
  both = pair_of book query book-bytes query-bytes good

  -- every goal of the path has only variables and constants, and only predicates and constants of the two
  pub path-stays-flat : (t : ℕ) (g : Goal) → goal_at P q t ≡ some g → FlatGoal (predicates_of P q) (constants_of P q) g
  path-stays-flat = Paths.path-stays P both.good_book both.plain_book q both.good_query both.plain_query

  -- of different formulas leftmost there are so many at most, by the counts of distinct predicates and constants of the two and the largest arity
  pub leftmost-few : (most : ℕ) → ((u : Use) → Listed u (book_uses P ++ goal_uses q) → u.arity ≤ most) →
      (l : List Expr) × (length l ≤ length (predicates_of P q) * (most + length (constants_of P q)) ^ most) × ((t : ℕ) (f : Expr) (g : Goal) → goal_at P q t ≡ some (f ∷ g) → Listed f l)
  leftmost-few = Paths.leftmost-few P both.good_book both.plain_book q both.good_query both.plain_query

  -- so many steps are enough: a number that exists, and that the counts do not bound usefully (flat/specs/Doubling)
  pub enough : ℕ
  enough = Paths.enough P both.good_book both.plain_book q both.good_query both.plain_query

  not-spent : (budget : ℕ) → enough ≤ budget → (run P budget q).code ≡ 23 → ⊥
  unfolding enough
  not-spent = Paths.never_spent P both.good_book both.plain_book q both.good_query both.plain_query

  module _ (budget : ℕ) (area space : List ℕ) (long : 16387 ≤ room area space) where
    abbrev r : Answered
    r = closing book query budget

    flat-code : (flat_run_answer book query budget area space).code ≡ r.code
    flat-code =
        let e = query-flat-is book query book-bytes (query-flat-book book query good) query-bytes good in
        let plain : (query_verdict book query).code ≡ 0 = inv (ap (λ (c : Check). c.code) e) ∙ good in
        let z = ap (λ (a : Admitted). a.code) (both_decide book query (room area space) long) ∙ plain in
        let y = ap (λ (a : Admitted). a.code) (by_checks book query (room area space) long) ∙ good in
        ap (λ (a : Answer). a.code) (run_taken book query budget area space y ∙ answer-taken book query budget area space z)

    pub flat-run-ends : enough ≤ budget → Ends (flat_run_answer book query budget area space).code
    flat-run-ends l = subst Ends (inv flat-code) (go (run-codes P budget q) spent)
      where
        spent : r.code ≡ 23 → ⊥
        spent e = not-spent budget l (ap (λ (c : Closed). c.code) (answered-run P budget q r (answered-runs P budget q) (λ n. omega (arith, e, n))) ∙ e)

        go : {c : ℕ} → RunCode c → (c ≡ 23 → ⊥) → Ends c
        go {c} (Figures.closed a b) n = low c a b n
        go Figures.unknown n = settled settled_26
        go Figures.over n = no_room_for_answer
