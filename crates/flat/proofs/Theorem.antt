-- Flat books (document 02, C-20): "every path that never ends holds a primitive cyclic goal". It is shown by a list of all formulas that can stand leftmost, and says which of the two it is.
use Rattle.std.specs.Prelude.{ℕ, ◌≡◌, ◌⊎◌}
use Rattle.std.proofs.Common.{sym as inv, ap, ◌∙◌, subst, inl, inr}
use Rattle.std.proofs.Math.Option.{some, some-injective}
use mathlib.Core.List.{List, ◌∷◌, head-eq_of_cons-eq}
use Rattle.terms.specs.Node.{Symbol, Expr, same_expr}
use Rattle.terms.specs.Number.{Numbered}
use Rattle.loops.proofs.Finite.{Listed, Stops, ends_or_circles}
use Rattle.loops.specs.Cyclic.{PrimitiveCyclic}
use Rattle.loops.specs.Detect.{State, Judged, judged}
use Rattle.loops.proofs.Lemmas.{ClosesPath, member_or_closed}
use Rattle.loops.proofs.Theorem.{Passes}
use Rattle.loops.proofs.Equivalence.{theorem_1}
use Rattle.search.specs.Next.{Book, Goal}
use Rattle.search.specs.Step.{next_goal}
use Rattle.search.specs.StepLaws.{lawful}
use Rattle.search.specs.Run.{goal_at, state_at}
use Rattle.search.proofs.RunLaws.{state-sound}
use Rattle.search.proofs.PathLaws.{path-numbered}
use Rattle.flat.specs.Flat.{FlatGoal, IsFlatBook}
use Rattle.flat.specs.FlatLaws.{path-flat}
use Rattle.flat.proofs.Formulas.{listed-formula}
use Rattle.flat.specs.Formulas.{formulas}

module _ (ps : List Symbol) (cs : List ℕ) (P : Book) (book : IsFlatBook ps cs P) (q : Goal) (query : FlatGoal ps cs q) (numbered : Numbered q) where
  -- whatever stands leftmost is of the list
  pub leftmost : (x : Expr) (u : ℕ) (g : Goal) → goal_at P q u ≡ some (x ∷ g) → Listed x (formulas ps cs)
  leftmost x u g e = listed-formula ps cs x (path-flat ps cs P book q query u (x ∷ g) e).0 (head-eq_of_cons-eq (path-numbered P q numbered u (x ∷ g) e))

  -- the path ends, or it passes a primitive cyclic goal
  pub flat-ends_or_circles : Stops (next_goal P) (lawful P) q ⊎ Passes (next_goal P) q (PrimitiveCyclic (next_goal P))
  flat-ends_or_circles = ends_or_circles (next_goal P) (lawful P) q (formulas ps cs) (λ x (u, g, e). leftmost x u g e)

  -- "so without limits of budget and room a run always says solved, stuck, unknown predicate or loop": at some state the detector does not go on
  pub flat-closes : (t : ℕ) × (s : State Expr) × (state_at P q t ≡ some s) × ClosesPath same_expr (next_goal P) (lawful P) q s
  flat-closes = elim flat-ends_or_circles [
    | inl (u, g, there, none-next) ↦ elim (member_or_closed same_expr (next_goal P) (lawful P) q u) [
      | inl (s, d) ↦ (u, s, d, inl (ap (next_goal P) (some-injective s.goal g (inv (state-sound P q u s d).1 ∙ there)) ∙ none-next))
      | inr (t, s, l, d, c) ↦ (t, s, d, c)
    ]
    | inr x ↦
        let (t, n, (s, d, j)) = (theorem_1 same_expr (next_goal P) (lawful P) q).0.1 ((theorem_1 same_expr (next_goal P) (lawful P) q).1.1 x) in
        (t, s, d, inr (subst (Judged same_expr (next_goal P) s) j (judged same_expr (next_goal P) s)).0)
  ]
