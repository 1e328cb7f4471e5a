-- The run is what `Runs` says, and nothing else is.
use Prim.Native.Nat.{ℕ}
use Rattle.std.proofs.Common.{arith, subst}
use Rattle.std.specs.Prelude.{◌≡◌, ◌↔◌}
use Rattle.terms.specs.Node.{same_expr}
use Rattle.loops.specs.Detect.{start, detect-zero}
use Rattle.search.specs.Next.{Book, Goal}
use Rattle.search.specs.Step.{next_goal}
use Rattle.search.specs.Run.{Closed, run, Runs}
use Rattle.search.proofs.RunLaws.{run-from-runs, runs-one}

module _ (P : Book) (budget : ℕ) (q : Goal) where
  pub run-runs : Runs P budget q (run P budget q)
  unfolding run
  run-runs = run-from-runs P budget q budget 0 (start q) (omega arith) (detect-zero same_expr (next_goal P) q) (λ j g a b. absurd (omega arith))

  -- the run is what document 01 says, and nothing else
  pub run_iff : (r : Closed) → (run P budget q ≡ r) ↔ Runs P budget q r
  run_iff r = (λ e. subst (Runs P budget q) e run-runs, λ x. runs-one P budget q (run P budget q) r run-runs x)
