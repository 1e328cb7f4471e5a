-- Two rows whose variables are all free: what is bound for them is a most general unifier of the two, or there is none.
use Rattle.std.specs.Prelude.{ℕ, ◌≡◌, refl, List}
use Rattle.std.proofs.Common.{arith}
use Rattle.terms.specs.Row.{row_end, row_var}
use Rattle.terms.specs.Subst.{Subst, itself, Unifies, MostGeneral}
use Rattle.heap.specs.Heap.{rows, bound, Solves, Solved}
use Rattle.heap.proofs.SolvedLaws.{solved-general}
use Rattle.matching.specs.Meeting.{Equal}
use Rattle.matching.specs.Unifying.{More}

-- no variable is bound
abbrev pub Free : List ℕ → Type 0
Free cells = (v : ℕ) → bound cells v ≡ 0

module _ {heap cells : List ℕ} (free : Free cells) where
  -- then every variable stands for itself
  pub free-solved : Solved heap cells itself
  free-solved = record { solves = record { proper = λ v. row_var row_end; stands = λ v p e. absurd (omega (arith, free v, e)) }; free = λ v e. refl }

  free-solves : (τ : Subst) (p q : ℕ) → Unifies τ (rows heap 1 p) (rows heap 1 q) → Solves heap cells τ
  free-solves τ p q u = record { proper = u.0; stands = λ v r e. absurd (omega (arith, free v, e)) }

  module _ (p q : ℕ) where
    -- document 000's unifier, "more general than any other"
    pub trial-fits : {cells' : List ℕ} → More heap cells p q cells' → (θ : Subst) × Solved heap cells' θ × MostGeneral θ (rows heap 1 p) (rows heap 1 q)
    trial-fits more =
        let (θ, s) = more.solved itself free-solved in (
          θ,
          s,
          record {
            unifies = (s.solves.proper, ((more.just θ).1 s.solves).1);
            general = λ τ u. (τ, u.0, solved-general more.made s τ ((more.just τ).0 (free-solves τ p q u, u.1)));
          },
        )

    pub trial-clashes : ((τ : Subst) → Solves heap cells τ → ¬ Equal heap τ 1 p q) → (τ : Subst) → ¬ Unifies τ (rows heap 1 p) (rows heap 1 q)
    trial-clashes none τ u = none τ (free-solves τ p q u) u.1
