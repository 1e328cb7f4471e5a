-- Of the clauses tried, the one that got furthest (document 02, C-19).
use Rattle.std.specs.Prelude.{Option, None, Some, ℕ, ◌≤◌, ◌<◌, ◌≡◌}
use Rattle.search.specs.Furthest.{Figures, no_figures}
use Rattle.weighing.specs.declared.Figures as Code

-- the figures that the code has
abbrev pub figured : Option Code.Figures → Figures
figured None = no_figures
figured (Some r) = record { clause = r.clause; argument = r.argument }

-- the better of `best` and the clause number i, whose head fails at the argument k: "lowest number on equal counts"
pub record Weighed (best : Figures) (i k : ℕ) (r : Figures) : Type 0 where
  pub kept : k ≤ best.argument → r ≡ best
  pub taken : best.argument < k → r ≡ record { clause = i; argument = k }
