-- One predicate, two arities (document 02, C-18): "the first formula in reading order whose predicate number had another arity before".
use Rattle.std.specs.Prelude.{ℕ, suc, ◌≡◌, List, [], ◌∷◌, ◌++◌, length, Option, Some, None}
use Rattle.terms.specs.When.{◌⇒◌∣◌}
use Rattle.format.specs.declared.Record.TheVariants.{Formula}
use Rattle.format.specs.Arities.{Use, Used, OneArity, Memory, nothing_met, meet, keeps}

-- so many uses keep one arity, and the next one does not keep it with them
pub record Clashes (us : List Use) (k : ℕ) : Type 0 where
  pub before : List Use
  pub next : Use
  pub behind : List Use
  pub uses : us ≡ before ++ (next ∷ behind)
  pub count : length before ≡ k
  pub keeps_one : OneArity before
  pub other : ℕ
  pub met : Used next.number other before
  pub differs : other ≡ next.arity → ⊥

-- The same, computed: k uses behind what is remembered. Each predicate number keeps one arity; or so many formulas stand before the first that uses one with another.

abbrev pub arities_from : Memory → ℕ → List Use → Option ℕ
arities_from m k [] = None
arities_from m k (u ∷ us) = keeps m (Formula u.number u.arity) ⇒ arities_from (meet m u.number u.arity) (suc k) us ∣ Some k

abbrev pub arities : List Use → Option ℕ
arities us = arities_from nothing_met 0 us

abbrev pub Means : List Use → Option ℕ → Type 0
Means us None = OneArity us
Means us (Some k) = Clashes us k
