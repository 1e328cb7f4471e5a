use Prim.Native.Nat.{ℕ, ◌-◌, ◌≤◌}
use mathlib.Core.Path.{◌≡◌}
use mathlib.Core.List.{List, [], ◌∷◌}
use mathlib.Core.Logic.{◌⊎◌}
use lib.ListN.{length}
use lib.ListN.{take}
use Rattle.terms.specs.Subst.{apply}
use Rattle.words.specs.Word.{nodes}
use Rattle.positions.specs.Solving.{solution}
use Rattle.positions.specs.Writing.{Of, Written}
use Rattle.words.specs.Columns.{Only, CELLS, STACK}
use Rattle.positions.specs.Tables.{ends, ups, picks, ranks, firsts}
use Rattle.unifier.proofs.instantiate.Given as goal

abbrev pub Some : List ℕ → List ℕ → ℕ → Type 0
Some w src x = Of w x ⊎ Of src x

abbrev pub Held : List ℕ → List ℕ → List ℕ → List ℕ → List ℕ → List ℕ → List ℕ → List ℕ → List ℕ → ℕ → ℕ → Type 0
Held w e up pick rank first src out₀ out i at =
    (i ≤ length src) × (length out ≡ length out₀) × (at ≡ 65535 → ⊥) × Written (Some w src) out₀ 0 (apply (solution w e up pick rank first) (nodes (take i src))) out at

-- the same of rows
abbrev pub HeldIn : List ℕ → List ℕ → List ℕ → List ℕ → List ℕ → ℕ → ℕ → Type 0
HeldIn w rows src out₀ out i at = Held w (ends w rows) (ups w rows) (picks w rows) (ranks w rows) (firsts rows) src out₀ out i at

abbrev pub invariant-loop-u : goal.invariant-loop-u
invariant-loop-u l = HeldIn l.words l.initial.rows l.src l.initial.out l.out l.u-index l.«at» × (length l.rows ≡ CELLS) × Only (STACK ∷ []) l.initial.rows l.rows
