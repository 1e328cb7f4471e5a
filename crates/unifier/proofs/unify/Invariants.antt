use Prim.Native.Nat.{ℕ, ◌-◌, ◌≤◌, ◌<◌}
use mathlib.Core.Path.{◌≡◌}
use mathlib.Core.List.{List, [], ◌∷◌}
use lib.ListN.{length, get_or}
use Rattle.words.specs.Word.{arity_of}
use Rattle.positions.specs.Words.{child}
use Rattle.positions.specs.Solving.{Problem, Solved}
use Rattle.positions.specs.Trying.{Trial}
use Rattle.words.specs.Columns.{Only, CELLS, END, UP, PICK, LEFT, RIGHT, RANK, FIRST}
use Rattle.positions.specs.Tables.{ends, ups, picks, ranks, firsts}
use Rattle.unifier.proofs.unify.Given as goal

-- with j arguments made equal
pub record Held (w e up pick rank first : List ℕ) (m k c d j : ℕ) : Type 0 where
  pub problem : Problem w
  pub alike : get_or w 0 0 ≡ get_or w m 0
  pub all : k ≡ arity_of (get_or w 0 0)
  pub most : j ≤ k
  pub left_at : c ≡ child e 0 j
  pub right_at : d ≡ child e m j
  pub trial : Trial w e up pick first m j
  pub solved : 0 < j → Solved w e up pick rank

-- the same of rows
abbrev pub HeldIn : List ℕ → List ℕ → ℕ → ℕ → ℕ → ℕ → ℕ → Type 0
HeldIn w rows m k c d j = Held w (ends w rows) (ups w rows) (picks w rows) (ranks w rows) (firsts rows) m k c d j

abbrev pub invariant-loop-j : goal.invariant-loop-j
invariant-loop-j l = HeldIn l.words l.rows l.m l.k l.c l.d l.j × (length l.rows ≡ CELLS) × Only (END ∷ UP ∷ PICK ∷ LEFT ∷ RIGHT ∷ RANK ∷ FIRST ∷ []) l.initial.rows l.rows
