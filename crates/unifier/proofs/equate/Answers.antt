use mathlib.Core.Bool.{Bool, true}
use mathlib.Core.Path.{◌≡◌, refl}
use mathlib.Core.List.{List, [], ◌∷◌}
use Prim.Native.Nat.{ℕ}
use lib.ListN.{length}
use Rattle.words.specs.Columns.{Only, ROWS, END, UP, PICK, LEFT, RIGHT, FIRST}
use Rattle.positions.specs.Words.{child}
use Rattle.positions.specs.Closing.{Closing}
use Rattle.positions.specs.Tables.{ends, ups, picks, firsts, ClosedIn, TrialIn, EquatedIn}
use Rattle.unifier.proofs.Trials.{equated}
use Rattle.unifier.proofs.equate.Goals as goal

module _ (w rows z : List ℕ) (c d : ℕ) (r : Bool) (cl : Closing w (ends w rows) (ups w rows) c d (ups w z) (picks w z) r) (o : Only (UP ∷ PICK ∷ LEFT ∷ RIGHT ∷ []) rows z) where
  closed_in : r ≡ true → ClosedIn w z
  closed_in h = rw (o.kept END (length w) refl) (cl.closed h)

  equated-in : (m j : ℕ) → TrialIn w rows m j → c ≡ child (ends w rows) 0 j → d ≡ child (ends w rows) m j → EquatedIn w z m j r
  equated-in m j t ec ed = rw (o.kept END (length w) refl, o.kept FIRST ROWS refl) (equated w (ends w rows) (ups w rows) (picks w rows) (firsts rows) m j t c d ec ed (ups w z) (picks w z) r cl)

pub returns : goal.returns
returns c = (closed_in _ _ _ _ _ _ c.close.ensures.0 c.close.ensures.1, equated-in _ _ _ _ _ _ c.close.ensures.0 c.close.ensures.1, c.close.ensures.1)
