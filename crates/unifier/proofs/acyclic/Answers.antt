use mathlib.Core.Bool.{Bool}
use mathlib.Core.Path.{◌≡◌, refl, ap, ◌∙◌}
use mathlib.Core.List.{List, [], ◌∷◌}
use Prim.Native.Nat.{ℕ}
use lib.ListN.{length, get_or}
use Rattle.words.specs.Columns.{column, column-length, Only, after, wider, ROWS, END, UP, PICK, LEFT, RIGHT, RANK, FIRST}
use Rattle.positions.specs.Steps.{Flat}
use Rattle.positions.specs.Ranking.{Settled}
use Rattle.positions.specs.Tables.{ends, ups, picks, lefts, rights, ranks, firsts, ClosedIn, TrialIn, CheckedIn, Search}
use Rattle.unifier.proofs.Trials.{searching, closed-flat, trial-flat, checked}
use borrow.Author.Rules.{rules}
use Rattle.unifier.proofs.acyclic.Goals as goal

-- x is the storage with the ways to the roots made short, y and z after the noughts
module _ (w rows x y z : List ℕ) (t : Flat (ups w rows) (ups w x)) (o : Only (UP ∷ []) rows x) (a : Only (RANK ∷ []) x y) (e : Only (RIGHT ∷ []) y z) where
  noughts : Only (LEFT ∷ RIGHT ∷ RANK ∷ []) x z
  noughts = after (wider (LEFT ∷ RIGHT ∷ RANK ∷ []) refl a) (wider (LEFT ∷ RIGHT ∷ RANK ∷ []) refl e)

  closed_in : ClosedIn w rows → ClosedIn w z
  closed_in c = rw (noughts.kept END (length w) refl, noughts.kept UP (length w) refl, noughts.kept PICK (length w) refl, o.kept END (length w) refl, o.kept PICK (length w) refl) (closed-flat t c)

  search-in : ClosedIn w rows → ((r : ℕ) → get_or (column RANK (length w) y) r 0 ≡ 0) → ((r : ℕ) → get_or (column RIGHT (length w) z) r 0 ≡ 0) → Search w z 1
  search-in c zr zp =
      let s = searching w (ends w z) (ups w z) (picks w z) (ranks w z) (lefts w z) (rights w z) (closed_in c) (column-length RANK (length w) z) (column-length LEFT (length w) z) (column-length RIGHT (length w) z)
      (λ r. ap (λ l. get_or l r 0) (e.kept RANK (length w) refl) ∙ zr r) zp in
      record { grouped = s.0; searched = s.1; valid = s.2; dive = s.3 }

  module _ (q : List ℕ) (r : Bool) (f : Only (LEFT ∷ RIGHT ∷ RANK ∷ []) z q) (s : Settled w (ends w z) (ups w z) (picks w z) (ranks w q) r) where
    changes : Only (UP ∷ LEFT ∷ RIGHT ∷ RANK ∷ []) rows q
    changes = after (wider (UP ∷ LEFT ∷ RIGHT ∷ RANK ∷ []) refl o) (wider (UP ∷ LEFT ∷ RIGHT ∷ RANK ∷ []) refl (after noughts f))

    checked-in : (m j : ℕ) → TrialIn w rows m j → CheckedIn w q m j r
    checked-in m j c =
        rw (f.kept END (length w) refl, f.kept UP (length w) refl, f.kept PICK (length w) refl, f.kept FIRST ROWS refl)
        (checked w (ends w z) (ups w z) (picks w z) (ranks w q) (firsts z) m j r s
        (rw (noughts.kept END (length w) refl, noughts.kept UP (length w) refl, noughts.kept PICK (length w) refl, noughts.kept FIRST ROWS refl, o.kept END (length w) refl, o.kept PICK (length w) refl, o.kept FIRST ROWS refl) (trial-flat t c)))

pub flatten-requires : goal.flatten-requires
flatten-requires c = (c.requires.grouped.small, c.requires.grouped.down)

pub clear-requires : goal.clear-requires
clear-requires c = (search rules, c.requires.grouped.small)

pub clear-requires-2 : goal.clear-requires-2
clear-requires-2 c = (search rules, c.requires.grouped.small)

pub settle-requires : goal.settle-requires
settle-requires c = search-in _ _ _ _ _ c.flatten.ensures.0 c.flatten.ensures.1 c.clear.ensures.1 c.clear-2.ensures.1 c.requires c.clear.ensures.0 c.clear-2.ensures.0

pub returns : goal.returns
returns c = (checked-in _ _ _ _ _ c.flatten.ensures.0 c.flatten.ensures.1 c.clear.ensures.1 c.clear-2.ensures.1 _ c.settle.result c.settle.ensures.1 c.settle.ensures.0, changes _ _ _ _ _ c.flatten.ensures.0 c.flatten.ensures.1 c.clear.ensures.1 c.clear-2.ensures.1 _ c.settle.result c.settle.ensures.1 c.settle.ensures.0)
