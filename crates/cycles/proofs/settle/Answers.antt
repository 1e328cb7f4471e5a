use Rattle.std.proofs.Common.{Option, None, Some}
use Prim.Native.Nat.{ℕ, ◌+◌, ◌<◌, ◌≤◌}
use native.Mathlib.Omega.{arith}
use mathlib.Core.Path.{◌≡◌, refl}
use mathlib.Core.List.{List, [], ◌∷◌}
use lib.ListN.{length, get_or}
use borrow.Author.Count.{below_more}
use mathlib.Core.Bool.{true}
use Rattle.words.specs.Columns.{Only, same, after, END, UP, PICK, LEFT, RIGHT, RANK}
use Rattle.positions.specs.Ranking.{Settled}
use Rattle.positions.specs.Diving.{Cyclic, Dived}
use Rattle.positions.specs.Tables.{ends, ups, picks, lefts, rights, ranks, Search, Found}
use borrow.Author.Rules.{rules}
use Rattle.cycles.proofs.settle.Invariants.{Held}
use Rattle.cycles.proofs.settle.Goals as goal

turn : (w e up pick rank stack place : List ℕ) (s r : ℕ) (rank' stack' place' : List ℕ) (t : ℕ) → r < length w → Held w e up pick rank stack place s r → Dived w e up pick rank r rank' t stack' place' → Held w e up pick rank' stack' place' t (r + 1)
turn w e up pick rank stack place s r rank' stack' place' t l h d =
    (omega arith, d.dive, below_more (λ q. get_or up q 0 ≡ q → 0 < get_or rank' q 0) r (λ q i y. d.kept q (h.2 q i y)) d.done)

finish : (w e up pick rank stack place : List ℕ) (s r : ℕ) → Held w e up pick rank stack place s r → length w ≤ r → Settled w e up pick rank true
finish w e up pick rank stack place s r h l q i a b c = (h.1.ranked.above q i a (h.2 q (omega arith) b) c).1

-- the same of rows
module _ (w rows₀ rows : List ℕ) (s r : ℕ) (se : Search w rows₀ 1) (h : Held w (ends w rows₀) (ups w rows₀) (picks w rows₀) (ranks w rows) (lefts w rows) (rights w rows) s r) (o : Only (LEFT ∷ RIGHT ∷ RANK ∷ []) rows₀ rows) where
  anew : Search w rows s
  anew = record {
    grouped = rw (o.kept UP (length w) refl, o.kept PICK (length w) refl) se.grouped;
    searched = rw (o.kept END (length w) refl, o.kept UP (length w) refl) (record { ends = se.searched.ends; end_length = se.searched.end_length; up_length = se.searched.up_length; rank_length = h.1.ranked.rank_length; down = se.searched.down });
    valid = se.valid;
    dive = rw (o.kept END (length w) refl, o.kept UP (length w) refl, o.kept PICK (length w) refl) h.1;
  }

  module _ (o' : Option ℕ) (z : List ℕ) (f : Found w rows r o' z) where
    turn_in : r < length w → (t : ℕ) → o' ≡ Some t → Held w (ends w rows₀) (ups w rows₀) (picks w rows₀) (ranks w z) (lefts w z) (rights w z) t (r + 1)
    turn_in l t e = turn w (ends w rows₀) (ups w rows₀) (picks w rows₀) (ranks w rows) (lefts w rows) (rights w rows) s r (ranks w z) (lefts w z) (rights w z) t l h (rw (o.kept END (length w) refl, o.kept UP (length w) refl, o.kept PICK (length w) refl) at (rw e at f.known))

    stop : o' ≡ None → Cyclic w (ends w rows₀) (ups w rows₀)
    stop e = rw (o.kept END (length w) refl, o.kept UP (length w) refl) at (rw e at f.known)

pub loop-r-init : goal.loop-r-init
loop-r-init c = ((search rules, c.requires.dive, λ q h. absurd (omega arith)), search rules, same)

pub visit-requires : goal.visit-requires
visit-requires c = (anew _ _ _ _ _ c.requires c.loop-r.invariant.0 c.loop-r.invariant.2, c.loop-r-test.true)

pub returns-in_default : goal.returns-in_default
returns-in_default c = (stop _ _ _ _ _ c.requires c.loop-r.invariant.0 c.loop-r.invariant.2 _ _ c.visit.ensures.0 c.in_default.is, after c.loop-r.invariant.2 c.visit.ensures.1)

pub loop-r-preserved : goal.loop-r-preserved
loop-r-preserved c = (turn_in _ _ _ _ _ c.requires c.loop-r.invariant.0 c.loop-r.invariant.2 _ _ c.visit.ensures.0 c.loop-r-test.true _ c.in-Some.is, search rules, after c.loop-r.invariant.2 c.visit.ensures.1)

pub returns : goal.returns
returns c = (finish _ _ _ _ _ _ _ _ _ c.loop-r.invariant.0 c.loop-r-test.false, c.loop-r.invariant.2)
