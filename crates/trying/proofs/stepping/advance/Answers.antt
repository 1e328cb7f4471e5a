use native.Mathlib.Omega.{arith}
use mathlib.Core.Path.{sym as inv, ◌∙◌, subst}
use mathlib.Core.List.{◌∷◌}
use Rattle.picking.proofs.Appends.{row_fits}
use Rattle.trying.specs.Stepping.{Shaped, Quickened}
use Rattle.trying.proofs.Moves.{copied, row_small}
use Rattle.trying.proofs.stepping.advance.Goals as goal

pub append-requires : goal.append-requires
append-requires c = (omega (arith, row_small c.requires.row_in.1.3), omega arith, omega arith, λ x l. (row_fits c.requires.row_in.1.3 x l).valid)

pub on_heap-requires : goal.on_heap-requires
on_heap-requires c = record { cells_len = (c.requires.cells_len.0, c.requires.cells_len.1); shaped = ((_, c.requires.row_in.0.1), (_, _, _, subst (λ w. Shaped w c.shape_of-x.result c.requires.row_in.1.0 c.requires.row_in.1.1 c.requires.row_in.1.2) (inv (copied c.append.ensures _ c.shape_of-x.ensures.1)) (c.shape_of-x.ensures.0 _ _ _ c.requires.row_in.1.3 c.requires.row_in.1.4 c.requires.row_in.1.5))) }

pub advance-requires : goal.advance-requires
advance-requires c = record { row_in = ((_, c.requires.row_in.0.1), (_, _, _, c.requires.row_in.1.3)) }

pub returns-in-Some : goal.returns-in-Some
returns-in-Some c = record { advanced = λ P f g a o p e d. subst (Quickened P (f ∷ g) a _) c.in-Some.is (c.on_heap.ensures.quickened P f g a o (subst (λ w. Shaped w c.shape_of-x.result f g a) (inv (copied c.append.ensures _ c.shape_of-x.ensures.1)) (c.shape_of-x.ensures.0 f g a p e d))); free = c.on_heap.ensures.free }

pub returns-in-None : goal.returns-in-None
returns-in-None c = record { advanced = λ P f g a o p e d. c.advance.ensures P f g a o p; free = c.on_heap.ensures.free }
