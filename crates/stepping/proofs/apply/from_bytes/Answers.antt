use native.Mathlib.Omega.{arith}
use mathlib.Core.Path.{sym as inv}
use lib.Seq.{length-take-le}
use Rattle.format.specs.Decode.{book_of, goal_of}
use Rattle.stepping.proofs.apply.from_bytes.Goals as goal

pub slice_bounds-from_goal-end : goal.slice_bounds-from_goal-end
slice_bounds-from_goal-end c = omega (arith, c.open_book-clauses.ensures.few, c.open_book-clauses.auto.shelf, c.requires.rooms.0.shelf_room)

pub slice_bounds-from_goal-end-2 : goal.slice_bounds-from_goal-end-2
slice_bounds-from_goal-end-2 c = inv (length-take-le _ _ (omega (arith, c.open_book-clauses.ensures.few, c.open_book-clauses.auto.shelf, c.requires.rooms.0.shelf_room)))

pub slice_bounds-from_goal-end-4 : goal.slice_bounds-from_goal-end-4
slice_bounds-from_goal-end-4 c = inv (length-take-le _ _ (omega (arith, c.open_query-opened.ensures.within, c.open_query-opened.auto)))

pub from_goal-requires : goal.from_goal-requires
from_goal-requires c = (c.requires.good.enough, (book_of _, c.open_book-clauses.ensures.on), (goal_of _, c.open_query-opened.ensures.holds))

pub returns : goal.returns
returns c = c.from_goal.ensures _ _ c.open_book-clauses.ensures.on c.open_query-opened.ensures.holds
