use Prim.Native.Nat.{ℕ, ◌+◌}
use native.Mathlib.Omega.{arith}
use mathlib.Core.Path.{refl, sym as inv}
use lib.ListN.{length-replicate}
use lib.Seq.{length-take-le}
use Rattle.rides.proofs.Stands.{start-within, start_small, sided}
use Rattle.searching.proofs.write_step.Goals as goal

pub overflow_add-n : goal.overflow_add-n
overflow_add-n c = record { fits = omega (arith, start_small c.requires.by_index.4) }

pub slice_bounds-advance-end : goal.slice_bounds-advance-end
slice_bounds-advance-end c = inv (length-take-le (c.args.start.place.words + c.args.start.place.answer) c.args.goal.now (start-within c.requires.by_index.4))

pub advance-requires : goal.advance-requires
advance-requires c = let z = sided c.requires.by_index.4 _ (c.args.start.place.words + c.args.start.place.answer) refl refl in record { cells_len = c.requires.cells_len; row_in = ((_, c.requires.by_index.3), (_, _, _, z.held, z.answers, z.first)) }

pub returns : goal.returns
returns c = record { says = (λ P q saved b y. let z = sided y _ (c.args.start.place.words + c.args.start.place.answer) refl refl in c.advance.ensures.advanced P _ _ _ b z.held z.answers z.first); free = c.advance.ensures.free }
