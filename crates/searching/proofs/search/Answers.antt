use borrow.Author.Rules.{rules}
use Rattle.searching.proofs.Searches.{open_following, open_turn, open_less, shut-ends, reroom, none-bound}
use Rattle.searching.proofs.Arrives.{ride_starts, stayed_starts, came-arrived, came-turn, came-less}
use lib.ListN.{length-replicate}
use mathlib.Core.Path.{refl, sym, ◌∙◌}
use native.Mathlib.Omega.{arith}
use Prim.Native.Nat.{ℕ}
use Rattle.searching.proofs.search.Goals as goal

pub first_look-turn-requires : goal.first_look-turn-requires
first_look-turn-requires c = (c.requires.answer_in_bounds.0, c.requires.answer_in_bounds.1.0, (c.requires.answer_in_bounds.2.0, c.requires.answer_in_bounds.2.1.held))

pub loop-turn-init : goal.loop-turn-init
loop-turn-init c = ((search rules), (search rules), c.requires.room, refl, refl, none-bound 8256, length-replicate {A = ℕ} 8256 0, (c.requires.answer_in_bounds.1.0, c.requires.answer_in_bounds.2.0, c.requires.answer_in_bounds.1.1, c.requires.answer_in_bounds.2.1), (λ P q b h. c.first_look-turn.ensures P q h.held))

pub shape_of-goal-in-Err : goal.shape_of-goal-in-Err
shape_of-goal-in-Err c = c.loop-turn.invariant.3

pub shape_of-saved-in-Err : goal.shape_of-saved-in-Err
shape_of-saved-in-Err c = c.loop-turn.invariant.4

pub returns-in-Err : goal.returns-in-Err
returns-in-Err c = λ P q b h. shut-ends P q _ _ c.loop-turn.saved _ _ c.in-Err.is (c.loop-turn.invariant.8 P q b h)

pub slice_bounds-ride-end : goal.slice_bounds-ride-end
slice_bounds-ride-end c = sym c.loop-turn.invariant.6

pub ride-requires : goal.ride-requires
ride-requires c = record { lent = (record { words_length = omega (arith, c.loop-turn.invariant.2.goal_length); cells_length = c.loop-turn.invariant.6; rows_length = c.loop-turn.invariant.0; saved_room = c.loop-turn.invariant.2.saved_room; out_length = c.loop-turn.invariant.1 }, c.loop-turn.invariant.5); book_on = (c.loop-turn.invariant.7.0, c.loop-turn.invariant.7.1, c.loop-turn.invariant.7.2, ride_starts c.loop-turn.goal c.loop-turn.saved c.args.query.budget c.args.query.formulas c.loop-turn.turn _ c.in-Ok.is c.loop-turn.invariant.7.0 c.loop-turn.invariant.7.1 (c.loop-turn.invariant.8 c.loop-turn.invariant.7.0 c.loop-turn.invariant.7.1 c.loop-turn.invariant.7.2 c.loop-turn.invariant.7.3) c.loop-turn.invariant.7.3) }

pub arrive-turn-requires : goal.arrive-turn-requires
arrive-turn-requires c = let a = came-arrived c.loop-turn.goal c.loop-turn.saved c.args.query.budget c.args.query.formulas c.loop-turn.turn _ c.in-Ok.is c.loop-turn.invariant.7.0 c.loop-turn.invariant.7.1 (c.loop-turn.invariant.8 c.loop-turn.invariant.7.0 c.loop-turn.invariant.7.1 c.loop-turn.invariant.7.2 c.loop-turn.invariant.7.3) c.loop-turn.invariant.7.3 c.ride.new.saved c.ride.new.out c.ride.result (c.ride.ensures.rode c.loop-turn.invariant.7.0 c.loop-turn.invariant.7.1 c.loop-turn.invariant.7.2 (ride_starts c.loop-turn.goal c.loop-turn.saved c.args.query.budget c.args.query.formulas c.loop-turn.turn _ c.in-Ok.is c.loop-turn.invariant.7.0 c.loop-turn.invariant.7.1 (c.loop-turn.invariant.8 c.loop-turn.invariant.7.0 c.loop-turn.invariant.7.1 c.loop-turn.invariant.7.2 c.loop-turn.invariant.7.3) c.loop-turn.invariant.7.3)) _ c.in-Some.is in record { size = omega (arith, a.here.answer_within, c.ride.auto.words, c.loop-turn.invariant.2.goal_length); some_arrived = (c.loop-turn.invariant.7.0, c.loop-turn.invariant.7.1, c.args.query.budget, _, a) }

pub loop-turn-smaller-in-Some : goal.loop-turn-smaller-in-Some
loop-turn-smaller-in-Some c = came-less c.loop-turn.goal c.loop-turn.saved c.args.query.budget c.args.query.formulas c.loop-turn.turn _ c.in-Ok.is c.loop-turn.invariant.7.0 c.loop-turn.invariant.7.1 (c.loop-turn.invariant.8 c.loop-turn.invariant.7.0 c.loop-turn.invariant.7.1 c.loop-turn.invariant.7.2 c.loop-turn.invariant.7.3) c.loop-turn.invariant.7.3 c.ride.new.saved c.ride.new.out c.ride.result (c.ride.ensures.rode c.loop-turn.invariant.7.0 c.loop-turn.invariant.7.1 c.loop-turn.invariant.7.2 (ride_starts c.loop-turn.goal c.loop-turn.saved c.args.query.budget c.args.query.formulas c.loop-turn.turn _ c.in-Ok.is c.loop-turn.invariant.7.0 c.loop-turn.invariant.7.1 (c.loop-turn.invariant.8 c.loop-turn.invariant.7.0 c.loop-turn.invariant.7.1 c.loop-turn.invariant.7.2 c.loop-turn.invariant.7.3) c.loop-turn.invariant.7.3)) _ c.in-Some.is _ _ c.arrive-turn.ensures

pub loop-turn-preserved-in-Some : goal.loop-turn-preserved-in-Some
loop-turn-preserved-in-Some c = (search rules, search rules, reroom c.loop-turn.invariant.2 _ _ (c.arrive-turn.auto.goal ∙ c.ride.auto.words) c.ride.auto.saved, c.arrive-turn.auto.goal ∙ c.ride.auto.words ∙ c.loop-turn.invariant.3, c.ride.auto.saved ∙ c.loop-turn.invariant.4, c.ride.ensures.free, c.ride.auto.cells ∙ c.loop-turn.invariant.6, c.loop-turn.invariant.7, (λ P q b h. came-turn c.loop-turn.goal c.loop-turn.saved c.args.query.budget c.args.query.formulas c.loop-turn.turn _ c.in-Ok.is P q (c.loop-turn.invariant.8 P q b h) h c.ride.new.saved c.ride.new.out c.ride.result (c.ride.ensures.rode P q b (ride_starts c.loop-turn.goal c.loop-turn.saved c.args.query.budget c.args.query.formulas c.loop-turn.turn _ c.in-Ok.is P q (c.loop-turn.invariant.8 P q b h) h)) _ c.in-Some.is _ _ c.arrive-turn.ensures))

pub slice_bounds-write_step-end : goal.slice_bounds-write_step-end
slice_bounds-write_step-end c = sym (c.ride.auto.cells ∙ c.loop-turn.invariant.6)

pub write_step-next-requires : goal.write_step-next-requires
write_step-next-requires c = record { cells_len = (c.ride.auto.cells ∙ c.loop-turn.invariant.6, c.ride.ensures.free); by_index = (c.loop-turn.invariant.7.0, c.loop-turn.invariant.7.1, _, c.loop-turn.invariant.7.2, stayed_starts c.loop-turn.goal c.loop-turn.saved c.args.query.budget c.args.query.formulas c.loop-turn.turn _ c.in-Ok.is c.loop-turn.invariant.7.0 c.loop-turn.invariant.7.1 (c.loop-turn.invariant.8 c.loop-turn.invariant.7.0 c.loop-turn.invariant.7.1 c.loop-turn.invariant.7.2 c.loop-turn.invariant.7.3) c.loop-turn.invariant.7.3 c.ride.new.saved c.ride.new.out c.ride.result (c.ride.ensures.rode c.loop-turn.invariant.7.0 c.loop-turn.invariant.7.1 c.loop-turn.invariant.7.2 (ride_starts c.loop-turn.goal c.loop-turn.saved c.args.query.budget c.args.query.formulas c.loop-turn.turn _ c.in-Ok.is c.loop-turn.invariant.7.0 c.loop-turn.invariant.7.1 (c.loop-turn.invariant.8 c.loop-turn.invariant.7.0 c.loop-turn.invariant.7.1 c.loop-turn.invariant.7.2 c.loop-turn.invariant.7.3) c.loop-turn.invariant.7.3)) c.in-None.is c.ride.auto.saved _ c.ride.auto.words c.ride.ensures.row) }

pub follow-turn-requires : goal.follow-turn-requires
follow-turn-requires c = open_following _ _ c.args.query.budget c.args.query.formulas _ _ c.write_step-next.result c.loop-turn.invariant.7.0 c.loop-turn.invariant.7.1 (reroom c.loop-turn.invariant.2 _ _ c.ride.auto.words c.ride.auto.saved) (stayed_starts c.loop-turn.goal c.loop-turn.saved c.args.query.budget c.args.query.formulas c.loop-turn.turn _ c.in-Ok.is c.loop-turn.invariant.7.0 c.loop-turn.invariant.7.1 (c.loop-turn.invariant.8 c.loop-turn.invariant.7.0 c.loop-turn.invariant.7.1 c.loop-turn.invariant.7.2 c.loop-turn.invariant.7.3) c.loop-turn.invariant.7.3 c.ride.new.saved c.ride.new.out c.ride.result (c.ride.ensures.rode c.loop-turn.invariant.7.0 c.loop-turn.invariant.7.1 c.loop-turn.invariant.7.2 (ride_starts c.loop-turn.goal c.loop-turn.saved c.args.query.budget c.args.query.formulas c.loop-turn.turn _ c.in-Ok.is c.loop-turn.invariant.7.0 c.loop-turn.invariant.7.1 (c.loop-turn.invariant.8 c.loop-turn.invariant.7.0 c.loop-turn.invariant.7.1 c.loop-turn.invariant.7.2 c.loop-turn.invariant.7.3) c.loop-turn.invariant.7.3)) c.in-None.is c.ride.auto.saved _ c.ride.auto.words c.ride.ensures.row) (c.write_step-next.ensures.says c.loop-turn.invariant.7.0 c.loop-turn.invariant.7.1 _ c.loop-turn.invariant.7.2)

pub loop-turn-smaller : goal.loop-turn-smaller
loop-turn-smaller c = open_less _ _ c.args.query.budget c.args.query.formulas _ _ c.write_step-next.result _ _ _ c.follow-turn.ensures c.loop-turn.invariant.7.0 c.loop-turn.invariant.7.1 (stayed_starts c.loop-turn.goal c.loop-turn.saved c.args.query.budget c.args.query.formulas c.loop-turn.turn _ c.in-Ok.is c.loop-turn.invariant.7.0 c.loop-turn.invariant.7.1 (c.loop-turn.invariant.8 c.loop-turn.invariant.7.0 c.loop-turn.invariant.7.1 c.loop-turn.invariant.7.2 c.loop-turn.invariant.7.3) c.loop-turn.invariant.7.3 c.ride.new.saved c.ride.new.out c.ride.result (c.ride.ensures.rode c.loop-turn.invariant.7.0 c.loop-turn.invariant.7.1 c.loop-turn.invariant.7.2 (ride_starts c.loop-turn.goal c.loop-turn.saved c.args.query.budget c.args.query.formulas c.loop-turn.turn _ c.in-Ok.is c.loop-turn.invariant.7.0 c.loop-turn.invariant.7.1 (c.loop-turn.invariant.8 c.loop-turn.invariant.7.0 c.loop-turn.invariant.7.1 c.loop-turn.invariant.7.2 c.loop-turn.invariant.7.3) c.loop-turn.invariant.7.3)) c.in-None.is c.ride.auto.saved _ c.ride.auto.words c.ride.ensures.row) (c.write_step-next.ensures.says c.loop-turn.invariant.7.0 c.loop-turn.invariant.7.1 _ c.loop-turn.invariant.7.2) _ c.in-Ok.is

pub loop-turn-preserved : goal.loop-turn-preserved
loop-turn-preserved c = (search rules, search rules, reroom c.loop-turn.invariant.2 _ _ (c.follow-turn.auto.goal ∙ c.ride.auto.words) (c.follow-turn.auto.saved ∙ c.ride.auto.saved), c.follow-turn.auto.goal ∙ c.ride.auto.words ∙ c.loop-turn.invariant.3, c.follow-turn.auto.saved ∙ c.ride.auto.saved ∙ c.loop-turn.invariant.4, c.write_step-next.ensures.free, c.write_step-next.auto.cells ∙ c.ride.auto.cells ∙ c.loop-turn.invariant.6, c.loop-turn.invariant.7, (λ P q b h. open_turn _ _ c.args.query.budget c.args.query.formulas _ _ c.write_step-next.result _ _ _ c.follow-turn.ensures P q (stayed_starts c.loop-turn.goal c.loop-turn.saved c.args.query.budget c.args.query.formulas c.loop-turn.turn _ c.in-Ok.is P q (c.loop-turn.invariant.8 P q b h) h c.ride.new.saved c.ride.new.out c.ride.result (c.ride.ensures.rode P q b (ride_starts c.loop-turn.goal c.loop-turn.saved c.args.query.budget c.args.query.formulas c.loop-turn.turn _ c.in-Ok.is P q (c.loop-turn.invariant.8 P q b h) h)) c.in-None.is c.ride.auto.saved _ c.ride.auto.words c.ride.ensures.row) (c.write_step-next.ensures.says P q _ b)))
