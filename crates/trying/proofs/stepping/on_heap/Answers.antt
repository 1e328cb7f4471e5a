use mathlib.Core.Path.{◌∙◌, subst}
use Rattle.trying.proofs.Moves.{fronted, set-up, trial-undoable, quickened}
use Rattle.trials.specs.Trying.{Sought}
use Rattle.trying.proofs.stepping.on_heap.Goals as goal

pub first_fit-requires : goal.first_fit-requires
first_fit-requires c = record { cells_len = (c.requires.cells_len.0, c.requires.cells_len.1); fronted = ((_, c.requires.shaped.0.1), (_, _, _, fronted c.args.words.now c.args.x c.requires.shaped.1.3)) }

pub carry-next-requires : goal.carry-next-requires
carry-next-requires c = record { cells_len = c.first_fit.auto.cells ∙ c.requires.cells_len.0; by_index = (_, _, _, _, _, _, set-up c.args.words.now c.args.x c.requires.shaped.1.3 c.requires.shaped.0.1 c.first_fit.new.words c.first_fit.new.cells c.first_fit.new.rows c.first_fit.result (c.first_fit.ensures _ _ _ _ c.requires.shaped.0.1 (fronted c.args.words.now c.args.x c.requires.shaped.1.3)) _ c.in_ok-found.was) }

pub release-requires : goal.release-requires
release-requires c = (c.first_fit.auto.cells ∙ c.requires.cells_len.0, trial-undoable c.args.words.now c.args.x c.requires.shaped.1.3 c.requires.shaped.0.1 c.first_fit.new.words c.first_fit.new.cells c.first_fit.new.rows c.first_fit.result (c.first_fit.ensures _ _ _ _ c.requires.shaped.0.1 (fronted c.args.words.now c.args.x c.requires.shaped.1.3)) _ c.in_ok-found.was c.carry-next.ensures.spare)

pub returns : goal.returns
returns c = record { quickened = λ P f g a o s. quickened c.args.words.now c.args.x s o c.first_fit.new.words c.first_fit.new.cells c.first_fit.new.rows c.first_fit.result (c.first_fit.ensures P f g a o (fronted c.args.words.now c.args.x s)) _ c.in_ok-found.was _ c.carry-next.result (c.carry-next.ensures.quickly _ _ P f g a (set-up c.args.words.now c.args.x s o c.first_fit.new.words c.first_fit.new.cells c.first_fit.new.rows c.first_fit.result (c.first_fit.ensures P f g a o (fronted c.args.words.now c.args.x s)) _ c.in_ok-found.was)); free = c.release.ensures }

pub returns-in_err-found-clause-free : goal.returns-in_err-found-clause-free
returns-in_err-found-clause-free c = subst (Sought c.requires.shaped.0.0 c.requires.shaped.1.0 _ _ _ _ _ _ _) c.in_err-found.was (c.first_fit.ensures _ _ _ _ c.requires.shaped.0.1 (fronted c.args.words.now c.args.x c.requires.shaped.1.3))
