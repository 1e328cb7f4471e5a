use native.Mathlib.Omega.{arith}
use lib.Seq.{length-take-le}
use Rattle.bounds.specs.TurnLaws.{note_small}
use Rattle.bounds.proofs.clauses.note.Goals as goal

pub note_word-n-requires : goal.note_word-n-requires
note_word-n-requires c = let few = length-take-le c.loop-u.u-index c.args.head.now (omega arith) in let s = note_small c.loop-u.invariant.0 (omega (arith, few, c.requires.fits.1)) in (c.requires.fits.0 c.loop-u.u-index c.loop-u-test.true, c.loop-u.invariant.1, s.0, s.1)
