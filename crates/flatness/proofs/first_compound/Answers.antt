use native.Mathlib.Omega.{arith}
use lib.ListN.{get_or}
use mathlib.Core.Path.{refl}
use Rattle.flatness.proofs.Scanning.{scan-start, scanned_found, scanned_end, body-small, turn_on}
use Rattle.flatness.proofs.first_compound.Goals as goal

pub loop-at-init : goal.loop-at-init
loop-at-init c = scan-start _ _

pub returns-then-kind-eq3 : goal.returns-then-kind-eq3
returns-then-kind-eq3 c = (c.loop-at-test.true, scanned_found _ _ c.requires.0 _ c.loop-at.invariant c.loop-at-test.true c.if-kind-eq3.true)

pub overflow_add-at : goal.overflow_add-at
overflow_add-at c = record { fits = omega (arith, c.body_length.ensures, body-small (get_or c.args.bytes.now c.loop-at.at 0)) }

pub overflow_add-at-in-loop-at : goal.overflow_add-at-in-loop-at
overflow_add-at-in-loop-at c = record { fits = omega (arith, c.body_length.ensures, body-small (get_or c.args.bytes.now c.loop-at.at 0), c.requires.0, c.requires.1, c.loop-at-test.true) }

pub loop-at-preserved : goal.loop-at-preserved
loop-at-preserved c = turn_on _ _ c.loop-at.at _ _ _ c.requires.0 c.loop-at.invariant c.loop-at-test.true refl c.if-kind-eq3.false c.body_length.ensures (omega arith)

pub returns : goal.returns
returns c = scanned_end _ _ c.requires.0 _ c.loop-at.invariant c.loop-at-test.false
