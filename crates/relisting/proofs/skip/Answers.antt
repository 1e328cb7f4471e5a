use Rattle.relisting.proofs.Skipping.{skipping-stops}
use Rattle.relisting.proofs.Skipping.{skipping}
use Rattle.relisting.proofs.skip.Goals as goal

pub loop-at-init : goal.loop-at-init
loop-at-init c = search skipping

pub returns-then-byte-kind : goal.returns-then-byte-kind
returns-then-byte-kind c = skipping-stops _ _ _ _ c.loop-at.invariant c.loop-at-test.true _ c.byte.ensures.0 c.if-byte-kind.true

pub past-at-requires : goal.past-at-requires
past-at-requires c = (search skipping, search skipping)

pub loop-at-preserved : goal.loop-at-preserved
loop-at-preserved c = search skipping

pub returns : goal.returns
returns c = search skipping
