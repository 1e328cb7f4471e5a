use Rattle.answers.proofs.Clearing.{clearing}
use Rattle.answers.proofs.clear.Goals as goal

pub loop-copy-init : goal.loop-copy-init
loop-copy-init c = search clearing

pub next_at-next-requires : goal.next_at-next-requires
next_at-next-requires c = search clearing

pub clear_at-requires : goal.clear_at-requires
clear_at-requires c = search clearing

pub loop-copy-smaller : goal.loop-copy-smaller
loop-copy-smaller c = search clearing

pub loop-copy-preserved : goal.loop-copy-preserved
loop-copy-preserved c = search clearing

pub returns : goal.returns
returns c = search clearing
