use Rattle.storage.proofs.Writing.{writing_start, writing}
use Rattle.storage.proofs.write_words.Goals as goal

pub loop-word-init : goal.loop-word-init
loop-word-init c = writing_start _ _ c.requires

pub overflow_add-written : goal.overflow_add-written
overflow_add-written c = search writing

pub loop-word-preserved : goal.loop-word-preserved
loop-word-preserved c = search writing

pub returns : goal.returns
returns c = search writing
