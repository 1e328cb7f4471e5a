use Rattle.storage.proofs.Writing.{Writing}
use Rattle.storage.proofs.write_words.Given as goal

abbrev pub invariant-loop-word : goal.invariant-loop-word
invariant-loop-word l = Writing l.words l.initial.area l.area l.written l.word-index
