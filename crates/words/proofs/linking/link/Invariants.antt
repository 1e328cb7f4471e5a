use Rattle.words.specs.Held.{key}
use Rattle.words.specs.Lists.{Built}
use Rattle.words.proofs.linking.link.Given as goal

abbrev pub invariant-loop-i : goal.invariant-loop-i
invariant-loop-i l = Built l.clauses l.i (key l.book l.starts) l.initial.shelf l.shelf
