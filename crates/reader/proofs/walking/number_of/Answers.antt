use native.Mathlib.Omega.{arith}
use Rattle.stages.proofs.Turning.{inside-at, span-inside}
use Rattle.reader.proofs.Walks.{numbered-told, variables-at, number-few}
use Rattle.reader.proofs.walking.number_of.Goals as goal

pub overflow_sub-end : goal.overflow_sub-end
overflow_sub-end c = omega (arith, (inside-at c.requires.1 c.in-Variable.is).0)

pub number-requires : goal.number-requires
number-requires c = ((_, variables-at _ _ c.requires.0.1.1.1 c.requires.0.1.1.2), omega (arith, c.requires.0.1.1.1.vars_long), span-inside _ _ _ (inside-at c.requires.1 c.in-Variable.is).0 (inside-at c.requires.1 c.in-Variable.is).1)

pub returns-in-Variable : goal.returns-in-Variable
returns-in-Variable c = (λ counts c₁ s h e. numbered-told _ _ _ _ _ s c.in-Variable.is (c.number.ensures _ (variables-at _ _ h e)), number-few _ _ _ _ _ _ _ _ c.in-Variable.is (variables-at _ _ c.requires.0.1.1.1 c.requires.0.1.1.2) (c.number.ensures _ (variables-at _ _ c.requires.0.1.1.1 c.requires.0.1.1.2)))
