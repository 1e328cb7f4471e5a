use native.Mathlib.Omega.{arith}
use Rattle.relisting.proofs.Putting.{putting, putting-inside, entry-counted, putting-next}
use borrow.Author.Rules.{rules}
use Rattle.relisting.proofs.put_own.Goals as goal

pub loop-i-init : goal.loop-i-init
loop-i-init c = (search putting, search rules, search rules, search rules, search rules, search rules)

pub put_entry-at-requires : goal.put_entry-at-requires
put_entry-at-requires c = (search putting, search putting, search putting, search putting)

pub overflow_add-at : goal.overflow_add-at
overflow_add-at c = let l = c.loop-i in let e = entry-counted _ _ _ _ _ _ _ l.invariant.0 (omega arith) _ _ c.get-start.ensures.0 c.get-len.ensures.0 _ _ c.put_entry-at.ensures in record { fits = omega (arith, l.invariant.1) }

pub loop-i-preserved : goal.loop-i-preserved
loop-i-preserved c = let l = c.loop-i in let n = putting-next _ _ _ _ _ _ _ l.invariant.0 (omega arith) _ _ c.get-start.ensures.0 c.get-len.ensures.0 _ _ c.put_entry-at.ensures in (n, search rules, putting-inside _ _ _ _ _ _ _ n, search rules, search rules, search rules)

pub returns : goal.returns
returns c = λ names o. search putting
