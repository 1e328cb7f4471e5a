use Rattle.listing.proofs.Listed.{listing_start, listing-inside, lens-inside, entry-inside, entry-room, listing-next}
use borrow.Author.Rules.{rules}
use Rattle.listing.proofs.put_names.Goals as goal

pub loop-i-init : goal.loop-i-init
loop-i-init c = (listing_start _ _ _ _ _ c.requires.count c.requires.within c.requires.room, search rules, search rules)

pub bounds-lens-i : goal.bounds-lens-i
bounds-lens-i c = lens-inside _ _ _ _ _ c.loop-i.invariant.0 c.loop-i-test.true

pub put_entry-at-requires : goal.put_entry-at-requires
put_entry-at-requires c = (search entry-inside, search entry-room, search rules, search rules)

pub loop-i-preserved : goal.loop-i-preserved
loop-i-preserved c = let l = c.loop-i in let n = listing-next _ _ _ _ _ l.invariant.0 c.loop-i-test.true _ _ c.from.ensures c.from-in-loop-i.ensures _ _ c.put_entry-at.ensures in (n, search rules, listing-inside _ _ _ _ _ n)
