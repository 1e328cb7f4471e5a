use native.Mathlib.Omega.{arith}
use Rattle.namelist.proofs.Finding.{list-made, list-none, list-said}
use Rattle.namelist.proofs.is_list.Goals as goal

pub returns-then-not-entries_good : goal.returns-then-not-entries_good
returns-then-not-entries_good c = list-none _ _ c.entries_good.ensures c.if-not-entries_good.true

pub all_unshared-requires : goal.all_unshared-requires
all_unshared-requires c = list-made _ _ c.entries_good.ensures (λ i. omega (arith, c.shared_slice_known-1.given i)) c.if-not-entries_good.false

pub returns : goal.returns
returns c = list-said _ _ c.entries_good.ensures (λ i. omega (arith, c.shared_slice_known-1.given i)) c.if-not-entries_good.false _ c.all_unshared.ensures
