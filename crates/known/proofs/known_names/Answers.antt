use Rattle.known.proofs.Along.{known-none, known-made, known-said}
use native.Mathlib.Omega.{arith}
use Rattle.known.proofs.known_names.Goals as goal

pub returns-then-not-is_list : goal.returns-then-not-is_list
returns-then-not-is_list c = known-none _ _ c.is_list.ensures c.if-not-is_list.true

pub in_turn-requires : goal.in_turn-requires
in_turn-requires c = known-made _ _ c.is_list.ensures (λ i. omega (arith, c.type_inv.s i)) c.if-not-is_list.false

pub returns : goal.returns
returns c = known-said _ _ c.is_list.ensures (λ i. omega (arith, c.type_inv.s i)) c.if-not-is_list.false _ c.in_turn.ensures
