use native.Mathlib.Omega.{arith}
use Rattle.building.proofs.Places.{depth-nodes}
use Rattle.building.proofs.Arguments.{closed-root, closed-inside, outer-facts}
use Rattle.building.proofs.close.Goals as goal

pub returns-then-depth-lt2 : goal.returns-then-depth-lt2
returns-then-depth-lt2 c = closed-root _ _ _ _ c.if-depth-lt2.true

pub bump-requires : goal.bump-requires
bump-requires c = (omega (arith, depth-nodes _ _ c.requires.built.opened, c.requires.count, c.requires.built.opens_long, c.if-depth-lt2.false), (outer-facts _ _ c.requires.built c.requires.small c.requires.count (λ z. omega (arith, z, c.if-depth-lt2.false))).0, omega (arith, c.requires.built.drafted.long), (outer-facts _ _ c.requires.built c.requires.small c.requires.count (λ z. omega (arith, z, c.if-depth-lt2.false))).1)

pub returns : goal.returns
returns c = closed-inside _ _ _ _ _ (λ z. omega (arith, z, c.if-depth-lt2.false)) c.bump.ensures
