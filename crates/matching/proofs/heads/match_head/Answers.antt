use mathlib.Core.Path.{refl, ◌∙◌, subst}
use Rattle.matching.specs.Heads.{Passes}
use Rattle.matching.proofs.HeadLaws.{match_on, match_unlike, match_unmixed}
use native.Mathlib.Omega.{arith}
use Rattle.matching.proofs.heads.match_head.Goals as goal

pub match_first-requires : goal.match_first-requires
match_first-requires c = record { made = (c.loop.invariant.0.extends.made, c.requires.4.none, match_unmixed c.loop.invariant.0 refl c.requires.4, c.requires.4.low); due = (c.loop.invariant.0.due, omega (arith, c.if-x-eq0.false), omega (arith, c.loop.invariant.1, c.requires.5)) }

pub settled-x-requires : goal.settled-x-requires
settled-x-requires c = let o = subst (Passes _ _ _ _ _ _ _) c.in-On.is c.match_first.ensures in (omega (arith, o.deep c.loop.invariant.0.deep), (o.due c.loop.invariant.0.due).room)

pub loop-preserved : goal.loop-preserved
loop-preserved c = (match_on c.loop.invariant.0 (subst (Passes _ _ _ _ _ _ _) c.in-On.is c.match_first.ensures) c.settled-x.ensures, c.match_first.auto.stack ∙ c.loop.invariant.1)

pub returns-in-Unlike : goal.returns-in-Unlike
returns-in-Unlike c = let z = subst (Passes _ _ _ _ _ _ _) c.in-Unlike.is c.match_first.ensures in rw z.0 (c.loop.invariant.0.extends, match_unlike c.loop.invariant.0 z.1)

pub returns-in-Open : goal.returns-in-Open
returns-in-Open c = let z = subst (Passes _ _ _ _ _ _ _) c.in-Open.is c.match_first.ensures in rw z.0 (rw z.1 c.loop.invariant.0)
