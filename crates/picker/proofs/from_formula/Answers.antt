use native.Mathlib.Omega.{arith}
use Rattle.resolve.specs.declared.Choice.TheVariants.{Clause, Stuck, Unknown}
use Rattle.resolve.proofs.Advances.{by_clause, by-stuck}
use Rattle.picker.proofs.Picks.{pick_as}
use Rattle.outcomes.proofs.Smalls.{furthest-small, small_is}
use Rattle.picker.proofs.from_formula.Goals as goal

pub choose-requires : goal.choose-requires
choose-requires c = (c.requires.0, c.requires.1)

pub picked-requires : goal.picked-requires
picked-requires c = let x = by_clause (c.choose.ensures _ _ _ _ c.requires.0.1 c.requires.1.3) _ c.in-Clause.is in omega (arith, x.1, c.requires.0.1.held.few)

pub stuck-requires : goal.stuck-requires
stuck-requires c = let x = by-stuck (c.choose.ensures _ _ _ _ c.requires.0.1 c.requires.1.3) _ _ c.in-Stuck.is in let s = small_is x.2 (furthest-small _ c.requires.0.1 c.requires.1.0 c.requires.1.1 c.requires.1.3) in (s.clause, s.argument)

pub returns-in-Clause : goal.returns-in-Clause
returns-in-Clause c = λ P f g n b w. pick_as P f g b w c.choose.result (Clause _) c.in-Clause.is c.picked.ensures (c.choose.ensures P f g n b w)

pub returns-in-Stuck : goal.returns-in-Stuck
returns-in-Stuck c = λ P f g n b w. pick_as P f g b w c.choose.result (Stuck _ _) c.in-Stuck.is c.stuck.ensures (c.choose.ensures P f g n b w)

pub returns-in-Unknown : goal.returns-in-Unknown
returns-in-Unknown c = λ P f g n b w. pick_as P f g b w c.choose.result Unknown c.in-Unknown.is c.picked-in-Unknown.ensures (c.choose.ensures P f g n b w)
