use Prim.Native.Nat.{◌<◌}
use native.Mathlib.Omega.{arith}
use mathlib.Core.Path.{◌≡◌, refl, ◌∙◌}
use Rattle.std.proofs.Common.{length-take-le, get_or-take}
use Rattle.std.specs.Prelude.{max}
use Rattle.bounds.specs.CountLaws.{larger-max, grown-on}
use borrow.Author.Rules.{rules}
use Rattle.bounds.proofs.growth.Goals as goal

pub loop-v-preserved : goal.loop-v-preserved
loop-v-preserved c =
    let under : c.loop-v.v-index < c.args.count = omega (arith, length-take-le c.args.count c.args.trail.now c.requires.le_limit.3) in
    let there = c.from.ensures ∙ get_or-take c.args.count c.args.trail.now c.loop-v.v-index 0 under in
    let n : c.max-nodes.result ≡ max c.loop-v.nodes c.in_ok-size.size.nodes = search rules in
    let v : c.max-variables.result ≡ max c.loop-v.variables c.in_ok-size.size.variables = search rules in
    let g = grown-on c.requires.made.0 c.requires.made.1 _ under there c.get-p.ensures.0 refl c.loop-v.invariant.0 c.loop-v.invariant.1 c.in_ok-size.ensures (larger-max _ _ n) (larger-max _ _ v) refl in
    (g.0, g.1, search rules)
