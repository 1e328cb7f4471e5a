use native.Mathlib.Omega.{arith}
use mathlib.Core.Path.{refl}
use mathlib.Core.Logic.{inl, inr}
use Rattle.treads.proofs.Summing.{few_product, smaller}
use Rattle.treads.proofs.sizing.often.Goals as goal

pub returns-then-more-eq0 : goal.returns-then-more-eq0
returns-then-more-eq0 c = (inl refl, omega arith)

pub overflow_mul-s : goal.overflow_mul-s
overflow_mul-s c = record { fits = omega (arith, few_product c.args.s.most c.args.times 553648129 c.requires.0 c.requires.1) }

pub returns : goal.returns
returns c = let x = smaller c.max.result c.args.variables c.min.ensures in (elim x.0 [ inl e ↦ inr (c.if-more-eq0.false, omega (arith, e, c.max.ensures), omega (arith, e, c.max.ensures)) | inr e ↦ inl e ], x.1)
