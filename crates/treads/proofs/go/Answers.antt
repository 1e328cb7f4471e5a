use native.Mathlib.Omega.{arith}
use mathlib.Core.Path.{refl}
use Rattle.heapgoals.specs.HoldLaws.{fore-same, held-due}
use Rattle.treads.proofs.Going.{span-few, body-few, under_way-fore, stands-front, stands-levels, stands-body, stands-valid, next_of}
use Rattle.treads.proofs.go.Goals as goal

pub overflow_sub-formulas : goal.overflow_sub-formulas
overflow_sub-formulas c = omega (arith, c.requires.0.7.held.many)

pub overflow_add-formulas : goal.overflow_add-formulas
overflow_add-formulas c = record { fits = omega (arith, c.requires.0.7.held.few, body-few c.requires.0.7) }

pub returns-then-formulas-gt512 : goal.returns-then-formulas-gt512
returns-then-formulas-gt512 c = fore-same

pub sized-requires : goal.sized-requires
sized-requires c = (c.requires.0, c.requires.2)

pub overflow_sub-body : goal.overflow_sub-body
overflow_sub-body c = omega (arith, c.requires.0.7.placed.begins)

pub overflow_add-body : goal.overflow_add-body
overflow_add-body c = record { fits = omega (arith, c.requires.0.7.short, span-few c.requires.0.7, c.requires.0.7.placed.begins, c.requires.0.7.placed.ends) }

pub entered-w-requires : goal.entered-w-requires
entered-w-requires c = let u = under_way-fore c.requires.0.7 c.sized.ensures.levels in record { valids = (stands-valid u, u.fitted.more.made.short, stands-front u, held-due u.held, stands-body u); levels = (stands-levels u, c.requires.1, u.held.levels_long) }

pub overflow_add-result : goal.overflow_add-result
overflow_add-result c = let b = c.in_ok-size.ensures.bounds _ _ _ _ _ _ _ (under_way-fore c.requires.0.7 c.sized.ensures.levels) in record { fits = omega (arith, b.few, c.requires.0.7.room) }

pub returns : goal.returns
returns c = (refl, λ book words before f g a d v. let u = under_way-fore v c.sized.ensures.levels in next_of u c.in_ok-size.size (c.in_ok-size.ensures.bounds _ _ _ _ _ _ _ u) c.entered-w.new.levels c.entered-w.result c.entered-w.ensures _ refl (omega (arith, c.if-formulas-gt512.false)))
