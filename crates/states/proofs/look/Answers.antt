use Rattle.states.proofs.Turns.{turn_of}
use Rattle.states.proofs.Looks.{look-solved, first-there, front-there, look-judged}
use Rattle.std.specs.Prelude.{Err}
use mathlib.Core.Path.{refl, sym, ap, ◌∙◌}
use Rattle.states.proofs.look.Goals as goal

pub returns-then-formulas-eq0 : goal.returns-then-formulas-eq0
returns-then-formulas-eq0 c = look-solved _ _ _ _ _ _ _ _ c.if-formulas-eq0.true (ap Err (rw c.from.ensures at c.close.ensures))

pub extent-front-requires : goal.extent-front-requires
extent-front-requires c =
    let x = first-there _ _ _ _ _ _ _ c.if-formulas-eq0.false c.args.words refl c.requires
    in (x.0, x.1, _, x.2)

pub same_front-same-requires : goal.same_front-same-requires
same_front-same-requires c = front-there _ _ _ _ _ _ _ c.if-formulas-eq0.false c.args.words refl c.extent-front.result (λ f g h. c.extent-front.ensures f g c.args.formulas h) c.requires

pub returns-in-Some : goal.returns-in-Some
returns-in-Some c = let a = c.args in let j = c.judge-span in look-judged _ _ _ a.words _ _ _ c.if-formulas-eq0.false a.words refl c.extent-front.result (λ f g h. c.extent-front.ensures f g a.formulas h) c.same_front-same.result c.same_front-same.ensures j.result.span j.ensures.1 j.result.detector j.ensures.0 _ (ap Err (rw c.from-in-Some.ensures at c.close-in-Some.ensures) ∙ ap (turn_of _ _ _ _ _ _) (sym c.in-Some.is))

pub returns-in-None : goal.returns-in-None
returns-in-None c = let a = c.args in let j = c.judge-span in look-judged _ _ _ a.words _ _ _ c.if-formulas-eq0.false a.words refl c.extent-front.result (λ f g h. c.extent-front.ensures f g a.formulas h) c.same_front-same.result c.same_front-same.ensures j.result.span j.ensures.1 j.result.detector j.ensures.0 _ (ap (turn_of _ _ _ _ _ _) (sym c.in-None.is))
