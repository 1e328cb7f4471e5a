use Rattle.nametable.specs.Table.{word}
use mathlib.Core.Path.{sym, ◌∙◌}
use Rattle.stages.proofs.Kept.{number-lone, number-found, unwrapped}
use Rattle.stages.proofs.variables.number.Goals as goal

pub returns-then-lone : goal.returns-then-lone
returns-then-lone c = λ names h. number-lone names (word c.args.text.now c.args.at c.args.len) _ h.count (sym c.lone.ensures ∙ c.if-lone.true)

pub returns : goal.returns
returns c = λ names h. number-found names _ _ (unwrapped c.find.result _ _ c.unwrap_or.ensures (c.find.ensures names h)) (sym c.lone.ensures ∙ c.if-lone.false)
