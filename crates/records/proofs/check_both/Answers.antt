use mathlib.Core.Path.{refl}
use Rattle.records.proofs.Tables.{by-book, by-query}
use Rattle.records.proofs.Turns.{says, says-by}
use Rattle.records.proofs.check_both.Goals as goal

pub returns-then-found-eq0 : goal.returns-then-found-eq0
returns-then-found-eq0 c =
    let good = c.in_ok-found.ensures.answer.told in
    says-by c.check_input.auto.table (by-query _ _ _ c.requires _ good c.if-found-eq0.true _ c.in_ok-found.ensures.met _ refl) c.check_input-then-found-eq0.ensures.answer

pub returns : goal.returns
returns c = says (by-book _ _ _ c.requires _ c.in_ok-found.ensures.answer.told c.if-found-eq0.false)
