use mathlib.Core.Path.{sym, ◌∙◌}
use Rattle.picking.proofs.Sifts.{some_left, some_right, other-predicates, other-symbols, not-told}
use Rattle.picking.proofs.told_apart.Goals as goal

pub word-p-requires : goal.word-p-requires
word-p-requires c = some_left c.requires.1.0 c.requires.0.1 c.requires.1.2

pub word-q-requires : goal.word-q-requires
word-q-requires c = some_right c.requires.1.0 c.requires.0.1 c.requires.1.2

pub returns-then-p-q : goal.returns-then-p-q
returns-then-p-q c = other-predicates _ _ (λ e. c.if-p-q.true (c.word-p.ensures ∙ e ∙ sym c.word-q.ensures))

pub returns-then-head-gt1 : goal.returns-then-head-gt1
returns-then-head-gt1 c = other-symbols _ _ _ (sym c.word-p.ensures ∙ c.if-p-q.false ∙ c.word-q.ensures) c.if-formula-gt1.true c.if-head-gt1.true (rw (c.word.ensures, c.word-then-head-gt1.ensures) at c.clash.ensures)

pub returns-then-formula-gt1 : goal.returns-then-formula-gt1
returns-then-formula-gt1 c = not-told _ _ (sym c.word-p.ensures ∙ c.if-p-q.false ∙ c.word-q.ensures)

pub returns : goal.returns
returns c = not-told _ _ (sym c.word-p.ensures ∙ c.if-p-q.false ∙ c.word-q.ensures)
