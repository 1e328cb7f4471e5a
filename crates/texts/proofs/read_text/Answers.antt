use Rattle.texts.proofs.Finishing.{too_long}
use Rattle.texts.proofs.read_text.Goals as goal

pub returns-then-text-gt65536 : goal.returns-then-text-gt65536
returns-then-text-gt65536 c = record { answer = (too_long _ _ _ _ c.if-text-gt65536.true c.refused.ensures).answer; book = (too_long _ _ _ _ c.if-text-gt65536.true c.refused.ensures).book_is; names = (too_long _ _ _ _ c.if-text-gt65536.true c.refused.ensures).names_are }

pub returns : goal.returns
returns c = record { answer = c.read_short.ensures.answer; book = c.read_short.ensures.book_is; names = c.read_short.ensures.names_are }
