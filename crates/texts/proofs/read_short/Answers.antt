use Rattle.texts.proofs.Finishing.{fresh}
use Rattle.texts.proofs.read_short.Goals as goal

pub walk-ended-requires : goal.walk-ended-requires
walk-ended-requires c = (c.requires, fresh _)

pub answer-requires : goal.answer-requires
answer-requires c = record { opens = _; heads = _; nexts = _; ends = c.walk-ended.ensures; short = c.requires }
