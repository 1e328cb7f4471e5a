use Rattle.texts.proofs.Finishing.{refused-place, refused-is, came-read}
use Rattle.texts.proofs.answer.Goals as goal

pub refusal-requires : goal.refusal-requires
refusal-requires c = refused-place _ _ _ _ _ _ c.requires c.in-Err.is

pub finish-requires : goal.finish-requires
finish-requires c = came-read _ _ _ _ _ _ c.in-Ok.is c.requires

pub returns-in-Err : goal.returns-in-Err
returns-in-Err c = refused-is _ _ _ _ _ _ c.requires c.in-Err.is _ _ _ _ c.from.ensures c.refusal.ensures
