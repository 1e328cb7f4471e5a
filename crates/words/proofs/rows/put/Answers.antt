use native.Mathlib.Omega.{arith}
use Rattle.words.specs.Columns.{put-law}
use Rattle.words.proofs.rows.put.Goals as goal

pub returns : goal.returns
returns c = put-law _ _ _ _ c.requires.1 (omega arith)
