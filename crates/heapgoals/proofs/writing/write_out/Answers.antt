use Rattle.heapgoals.specs.HoldLaws.{holds-levels}
use Rattle.std.proofs.lemmas.Option.{IfSome_then}
use Rattle.heapgoals.proofs.Outs.{holds-placed, used-part}
use Rattle.heapgoals.proofs.writing.write_out.Goals as goal

pub write_rows-requires : goal.write_rows-requires
write_rows-requires c = record { placed = holds-placed c.requires.holds.2 (used-part c.args.words.now c.args.s) }

pub returns : goal.returns
returns c = record { row = IfSome_then c.write_rows.result c.write_rows.ensures.row (λ x y g a h. y _ g a h (used-part c.args.words.now c.args.s)); held = λ g a h. holds-levels c.write_rows.ensures.fore h; spare = c.write_rows.ensures.spare }
