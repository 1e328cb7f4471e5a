use Prim.Native.Nat.{◌+◌}
use Rattle.symbols.proofs.Tables.{kept-long}
use mathlib.Core.Path.{refl}
use Rattle.symbols.proofs.Tables.{lent-table, lent-room, put_back}
use Rattle.symbols.proofs.number_in.Goals as goal

pub number-requires : goal.number-requires
number-requires c = record { by_index = (c.requires.by_index.0, lent-table c.requires.by_index.1 _ _ refl refl); room = lent-room c.requires.by_index.1 _ _ refl refl c.requires.count_lt_room.0; len_in_bounds = (c.requires.count_lt_room.1, c.requires.count_lt_room.2, c.requires.count_lt_room.3) }

pub returns : goal.returns
returns c = put_back _ _ _ _ _ _ _ _ _ _ _ _ _ _ refl refl (kept-long c.args.section.from c.args.section.room (c.args.section.from + c.args.section.room) c.args.starts.now c.number.new.starts c.number.auto.starts refl c.requires.by_index.1.starts_room) (kept-long c.args.section.from c.args.section.room (c.args.section.from + c.args.section.room) c.args.lens.now c.number.new.lens c.number.auto.lens refl c.requires.by_index.1.lens_room) (kept-long c.args.section.heads 4096 (c.args.section.heads + 4096) c.args.heads.now c.number.new.heads c.number.auto.heads refl c.requires.by_index.1.heads_room) (kept-long c.args.section.from c.args.section.room (c.args.section.from + c.args.section.room) c.args.nexts.now c.number.new.nexts c.number.auto.nexts refl c.requires.by_index.1.nexts_room) c.number.ensures _ c.requires.by_index.1
