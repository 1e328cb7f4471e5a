use mathlib.Core.Path.{refl}
use Rattle.printer.proofs.Printing.{listed_by, image-list, image-name, image-long, image-room, image-done}
use Rattle.printer.proofs.print_image.Goals as goal

pub returns-then-not-check_names : goal.returns-then-not-check_names
returns-then-not-check_names c = image-list _ _ _ _ c.check_names.ensures _ c.if-not-check_names.true c.refused.ensures

pub all_named-requires : goal.all_named-requires
all_named-requires c = record { stands = listed_by _ _ c.check_names.ensures c.if-not-check_names.false; image_value = c.requires }

pub returns-then-not-all_named : goal.returns-then-not-all_named
returns-then-not-all_named c = image-name _ _ _ _ c.check_names.ensures c.if-not-check_names.false _ c.all_named.ensures _ c.if-not-all_named.true c.refused-then-not-all_named.ensures

pub measure-n-requires : goal.measure-n-requires
measure-n-requires c = record { stands = listed_by _ _ c.check_names.ensures c.if-not-check_names.false; image_value = c.requires }

pub returns-then-n-gt65536 : goal.returns-then-n-gt65536
returns-then-n-gt65536 c = image-long _ _ _ _ c.check_names.ensures c.if-not-check_names.false _ c.all_named.ensures c.if-not-all_named.false _ c.measure-n.ensures _ c.if-n-gt65536.true c.refused-then-n-gt65536.ensures

pub returns-then-area-n : goal.returns-then-area-n
returns-then-area-n c = image-room _ _ _ _ c.check_names.ensures c.if-not-check_names.false _ c.all_named.ensures c.if-not-all_named.false _ c.measure-n.ensures c.if-n-gt65536.false _ c.if-area-n.true c.refused-then-area-n.ensures

pub write-requires : goal.write-requires
write-requires c = record { stands = listed_by _ _ c.check_names.ensures c.if-not-check_names.false; image_value = c.requires }

pub returns : goal.returns
returns c = image-done _ _ _ _ c.check_names.ensures c.if-not-check_names.false _ c.all_named.ensures c.if-not-all_named.false _ c.measure-n.ensures c.if-n-gt65536.false _ _ _ c.if-area-n.false c.write.ensures refl
