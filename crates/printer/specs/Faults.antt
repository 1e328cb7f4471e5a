-- Why the text of a good image is not written, by the numbers of the codes (document 02, C-14).
use Rattle.std.specs.Prelude.{ℕ}
use Rattle.printer.specs.declared.Fault.{Fault}
use Rattle.printer.specs.declared.Fault.TheVariants.{Unnamed, NoList, NoRoom}

abbrev pub number : Fault → ℕ
number Unnamed = 44
number NoList = 45
number NoRoom = 46
