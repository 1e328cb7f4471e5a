-- Why a text is refused that the reader did not refuse, by the numbers of the codes (document 02, C-13).
use Rattle.std.specs.Prelude.{ℕ}
use Rattle.texts.specs.declared.Fault.{Fault}
use Rattle.texts.specs.declared.Fault.TheVariants.{Text, Book, Arities, Room}

abbrev pub number : Fault → ℕ
number Text = 40
number Book = 5
number Arities = 7
number Room = 43
