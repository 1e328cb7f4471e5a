-- Refusals of a text, by the numbers of their codes.
use Rattle.std.specs.Prelude.{ℕ}
use Rattle.pieces.specs.declared.Code.{Code}
use Rattle.pieces.specs.declared.Code.TheVariants.{Range, Size, QueryRange, QuerySize, Unexpected, LongName}
use Rattle.pieces.specs.declared.Refusal.{Refusal}

abbrev pub number : Code → ℕ
number Range = 4
number Size = 5
number QueryRange = 14
number QuerySize = 15
number Unexpected = 41
number LongName = 42

abbrev pub refusal : Code → ℕ → Refusal
refusal code place = record { code = code; place = place }
