-- The numbers of the codes with which a search closes.
use Rattle.std.specs.Prelude.{ℕ}
use Rattle.states.specs.declared.Code.{Code}
use Rattle.states.specs.declared.Code.TheVariants.{Solved, Loop, Stuck, Spent, TooBig, Unknown, AnswerTooBig}

abbrev pub number : Code → ℕ
number Solved = 20
number Loop = 21
number Stuck = 22
number Spent = 23
number TooBig = 24
number Unknown = 26
number AnswerTooBig = 27
