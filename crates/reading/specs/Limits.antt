-- The sizes that the reader keeps to.
use Rattle.std.specs.Prelude.{◌≤◌, List, length}
use Rattle.grammar.specs.Syntax.{Rule}
use Rattle.grammar.specs.Reading.{SmallFormulas, SmallRules}
use Rattle.reading.specs.Part.{Part, formulas, inside, Mode, between, expects, named, complete, State}
use Rattle.reading.specs.Part.{Taken, taken, wrong}
use Rattle.reading.specs.Reader.{nodes, variables, size}
use Rattle.reading.specs.SizeLaws.{SmallDone}

-- one more formula or argument may be added
abbrev pub Room : Part → Type 0
Room (formulas fs) = length fs ≤ 16
Room (inside p v d) = size d ≤ 7

abbrev pub SmallPart : Part → Type 0
SmallPart (formulas fs) = SmallFormulas fs × (length fs ≤ 17)
SmallPart (inside p v d) = SmallPart p × Room p × (length v ≤ 32) × SmallDone d × (size d ≤ 8)

abbrev pub SmallMode : List Rule → Part → Mode → Type 0
SmallMode cs p between = length cs ≤ 512
SmallMode cs p expects = length cs ≤ 511
SmallMode cs p (named w) = (length cs ≤ 511) × Room p × (length w ≤ 32) × (nodes p ≤ 255)
SmallMode cs p complete = length cs ≤ 511

pub record SmallState (s : State) : Type 0 where
  pub rules : SmallRules s.rules
  pub part : SmallPart s.part
  pub count : nodes s.part ≤ 256
  pub named : length (variables s.part) ≤ 64
  pub mode : SmallMode s.rules s.part s.mode

abbrev pub SmallTaken : Taken → Type 0
SmallTaken (taken s) = SmallState s
SmallTaken wrong = Unit {0}
