-- The rules that are read, and the one that is read in part, as the program holds them.
use Rattle.std.specs.Prelude.{ℕ, suc, ◌+◌, ◌≤◌, ◌<◌, ◌≡◌, Bool, true, false, List, [], ◌∷◌, ◌++◌, length, take}
use Rattle.grammar.specs.Token.{Piece}
use Rattle.grammar.specs.Front as Front
use Rattle.grammar.specs.Syntax.{Rule}
use Rattle.grammar.specs.Names.{rule_spots, variable_number}
use Rattle.reading.specs.Part.{Part, formulas, inside, State, settle}
use Rattle.reading.specs.Limits.{SmallState}
use Rattle.reading.specs.Reader as Reader
use Rattle.reading.specs.Reader.{variables, judge}
use Rattle.pieces.specs.Found as Found
use Rattle.pieces.specs.Found.{front_at}
use Rattle.pieces.specs.declared.Found.{Found}
use Rattle.pieces.specs.declared.Found.TheVariants as F
use Rattle.stages.specs.Stage.{root_count, Held}
use Rattle.stages.specs.declared.Mode.{Mode}
use Rattle.stages.specs.declared.Mode.TheVariants.{Between, Expects, Named, Complete}
use Rattle.drafts.specs.declared.Draft.{Draft}
use Rattle.drafts.specs.Drafted.{Tables, after, bytes_of}
use Rattle.building.specs.Built.{Built}
use Rattle.reader.specs.declared.Turn.{Turn}

-- the names of rules, the last one first
abbrev pub tables_of : List Rule → Tables
tables_of [] k = []
tables_of (c ∷ cs) k = after (tables_of cs) (rule_spots c) k

-- the bytes of rules, the last one first
abbrev pub done_bytes : List Rule → List ℕ
done_bytes [] = []
done_bytes (c ∷ cs) = done_bytes cs ++ (5 ∷ length c.body ∷ bytes_of (tables_of cs) [] (rule_spots c))

-- how many brackets are open
abbrev pub levels : Part → ℕ
levels (formulas fs) = 0
levels (inside p v d) = suc (levels p)

pub record Kept (text out opens starts lens heads nexts : List ℕ) (b : Draft) (s : State) : Type 0 where
  pub built : Built text out opens starts lens heads nexts b (tables_of s.rules) s.part (levels s.part)
  pub start : ℕ
  pub behind : start + 2 ≡ b.from
  pub done : take start out ≡ done_bytes s.rules

-- the number of the variable that stands at the place
abbrev pub Numbered : List ℕ → ℕ → Found → ℕ → State → Type 0
Numbered text at (F.Name end) v s = Unit {0}
Numbered text at (F.Variable end) v s = v ≡ variable_number (variables s.part) (Found.part text at end)
Numbered text at F.Space v s = Unit {0}
Numbered text at (F.Comment end) v s = Unit {0}
Numbered text at F.Opening v s = Unit {0}
Numbered text at F.Closing v s = Unit {0}
Numbered text at F.Comma v s = Unit {0}
Numbered text at F.Arrow v s = Unit {0}
Numbered text at F.Stop v s = Unit {0}
Numbered text at F.HalfArrow v s = Unit {0}
Numbered text at F.HalfStop v s = Unit {0}
Numbered text at F.Nothing v s = Unit {0}

-- what is held of the book as long as it can still be of 32,768 bytes; and how long it is at least
pub record Sofar (text out opens starts lens heads nexts : List ℕ) (b : Draft) (s : State) : Type 0 where
  pub kept : b.from ≤ 32769 → Kept text out opens starts lens heads nexts b s
  pub grown : b.from ≤ length (done_bytes s.rules) + 2

-- a piece that is no opening bracket leads from one state, where no name waits for its bracket, to another
pub record Step (text : List ℕ) (at depth n v : ℕ) (found : Found) (s s' : State) : Type 0 where
  pub depth_is : depth ≡ levels s.part
  pub count_is : n ≡ root_count s.part
  pub small : SmallState s
  pub settled : settle s ≡ s
  pub piece : Piece
  pub rest : List ℕ
  pub shown : front_at text at found ≡ Front.front piece rest
  pub judged : judge s at piece ≡ Reader.going s'
  pub numbered : Numbered text at found v s
  pub few : v < 65536

-- somewhere there is such a step
pub record Steps (out opens : List ℕ) (b : Draft) (depth n v : ℕ) (found : Found) : Type 0 where
  pub text : List ℕ
  pub starts : List ℕ
  pub lens : List ℕ
  pub heads : List ℕ
  pub nexts : List ℕ
  pub at : ℕ
  pub before : State
  pub after : State
  pub kept : Kept text out opens starts lens heads nexts b before
  pub step : Step text at depth n v found before after

pub record Stepped (out out' opens : List ℕ) (b : Draft) (depth n v : ℕ) (found : Found) (r : Draft) : Type 0 where
  pub sofar : (text starts lens heads nexts : List ℕ) (at : ℕ) (s s' : State) → Kept text out opens starts lens heads nexts b s → Step text at depth n v found s s' →
      Sofar text out' opens starts lens heads nexts r s'

-- behind a rule that is finished
abbrev pub ended : Draft → Draft
ended b = record { from = b.from + b.len + 2; len = 0; constants = b.constants; compounds = b.compounds; predicates = b.predicates }

-- a name waits for its bracket
abbrev pub waits : Mode → Bool
waits Between = false
waits Expects = false
waits Named = true
waits Complete = false

-- a piece leads from one state to another
pub record Turning (text : List ℕ) (at : ℕ) (w : Turn) (s s' : State) : Type 0 where
  pub counts : List ℕ
  pub vars : List ℕ
  pub held : Held text counts vars w.stage s
  pub piece : Piece
  pub rest : List ℕ
  pub shown : front_at text at w.found ≡ Front.front piece rest
  pub judged : judge s at piece ≡ Reader.going s'
  pub numbered : Numbered text at w.found w.v s
  pub few : w.v < 65536

pub record Turns (text out opens starts lens heads nexts : List ℕ) (w : Turn) : Type 0 where
  pub at : ℕ
  pub before : State
  pub after : State
  pub kept : Kept text out opens starts lens heads nexts w.draft before
  pub turning : Turning text at w before after

pub record BuiltOn (text out out' opens opens' starts lens heads nexts starts' lens' heads' nexts' : List ℕ) (w : Turn) (r : Draft) : Type 0 where
  pub sofar : (at : ℕ) (s s' : State) → Kept text out opens starts lens heads nexts w.draft s → Turning text at w s s' → Sofar text out' opens' starts' lens' heads' nexts' r s'
