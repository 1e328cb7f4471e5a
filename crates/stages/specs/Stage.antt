-- A state of the reader (crate `reading`) in numbers.
use Rattle.std.specs.Prelude.{ℕ, zero, suc, ◌+◌, ◌≤◌, ◌<◌, ◌≡◌, Bool, true, false, List, length, get_or, set, Option, Some, None, Result, Ok, Err}
use Rattle.terms.specs.When.{◌⇒◌∣◌}
use Rattle.grammar.specs.Token.{Piece}
use Rattle.grammar.specs.Front as Front
use Rattle.grammar.specs.Syntax.{Formula}
use Rattle.reading.specs.Part as Part
use Rattle.reading.specs.Part.{Done, Part, formulas, inside, State, state}
use Rattle.reading.specs.Reader as Reader
use Rattle.reading.specs.Reader.{size, full, crowded, nodes, variables, judge, Outcome, refused, from_front}
use Rattle.reading.specs.Limits.{SmallState}
use Rattle.pieces.specs.Found.{front_at}
use Rattle.pieces.specs.declared.Found.{Found}
use Rattle.pieces.specs.declared.Found.TheVariants as F
use Rattle.pieces.specs.declared.Code.{Code}
use Rattle.pieces.specs.declared.Code.TheVariants.{Unexpected}
use Rattle.pieces.specs.declared.Refusal.{Refusal}
use Rattle.pieces.specs.Refusal.{number, refusal}
use Rattle.nametable.specs.Table.{word}
use Rattle.stages.specs.declared.Mode.{Mode}
use Rattle.stages.specs.declared.Mode.TheVariants.{Between, Expects, Named, Complete}
use Rattle.stages.specs.declared.Stage.{Stage}
use Rattle.stages.specs.Variables.{Variables}

abbrev pub mode_of : List ℕ → Mode → ℕ → ℕ → Part.Mode
mode_of text Between at len = Part.between
mode_of text Expects at len = Part.expects
mode_of text Named at len = Part.named (word text at len)
mode_of text Complete at len = Part.complete

abbrev pub is_complete : Mode → Bool
is_complete Between = false
is_complete Expects = false
is_complete Named = false
is_complete Complete = true

abbrev pub awaits : Mode → Bool
awaits Between = true
awaits Expects = true
awaits Named = false
awaits Complete = false

-- no bracket may follow
abbrev pub Settled : Mode → Type 0
Settled Between = Unit {0}
Settled Expects = Unit {0}
Settled Named = ⊥
Settled Complete = Unit {0}

-- the counts are those of the arguments behind the open brackets, the outermost first
pub data Deep (counts : List ℕ) : Part → ℕ → Type 0 where
  root : {fs : List Formula} → Deep counts (formulas fs) 0
  level : {p : Part} {v : List ℕ} {d : Done} {k : ℕ} → Deep counts p k → get_or counts k 0 ≡ size d → Deep counts (inside p v d) (suc k)

abbrev pub root_count : Part → ℕ
root_count (formulas fs) = length fs
root_count (inside p v d) = root_count p

-- one more argument of the innermost open symbol, or one more formula
abbrev pub raised : ℕ → List ℕ → List ℕ
raised zero counts = counts
raised (suc k) counts = set counts k (get_or counts k 0 + 1)

abbrev pub grown : ℕ → ℕ → ℕ
grown zero n = n + 1
grown (suc k) n = n

-- the name whose bracket may follow stands in the text
abbrev pub NameInside : List ℕ → Mode → ℕ → ℕ → Type 0
NameInside text Between at len = Unit {0}
NameInside text Expects at len = Unit {0}
NameInside text Named at len = (at + len ≤ length text) × (at < 65536)
NameInside text Complete at len = Unit {0}

pub record Held (text counts vars : List ℕ) (c : Stage) (s : State) : Type 0 where
  pub mode_is : s.mode ≡ mode_of text c.mode c.at c.len
  pub deep : Deep counts s.part c.depth
  pub formulas_are : c.formulas ≡ root_count s.part
  pub nodes_are : c.nodes ≡ nodes s.part
  pub rules_are : c.rules ≡ length s.rules
  pub variables_are : Variables text vars (variables s.part) c.variables
  pub small : SmallState s
  pub counts_long : length counts ≡ 256
  pub vars_long : length vars ≡ 128
  pub name_inside : NameInside text c.mode c.at c.len

pub record Somewhere (counts : List ℕ) (c : Stage) : Type 0 where
  pub text : List ℕ
  pub vars : List ℕ
  pub state : State
  pub held : Held text counts vars c state

pub record Anywhere (c : Stage) : Type 0 where
  pub counts : List ℕ
  pub held : Somewhere counts c

-- the code of a name that is one too many
abbrev pub code : State → ℕ
code s = full s.part ⇒ 4 ∣ crowded s.rules s.part ⇒ 5 ∣ 0

-- the number of a code, or 0
abbrev pub limit_number : Option Code → ℕ
limit_number None = 0
limit_number (Some c) = number c

-- What the program makes of a stage

abbrev pub expecting : Stage → Stage
expecting c = record { mode = Expects; at = c.at; len = c.len; depth = c.depth; formulas = c.formulas; nodes = c.nodes; variables = c.variables; rules = c.rules }

abbrev pub named : Stage → ℕ → ℕ → Stage
named c at len = record { mode = Named; at = at; len = len; depth = c.depth; formulas = c.formulas; nodes = c.nodes; variables = c.variables; rules = c.rules }

abbrev pub finished : Stage → Stage
finished c = record { mode = Between; at = 0; len = 0; depth = 0; formulas = 0; nodes = 0; variables = 0; rules = c.rules + 1 }

abbrev pub with_argument : Stage → ℕ → Stage
with_argument c n = record { mode = Complete; at = c.at; len = c.len; depth = c.depth; formulas = grown c.depth c.formulas; nodes = c.nodes + 1; variables = n; rules = c.rules }

-- behind a closing bracket, where depth brackets are still open
abbrev pub closed_to : Stage → ℕ → Stage
closed_to c depth = record { mode = Complete; at = c.at; len = c.len; depth = depth; formulas = grown depth c.formulas; nodes = c.nodes; variables = c.variables; rules = c.rules }

abbrev pub opened : Stage → Stage
opened c = record { mode = Expects; at = c.at; len = c.len; depth = c.depth + 1; formulas = c.formulas; nodes = c.nodes + 1; variables = c.variables; rules = c.rules }

-- an argument must come
abbrev pub in_brackets : ℕ → Bool
in_brackets zero = false
in_brackets (suc k) = true

abbrev pub expects : Mode → ℕ → Bool
expects Between depth = false
expects Expects depth = in_brackets depth
expects Named depth = false
expects Complete depth = false

abbrev pub halved : Result Stage Refusal → ℕ → Result Stage Refusal
halved (Ok c) at = Err (refusal Unexpected (at + 1))
halved (Err r) at = Err (refusal Unexpected at)

-- What a token leads to

abbrev pub After : List ℕ → List ℕ → List ℕ → Reader.Judged → Result Stage Refusal → Type 0
After text counts vars j (Ok c) = ((s : State) × (j ≡ Reader.going s) × Held text counts vars c s)
After text counts vars j (Err r) = j ≡ Reader.bad (number r.code) r.place

-- What the piece at a place leads to

abbrev pub is_opening_found : Found → Bool
is_opening_found (F.Name end) = false
is_opening_found (F.Variable end) = false
is_opening_found F.Space = false
is_opening_found (F.Comment end) = false
is_opening_found F.Opening = true
is_opening_found F.Closing = false
is_opening_found F.Comma = false
is_opening_found F.Arrow = false
is_opening_found F.Stop = false
is_opening_found F.HalfArrow = false
is_opening_found F.HalfStop = false
is_opening_found F.Nothing = false

-- the state behind the piece, at the front of what is left
pub record Goes (text counts vars : List ℕ) (s : State) (at : ℕ) (f : Front.Front) (c : Stage) : Type 0 where
  pub piece : Piece
  pub rest : List ℕ
  pub shown : f ≡ Front.front piece rest
  pub after : State
  pub judged : judge s at piece ≡ Reader.going after
  pub held : Held text counts vars c after

abbrev pub Turns : List ℕ → List ℕ → List ℕ → State → ℕ → Found → Result Stage Refusal → Type 0
Turns text counts vars s at found (Ok c) = Goes text counts vars s at (front_at text at found) c
Turns text counts vars s at found (Err r) = (more : State → ℕ → List ℕ → Outcome) → from_front s at (front_at text at found) more ≡ refused (number r.code) r.place

pub record Turned (text counts vars : List ℕ) (s : State) (at : ℕ) (found : Found) (r : Result Stage Refusal) : Type 0 where
  pub turns : Turns text counts vars s at found r
