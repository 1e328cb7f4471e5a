-- What it means that records are passed over: the definition takes each of them. The pass keeps five numbers and not a whole state, since the clauses so far and whether the
-- end was read stay as they are from one node to the next: so what is said of it holds for all values of those two.
use Rattle.std.specs.Prelude.{ℕ, ◌+◌, ◌*◌, ◌≤◌, ◌<◌, ◌≡◌, Bool, List, length, get_or, Ok}
use Rattle.format.specs.declared.State.{State}
use Rattle.format.specs.declared.Form.{Form}
use Rattle.format.specs.Reading.{body_length, record_at, judge, node_limit, variable_limit}
use Rattle.format.specs.Arities.{Memory, meets}
use Rattle.records.specs.declared.passing.Open.{Open}

-- some records, or none, each of them taken, lead from a state, a place and a memory to the last ones
pub data Leads (form : Form) (s : List ℕ) (last : State) (end : ℕ) (left : Memory) : State → ℕ → Memory → Type 0 where
  there : Leads form s last end left last end left
  taking : {state next : State} {at : ℕ} {m : Memory} → at < length s → judge form state m s at ≡ Ok next →
      Leads form s last end left next (at + 1 + body_length (get_or s at 0)) (meets m (record_at s at (get_or s at 0))) → Leads form s last end left state at m

abbrev pub standing : Open → ℕ → Bool → State
standing x clauses closed =
    record { terms = x.terms; formulas = x.formulas; nodes = x.nodes; variables = x.variables; clauses = clauses; closed = closed }

-- from x with the memory m to y with the memory m'
pub record Passes (form : Form) (s : List ℕ) (x : Open) (m : Memory) (y : Open) (m' : Memory) : Type 0 where
  pub leads : (clauses : ℕ) (closed : Bool) → Leads form s (standing y clauses closed) y.at m' (standing x clauses closed) x.at m

-- the same for whichever form has this limit of variables and room for one node more
abbrev pub PassesBelow : ℕ → List ℕ → Open → Memory → Open → Memory → Type 0
PassesBelow most s x m y m' = (form : Form) → most ≡ variable_limit form → x.nodes < node_limit form → Passes form s x m y m'

-- four bytes are left, the most that a node has, and the counters leave room to count on
pub record Ready (s : List ℕ) (x : Open) : Type 0 where
  pub four : x.at + 3 < length s
  pub terms : x.terms ≤ 16777216
  pub nodes : x.nodes ≤ 65536
  pub variables : x.variables ≤ 65536

-- the counters grow with the place
pub record Counted (s : List ℕ) (x : Open) : Type 0 where
  pub short : length s ≤ 32768
  pub bound : x.at ≤ length s
  pub terms : x.terms ≤ 256 * x.at
  pub nodes : x.nodes ≤ x.at
  pub variables : x.variables ≤ x.at
