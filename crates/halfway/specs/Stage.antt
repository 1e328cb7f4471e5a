-- The reader of a query's text in numbers: what the program makes of a stage.
use Rattle.std.specs.Prelude.{ℕ, zero, suc, ◌+◌, ◌-◌, ◌≤◌, ◌<◌, ◌≡◌, Bool, true, false, not, List, [], ◌∷◌, length, get_or, set, eqb, leb, ltb, Result, Ok, Err, ⊤}
use Rattle.terms.specs.When.{◌⇒◌∣◌}
use Rattle.pieces.specs.declared.Found.{Found}
use Rattle.pieces.specs.declared.Found.TheVariants as F
use Rattle.pieces.specs.declared.Code.TheVariants.{Unexpected}
use Rattle.pieces.specs.declared.Refusal.{Refusal}
use Rattle.pieces.specs.Refusal.{number, refusal}
use Rattle.asking.specs.Asking.{Tally, tally}
use Rattle.halfway.specs.declared.Mode.{Mode}
use Rattle.halfway.specs.declared.Mode.TheVariants.{Begin, Expects, Named, Complete, Over, Wrong}
use Rattle.halfway.specs.declared.Stage.{Stage}
use Rattle.halfway.specs.Machine.{settled, when, unless, on_name, on_variable, on_opening, behind, may_end}

-- Pieces

abbrev pub is_wrong : Mode → Bool
is_wrong Begin = false
is_wrong Expects = false
is_wrong Named = false
is_wrong Complete = false
is_wrong Over = false
is_wrong Wrong = true

abbrev pub is_half : Found → Bool
is_half (F.Name end) = false
is_half (F.Variable end) = false
is_half F.Space = false
is_half (F.Comment end) = false
is_half F.Opening = false
is_half F.Closing = false
is_half F.Comma = false
is_half F.Arrow = false
is_half F.Stop = false
is_half F.HalfArrow = true
is_half F.HalfStop = true
is_half F.Nothing = false

abbrev pub after_found : Mode → Bool → Found → Mode
after_found m deep (F.Name end) = on_name m
after_found m deep (F.Variable end) = on_variable m deep
after_found m deep F.Space = settled m
after_found m deep (F.Comment end) = settled m
after_found m deep F.Opening = on_opening m
after_found m deep F.Closing = behind m (when deep Complete)
after_found m deep F.Comma = behind m Expects
after_found m deep F.Arrow = Wrong
after_found m deep F.Stop = behind m (unless deep Over)
after_found m deep F.HalfArrow = Wrong
after_found m deep F.HalfStop = behind m (unless deep Over)
after_found m deep F.Nothing = Wrong

-- Sizes

abbrev pub full_at : List ℕ → ℕ → ℕ → Bool
full_at counts depth outside = eqb depth 0 ⇒ leb 512 outside ∣ leb 8 (get_or counts (depth - 1) 0)

abbrev pub code_at : List ℕ → Stage → ℕ
code_at counts c = full_at counts c.depth c.outside ⇒ 14 ∣ leb 4096 c.words ⇒ 15 ∣ 0

abbrev pub name_size : ℕ → ℕ → ℕ → ℕ
name_size code at end = not (eqb code 0) ⇒ code ∣ ltb (at + 32) end ⇒ 42 ∣ 0

abbrev pub size_at : List ℕ → Stage → ℕ → Found → ℕ
size_at counts c at (F.Name end) = name_size (code_at counts c) at end
size_at counts c at (F.Variable end) = code_at counts c
size_at counts c at F.Space = 0
size_at counts c at (F.Comment end) = 0
size_at counts c at F.Opening = 0
size_at counts c at F.Closing = 0
size_at counts c at F.Comma = 0
size_at counts c at F.Arrow = 0
size_at counts c at F.Stop = 0
size_at counts c at F.HalfArrow = 0
size_at counts c at F.HalfStop = 0
size_at counts c at F.Nothing = 0

abbrev pub place_of : ℕ → ℕ → ℕ
place_of code at = eqb code 42 ⇒ at + 32 ∣ at

-- no size is passed, or the refusal has this code and its place
abbrev pub Passes : ℕ → ℕ → Result ⊤ Refusal → Type 0
Passes code at (Ok u) = code ≡ 0
Passes code at (Err r) = (number r.code ≡ code) × (r.place ≡ place_of code at)

-- The stage behind a piece

abbrev pub kept_stage : Stage → Mode → Stage
kept_stage c m = record { mode = m; outside = c.outside; depth = c.depth; words = c.words }

abbrev pub word_stage : Stage → Mode → Stage
word_stage c m = record { mode = m; outside = c.outside; depth = c.depth; words = c.words + 1 }

abbrev pub open_stage : Stage → Mode → Stage
open_stage c m = record { mode = m; outside = c.outside; depth = c.depth + 1; words = c.words }

abbrev pub close_stage : Stage → Mode → Stage
close_stage c m = record { mode = m; outside = c.outside; depth = c.depth - 1; words = c.words }

abbrev pub comma_stage : Stage → Mode → Stage
comma_stage c m = eqb c.depth 0 ⇒ record { mode = m; outside = c.outside + 1; depth = c.depth; words = c.words } ∣ kept_stage c m

abbrev pub open_counts : List ℕ → Stage → List ℕ
open_counts counts c = set counts c.depth 0

abbrev pub comma_counts : List ℕ → Stage → List ℕ
comma_counts counts c = eqb c.depth 0 ⇒ counts ∣ set counts (c.depth - 1) (get_or counts (c.depth - 1) 0 + 1)

abbrev pub stage_after : Stage → Mode → Found → Stage
stage_after c m (F.Name end) = word_stage c m
stage_after c m (F.Variable end) = word_stage c m
stage_after c m F.Space = kept_stage c m
stage_after c m (F.Comment end) = kept_stage c m
stage_after c m F.Opening = open_stage c m
stage_after c m F.Closing = close_stage c m
stage_after c m F.Comma = comma_stage c m
stage_after c m F.Arrow = kept_stage c m
stage_after c m F.Stop = kept_stage c m
stage_after c m F.HalfArrow = kept_stage c m
stage_after c m F.HalfStop = kept_stage c m
stage_after c m F.Nothing = kept_stage c m

abbrev pub counts_after : List ℕ → Stage → Found → List ℕ
counts_after counts c (F.Name end) = counts
counts_after counts c (F.Variable end) = counts
counts_after counts c F.Space = counts
counts_after counts c (F.Comment end) = counts
counts_after counts c F.Opening = open_counts counts c
counts_after counts c F.Closing = counts
counts_after counts c F.Comma = comma_counts counts c
counts_after counts c F.Arrow = counts
counts_after counts c F.Stop = counts
counts_after counts c F.HalfArrow = counts
counts_after counts c F.HalfStop = counts
counts_after counts c F.Nothing = counts

abbrev pub next : Stage → Found → Mode
next c found = after_found c.mode (ltb 0 c.depth) found

-- a refusal by the number of its code, and its place
abbrev pub numbered : Result Stage Refusal → Result Stage (ℕ × ℕ)
numbered (Ok d) = Ok d
numbered (Err r) = Err (number r.code, r.place)

abbrev pub turned : List ℕ → Stage → ℕ → Found → Result Stage (ℕ × ℕ)
turned counts c at found =
    is_wrong (next c found) ⇒ Err (41, at)
    ∣ is_half found ⇒ Err (41, at + 1)
    ∣ not (eqb (size_at counts c at found) 0) ⇒ Err (size_at counts c at found, place_of (size_at counts c at found) at)
    ∣ Ok (stage_after c (next c found) found)

-- the counts afterwards, where it goes on
abbrev pub Left : List ℕ → List ℕ → Stage → Found → Result Stage Refusal → Type 0
Left counts counts' c found (Ok d) = counts' ≡ counts_after counts c found
Left counts counts' c found (Err r) = Unit {0}

abbrev pub ends_at : Stage → ℕ → Result ⊤ Refusal
ends_at c at = may_end c.mode (ltb 0 c.depth) ⇒ Ok tt ∣ Err (refusal Unexpected at)

abbrev pub start_stage : Stage
start_stage = record { mode = Begin; outside = 0; depth = 0; words = 0 }

-- What the numbers are

-- the counts of the open brackets, the innermost first
abbrev pub stack : List ℕ → ℕ → List ℕ
stack counts zero = []
stack counts (suc d) = get_or counts d 0 ∷ stack counts d

abbrev pub tally_of : List ℕ → Stage → Tally
tally_of counts c = tally c.outside (stack counts c.depth) c.words

-- each count is below
abbrev pub Low : ℕ → List ℕ → Type 0
Low n [] = Unit {0}
Low n (b ∷ bs) = (b < n) × Low n bs

-- there is room for one more count, or one more bracket
pub record Ready (counts : List ℕ) (c : Stage) : Type 0 where
  pub depth : c.depth < length counts
  pub few : length counts ≤ 65536
  pub outside : c.outside ≤ 65536
  pub top : (c.depth ≡ 0 → ⊥) → get_or counts (c.depth - 1) 0 < 65535

-- what the piece changes can be changed
pub record Advances (counts : List ℕ) (c : Stage) (found : Found) : Type 0 where
  pub ready : Ready counts c
  pub words : c.words ≤ 65536
  pub closes : found ≡ F.Closing → 0 < c.depth

-- behind a name one more bracket may be opened
abbrev pub Roomy : Mode → ℕ → ℕ → Type 0
Roomy Begin d n = d ≤ n
Roomy Expects d n = d ≤ n
Roomy Named d n = d < n
Roomy Complete d n = d ≤ n
Roomy Over d n = d ≤ n
Roomy Wrong d n = d ≤ n

pub record Held (counts : List ℕ) (c : Stage) (at : ℕ) : Type 0 where
  pub right : is_wrong c.mode ≡ false
  pub long : length counts ≡ 4097
  pub roomy : Roomy c.mode c.depth c.words
  pub few : c.words ≤ 4096
  pub outside : c.outside ≤ at
  pub low : Low at (stack counts c.depth)
