-- A search from root to root through the arguments, with a stack.
use Rattle.std.specs.Prelude.{Option, MatchOption, ℕ, ◌+◌, ◌≤◌, ◌<◌, ◌≡◌, List, length, get_or}
use Rattle.words.specs.Word.{arity_of}
use Rattle.positions.specs.Words.{child, Ends}
use Rattle.positions.specs.Classes.{root, Down, Label, Agree}
use Rattle.positions.specs.Steps.{tally}
use Rattle.positions.specs.Closing.{Good}
use Rattle.positions.specs.Ranking.{under, blank, Ranked}

pub record Searched (w e up rank : List ℕ) : Type 0 where
  pub ends : Ends w e
  pub end_length : length e ≡ length w
  pub up_length : length up ≡ length w
  pub rank_length : length rank ≡ length w
  pub down : Down up

-- each argument at x has a rank; or k is the class of one that has none
pub record Opened (w e up rank : List ℕ) (x : ℕ) (r : Option ℕ) : Type 0 where
  pub known : MatchOption r ((i : ℕ) → i < arity_of (get_or w x 0) → 0 < under e up rank x i)
      (λ k. (k < length w) × ((i : ℕ) × (i < arity_of (get_or w x 0)) × (k ≡ root up (child e x i)) × (get_or rank k 0 ≡ 0)))

-- no good label is the same over the classes
abbrev pub Cyclic : List ℕ → List ℕ → List ℕ → Type 0
Cyclic w e up = (f : Label) → Good w e f → Agree f up → ⊥

-- the stack has roots with no rank, each the class of an argument of the one below; `place` has for each its place from 1, and of what has a place all else has a rank
pub record Dive (w e up pick rank : List ℕ) (s : ℕ) (stack place : List ℕ) (top : ℕ) : Type 0 where
  pub ranked : Ranked w e up pick rank s
  pub stack_length : length stack ≡ length w
  pub place_length : length place ≡ length w
  pub count : tally blank 0 place + top ≤ length w
  pub inside : (j : ℕ) → j < top → get_or stack j 0 < length w
  pub is_root : (j : ℕ) → j < top → get_or up (get_or stack j 0) 0 ≡ get_or stack j 0
  pub bare : (j : ℕ) → j < top → get_or rank (get_or stack j 0) 0 ≡ 0
  pub at : (j : ℕ) → j < top → get_or place (get_or stack j 0) 0 ≡ j + 1
  pub on : (k : ℕ) → k < length w → (get_or place k 0 ≡ 0 → ⊥) → get_or rank k 0 ≡ 0 → (j : ℕ) × (j < top) × (get_or stack j 0 ≡ k)
  pub falls : (f : Label) → Good w e f → Agree f up → (j : ℕ) → j + 1 < top → length (f (get_or stack (j + 1) 0)) < length (f (get_or stack j 0))

-- what had a rank has one, and so has r where it is a root
pub record Dived (w e up pick rank₀ : List ℕ) (r : ℕ) (rank : List ℕ) (s : ℕ) (stack place : List ℕ) : Type 0 where
  pub dive : Dive w e up pick rank s stack place 0
  pub kept : (q : ℕ) → 0 < get_or rank₀ q 0 → 0 < get_or rank q 0
  pub done : get_or up r 0 ≡ r → 0 < get_or rank r 0

-- there is a cycle; or that, and the next rank is t
pub record Diving (w e up pick rank₀ : List ℕ) (r : ℕ) (rank : List ℕ) (s : Option ℕ) (stack place : List ℕ) : Type 0 where
  pub known : MatchOption s (Cyclic w e up) (λ t. Dived w e up pick rank₀ r rank t stack place)
