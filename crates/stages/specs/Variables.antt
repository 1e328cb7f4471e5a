-- The variables of a rule as the program holds them: where each stands first in the text, and behind 64 such places one less than its length.
use Rattle.std.specs.Prelude.{ℕ, ◌+◌, ◌≤◌, ◌<◌, ◌≡◌, List, [], length, get_or}
use Rattle.nametable.specs.Table.{word}

pub record Variables (text vars : List ℕ) (names : List (List ℕ)) (n : ℕ) : Type 0 where
  pub count : length names ≡ n
  pub few : n ≤ 64
  pub inside : (i : ℕ) → i < n → get_or vars i 0 + (get_or vars (64 + i) 0 + 1) ≤ length text
  pub named : (i : ℕ) → i < n → word text (get_or vars i 0) (get_or vars (64 + i) 0 + 1) ≡ get_or names i []
