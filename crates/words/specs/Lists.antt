-- Clauses found along their lists, and the lists built (document 02, C-22).
use Rattle.std.specs.Prelude.{ℕ, ◌+◌, ◌*◌, ◌≤◌, ◌<◌, ◌≡◌, List, length, get_or}
use Rattle.search.specs.Next.{Book}
use Rattle.words.specs.Held.{starts, key}
use Rattle.words.specs.Linked.{Nearest, Linked}

-- of n clauses, the word that the head of the one number i begins with
abbrev pub head_word : List ℕ → List ℕ → ℕ → ℕ → ℕ
head_word book shelf n i = get_or book (get_or (starts n shelf) i 0) 0

-- r is the first clause from i on that is on the list h, or past them all
abbrev pub OnList : List ℕ → List ℕ → Book → ℕ → ℕ → ℕ → Type 0
OnList book shelf P h i r = Nearest (length P) (key book (starts (length P) shelf)) h i r

-- r is the first clause from `from` on whose head begins with the word u, or how many clauses there are
pub record Found (book shelf : List ℕ) (P : Book) (u from r : ℕ) : Type 0 where
  pub low : from ≤ r
  pub high : r ≤ length P
  pub here : r < length P → head_word book shelf (length P) r ≡ u
  pub other : (j : ℕ) → from ≤ j → j < r → head_word book shelf (length P) j ≡ u → ⊥

-- the lists of n clauses, from the one number i on, stand on the shelf z, and its other rows are those of the shelf before
pub record Built (n i : ℕ) (keys : ℕ → ℕ) (shelf z : List ℕ) : Type 0 where
  pub linked : Linked n i keys (λ h. get_or z h 0) (λ j. get_or z (4 * j + 259) 0)
  pub kept : (x : ℕ) → 256 ≤ x → ((j : ℕ) → x ≡ 4 * j + 259 → ⊥) → get_or z x 0 ≡ get_or shelf x 0
