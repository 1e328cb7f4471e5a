-- Clauses passed over: their heads have another symbol as their first argument than the goal's first formula.
use Rattle.std.specs.Prelude.{ℕ, suc, ◌<◌, ◌≤◌, ◌≡◌, IsSome, IsNone, IfSome, List, length, get_or}
use Rattle.std.specs.declared.option.Option.{Option}
use Rattle.std.specs.declared.option.Option.TheVariants.{None, Some}
use Rattle.search.specs.Next.{Book}
use Rattle.words.specs.Word.{kind_of, arity_of, Plain}
use Rattle.words.specs.Held.{starts}
use Rattle.words.specs.Lists.{head_word}
use Rattle.heap.specs.Following.{Followed}

-- the first argument of the row at a position is reached past bound variables, and begins with the symbol x; there is none where there is no argument, or a variable
pub record Lead (heap cells : List ℕ) (at : ℕ) (x : Option ℕ) : Type 0 where
  pub place : ℕ
  pub reached : 0 < arity_of (get_or heap at 0) → Followed heap cells (suc at) place
  pub some : IsSome x → 0 < arity_of (get_or heap at 0)
  pub symbol : IfSome x (λ s. s ≡ get_or heap place 0)
  pub plain : IfSome x Plain
  pub none : IsNone x → 0 < arity_of (get_or heap at 0) → kind_of (get_or heap place 0) ≡ 1

-- of n clauses, the word behind the first of the one number i
abbrev pub second_word : List ℕ → List ℕ → ℕ → ℕ → ℕ
second_word book shelf n i = get_or book (suc (get_or (starts n shelf) i 0)) 0

-- x and y are different symbols, where a symbol x is known
abbrev pub Other : Option ℕ → ℕ → Type 0
Other None y = ⊥
Other (Some x) y = Plain y × (y ≡ x → ⊥)

-- r is a clause whose head begins with u, or how many clauses there are; such clauses before it, from `from` on, have another symbol than x behind u
pub record Over (book shelf : List ℕ) (P : Book) (u : ℕ) (x : Option ℕ) (from r : ℕ) : Type 0 where
  pub low : from ≤ r
  pub high : r ≤ length P
  pub here : r < length P → head_word book shelf (length P) r ≡ u
  pub other : (j : ℕ) → from ≤ j → j < r → head_word book shelf (length P) j ≡ u → Other x (second_word book shelf (length P) j)

-- and it is the first that has none
pub record Hopeful (book shelf : List ℕ) (P : Book) (u : ℕ) (x : Option ℕ) (from r : ℕ) : Type 0 where
  pub over : Over book shelf P u x from r
  pub hope : r < length P → Other x (second_word book shelf (length P) r) → ⊥
