-- A fact that stands in a goal word for word, with no variable: it needs no trial, since nothing is bound for it, and no row comes in its place.
use Rattle.std.specs.Prelude.{ℕ, ◌+◌, ◌<◌, ◌≤◌, ◌≡◌, List, [], length, get_or}
use Rattle.terms.specs.Node.{Expr}
use Rattle.terms.specs.Subst.{In}
use Rattle.search.specs.Next.{Clause}

-- the words of the heap from a position on are the first n of the others, all of them symbols'
pub record SameWords (heap : List ℕ) (at : ℕ) (head : List ℕ) (n : ℕ) : Type 0 where
  pub few : n ≤ length head
  pub inside : at + n ≤ length heap
  pub same : (x : ℕ) → x < n → get_or heap (at + x) 0 ≡ get_or head x 0
  pub symbols : (x : ℕ) → x < n → 33554432 ≤ get_or head x 0

-- e has no variable
abbrev pub Bare : Expr → Type 0
Bare e = (v : ℕ) → In v e → ⊥

-- the clause c is the fact f, which has no variable
pub record Given (f : Expr) (c : Clause) : Type 0 where
  pub head : c.head ≡ f
  pub body : c.body ≡ []
  pub bare : Bare f
