-- One clause applied to a goal with its answer, in words.
use Rattle.std.specs.Prelude.{ℕ, ◌+◌, ◌≤◌, ◌<◌, ◌≡◌, true, false, List, ◌∷◌, ◌++◌, map, length, take, drop}
use Rattle.terms.specs.Node.{Expr}
use Rattle.search.specs.Next.{Clause, Goal, Resolved}
use Rattle.search.specs.Room.{fits}
use Rattle.search.specs.Answer.{small}
use Rattle.words.specs.Word.{Fits, nodes}
use Rattle.words.specs.Held.{RowIn, ClauseIn}
use Rattle.picking.specs.Laying.{moved}
use Rattle.applying.specs.declared.Cut.{Cut}
use Rattle.applying.specs.declared.Sizes.{Sizes}

-- behind the first m + k words: what follows k in the clause, and what follows m in the row, moved
pub record Built (words row : List ℕ) (m : ℕ) (clause : List ℕ) (k : ℕ) (z : List ℕ) (r : ℕ) : Type 0 where
  pub end : r ≡ length row + length clause
  pub front : take r z ≡ take (m + k) words ++ (map (moved 0) (drop k clause) ++ map (moved 64) (drop m row))

-- `out` is z from `at` on, for r words: they are t, and their variables are below k; 65535 where t is over 4,096
pub record Wrote (k : ℕ) (out : List ℕ) (at : ℕ) (t : Expr) (z : List ℕ) (r : ℕ) : Type 0 where
  pub full : r ≡ 65535 → 4096 < length t
  pub within : (r ≡ 65535 → ⊥) → r ≤ 4096
  pub kept : take at z ≡ take at out
  pub done : (r ≡ 65535 → ⊥) → nodes (take r (drop at z)) ≡ t
  pub fit : (r ≡ 65535 → ⊥) → Fits k (take r (drop at z))

-- the row holds the goal of f and g, and the answer a; the clause is c; they are cut so
pub record Stage (row clause : List ℕ) (cut : Cut) (f : Expr) (g a : Goal) (c : Clause) : Type 0 where
  pub formulas : ℕ
  pub body : ℕ
  pub row_in : RowIn row cut.goal formulas (f ∷ g) a
  pub clause_in : ClauseIn clause cut.head body c
  pub first : cut.first ≡ length f
  pub next : cut.formulas ≡ length c.body + length g

abbrev pub Staged : List ℕ → List ℕ → Cut → Type 0
Staged row clause cut = (f : Expr) × (g : Goal) × (a : Goal) × (c : Clause) × Stage row clause cut f g a c

-- the clause c takes the goal of f and g to h, and the answer a behind it to b
pub record Onward (f : Expr) (g a : Goal) (c : Clause) (h b : Goal) : Type 0 where
  pub goal : Resolved f g c h
  pub whole : Resolved f (g ++ a) c (h ++ b)
  pub as_many : length b ≡ length a

abbrev pub sizes : ℕ → ℕ → Sizes
sizes r s = record { goal = r; answer = s }

abbrev pub too_big : Sizes
too_big = sizes 65535 0

-- the next goal does not fit; or it does and the next answer does not; or the first words of z hold the two, the goal of n formulas
pub record Applied (f : Expr) (g a : Goal) (c : Clause) (n : ℕ) (z : List ℕ) (r : Sizes) : Type 0 where
  pub full : r.goal ≡ 65535 → (h : Goal) × Resolved f g c h × (fits h ≡ false)
  pub over : (r.goal ≡ 65535 → ⊥) → r.answer ≡ 65535 → (h : Goal) × (b : Goal) × Onward f g a c h b × (fits h ≡ true) × (small b ≡ false)
  pub done : (r.goal ≡ 65535 → ⊥) → (r.answer ≡ 65535 → ⊥) → (h : Goal) × (b : Goal) × Onward f g a c h b × (fits h ≡ true) × (small b ≡ true)
      × RowIn (take (r.goal + r.answer) z) r.goal n h b × (r.goal + r.answer ≤ length z)
