-- Walks: what is still to be visited, as a list of nodes.
use Rattle.std.specs.Prelude.{ℕ, zero, suc, ◌+◌, ◌*◌, ◌-◌, ◌<◌, ◌≤◌, ◌≡◌, List, [], ◌∷◌, ◌++◌, eqb, length, get_or, set}
use Rattle.terms.specs.When.{◌⇒◌∣◌}
use Rattle.terms.specs.Node.{Expr}
use Rattle.terms.specs.Subst.{Subst, apply}
use Rattle.words.specs.Word.{arity_of, Fit, node}
use Rattle.heap.specs.Heap.{rows, Whole, Solved}
use Rattle.heap.specs.declared.walking.Walk.{Walk}

-- the level number i: where its rows are, and how many
abbrev pub level_at : List ℕ → ℕ → ℕ
level_at levels i = get_or levels (2 * i) 0

abbrev pub level_due : List ℕ → ℕ → ℕ
level_due levels i = get_or levels (2 * i + 1) 0

-- what n levels stand for, the last first
abbrev pub behind : List ℕ → List ℕ → Subst → ℕ → Expr
behind heap levels θ zero = []
behind heap levels θ (suc n) = apply θ (rows heap (level_due levels n) (level_at levels n)) ++ behind heap levels θ n

-- what a walk still visits
abbrev pub ahead : List ℕ → List ℕ → Subst → Walk → Expr
ahead heap levels θ w = apply θ (rows heap w.due w.at) ++ behind heap levels θ w.depth

-- n levels are of rows, some of them due
abbrev pub Levels : List ℕ → List ℕ → ℕ → Type 0
Levels heap levels n = (i : ℕ) → i < n → Whole heap (level_due levels i) (level_at levels i) × (0 < level_due levels i)

pub record Ready (heap levels : List ℕ) (w : Walk) : Type 0 where
  pub front : Whole heap w.due w.at
  pub back : Levels heap levels w.depth
  pub ended : w.due ≡ 0 → w.depth ≡ 0
  pub room : 2 * w.depth ≤ length levels

-- "a level that is done gives way to the one before it"
abbrev pub settled_at : List ℕ → ℕ → ℕ → ℕ → Walk
settled_at levels at (suc due) depth = record { at = at; due = suc due; depth = depth }
settled_at levels at zero zero = record { at = at; due = 0; depth = 0 }
settled_at levels at zero (suc n) = record { at = level_at levels n; due = level_due levels n; depth = n }

abbrev pub settled : List ℕ → Walk → Walk
settled levels w = settled_at levels w.at w.due w.depth

-- the k rows at p come before those behind the first row of w, for which a level is kept where some are due
abbrev pub entered : Walk → ℕ → ℕ → Walk
entered w p k = record { at = p; due = k; depth = eqb w.due 1 ⇒ w.depth ∣ suc w.depth }

abbrev pub pushed : List ℕ → Walk → List ℕ
pushed levels w = eqb w.due 1 ⇒ levels ∣ set (set levels (2 * w.depth) (w.at + 1)) (2 * w.depth + 1) (w.due - 1)

-- the walk w comes to the node of the word u, and then to what the walk w' visits
pub record Visited (heap cells levels : List ℕ) (w : Walk) (u : ℕ) (levels' : List ℕ) (w' : Walk) : Type 0 where
  pub same : (θ : Subst) → Solved heap cells θ → ahead heap levels θ w ≡ node u ∷ ahead heap levels' θ w'
  pub ready : Ready heap levels' w'
  pub fit : Fit (length cells) u
  pub deep : w'.depth ≤ suc w.depth
  pub long : length levels' ≡ length levels

-- a walk that keeps no level
abbrev pub flat : ℕ → ℕ → Walk
flat at due = record { at = at; due = due; depth = 0 }

-- u is the word of the one node that stands at p, before what stands behind p: a walk needs no level for it
abbrev pub Lone : List ℕ → List ℕ → ℕ → ℕ → Type 0
Lone heap cells p u = (due : ℕ) → 0 < due → Whole heap due p → Visited heap cells [] (flat p due) u [] (flat (suc p) (arity_of u + (due - 1)))
