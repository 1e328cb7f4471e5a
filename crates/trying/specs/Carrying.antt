-- The next goal and answer, written off the heap.
use Rattle.std.specs.Prelude.{ℕ, ◌+◌, ◌<◌, ◌≤◌, ◌≡◌, List, [], ◌++◌, length, take}
use Rattle.terms.specs.Node.{Expr}
use Rattle.terms.specs.Subst.{In, Subst, apply}
use Rattle.terms.specs.Number.{number, seen_after}
use Rattle.words.specs.Word.{Fits, nodes}
use Rattle.heap.specs.Heap.{rows, Whole, Solved}
use Rattle.heap.specs.Writing.{Writes}
use Rattle.heap.specs.declared.writing.Pen.{Pen}
use Rattle.trying.specs.declared.carrying.Parts.{Parts}
use Rattle.trying.specs.declared.carrying.Next.{Next}
use Rattle.trying.specs.declared.carrying.Next.TheVariants.{Tired, Full, Over, Done}

-- body, rest and answer are there
pub record Placed (heap : List ℕ) (p : Parts) : Type 0 where
  pub body : Whole heap p.bodies p.body
  pub rest : Whole heap p.others p.rest
  pub answer : Whole heap p.answers p.answer

-- what the next goal is before it is numbered, and the next answer
abbrev pub goal_part : List ℕ → Parts → Subst → Expr
goal_part heap p θ = apply θ (rows heap p.bodies p.body) ++ apply θ (rows heap p.others p.rest)

abbrev pub answer_part : List ℕ → Parts → Subst → Expr
answer_part heap p θ = apply θ (rows heap p.answers p.answer)

-- e is written under the heap's solution, or it would pass the limit, or nothing is known
pub record Put (heap cells names out : List ℕ) (pen : Pen) (e : Subst → Expr) (limit : ℕ) (names' out' : List ℕ) (r : Pen) : Type 0 where
  pub fits : r.at ≤ limit → (θ : Subst) → Solved heap cells θ → Writes names out pen (e θ) names' out' r
  pub few : r.at ≤ limit → r.count ≤ r.at
  pub over : r.at ≡ 65535 → (θ : Subst) → Solved heap cells θ → limit < pen.at + length (e θ)
  pub ends : (r.at ≡ 65535 → ⊥) → (r.at ≡ 65534 → ⊥) → r.at ≤ limit

-- the first words of `out` hold goal g and answer a, numbered as one, the goal first
pub record Both (g a : Expr) (out : List ℕ) (r s : ℕ) : Type 0 where
  pub goal_long : r ≡ length g
  pub goal_room : r ≤ 4096
  pub answer_long : s ≡ length a
  pub answer_room : s ≤ 4096
  pub are : nodes (take (r + s) out) ≡ number [] g ++ number (seen_after [] g) a
  pub goal_fit : (v : ℕ) → In v (number [] g) → v < 4096
  pub fit : Fits 8192 (take (r + s) out)

abbrev pub Carried : List ℕ → Parts → Subst → List ℕ → Next → Type 0
Carried heap p θ out Tired = Unit {0}
Carried heap p θ out Full = 4096 < length (goal_part heap p θ)
Carried heap p θ out Over = (length (goal_part heap p θ) ≤ 4096) × (4096 < length (answer_part heap p θ))
Carried heap p θ out (Done r s) = Both (goal_part heap p θ) (answer_part heap p θ) out r s
