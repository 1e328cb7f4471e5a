use Prim.Native.Nat.{ℕ, ◌-◌, ◌<◌, ◌≤◌}
use mathlib.Core.Path.{◌≡◌}
use mathlib.Core.List.{List, [], ◌∷◌}
use lib.ListN.{length, get_or}
use mathlib.Core.List.{◌++◌}
use lib.ListN.{take}
use Rattle.terms.specs.Node.{Expr}
use Rattle.words.specs.Word.{nodes}
use Rattle.positions.specs.Solving.{resolved}
use Rattle.positions.specs.Writing.{pending, Of}
use Rattle.words.specs.Columns.{Only, CELLS, STACK}
use Rattle.positions.specs.Tables.{ends, ups, picks, ranks, stacks}
use Rattle.unifier.proofs.writing.write.Given as goal

pub record Held (w e up pick rank out₀ : List ℕ) (at : ℕ) (t : Expr) (size : ℕ) (stack out : List ℕ) (top b : ℕ) : Type 0 where
  pub over : at ≤ b
  pub within : b ≤ length out
  pub out_length : length out ≡ length out₀
  pub stack_length : length stack ≡ size
  pub fits : top ≤ length stack
  pub inside : (j : ℕ) → j < top → get_or stack j 0 < length w
  pub whole : nodes (take at out₀) ++ t ≡ nodes (take b out) ++ pending (λ q. resolved w e up pick rank q) stack top
  pub kept : (x : ℕ) → x < at → get_or out x 0 ≡ get_or out₀ x 0
  pub from : (x : ℕ) → at ≤ x → x < b → Of w (get_or out x 0)

abbrev pub invariant-loop-top : goal.invariant-loop-top
invariant-loop-top l = Held l.words (ends l.words l.initial.rows) (ups l.words l.initial.rows) (picks l.words l.initial.rows) (ranks l.words l.initial.rows) l.initial.out l.«at» (resolved l.words (ends l.words l.initial.rows) (ups l.words l.initial.rows) (picks l.words l.initial.rows) (ranks l.words l.initial.rows) l.p) 4352 (stacks l.rows) l.out l.top l.b × (length l.rows ≡ CELLS) × Only (STACK ∷ []) l.initial.rows l.rows

abbrev pub decreases-loop-top : goal.decreases-loop-top
decreases-loop-top l = length l.initial.out - l.b
