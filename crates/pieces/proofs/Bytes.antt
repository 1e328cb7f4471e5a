-- Tests of a byte.
use Rattle.std.proofs.Common.{ℕ, ◌≡◌, refl, not}
use lib.Dec.{eqb}
use Rattle.terms.specs.Cases.{cases}
use Rattle.grammar.specs.Byte.{is_line_end}
use Rattle.grammar.specs.Front.{in_comment}

-- LF alone ends a comment
pub line_end : (b : ℕ) → eqb b 10 ≡ not (in_comment b)
unfolding is_line_end
line_end b = cases (eqb b 10) (λ e. rw e refl) (λ e. rw e refl)
