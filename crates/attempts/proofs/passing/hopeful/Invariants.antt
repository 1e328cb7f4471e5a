use Prim.Native.Nat.{ℕ, ◌-◌}
use Rattle.search.specs.Next.{Book}
use Rattle.words.specs.Held.{BookOn}
use Rattle.words.specs.Lists.{Found}
use Rattle.std.specs.declared.option.Option.TheVariants.{Some}
use Rattle.attempts.specs.Passing.{Over}
use Rattle.attempts.proofs.passing.hopeful.Given as goal

abbrev pub invariant-loop-i : goal.invariant-loop-i
invariant-loop-i l = (P : Book) (q : ℕ) → BookOn l.book l.shelf P → Found l.book l.shelf P l.u q l.from → Over l.book l.shelf P l.u (Some l.x) q l.i

abbrev pub decreases-loop-i : goal.decreases-loop-i
decreases-loop-i l = l.all - l.i
