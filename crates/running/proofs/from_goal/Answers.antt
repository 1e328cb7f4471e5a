use borrow.Author.Rules.{rules}
use native.Mathlib.Omega.{arith}
use lib.ListN.{length-replicate}
use Prim.Native.Nat.{ℕ}
use Rattle.running.proofs.from_goal.Goals as goal

pub search-requires : goal.search-requires
search-requires c = let p = c.requires in record { room = record { goal_length = search rules; saved_room = omega (arith, length-replicate {A = ℕ} 4096 0) }; answer_in_bounds = (p.0, p.1, p.2) }
