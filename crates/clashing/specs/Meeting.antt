-- A query held to the arities of its book and to its own.
use Rattle.std.specs.Prelude.{ℕ, ◌≤◌, ◌≡◌, List, length, Option}
use Rattle.search.specs.Next as Next
use Rattle.words.specs.Flat.{flat}
use Rattle.format.specs.Format.{encode, node_records, GoodGoal}
use Rattle.format.specs.Decode.{book_of}
use Rattle.format.specs.Arities.{book_uses, goal_uses, nothing_met, recall}
use Rattle.readouts.specs.Clash.{arities_from}

-- the nodes of a goal
pub record Nodes (nodes : List ℕ) : Type 0 where
  pub goal : Next.Goal
  pub good : GoodGoal goal
  pub is : nodes ≡ encode (node_records (flat goal))
  pub short : length nodes ≤ 16384

-- all formulas keep to the book and to themselves; or so many stand before the first that does not
pub record Kept (book nodes : List ℕ) (r : Option ℕ) : Type 0 where
  pub is : (g : Next.Goal) → GoodGoal g → nodes ≡ encode (node_records (flat g)) → r ≡ arities_from (recall nothing_met (book_uses (book_of book))) 0 (goal_uses g)
