use mathlib.Core.Path.{refl}
use mathlib.Core.List.{[], ◌∷◌}
use Rattle.words.specs.Columns.{after, wider, UP, PICK, LEFT, RIGHT, RANK}
use Rattle.unifier.proofs.Trials.{argued}
use borrow.Author.Rules.{rules}
use Rattle.unifier.proofs.argument.Goals as goal

pub returns-then-equate : goal.returns-then-equate
returns-then-equate c = ((λ m j t ec ed. argued (c.acyclic.ensures.0 _ _ ((c.equate.ensures.1 m j t ec ed).held c.if-equate.true))), after (wider (UP ∷ PICK ∷ LEFT ∷ RIGHT ∷ RANK ∷ []) refl c.equate.ensures.2) (wider (UP ∷ PICK ∷ LEFT ∷ RIGHT ∷ RANK ∷ []) refl c.acyclic.ensures.1))
