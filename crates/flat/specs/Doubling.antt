-- Why no number of steps is given after which a flat run has closed (document 02, C-20): a formula may be worked off again and again, so the steps can be twice as many
-- for each predicate more, with no constant and no argument at all. In a book of 512 rules that is more than any budget.
use Rattle.std.specs.Prelude.{ℕ, zero, suc, ◌≡◌, refl, [], ◌∷◌}
use Rattle.std.proofs.Math.Decide.{dec_le}
use Rattle.std.specs.Int.Count.{ones}
use Rattle.terms.specs.Node.{predicate, sym, Expr}
use Rattle.loops.specs.Schedule.{scheduled}
use Rattle.loops.specs.Detect as Detect
use Rattle.loops.specs.Detect.{detected?}
use Rattle.search.specs.Room.{fits}
use Rattle.search.specs.Next.{Book}
use Rattle.search.specs.Run.{run_from, run}

abbrev formula : ℕ → Expr
formula k = sym (predicate k 0) ∷ []

-- p0 :- p1, p1. p1 :- p2, p2. .. and the last is a fact: n rules and it, from the number k on
abbrev pub doubling : ℕ → ℕ → Book
doubling k zero = record { head = formula k; body = [] } ∷ []
doubling k (suc n) = record { head = formula k; body = formula (suc k) ∷ formula (suc k) ∷ [] } ∷ doubling (suc k) n

-- the run of p0 uses up a budget of so many steps, and is solved with one step more
abbrev Takes : ℕ → ℕ → Type 0
Takes n steps = ((run (doubling 0 n) steps (formula 0 ∷ [])).code ≡ 23) × ((run (doubling 0 n) (suc steps) (formula 0 ∷ [])).code ≡ 20)

pub steps_double : Takes 2 6 × Takes 3 14 × Takes 4 30 × Takes 5 62
unfolding run run_from fits Detect.judge detected? dec_le scheduled ones
steps_double = ((refl, refl), (refl, refl), (refl, refl), (refl, refl))
