-- What a clause's body adds to goal and answer, and the bounds from it.
use Rattle.std.specs.Prelude.{ℕ, ◌+◌, ◌*◌, ◌-◌, ◌<◌, ◌≤◌, ◌≡◌, ◌⊎◌, Bool, true, List, length, take, drop}
use Rattle.terms.specs.Subst.{Subst, apply}
use Rattle.words.specs.Word.{Fits, nodes}
use Rattle.heap.specs.Heap.{rows, Solved}
use Rattle.bounds.specs.Places.{places}
use Rattle.bounds.specs.Thrift.{fresh, Thrifty, Kept}
use Rattle.bounds.specs.declared.Weight.{Weight}
use Rattle.heapgoals.specs.declared.Standing.{Standing}
use Rattle.treads.specs.declared.sizing.Span.{Span}
use Rattle.treads.specs.declared.sizing.Added.{Added}
use Rattle.treads.specs.declared.sizing.Bounds.{Bounds}
use Rattle.treads.specs.Stepping.{body_at}

-- the words of the clause, and its head's
abbrev pub span_words : List ℕ → Span → List ℕ
span_words book c = take (c.end - c.start) (drop c.start book)

abbrev pub head_long : Span → ℕ
head_long c = c.head - c.start

-- so many nodes that the next goal's first formula has at least: those of the body's first; or it grows as the goal's first did
abbrev pub Led : ℕ → Bool → ℕ → ℕ → ℕ → Type 0
Led least whole head first r = (r ≡ first) ⊎ ((whole ≡ true) × (head < least) × (r ≡ least - head + first))

-- no variable of the head is more often in the body: then the body's nodes come, and the head's go
pub record ThriftyAdds (clause : List ℕ) (s : Standing) (c : Span) (first : ℕ) (r : Added) : Type 0 where
  pub thrifty : Thrifty (nodes (take (head_long c) clause)) (nodes (drop (head_long c) clause))
  pub nodes_are : r.nodes ≡ c.end - c.head
  pub less_is : r.less ≡ head_long c
  pub fresh_is : r.variables ≡ fresh (nodes (take (head_long c) clause)) (nodes (drop (head_long c) clause))
  pub leads : (r.least ≡ first) ⊎ (Kept (nodes (take (head_long c) clause)) (nodes (take first (drop (head_long c) clause))) × (head_long c < s.least) × (r.least ≡ s.least - head_long c + first))

-- else what the body stands for is counted
pub record CountedAdds (heap cells : List ℕ) (s : Standing) (c : Span) (first : ℕ) (r : Added) : Type 0 where
  pub less_is : r.less ≡ 0
  pub nodes_are : (θ : Subst) → Solved heap cells θ → r.nodes ≡ length (apply θ (rows heap c.bodies (body_at s c)))
  pub places_are : (θ : Subst) → Solved heap cells θ → r.variables ≡ places (apply θ (rows heap c.bodies (body_at s c)))
  pub leads : r.least ≡ first

pub record Adds (clause heap cells : List ℕ) (s : Standing) (c : Span) (first : ℕ) (r : Added) : Type 0 where
  pub how : ThriftyAdds clause s c first r ⊎ CountedAdds heap cells s c first r
  pub names : Fits r.names clause
  pub few : r.names ≤ 64
  pub small : r.nodes ≤ 256
  pub spread : r.variables ≤ 65535

-- any one variable is there at most as often as there are places; or, where a thrifty body comes, as often as all of its own, and as any one was by what is bound
abbrev pub Often : Standing → Added → ℕ → ℕ → ℕ → Type 0
Often s more times variables r = ((r ≡ variables) ⊎ ((more.less ≡ 0 → ⊥) × (more.variables ≤ r) × (s.most * times ≤ r))) × (r ≤ variables)

-- the bounds, where there is room, by so many nodes more, so many places of variables, and so many times as many of any one
pub record Summed (s : Standing) (more : Added) (extra places times : ℕ) (r : Bounds) : Type 0 where
  pub nodes_are : r.nodes + more.less ≡ s.nodes + extra + more.nodes
  pub found_is : r.found ≡ s.found + extra
  pub goal_room : r.nodes ≤ 4096
  pub answer_room : r.found ≤ 4096
  pub spread : (r.variables ≡ more.variables + places) ⊎ (r.variables ≡ r.nodes + r.found)
  pub few : r.variables ≤ r.nodes + r.found
  pub often : Often s more times r.variables r.most
  pub least_is : r.least ≡ more.least
  pub names_are : r.names ≡ more.names

-- so much comes by what is bound; so many places of goal and answer are charged for it
pub record Charged (s : Standing) (grown : Weight) (count extra places times : ℕ) : Type 0 where
  pub for : ℕ
  pub for_is : (for ≡ s.most * count) ⊎ (for ≡ s.variables)
  pub extra_is : extra ≡ for * (grown.nodes - 1)
  pub places_are : places ≡ s.variables * grown.variables
  pub times_are : times ≡ grown.times

abbrev pub Grows : Standing → Added → Weight → ℕ → Bounds → Type 0
Grows s more grown count r = (extra : ℕ) × (places : ℕ) × (times : ℕ) × Charged s grown count extra places times × Summed s more extra places times r
