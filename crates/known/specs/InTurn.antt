-- Whether the numbers of entries leave none out: each is how many entries of its sort stand before it (questions, Given: `gives`).
use Rattle.std.specs.Prelude.{ℕ, ◌+◌, ◌≤◌, Bool, true, false, List, [], ◌∷◌, eqb, ltb}
use Rattle.terms.specs.When.{◌⇒◌∣◌}
use Rattle.grammar.specs.Names.{Sort, Constant, Compound, Predicate, is_sort}
use Rattle.namelist.specs.List.{Entry}
use Rattle.known.specs.declared.Known.{Known}

-- of three numbers, that of a sort
abbrev pub own : ℕ → ℕ → ℕ → Sort → ℕ
own c f p Constant = c
own c f p Compound = f
own c f p Predicate = p

-- one more of the sort j, for a number of the sort k
abbrev pub more : Sort → Sort → ℕ → ℕ
more k j n = is_sort k j ⇒ n + 1 ∣ n

abbrev pub fits : ℕ → ℕ → Bool
fits n m = eqb n m ⇒ ltb n 61439 ∣ false

abbrev pub in_turn : ℕ → ℕ → ℕ → List Entry → Bool
in_turn c f p [] = true
in_turn c f p (x ∷ l) = fits x.number (own c f p x.sort) ⇒ in_turn (more Constant x.sort c) (more Compound x.sort f) (more Predicate x.sort p) l ∣ false

-- The same of the code's numbers

abbrev pub known : ℕ → ℕ → ℕ → Known
known c f p = record { constants = c; compounds = f; predicates = p }

abbrev pub own_of : Known → Sort → ℕ
own_of c k = own c.constants c.compounds c.predicates k

abbrev pub more_of : Known → Sort → Known
more_of c k = known (more Constant k c.constants) (more Compound k c.compounds) (more Predicate k c.predicates)

abbrev pub in_turn_of : Known → List Entry → Bool
in_turn_of c l = in_turn c.constants c.compounds c.predicates l

pub record Low (c : Known) : Type 0 where
  pub constants : c.constants ≤ 65536
  pub compounds : c.compounds ≤ 65536
  pub predicates : c.predicates ≤ 65536
