-- What the code answers of a list, and of a name.
use Rattle.std.specs.Prelude.{ℕ, ◌≡◌, true, false, ◌&&◌, List, [], ◌∷◌, length, Some, None, MatchOption}
use Rattle.std.specs.declared.option.Option.{Option}
use Rattle.terms.specs.When.{◌⇒◌∣◌}
use Rattle.grammar.specs.Names.{Sort, is_sort, same_name}
use Rattle.namelist.specs.List.{Entry}
use Rattle.questions.specs.Given.{names_of, given_from, gives}
use Rattle.known.specs.declared.Known.{Known}
use Rattle.known.specs.InTurn.{in_turn, own_of}

abbrev pub Turned : List Entry → Option Known → Type 0
Turned l r = MatchOption r (in_turn 0 0 0 l ≡ false) (λ c. (in_turn 0 0 0 l ≡ true) × ((k : Sort) → own_of c k ≡ length (names_of k l)))

-- "against a given name list": whether it is one, and if so how many names of each sort it gives
abbrev pub Knows : List ℕ → Option Known → Type 0
Knows s r = MatchOption r (gives s ≡ false) (λ c. (gives s ≡ true) × ((k : Sort) → own_of c k ≡ length (given_from s k)))

-- the number of a name among entries, if it has one
abbrev pub sought : List Entry → Sort → List ℕ → Option ℕ
sought [] k w = None
sought (x ∷ l) k w = (is_sort k x.sort && same_name w x.name) ⇒ Some x.number ∣ sought l k w
