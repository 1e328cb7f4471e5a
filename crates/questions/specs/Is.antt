-- What an answer and the areas are that are those of the definition.
use Rattle.std.specs.Prelude.{ℕ, ◌≡◌, List}
use Rattle.questions.specs.declared.ReadQuery.{ReadQuery}
use Rattle.questions.specs.Outcome.{outcome, query_area, list_area}

module _ (text book names query list' : List ℕ) where
  pub record Is (r : ReadQuery) (q l : List ℕ) : Type 0 where
    pub answer : r ≡ outcome text book names query list'
    pub query_is : q ≡ query_area text book names query list'
    pub list_is : l ≡ list_area text book names query list'
