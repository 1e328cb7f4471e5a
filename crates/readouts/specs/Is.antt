-- What an answer and the areas are that are those of the definition.
use Rattle.std.specs.Prelude.{ℕ, ◌≡◌, List}
use Rattle.readouts.specs.declared.ReadText.{ReadText}
use Rattle.readouts.specs.Outcome.{read_answer, read_book, names_read}

module _ (text books lists : List ℕ) where
  pub record Is (p : ReadText) (b n : List ℕ) : Type 0 where
    pub answer : p ≡ read_answer text books lists
    pub book_is : b ≡ read_book text books lists
    pub names_are : n ≡ names_read text books lists
