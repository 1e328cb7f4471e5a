-- Texts with the areas lent, and what is answered and left.
use Rattle.std.specs.Prelude.{ℕ, ◌≡◌, refl, List, [], ◌∷◌}
use Rattle.grammar.specs.Byte.{small, capital, digit, goes_on, starts_variable, is_blank, is_percent, is_line_end, is_bracket}
use Rattle.grammar.specs.Token.{after_stop}
use Rattle.grammar.specs.Front.{class}
use Rattle.format.specs.Arities.{meet, keeps}
use Rattle.reading.specs.Reader.{reading}
use Rattle.readouts.specs.declared.ReadText.{ReadText}
use Rattle.readouts.specs.Place.{formula_place}
use Rattle.readouts.specs.Outcome.{refusal, done, read_answer, read_book, names_read}

pub record Case : Type 0 where
  pub text : List ℕ
  pub books : List ℕ
  pub lists : List ℕ
  pub answer : ReadText
  pub books_left : List ℕ
  pub lists_left : List ℕ

abbrev refuses : List ℕ → List ℕ → List ℕ → ℕ → ℕ → Case
refuses text books lists code place = record { text = text; books = books; lists = lists; answer = refusal code place; books_left = books; lists_left = lists }

abbrev pub Holds : Case → Type 0
Holds c =
    (read_answer c.text c.books c.lists ≡ c.answer)
    × ((read_book c.text c.books c.lists ≡ c.books_left) × (names_read c.text c.books c.lists ≡ c.lists_left))

abbrev pub AllHold : List Case → Type 0
AllHold [] = Unit {0}
AllHold (c ∷ cs) = Holds c × AllHold cs

abbrev pub cases : List Case
cases =
    -- `p.`, with a byte more in each area
    record {
      text = 112 ∷ 46 ∷ [];
      books = 1 ∷ 2 ∷ 3 ∷ 4 ∷ 5 ∷ 6 ∷ 7 ∷ 8 ∷ [];
      lists = 1 ∷ 2 ∷ 3 ∷ 4 ∷ 5 ∷ 6 ∷ [];
      answer = done 7 5;
      books_left = 5 ∷ 0 ∷ 4 ∷ 0 ∷ 0 ∷ 0 ∷ 7 ∷ 8 ∷ [];
      lists_left = 4 ∷ 0 ∷ 0 ∷ 1 ∷ 112 ∷ 6 ∷ [];
    }
    -- the book, or the names, have no room
    ∷ refuses (112 ∷ 46 ∷ []) (1 ∷ 2 ∷ 3 ∷ 4 ∷ 5 ∷ 6 ∷ []) (1 ∷ 2 ∷ 3 ∷ 4 ∷ 5 ∷ 6 ∷ []) 43 0
    ∷ refuses (112 ∷ 46 ∷ []) (1 ∷ 2 ∷ 3 ∷ 4 ∷ 5 ∷ 6 ∷ 7 ∷ []) (1 ∷ 2 ∷ 3 ∷ 4 ∷ []) 43 0
    -- `p. p(a).`: 7 before 43
    ∷ refuses (112 ∷ 46 ∷ 32 ∷ 112 ∷ 40 ∷ 97 ∷ 41 ∷ 46 ∷ []) [] [] 7 3
    -- `p(a,b):-q(p(a)),p.`: the second `p` is no predicate
    ∷ refuses (112 ∷ 40 ∷ 97 ∷ 44 ∷ 98 ∷ 41 ∷ 58 ∷ 45 ∷ 113 ∷ 40 ∷ 112 ∷ 40 ∷ 97 ∷ 41 ∷ 41 ∷ 44 ∷ 112 ∷ 46 ∷ []) [] [] 7 16
    -- `p. p(`: what stands first in the text comes before 7
    ∷ refuses (112 ∷ 46 ∷ 32 ∷ 112 ∷ 40 ∷ []) [] [] 41 5
    ∷ []

pub cases-hold : AllHold cases
unfolding read_answer read_book names_read formula_place meet keeps reading class small capital digit goes_on starts_variable is_blank is_percent is_line_end is_bracket after_stop
cases-hold =
    ((refl, (refl, refl)), ((refl, (refl, refl)), ((refl, (refl, refl)), ((refl, (refl, refl)), ((refl, (refl, refl)), ((refl, (refl, refl)), tt))))))
