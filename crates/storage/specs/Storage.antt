-- What the functions over words ask of their storage, and what they leave in it.
use Rattle.std.specs.Prelude.{ℕ, ◌+◌, ◌≤◌, ◌<◌, ◌≡◌, List, ◌∷◌, ◌++◌, length, get_or, drop}
use Rattle.terms.specs.Node.{Expr}
use Rattle.terms.specs.Row.{Row, Formulas}
use Rattle.search.specs.Next as Next
use Rattle.search.specs.Room.{nodes}
use Rattle.words.specs.Flat.{flat}
use Rattle.words.specs.Word.{words_of, AllNarrow}
use Rattle.format.specs.Reading.{body_length}
use Rattle.format.specs.Format.{GoodBook}
use Rattle.format.specs.Words.{goal_words, book_words, book_starts, book_bodies}

-- `new` stands at the front of the area, r long, and what is past it stays
pub record Written (new before after : List ℕ) (r : ℕ) : Type 0 where
  pub count : r ≡ length new
  pub holds : after ≡ new ++ drop r before

-- the record of a node stands at a place, all of it
pub record NodeAt (s : List ℕ) (at : ℕ) : Type 0 where
  pub body : at + body_length (get_or s at 0) < length s
  pub low : 1 ≤ get_or s at 0
  pub high : get_or s at 0 ≤ 4

-- `load_book` leaves the words of the book, where each clause's start, and how many formulas each body has; r clauses
pub record Loaded (b : Next.Book) (words words' starts starts' bodies bodies' : List ℕ) (r : ℕ) : Type 0 where
  pub clauses : r ≡ length b
  pub nodes : words' ≡ book_words b ++ drop (length (book_words b)) words
  pub places : starts' ≡ book_starts 0 b ++ drop (r + 1) starts
  pub formulas : bodies' ≡ book_bodies b ++ drop r bodies

-- words and starts that are those of a good book of so many clauses, whatever stands behind them
pub record Stored (b : Next.Book) (words starts : List ℕ) (clauses : ℕ) : Type 0 where
  pub good : GoodBook b
  pub count : clauses ≡ length b
  pub later_words : List ℕ
  pub later_starts : List ℕ
  pub holds : words ≡ book_words b ++ later_words
  pub places : starts ≡ book_starts 0 b ++ later_starts

-- from a place on stand the words of the formula f, and then any others
pub record FormulaAt (words : List ℕ) (from : ℕ) (f : Expr) : Type 0 where
  pub row : Row 1 f
  pub narrow : AllNarrow f
  pub later : List ℕ
  pub here : drop from words ≡ words_of f ++ later

-- words that are those of the goal g, of so many formulas, for which there is room: "512 formulas, 4,096 nodes"
pub record Writable (words : List ℕ) (formulas : ℕ) (g : Next.Goal) : Type 0 where
  pub rows : Formulas g
  pub narrow : AllNarrow (flat g)
  pub is : goal_words g ≡ words
  pub count : length g ≡ formulas
  pub few : length g ≤ 512
  pub size : nodes g ≤ 4096

-- the words of the clause c start at s and end at e; its head ends at h, and its body has m formulas
pub record ClauseAt (c : Next.Clause) (words : List ℕ) (s e h m : ℕ) : Type 0 where
  pub later : List ℕ
  pub here : drop s words ≡ goal_words (c.head ∷ c.body) ++ later
  pub end : e ≡ s + nodes (c.head ∷ c.body)
  pub within : e ≤ length words
  pub head_end : h ≡ s + length c.head
  pub formulas : m ≡ length c.body
