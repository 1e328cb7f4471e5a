-- What is asked and answered as a piece of the text is laid.
use Rattle.std.specs.Prelude.{ℕ, ◌+◌, ◌-◌, ◌≤◌, ◌<◌, ◌≡◌, List, [], ◌∷◌, length, take, drop}
use Rattle.grammar.specs.Token.{Piece, token, blank, comment, bytes, Spaced, tokens}
use Rattle.grammar.specs.Front.{front}
use Rattle.grammar.specs.Syntax.{Formula}
use Rattle.grammar.specs.Query.{Given}
use Rattle.asking.specs.Accepted.{Accepted}
use Rattle.pieces.specs.Found.{front_at, Inside}
use Rattle.pieces.specs.declared.Found.{Found}
use Rattle.pieces.specs.Found.{end_of}
use Rattle.nametable.specs.Table.{word}
use Rattle.questions.specs.Given.{given_from}
use Rattle.known.specs.declared.Known.{Known}
use Rattle.laying.specs.declared.Draft.{Draft}
use Rattle.laying.specs.declared.Task.{Task}
use Rattle.laying.specs.Page.{Page, named, argued, step, bracketed}
use Rattle.laying.specs.PageLaws.{spots_all, formulas_bytes}
use Rattle.laying.specs.PieceLaws.{word_count}
use Rattle.laying.specs.Words.{Kept, Knowing}
use Rattle.laying.specs.Held.{Held}

-- A word from a place to another

pub record WordHere (g : Given) (text table out opens : List ℕ) (d : Draft) (at end : ℕ) (s : Page) (left : ℕ) : Type 0 where
  pub held : Held g text table out opens d s (left + 1)
  pub onward : at < end
  pub inside : end ≤ length text
  pub short : length text ≤ 65536

-- behind a name, what stands there
pub record NameHere (text names table out opens : List ℕ) (k : Known) (d : Draft) (at end : ℕ) (s : Page) (ps : List Piece) : Type 0 where
  pub knowing : Knowing names k
  pub here : WordHere (given_from names) text table out opens d at end s (word_count (tokens ps))
  pub rest : drop end text ≡ bytes ps
  pub spaced : Spaced ps

pub record SomeWord (text names table out opens : List ℕ) (k : Known) (d : Draft) (at end : ℕ) : Type 0 where
  pub page_now : Page
  pub behind : List Piece
  pub there : NameHere text names table out opens k d at end page_now behind

pub record NameLaid (text names table table' out out' opens opens' : List ℕ) (k : Known) (d : Draft) (at end : ℕ) (r : Draft) : Type 0 where
  pub holds : (s : Page) (ps : List Piece) → NameHere text names table out opens k d at end s ps →
      Held (given_from names) text table' out' opens' r (named (given_from names) s (word text at (end - at)) (bracketed ps)) (word_count (tokens ps))

pub record SomeVariable (text table out opens : List ℕ) (k : Known) (d : Draft) (at end : ℕ) : Type 0 where
  pub base : Given
  pub page_now : Page
  pub left : ℕ
  pub there : WordHere base text table out opens d at end page_now left

pub record VariableLaid (text table table' out out' opens : List ℕ) (k : Known) (d : Draft) (at end : ℕ) (r : Draft) : Type 0 where
  pub holds : (g : Given) (s : Page) (left : ℕ) → WordHere g text table out opens d at end s left → Held g text table' out' opens r (argued s (word text at (end - at))) left

-- A piece

abbrev pub after : Given → Page → Piece → List Piece → Page
after g s (token t) ps = step g s t (bracketed ps)
after g s (blank b) ps = s
after g s (comment c) ps = s

pub record PieceHere (text names table out opens : List ℕ) (t : Task) (end : ℕ) (s : Page) (p : Piece) (ps : List Piece) : Type 0 where
  pub knowing : Knowing names t.known
  pub held : Held (given_from names) text table out opens t.draft s (word_count (tokens (p ∷ ps)))
  pub stands : front_at text t.at t.found ≡ front p (bytes ps)
  pub inside : Inside text t.at t.found
  pub ends : end ≡ end_of t.at t.found
  pub short : length text ≤ 65536
  pub spaced : Spaced ps

pub record SomePiece (text names table out opens : List ℕ) (t : Task) (end : ℕ) : Type 0 where
  pub page_now : Page
  pub piece : Piece
  pub behind : List Piece
  pub there : PieceHere text names table out opens t end page_now piece behind

pub record PieceLaid (text names table table' out out' opens opens' : List ℕ) (t : Task) (end : ℕ) (r : Draft) : Type 0 where
  pub holds : (s : Page) (p : Piece) (ps : List Piece) → PieceHere text names table out opens t end s p ps →
      Held (given_from names) text table' out' opens' r (after (given_from names) s p ps) (word_count (tokens ps))

-- The text

pub record Lays (text names table out opens : List ℕ) (k : Known) : Type 0 where
  pub knowing : Knowing names k
  pub formulas : List Formula
  pub accepted : Accepted text formulas
  pub table_long : length table ≡ 32768
  pub out_long : length out ≡ 16384
  pub opens_long : length opens ≡ 4096

-- the bytes of the query's nodes stand in front, and its own names in the table
pub record Laid (text names table out : List ℕ) (r : Draft) : Type 0 where
  pub formulas : List Formula
  pub accepted : Accepted text formulas
  pub kept : Kept (given_from names) text table r (spots_all [] formulas)
  pub bytes_are : take r.len out ≡ formulas_bytes (given_from names) [] formulas
  pub len_low : r.len ≤ 16384
  pub out_long : length out ≡ 16384
  pub count : r.formulas ≡ length formulas
