-- What reading a query's text against a book and its name list answers, and what the two lent areas hold afterwards (docs/DECISIONS.md, C-13).
use Rattle.std.specs.Prelude.{ℕ, suc, ◌+◌, Bool, not, ◌&&◌, List, [], ◌∷◌, ◌++◌, length, drop, eqb, leb}
use Rattle.terms.specs.When.{◌⇒◌∣◌}
use Rattle.format.specs.declared.Record.TheVariants as Record
use Rattle.format.specs.Reading.{book_verdict}
use Rattle.format.specs.Decode.{book_of}
use Rattle.format.specs.Format.{encode_goal}
use Rattle.format.specs.Arities.{Use, book_uses, goal_uses, Memory, nothing_met, meet, recall, keeps}
use Rattle.grammar.specs.Token.{name, variable, opening, closing, comma, arrow, stop, Piece, token, blank, comment}
use Rattle.grammar.specs.Front.{pieces_of}
use Rattle.grammar.specs.Syntax.{Formula}
use Rattle.grammar.specs.Names.{list_of}
use Rattle.grammar.specs.Query.{Given, names_with, goal}
use Rattle.asking.specs.Asking.{Tally, none_yet, counted, Outcome, read, refused, asking}
use Rattle.questions.specs.declared.ReadQuery.{ReadQuery}
use Rattle.questions.specs.Given.{gives, given_from}

abbrev pub refusal : ℕ → ℕ → ReadQuery
refusal code place = record { code = code; place = place; query = 0; names = 0 }

-- Two arities (document 02, C-18): "a query that uses one against its book or against itself"

-- how many formulas come before the first whose predicate had another arity
abbrev pub kept : Memory → List Use → ℕ
kept m [] = 0
kept m (u ∷ us) = keeps m (Record.Formula u.number u.arity) ⇒ suc (kept (meet m u.number u.arity) us) ∣ 0

-- "at that formula's first byte": the first name outside all brackets behind k commas there
abbrev pub begins_formula : Tally → ℕ → Bool
begins_formula y k = eqb (length y.brackets) 0 && eqb y.outside k

abbrev pub formula_in : ℕ → Tally → ℕ → List Piece → ℕ
formula_in k y at [] = at
formula_in k y at (token (name w) ∷ ps) = begins_formula y k ⇒ at ∣ formula_in k (counted y (name w)) (at + length w) ps
formula_in k y at (token (variable w) ∷ ps) = formula_in k (counted y (variable w)) (at + length w) ps
formula_in k y at (token opening ∷ ps) = formula_in k (counted y opening) (at + 1) ps
formula_in k y at (token closing ∷ ps) = formula_in k (counted y closing) (at + 1) ps
formula_in k y at (token comma ∷ ps) = formula_in k (counted y comma) (at + 1) ps
formula_in k y at (token arrow ∷ ps) = formula_in k y (at + 2) ps
formula_in k y at (token stop ∷ ps) = formula_in k y (at + 1) ps
formula_in k y at (blank b ∷ ps) = formula_in k y (at + 1) ps
formula_in k y at (comment c ∷ ps) = formula_in k y (at + suc (length c)) ps

abbrev pub formula_at : List ℕ → ℕ → ℕ
formula_at text k = formula_in k none_yet 0 (pieces_of (length text) text)

-- What is read: formulas, by the names given

module _ (text book : List ℕ) (given : Given) (fs : List Formula) where
  abbrev pub image : List ℕ
  image = encode_goal (goal given fs)

  abbrev pub list : List ℕ
  list = list_of (names_with given fs)

  abbrev pub uses : List Use
  uses = goal_uses (goal given fs)

  abbrev pub suited : ℕ
  suited = kept (recall nothing_met (book_uses (book_of book))) uses

  abbrev pub room : ℕ → ℕ → Bool
  room query names = leb (length image) query && leb (length list) names

  unfoldable pub answered : ℕ → ℕ → ReadQuery
  answered query names =
      not (eqb suited (length uses)) ⇒ refusal 17 (formula_at text suited)
      ∣ not (room query names) ⇒ refusal 43 0
      ∣ record { code = 0; place = 0; query = length image; names = length list }

-- "A refusal leaves both areas": otherwise the bytes stand at the front, and the rest stays
abbrev pub filled : List ℕ → List ℕ → List ℕ
filled new before = new ++ drop (length new) before

module _ (text book names query list' : List ℕ) where
  abbrev pub by_text : Outcome → ReadQuery
  by_text (refused code place) = refusal code place
  by_text (read fs) = answered text book (given_from names) fs (length query) (length list')

  -- "book codes, 45 a list not in C-13's form", then the text's
  unfoldable pub outcome : ReadQuery
  outcome =
      not (eqb (book_verdict book).code 0) ⇒ refusal (book_verdict book).code (book_verdict book).place
      ∣ not (gives names) ⇒ refusal 45 0
      ∣ by_text (asking text)

  abbrev pub image_of : Outcome → List ℕ
  image_of (refused code place) = []
  image_of (read fs) = image text book (given_from names) fs

  abbrev pub list_from : Outcome → List ℕ
  list_from (refused code place) = []
  list_from (read fs) = list text book (given_from names) fs

  unfoldable pub query_area : List ℕ
  query_area = eqb outcome.code 0 ⇒ filled (image_of (asking text)) query ∣ query

  unfoldable pub list_area : List ℕ
  list_area = eqb outcome.code 0 ⇒ filled (list_from (asking text)) list' ∣ list'
