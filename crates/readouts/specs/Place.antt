-- Where a formula stands in a text (document 02, C-18: "C-13's reader gives 7 .. at that formula's first byte").
use Rattle.std.specs.Prelude.{ℕ, zero, suc, ◌+◌, ◌-◌, ◌≡◌, List, [], ◌∷◌, ◌++◌, length}
use Rattle.grammar.specs.Token.{Token, name, variable, opening, closing, comma, arrow, stop, Piece, token, blank, comment, bytes, Stands, tokens}
use Rattle.grammar.specs.Front.{pieces_of}
use Rattle.grammar.specs.Syntax.{Formula, Rule, formula_then, body_then}
use Rattle.reading.proofs.Stop.{SpacedTo}

-- the tokens of formulas that another one follows in their rule: `:-` behind the head, a comma behind each one of the body
abbrev pub commas_then : List Formula → List Token → List Token
commas_then [] r = r
commas_then (f ∷ fs) r = formula_then f (comma ∷ commas_then fs r)

abbrev pub leading_then : List Formula → List Token → List Token
leading_then [] r = r
leading_then (f ∷ fs) r = formula_then f (arrow ∷ commas_then fs r)

-- those of whole rules
abbrev pub rules_then : List Rule → List Token → List Token
rules_then [] r = r
rules_then (c ∷ cs) r = formula_then c.head (body_then arrow c.body (rules_then cs r))

abbrev pub formulas_in : List Rule → ℕ
formulas_in [] = 0
formulas_in (c ∷ cs) = suc (length c.body) + formulas_in cs

-- The bytes before the place are pieces whose tokens are those of k formulas, in whole rules and in the rule of the next one; and here its name begins.
pub record FormulaAt (text : List ℕ) (k at : ℕ) : Type 0 where
  pub rules : List Rule
  pub own : List Formula
  pub count : formulas_in rules + length own ≡ k
  pub pieces : List Piece
  pub listed : tokens pieces ≡ rules_then rules (leading_then own [])
  pub symbol : List ℕ
  pub rest : List ℕ
  pub whole : text ≡ bytes pieces ++ (symbol ++ rest)
  pub spaced : SpacedTo pieces (symbol ++ rest)
  pub stands : Stands (name symbol) rest
  pub place : at ≡ length (bytes pieces)

-- The same, computed: past k names outside brackets, so many brackets open

abbrev pub seek : ℕ → ℕ → ℕ → List Piece → ℕ
seek k d at [] = at
seek k (suc d) at (token (name w) ∷ ps) = seek k (suc d) (at + length w) ps
seek (suc k) zero at (token (name w) ∷ ps) = seek k zero (at + length w) ps
seek zero zero at (token (name w) ∷ ps) = at
seek k d at (token (variable w) ∷ ps) = seek k d (at + length w) ps
seek k d at (token opening ∷ ps) = seek k (suc d) (at + 1) ps
seek k d at (token closing ∷ ps) = seek k (d - 1) (at + 1) ps
seek k d at (token comma ∷ ps) = seek k d (at + 1) ps
seek k d at (token arrow ∷ ps) = seek k d (at + 2) ps
seek k d at (token stop ∷ ps) = seek k d (at + 1) ps
seek k d at (blank b ∷ ps) = seek k d (at + 1) ps
seek k d at (comment c ∷ ps) = seek k d (at + suc (length c)) ps

unfoldable pub formula_place : List ℕ → ℕ → ℕ
formula_place text k = seek k 0 0 (pieces_of (length text) text)
