-- A text as tokens: terms, formulas, rules (document 01's notation). Trees with names, and the tokens that they are written with.
use Rattle.std.specs.Prelude.{ℕ, List, [], ◌∷◌}
use Rattle.grammar.specs.Token.{Token, name, variable, opening, closing, comma, arrow, stop}

-- Terms one behind the other, each before the next: a variable; or a name with its arguments, none of them if it stands alone.
pub data Terms : Type 0 where
  none : Terms
  variable_then : List ℕ → Terms → Terms
  name_then : List ℕ → Terms → Terms → Terms

pub record Formula : Type 0 where
  pub symbol : List ℕ
  pub arguments : Terms

pub record Rule : Type 0 where
  pub head : Formula
  pub body : List Formula

-- what stands before a term: a bracket before the first, a comma before a later one
pub data Turn : Type 0 where
  first : Turn
  later : Turn

abbrev pub before : Turn → Token
before first = opening
before later = comma

-- Arguments, then the tokens that follow: nothing if there are none; otherwise each behind its bracket or comma, and the closing bracket.
abbrev pub arguments_then : Turn → Terms → List Token → List Token
arguments_then first none r = r
arguments_then later none r = closing ∷ r
arguments_then k (variable_then w ts) r = before k ∷ variable w ∷ arguments_then later ts r
arguments_then k (name_then w own ts) r = before k ∷ name w ∷ arguments_then first own (arguments_then later ts r)

abbrev pub formula_then : Formula → List Token → List Token
formula_then f r = name f.symbol ∷ arguments_then first f.arguments r

-- a body: each formula behind `:-` or a comma, and the full stop
abbrev pub body_then : Token → List Formula → List Token → List Token
body_then sign [] r = stop ∷ r
body_then sign (f ∷ fs) r = sign ∷ formula_then f (body_then comma fs r)

-- rules one behind the other
abbrev pub written : List Rule → List Token
written [] = []
written (c ∷ cs) = formula_then c.head (body_then arrow c.body (written cs))
