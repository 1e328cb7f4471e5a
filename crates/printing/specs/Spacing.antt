-- The text of rules (document 02, C-14): "spaced as in P1, one clause a line ended by LF".
use Rattle.std.specs.Prelude.{ℕ, List, [], ◌∷◌}
use Rattle.grammar.specs.Token.{name, variable, closing, comma, arrow, stop, Piece, token, blank, bytes}
use Rattle.grammar.specs.Syntax.{Terms, none, variable_then, name_then, Formula, Rule, Turn, first, later, before}

-- arguments, with no blank between them, then what follows
abbrev pub arguments_laid : Turn → Terms → List Piece → List Piece
arguments_laid first none r = r
arguments_laid later none r = token closing ∷ r
arguments_laid k (variable_then w ts) r = token (before k) ∷ token (variable w) ∷ arguments_laid later ts r
arguments_laid k (name_then w own ts) r = token (before k) ∷ token (name w) ∷ arguments_laid first own (arguments_laid later ts r)

abbrev pub formula_laid : Formula → List Piece → List Piece
formula_laid f r = token (name f.symbol) ∷ arguments_laid first f.arguments r

-- behind the head a blank, `:-` and a blank; behind a formula of the body a comma and a blank
abbrev pub sign_laid : Turn → List Piece → List Piece
sign_laid first r = blank 32 ∷ token arrow ∷ blank 32 ∷ r
sign_laid later r = token comma ∷ blank 32 ∷ r

-- at the end the full stop and LF
abbrev pub body_laid : Turn → List Formula → List Piece → List Piece
body_laid k [] r = token stop ∷ blank 10 ∷ r
body_laid k (f ∷ fs) r = sign_laid k (formula_laid f (body_laid later fs r))

abbrev pub laid : List Rule → List Piece
laid [] = []
laid (c ∷ cs) = formula_laid c.head (body_laid first c.body (laid cs))

abbrev pub text : List Rule → List ℕ
text cs = bytes (laid cs)

-- A goal or an answer stands on one line without a full stop: formulas with a comma and a blank between them.
abbrev pub more_laid : List Formula → List Piece
more_laid [] = []
more_laid (f ∷ fs) = sign_laid later (formula_laid f (more_laid fs))

abbrev pub goal_laid : List Formula → List Piece
goal_laid [] = []
goal_laid (f ∷ fs) = formula_laid f (more_laid fs)

abbrev pub goal_text : List Formula → List ℕ
goal_text fs = bytes (goal_laid fs)
