-- The text of rules whose names and variables are spelt rightly has just their tokens.
use Rattle.std.specs.Prelude.{ℕ, ◌≡◌, refl, List, [], ◌∷◌}
use Rattle.std.proofs.Common.{sym as inv, ap, ◌∙◌}
use Rattle.grammar.specs.Byte.{small, capital, digit, goes_on, is_blank, is_percent, is_bracket, NextNot, IsName, IsVariable}
use Rattle.grammar.specs.ByteLaws.{small-not-bracket}
use Rattle.grammar.specs.Token.{Token, name, variable, opening, comma, arrow, Piece, token, bytes, after_stop, Spaced, tokens}
use Rattle.grammar.specs.Syntax.{Terms, none, variable_then, name_then, Formula, Rule, Turn, first, later, arguments_then, formula_then, body_then, written}
use Rattle.grammar.specs.Query.{open_end, more_then, asked, Asks}
use Rattle.grammar.specs.Reading.{Writes}
use Rattle.printing.specs.Spacing.{arguments_laid, formula_laid, sign_laid, body_laid, laid, text, more_laid, goal_laid, goal_text}

-- names and variables that are spelt as the notation has them
abbrev pub Right : Terms → Type 0
Right none = Unit {0}
Right (variable_then w ts) = IsVariable w × Right ts
Right (name_then w own ts) = IsName w × Right own × Right ts

pub record RightFormula (f : Formula) : Type 0 where
  pub symbol : IsName f.symbol
  pub arguments : Right f.arguments

abbrev pub RightFormulas : List Formula → Type 0
RightFormulas [] = Unit {0}
RightFormulas (f ∷ fs) = RightFormula f × RightFormulas fs

abbrev pub RightRules : List Rule → Type 0
RightRules [] = Unit {0}
RightRules (c ∷ cs) = RightFormulas (c.head ∷ c.body) × RightRules cs

-- The tokens

arguments-tokens : (k : Turn) (ts : Terms) (r : List Piece) → tokens (arguments_laid k ts r) ≡ arguments_then k ts (tokens r)
arguments-tokens first none r = refl
arguments-tokens later none r = refl
arguments-tokens first (variable_then w ts) r = ap (λ (l : List Token). opening ∷ variable w ∷ l) (arguments-tokens later ts r)
arguments-tokens later (variable_then w ts) r = ap (λ (l : List Token). comma ∷ variable w ∷ l) (arguments-tokens later ts r)
arguments-tokens first (name_then w own ts) r =
    ap (λ (l : List Token). opening ∷ name w ∷ l) (arguments-tokens first own (arguments_laid later ts r) ∙ ap (arguments_then first own) (arguments-tokens later ts r))
arguments-tokens later (name_then w own ts) r =
    ap (λ (l : List Token). comma ∷ name w ∷ l) (arguments-tokens first own (arguments_laid later ts r) ∙ ap (arguments_then first own) (arguments-tokens later ts r))

formula-tokens : (f : Formula) (r : List Piece) → tokens (formula_laid f r) ≡ formula_then f (tokens r)
formula-tokens f r = ap (λ (l : List Token). name f.symbol ∷ l) (arguments-tokens first f.arguments r)

-- the token of the notation where a blank may stand beside it
abbrev sign : Turn → Token
sign first = arrow
sign later = comma

sign-tokens : (k : Turn) (r : List Piece) → tokens (sign_laid k r) ≡ sign k ∷ tokens r
sign-tokens first r = refl
sign-tokens later r = refl

body-tokens : (k : Turn) (fs : List Formula) (r : List Piece) → tokens (body_laid k fs r) ≡ body_then (sign k) fs (tokens r)
body-tokens k [] r = refl
body-tokens k (f ∷ fs) r =
    sign-tokens k (formula_laid f (body_laid later fs r))
    ∙ ap (λ (l : List Token). sign k ∷ l) (formula-tokens f (body_laid later fs r) ∙ ap (formula_then f) (body-tokens later fs r))

laid-tokens : (cs : List Rule) → tokens (laid cs) ≡ written cs
laid-tokens [] = refl
laid-tokens (c ∷ cs) =
    formula-tokens c.head (body_laid first c.body (laid cs))
    ∙ ap (formula_then c.head) (body-tokens first c.body (laid cs) ∙ ap (body_then arrow c.body) (laid-tokens cs))

more-tokens : (fs : List Formula) → tokens (more_laid fs) ≡ more_then fs []
more-tokens [] = refl
more-tokens (f ∷ fs) = ap (λ (l : List Token). comma ∷ l) (formula-tokens f (more_laid fs) ∙ ap (formula_then f) (more-tokens fs))

goal-tokens : (fs : List Formula) → tokens (goal_laid fs) ≡ asked fs open_end
goal-tokens [] = refl
goal-tokens (f ∷ fs) = formula-tokens f (more_laid fs) ∙ ap (formula_then f) (more-tokens fs)

-- The spacing. What follows a word does not go on with it; what follows a blank is no bracket.

abbrev Quiet : List Piece → Type 0
Quiet r = NextNot goes_on (bytes r)

abbrev Clear : List Piece → Type 0
Clear r = NextNot is_bracket (bytes r)

arguments-quiet : (k : Turn) (ts : Terms) (r : List Piece) → Quiet r → Quiet (arguments_laid k ts r)
unfolding goes_on small capital digit
arguments-quiet first none r q = q
arguments-quiet later none r q = refl
arguments-quiet first (variable_then w ts) r q = refl
arguments-quiet later (variable_then w ts) r q = refl
arguments-quiet first (name_then w own ts) r q = refl
arguments-quiet later (name_then w own ts) r q = refl

arguments-spaced : (k : Turn) (ts : Terms) (r : List Piece) → Right ts → Quiet r → Spaced r → Spaced (arguments_laid k ts r)
arguments-spaced first none r h q s = s
arguments-spaced later none r h q s = (tt, s)
arguments-spaced first (variable_then w ts) r h q s = (tt, ((h.0, arguments-quiet later ts r q), arguments-spaced later ts r h.1 q s))
arguments-spaced later (variable_then w ts) r h q s = (tt, ((h.0, arguments-quiet later ts r q), arguments-spaced later ts r h.1 q s))
arguments-spaced first (name_then w own ts) r h q s =
    let p = arguments-quiet later ts r q in
    (tt, ((h.0, arguments-quiet first own (arguments_laid later ts r) p), arguments-spaced first own (arguments_laid later ts r) h.1 p (arguments-spaced later ts r h.2 q s)))
arguments-spaced later (name_then w own ts) r h q s =
    let p = arguments-quiet later ts r q in
    (tt, ((h.0, arguments-quiet first own (arguments_laid later ts r) p), arguments-spaced first own (arguments_laid later ts r) h.1 p (arguments-spaced later ts r h.2 q s)))

name-clear : (w : List ℕ) (r : List Piece) → IsName w → Clear (token (name w) ∷ r)
name-clear [] r h = absurd h
name-clear (b ∷ w) r h = small-not-bracket b h.0

module _ (f : Formula) (r : List Piece) (h : RightFormula f) where
  formula-clear : Clear (formula_laid f r)
  formula-clear = name-clear f.symbol (arguments_laid first f.arguments r) h.symbol

  formula-spaced : Quiet r → Spaced r → Spaced (formula_laid f r)
  formula-spaced q s = ((h.symbol, arguments-quiet first f.arguments r q), arguments-spaced first f.arguments r h.arguments q s)

sign-quiet : (k : Turn) (r : List Piece) → Quiet (sign_laid k r)
unfolding goes_on small capital digit
sign-quiet first r = refl
sign-quiet later r = refl

sign-spaced : (k : Turn) (r : List Piece) → Clear r → Spaced r → Spaced (sign_laid k r)
unfolding is_blank is_bracket
sign-spaced first r c s = ((refl, refl), (tt, ((refl, c), s)))
sign-spaced later r c s = (tt, ((refl, c), s))

body-quiet : (k : Turn) (fs : List Formula) (r : List Piece) → Quiet (body_laid k fs r)
unfolding goes_on small capital digit
body-quiet k [] r = refl
body-quiet k (f ∷ fs) r = sign-quiet k (formula_laid f (body_laid later fs r))

body-spaced : (k : Turn) (fs : List Formula) (r : List Piece) → RightFormulas fs → Clear r → Spaced r → Spaced (body_laid k fs r)
unfolding is_blank is_percent after_stop
body-spaced k [] r h c s = (refl, ((refl, c), s))
body-spaced k (f ∷ fs) r h c s =
    let more = body_laid later fs r in
    sign-spaced k (formula_laid f more) (formula-clear f more h.0) (formula-spaced f more h.0 (body-quiet later fs r) (body-spaced later fs r h.1 c s))

laid-clear : (cs : List Rule) → RightRules cs → Clear (laid cs)
laid-clear [] h = tt
laid-clear (c ∷ cs) h = formula-clear c.head (body_laid first c.body (laid cs)) h.0.0

laid-spaced : (cs : List Rule) → RightRules cs → Spaced (laid cs)
laid-spaced [] h = tt
laid-spaced (c ∷ cs) h =
    formula-spaced c.head (body_laid first c.body (laid cs)) h.0.0 (body-quiet first c.body (laid cs))
    (body-spaced first c.body (laid cs) h.0.1 (laid-clear cs h.1) (laid-spaced cs h.1))

more-quiet : (fs : List Formula) → Quiet (more_laid fs)
more-quiet [] = tt
more-quiet (f ∷ fs) = sign-quiet later (formula_laid f (more_laid fs))

more-spaced : (fs : List Formula) → RightFormulas fs → Spaced (more_laid fs)
more-spaced [] h = tt
more-spaced (f ∷ fs) h =
    sign-spaced later (formula_laid f (more_laid fs)) (formula-clear f (more_laid fs) h.0) (formula-spaced f (more_laid fs) h.0 (more-quiet fs) (more-spaced fs h.1))

goal-spaced : (fs : List Formula) → RightFormulas fs → Spaced (goal_laid fs)
goal-spaced [] h = tt
goal-spaced (f ∷ fs) h = formula-spaced f (more_laid fs) h.0 (more-quiet fs) (more-spaced fs h.1)

-- so the text is written as its rules are
pub text-writes : (cs : List Rule) → RightRules cs → Writes (text cs) cs
text-writes cs h = record { pieces = laid cs; spaced = laid-spaced cs h; whole = refl; listed = inv (laid-tokens cs) }

pub goal-asks : (fs : List Formula) → RightFormulas fs → Asks (goal_text fs) fs
goal-asks fs h = record { ending = open_end; spelt = record { pieces = goal_laid fs; spaced = goal-spaced fs h; whole = refl; listed = inv (goal-tokens fs) } }
