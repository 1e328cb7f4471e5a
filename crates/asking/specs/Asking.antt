-- What a query's text is read as, token by token, or the refusal that stands first in it (document 02, C-13: the tokens of rules; the query's own codes are decided in
-- docs/DECISIONS.md). A query is read as the body of a rule whose head is there already.
use Rattle.std.specs.Prelude.{ℕ, zero, suc, ◌+◌, Bool, List, [], ◌∷◌, length, leb, ltb}
use Rattle.terms.specs.When.{◌⇒◌∣◌}
use Rattle.grammar.specs.Token.{Token, name, variable, opening, closing, comma, arrow, stop, token, blank, comment, spelt}
use Rattle.grammar.specs.Front.{Front, front, broken, unexpected, front_of}
use Rattle.grammar.specs.Syntax.{none, Formula, Rule}
use Rattle.reading.specs.Part.{Part, formulas, inside, Mode, between, expects, named, complete, State, state, formula_of, put, rule_of, Taken, taken, wrong, next, settle}
use Rattle.reading.specs.Reader.{long, Judged, going, bad, judge_taken}

-- What may follow

abbrev pub asker : Formula
asker = formula_of (97 ∷ []) none

-- a formula may come, or the end
abbrev pub begin : State
begin = state [] (formulas (asker ∷ [])) between

-- behind the full stop no token may come
abbrev pub sealed : List Rule → Part → Mode → State
sealed cs p between = state cs p complete
sealed cs p expects = state cs p expects
sealed cs p (named w) = state cs p (named w)
sealed cs p complete = state cs p complete

abbrev pub seal : Taken → Taken
seal (taken s) = taken (sealed s.rules s.part s.mode)
seal wrong = wrong

abbrev pub step : State → Token → Taken
step s t = seal (next s.rules s.part s.mode t)

-- What is meant where the text ends: a goal, or nothing yet
pub data Meant : Type 0 where
  goal : List Formula → Meant
  unfinished : Meant

abbrev pub meant_whole : List Rule → Part → Meant
meant_whole [] (formulas []) = unfinished
meant_whole [] (formulas (f ∷ fs)) = goal (rule_of f fs []).body
meant_whole [] (inside p v d) = unfinished
meant_whole (c ∷ cs) p = goal c.body

abbrev pub meant : List Rule → Part → Mode → Meant
meant cs p between = goal []
meant cs p expects = unfinished
meant cs p (named w) = meant_whole cs (put p w none)
meant cs p complete = meant_whole cs p

abbrev pub meaning : State → Meant
meaning s = meant s.rules s.part s.mode

-- Sizes: the commas outside all brackets; those inside each open bracket, the innermost first; names and variables

pub record Tally : Type 0 where
  pub outside : ℕ
  pub brackets : List ℕ
  pub words : ℕ

abbrev pub tally : ℕ → List ℕ → ℕ → Tally
tally a bs n = record { outside = a; brackets = bs; words = n }

abbrev pub none_yet : Tally
none_yet = tally 0 [] 0

abbrev pub closed : List ℕ → List ℕ
closed [] = []
closed (b ∷ bs) = bs

abbrev pub with_comma : ℕ → List ℕ → ℕ → Tally
with_comma a [] n = tally (suc a) [] n
with_comma a (b ∷ bs) n = tally a (suc b ∷ bs) n

abbrev pub counted : Tally → Token → Tally
counted y (name w) = tally y.outside y.brackets (suc y.words)
counted y (variable w) = tally y.outside y.brackets (suc y.words)
counted y opening = tally y.outside (0 ∷ y.brackets) y.words
counted y closing = tally y.outside (closed y.brackets) y.words
counted y comma = with_comma y.outside y.brackets y.words
counted y arrow = y
counted y stop = y

-- the formula here would be the 513th, or the argument the 9th
abbrev pub full : ℕ → List ℕ → Bool
full a [] = leb 512 a
full a (b ∷ bs) = leb 8 b

-- the code of what would be one too many, 14 before 15; otherwise 0
abbrev pub code : Tally → ℕ
code y = full y.outside y.brackets ⇒ 14 ∣ leb 4096 y.words ⇒ 15 ∣ 0

abbrev pub limit : Tally → Token → ℕ
limit y (name w) = code y
limit y (variable w) = code y
limit y opening = 0
limit y closing = 0
limit y comma = 0
limit y arrow = 0
limit y stop = 0

-- The text

pub data Outcome : Type 0 where
  read : List Formula → Outcome
  refused : ℕ → ℕ → Outcome

-- the place of the unexpected byte: the second of a token that might stand here, otherwise the first
abbrev pub breaks : Taken → ℕ → Outcome
breaks (taken s) at = refused 41 (at + 1)
breaks wrong at = refused 41 at

-- "the text's length if it ends early"
abbrev pub ended : Meant → ℕ → Outcome
ended (goal fs) at = read fs
ended unfinished at = refused 41 at

abbrev pub go_on : Judged → (State → Outcome) → Outcome
go_on (going s) more = more s
go_on (bad code at) more = refused code at

abbrev pub from_front : State → Tally → ℕ → Front → (State → Tally → ℕ → List ℕ → Outcome) → Outcome
from_front s y at (front (token t) rest) more = go_on (judge_taken (step s t) (limit y t) (long t) at) (λ n. more n (counted y t) (at + length (spelt (token t))) rest)
from_front s y at (front (blank b) rest) more = more (settle s) y (at + 1) rest
from_front s y at (front (comment c) rest) more = more (settle s) y (at + length (spelt (comment c))) rest
from_front s y at (broken t) more = breaks (step s t) at
from_front s y at unexpected more = refused 41 at

-- the bytes from a place on, in k pieces at most
abbrev pub walk : ℕ → State → Tally → ℕ → List ℕ → Outcome
walk zero s y at rest = ended (meaning s) at
walk (suc k) s y at [] = ended (meaning s) at
walk (suc k) s y at (b ∷ rest) = from_front s y at (front_of (b ∷ rest)) (walk k)

-- "40 text too long; then the one that stands first in the text"
unfoldable pub asking : List ℕ → Outcome
asking text = ltb 65536 (length text) ⇒ refused 40 0 ∣ walk (suc (length text)) begin none_yet 0 text
