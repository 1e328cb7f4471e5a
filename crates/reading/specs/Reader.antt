-- What a text is read as, token by token, or the refusal that stands first in it (document 02, C-13).
use Rattle.std.specs.Prelude.{ℕ, zero, suc, ◌+◌, Bool, true, false, ◌||◌, List, [], ◌∷◌, length, leb, ltb}
use Rattle.terms.specs.When.{◌⇒◌∣◌}
use Rattle.format.specs.Format.{encode_book}
use Rattle.grammar.specs.Token.{Token, name, variable, opening, closing, comma, arrow, stop, Piece, token, blank, comment, spelt}
use Rattle.grammar.specs.Front.{Front, front, broken, unexpected, front_of}
use Rattle.grammar.specs.Syntax.{Terms, none, variable_then, name_then, Formula, Rule}
use Rattle.grammar.specs.Names.{with_variable, book}
use Rattle.reading.specs.Part.{Done, none_yet, and_variable, and_name, Part, formulas, inside, Mode, between, expects, named, complete, State, start, rules_of}
use Rattle.reading.specs.Part.{Taken, taken, wrong, next, settle}

-- Sizes of what is read in part

abbrev pub terms_nodes : Terms → ℕ
terms_nodes none = 0
terms_nodes (variable_then w ts) = suc (terms_nodes ts)
terms_nodes (name_then w own ts) = suc (terms_nodes own + terms_nodes ts)

abbrev pub done_nodes : Done → ℕ
done_nodes none_yet = 0
done_nodes (and_variable d w) = suc (done_nodes d)
done_nodes (and_name d w own) = suc (done_nodes d + terms_nodes own)

abbrev pub formulas_nodes : List Formula → ℕ
formulas_nodes [] = 0
formulas_nodes (f ∷ fs) = suc (formulas_nodes fs + terms_nodes f.arguments)

abbrev pub nodes : Part → ℕ
nodes (formulas fs) = formulas_nodes fs
nodes (inside p v d) = suc (nodes p + done_nodes d)

-- the variables after those seen, by first appearance
abbrev pub terms_variables : List (List ℕ) → Terms → List (List ℕ)
terms_variables seen none = seen
terms_variables seen (variable_then w ts) = terms_variables (with_variable seen w) ts
terms_variables seen (name_then w own ts) = terms_variables (terms_variables seen own) ts

abbrev pub done_variables : List (List ℕ) → Done → List (List ℕ)
done_variables seen none_yet = seen
done_variables seen (and_variable d w) = with_variable (done_variables seen d) w
done_variables seen (and_name d w own) = terms_variables (done_variables seen d) own

abbrev pub formulas_variables : List Formula → List (List ℕ)
formulas_variables [] = []
formulas_variables (f ∷ fs) = terms_variables (formulas_variables fs) f.arguments

abbrev pub variables : Part → List (List ℕ)
variables (formulas fs) = formulas_variables fs
variables (inside p v d) = done_variables (variables p) d

abbrev pub size : Done → ℕ
size none_yet = 0
size (and_variable d w) = suc (size d)
size (and_name d w own) = suc (size d)

-- no argument, and no formula of a body, may be added: "arity or body out of range"
abbrev pub full : Part → Bool
full (formulas fs) = leb 17 (length fs)
full (inside p v d) = leb 8 (size d)

-- no node, or no clause, may be
abbrev pub crowded : List Rule → Part → Bool
crowded cs p = leb 256 (nodes p) || leb 512 (length cs)

-- the code of what this token would make one too many, "4 before 5 at one byte"; otherwise 0
abbrev pub limit : List Rule → Part → Token → ℕ
limit cs p (name w) = full p ⇒ 4 ∣ crowded cs p ⇒ 5 ∣ 0
limit cs p (variable w) = full p ⇒ 4 ∣ crowded cs p || leb 65 (length (with_variable (variables p) w)) ⇒ 5 ∣ 0
limit cs p opening = 0
limit cs p closing = 0
limit cs p comma = 0
limit cs p arrow = 0
limit cs p stop = 0

abbrev pub long : Token → Bool
long (name w) = leb 33 (length w)
long (variable w) = false
long opening = false
long closing = false
long comma = false
long arrow = false
long stop = false

-- One piece

pub data Judged : Type 0 where
  going : State → Judged
  bad : ℕ → ℕ → Judged

abbrev pub sized : ℕ → Bool → ℕ → State → Judged
sized zero false at s = going s
sized zero true at s = bad 42 (at + 32)
sized (suc code) long at s = bad (suc code) at

abbrev pub judge_taken : Taken → ℕ → Bool → ℕ → Judged
judge_taken wrong code long at = bad 41 at
judge_taken (taken s) code long at = sized code long at s

abbrev pub judge_token : State → ℕ → Token → Judged
judge_token s at t = judge_taken (next s.rules s.part s.mode t) (limit s.rules s.part t) (long t) at

abbrev pub judge : State → ℕ → Piece → Judged
judge s at (token t) = judge_token s at t
judge s at (blank b) = going (settle s)
judge s at (comment c) = going (settle s)

-- The text

pub data Outcome : Type 0 where
  read : List Rule → Outcome
  refused : ℕ → ℕ → Outcome

-- the place of the unexpected byte: the second of a token that might stand here, otherwise the first
abbrev pub breaks : Taken → ℕ → Outcome
breaks (taken s) at = refused 41 (at + 1)
breaks wrong at = refused 41 at

-- "the text's length if it ends early"
abbrev pub ended : List Rule → Mode → ℕ → Outcome
ended cs between at = read (rules_of cs [])
ended cs expects at = refused 41 at
ended cs (named w) at = refused 41 at
ended cs complete at = refused 41 at

abbrev pub go_on : Judged → (State → Outcome) → Outcome
go_on (going s) more = more s
go_on (bad code at) more = refused code at

abbrev pub from_front : State → ℕ → Front → (State → ℕ → List ℕ → Outcome) → Outcome
from_front s at (front p rest) more = go_on (judge s at p) (λ s'. more s' (at + length (spelt p)) rest)
from_front s at (broken t) more = breaks (next s.rules s.part s.mode t) at
from_front s at unexpected more = refused 41 at

-- the bytes from a place on, in k pieces at most
abbrev pub walk : ℕ → State → ℕ → List ℕ → Outcome
walk zero s at rest = ended s.rules s.mode at
walk (suc k) s at [] = ended s.rules s.mode at
walk (suc k) s at (b ∷ rest) = from_front s at (front_of (b ∷ rest)) (walk k)

-- "at the text's length for a finished book over 32,768 bytes"
abbrev pub fitting : ℕ → Outcome → Outcome
fitting at (refused code i) = refused code i
fitting at (read cs) = ltb 32768 (length (encode_book (book cs))) ⇒ refused 5 at ∣ read cs

-- "40 text too long; then the one that stands first in the text"
unfoldable pub reading : List ℕ → Outcome
reading text = ltb 65536 (length text) ⇒ refused 40 0 ∣ fitting (length text) (walk (suc (length text)) start 0 text)
