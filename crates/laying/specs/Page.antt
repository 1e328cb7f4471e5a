-- What each token of a query adds to the bytes of its nodes. A symbol's arity is raised with each of its arguments, as long as its bracket is open.
use Rattle.std.specs.Prelude.{ℕ, ◌+◌, ◌/◌, ◌%◌, Bool, true, false, List, [], ◌∷◌, ◌++◌, length, get_or, set, ltb}
use Rattle.terms.specs.When.{◌⇒◌∣◌}
use Rattle.grammar.specs.Token.{Token, name, variable, opening, closing, comma, arrow, stop, Piece, token, blank, comment}
use Rattle.grammar.specs.Names.{Sort, Constant, Compound, Predicate, Spot, variable_spot, symbol_spot, place, names_after, variable_number, variables_after, kind}
use Rattle.grammar.specs.Query.{Given}

-- the bytes; where the arities of the symbols stand whose brackets are open, the innermost first; the nodes with their names, arities aside; how many formulas there are
pub record Page : Type 0 where
  pub bytes : List ℕ
  pub stack : List ℕ
  pub spots : List Spot
  pub formulas : ℕ

abbrev pub page : List ℕ → List ℕ → List Spot → ℕ → Page
page b s e n = record { bytes = b; stack = s; spots = e; formulas = n }

abbrev pub blank_page : Page
blank_page = page [] [] [] 0

-- what a name is: outside all brackets a predicate; otherwise by whether it has a bracket
abbrev pub sort_at : List ℕ → Bool → Sort
sort_at [] b = Predicate
sort_at (p ∷ ps) true = Compound
sort_at (p ∷ ps) false = Constant

-- "new names numbered after it"
abbrev pub number : Given → List Spot → Sort → List ℕ → ℕ
number g e k w = place w (names_after k (g k) e)

abbrev pub header : Sort → ℕ → List ℕ
header k n = kind k ∷ n / 256 ∷ n % 256 ∷ []

abbrev pub arity : Sort → ℕ → List ℕ
arity Constant a = []
arity Compound a = a ∷ []
arity Predicate a = a ∷ []

abbrev pub raised : ℕ → ℕ
raised x = ltb x 255 ⇒ x + 1 ∣ x

-- one more argument of the innermost symbol
abbrev pub bumped : List ℕ → List ℕ → List ℕ
bumped bytes [] = bytes
bumped bytes (p ∷ ps) = set bytes p (raised (get_or bytes p 0))

abbrev pub rooted : List ℕ → ℕ → ℕ
rooted [] n = n + 1
rooted (p ∷ ps) n = n

abbrev pub shut : List ℕ → List ℕ
shut [] = []
shut (p ∷ ps) = ps

abbrev pub named : Given → Page → List ℕ → Bool → Page
named g s w b =
    page
    (bumped s.bytes s.stack ++ (header (sort_at s.stack b) (number g s.spots (sort_at s.stack b) w) ++ arity (sort_at s.stack b) 0))
    (b ⇒ (length (bumped s.bytes s.stack) + 3) ∷ s.stack ∣ s.stack)
    (s.spots ++ (symbol_spot (sort_at s.stack b) w 0 ∷ []))
    (rooted s.stack s.formulas)

abbrev pub variable_bytes : ℕ → List ℕ
variable_bytes v = 1 ∷ v / 256 ∷ v % 256 ∷ []

abbrev pub argued : Page → List ℕ → Page
argued s w =
    page (bumped s.bytes s.stack ++ variable_bytes (variable_number (variables_after [] s.spots) w)) s.stack (s.spots ++ (variable_spot w ∷ [])) s.formulas

-- a token, and whether a bracket stands behind it
abbrev pub step : Given → Page → Token → Bool → Page
step g s (name w) b = named g s w b
step g s (variable w) b = argued s w
step g s opening b = s
step g s closing b = page s.bytes (shut s.stack) s.spots s.formulas
step g s comma b = s
step g s arrow b = s
step g s stop b = s

abbrev pub opens : List Token → Bool
opens [] = false
opens (name w ∷ ts) = false
opens (variable w ∷ ts) = false
opens (opening ∷ ts) = true
opens (closing ∷ ts) = false
opens (comma ∷ ts) = false
opens (arrow ∷ ts) = false
opens (stop ∷ ts) = false

abbrev pub run : Given → Page → List Token → Page
run g s [] = s
run g s (t ∷ ts) = run g (step g s t (opens ts)) ts

-- The same by pieces

abbrev pub bracketed : List Piece → Bool
bracketed [] = false
bracketed (token t ∷ ps) = opens (t ∷ [])
bracketed (blank b ∷ ps) = false
bracketed (comment c ∷ ps) = false

abbrev pub over : Given → Page → List Piece → Page
over g s [] = s
over g s (token t ∷ ps) = over g (step g s t (bracketed ps)) ps
over g s (blank b ∷ ps) = over g s ps
over g s (comment c ∷ ps) = over g s ps
