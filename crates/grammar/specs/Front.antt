-- The piece at the front of a text, computed.
use Rattle.std.specs.Prelude.{ℕ, zero, suc, Bool, not, List, [], ◌∷◌, eqb}
use Rattle.terms.specs.When.{◌⇒◌∣◌}
use Rattle.grammar.specs.Byte.{small, starts_variable, goes_on, is_blank, is_percent, is_line_end, is_bracket}
use Rattle.grammar.specs.Token.{Token, name, variable, opening, closing, comma, arrow, stop, Piece, token, blank, comment, after_stop}

-- the bytes at the front that pass a test, and what stands behind them
abbrev pub run : (ℕ → Bool) → List ℕ → List ℕ
run test [] = []
run test (b ∷ s) = test b ⇒ b ∷ run test s ∣ []

abbrev pub past : (ℕ → Bool) → List ℕ → List ℕ
past test [] = []
past test (b ∷ s) = test b ⇒ past test s ∣ b ∷ s

-- a piece and what stands behind it; a token that breaks off behind its first byte; or a byte that begins nothing
pub data Front : Type 0 where
  front : Piece → List ℕ → Front
  broken : Token → Front
  unexpected : Front

abbrev pub stop_at : List ℕ → Front
stop_at [] = front (token stop) []
stop_at (b ∷ s) = after_stop b ⇒ front (token stop) (b ∷ s) ∣ broken stop

abbrev pub arrow_at : List ℕ → Front
arrow_at [] = broken arrow
arrow_at (b ∷ s) = eqb b 45 ⇒ front (token arrow) s ∣ broken arrow

abbrev pub in_comment : ℕ → Bool
in_comment b = not (is_line_end b)

-- what a byte begins
pub data Class : Type 0 where
  a_bracket : Class
  a_name : Class
  a_variable : Class
  a_blank : Class
  a_comment : Class
  a_closing : Class
  a_comma : Class
  a_stop : Class
  an_arrow : Class
  nothing : Class

unfoldable pub class : ℕ → Class
class b =
    is_bracket b ⇒ a_bracket
    ∣ small b ⇒ a_name
    ∣ starts_variable b ⇒ a_variable
    ∣ is_blank b ⇒ a_blank
    ∣ is_percent b ⇒ a_comment
    ∣ eqb b 41 ⇒ a_closing
    ∣ eqb b 44 ⇒ a_comma
    ∣ eqb b 46 ⇒ a_stop
    ∣ eqb b 58 ⇒ an_arrow
    ∣ nothing

abbrev pub cut : Class → ℕ → List ℕ → Front
cut a_bracket b s = front (token opening) s
cut a_name b s = front (token (name (b ∷ run goes_on s))) (past goes_on s)
cut a_variable b s = front (token (variable (b ∷ run goes_on s))) (past goes_on s)
cut a_blank b s = front (blank b) s
cut a_comment b s = front (comment (run in_comment s)) (past in_comment s)
cut a_closing b s = front (token closing) s
cut a_comma b s = front (token comma) s
cut a_stop b s = stop_at s
cut an_arrow b s = arrow_at s
cut nothing b s = unexpected

abbrev pub front_of : List ℕ → Front
front_of [] = unexpected
front_of (b ∷ s) = cut (class b) b s

abbrev pub piece_before : Front → (List ℕ → List Piece) → List Piece
piece_before (front p rest) more = p ∷ more rest
piece_before (broken t) more = []
piece_before unexpected more = []

-- the pieces from the front on, k at most
abbrev pub pieces_of : ℕ → List ℕ → List Piece
pieces_of zero s = []
pieces_of (suc k) s = piece_before (front_of s) (λ rest. pieces_of k rest)
