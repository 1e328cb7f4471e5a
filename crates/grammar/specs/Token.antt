-- A text as bytes: tokens, with blanks and comments between them (documents 01, "Traces to check by", and 02, C-13).
use Rattle.std.specs.Prelude.{ℕ, ◌≡◌, Bool, true, ◌||◌, List, [], ◌∷◌, ◌++◌}
use Rattle.grammar.specs.Byte.{goes_on, is_blank, is_percent, is_line_end, is_bracket, No, Next, NextNot, IsName, IsVariable}

pub data Token : Type 0 where
  name : List ℕ → Token
  variable : List ℕ → Token
  opening : Token
  closing : Token
  comma : Token
  arrow : Token
  stop : Token

abbrev pub spelling : Token → List ℕ
spelling (name w) = w
spelling (variable w) = w
spelling opening = 40 ∷ []
spelling closing = 41 ∷ []
spelling comma = 44 ∷ []
spelling arrow = 58 ∷ 45 ∷ []
spelling stop = 46 ∷ []

-- What a text is made of. A comment is the per cent sign and the bytes after it; the LF that ends it is a blank.
pub data Piece : Type 0 where
  token : Token → Piece
  blank : ℕ → Piece
  comment : List ℕ → Piece

abbrev pub spelt : Piece → List ℕ
spelt (token t) = spelling t
spelt (blank b) = b ∷ []
spelt (comment c) = 37 ∷ c

abbrev pub bytes : List Piece → List ℕ
bytes [] = []
bytes (p ∷ ps) = spelt p ++ bytes ps

-- "after which stands a blank (space, tab, LF or CR) or the text's end", "a `%` comment .. counting as a blank"
unfoldable pub after_stop : ℕ → Bool
unfolding is_blank is_percent
after_stop b = is_blank b || is_percent b

-- a token is spelt rightly, and what may stand behind it: a name or a variable has all the bytes that could go on with it
abbrev pub Stands : Token → List ℕ → Type 0
Stands (name w) rest = IsName w × NextNot goes_on rest
Stands (variable w) rest = IsVariable w × NextNot goes_on rest
Stands opening rest = Unit {0}
Stands closing rest = Unit {0}
Stands comma rest = Unit {0}
Stands arrow rest = Unit {0}
Stands stop rest = Next after_stop rest

-- the same of a piece: "a bracket follows its name at once"; a comment goes "up to LF or the text's end"
abbrev pub Fits : Piece → List ℕ → Type 0
Fits (token t) rest = Stands t rest
Fits (blank b) rest = (is_blank b ≡ true) × NextNot is_bracket rest
Fits (comment c) rest = No is_line_end c × Next is_line_end rest

abbrev pub Spaced : List Piece → Type 0
Spaced [] = Unit {0}
Spaced (p ∷ ps) = Fits p (bytes ps) × Spaced ps

-- what is left without blanks and comments
abbrev pub tokens : List Piece → List Token
tokens [] = []
tokens (token t ∷ ps) = t ∷ tokens ps
tokens (blank b ∷ ps) = tokens ps
tokens (comment c ∷ ps) = tokens ps

-- the text is these tokens, with blanks and comments between them
pub record Spells (text : List ℕ) (ts : List Token) : Type 0 where
  pub pieces : List Piece
  pub spaced : Spaced pieces
  pub whole : text ≡ bytes pieces
  pub listed : ts ≡ tokens pieces
