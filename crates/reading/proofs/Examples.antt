-- Document 01's P1 as text, and texts that are refused, by computing.
use Rattle.std.specs.Prelude.{ℕ, ◌≡◌, refl, List, [], ◌∷◌}
use Rattle.terms.specs.Node.{predicate, var, sym}
use Rattle.grammar.specs.Byte.{small, capital, digit, goes_on, starts_variable, is_blank, is_percent, is_line_end, is_bracket}
use Rattle.grammar.specs.Token.{after_stop}
use Rattle.grammar.specs.Front.{class}
use Rattle.grammar.specs.Syntax.{none, variable_then, Formula, Rule}
use Rattle.grammar.specs.Names.{book, name_list}
use Rattle.reading.specs.Reader.{read, refused, reading}
use Rattle.reading.proofs.ReadingLaws.{Accepted, reading-sound}

-- `feeds(X,Y) :- feeds(X,Z), pipe(Z,Y).`
abbrev p1 : List ℕ
p1 =
    102 ∷ 101 ∷ 101 ∷ 100 ∷ 115 ∷ 40 ∷ 88 ∷ 44 ∷ 89 ∷ 41 ∷ 32 ∷ 58 ∷ 45 ∷ 32 ∷ 102 ∷ 101 ∷ 101 ∷ 100 ∷ 115 ∷ 40 ∷ 88 ∷ 44 ∷ 90 ∷ 41 ∷ 44 ∷ 32 ∷ 112 ∷ 105
    ∷ 112 ∷ 101 ∷ 40 ∷ 90 ∷ 44 ∷ 89 ∷ 41 ∷ 46 ∷ []

abbrev feeds : List ℕ → List ℕ → Formula
feeds v w = record { symbol = 102 ∷ 101 ∷ 101 ∷ 100 ∷ 115 ∷ []; arguments = variable_then v (variable_then w none) }

abbrev pipe : List ℕ → List ℕ → Formula
pipe v w = record { symbol = 112 ∷ 105 ∷ 112 ∷ 101 ∷ []; arguments = variable_then v (variable_then w none) }

abbrev X : List ℕ
X = 88 ∷ []

abbrev Y : List ℕ
Y = 89 ∷ []

abbrev Z : List ℕ
Z = 90 ∷ []

abbrev p1_rules : List Rule
p1_rules = record { head = feeds X Y; body = feeds X Z ∷ pipe Z Y ∷ [] } ∷ []

pub p1-read : reading p1 ≡ read p1_rules
unfolding reading class small capital digit goes_on starts_variable is_blank is_percent is_line_end is_bracket after_stop
p1-read = refl

pub p1-accepted : Accepted p1 p1_rules
p1-accepted = reading-sound p1 p1_rules p1-read

pub p1_book : book p1_rules ≡
    record {
      head = sym (predicate 0 2) ∷ var 0 ∷ var 1 ∷ [];
      body = (sym (predicate 0 2) ∷ var 0 ∷ var 2 ∷ []) ∷ (sym (predicate 1 2) ∷ var 2 ∷ var 1 ∷ []) ∷ [];
    }
    ∷ []
p1_book = refl

pub p1_names : name_list p1_rules ≡ 4 ∷ 0 ∷ 0 ∷ 5 ∷ 102 ∷ 101 ∷ 101 ∷ 100 ∷ 115 ∷ 4 ∷ 0 ∷ 1 ∷ 4 ∷ 112 ∷ 105 ∷ 112 ∷ 101 ∷ []
p1_names = refl

-- A text, and the code and the place of its refusal
pub record Case : Type 0 where
  pub text : List ℕ
  pub code : ℕ
  pub place : ℕ

abbrev case : List ℕ → ℕ → ℕ → Case
case text code place = record { text = text; code = code; place = place }

abbrev pub AllRefused : List Case → Type 0
AllRefused [] = Unit {0}
AllRefused (c ∷ cs) = (reading c.text ≡ refused c.code c.place) × AllRefused cs

-- 33 times `p`
abbrev long_name : List ℕ
long_name = 112 ∷ 112 ∷ 112 ∷ 112 ∷ 112 ∷ 112 ∷ 112 ∷ 112 ∷ 112 ∷ 112 ∷ 112 ∷ 112 ∷ 112 ∷ 112 ∷ 112 ∷ 112 ∷ 112 ∷ 112 ∷ 112 ∷ 112 ∷ 112 ∷ 112 ∷ 112 ∷ 112 ∷ 112 ∷ 112 ∷ 112 ∷ 112 ∷ 112 ∷ 112 ∷ 112 ∷ 112 ∷ 112 ∷ []

abbrev pub cases : List Case
cases =
    -- `p`: the text ends early
    case (112 ∷ []) 41 1
    -- `p:q.`, `p.q`: the second byte is as it may be, the third is not
    ∷ case (112 ∷ 58 ∷ 113 ∷ 46 ∷ []) 41 2
    ∷ case (112 ∷ 46 ∷ 113 ∷ []) 41 2
    -- `q:- :-p.`: no `:-` may stand here
    ∷ case (113 ∷ 58 ∷ 45 ∷ 32 ∷ 58 ∷ 45 ∷ 112 ∷ 46 ∷ []) 41 4
    -- `p (a).`: a blank before the bracket
    ∷ case (112 ∷ 32 ∷ 40 ∷ 97 ∷ 41 ∷ 46 ∷ []) 41 2
    -- `X.`: a variable is no formula
    ∷ case (88 ∷ 46 ∷ []) 41 0
    -- `p().`: a bracket wants an argument
    ∷ case (112 ∷ 40 ∷ 41 ∷ 46 ∷ []) 41 2
    -- a ninth argument
    ∷ case (112 ∷ 40 ∷ 97 ∷ 44 ∷ 98 ∷ 44 ∷ 99 ∷ 44 ∷ 100 ∷ 44 ∷ 101 ∷ 44 ∷ 102 ∷ 44 ∷ 103 ∷ 44 ∷ 104 ∷ 44 ∷ 95 ∷ 48 ∷ 41 ∷ 46 ∷ []) 4 18
    -- a seventeenth formula in a body
    ∷ case (112 ∷ 58 ∷ 45 ∷ 113 ∷ 44 ∷ 113 ∷ 44 ∷ 113 ∷ 44 ∷ 113 ∷ 44 ∷ 113 ∷ 44 ∷ 113 ∷ 44 ∷ 113 ∷ 44 ∷ 113 ∷ 44 ∷ 113 ∷ 44 ∷ 113 ∷ 44 ∷ 113 ∷ 44 ∷ 113 ∷ 44 ∷ 113 ∷ 44 ∷ 113 ∷ 44 ∷ 113 ∷ 44 ∷ 113 ∷ 44 ∷ 113 ∷ 46 ∷ []) 4 35
    -- a name of 33 bytes
    ∷ case (long_name) 42 32
    ∷ []

pub cases-refused : AllRefused cases
unfolding reading class small capital digit goes_on starts_variable is_blank is_percent is_line_end is_bracket after_stop
cases-refused = (refl, (refl, (refl, (refl, (refl, (refl, (refl, (refl, (refl, (refl, tt))))))))))
