-- Texts and what they say: a comment, a lone `_` twice, one name of all three sorts, a blank before a bracket.
use Rattle.std.specs.Prelude.{ℕ, ◌≡◌, refl, List, [], ◌∷◌, length}
use Rattle.std.proofs.Common.{sym as inv, ap, ◌∙◌, true≢false, arith}
use Rattle.terms.specs.Node.{constant, compound, predicate, var, sym}
use Rattle.grammar.specs.Byte.{small, capital, digit, goes_on, starts_variable, is_blank, is_percent, is_line_end, is_bracket}
use Rattle.grammar.specs.Token.{Token, name, variable, opening, closing, stop, token, blank, comment, after_stop, Spells}
use Rattle.grammar.specs.Front.{class, pieces_of}
use Rattle.grammar.specs.TokenLaws.{pieces_are}
use Rattle.grammar.specs.Syntax.{none, variable_then, name_then, Rule}
use Rattle.grammar.specs.Names.{book, name_list}
use Rattle.grammar.specs.Reading.{Writes}

-- `f(f(a),_,X,_,f):-a,f(X).`
abbrev f : List ℕ
f = 102 ∷ []

abbrev a : List ℕ
a = 97 ∷ []

abbrev X : List ℕ
X = 88 ∷ []

abbrev lone : List ℕ
lone = 95 ∷ []

abbrev sorts : List Rule
sorts =
    record {
      head = record { symbol = f; arguments = name_then f (name_then a none none) (variable_then lone (variable_then X (variable_then lone (name_then f none none)))) };
      body = record { symbol = a; arguments = none } ∷ record { symbol = f; arguments = variable_then X none } ∷ [];
    }
    ∷ []

-- "separately for the three sorts of symbol", "each lone `_` a new variable"
pub sorts-book : book sorts ≡
    record {
      head = sym (predicate 0 5) ∷ sym (compound 0 1) ∷ sym (constant 0) ∷ var 0 ∷ var 1 ∷ var 2 ∷ sym (constant 1) ∷ [];
      body = (sym (predicate 1 0) ∷ []) ∷ (sym (predicate 0 1) ∷ var 1 ∷ []) ∷ [];
    }
    ∷ []
sorts-book = refl

pub sorts-names : name_list sorts ≡
    2 ∷ 0 ∷ 0 ∷ 1 ∷ 97 ∷ 2 ∷ 0 ∷ 1 ∷ 1 ∷ 102 ∷ 3 ∷ 0 ∷ 0 ∷ 1 ∷ 102 ∷ 4 ∷ 0 ∷ 0 ∷ 1 ∷ 102 ∷ 4 ∷ 0 ∷ 1 ∷ 1 ∷ 97 ∷ []
sorts-names = refl

-- `f(X) .`, a comment with CR in it, LF, `a.`
abbrev commented : List ℕ
commented = 102 ∷ 40 ∷ 88 ∷ 41 ∷ 32 ∷ 46 ∷ 37 ∷ 13 ∷ 41 ∷ 10 ∷ 97 ∷ 46 ∷ []

pub commented-writes : Writes commented
    (record { head = record { symbol = f; arguments = variable_then X none }; body = [] } ∷ record { head = record { symbol = a; arguments = none }; body = [] } ∷ [])
unfolding small capital digit goes_on starts_variable is_blank is_percent is_line_end is_bracket after_stop
commented-writes =
    record {
      pieces =
          token (name f)
          ∷ token opening
          ∷ token (variable X)
          ∷ token closing
          ∷ blank 32
          ∷ token stop
          ∷ comment (13 ∷ 41 ∷ [])
          ∷ blank 10
          ∷ token (name a)
          ∷ token stop
          ∷ [];
      spaced =
          (((refl, tt), refl), (tt, (((refl, tt), refl), (tt, ((refl, refl), (refl, (((refl, (refl, tt)), refl), ((refl, refl), (((refl, tt), refl), (tt, tt))))))))));
      whole = refl;
      listed = refl;
    }

-- `f (a).`: "blanks between any two tokens but a name and its bracket"
abbrev parted : List ℕ
parted = 102 ∷ 32 ∷ 40 ∷ 97 ∷ 41 ∷ 46 ∷ []

pub parted-refused : {ts : List Token} → Spells parted ts → ⊥
unfolding class small capital digit goes_on starts_variable is_blank is_percent is_line_end is_bracket after_stop
parted-refused s =
    let p : s.pieces ≡ pieces_of 6 parted =
    inv (pieces_are 6 s.pieces s.spaced (omega (arith, ap length s.whole))) ∙ ap (pieces_of 6) (inv s.whole) in
    let q = rw p at s.spaced in
    true≢false q.1.0.1
