-- Queries as text, and texts that are refused, by computing.
use Rattle.std.specs.Prelude.{ℕ, ◌≡◌, refl, List, [], ◌∷◌}
use Rattle.grammar.specs.Byte.{small, capital, digit, goes_on, starts_variable, is_blank, is_percent, is_line_end, is_bracket}
use Rattle.grammar.specs.Token.{after_stop}
use Rattle.grammar.specs.Front.{class}
use Rattle.grammar.specs.Syntax.{none, variable_then, name_then, Formula}
use Rattle.asking.specs.Asking.{Outcome, read, refused, asking}

pub record Case : Type 0 where
  pub text : List ℕ
  pub outcome : Outcome

abbrev case : List ℕ → Outcome → Case
case text o = record { text = text; outcome = o }

abbrev pub Hold : List Case → Type 0
Hold [] = Unit {0}
Hold (x ∷ xs) = (asking x.text ≡ x.outcome) × Hold xs

-- `p(a,X)`
abbrev p : Formula
p = record { symbol = 112 ∷ []; arguments = name_then (97 ∷ []) none (variable_then (88 ∷ []) none) }

abbrev q : Formula
q = record { symbol = 113 ∷ []; arguments = none }

abbrev pub table : List Case
table =
    -- no text; a comment; a lone full stop
    case [] (read [])
    ∷ case (37 ∷ 46 ∷ []) (read [])
    ∷ case (46 ∷ []) (refused 41 0)
    -- `p(a,X)`, `p(a,X).`, `p(a,X), q. `
    ∷ case (112 ∷ 40 ∷ 97 ∷ 44 ∷ 88 ∷ 41 ∷ []) (read (p ∷ []))
    ∷ case (112 ∷ 40 ∷ 97 ∷ 44 ∷ 88 ∷ 41 ∷ 46 ∷ []) (read (p ∷ []))
    ∷ case (112 ∷ 40 ∷ 97 ∷ 44 ∷ 88 ∷ 41 ∷ 44 ∷ 32 ∷ 113 ∷ 46 ∷ 32 ∷ []) (read (p ∷ q ∷ []))
    -- `q,`, `q. q`, `q.q`, `q :- p`, `X`, `p()`, `p(a`
    ∷ case (113 ∷ 44 ∷ []) (refused 41 2)
    ∷ case (113 ∷ 46 ∷ 32 ∷ 113 ∷ []) (refused 41 3)
    ∷ case (113 ∷ 46 ∷ 113 ∷ []) (refused 41 2)
    ∷ case (113 ∷ 32 ∷ 58 ∷ 45 ∷ 32 ∷ 112 ∷ []) (refused 41 2)
    ∷ case (88 ∷ []) (refused 41 0)
    ∷ case (112 ∷ 40 ∷ 41 ∷ []) (refused 41 2)
    ∷ case (112 ∷ 40 ∷ 97 ∷ []) (refused 41 3)
    -- `q(_,_,_,_,_,_,_,_,X)`: the 9th argument
    ∷ case (113 ∷ 40 ∷ 95 ∷ 44 ∷ 95 ∷ 44 ∷ 95 ∷ 44 ∷ 95 ∷ 44 ∷ 95 ∷ 44 ∷ 95 ∷ 44 ∷ 95 ∷ 44 ∷ 95 ∷ 44 ∷ 88 ∷ 41 ∷ []) (refused 14 18)
    ∷ []

pub all_hold : Hold table
unfolding asking class small capital digit goes_on starts_variable is_blank is_percent is_line_end is_bracket after_stop
all_hold = (refl, (refl, (refl, (refl, (refl, (refl, (refl, (refl, (refl, (refl, (refl, (refl, (refl, (refl, tt))))))))))))))
