-- The names of a text or a query that is read are of C-13's form.
use Rattle.std.specs.Prelude.{ℕ, List, [], ◌∷◌, ◌++◌}
use Rattle.std.proofs.Common.{sym as inv, subst}
use Rattle.grammar.specs.Byte.{IsName, IsVariable}
use Rattle.grammar.specs.Token.{Token, name, variable, opening, closing, comma, arrow, stop, Piece, token, blank, comment, Spaced, tokens}
use Rattle.grammar.specs.Syntax.{Terms, none, variable_then, name_then, Formula, Rule, Turn, first, later, arguments_then, body_then, written}
use Rattle.grammar.specs.Names.{Sort, Spot, variable_spot, symbol_spot, spots_then, formula_spots, formulas_spots, text_spots, names}
use Rattle.grammar.specs.Reading.{Small, SmallFormulas, SmallRules, Writes}
use Rattle.grammar.specs.Query.{End, more_then, ends_with, asked, Asks, SizedQuery}
use Rattle.printing.proofs.SpacingLaws.{Right, RightFormulas, RightRules}
use Rattle.namelist.specs.Table.{EachFit}
use Rattle.namelist.specs.Growing.{AllSpots, fit-after}

-- Words are spelt rightly

abbrev Word : Token → Type 0
Word (name w) = IsName w
Word (variable w) = IsVariable w
Word opening = Unit {0}
Word closing = Unit {0}
Word comma = Unit {0}
Word arrow = Unit {0}
Word stop = Unit {0}

abbrev Words : List Token → Type 0
Words [] = Unit {0}
Words (t ∷ ts) = Word t × Words ts

words-spaced : (ps : List Piece) → Spaced ps → Words (tokens ps)
words-spaced [] h = tt
words-spaced (token (name w) ∷ ps) h = (h.0.0, words-spaced ps h.1)
words-spaced (token (variable w) ∷ ps) h = (h.0.0, words-spaced ps h.1)
words-spaced (token opening ∷ ps) h = (tt, words-spaced ps h.1)
words-spaced (token closing ∷ ps) h = (tt, words-spaced ps h.1)
words-spaced (token comma ∷ ps) h = (tt, words-spaced ps h.1)
words-spaced (token arrow ∷ ps) h = (tt, words-spaced ps h.1)
words-spaced (token stop ∷ ps) h = (tt, words-spaced ps h.1)
words-spaced (blank b ∷ ps) h = words-spaced ps h.1
words-spaced (comment c ∷ ps) h = words-spaced ps h.1

arguments-right : (k : Turn) (ts : Terms) (r : List Token) → Words (arguments_then k ts r) → Right ts × Words r
arguments-right first none r h = (tt, h)
arguments-right later none r h = (tt, h.1)
arguments-right first (variable_then w ts) r h = let q = arguments-right later ts r h.1.1 in ((h.1.0, q.0), q.1)
arguments-right later (variable_then w ts) r h = let q = arguments-right later ts r h.1.1 in ((h.1.0, q.0), q.1)
arguments-right first (name_then w own ts) r h =
    let p = arguments-right first own (arguments_then later ts r) h.1.1 in
    let q = arguments-right later ts r p.1 in
    ((h.1.0, p.0, q.0), q.1)
arguments-right later (name_then w own ts) r h =
    let p = arguments-right first own (arguments_then later ts r) h.1.1 in
    let q = arguments-right later ts r p.1 in
    ((h.1.0, p.0, q.0), q.1)

body-right : (t : Token) (fs : List Formula) (r : List Token) → Words (body_then t fs r) → RightFormulas fs × Words r
body-right t [] r h = (tt, h.1)
body-right t (f ∷ fs) r h =
    let p = arguments-right first f.arguments (body_then comma fs r) h.1.1 in
    let q = body-right comma fs r p.1 in
    ((record { symbol = h.1.0; arguments = p.0 }, q.0), q.1)

written-right : (cs : List Rule) → Words (written cs) → RightRules cs
written-right [] h = tt
written-right (c ∷ cs) h =
    let p = arguments-right first c.head.arguments (body_then arrow c.body (written cs)) h.1 in
    let q = body-right arrow c.body (written cs) p.1 in
    ((record { symbol = h.0; arguments = p.0 }, q.0), written-right cs q.1)

pub writes-right : {text : List ℕ} (cs : List Rule) → Writes text cs → RightRules cs
writes-right cs w = written-right cs (subst Words (inv w.listed) (words-spaced w.pieces w.spaced))

more-right : (fs : List Formula) (r : List Token) → Words (more_then fs r) → RightFormulas fs
more-right [] r h = tt
more-right (f ∷ fs) r h = let p = arguments-right first f.arguments (more_then fs r) h.1.1 in (record { symbol = h.1.0; arguments = p.0 }, more-right fs r p.1)

asked-right : (fs : List Formula) (z : End) → Words (asked fs z) → RightFormulas fs
asked-right [] z h = tt
asked-right (f ∷ fs) z h =
    let p = arguments-right first f.arguments (more_then fs (ends_with z)) h.1 in (record { symbol = h.0; arguments = p.0 }, more-right fs (ends_with z) p.1)

-- Names of spots

spots-append : (d e : List Spot) → AllSpots d → AllSpots e → AllSpots (d ++ e)
spots-append [] e p q = q
spots-append (variable_spot w ∷ d) e p q = spots-append d e p q
spots-append (symbol_spot k w n ∷ d) e p q = (p.0, spots-append d e p.1 q)

terms-fit : (ts : Terms) (r : List Spot) → Right ts → Small ts → AllSpots r → AllSpots (spots_then ts r)
terms-fit none r h s q = q
terms-fit (variable_then w ts) r h s q = terms-fit ts r h.1 s q
terms-fit (name_then w own ts) r h s q =
    (record { spelt = h.0; short = s.0 }, terms-fit own (spots_then ts r) h.1 s.2 (terms-fit ts r h.2 s.3 q))

formulas-fit : (fs : List Formula) → RightFormulas fs → SmallFormulas fs → AllSpots (formulas_spots fs)
formulas-fit [] h s = tt
formulas-fit (f ∷ fs) h s =
    spots-append (formula_spots f) (formulas_spots fs)
    (record { spelt = h.0.symbol; short = s.0.short }, terms-fit f.arguments [] h.0.arguments s.0.small tt)
    (formulas-fit fs h.1 s.1)

text-fit : (cs : List Rule) → RightRules cs → SmallRules cs → AllSpots (text_spots cs)
text-fit [] h s = tt
text-fit (c ∷ cs) h s = spots-append (formulas_spots (c.head ∷ c.body)) (text_spots cs) (formulas-fit (c.head ∷ c.body) h.0 s.0.formulas) (text-fit cs h.1 s.1)

pub names-fit : (cs : List Rule) (k : Sort) → RightRules cs → SmallRules cs → EachFit (names cs k)
names-fit cs k h s = fit-after k [] (text_spots cs) tt (text-fit cs h s)

pub asks-fit : {text : List ℕ} (fs : List Formula) → Asks text fs → SizedQuery fs → AllSpots (formulas_spots fs)
asks-fit fs a s = formulas-fit fs (asked-right fs a.ending (subst Words (inv a.spelt.listed) (words-spaced a.spelt.pieces a.spelt.spaced))) s.formulas
