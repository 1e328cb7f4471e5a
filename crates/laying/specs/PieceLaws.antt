-- A query's text piece by piece.
use Rattle.std.specs.Prelude.{ℕ, suc, ◌≡◌, refl, Bool, false, List, [], ◌∷◌, length}
use Rattle.std.proofs.Common.{sym as inv, ap, ◌∙◌, true≢false, arith, eqb-true, ne_eqb}
use Rattle.grammar.specs.Byte.{is_line_end, is_bracket, Next, NextNot}
use Rattle.grammar.specs.Token.{Token, name, variable, opening, closing, comma, arrow, stop, Piece, token, blank, comment, bytes, Spaced, tokens}
use Rattle.grammar.specs.Syntax.{Terms, none, variable_then, name_then, Formula, Turn, first, later, arguments_then}
use Rattle.grammar.specs.Names.{Spot, formulas_spots, spots_then}
use Rattle.grammar.specs.Query.{Given, more_then, ends_with, End, open_end, full_stop, asked}
use Rattle.asking.specs.Accepted.{Accepted}
use Rattle.laying.specs.Page.{Page, page, blank_page, step, opens, run, bracketed, over}
use Rattle.laying.specs.PageLaws.{spots_all, formulas_bytes, asked-laid}
use Rattle.laying.specs.NodeLaws.{spots-more}

-- "a bracket follows its name at once": behind blanks and comments none stands
not_line : (s : List ℕ) → Next is_line_end s → NextNot is_bracket s
unfolding is_line_end is_bracket
not_line [] h = tt
not_line (b ∷ s) h = let q = eqb-true b 10 h in ne_eqb b 40 (λ (e : b ≡ 40). omega arith)

not-opening : (x : List ℕ) → NextNot is_bracket (40 ∷ x) → ⊥
unfolding is_bracket
not-opening x h = true≢false h

shut-behind : (ps : List Piece) → Spaced ps → NextNot is_bracket (bytes ps) → opens (tokens ps) ≡ false
shut-behind [] s h = refl
shut-behind (token (name w) ∷ ps) s h = refl
shut-behind (token (variable w) ∷ ps) s h = refl
shut-behind (token opening ∷ ps) s h = absurd (not-opening (bytes ps) h)
shut-behind (token closing ∷ ps) s h = refl
shut-behind (token comma ∷ ps) s h = refl
shut-behind (token arrow ∷ ps) s h = refl
shut-behind (token stop ∷ ps) s h = refl
shut-behind (blank b ∷ ps) s h = shut-behind ps s.1 s.0.1
shut-behind (comment c ∷ ps) s h = shut-behind ps s.1 (not_line (bytes ps) s.0.1)

opens_one : (t : Token) (ts : List Token) → opens (t ∷ []) ≡ opens (t ∷ ts)
opens_one (name w) ts = refl
opens_one (variable w) ts = refl
opens_one opening ts = refl
opens_one closing ts = refl
opens_one comma ts = refl
opens_one arrow ts = refl
opens_one stop ts = refl

bracketed-is : (ps : List Piece) → Spaced ps → bracketed ps ≡ opens (tokens ps)
bracketed-is [] s = refl
bracketed-is (token t ∷ ps) s = opens_one t (tokens ps)
bracketed-is (blank b ∷ ps) s = inv (shut-behind ps s.1 s.0.1)
bracketed-is (comment c ∷ ps) s = inv (shut-behind ps s.1 (not_line (bytes ps) s.0.1))

module _ (g : Given) where
  over-run : (s : Page) (ps : List Piece) → Spaced ps → over g s ps ≡ run g s (tokens ps)
  over-run s [] h = refl
  over-run s (token t ∷ ps) h = ap (λ (b : Bool). over g (step g s t b) ps) (bracketed-is ps h.1) ∙ over-run (step g s t (opens (tokens ps))) ps h.1
  over-run s (blank b ∷ ps) h = over-run s ps h.1
  over-run s (comment c ∷ ps) h = over-run s ps h.1

  -- what the pieces of a query's text add
  pub text-laid : {text : List ℕ} {fs : List Formula} (a : Accepted text fs) → over g blank_page a.asks.spelt.pieces ≡ page (formulas_bytes g [] fs) [] (spots_all [] fs) (length fs)
  text-laid {text} {fs} a =
      over-run blank_page a.asks.spelt.pieces a.asks.spelt.spaced
      ∙ ap (run g blank_page) (inv a.asks.spelt.listed)
      ∙ asked-laid g fs a.asks.ending a.sized.formulas

-- Words: names and variables

abbrev pub word_count : List Token → ℕ
word_count [] = 0
word_count (name w ∷ ts) = suc (word_count ts)
word_count (variable w ∷ ts) = suc (word_count ts)
word_count (opening ∷ ts) = word_count ts
word_count (closing ∷ ts) = word_count ts
word_count (comma ∷ ts) = word_count ts
word_count (arrow ∷ ts) = word_count ts
word_count (stop ∷ ts) = word_count ts

arguments-count : (k : Turn) (ts : Terms) (r : List Token) (e : List Spot) → word_count r ≡ length e → word_count (arguments_then k ts r) ≡ length (spots_then ts e)
arguments-count first none r e h = h
arguments-count later none r e h = h
arguments-count first (variable_then w ts) r e h = ap suc (arguments-count later ts r e h)
arguments-count later (variable_then w ts) r e h = ap suc (arguments-count later ts r e h)
arguments-count first (name_then w own ts) r e h = ap suc (arguments-count first own (arguments_then later ts r) (spots_then ts e) (arguments-count later ts r e h))
arguments-count later (name_then w own ts) r e h = ap suc (arguments-count first own (arguments_then later ts r) (spots_then ts e) (arguments-count later ts r e h))

ends-count : (z : End) → word_count (ends_with z) ≡ 0
ends-count open_end = refl
ends-count full_stop = refl

more-count : (fs : List Formula) (z : End) → word_count (more_then fs (ends_with z)) ≡ length (formulas_spots fs)
more-count [] z = ends-count z
more-count (f ∷ fs) z =
    ap suc (arguments-count first f.arguments (more_then fs (ends_with z)) (formulas_spots fs) (more-count fs z) ∙ ap length (inv (spots-more f.arguments [] (formulas_spots fs))))

pub asked-count : (fs : List Formula) (z : End) → word_count (asked fs z) ≡ length (formulas_spots fs)
asked-count [] z = refl
asked-count (f ∷ fs) z = more-count (f ∷ fs) z
