-- The tokens of any rules are taken, whatever their sizes.
use Rattle.std.specs.Prelude.{ℕ, ◌≡◌, refl, false, List, [], ◌∷◌}
use Rattle.std.proofs.Common.{sym as inv, ap, ◌∙◌}
use Rattle.grammar.specs.Token.{Token, name, variable, comma, arrow, Piece, token, blank, comment, bytes, Spaced, tokens}
use Rattle.grammar.specs.Syntax.{Terms, none, variable_then, name_then, Formula, Rule, first, later, before, arguments_then, formula_then, body_then, written}
use Rattle.grammar.specs.Reading.{Writes}
use Rattle.reading.specs.Part.{Done, none_yet, and_variable, and_name, Part, formulas, inside, Mode, between, expects, named, complete, State, state, start}
use Rattle.reading.specs.Part.{terms_of, put, rule_of, Taken, taken, wrong, is_opening, next, settle}
use Rattle.reading.specs.PrintLaws.{turn}
use Rattle.reading.specs.RunLaws.{Shut, Unopened, unopened, line_end_shut, settle-between}
use Rattle.reading.proofs.CompleteLaws.{opened, later-shut, body-shut, joint}
use Rattle.reading.proofs.Stop.{and_then, behind_pieces}
use Rattle.reading.proofs.Whole.{goes}

-- a name that stands alone, before what is no bracket
settle-next : (s : State) (t : Token) → is_opening t ≡ false → next (settle s).rules (settle s).part (settle s).mode t ≡ next s.rules s.part s.mode t
settle-next s t h = same s.mode
  where
    same : (m : Mode) → next (settle (state s.rules s.part m)).rules (settle (state s.rules s.part m)).part (settle (state s.rules s.part m)).mode t ≡ next s.rules s.part m t
    same between = refl
    same expects = refl
    same (named w) = rw h
    same complete = refl

settle_goes : (s : State) (ts : List Token) → Shut ts → goes (settle s) ts ≡ goes s ts
settle_goes s [] h = absurd h
settle_goes s (t ∷ ts) h = ap (λ (n : Taken). and_then n (λ m. goes m ts)) (settle-next s t h)

none-goes : (cs : List Rule) (q : Part) (w : List ℕ) (d : Done) (r : List Token) → Shut r →
    goes (opened (turn d) cs q w d) (arguments_then (turn d) none r) ≡ goes (state cs (put q w (terms_of d none)) complete) r
none-goes cs q w none_yet r h = inv (settle_goes (state cs q (named w)) r h)
none-goes cs q w (and_variable d v) r h = refl
none-goes cs q w (and_name d v own) r h = refl

sign-goes : (cs : List Rule) (q : Part) (w : List ℕ) (d : Done) (r : List Token) → goes (opened (turn d) cs q w d) (before (turn d) ∷ r) ≡ goes (state cs (inside q w d) expects) r
sign-goes cs q w none_yet r = refl
sign-goes cs q w (and_variable d v) r = refl
sign-goes cs q w (and_name d v own) r = refl

arguments-goes : (ts : Terms) (cs : List Rule) (q : Part) (w : List ℕ) (d : Done) (r : List Token) → Shut r →
    goes (opened (turn d) cs q w d) (arguments_then (turn d) ts r) ≡ goes (state cs (put q w (terms_of d ts)) complete) r
arguments-goes none cs q w d r h = none-goes cs q w d r h
arguments-goes (variable_then v ts) cs q w d r h =
    sign-goes cs q w d (variable v ∷ arguments_then later ts r) ∙ arguments-goes ts cs q w (and_variable d v) r h
arguments-goes (name_then v own ts) cs q w d r h =
    sign-goes cs q w d (name v ∷ arguments_then first own (arguments_then later ts r))
    ∙ arguments-goes own cs (inside q w d) v none_yet (arguments_then later ts r) (later-shut ts r)
    ∙ arguments-goes ts cs q w (and_name d v own) r h

joint-goes : (cs : List Rule) (f : Formula) (fs : List Formula) (r : List Token) → goes (state cs (formulas (f ∷ fs)) complete) (joint fs ∷ r) ≡ goes (state cs (formulas (f ∷ fs)) expects) r
joint-goes cs f [] r = refl
joint-goes cs f (h ∷ fs) r = refl

body-goes : (gs : List Formula) (cs : List Rule) (f : Formula) (fs : List Formula) (r : List Token) →
    goes (state cs (formulas (f ∷ fs)) complete) (body_then (joint fs) gs r) ≡ goes (state (rule_of f fs gs ∷ cs) (formulas []) between) r
body-goes [] cs f fs r = refl
body-goes (g ∷ gs) cs f fs r =
    joint-goes cs f fs (formula_then g (body_then comma gs r))
    ∙ arguments-goes g.arguments cs (formulas (f ∷ fs)) g.symbol none_yet (body_then comma gs r) (body-shut comma gs r refl)
    ∙ body-goes gs cs g (f ∷ fs) r

rule-goes : (c : Rule) (cs : List Rule) (r : List Token) →
    goes (state cs (formulas []) between) (formula_then c.head (body_then arrow c.body r)) ≡ goes (state (c ∷ cs) (formulas []) between) r
rule-goes c cs r =
    arguments-goes c.head.arguments cs (formulas []) c.head.symbol none_yet (body_then arrow c.body r) (body-shut arrow c.body r refl)
    ∙ body-goes c.body cs c.head [] r

abbrev pub turned : List Rule → List Rule → List Rule
turned cs [] = cs
turned cs (d ∷ ds) = turned (d ∷ cs) ds

text-goes : (ds cs : List Rule) → goes (state cs (formulas []) between) (written ds) ≡ taken (state (turned cs ds) (formulas []) between)
text-goes [] cs = refl
text-goes (d ∷ ds) cs = rule-goes d cs (written ds) ∙ text-goes ds (d ∷ cs)

-- Pieces

gap_goes : (s e : State) (ts : List Token) → Unopened ts → goes s ts ≡ taken e → e.mode ≡ between → goes (settle s) ts ≡ taken e
gap_goes s e [] h g b = let q : s ≡ e = cc in ap taken (settle-between s (ap (λ (z : State). z.mode) q ∙ b) ∙ q)
gap_goes s e (t ∷ ts) h g b = settle_goes s (t ∷ ts) h ∙ g

pieces-goes : (ps : List Piece) (s e : State) → Spaced ps → goes s (tokens ps) ≡ taken e → e.mode ≡ between → behind_pieces s ps ≡ taken e
pieces-goes [] s e sp g b = g
pieces-goes (token t ∷ ps) s e sp g b = by (next s.rules s.part s.mode t) (λ n q. pieces-goes ps n e sp.1 q b) g
  where
    by : (k : Taken) → ((n : State) → goes n (tokens ps) ≡ taken e → behind_pieces n ps ≡ taken e) → and_then k (λ n. goes n (tokens ps)) ≡ taken e → and_then k (λ n. behind_pieces n ps) ≡ taken e
    by (taken n) more g = more n g
    by wrong more g = g
pieces-goes (blank c ∷ ps) s e sp g b = pieces-goes ps (settle s) e sp.1 (gap_goes s e (tokens ps) (unopened ps sp.1 sp.0.1) g b) b
pieces-goes (comment c ∷ ps) s e sp g b = pieces-goes ps (settle s) e sp.1 (gap_goes s e (tokens ps) (unopened ps sp.1 (line_end_shut (bytes ps) sp.0.1)) g b) b

-- every text of the grammar is gone through
pub writes-goes : {text : List ℕ} (cs : List Rule) (w : Writes text cs) → behind_pieces start w.pieces ≡ taken (state (turned [] cs) (formulas []) between)
writes-goes cs w = pieces-goes w.pieces start (state (turned [] cs) (formulas []) between) w.spaced (ap (goes start) (inv w.listed) ∙ text-goes cs []) refl
