-- The reader goes through a text's tokens as through its pieces.
use Rattle.std.specs.Prelude.{ℕ, zero, suc, ◌+◌, ◌<◌, ◌≡◌, refl, false, List, [], ◌∷◌, length}
use Rattle.std.proofs.Common.{sym as inv, ap, ◌∙◌, true≢false, arith, eqb-true, ne_eqb, length-append}
use Rattle.grammar.specs.Byte.{is_bracket, is_line_end, Next, NextNot}
use Rattle.grammar.specs.Token.{Token, name, variable, opening, closing, comma, arrow, stop, Piece, token, blank, comment, spelt, bytes, Spaced, tokens}
use Rattle.grammar.specs.TokenLaws.{front-is, fits-stays, spelt-long}
use Rattle.grammar.specs.Front.{Front, front, front_of}
use Rattle.grammar.specs.Syntax.{Rule}
use Rattle.reading.specs.Part.{Mode, between, expects, named, complete, State, state, rules_of, is_opening, settle}
use Rattle.reading.specs.Reader.{Judged, going, judge_token, judge, read, ended, go_on, from_front, walk}

-- each token is taken
pub data Runs : State → List Token → State → Type 0 where
  run_end : {s : State} → Runs s [] s
  run_step : {s n e : State} {t : Token} {ts : List Token} → ((at : ℕ) → judge_token s at t ≡ going n) → Runs n ts e → Runs s (t ∷ ts) e

-- there is a token, and it is no bracket
abbrev pub Shut : List Token → Type 0
Shut [] = ⊥
Shut (t ∷ ts) = is_opening t ≡ false

-- A name that stands alone

pub settle-judge : (s : State) (t : Token) (at : ℕ) → is_opening t ≡ false → judge_token (settle s) at t ≡ judge_token s at t
settle-judge s t at h = same s.mode t h
  where
    same : (m : Mode) (t : Token) → is_opening t ≡ false → judge_token (settle (state s.rules s.part m)) at t ≡ judge_token (state s.rules s.part m) at t
    same between t h = refl
    same expects t h = refl
    same (named w) (name v) h = refl
    same (named w) (variable v) h = refl
    same (named w) opening h = absurd (true≢false h)
    same (named w) closing h = refl
    same (named w) comma h = refl
    same (named w) arrow h = refl
    same (named w) stop h = refl
    same complete t h = refl

pub settle-runs : {s e : State} {ts : List Token} → Shut ts → Runs s ts e → Runs (settle s) ts e
settle-runs {s} h (run_step {t = t} j r) = run_step (λ at. settle-judge s t at h ∙ j at) r
settle-runs {s = s} h run_end = elim h [ ]

pub unsettle_runs : (s : State) {e : State} {ts : List Token} → Shut ts → Runs (settle s) ts e → Runs s ts e
unsettle_runs s h (run_step {t = t} j r) = run_step (λ at. inv (settle-judge s t at h) ∙ j at) r
unsettle_runs s h run_end = elim h [ ]

-- Pieces

-- behind a blank no bracket is the next token
pub line_end_shut : (s : List ℕ) → Next is_line_end s → NextNot is_bracket s
unfolding is_line_end is_bracket
line_end_shut [] h = tt
line_end_shut (b ∷ s) h = ne_eqb b 40 (λ (q : b ≡ 40). omega (arith, eqb-true b 10 h))

abbrev pub Unopened : List Token → Type 0
Unopened [] = Unit {0}
Unopened (t ∷ ts) = is_opening t ≡ false

pub unopened : (ps : List Piece) → Spaced ps → NextNot is_bracket (bytes ps) → Unopened (tokens ps)
unfolding is_bracket
unopened [] s h = tt
unopened (token (name w) ∷ ps) s h = refl
unopened (token (variable w) ∷ ps) s h = refl
unopened (token opening ∷ ps) s h = h
unopened (token closing ∷ ps) s h = refl
unopened (token comma ∷ ps) s h = refl
unopened (token arrow ∷ ps) s h = refl
unopened (token stop ∷ ps) s h = refl
unopened (blank b ∷ ps) s h = unopened ps s.1 s.0.1
unopened (comment c ∷ ps) s h = unopened ps s.1 (line_end_shut (bytes ps) s.0.1)

pub settle-between : (s : State) → s.mode ≡ between → settle s ≡ s
settle-between s h = same s.mode h
  where
    same : (m : Mode) → m ≡ between → settle (state s.rules s.part m) ≡ state s.rules s.part m
    same between h = refl
    same expects h = refl
    same (named w) h = let z : ◌≡◌ {A = ℕ} 0 1 = cc in absurd (omega arith)
    same complete h = refl

gap_runs : {s e : State} (ts : List Token) → Unopened ts → Runs s ts e → e.mode ≡ between → Runs (settle s) ts e
gap_runs {s} [] h run_end b = rw (settle-between s b) run_end
gap_runs (t ∷ ts) h r b = settle-runs h r

pub walk-front : (k : ℕ) (s : State) (at : ℕ) (text : List ℕ) (p : Piece) (rest : List ℕ) → front_of text ≡ front p rest →
    walk (suc k) s at text ≡ go_on (judge s at p) (λ n. walk k n (at + length (spelt p)) rest)
walk-front k s at [] p rest e = let z : ◌≡◌ {A = ℕ} 0 1 = cc in absurd (omega arith)
walk-front k s at (b ∷ text) p rest e = ap (λ (f : Front). from_front s at f (walk k)) e

end_read : (cs : List Rule) (m : Mode) (at : ℕ) → m ≡ between → ended cs m at ≡ read (rules_of cs [])
end_read cs between at h = refl
end_read cs expects at h = let z : ◌≡◌ {A = ℕ} 0 1 = cc in absurd (omega arith)
end_read cs (named w) at h = let z : ◌≡◌ {A = ℕ} 0 1 = cc in absurd (omega arith)
end_read cs complete at h = let z : ◌≡◌ {A = ℕ} 0 1 = cc in absurd (omega arith)

pub walk-runs : (k : ℕ) (s : State) (at : ℕ) (ps : List Piece) (e : State) → Spaced ps → length (bytes ps) < k → Runs s (tokens ps) e → e.mode ≡ between →
    walk k s at (bytes ps) ≡ read (rules_of e.rules [])
walk-runs zero s at ps e sp l r b = absurd (omega arith)
walk-runs (suc k) s at [] e sp l run_end b = end_read s.rules s.mode at b
walk-runs (suc k) s at (token t ∷ ps) e sp l (run_step {n = n} j r) b =
    walk-front k s at (bytes (token t ∷ ps)) (token t) (bytes ps) (front-is (token t) (bytes ps) (fits-stays (token t) (bytes ps) sp.0))
    ∙ ap (λ (o : Judged). go_on o (λ m. walk k m (at + length (spelt (token t))) (bytes ps))) (j at)
    ∙ walk-runs k n (at + length (spelt (token t))) ps e sp.1 (omega (arith, l, length-append (spelt (token t)) (bytes ps), spelt-long (token t) (bytes ps) (fits-stays (token t) (bytes ps) sp.0))) r b
walk-runs (suc k) s at (blank c ∷ ps) e sp l r b =
    walk-front k s at (bytes (blank c ∷ ps)) (blank c) (bytes ps) (front-is (blank c) (bytes ps) (fits-stays (blank c) (bytes ps) sp.0))
    ∙ walk-runs k (settle s) (at + 1) ps e sp.1 (omega (arith, l)) (gap_runs (tokens ps) (unopened ps sp.1 sp.0.1) r b) b
walk-runs (suc k) s at (comment c ∷ ps) e sp l r b =
    walk-front k s at (bytes (comment c ∷ ps)) (comment c) (bytes ps) (front-is (comment c) (bytes ps) (fits-stays (comment c) (bytes ps) sp.0))
    ∙ walk-runs k (settle s) (at + length (spelt (comment c))) ps e sp.1 (omega (arith, l, length-append (spelt (comment c)) (bytes ps)))
    (gap_runs (tokens ps) (unopened ps sp.1 (line_end_shut (bytes ps) sp.0.1)) r b) b
