-- The reader comes to the state that stands behind pieces, and refuses a name or a variable there that is one too many.
use Rattle.std.specs.Prelude.{ℕ, zero, suc, ◌+◌, ◌<◌, ◌≡◌, refl, List, [], ◌∷◌, ◌++◌, length}
use Rattle.std.proofs.Common.{ap, ◌∙◌, append_assoc, arith, length-append}
use Rattle.grammar.specs.Byte.{is_bracket, NextNot}
use Rattle.grammar.specs.Token.{Token, name, variable, opening, closing, comma, arrow, stop, Piece, token, blank, comment, spelt, bytes, tokens}
use Rattle.grammar.specs.TokenLaws.{Stays, front-is, spelt-long}
use Rattle.reading.specs.Part.{State, settle}
use Rattle.reading.specs.Reader.{Judged, going, bad, judge_token, judge, refused, go_on, walk}
use Rattle.reading.specs.RunLaws.{Runs, run_end, run_step, settle-runs, Unopened, line_end_shut, walk-front}
use Rattle.reading.proofs.Stop.{SpacedTo}
use Rattle.reading.proofs.Viable.{first-stays}

-- behind a blank no bracket is the next token
unopened-to : (ps : List Piece) (left : List ℕ) → SpacedTo ps left → NextNot is_bracket (bytes ps ++ left) → Unopened (tokens ps)
unfolding is_bracket
unopened-to [] left s h = tt
unopened-to (token (name w) ∷ ps) left s h = refl
unopened-to (token (variable w) ∷ ps) left s h = refl
unopened-to (token opening ∷ ps) left s h = h
unopened-to (token closing ∷ ps) left s h = refl
unopened-to (token comma ∷ ps) left s h = refl
unopened-to (token arrow ∷ ps) left s h = refl
unopened-to (token stop ∷ ps) left s h = refl
unopened-to (blank b ∷ []) left s h = tt
unopened-to (blank b ∷ p ∷ ps) left s h = unopened-to (p ∷ ps) left s.1 s.0.1
unopened-to (comment c ∷ []) left s h = tt
unopened-to (comment c ∷ p ∷ ps) left s h = unopened-to (p ∷ ps) left s.1 (line_end_shut (bytes (p ∷ ps) ++ left) s.0.1)

blank-unopened : (c : ℕ) (ps : List Piece) (left : List ℕ) → SpacedTo (blank c ∷ ps) left → Unopened (tokens ps)
blank-unopened c [] left s = tt
blank-unopened c (p ∷ ps) left s = unopened-to (p ∷ ps) left s.1 s.0.1

comment-unopened : (c : List ℕ) (ps : List Piece) (left : List ℕ) → SpacedTo (comment c ∷ ps) left → Unopened (tokens ps)
comment-unopened c [] left s = tt
comment-unopened c (p ∷ ps) left s = unopened-to (p ∷ ps) left s.1 (line_end_shut (bytes (p ∷ ps) ++ left) s.0.1)

spaced-rest : (p : Piece) (ps : List Piece) (left : List ℕ) → SpacedTo (p ∷ ps) left → SpacedTo ps left
spaced-rest p [] left s = tt
spaced-rest p (q ∷ ps) left s = s.1

gap_runs : {s e : State} (ts : List Token) → Unopened ts → settle e ≡ e → Runs s ts e → Runs (settle s) ts e
gap_runs [] h q run_end = rw q run_end
gap_runs (t ∷ ts) h q r = settle-runs h r

-- the reader, behind pieces
pub record Comes (k : ℕ) (s : State) (at : ℕ) (ps : List Piece) (left : List ℕ) (e : State) : Type 0 where
  pub fuel : ℕ
  pub more : length left < fuel
  pub goes : walk k s at (bytes ps ++ left) ≡ walk fuel e (at + length (bytes ps)) left

piece-comes : (k : ℕ) (s n e : State) (at : ℕ) (p : Piece) (ps : List Piece) (left : List ℕ) → SpacedTo (p ∷ ps) left → judge s at p ≡ going n → Comes k n (at + length (spelt p)) ps left e →
    Comes (suc k) s at (p ∷ ps) left e
piece-comes k s n e at p ps left sp j c =
    record {
      fuel = c.fuel;
      more = c.more;
      goes =
          ap (walk (suc k) s at) (append_assoc (spelt p) (bytes ps) left)
          ∙ walk-front k s at (spelt p ++ (bytes ps ++ left)) p (bytes ps ++ left) (front-is p (bytes ps ++ left) (first-stays p ps left sp))
          ∙ ap (λ (o : Judged). go_on o (λ m. walk k m (at + length (spelt p)) (bytes ps ++ left))) j
          ∙ c.goes
          ∙ ap (λ (i : ℕ). walk c.fuel e i left) (let q : (at + length (spelt p)) + length (bytes ps) ≡ at + length (bytes (p ∷ ps)) = omega (arith, length-append (spelt p) (bytes ps)) in q);
    }

shorter : (k : ℕ) (p : Piece) (ps : List Piece) (left : List ℕ) → SpacedTo (p ∷ ps) left → length (bytes (p ∷ ps) ++ left) < suc k → length (bytes ps ++ left) < k
shorter k p ps left sp l =
    omega (arith, l, ap length (append_assoc (spelt p) (bytes ps) left), length-append (spelt p) (bytes ps ++ left), spelt-long p (bytes ps ++ left) (first-stays p ps left sp))

pub comes : (k : ℕ) (ps : List Piece) (s e : State) (at : ℕ) (left : List ℕ) → SpacedTo ps left → settle e ≡ e → length (bytes ps ++ left) < k → Runs s (tokens ps) e → Comes k s at ps left e
comes k [] s e at left sp q l run_end = record { fuel = k; more = l; goes = ap (λ (i : ℕ). walk k s i left) (let p : at ≡ at + 0 = omega arith in p) }
comes zero (p ∷ ps) s e at left sp q l r = absurd (omega arith)
comes (suc k) (token t ∷ ps) s e at left sp q l (run_step {n = n} j r) =
    piece-comes k s n e at (token t) ps left sp (j at) (comes k ps n e (at + length (spelt (token t))) left (spaced-rest (token t) ps left sp) q (shorter k (token t) ps left sp l) r)
comes (suc k) (blank c ∷ ps) s e at left sp q l r =
    piece-comes k s (settle s) e at (blank c) ps left sp refl
    (comes k ps (settle s) e (at + 1) left (spaced-rest (blank c) ps left sp) q (shorter k (blank c) ps left sp l) (gap_runs (tokens ps) (blank-unopened c ps left sp) q r))
comes (suc k) (comment c ∷ ps) s e at left sp q l r =
    piece-comes k s (settle s) e at (comment c) ps left sp refl
    (comes k ps (settle s) e (at + length (spelt (comment c))) left (spaced-rest (comment c) ps left sp) q (shorter k (comment c) ps left sp l)
    (gap_runs (tokens ps) (comment-unopened c ps left sp) q r))

-- A token that is refused there

pub refused-there : (k : ℕ) (s : State) (at : ℕ) (t : Token) (rest : List ℕ) (c i : ℕ) → Stays (token t) rest → judge_token s at t ≡ bad c i → walk (suc k) s at (spelt (token t) ++ rest) ≡ refused c i
refused-there k s at t rest c i h j =
    walk-front k s at (spelt (token t) ++ rest) (token t) rest (front-is (token t) rest h) ∙ ap (λ (o : Judged). go_on o (λ m. walk k m (at + length (spelt (token t))) rest)) j
