-- A text has one list of pieces, and so one list of tokens.
use Rattle.std.specs.Prelude.{ℕ, zero, suc, ◌≤◌, ◌<◌, ◌≡◌, refl, Bool, true, not, List, [], ◌∷◌, ◌++◌, length}
use Rattle.std.proofs.Common.{sym as inv, ap, ◌∙◌, arith, length-append}
use Rattle.grammar.specs.Byte.{small, starts_variable, goes_on, is_blank, is_percent, is_line_end, is_bracket, capital, All, No, Next, NextNot}
use Rattle.grammar.specs.ByteLaws.{small-not-bracket, variable-not-bracket, blank-not-bracket, variable-not-small, blank-not-small, blank-not-variable}
use Rattle.grammar.specs.Token.{Token, name, variable, opening, closing, comma, arrow, stop, Piece, token, blank, comment, spelling, spelt, bytes, Stands, Fits, Spaced, tokens, Spells}
use Rattle.grammar.specs.Front.{run, past, front, in_comment, class, front_of, pieces_of}

module _ (test : ℕ → Bool) where
  pub run-all : (w rest : List ℕ) → All test w → NextNot test rest → run test (w ++ rest) ≡ w
  run-all [] [] p q = refl
  run-all [] (b ∷ s) p q = rw q
  run-all (b ∷ w) rest p q = rw (p.0, run-all w rest p.1 q)

  pub past_all : (w rest : List ℕ) → All test w → NextNot test rest → past test (w ++ rest) ≡ rest
  past_all [] [] p q = refl
  past_all [] (b ∷ s) p q = rw q
  past_all (b ∷ w) rest p q = rw p.0 (past_all w rest p.1 q)

commented : (c : List ℕ) → No is_line_end c → All in_comment c
commented [] p = tt
commented (b ∷ c) p = (ap not p.0, commented c p.1)

comment-ends : (rest : List ℕ) → Next is_line_end rest → NextNot in_comment rest
comment-ends [] p = tt
comment-ends (b ∷ s) p = ap not p

-- as `Fits`, but for the bracket that may not follow a blank
abbrev pub Stays : Piece → List ℕ → Type 0
Stays (token t) rest = Stands t rest
Stays (blank b) rest = is_blank b ≡ true
Stays (comment c) rest = No is_line_end c × Next is_line_end rest

-- what stands at the front is found
pub front-is : (p : Piece) (rest : List ℕ) → Stays p rest → front_of (spelt p ++ rest) ≡ front p rest
unfolding class small starts_variable capital is_blank is_percent is_bracket
front-is (token (name [])) rest h = absurd h.0
front-is (token (name (b ∷ w))) rest h = rw (small-not-bracket b h.0.0, h.0.0, run-all goes_on w rest h.0.1 h.1, past_all goes_on w rest h.0.1 h.1)
front-is (token (variable [])) rest h = absurd h.0
front-is (token (variable (b ∷ w))) rest h = rw (variable-not-bracket b h.0.0, variable-not-small b h.0.0, h.0.0, run-all goes_on w rest h.0.1 h.1, past_all goes_on w rest h.0.1 h.1)
front-is (token opening) rest h = refl
front-is (token closing) rest h = refl
front-is (token comma) rest h = refl
front-is (token arrow) rest h = refl
front-is (token stop) [] h = refl
front-is (token stop) (b ∷ s) h = rw h
front-is (blank b) rest h = rw (blank-not-bracket b (h), blank-not-small b (h), blank-not-variable b (h), h)
front-is (comment c) rest h = let p = commented c h.0 in let q = comment-ends rest h.1 in rw (run-all in_comment c rest p q, past_all in_comment c rest p q)

pub fits-stays : (p : Piece) (rest : List ℕ) → Fits p rest → Stays p rest
fits-stays (token t) rest h = h
fits-stays (blank b) rest h = h.0
fits-stays (comment c) rest h = h

-- no piece is empty
pub token-long : (t : Token) (rest : List ℕ) → Stands t rest → 0 < length (spelling t)
token-long (name []) rest h = absurd h.0
token-long (name (b ∷ w)) rest h = omega arith
token-long (variable []) rest h = absurd h.0
token-long (variable (b ∷ w)) rest h = omega arith
token-long opening rest h = omega arith
token-long closing rest h = omega arith
token-long comma rest h = omega arith
token-long arrow rest h = omega arith
token-long stop rest h = omega arith

pub spelt-long : (p : Piece) (rest : List ℕ) → Stays p rest → 0 < length (spelt p)
spelt-long (token t) rest h = token-long t rest h
spelt-long (blank b) rest h = omega arith
spelt-long (comment c) rest h = omega arith

-- a text's pieces are those that are found one behind the other
pub pieces_are : (k : ℕ) (ps : List Piece) → Spaced ps → length (bytes ps) ≤ k → pieces_of k (bytes ps) ≡ ps
pieces_are zero [] h l = refl
pieces_are (suc k) [] h l = refl
pieces_are zero (p ∷ ps) h l =
    absurd (omega (arith, l, length-append (spelt p) (bytes ps), spelt-long p (bytes ps) (fits-stays p (bytes ps) h.0)))
pieces_are (suc k) (p ∷ ps) h l =
    rw (front-is p (bytes ps) (fits-stays p (bytes ps) h.0)) (ap (λ (qs : List Piece). p ∷ qs) (pieces_are k ps h.1 (omega (arith, l, length-append (spelt p) (bytes ps), spelt-long p (bytes ps) (fits-stays p (bytes ps) h.0)))))

-- a text has one list of tokens
pub spells_one : {text : List ℕ} {ts us : List Token} → Spells text ts → Spells text us → ts ≡ us
spells_one {text} p q =
    let same : p.pieces ≡ q.pieces =
    inv (pieces_are (length text) p.pieces p.spaced (omega (arith, ap length p.whole)))
    ∙ ap (pieces_of (length text)) (inv p.whole ∙ q.whole)
    ∙ pieces_are (length text) q.pieces q.spaced (omega (arith, ap length q.whole)) in
    p.listed ∙ ap tokens same ∙ inv q.listed
