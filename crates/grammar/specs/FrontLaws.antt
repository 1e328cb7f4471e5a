-- What is found at the front of a text stands there.
use Rattle.std.specs.Prelude.{ℕ, ◌≡◌, refl, Bool, true, false, List, [], ◌∷◌, ◌++◌, eqb}
use Rattle.std.proofs.Common.{ap, ap₂, eqb-true}
use Rattle.std.proofs.lemmas.Bool.{not-true, not-false}
use Rattle.terms.specs.Cases.{cases}
use Rattle.grammar.specs.Byte.{small, starts_variable, goes_on, is_blank, is_percent, is_line_end, is_bracket, All, No, Next, NextNot}
use Rattle.grammar.specs.Token.{Token, name, variable, opening, closing, comma, arrow, stop, Piece, token, blank, comment, spelt, after_stop}
use Rattle.grammar.specs.TokenLaws.{Stays}
use Rattle.grammar.specs.Front.{run, past, Front, front, broken, unexpected, stop_at, arrow_at, in_comment, class, front_of}

module _ (test : ℕ → Bool) where
  pub run_past : (s : List ℕ) → s ≡ run test s ++ past test s
  run_past [] = refl
  run_past (b ∷ s) = cases (test b) (λ e. rw e (ap (λ (l : List ℕ). b ∷ l) (run_past s))) (λ e. rw e)

  pub run-passes : (s : List ℕ) → All test (run test s)
  run-passes [] = tt
  run-passes (b ∷ s) = cases (test b) (λ e. rw e (e, run-passes s)) (λ e. rw e tt)

  pub past-fails : (s : List ℕ) → NextNot test (past test s)
  past-fails [] = tt
  past-fails (b ∷ s) = cases (test b) (λ e. rw e (past-fails s)) (λ e. rw e e)

no_line_end : (c : List ℕ) → All in_comment c → No is_line_end c
no_line_end [] p = tt
no_line_end (b ∷ c) p = (not-true (is_line_end b) p.0, no_line_end c p.1)

line_end : (rest : List ℕ) → NextNot in_comment rest → Next is_line_end rest
line_end [] p = tt
line_end (b ∷ s) p = not-false (is_line_end b) p

-- the piece is a bracket just where the text begins with one
abbrev pub Bracketed : Piece → List ℕ → Type 0
Bracketed (token (name w)) s = NextNot is_bracket s
Bracketed (token (variable w)) s = NextNot is_bracket s
Bracketed (token opening) s = Unit {0}
Bracketed (token closing) s = NextNot is_bracket s
Bracketed (token comma) s = NextNot is_bracket s
Bracketed (token arrow) s = NextNot is_bracket s
Bracketed (token stop) s = NextNot is_bracket s
Bracketed (blank b) s = NextNot is_bracket s
Bracketed (comment c) s = NextNot is_bracket s

-- the first byte of a token that breaks off
abbrev pub Half : Token → List ℕ → Type 0
Half (name w) s = ⊥
Half (variable w) s = ⊥
Half opening s = ⊥
Half closing s = ⊥
Half comma s = ⊥
Half arrow s = (x : List ℕ) × (s ≡ 58 ∷ x)
Half stop s = (x : List ℕ) × (s ≡ 46 ∷ x)

abbrev pub Shown : List ℕ → Front → Type 0
Shown s (front p rest) = (s ≡ spelt p ++ rest) × Stays p rest × Bracketed p s
Shown s (broken t) = Half t s
Shown s unexpected = Unit {0}

-- a word, or a comment, to its end
word-shown : (b : ℕ) (s : List ℕ) → b ∷ s ≡ (b ∷ run goes_on s) ++ past goes_on s
word-shown b s = ap (λ (l : List ℕ). b ∷ l) (run_past goes_on s)

comment-shown : (b : ℕ) (s : List ℕ) → is_percent b ≡ true → b ∷ s ≡ (37 ∷ run in_comment s) ++ past in_comment s
unfolding is_percent
comment-shown b s e = ap₂ ◌∷◌ (eqb-true b 37 e) (run_past in_comment s)

-- one byte
byte_shown : (b k : ℕ) (s : List ℕ) → eqb b k ≡ true → b ∷ s ≡ (k ∷ []) ++ s
byte_shown b k s e = ap (λ (c : ℕ). c ∷ s) (eqb-true b k e)

bracket-shown : (b : ℕ) (s : List ℕ) → is_bracket b ≡ true → b ∷ s ≡ (40 ∷ []) ++ s
unfolding is_bracket
bracket-shown b s e = byte_shown b 40 s e

stop-shown : (b : ℕ) (s : List ℕ) → eqb b 46 ≡ true → is_bracket b ≡ false → Shown (b ∷ s) (stop_at s)
stop-shown b [] e nb = (byte_shown b 46 [] e, tt, nb)
stop-shown b (c ∷ s) e nb = cases (after_stop c) (λ h. rw h (byte_shown b 46 (c ∷ s) e, h, nb)) (λ h. rw h (c ∷ s, byte_shown b 46 (c ∷ s) e))

arrow-shown : (b : ℕ) (s : List ℕ) → eqb b 58 ≡ true → is_bracket b ≡ false → Shown (b ∷ s) (arrow_at s)
arrow-shown b [] e nb = ([], byte_shown b 58 [] e)
arrow-shown b (c ∷ s) e nb =
    cases (eqb c 45) (λ h. rw h (ap₂ ◌∷◌ (eqb-true b 58 e) (ap (λ (k : ℕ). k ∷ s) (eqb-true c 45 h)), tt, nb)) (λ h. rw h (c ∷ s, byte_shown b 58 (c ∷ s) e))

pub shown : (s : List ℕ) → Shown s (front_of s)
unfolding class
shown [] = tt
shown (b ∷ s) =
    cases (is_bracket b) (λ e. rw e (bracket-shown b s e, tt, tt))
    (λ nb.
    cases (small b) (λ e. rw (nb, e) (word-shown b s, ((e, run-passes goes_on s), past-fails goes_on s), nb))
    (λ ns.
    cases (starts_variable b) (λ e. rw (nb, ns, e) (word-shown b s, ((e, run-passes goes_on s), past-fails goes_on s), nb))
    (λ nv.
    cases (is_blank b) (λ e. rw (nb, ns, nv, e) (refl, e, nb))
    (λ nl.
    cases (is_percent b)
    (λ e.
    rw (nb, ns, nv, nl, e) (comment-shown b s e, (no_line_end (run in_comment s) (run-passes in_comment s), line_end (past in_comment s) (past-fails in_comment s)), nb))
    (λ np.
    cases (eqb b 41) (λ e. rw (nb, ns, nv, nl, np, e) (byte_shown b 41 s e, tt, nb))
    (λ nc.
    cases (eqb b 44) (λ e. rw (nb, ns, nv, nl, np, nc, e) (byte_shown b 44 s e, tt, nb))
    (λ nm.
    cases (eqb b 46) (λ e. rw (nb, ns, nv, nl, np, nc, nm, e) (stop-shown b s e nb))
    (λ nt.
    cases (eqb b 58) (λ e. rw (nb, ns, nv, nl, np, nc, nm, nt, e) (arrow-shown b s e nb))
    (λ na. rw (nb, ns, nv, nl, np, nc, nm, nt, na) tt)))))))))
