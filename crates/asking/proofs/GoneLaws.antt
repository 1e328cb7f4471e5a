-- The reader ends in one of these ways.
use Rattle.std.specs.Prelude.{ℕ, zero, suc, ◌+◌, ◌<◌, ◌≡◌, refl, Bool, true, false, ◌⊎◌, List, [], ◌∷◌, ◌++◌, length}
use Rattle.std.proofs.Common.{sym as inv, ap, ◌∙◌, inl, inr, append_assoc, arith, length-append}
use Rattle.grammar.specs.Byte.{is_bracket, NextNot}
use Rattle.grammar.specs.Token.{Token, Piece, token, blank, comment, spelt, bytes, Fits, tokens}
use Rattle.grammar.specs.TokenLaws.{Stays, spelt-long}
use Rattle.grammar.specs.Front.{Front, front, broken, unexpected, class, front_of}
use Rattle.grammar.specs.FrontLaws.{Bracketed, Shown, shown}
use Rattle.reading.specs.Part.{State, Taken, taken, wrong, next, settle}
use Rattle.reading.specs.Reader.{long, judge_taken}
use Rattle.reading.proofs.SoundLaws.{Settled, settled-settled, token-shut}
use Rattle.reading.proofs.Stop.{Begun}
use Rattle.reading.proofs.StopLaws.{gap_spaced, begins-nothing}
use Rattle.asking.specs.Asking.{seal, step, Meant, goal, unfinished, meaning, Tally, counted, limit, Outcome, breaks, ended, go_on, from_front, walk}
use Rattle.asking.proofs.WithinLaws.{Within}
use Rattle.asking.proofs.Gone.{behind_piece, tallied, Final, finished, early, strange, misplaced, half_misplaced, half, long_name, too_many, Gone}

abbrev Going : ℕ → Type 0
Going k = (s : State) (y : Tally) (at : ℕ) (rest : List ℕ) → length rest < k → Gone s y at rest (walk k s y at rest)

-- here, before any piece
here : {s : State} {y : Tally} {at : ℕ} {rest : List ℕ} {o : Outcome} → Final s y at rest o → Gone s y at rest o
here {s} {y} {at} {rest} {o} f =
    record {
      pieces = [];
      left = rest;
      to = s;
      whole = refl;
      spaced = tt;
      shut = λ h b. absurd b;
      reaches = refl;
      within = tt;
      final = rw (let q : at + 0 ≡ at = omega arith in q) f;
    }

end-gone : (s : State) (y : Tally) (at : ℕ) → Gone s y at [] (ended (meaning s) at)
end-gone s y at = here (by (meaning s) refl)
  where
    by : (m : Meant) → meaning s ≡ m → Final s y at [] (ended m at)
    by (goal fs) e = finished refl e
    by unfinished e = early refl e

seal-taken : (k : Taken) (n : State) → seal k ≡ taken n → (m : State) × (k ≡ taken m)
seal-taken (taken m) n e = (m, refl)
seal-taken wrong n e = let z : ◌≡◌ {A = ℕ} 0 1 = cc in absurd (omega arith)

step-shut : (s : State) (t : Token) (n : State) (text : List ℕ) → Bracketed (token t) text → step s t ≡ taken n → Settled s.mode → NextNot is_bracket text
step-shut s t n text b e = let m = seal-taken (next s.rules s.part s.mode t) n e in token-shut s t m.0 text b m.1

-- a piece that was gone through, before others
piece-gone : (s n : State) (y z : Tally) (at : ℕ) (text rest : List ℕ) (o : Outcome) (p : Piece) → text ≡ spelt p ++ rest → Stays p rest → behind_piece s p ≡ taken n →
    (Settled s.mode → NextNot is_bracket text) → ((ps : List Piece) → Within z (tokens ps) → Within y (tokens (p ∷ ps))) → ((ps : List Piece) → tallied y (tokens (p ∷ ps)) ≡ tallied z (tokens ps)) →
    (f : Gone n z (at + length (spelt p)) rest o) → (Begun f.pieces → Fits p (bytes f.pieces ++ f.left)) → Gone s y at text o
piece-gone s n y z at text rest o p h st tk nb w e f fits =
    record {
      pieces = p ∷ f.pieces;
      left = f.left;
      to = f.to;
      whole = h ∙ ap (λ (l : List ℕ). spelt p ++ l) f.whole ∙ inv (append_assoc (spelt p) (bytes f.pieces) f.left);
      spaced = gap_spaced p f.pieces f.left (rw f.whole at st) fits f.spaced;
      shut = λ m q. nb m;
      reaches = rw tk f.reaches;
      within = w f.pieces f.within;
      final =
          rw (let q : at + length (bytes (p ∷ f.pieces)) ≡ (at + length (spelt p)) + length (bytes f.pieces) = omega (arith, length-append (spelt p) (bytes f.pieces)) in q)
          (rw (e f.pieces) f.final);
    }

-- what is judged of a token
token-final : (s : State) (y : Tally) (at : ℕ) (left r : List ℕ) (t : Token) (n : Taken) (l : Bool) (m : ℕ) (more : State → Outcome) {b : ℕ} {x : List ℕ} → left ≡ b ∷ x →
    front_of left ≡ front (token t) r → step s t ≡ n → limit y t ≡ m → long t ≡ l →
    Final s y at left (go_on (judge_taken n m l at) more)
    ⊎ ((to : State) × (step s t ≡ taken to) × (limit y t ≡ 0) × (long t ≡ false) × (go_on (judge_taken n m l at) more ≡ more to))
token-final s y at left r t wrong l m more le fe ne me lo = inl (misplaced le (inv (ap front_of le) ∙ fe) ne)
token-final s y at left r t (taken to) false zero more le fe ne me lo = inr (to, ne, me, lo, refl)
token-final s y at left r t (taken to) true zero more le fe ne me lo = inl (long_name fe ne me lo)
token-final s y at left r t (taken to) l (suc m) more le fe ne me lo = inl (too_many fe ne me)

module _ (k : ℕ) (more : Going k) (s : State) (y : Tally) (at : ℕ) (b : ℕ) (x : List ℕ) (short : length (b ∷ x) < suc k) where
  shorter : (p : Piece) (rest : List ℕ) → b ∷ x ≡ spelt p ++ rest → Stays p rest → length rest < k
  shorter p rest h st = omega (arith, short, ap length h, length-append (spelt p) rest, spelt-long p rest st)

  token-gone : (t : Token) (rest : List ℕ) → Shown (b ∷ x) (front (token t) rest) → (o : Outcome) →
      Final s y at (b ∷ x) o
      ⊎ ((to : State) × (step s t ≡ taken to) × (limit y t ≡ 0) × (long t ≡ false) × (o ≡ walk k to (counted y t) (at + length (spelt (token t))) rest)) →
      Gone s y at (b ∷ x) o
  token-gone t rest h o (inl f) = here f
  token-gone t rest h o (inr q) =
      let f = more q.0 (counted y t) (at + length (spelt (token t))) rest (shorter (token t) rest h.0 h.1) in
      rw q.4
      (piece-gone s q.0 y (counted y t) at (b ∷ x) rest (walk k q.0 (counted y t) (at + length (spelt (token t))) rest) (token t) h.0 h.1 q.1
      (step-shut s t q.0 (b ∷ x) h.2 q.1) (λ ps w. (q.2, q.3, w)) (λ ps. refl) f (λ g. rw f.whole at h.1))

  front-gone : (f : Front) → front_of (b ∷ x) ≡ f → Shown (b ∷ x) f → Gone s y at (b ∷ x) (from_front s y at f (walk k))
  front-gone (front (token t) rest) fe h =
      token-gone t rest h (from_front s y at (front (token t) rest) (walk k))
      (token-final s y at (b ∷ x) rest t (step s t) (long t) (limit y t) (λ n. walk k n (counted y t) (at + length (spelt (token t))) rest) refl fe refl refl refl)
  front-gone (front (blank d) rest) fe h =
      let f = more (settle s) y (at + 1) rest (shorter (blank d) rest h.0 h.1) in
      piece-gone s (settle s) y y at (b ∷ x) rest (walk k (settle s) y (at + 1) rest) (blank d) h.0 h.1 refl (λ m. h.2) (λ ps w. w) (λ ps. refl) f
      (λ g. (h.1, rw f.whole at (f.shut (settled-settled s.mode) g)))
  front-gone (front (comment d) rest) fe h =
      let f = more (settle s) y (at + length (spelt (comment d))) rest (shorter (comment d) rest h.0 h.1) in
      piece-gone s (settle s) y y at (b ∷ x) rest (walk k (settle s) y (at + length (spelt (comment d))) rest) (comment d) h.0 h.1 refl (λ m. h.2) (λ ps w. w) (λ ps. refl) f
      (λ g. rw f.whole at h.1)
  front-gone (broken t) fe h = here (half-final (step s t) refl)
    where
      half-final : (n : Taken) → step s t ≡ n → Final s y at (b ∷ x) (breaks n at)
      half-final (taken n) ne = half refl fe ne
      half-final wrong ne = half_misplaced refl fe ne
  front-gone unexpected fe h = here (strange refl (begins-nothing (class b) b x fe))

pub gone : (k : ℕ) → Going k
gone zero s y at rest l = absurd (omega arith)
gone (suc k) s y at [] l = end-gone s y at
gone (suc k) s y at (b ∷ x) l = front-gone k (gone k) s y at b x l (front_of (b ∷ x)) refl (shown (b ∷ x))
