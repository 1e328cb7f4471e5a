-- The reader that refuses stops for a fault, which its code and its place name.
use Rattle.std.specs.Prelude.{ℕ, zero, suc, ◌+◌, ◌<◌, ◌≡◌, refl, Bool, true, false, ◌⊎◌, List, [], ◌∷◌, ◌++◌, length, eqb}
use Rattle.std.proofs.Common.{sym as inv, ap, ◌∙◌, inl, inr, append_assoc, arith, length-append}
use Rattle.terms.specs.Cases.{cases}
use Rattle.grammar.specs.Byte.{is_bracket, NextNot}
use Rattle.grammar.specs.Token.{Token, Piece, token, blank, comment, spelt, bytes, Fits, after_stop}
use Rattle.grammar.specs.TokenLaws.{Stays, spelt-long}
use Rattle.grammar.specs.Front.{Front, front, broken, unexpected, Class, a_bracket, a_name, a_variable, a_blank, a_comment, a_closing, a_comma, a_stop, an_arrow, nothing, class, cut, front_of}
use Rattle.grammar.specs.FrontLaws.{Shown, shown}
use Rattle.reading.specs.Part.{Mode, between, expects, named, complete, State, Taken, taken, wrong, next, settle}
use Rattle.reading.specs.Reader.{limit, long, judge_taken, Outcome, refused, breaks, ended, go_on, from_front, walk}
use Rattle.reading.proofs.LimitLaws.{next_small, settle-small}
use Rattle.reading.specs.Limits.{SmallState}
use Rattle.reading.proofs.SoundLaws.{Settled, settled-settled, token-shut}
use Rattle.reading.proofs.Stop.{SpacedTo, behind_piece, Begun, Fault, early, strange, misplaced, half_misplaced, half, long_name, too_many, Stops}

abbrev Stopping : ℕ → Type 0
Stopping k = (s : State) (at : ℕ) (rest : List ℕ) (c i : ℕ) → length rest < k → SmallState s → walk k s at rest ≡ refused c i → Stops s at rest c i

-- here, before any piece
here : {s : State} {at : ℕ} {rest : List ℕ} {c i : ℕ} → SmallState s → Fault s at rest c i → Stops s at rest c i
here {s} {at} {rest} {c} {i} sm f =
    record {
      pieces = [];
      left = rest;
      to = s;
      whole = refl;
      spaced = tt;
      shut = λ h b. absurd b;
      reaches = refl;
      small = sm;
      fault = rw (let q : at + 0 ≡ at = omega arith in q) f;
    }

pub gap_spaced : (p : Piece) (ps : List Piece) (left : List ℕ) → Stays p (bytes ps ++ left) → (Begun ps → Fits p (bytes ps ++ left)) → SpacedTo ps left → SpacedTo (p ∷ ps) left
gap_spaced p [] left h j s = h
gap_spaced p (q ∷ ps) left h j s = (j tt, s)

placed : {s : State} {at : ℕ} {left : List ℕ} {c i c' i' : ℕ} → refused c i ≡ refused c' i' → Fault s at left c i → Fault s at left c' i'
placed {c = c} {i} {c'} {i'} e f =
    let p : c ≡ c' = cc in
    let q : i ≡ i' = cc in
    rw p at (rw q at f)

-- what the reader judges of a token that it refuses
token-fault : (s : State) (at : ℕ) (left r : List ℕ) (t : Token) (n : Taken) (c i : ℕ) (l : Bool) (m : ℕ) (more : State → Outcome) → {b : ℕ} {x : List ℕ} → left ≡ b ∷ x →
    front_of left ≡ front (token t) r → next s.rules s.part s.mode t ≡ n → limit s.rules s.part t ≡ m → long t ≡ l →
    go_on (judge_taken n m l at) more ≡ refused c i → Fault s at left c i ⊎ ((to : State) × (n ≡ taken to) × (m ≡ 0) × (l ≡ false) × (more to ≡ refused c i))
token-fault s at left r t wrong c i l m more {b} {x} le fe ne me lo e = inl (placed e (misplaced le (inv (ap front_of le) ∙ fe) ne))
token-fault s at left r t (taken to) c i false zero more le fe ne me lo e = inr (to, refl, refl, refl, e)
token-fault s at left r t (taken to) c i true zero more le fe ne me lo e = inl (placed e (long_name fe ne me lo))
token-fault s at left r t (taken to) c i l (suc m) more le fe ne me lo e = inl (placed e (too_many fe ne me))

end-fault : (s : State) (at c i : ℕ) → ended s.rules s.mode at ≡ refused c i → Fault s at [] c i
end-fault s at c i e = by s.mode refl e
  where
    by : (m : Mode) → s.mode ≡ m → ended s.rules m at ≡ refused c i → Fault s at [] c i
    by between h e = let z : ◌≡◌ {A = ℕ} 0 1 = cc in absurd (omega arith)
    by expects h e = placed e (early refl (λ (q : s.mode ≡ between). let z : ◌≡◌ {A = ℕ} 0 1 = cc in omega arith))
    by (named w) h e = placed e (early refl (λ (q : s.mode ≡ between). let z : ◌≡◌ {A = ℕ} 0 1 = cc in omega arith))
    by complete h e = placed e (early refl (λ (q : s.mode ≡ between). let z : ◌≡◌ {A = ℕ} 0 1 = cc in omega arith))

-- a piece that was gone through, before others
piece-stops : (s n : State) (at : ℕ) (text rest : List ℕ) (c i : ℕ) (p : Piece) → text ≡ spelt p ++ rest → Stays p rest → behind_piece s p ≡ taken n →
    (Settled s.mode → NextNot is_bracket text) → (f : Stops n (at + length (spelt p)) rest c i) → (Begun f.pieces → Fits p (bytes f.pieces ++ f.left)) → Stops s at text c i
piece-stops s n at text rest c i p h y tk nb f fits =
    record {
      pieces = p ∷ f.pieces;
      left = f.left;
      to = f.to;
      whole = h ∙ ap (λ (z : List ℕ). spelt p ++ z) f.whole ∙ inv (append_assoc (spelt p) (bytes f.pieces) f.left);
      spaced = gap_spaced p f.pieces f.left (rw f.whole at y) fits f.spaced;
      shut = λ st q. nb st;
      reaches = rw tk f.reaches;
      small = f.small;
      fault =
          rw
          (let q : at + length (bytes (p ∷ f.pieces)) ≡ (at + length (spelt p)) + length (bytes f.pieces) = omega (arith, length-append (spelt p) (bytes f.pieces)) in q)
          f.fault;
    }

not-unexpected : {X : Type 0} {p : Piece} {r : List ℕ} → front p r ≡ unexpected → X
not-unexpected e = let z : ◌≡◌ {A = ℕ} 0 1 = cc in absurd (omega arith)

not-broken : {X : Type 0} {t : Token} → broken t ≡ unexpected → X
not-broken e = let z : ◌≡◌ {A = ℕ} 0 1 = cc in absurd (omega arith)

-- a byte that begins nothing
pub begins-nothing : (k : Class) (b : ℕ) (x : List ℕ) → cut k b x ≡ unexpected → k ≡ nothing
begins-nothing a_bracket b x e = not-unexpected e
begins-nothing a_name b x e = not-unexpected e
begins-nothing a_variable b x e = not-unexpected e
begins-nothing a_blank b x e = not-unexpected e
begins-nothing a_comment b x e = not-unexpected e
begins-nothing a_closing b x e = not-unexpected e
begins-nothing a_comma b x e = not-unexpected e
begins-nothing a_stop b [] e = not-unexpected e
begins-nothing a_stop b (d ∷ x) e = cases (after_stop d) (λ h. not-unexpected (rw h at e)) (λ h. not-broken (rw h at e))
begins-nothing an_arrow b [] e = not-broken e
begins-nothing an_arrow b (d ∷ x) e = cases (eqb d 45) (λ h. not-unexpected (rw h at e)) (λ h. not-broken (rw h at e))
begins-nothing nothing b x e = refl

module _ (k : ℕ) (more : Stopping k) (s : State) (at : ℕ) (b : ℕ) (x : List ℕ) (c i : ℕ) (short : length (b ∷ x) < suc k) (sm : SmallState s) where
  shorter : (p : Piece) (rest : List ℕ) → b ∷ x ≡ spelt p ++ rest → Stays p rest → length rest < k
  shorter p rest h y = omega (arith, short, ap length h, length-append (spelt p) rest, spelt-long p rest y)

  token-stops : (t : Token) (rest : List ℕ) → front_of (b ∷ x) ≡ front (token t) rest → Shown (b ∷ x) (front (token t) rest) →
      Fault s at (b ∷ x) c i
      ⊎ ((to : State)
      × (next s.rules s.part s.mode t ≡ taken to)
      × (limit s.rules s.part t ≡ 0)
      × (long t ≡ false)
      × (walk k to (at + length (spelt (token t))) rest ≡ refused c i)) →
      Stops s at (b ∷ x) c i
  token-stops t rest fe h (inl f) = here sm f
  token-stops t rest fe h (inr q) =
      let sn = rw q.1 at (next_small s.rules s.part s.mode t sm q.2 q.3) in
      let f = more q.0 (at + length (spelt (token t))) rest c i (shorter (token t) rest h.0 h.1) sn q.4 in
      piece-stops s q.0 at (b ∷ x) rest c i (token t) h.0 h.1 q.1 (token-shut s t q.0 (b ∷ x) h.2 q.1) f (λ g. rw f.whole at h.1)

  front-stops : (f : Front) → front_of (b ∷ x) ≡ f → Shown (b ∷ x) f → from_front s at f (walk k) ≡ refused c i → Stops s at (b ∷ x) c i
  front-stops (front (token t) rest) fe h e =
      token-stops t rest fe h
      (token-fault s at (b ∷ x) rest t (next s.rules s.part s.mode t) c i (long t) (limit s.rules s.part t) (λ n. walk k n (at + length (spelt (token t))) rest) refl fe refl refl refl e)
  front-stops (front (blank d) rest) fe h e =
      let f = more (settle s) (at + 1) rest c i (shorter (blank d) rest h.0 h.1) (settle-small s.rules s.part s.mode sm) e in
      piece-stops s (settle s) at (b ∷ x) rest c i (blank d) h.0 h.1 refl (λ st. h.2) f (λ g. (h.1, rw f.whole at (f.shut (settled-settled s.mode) g)))
  front-stops (front (comment d) rest) fe h e =
      let f = more (settle s) (at + length (spelt (comment d))) rest c i (shorter (comment d) rest h.0 h.1) (settle-small s.rules s.part s.mode sm) e in
      piece-stops s (settle s) at (b ∷ x) rest c i (comment d) h.0 h.1 refl (λ st. h.2) f (λ g. rw f.whole at h.1)
  front-stops (broken t) fe h e = half-stops (next s.rules s.part s.mode t) refl e
    where
      half-stops : (n : Taken) → next s.rules s.part s.mode t ≡ n → breaks n at ≡ refused c i → Stops s at (b ∷ x) c i
      half-stops (taken n) ne e = here sm (placed e (half refl fe ne))
      half-stops wrong ne e = here sm (placed e (half_misplaced refl fe ne))
  front-stops unexpected fe h e = here sm (placed e (strange refl (begins-nothing (class b) b x fe)))

pub stops : (k : ℕ) (s : State) (at : ℕ) (rest : List ℕ) (c i : ℕ) → length rest < k → SmallState s → walk k s at rest ≡ refused c i → Stops s at rest c i
stops zero s at rest c i l sm e = absurd (omega arith)
stops (suc k) s at [] c i l sm e = here sm (end-fault s at c i e)
stops (suc k) s at (b ∷ x) c i l sm e = front-stops k (stops k) s at b x c i l sm (front_of (b ∷ x)) refl (shown (b ∷ x)) e
