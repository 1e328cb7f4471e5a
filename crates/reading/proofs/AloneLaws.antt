-- Pieces before a place that keep to the sizes hold no name or variable that is one too many.
use Rattle.std.specs.Prelude.{ℕ, ◌<◌, ◌≡◌, refl, true, List, [], ◌∷◌, ◌++◌, length}
use Rattle.std.proofs.Common.{sym as inv, ap, ap₂, ◌∙◌, true≢false, append_assoc, arith, length-append}
use Rattle.grammar.specs.Token.{Token, name, closing, stop, Piece, token, spelling, spelt, bytes, Stands, tokens}
use Rattle.grammar.specs.TokenLaws.{front-is}
use Rattle.grammar.specs.Front.{front, front_of}
use Rattle.grammar.specs.Syntax.{Rule}
use Rattle.reading.specs.Part.{Done, none_yet, and_variable, and_name, filled, Part, formulas, inside, Mode, between, expects, named, complete, State, state, start}
use Rattle.reading.specs.Reader.{variables, Judged, going, bad, judge_token}
use Rattle.reading.specs.PrintLaws.{turn, printed, rules_then, before_next, behind_last, done_then}
use Rattle.reading.specs.Limits.{SmallState}
use Rattle.reading.specs.RunLaws.{Runs, run_end, run_step}
use Rattle.reading.proofs.Stop.{SpacedTo}
use Rattle.reading.proofs.Whole.{Healthy, Filled}
use Rattle.reading.proofs.Viable.{first-stays, tokens_append}
use Rattle.reading.proofs.Refusal.{Before}
use Rattle.reading.proofs.CompleteLaws.{opened}
use Rattle.reading.proofs.PartialLaws.{Follows, waiting, rules-run, waiting-run, name_waited, formulas-run, part-run, done-run, variables-grow}

-- One run

pub runs-split : {s n e : State} (a b : List Token) → Runs s (a ++ b) e → Runs s a n → Runs n b e
runs-split [] b r run_end = r
runs-split (t ∷ a) b (run_step {n = m} j r) (run_step {n = k} i q) = runs-split a b r (rw (let z : k ≡ m = same (j 0) (i 0) in z) at q)
  where
    same : {o : Judged} → o ≡ going m → o ≡ going k → k ≡ m
    same p q = cc

-- The same pieces

pub spaced-rest : (p : Piece) (ps : List Piece) (left : List ℕ) → SpacedTo (p ∷ ps) left → SpacedTo ps left
spaced-rest p [] left s = tt
spaced-rest p (q ∷ ps) left s = s.1

pub found_front : (p : Piece) (ps : List Piece) (x : List ℕ) → SpacedTo (p ∷ ps) x → front_of (bytes (p ∷ ps) ++ x) ≡ front p (bytes ps ++ x)
found_front p ps x s = ap front_of (append_assoc (spelt p) (bytes ps) x) ∙ front-is p (bytes ps ++ x) (first-stays p ps x s)

-- pieces that go further have the token that stands behind the others, and what is behind it
pub shared-on : (ps qs : List Piece) (x y : List ℕ) (t : Token) (rest : List ℕ) → SpacedTo ps x → SpacedTo qs y → bytes ps ++ x ≡ bytes qs ++ y → x ≡ spelling t ++ rest → Stands t rest →
    length (bytes ps) < length (bytes qs) → (more : List Piece) × (qs ≡ ps ++ token t ∷ more)
shared-on ps [] x y t rest s u e h k l = absurd (omega arith)
shared-on [] (q ∷ qs) x y t rest s u e h k l =
    let f : front q (bytes qs ++ y) ≡ front (token t) rest = inv (found_front q qs y u) ∙ ap front_of (inv e ∙ h) ∙ front-is (token t) rest k in
    let g : q ≡ token t = cc in
    (qs, ap (λ (z : Piece). z ∷ qs) g)
shared-on (p ∷ ps) (q ∷ qs) x y t rest s u e h k l =
    let f : front p (bytes ps ++ x) ≡ front q (bytes qs ++ y) = inv (found_front p ps x s) ∙ ap front_of e ∙ found_front q qs y u in
    let g : p ≡ q = cc in
    let d : bytes ps ++ x ≡ bytes qs ++ y = cc in
    let n : length (spelt p) ≡ length (spelt q) = ap (λ (z : Piece). length (spelt z)) g in
    let m =
    shared-on ps qs x y t rest (spaced-rest p ps x s) (spaced-rest q qs y u) d h k
    (omega (arith, l, n, length-append (spelt p) (bytes ps), length-append (spelt q) (bytes qs))) in
    (m.0, ap₂ ◌∷◌ (inv g) m.1)

pub shared-pieces : (ps qs : List Piece) (x y : List ℕ) (t : Token) (rest : List ℕ) → SpacedTo ps x → SpacedTo qs y → bytes ps ++ x ≡ bytes qs ++ y → x ≡ spelling t ++ rest → Stands t rest →
    length (bytes ps) < length (bytes qs) → (more : List Token) × (tokens qs ≡ tokens ps ++ t ∷ more)
shared-pieces ps qs x y t rest s u e h k l = let m = shared-on ps qs x y t rest s u e h k l in (tokens m.0, ap tokens m.1 ∙ tokens_append ps (token t ∷ m.0))

-- What is read in part, in any mode, is read again, with something behind it

-- tokens behind which a run ends
pub record Again (s : State) : Type 0 where
  pub behind : List Token
  pub end : State
  pub run : Runs start (printed s behind) end

filled-follows : (d : Done) → filled d ≡ true → Follows d (closing ∷ [])
filled-follows none_yet h = tt
filled-follows (and_variable d w) h = refl
filled-follows (and_name d w own) h = refl

inside-again : (cs : List Rule) (p : Part) (v : List ℕ) (d : Done) {e : State} → filled d ≡ true → Runs (opened (turn d) cs p v d) (closing ∷ []) e → SmallState (state cs (inside p v d) complete) →
    Again (state cs (inside p v d) complete)
inside-again cs p v d {e} h r s =
    let q = s.part in
    record {
      behind = closing ∷ [];
      end = e;
      run = rules-run cs (behind_last (inside p v d) (closing ∷ [])) e s.rules (omega (arith, s.mode))
          (part-run p cs (name v ∷ done_then d (closing ∷ [])) e q.0 (omega (arith, s.count)) (omega (arith, s.named, variables-grow d (variables p))) s.mode
          (name_waited p cs v (done_then d (closing ∷ [])) e (record { room = q.1; nodes = omega (arith, s.count); rules = s.mode }) q.2
          (done-run d cs p v (closing ∷ []) e q.3 q.4 s.mode s.count s.named (filled-follows d h) r)));
    }

complete-again : (cs : List Rule) (p : Part) → Filled p → SmallState (state cs p complete) → Again (state cs p complete)
complete-again cs (formulas []) h s = absurd h
complete-again cs (formulas (f ∷ fs)) h s =
    record {
      behind = stop ∷ [];
      end = _;
      run = rules-run cs (behind_last (formulas (f ∷ fs)) (stop ∷ [])) _ s.rules (omega (arith, s.mode))
          (formulas-run fs f cs (stop ∷ []) _ s.part.0 s.part.1 s.count s.named s.mode refl (run_step (λ at. refl) run_end));
    }
complete-again cs (inside p v none_yet) h s = absurd (true≢false (inv h))
complete-again cs (inside p v (and_variable d w)) h s = inside-again cs p v (and_variable d w) refl (run_step (λ at. refl) run_end) s
complete-again cs (inside p v (and_name d w own)) h s = inside-again cs p v (and_name d w own) refl (run_step (λ at. refl) run_end) s

pub again : (cs : List Rule) (p : Part) (m : Mode) → Healthy p m → SmallState (state cs p m) → Again (state cs p m)
again cs p between h s =
    let q : (z : Part) → z ≡ formulas [] → Runs start (rules_then cs (before_next z [])) (state cs (formulas []) between) =
    λ z e. rw e (rules-run cs [] (state cs (formulas []) between) s.rules s.mode run_end) in
    record { behind = []; end = _; run = q p h }
again cs p expects h s = record { behind = []; end = _; run = waiting-run cs p [] (state cs p (waiting p)) s.rules s.mode s.part s.count s.named run_end }
again cs p (named w) h s =
    let m = s.mode in
    record {
      behind = [];
      end = _;
      run = waiting-run cs p (name w ∷ []) (state cs p (named w)) s.rules m.0 s.part s.count s.named
          (name_waited p cs w [] (state cs p (named w)) (record { room = m.1; nodes = m.3; rules = m.0 }) m.2 run_end);
    }
again cs p complete h s = complete-again cs p h s

-- so a name or a variable before the place is not refused
goes_there : {s e : State} {t : Token} {ts : List Token} → Runs s (t ∷ ts) e → (at c i : ℕ) → judge_token s at t ≡ bad c i → ⊥
goes_there (run_step j r) at c i b = let q = inv (j at) ∙ b in let z : ◌≡◌ {A = ℕ} 0 1 = cc in omega arith

pub not_earlier : {text : List ℕ} {at : ℕ} {s : State} (f : Before text at s) {there : State} (ps : List Piece) (x : List ℕ) (t : Token) (rest : List ℕ) (j c i : ℕ) →
    text ≡ bytes ps ++ x → SpacedTo ps x → x ≡ spelling t ++ rest → Stands t rest → Runs start (tokens ps) there → judge_token there j t ≡ bad c i → length (bytes ps) < at → ⊥
not_earlier {at = at} {s} f ps x t rest j c i w sp h k r b l =
    let m = shared-pieces ps f.pieces x f.left t rest sp f.spaced (inv w ∙ f.whole) h k (omega (arith, l, f.place)) in
    let a = again s.rules s.part s.mode f.healthy f.small in
    let q : printed s a.behind ≡ tokens ps ++ (t ∷ (m.0 ++ a.behind)) =
    inv (f.makes a.behind) ∙ ap (λ (l : List Token). l ++ a.behind) m.1 ∙ append_assoc (tokens ps) (t ∷ m.0) a.behind in
    goes_there (runs-split (tokens ps) (t ∷ (m.0 ++ a.behind)) (rw q at a.run) r) j c i b
