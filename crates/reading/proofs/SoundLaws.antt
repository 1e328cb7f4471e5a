-- What is read from a text is written there, and kept to the sizes.
use Rattle.std.specs.Prelude.{ℕ, zero, suc, ◌+◌, ◌≤◌, ◌<◌, ◌≡◌, refl, Bool, true, false, List, [], ◌∷◌, ◌++◌, length}
use Rattle.std.proofs.Common.{sym as inv, ap, ◌∙◌, arith, length-append}
use Rattle.grammar.specs.Byte.{is_bracket, NextNot}
use Rattle.grammar.specs.Token.{Token, name, variable, opening, closing, comma, arrow, stop, Piece, token, blank, comment, spelling, spelt, bytes, Spaced, tokens}
use Rattle.grammar.specs.TokenLaws.{token-long}
use Rattle.grammar.specs.Front.{Front, front, broken, unexpected, front_of}
use Rattle.grammar.specs.FrontLaws.{Bracketed, Shown, shown}
use Rattle.grammar.specs.Syntax.{Rule, written}
use Rattle.grammar.specs.Reading.{SmallRules}
use Rattle.reading.specs.Part.{Part, Mode, between, expects, named, complete, State, state, rules_of, Taken, taken, wrong, next, settled_mode, settle}
use Rattle.reading.specs.Reader.{limit, long, judge_taken, Outcome, read, refused, breaks, ended, go_on, from_front, walk}
use Rattle.reading.specs.PrintLaws.{rules_then, before_next, printed, rules-of-then, Well, kept, settle-printed, settle-well}
use Rattle.reading.specs.SizeLaws.{rules-small, rules-count}
use Rattle.reading.proofs.LimitLaws.{next_small, settle-small}
use Rattle.reading.specs.Limits.{SmallState}

-- no bracket may stand next
abbrev pub Settled : Mode → Type 0
Settled between = Unit {0}
Settled expects = Unit {0}
Settled (named w) = ⊥
Settled complete = Unit {0}

pub settled-settled : (m : Mode) → Settled (settled_mode m)
settled-settled between = tt
settled-settled expects = tt
settled-settled (named w) = tt
settled-settled complete = tt

-- the rest of the text, from a state on, is pieces whose tokens make the rules whole
pub record Found (s : State) (rest : List ℕ) (cs : List Rule) : Type 0 where
  pub pieces : List Piece
  pub spaced : Spaced pieces
  pub whole : rest ≡ bytes pieces
  pub makes : printed s (tokens pieces) ≡ written cs
  pub shut : Settled s.mode → NextNot is_bracket rest
  pub small : SmallRules cs
  pub few : length cs ≤ 512

abbrev pub Sound : ℕ → Type 0
Sound k =
    (s : State) (at : ℕ) (rest : List ℕ) (cs : List Rule) → length rest < k → Well s.part s.mode → SmallState s → walk k s at rest ≡ read cs → Found s rest cs

unread : {X : Type 0} {code at : ℕ} {cs : List Rule} → refused code at ≡ read cs → X
unread e = let z : ◌≡◌ {A = ℕ} 0 1 = cc in absurd (omega arith)

end-found : (rs : List Rule) (p : Part) (m : Mode) (at : ℕ) (cs : List Rule) → Well p m → SmallState (state rs p m) → ended rs m at ≡ read cs → Found (state rs p m) [] cs
end-found rs p between at cs w s e =
    let c : cs ≡ rules_of rs [] = cc in
    record {
      pieces = [];
      spaced = tt;
      whole = refl;
      makes = ap (λ (q : Part). rules_then rs (before_next q [])) w ∙ rules-of-then rs [] ∙ ap written (inv c);
      shut = λ h. tt;
      small = rw c (rules-small rs [] s.rules tt);
      few = rw c (omega (arith, rules-count rs [], s.mode));
    }
end-found rs p expects at cs w s e = unread e
end-found rs p (named v) at cs w s e = unread e
end-found rs p complete at cs w s e = unread e

-- a token that was taken, within the sizes
record Going (n : Taken) (c : ℕ) (l : Bool) (more : State → Outcome) (cs : List Rule) : Type 0 where
  to : State
  takes : n ≡ taken to
  small : c ≡ 0
  short : l ≡ false
  rest : more to ≡ read cs

going_on : (n : Taken) (c : ℕ) (l : Bool) (at : ℕ) (more : State → Outcome) (cs : List Rule) → go_on (judge_taken n c l at) more ≡ read cs → Going n c l more cs
going_on wrong c l at more cs e = unread e
going_on (taken s) zero false at more cs e = record { to = s; takes = refl; small = refl; short = refl; rest = e }
going_on (taken s) zero true at more cs e = unread e
going_on (taken s) (suc c) l at more cs e = unread e

-- a bracket is taken behind a name only
bracket-wrong : (rs : List Rule) (p : Part) (m : Mode) → Settled m → next rs p m opening ≡ wrong
bracket-wrong rs p between h = refl
bracket-wrong rs p expects h = refl
bracket-wrong rs p (named w) h = absurd h
bracket-wrong rs p complete h = refl

pub token-shut : (s : State) (t : Token) (n : State) (text : List ℕ) → Bracketed (token t) text → next s.rules s.part s.mode t ≡ taken n → Settled s.mode → NextNot is_bracket text
token-shut s (name w) n text b e h = b
token-shut s (variable w) n text b e h = b
token-shut s opening n text b e h = let z : ◌≡◌ {A = ℕ} 0 1 = cc (bracket-wrong s.rules s.part s.mode h) in absurd (omega arith)
token-shut s closing n text b e h = b
token-shut s comma n text b e h = b
token-shut s arrow n text b e h = b
token-shut s stop n text b e h = b

module _ (k : ℕ) (more : Sound k) (s : State) (at : ℕ) (text : List ℕ) (cs : List Rule) (short : length text < suc k) (w : Well s.part s.mode) (sm : SmallState s) where
  token-found : (t : Token) (rest : List ℕ) → Shown text (front (token t) rest) → from_front s at (front (token t) rest) (walk k) ≡ read cs → Found s text cs
  token-found t rest h e =
      let g = going_on (next s.rules s.part s.mode t) (limit s.rules s.part t) (long t) at (λ n. walk k n (at + length (spelling t)) rest) cs e in
      let kn = rw g.takes at (kept s.rules s.part s.mode t) in
      let sn = rw g.takes at (next_small s.rules s.part s.mode t sm g.small g.short) in
      let len : length rest < k = omega (arith, short, ap length h.0, length-append (spelling t) rest, token-long t rest h.1) in
      let f = more g.to (at + length (spelling t)) rest cs len kn.1 sn g.rest in
      record {
        pieces = token t ∷ f.pieces;
        spaced = (rw f.whole at h.1, f.spaced);
        whole = h.0 ∙ ap (λ (l : List ℕ). spelling t ++ l) f.whole;
        makes = kn.0 (tokens f.pieces) ∙ f.makes;
        shut = token-shut s t g.to text h.2 g.takes;
        small = f.small;
        few = f.few;
      }

  -- what is no token settles the state
  gap_found : (p : Piece) (rest : List ℕ) → text ≡ spelt p ++ rest → 0 < length (spelt p) → ((ps : List Piece) → tokens (p ∷ ps) ≡ tokens ps) →
      ((ps : List Piece) → rest ≡ bytes ps → NextNot is_bracket rest → Spaced ps → Spaced (p ∷ ps)) → NextNot is_bracket text →
      walk k (settle s) (at + length (spelt p)) rest ≡ read cs → Found s text cs
  gap_found p rest h long bare joined nb e =
      let len : length rest < k = omega (arith, short, ap length h, length-append (spelt p) rest, long) in
      let f = more (settle s) (at + length (spelt p)) rest cs len (settle-well s.part s.mode w) (settle-small s.rules s.part s.mode sm) e in
      record {
        pieces = p ∷ f.pieces;
        spaced = joined f.pieces f.whole (f.shut (settled-settled s.mode)) f.spaced;
        whole = h ∙ ap (λ (l : List ℕ). spelt p ++ l) f.whole;
        makes = rw (bare f.pieces) (settle-printed s.rules s.part s.mode (tokens f.pieces) ∙ f.makes);
        shut = λ q. nb;
        small = f.small;
        few = f.few;
      }

  front-found : (f : Front) → Shown text f → from_front s at f (walk k) ≡ read cs → Found s text cs
  front-found (front (token t) rest) h e = token-found t rest h e
  front-found (front (blank b) rest) h e =
      gap_found (blank b) rest h.0 (omega arith) (λ ps. refl) (λ ps q nb sp. ((h.1, rw q at nb), sp)) h.2 e
  front-found (front (comment c) rest) h e =
      gap_found (comment c) rest h.0 (omega arith) (λ ps. refl) (λ ps q nb sp. ((h.1.0, rw q at h.1.1), sp)) h.2 e
  front-found (broken t) h e = broken-not (next s.rules s.part s.mode t) e
    where
      broken-not : (n : Taken) → breaks n at ≡ read cs → Found s text cs
      broken-not (taken n) e = unread e
      broken-not wrong e = unread e
  front-found unexpected h e = unread e

pub sound : (k : ℕ) → Sound k
sound zero s at rest cs l w sm e = absurd (omega arith)
sound (suc k) s at [] cs l w sm e = end-found s.rules s.part s.mode at cs w sm e
sound (suc k) s at (b ∷ rest) cs l w sm e = front-found k (sound k) s at (b ∷ rest) cs l w sm (front_of (b ∷ rest)) (shown (b ∷ rest)) e
