-- Where and why the reader stops: what stands before the place, and what is wrong there.
use Rattle.std.specs.Prelude.{ℕ, suc, ◌+◌, ◌≡◌, true, List, [], ◌∷◌, ◌++◌, length}
use Rattle.grammar.specs.Byte.{is_bracket, NextNot}
use Rattle.grammar.specs.Token.{Token, Piece, token, blank, comment, bytes, Fits}
use Rattle.grammar.specs.TokenLaws.{Stays}
use Rattle.grammar.specs.Front.{front, broken, nothing, class, front_of}
use Rattle.reading.specs.Part.{between, State, Taken, taken, wrong, next, settle}
use Rattle.reading.specs.Reader.{limit, long}
use Rattle.reading.specs.Limits.{SmallState}
use Rattle.reading.proofs.SoundLaws.{Settled}

-- pieces one behind the other, and what is left behind them
abbrev pub SpacedTo : List Piece → List ℕ → Type 0
SpacedTo [] left = Unit {0}
SpacedTo (p ∷ []) left = Stays p left
SpacedTo (p ∷ q ∷ ps) left = Fits p (bytes (q ∷ ps) ++ left) × SpacedTo (q ∷ ps) left

-- the state behind a piece, whatever its sizes, and behind several
abbrev pub behind_piece : State → Piece → Taken
behind_piece s (token t) = next s.rules s.part s.mode t
behind_piece s (blank b) = taken (settle s)
behind_piece s (comment c) = taken (settle s)

abbrev pub and_then : Taken → (State → Taken) → Taken
and_then (taken s) more = more s
and_then wrong more = wrong

abbrev pub behind_pieces : State → List Piece → Taken
behind_pieces s [] = taken s
behind_pieces s (p ∷ ps) = and_then (behind_piece s p) (λ n. behind_pieces n ps)

-- What is wrong at a place, before what is left of the text: its code, and its own place
pub data Fault (s : State) (at : ℕ) (left : List ℕ) : ℕ → ℕ → Type 0 where
  early : left ≡ [] → (s.mode ≡ between → ⊥) → Fault s at left 41 at
  strange : {b : ℕ} {x : List ℕ} → left ≡ b ∷ x → class b ≡ nothing → Fault s at left 41 at
  misplaced : {b : ℕ} {x r : List ℕ} {t : Token} → left ≡ b ∷ x → front_of (b ∷ x) ≡ front (token t) r → next s.rules s.part s.mode t ≡ wrong → Fault s at left 41 at
  half_misplaced : {b : ℕ} {x : List ℕ} {t : Token} → left ≡ b ∷ x → front_of (b ∷ x) ≡ broken t → next s.rules s.part s.mode t ≡ wrong → Fault s at left 41 at
  half : {b : ℕ} {x : List ℕ} {t : Token} {n : State} → left ≡ b ∷ x → front_of (b ∷ x) ≡ broken t → next s.rules s.part s.mode t ≡ taken n → Fault s at left 41 (at + 1)
  long_name : {t : Token} {r : List ℕ} {n : State} → front_of left ≡ front (token t) r → next s.rules s.part s.mode t ≡ taken n →
      limit s.rules s.part t ≡ 0 → long t ≡ true → Fault s at left 42 (at + 32)
  too_many : {t : Token} {r : List ℕ} {n : State} {c : ℕ} → front_of left ≡ front (token t) r → next s.rules s.part s.mode t ≡ taken n →
      limit s.rules s.part t ≡ suc c → Fault s at left (suc c) at

abbrev pub Begun : List Piece → Type 0
Begun [] = ⊥
Begun (p ∷ ps) = Unit {0}

-- from a state on, the reader goes through pieces that keep to the sizes, and stops behind them
pub record Stops (s : State) (at : ℕ) (rest : List ℕ) (code place : ℕ) : Type 0 where
  pub pieces : List Piece
  pub left : List ℕ
  pub to : State
  pub whole : rest ≡ bytes pieces ++ left
  pub spaced : SpacedTo pieces left
  pub shut : Settled s.mode → Begun pieces → NextNot is_bracket rest
  pub reaches : behind_pieces s pieces ≡ taken to
  pub small : SmallState to
  pub fault : Fault to (at + length (bytes pieces)) left code place
