-- How far the reader of a query goes, and why it ends there.
use Rattle.std.specs.Prelude.{ℕ, suc, ◌+◌, ◌≡◌, true, List, [], ◌∷◌, ◌++◌, length}
use Rattle.grammar.specs.Byte.{is_bracket, NextNot}
use Rattle.grammar.specs.Token.{Token, Piece, token, blank, comment, bytes, tokens}
use Rattle.grammar.specs.Front.{front, broken, nothing, class, front_of}
use Rattle.grammar.specs.Syntax.{Formula}
use Rattle.reading.specs.Part.{State, Taken, taken, wrong, settle}
use Rattle.reading.specs.Reader.{long}
use Rattle.reading.proofs.SoundLaws.{Settled}
use Rattle.reading.proofs.Stop.{SpacedTo, and_then, Begun}
use Rattle.asking.specs.Asking.{step, goal, unfinished, meaning, Tally, counted, limit, Outcome, read, refused}
use Rattle.asking.proofs.WithinLaws.{Within}

-- the state behind a piece, whatever its sizes, and behind several
abbrev pub behind_piece : State → Piece → Taken
behind_piece s (token t) = step s t
behind_piece s (blank b) = taken (settle s)
behind_piece s (comment c) = taken (settle s)

abbrev pub behind_pieces : State → List Piece → Taken
behind_pieces s [] = taken s
behind_pieces s (p ∷ ps) = and_then (behind_piece s p) (λ n. behind_pieces n ps)

abbrev pub tallied : Tally → List Token → Tally
tallied y [] = y
tallied y (t ∷ ts) = tallied (counted y t) ts

-- What ends the reading at a place, before what is left of the text
pub data Final (s : State) (y : Tally) (at : ℕ) (left : List ℕ) : Outcome → Type 0 where
  finished : {fs : List Formula} → left ≡ [] → meaning s ≡ goal fs → Final s y at left (read fs)
  early : left ≡ [] → meaning s ≡ unfinished → Final s y at left (refused 41 at)
  strange : {b : ℕ} {x : List ℕ} → left ≡ b ∷ x → class b ≡ nothing → Final s y at left (refused 41 at)
  misplaced : {b : ℕ} {x r : List ℕ} {t : Token} → left ≡ b ∷ x → front_of (b ∷ x) ≡ front (token t) r → step s t ≡ wrong → Final s y at left (refused 41 at)
  half_misplaced : {b : ℕ} {x : List ℕ} {t : Token} → left ≡ b ∷ x → front_of (b ∷ x) ≡ broken t → step s t ≡ wrong → Final s y at left (refused 41 at)
  half : {b : ℕ} {x : List ℕ} {t : Token} {n : State} → left ≡ b ∷ x → front_of (b ∷ x) ≡ broken t → step s t ≡ taken n → Final s y at left (refused 41 (at + 1))
  long_name : {t : Token} {r : List ℕ} {n : State} → front_of left ≡ front (token t) r → step s t ≡ taken n → limit y t ≡ 0 → long t ≡ true → Final s y at left (refused 42 (at + 32))
  too_many : {t : Token} {r : List ℕ} {n : State} {c : ℕ} → front_of left ≡ front (token t) r → step s t ≡ taken n → limit y t ≡ suc c → Final s y at left (refused (suc c) at)

-- from a state on, the reader goes through pieces that keep to the sizes, and ends behind them
pub record Gone (s : State) (y : Tally) (at : ℕ) (rest : List ℕ) (o : Outcome) : Type 0 where
  pub pieces : List Piece
  pub left : List ℕ
  pub to : State
  pub whole : rest ≡ bytes pieces ++ left
  pub spaced : SpacedTo pieces left
  pub shut : Settled s.mode → Begun pieces → NextNot is_bracket rest
  pub reaches : behind_pieces s pieces ≡ taken to
  pub within : Within y (tokens pieces)
  pub final : Final to (tallied y (tokens pieces)) (at + length (bytes pieces)) left o
