-- What each refusal says of a query's text, told without the reader.
use Rattle.std.specs.Prelude.{ℕ, ◌+◌, ◌≤◌, ◌<◌, ◌≡◌, ◌⊎◌, List, [], ◌∷◌, ◌++◌, length, eqb}
use Rattle.terms.specs.When.{◌⇒◌∣◌}
use Rattle.grammar.specs.Token.{Token, name, Piece, spelling, bytes, Stands, tokens}
use Rattle.reading.proofs.Stop.{SpacedTo}
use Rattle.reading.proofs.Refusal.{Begins}
use Rattle.asking.specs.Asking.{none_yet}
use Rattle.asking.proofs.Gone.{tallied}
use Rattle.asking.proofs.Unexpected.{Unexpected}

-- A token at a place of the text, behind these
pub record StandsAt (text : List ℕ) (at : ℕ) (ts : List Token) (t : Token) : Type 0 where
  pub pieces : List Piece
  pub rest : List ℕ
  pub whole : text ≡ bytes pieces ++ (spelling t ++ rest)
  pub spaced : SpacedTo pieces (spelling t ++ rest)
  pub stands : Stands t rest
  pub place : at ≡ length (bytes pieces)
  pub behind : ts ≡ tokens pieces

-- 8 commas stand in the innermost open bracket, or 512 outside all brackets: what comes is the 9th argument, or the 513th formula
abbrev pub Full : ℕ → List ℕ → Type 0
Full a [] = 512 ≤ a
Full a (b ∷ bs) = 8 ≤ b

-- a name or a variable is an argument or a formula, and a node
pub data Fault (text : List ℕ) : ℕ → ℕ → Type 0 where
  unexpected_byte : {i : ℕ} → Unexpected text i → Fault text 41 i
  longest_name : {at : ℕ} {ts : List Token} {w : List ℕ} → StandsAt text at ts (name w) → 33 ≤ length w → Fault text 42 (at + 32)
  out_of_range : {at : ℕ} {ts : List Token} {t : Token} → StandsAt text at ts t → Begins t → Full (tallied none_yet ts).outside (tallied none_yet ts).brackets → Fault text 14 at
  nodes_passed : {at : ℕ} {ts : List Token} {t : Token} → StandsAt text at ts t → Begins t → 4096 ≤ (tallied none_yet ts).words → Fault text 15 at

-- "the one that stands first in the text"; at one byte 41, then "14 before 15"
abbrev pub rank : ℕ → ℕ
rank c = eqb c 41 ⇒ 0 ∣ c

abbrev pub Ahead : ℕ → ℕ → ℕ → ℕ → Type 0
Ahead c i d j = (i < j) ⊎ ((i ≡ j) × (rank c ≤ rank d))

pub record First (text : List ℕ) (c i : ℕ) : Type 0 where
  pub there : Fault text c i
  pub ahead : (d j : ℕ) → Fault text d j → Ahead c i d j

pub data Refusal (text : List ℕ) : ℕ → ℕ → Type 0 where
  long_text : 65536 < length text → Refusal text 40 0
  first_fault : {c i : ℕ} → length text ≤ 65536 → First text c i → Refusal text c i
