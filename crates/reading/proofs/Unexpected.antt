-- "41 unexpected byte (the text's length if it ends early)": the first byte with which no text of the grammar can go on.
use Rattle.std.specs.Prelude.{ℕ, suc, ◌<◌, ◌≡◌, refl, List, [], ◌∷◌, ◌++◌, length, take}
use Rattle.std.proofs.Common.{sym as inv, ap, ap₂, ◌∙◌, append_assoc, arith, length-append}
use Rattle.grammar.specs.Token.{name, variable, opening, closing, comma, arrow, stop, Piece, token, blank, comment, spelt, bytes, Spaced}
use Rattle.grammar.specs.TokenLaws.{Stays, fits-stays, front-is}
use Rattle.grammar.specs.Front.{front, front_of}
use Rattle.grammar.specs.Syntax.{Rule}
use Rattle.grammar.specs.Reading.{Writes}
use Rattle.reading.specs.Part.{between, State, state, start, Taken, taken, wrong, formulas}
use Rattle.reading.proofs.Stop.{SpacedTo, behind_piece, and_then, behind_pieces}
use Rattle.reading.proofs.Viable.{Viable, first-stays}
use Rattle.reading.proofs.GoesLaws.{turned, writes-goes}

-- the first place with which no text goes on, or where this one ends early
pub data Unexpected (text : List ℕ) (i : ℕ) : Type 0 where
  too_early : i ≡ length text → Viable text → ((cs : List Rule) → Writes text cs → ⊥) → Unexpected text i
  no_further : i < length text → Viable (take i text) → (Viable (take (suc i) text) → ⊥) → Unexpected text i

-- Two texts that begin alike have the same pieces there

stays-first : (p : Piece) (b : ℕ) (u v : List ℕ) → Stays p (b ∷ u) → Stays p (b ∷ v)
stays-first (token (name w)) b u v h = h
stays-first (token (variable w)) b u v h = h
stays-first (token opening) b u v h = h
stays-first (token closing) b u v h = h
stays-first (token comma) b u v h = h
stays-first (token arrow) b u v h = h
stays-first (token stop) b u v h = h
stays-first (blank c) b u v h = h
stays-first (comment c) b u v h = h

pub stays-behind : (p : Piece) (z : List ℕ) (b : ℕ) (x y : List ℕ) → Stays p (z ++ b ∷ x) → Stays p (z ++ b ∷ y)
stays-behind p [] b x y h = stays-first p b x y h
stays-behind p (c ∷ z) b x y h = stays-first p c (z ++ b ∷ x) (z ++ b ∷ y) h

pub spaced-tail : (p : Piece) (ps : List Piece) (left : List ℕ) → SpacedTo (p ∷ ps) left → SpacedTo ps left
spaced-tail p [] left h = tt
spaced-tail p (q ∷ ps) left h = h.1

-- pieces that go on behind others
pub record Parted (ps qs : List Piece) (rest : List ℕ) : Type 0 where
  pub more : List Piece
  pub joined : qs ≡ ps ++ more
  pub spaced : Spaced more
  pub whole : bytes more ≡ rest

pub parted : (ps qs : List Piece) (b : ℕ) (x y : List ℕ) → SpacedTo ps (b ∷ x) → Spaced qs → bytes qs ≡ bytes ps ++ b ∷ y → Parted ps qs (b ∷ y)
parted [] qs b x y s t e = record { more = qs; joined = refl; spaced = t; whole = e }
parted (p ∷ ps) [] b x y s t e = absurd (omega (arith, ap length e, length-append (bytes (p ∷ ps)) (b ∷ y)))
parted (p ∷ ps) (q ∷ qs) b x y s t e =
    let f : front q (bytes qs) ≡ front p (bytes ps ++ b ∷ y) =
    inv (front-is q (bytes qs) (fits-stays q (bytes qs) t.0))
    ∙ ap front_of (e ∙ append_assoc (spelt p) (bytes ps) (b ∷ y))
    ∙ front-is p (bytes ps ++ b ∷ y) (stays-behind p (bytes ps) b x y (first-stays p ps (b ∷ x) s)) in
    let g : q ≡ p = cc in
    let h : bytes qs ≡ bytes ps ++ b ∷ y = cc in
    let m = parted ps qs b x y (spaced-tail p ps (b ∷ x) s) t.1 h in
    record { more = m.more; joined = ap₂ ◌∷◌ g m.joined; spaced = m.spaced; whole = m.whole }

behind-append : (ps qs : List Piece) (s n : State) → behind_pieces s ps ≡ taken n → behind_pieces s (ps ++ qs) ≡ behind_pieces n qs
behind-append [] qs s n e = let q : s ≡ n = cc in ap (λ (z : State). behind_pieces z qs) q
behind-append (p ∷ ps) qs s n e = by (behind_piece s p) (λ m h. behind-append ps qs m n h) e
  where
    by : (k : Taken) → ((m : State) → behind_pieces m ps ≡ taken n → behind_pieces m (ps ++ qs) ≡ behind_pieces n qs) → and_then k (λ m. behind_pieces m ps) ≡ taken n →
        and_then k (λ m. behind_pieces m (ps ++ qs)) ≡ behind_pieces n qs
    by (taken m) more e = more m e
    by wrong more e = let z : ◌≡◌ {A = ℕ} 0 1 = cc in absurd (omega arith)

-- a text that begins as this one does has a piece at the place, and it is taken there
pub record Goes_on (n : State) (b : ℕ) (y : List ℕ) : Type 0 where
  pub piece : Piece
  pub rest : List ℕ
  pub stands : front_of (b ∷ y) ≡ front piece rest
  pub takes : behind_piece n piece ≡ wrong → ⊥

going-piece : (n e : State) (ps : List Piece) (b : ℕ) (y : List ℕ) → Spaced ps → bytes ps ≡ b ∷ y → behind_pieces n ps ≡ taken e → Goes_on n b y
going-piece n e [] b y s w h = let z : ◌≡◌ {A = ℕ} 0 1 = cc in absurd (omega arith)
going-piece n e (p ∷ ps) b y s w h =
    record {
      piece = p;
      rest = bytes ps;
      stands = ap front_of (inv w) ∙ front-is p (bytes ps) (fits-stays p (bytes ps) s.0);
      takes = λ (q : behind_piece n p ≡ wrong). let r : wrong ≡ taken e = ap (λ (k : Taken). and_then k (λ m. behind_pieces m ps)) (inv q) ∙ h in let z : ◌≡◌ {A = ℕ} 0 1 = cc in omega arith;
    }

pub going_on : (ps : List Piece) (n : State) (b : ℕ) (x y : List ℕ) (cs : List Rule) → SpacedTo ps (b ∷ x) → behind_pieces start ps ≡ taken n → Writes (bytes ps ++ b ∷ y) cs → Goes_on n b y
going_on ps n b x y cs s h w =
    let m = parted ps w.pieces b x y s w.spaced (inv w.whole) in
    going-piece n (state (turned [] cs) (formulas []) between) m.more b y m.spaced m.whole
    (inv (behind-append ps m.more start n h) ∙ ap (behind_pieces start) (inv m.joined) ∙ writes-goes cs w)
