-- The search for a formula's place.
use Prim.Native.Nat.{ℕ, zero, suc, ◌+◌, ◌-◌, ◌≤◌, ◌<◌}
use mathlib.Core.Path.{◌≡◌, refl, sym as inv, ap, ap₂, ◌∙◌}
use mathlib.Core.Bool.{Bool, true, false, true≢false}
use mathlib.Core.List.{List, [], ◌∷◌}
use native.Mathlib.Omega.{arith}
use borrow.Author.Tests.{ne_eqb}
use lib.ListN.{length, drop, length-drop}
use Rattle.grammar.specs.Token.{name, variable, opening, closing, comma, arrow, stop, Piece, token, blank, comment, spelt}
use Rattle.grammar.specs.Front as Front
use Rattle.grammar.specs.Front.{front, piece_before, front_of, pieces_of}
use Rattle.pieces.specs.Found.{front_at, Shows}
use Rattle.pieces.specs.declared.Found.{Found}
use Rattle.pieces.specs.declared.Found.TheVariants as F
use Rattle.pieces.specs.Found.{end_of}
use Rattle.reader.proofs.Walks.{piece-end}
use Rattle.readouts.specs.Place.{seek, formula_place}
use Rattle.texts.specs.declared.places.Sign.{Sign}
use Rattle.texts.specs.declared.places.Sign.TheVariants.{Name, Opening, Closing, Comma, Other, Nothing}
use Rattle.texts.specs.Seek.{sign_of, here, left_after, depth_after}

-- One piece

abbrev sign : Piece → Sign
sign (token (name w)) = Name
sign (token (variable w)) = Other
sign (token opening) = Opening
sign (token closing) = Closing
sign (token comma) = Comma
sign (token arrow) = Other
sign (token stop) = Other
sign (blank b) = Other
sign (comment c) = Other

-- the search goes on behind it
seek-on : (p : Piece) (ps : List Piece) (k d at : ℕ) → here (sign p) k d ≡ false → seek k d at (p ∷ ps) ≡ seek (left_after (sign p) k d) (depth_after (sign p) d) (at + length (spelt p)) ps
seek-on (token (name w)) ps k (suc d) at h = rw (ne_eqb (suc d) 0 (λ (e : suc d ≡ 0). omega arith)) refl
seek-on (token (name w)) ps (suc k) zero at h = ap (λ (i : ℕ). seek i 0 (at + length w) ps) (let z : k ≡ suc k - 1 = omega arith in z)
seek-on (token (name w)) ps zero zero at h = absurd (true≢false h)
seek-on (token (variable w)) ps k d at h = refl
seek-on (token opening) ps k d at h = ap (λ (i : ℕ). seek k i (at + 1) ps) (let z : suc d ≡ d + 1 = omega arith in z)
seek-on (token closing) ps k d at h = refl
seek-on (token comma) ps k d at h = refl
seek-on (token arrow) ps k d at h = refl
seek-on (token stop) ps k d at h = refl
seek-on (blank b) ps k d at h = refl
seek-on (comment c) ps k d at h = refl

-- or it ends before it
seek-here : (p : Piece) (ps : List Piece) (k d at : ℕ) → here (sign p) k d ≡ true → seek k d at (p ∷ ps) ≡ at
seek-here (token (name w)) ps k (suc d) at h = absurd (true≢false (inv (rw (ne_eqb (suc d) 0 (λ (e : suc d ≡ 0). omega arith)) at h)))
seek-here (token (name w)) ps (suc k) zero at h = absurd (true≢false (inv (rw (ne_eqb (suc k) 0 (λ (e : suc k ≡ 0). omega arith)) at h)))
seek-here (token (name w)) ps zero zero at h = refl
seek-here (token (variable w)) ps k d at h = absurd (true≢false (inv h))
seek-here (token opening) ps k d at h = absurd (true≢false (inv h))
seek-here (token closing) ps k d at h = absurd (true≢false (inv h))
seek-here (token comma) ps k d at h = absurd (true≢false (inv h))
seek-here (token arrow) ps k d at h = absurd (true≢false (inv h))
seek-here (token stop) ps k d at h = absurd (true≢false (inv h))
seek-here (blank b) ps k d at h = absurd (true≢false (inv h))
seek-here (comment c) ps k d at h = absurd (true≢false (inv h))

-- what is found is a piece, or none
data Sort (text : List ℕ) (at : ℕ) (found : Found) : Type 0 where
  piece : (p : Piece) (r : List ℕ) → front_at text at found ≡ front p r → sign_of found ≡ sign p → Sort text at found
  none : ((more : List ℕ → List Piece) → piece_before (front_at text at found) more ≡ []) → sign_of found ≡ Nothing → Sort text at found

sorted : (text : List ℕ) (at : ℕ) (found : Found) → Sort text at found
sorted text at (F.Name end) = piece _ _ refl refl
sorted text at (F.Variable end) = piece _ _ refl refl
sorted text at F.Space = piece _ _ refl refl
sorted text at (F.Comment end) = piece _ _ refl refl
sorted text at F.Opening = piece _ _ refl refl
sorted text at F.Closing = piece _ _ refl refl
sorted text at F.Comma = piece _ _ refl refl
sorted text at F.Arrow = piece _ _ refl refl
sorted text at F.Stop = piece _ _ refl refl
sorted text at F.HalfArrow = none (λ more. refl) refl
sorted text at F.HalfStop = none (λ more. refl) refl
sorted text at F.Nothing = none (λ more. refl) refl

-- The search

pub record Seeking (text : List ℕ) (k left depth at : ℕ) : Type 0 where
  pub fuel : ℕ
  pub enough : length text - at ≤ fuel
  pub is : seek left depth at (pieces_of fuel (drop at text)) ≡ formula_place text k
  pub inside : at ≤ length text
  pub low : depth ≤ at

pub seeking-start : (text : List ℕ) (k : ℕ) → Seeking text k k 0 0
unfolding formula_place
seeking-start text k = record { fuel = length text; enough = omega arith; is = refl; inside = omega arith; low = omega arith }

some_left : (fuel : ℕ) (s : List ℕ) → 0 < fuel → pieces_of fuel s ≡ piece_before (front_of s) (λ rest. pieces_of (fuel - 1) rest)
some_left zero s h = absurd (omega arith)
some_left (suc n) s h = ap (λ (i : ℕ). piece_before (front_of s) (λ rest. pieces_of i rest)) (let z : n ≡ suc n - 1 = omega arith in z)

module _ (text : List ℕ) (k left depth at : ℕ) (found : Found) (g : Seeking text k left depth at) (l : at < length text) (shows : Shows text at found) where
  goes : seek left depth at (piece_before (front_at text at found) (λ rest. pieces_of (g.fuel - 1) rest)) ≡ formula_place text k
  goes =
      ap (λ (f : Front.Front). seek left depth at (piece_before f (λ rest. pieces_of (g.fuel - 1) rest))) shows.says
      ∙ ap (seek left depth at) (inv (some_left g.fuel (drop at text) (omega (arith, g.enough)))) ∙ g.is

  found-piece : (p : Piece) (r : List ℕ) → front_at text at found ≡ front p r → seek left depth at (p ∷ pieces_of (g.fuel - 1) r) ≡ formula_place text k
  found-piece p r f = ap (λ (x : Front.Front). seek left depth at (piece_before x (λ rest. pieces_of (g.fuel - 1) rest))) (inv f) ∙ goes

  pub seeking-here : (s : Sign) (t : Bool) → s ≡ sign_of found → t ≡ here s left depth → t ≡ true → at ≡ formula_place text k
  seeking-here s t e h y = by (sorted text at found)
    where
      by : Sort text at found → at ≡ formula_place text k
      by (piece p r f q) = inv (seek-here p (pieces_of (g.fuel - 1) r) left depth at (ap (λ (x : Sign). here x left depth) (inv (e ∙ q)) ∙ inv h ∙ y)) ∙ found-piece p r f
      by (none f q) = ap (seek left depth at) (inv (f (λ rest. pieces_of (g.fuel - 1) rest))) ∙ goes

  module _ (s : Sign) (t : Bool) (e : s ≡ sign_of found) (h : t ≡ here s left depth) (no : t ≡ false) where
    going : (left' depth' end : ℕ) → left' ≡ left_after s left depth → depth' ≡ depth_after s depth → end ≡ end_of at found → Sort text at found →
        Seeking text k left' depth' end × (at < end)
    going left' depth' end a b c (none f q) = absurd (true≢false (inv (h ∙ ap (λ (x : Sign). here x left depth) (e ∙ q)) ∙ no))
    going left' depth' end a b c (piece p r f q) =
        let z = piece-end text at found p r shows.inside f in
        let on = seek-on p (pieces_of (g.fuel - 1) r) left depth at (ap (λ (x : Sign). here x left depth) (inv (e ∙ q)) ∙ inv h ∙ no) in
        let l-is : left' ≡ left_after (sign p) left depth = a ∙ ap (λ (x : Sign). left_after x left depth) (e ∙ q) in
        let d-is : depth' ≡ depth_after (sign p) depth = b ∙ ap (λ (x : Sign). depth_after x depth) (e ∙ q) in
        let same : seek left' depth' end (pieces_of (g.fuel - 1) (drop end text)) ≡ formula_place text k =
        ap₂ (λ (i j : ℕ). seek i j end (pieces_of (g.fuel - 1) (drop end text))) l-is d-is
        ∙ ap₂ (λ (i : ℕ) (x : List ℕ). seek (left_after (sign p) left depth) (depth_after (sign p) depth) i (pieces_of (g.fuel - 1) x)) (c ∙ inv z.length_is) (ap (λ (i : ℕ). drop i text) c ∙ inv z.rest_is)
        ∙ inv on ∙ found-piece p r f in
        (record { fuel = g.fuel - 1; enough = omega (arith, g.enough, c, z.onward, z.inside); is = same; inside = omega (arith, c, z.inside); low = omega (arith, deeper s depth, b, g.low, c, z.onward) }, omega (arith, c, z.onward))
      where
        deeper : (x : Sign) (d : ℕ) → depth_after x d ≤ d + 1
        deeper Name d = omega arith
        deeper Opening d = omega arith
        deeper Closing d = omega arith
        deeper Comma d = omega arith
        deeper Other d = omega arith
        deeper Nothing d = omega arith

    pub seeking-next : (left' depth' end : ℕ) → left' ≡ left_after s left depth → depth' ≡ depth_after s depth → end ≡ end_of at found → Seeking text k left' depth' end
    seeking-next left' depth' end a b c = (going left' depth' end a b c (sorted text at found)).0

    pub seeking-less : (end : ℕ) → end ≡ end_of at found → length text - end < length text - at
    seeking-less end c = let m = (going (left_after s left depth) (depth_after s depth) end refl refl c (sorted text at found)).1 in omega arith

pub seeking-end : (text : List ℕ) (k left depth at : ℕ) → Seeking text k left depth at → length text ≤ at → at ≡ formula_place text k
seeking-end text k left depth at g h = inv (over g.fuel (drop at text) (omega (arith, length-drop at text))) ∙ g.is
  where
    over : (n : ℕ) (s : List ℕ) → length s ≡ 0 → seek left depth at (pieces_of n s) ≡ at
    over zero s e = refl
    over (suc n) [] e = refl
    over (suc n) (b ∷ s) e = absurd (omega arith)

pub seeking-low : (text : List ℕ) (k left depth at : ℕ) → Seeking text k left depth at → length text ≤ 65536 → at ≤ 65536
seeking-low text k left depth at g h = omega (arith, g.inside)
