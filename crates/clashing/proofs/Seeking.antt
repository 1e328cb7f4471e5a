-- The search for a formula's place.
use Prim.Native.Nat.{ℕ, zero, suc, ◌+◌, ◌-◌, ◌≤◌, ◌<◌}
use mathlib.Core.Path.{◌≡◌, refl, sym as inv, ap, ap₂, ◌∙◌}
use mathlib.Core.Bool.{Bool, true, false, true≢false}
use mathlib.Core.List.{List, [], ◌∷◌}
use native.Mathlib.Omega.{arith}
use borrow.Author.Tests.{eq-eqb, ne_eqb}
use lib.ListN.{length, drop, length-drop}
use lib.Dec.{eqb}
use Rattle.terms.specs.When.{◌⇒◌∣◌}
use Rattle.terms.specs.Cases.{cases}
use Rattle.grammar.specs.Token.{name, variable, opening, closing, comma, arrow, stop, Piece, token, blank, comment, spelt}
use Rattle.grammar.specs.Front as Front
use Rattle.grammar.specs.Front.{front, piece_before, front_of, pieces_of}
use Rattle.asking.specs.Asking.{Tally, none_yet, counted, with_comma, closed}
use Rattle.pieces.specs.Found.{front_at, Shows}
use Rattle.pieces.specs.declared.Found.{Found}
use Rattle.pieces.specs.declared.Found.TheVariants as F
use Rattle.pieces.specs.Found.{end_of}
use Rattle.reader.proofs.Walks.{piece-end}
use Rattle.texts.specs.declared.places.Sign.{Sign}
use Rattle.texts.specs.declared.places.Sign.TheVariants.{Name, Opening, Closing, Comma, Other, Nothing}
use Rattle.texts.specs.Seek.{sign_of, depth_after}
use Rattle.questions.specs.Outcome.{begins_formula, formula_in, formula_at}
use Rattle.clashing.specs.Seek.{here, outside_after}

-- One piece

abbrev sign : Piece → Sign
sign (token (name w)) = Name
sign (token (variable w)) = Other
sign (token opening) = Opening
sign (token closing) = Closing
sign (token comma) = Comma
sign (token arrow) = Other
sign (token stop) = Other
sign (blank b) = Other
sign (comment c) = Other

-- what is counted behind it
abbrev behind : Tally → Piece → Tally
behind y (token t) = counted y t
behind y (blank b) = y
behind y (comment c) = y

brackets_after : (y : Tally) (p : Piece) → length (behind y p).brackets ≡ depth_after (sign p) (length y.brackets)
brackets_after y (token (name w)) = refl
brackets_after y (token (variable w)) = refl
brackets_after y (token opening) = omega arith
brackets_after y (token closing) = by y.brackets
  where
    by : (bs : List ℕ) → length (closed bs) ≡ length bs - 1
    by [] = refl
    by (b ∷ bs) = omega arith
brackets_after y (token comma) = by y.brackets
  where
    by : (bs : List ℕ) → length (with_comma y.outside bs y.words).brackets ≡ length bs
    by [] = refl
    by (b ∷ bs) = refl
brackets_after y (token arrow) = refl
brackets_after y (token stop) = refl
brackets_after y (blank b) = refl
brackets_after y (comment c) = refl

outside-is : (y : Tally) (p : Piece) → (behind y p).outside ≡ outside_after (sign p) y.outside (length y.brackets)
outside-is y (token (name w)) = refl
outside-is y (token (variable w)) = refl
outside-is y (token opening) = refl
outside-is y (token closing) = refl
outside-is y (token comma) = by y.brackets
  where
    by : (bs : List ℕ) → (with_comma y.outside bs y.words).outside ≡ (eqb (length bs) 0 ⇒ y.outside + 1 ∣ y.outside)
    by [] = omega arith
    by (b ∷ bs) = inv (rw (ne_eqb (suc (length bs)) 0 (λ (e : suc (length bs) ≡ 0). omega arith)))
outside-is y (token arrow) = refl
outside-is y (token stop) = refl
outside-is y (blank b) = refl
outside-is y (comment c) = refl

begins-is : (y : Tally) (k : ℕ) → begins_formula y k ≡ (eqb (length y.brackets) 0 ⇒ eqb y.outside k ∣ false)
begins-is y k = cases (eqb (length y.brackets) 0) (λ t. rw t refl) (λ t. rw t refl)

-- the search goes on behind it
seek-on : (p : Piece) (ps : List Piece) (k : ℕ) (y : Tally) (at : ℕ) → here (sign p) y.outside (length y.brackets) k ≡ false → formula_in k y at (p ∷ ps) ≡ formula_in k (behind y p) (at + length (spelt p)) ps
seek-on (token (name w)) ps k y at h = rw (begins-is y k ∙ h) refl
seek-on (token (variable w)) ps k y at h = refl
seek-on (token opening) ps k y at h = refl
seek-on (token closing) ps k y at h = refl
seek-on (token comma) ps k y at h = refl
seek-on (token arrow) ps k y at h = refl
seek-on (token stop) ps k y at h = refl
seek-on (blank b) ps k y at h = refl
seek-on (comment c) ps k y at h = refl

-- or it ends before it
seek-here : (p : Piece) (ps : List Piece) (k : ℕ) (y : Tally) (at : ℕ) → here (sign p) y.outside (length y.brackets) k ≡ true → formula_in k y at (p ∷ ps) ≡ at
seek-here (token (name w)) ps k y at h = rw (begins-is y k ∙ h) refl
seek-here (token (variable w)) ps k y at h = absurd (true≢false (inv h))
seek-here (token opening) ps k y at h = absurd (true≢false (inv h))
seek-here (token closing) ps k y at h = absurd (true≢false (inv h))
seek-here (token comma) ps k y at h = absurd (true≢false (inv h))
seek-here (token arrow) ps k y at h = absurd (true≢false (inv h))
seek-here (token stop) ps k y at h = absurd (true≢false (inv h))
seek-here (blank b) ps k y at h = absurd (true≢false (inv h))
seek-here (comment c) ps k y at h = absurd (true≢false (inv h))

-- what is found is a piece, or none
data Sort (text : List ℕ) (at : ℕ) (found : Found) : Type 0 where
  piece : (p : Piece) (r : List ℕ) → front_at text at found ≡ front p r → sign_of found ≡ sign p → Sort text at found
  none : ((more : List ℕ → List Piece) → piece_before (front_at text at found) more ≡ []) → sign_of found ≡ Nothing → Sort text at found

sorted : (text : List ℕ) (at : ℕ) (found : Found) → Sort text at found
sorted text at (F.Name end) = piece _ _ refl refl
sorted text at (F.Variable end) = piece _ _ refl refl
sorted text at F.Space = piece _ _ refl refl
sorted text at (F.Comment end) = piece _ _ refl refl
sorted text at F.Opening = piece _ _ refl refl
sorted text at F.Closing = piece _ _ refl refl
sorted text at F.Comma = piece _ _ refl refl
sorted text at F.Arrow = piece _ _ refl refl
sorted text at F.Stop = piece _ _ refl refl
sorted text at F.HalfArrow = none (λ more. refl) refl
sorted text at F.HalfStop = none (λ more. refl) refl
sorted text at F.Nothing = none (λ more. refl) refl

-- The search

pub record Seeking (text : List ℕ) (k outside depth at : ℕ) : Type 0 where
  pub fuel : ℕ
  pub enough : length text - at ≤ fuel
  pub sofar : Tally
  pub outside_are : sofar.outside ≡ outside
  pub depth_is : length sofar.brackets ≡ depth
  pub is : formula_in k sofar at (pieces_of fuel (drop at text)) ≡ formula_at text k
  pub inside : at ≤ length text
  pub low : depth ≤ at
  pub few : outside ≤ at

pub seeking-start : (text : List ℕ) (k : ℕ) → Seeking text k 0 0 0
seeking-start text k =
    record { fuel = length text; enough = omega arith; sofar = none_yet; outside_are = refl; depth_is = refl; is = refl; inside = omega arith; low = omega arith; few = omega arith }

some_left : (fuel : ℕ) (s : List ℕ) → 0 < fuel → pieces_of fuel s ≡ piece_before (front_of s) (λ rest. pieces_of (fuel - 1) rest)
some_left zero s h = absurd (omega arith)
some_left (suc n) s h = ap (λ (i : ℕ). piece_before (front_of s) (λ rest. pieces_of i rest)) (let z : n ≡ suc n - 1 = omega arith in z)

deeper : (x : Sign) (d : ℕ) → depth_after x d ≤ d + 1
deeper Name d = omega arith
deeper Opening d = omega arith
deeper Closing d = omega arith
deeper Comma d = omega arith
deeper Other d = omega arith
deeper Nothing d = omega arith

further : (x : Sign) (o d : ℕ) → outside_after x o d ≤ o + 1
further Name o d = omega arith
further Opening o d = omega arith
further Closing o d = omega arith
further Comma o d = cases (eqb d 0) (λ t. rw t (omega arith)) (λ t. rw t (omega arith))
further Other o d = omega arith
further Nothing o d = omega arith

module _ (text : List ℕ) (k outside depth at : ℕ) (found : Found) (g : Seeking text k outside depth at) (l : at < length text) (shows : Shows text at found) where
  abbrev y : Tally
  y = g.sofar

  goes : formula_in k y at (piece_before (front_at text at found) (λ rest. pieces_of (g.fuel - 1) rest)) ≡ formula_at text k
  goes =
      ap (λ (f : Front.Front). formula_in k y at (piece_before f (λ rest. pieces_of (g.fuel - 1) rest))) shows.says
      ∙ ap (formula_in k y at) (inv (some_left g.fuel (drop at text) (omega (arith, g.enough)))) ∙ g.is

  found-piece : (p : Piece) (r : List ℕ) → front_at text at found ≡ front p r → formula_in k y at (p ∷ pieces_of (g.fuel - 1) r) ≡ formula_at text k
  found-piece p r f = ap (λ (x : Front.Front). formula_in k y at (piece_before x (λ rest. pieces_of (g.fuel - 1) rest))) (inv f) ∙ goes

  here-is : (s : Sign) (p : Piece) → s ≡ sign p → here (sign p) y.outside (length y.brackets) k ≡ here s outside depth k
  here-is s p e = ap (λ (x : Sign). here x y.outside (length y.brackets) k) (inv e) ∙ ap₂ (λ (o d : ℕ). here s o d k) g.outside_are g.depth_is

  pub seeking-here : (s : Sign) (t : Bool) → s ≡ sign_of found → t ≡ here s outside depth k → t ≡ true → at ≡ formula_at text k
  seeking-here s t e h z = by (sorted text at found)
    where
      by : Sort text at found → at ≡ formula_at text k
      by (piece p r f q) = inv (seek-here p (pieces_of (g.fuel - 1) r) k y at (here-is s p (e ∙ q) ∙ inv h ∙ z)) ∙ found-piece p r f
      by (none f q) = ap (formula_in k y at) (inv (f (λ rest. pieces_of (g.fuel - 1) rest))) ∙ goes

  module _ (s : Sign) (t : Bool) (e : s ≡ sign_of found) (h : t ≡ here s outside depth k) (no : t ≡ false) where
    going : (outside' depth' end : ℕ) → outside' ≡ outside_after s outside depth → depth' ≡ depth_after s depth → end ≡ end_of at found → Sort text at found → Seeking text k outside' depth' end × (at < end)
    going outside' depth' end a b c (none f q) = absurd (true≢false (inv (h ∙ ap (λ (x : Sign). here x outside depth k) (e ∙ q)) ∙ no))
    going outside' depth' end a b c (piece p r f q) =
        let z = piece-end text at found p r shows.inside f in
        let on = seek-on p (pieces_of (g.fuel - 1) r) k y at (here-is s p (e ∙ q) ∙ inv h ∙ no) in (
          record {
            fuel = g.fuel - 1;
            enough = omega (arith, g.enough, c, z.onward, z.inside);
            sofar = behind y p;
            outside_are = outside-is y p ∙ ap₂ (λ (o d : ℕ). outside_after (sign p) o d) g.outside_are g.depth_is ∙ ap (λ (x : Sign). outside_after x outside depth) (inv (e ∙ q)) ∙ inv a;
            depth_is = brackets_after y p ∙ ap (depth_after (sign p)) g.depth_is ∙ ap (λ (x : Sign). depth_after x depth) (inv (e ∙ q)) ∙ inv b;
            is =
                ap₂ (λ (i : ℕ) (x : List ℕ). formula_in k (behind y p) i (pieces_of (g.fuel - 1) x)) (c ∙ inv z.length_is) (ap (λ (i : ℕ). drop i text) c ∙ inv z.rest_is)
                ∙ inv on ∙ found-piece p r f;
            inside = omega (arith, c, z.inside);
            low = omega (arith, deeper s depth, b, g.low, c, z.onward);
            few = omega (arith, further s outside depth, a, g.few, c, z.onward);
          },
          omega (arith, c, z.onward),
        )

    pub seeking-next : (outside' depth' end : ℕ) → outside' ≡ outside_after s outside depth → depth' ≡ depth_after s depth → end ≡ end_of at found → Seeking text k outside' depth' end
    seeking-next outside' depth' end a b c = (going outside' depth' end a b c (sorted text at found)).0

    pub seeking-less : (end : ℕ) → end ≡ end_of at found → length text - end < length text - at
    seeking-less end c = let m = (going (outside_after s outside depth) (depth_after s depth) end refl refl c (sorted text at found)).1 in omega arith

pub seeking-end : (text : List ℕ) (k outside depth at : ℕ) → Seeking text k outside depth at → length text ≤ at → at ≡ formula_at text k
seeking-end text k outside depth at g h = inv (over g.fuel (drop at text) (omega (arith, length-drop at text))) ∙ g.is
  where
    over : (n : ℕ) (s : List ℕ) → length s ≡ 0 → formula_in k g.sofar at (pieces_of n s) ≡ at
    over zero s e = refl
    over (suc n) [] e = refl
    over (suc n) (b ∷ s) e = absurd (omega arith)

pub seeking-low : (text : List ℕ) (k outside depth at : ℕ) → Seeking text k outside depth at → length text ≤ 65536 → at ≤ 65536
seeking-low text k outside depth at g h = omega (arith, g.inside)

pub ruleset seeking = (seeking-start, seeking-here, seeking-next, seeking-less, seeking-end, seeking-low)
