-- The row on the heap, and the move by the first clause that fits.
use Prim.Native.Nat.{ℕ, ◌+◌, ◌<◌, ◌≤◌}
use native.Mathlib.Omega.{arith}
use native.Mathlib.Decide.{ℕ_discrete}
use mathlib.Core.Path.{◌≡◌, refl, sym as inv, ap, ap₂, ◌∙◌, subst}
use mathlib.Core.List.{List, [], ◌∷◌, map}
use lib.ListN.{length, take, length-drop, length-take}
use lib.Seq.{take-take, take_at, length-take-le}
use Rattle.terms.specs.Node.{Expr}
use Rattle.search.specs.Next.{Book, Goal}
use Rattle.words.specs.Word.{kind_of}
use Rattle.words.specs.Held.{RowIn, BookOn}
use Rattle.numbering.specs.Naming.{spare}
use Rattle.picking.specs.Laying.{moved, Appended}
use Rattle.picking.specs.Picking.{Picked}
use Rattle.picking.proofs.Appends.{moved-var, moved_plain}
use Rattle.resolve.proofs.Advances.{moves}
use Rattle.matching.specs.Binding.{Trailed}
use Rattle.trials.specs.Trying.{Undoable, Fronted, clause_words, HeldTrial, Sought}
use Rattle.trying.specs.Stepping.{Shaped, IsSetUp, Quickly, Quickened}
use Rattle.trials.specs.declared.Found.{Found}
use Rattle.trying.specs.declared.stepping.Shape.{Shape}
use Rattle.std.specs.declared.option.Option.{Option}
use Rattle.std.specs.declared.option.Option.TheVariants.{None, Some}
use Rattle.resolve.specs.declared.Move.{Move}

-- A copy.

moved_none : (u : ℕ) → moved 0 u ≡ u
moved_none u = elim (ℕ_discrete (kind_of u) 1) [ yes k ↦ moved-var 0 u k ∙ (omega arith) | no n ↦ moved_plain 0 u n ]

moved_nothing : (l : List ℕ) → map (moved 0) l ≡ l
moved_nothing [] = refl
moved_nothing (u ∷ l) = ap₂ ◌∷◌ (moved_none u) (moved_nothing l)

pub copied : {words row z : List ℕ} {r : ℕ} → Appended words 0 row 0 z r → (n : ℕ) → n ≡ length row → take n z ≡ row
copied {words} {row} {z} {r} p n e = let s : n ≡ r = omega (arith, e, p.end) in ap (λ i. take i z) s ∙ p.front ∙ moved_nothing row

pub row_small : {row : List ℕ} {w n : ℕ} {g a : Goal} → RowIn row w n g a → length row ≤ 8192
row_small {row} {w} p = omega (arith, p.goal.size, p.answer.size, length-take-le w row p.within, length-drop w row)

-- The row's shape.

module _ (words : List ℕ) (x : Shape) {f : Expr} {g a : Goal} (s : Shaped (take x.row words) x f g a) where
  pub fronted : Fronted words x.row x.first f g a
  fronted = record { goal = x.goal; formulas = x.formulas; row = s.row; first = s.first; within = short x.row words s.long }
    where
      short : (n : ℕ) (l : List ℕ) → length (take n l) ≡ n → n ≤ length l
      short n l e = omega (arith, e, length-take n l)

  module _ {P : Book} {book shelf : List ℕ} (o : BookOn book shelf P) (z cells tables : List ℕ) (v : Option Found) (y : Sought P f book shelf (take x.row words) z cells tables x.row v) (r : Found) (e : v ≡ Some r) where
    found : Picked f P 0 r.clause × (r.clause < length P) × HeldTrial (take x.row words) (clause_words book shelf (length P) r.clause) z cells tables x.row r.count
    found = subst (Sought P f book shelf (take x.row words) z cells tables x.row) e y

    row_still : take x.row z ≡ take x.row words
    row_still =
        let c = clause_words book shelf (length P) r.clause in
        inv (take-take x.row (x.row + length c) z (omega arith)) ∙ ap (take x.row) found.2.front ∙ take_at (take x.row words) (map (moved 8192) c) x.row s.long

    pub set-up : IsSetUp book shelf z cells tables x r.clause r.count P f g a
    set-up = record {
      on = o;
      inside = found.1;
      shaped = subst (λ w. Shaped w x f g a) (inv row_still) s;
      trial = subst (λ w. HeldTrial w (clause_words book shelf (length P) r.clause) z cells tables x.row r.count) (inv row_still) found.2;
    }

    pub trial-undoable : {later : List ℕ} → spare later ≡ spare tables → Undoable cells later r.count
    trial-undoable {later} same = let u = found.2.fitted.undoable in record {
      before = u.before;
      free = u.free;
      trailed = subst (λ t. Trailed u.before cells (take 8448 t) 8192 r.count) (inv same) u.trailed;
      few = u.few;
    }

    pub quickened : (out : List ℕ) (m : Option Move) → Quickly P r.clause f g a out m → Quickened P (f ∷ g) a out m
    quickened out None q = tt
    quickened out (Some m) q = moves o f g s.row.goal r.clause found.0 found.1 a s.row.answer.formulas out m q
