-- A heap that is a part of a longer one: its rows are the same there, and so is what they stand for.
use Prim.Native.Nat.{ℕ, zero, suc, ◌+◌, ◌-◌, ◌<◌}
use native.Mathlib.Omega.{arith}
use mathlib.Core.Path.{◌≡◌, refl, sym as inv, ap, ap₂, ◌∙◌, subst}
use mathlib.Core.List.{List, [], ◌∷◌, ◌++◌, map-append, append_assoc}
use lib.ListN.{length, take, drop, length-append, length-map, take-append-drop, get_or-append}
use lib.Seq.{drop-append-le}
use Rattle.terms.specs.Node.{var, sym, Expr}
use Rattle.terms.specs.Rename.{rename}
use Rattle.terms.specs.Row.{Row, span, Formulas}
use Rattle.terms.specs.RowLaws.{first-row}
use Rattle.terms.specs.Subst.{Subst, apply}
use Rattle.terms.specs.Argument.{firsts}
use Rattle.search.specs.Next.{Goal}
use Rattle.words.specs.Word.{kind_of, Fits, node, nodes}
use Rattle.words.specs.Flat.{flat}
use Rattle.heap.specs.Heap.{rows, Whole, Made, Solves, Solved}
use Rattle.heap.specs.HeapLaws.{rows_none, row_inside, first-whole, rest-whole}
use Rattle.heap.specs.Walking.{level_at, level_due, Levels}
use Rattle.heapgoals.specs.Holding.{listed, waiting}
use Rattle.trials.proofs.Heaps.{piece}

module _ (heap more : List ℕ) where
  abbrev longer : List ℕ
  longer = heap ++ more

  pub same_rows : (k p : ℕ) → Whole heap k p → rows longer k p ≡ rows heap k p
  same_rows zero p w = rows_none longer p ∙ inv (rows_none heap p)
  same_rows (suc k) p w =
      let e = drop p (nodes heap) in
      ap (λ x. firsts (suc k) (drop p x)) (map-append node heap more)
      ∙ ap (firsts (suc k)) (drop-append-le p (nodes heap) (nodes more) (omega (arith, row_inside heap k p w, length-map heap node))
      ∙ ap (λ x. x ++ nodes more) (inv (take-append-drop (span (suc k) e) e)) ∙ append_assoc (firsts (suc k) e) (drop (span (suc k) e) e) (nodes more))
      ∙ first-row w (drop (span (suc k) e) e ++ nodes more)

  pub still_whole : (k p : ℕ) → Whole heap k p → Whole longer k p
  still_whole k p w = subst (Row k) (inv (same_rows k p w)) w

  pub same-listed : (k p : ℕ) → Whole heap k p → listed longer k p ≡ listed heap k p
  same-listed zero p w = refl
  same-listed (suc k) p w =
      let e = same_rows 1 p (first-whole heap k p w) in
      ap₂ ◌∷◌ e (ap (λ x. listed longer k (p + length x)) e ∙ same-listed k (p + length (rows heap 1 p)) (rest-whole heap k p w refl))

  pub same-waiting : (levels : List ℕ) (n : ℕ) → Levels heap levels n → waiting longer levels n ≡ waiting heap levels n
  same-waiting levels zero l = refl
  same-waiting levels (suc n) l = ap₂ ◌++◌ (same-listed (level_due levels n) (level_at levels n) (l n (omega arith)).0) (same-waiting levels n (λ i h. l i (omega arith)))

  pub still_levels : (levels : List ℕ) (n : ℕ) → Levels heap levels n → Levels longer levels n
  still_levels levels n l i h = (still_whole (level_due levels i) (level_at levels i) (l i h).0, (l i h).1)

  module _ {cells : List ℕ} (made : Made heap cells) where
    pub still_made : Fits (length cells) longer → length longer < 65536 → Made longer cells
    still_made fits short = record {
      fits = fits;
      short = short;
      whole = λ v p e. still_whole 1 p (made.whole v p e);
      lower = λ v p e k. let same = get_or-append heap more 0 p (row_inside heap 0 p (made.whole v p e)) in omega (arith, same, made.lower v p e (ap kind_of (inv same) ∙ k));
    }

    pub still_solves : {τ : Subst} → Solves heap cells τ → Solves longer cells τ
    still_solves {τ} s = record { proper = s.proper; stands = λ v p e. s.stands v p e ∙ ap (apply τ) (inv (same_rows 1 p (made.whole v p e))) }

    pub still_solved : {θ : Subst} → Solved heap cells θ → Solved longer cells θ
    still_solved s = record { solves = still_solves s.solves; free = s.free }

-- formulas one behind the other, each by itself
pub listed_here : (heap : List ℕ) (x : Expr) (g : Goal) (z : Expr) (k p : ℕ) → nodes heap ≡ x ++ (flat g ++ z) → Formulas g → k ≡ length g → p ≡ length x → listed heap k p ≡ g
listed_here heap x [] z zero p is r e at = refl
listed_here heap x [] z (suc k) p is r e at = absurd (omega (arith, e))
listed_here heap x (f ∷ g) z zero p is r e at = absurd (omega (arith, e))
listed_here heap x (f ∷ g) z (suc k) p is r e at =
    let here = piece heap x f (flat g ++ z) (is ∙ ap (λ y. x ++ y) (append_assoc f (flat g) z)) 1 p r.0 at in
    ap₂ ◌∷◌ here (ap (λ y. listed heap k (p + length y)) here
    ∙ listed_here heap (x ++ f) g z k (p + length f) (is ∙ ap (λ y. x ++ y) (append_assoc f (flat g) z) ∙ inv (append_assoc x f (flat g ++ z))) r.1 (omega (arith, e)) (omega (arith, at, length-append x f)))

-- a part from the front on, as it is lent
pub part-front : (m : ℕ) (l : List ℕ) → take (m - 0) (drop 0 l) ≡ take m l
part-front m l = let n : m - 0 ≡ m = omega arith in ap (λ n. take n l) n

pub rename-length : (ρ : ℕ → ℕ) (e : Expr) → length (rename ρ e) ≡ length e
rename-length ρ [] = refl
rename-length ρ (var v ∷ e) = ap suc (rename-length ρ e)
rename-length ρ (sym s ∷ e) = ap suc (rename-length ρ e)
