-- Rows each by themselves: as many as they are, one behind the other, and their variables.
use Rattle.std.specs.Prelude.{ℕ, zero, suc, ◌+◌, ◌<◌, ◌≡◌, refl, ◌⊎◌, List, [], ◌∷◌, ◌++◌, map, length, take, drop}
use Rattle.std.proofs.Common.{arith, sym as inv, ap, ap₂, ◌∙◌, subst, inl, inr}
use Rattle.std.proofs.lemmas.List.{map-append}
use Rattle.terms.specs.Row.{span}
use Rattle.terms.specs.Subst.{In, InAny, Subst, apply, itself}
use Rattle.terms.specs.SubstLaws.{in-apply}
use Rattle.search.specs.Next.{Goal}
use Rattle.words.specs.Word.{Fit, Fits, nodes}
use Rattle.words.specs.WordLaws.{in-fits, each_take, each-drop, nodes-take, nodes-drop}
use Rattle.words.specs.Flat.{flat, flat_append, flat-apply}
use Rattle.heap.specs.Heap.{rows, Whole, Made, Solved}
use Rattle.heap.specs.HeapLaws.{rows_none, rest-whole, rows-first}
use Rattle.heap.proofs.SolvedLaws.{solved_induction}
use Rattle.heap.specs.Walking.{level_at, level_due, Levels, behind}
use Rattle.heapgoals.specs.Holding.{listed, waiting}

pub listed-length : (heap : List ℕ) (k p : ℕ) → length (listed heap k p) ≡ k
listed-length heap zero p = refl
listed-length heap (suc k) p = ap suc (listed-length heap k (p + length (rows heap 1 p)))

pub listed-flat : (heap : List ℕ) (k p : ℕ) → Whole heap k p → flat (listed heap k p) ≡ rows heap k p
listed-flat heap zero p r = inv (rows_none heap p)
listed-flat heap (suc k) p r = ap (λ e. rows heap 1 p ++ e) (listed-flat heap k (p + length (rows heap 1 p)) (rest-whole heap k p r refl)) ∙ inv (rows-first heap k p r refl)

pub waiting-flat : (heap levels : List ℕ) (θ : Subst) (n : ℕ) → Levels heap levels n → flat (map (apply θ) (waiting heap levels n)) ≡ behind heap levels θ n
waiting-flat heap levels θ zero l = refl
waiting-flat heap levels θ (suc n) l =
    let top = listed heap (level_due levels n) (level_at levels n) in
    ap flat (map-append (apply θ) top (waiting heap levels n)) ∙ flat_append (map (apply θ) top) (map (apply θ) (waiting heap levels n))
    ∙ ap₂ ◌++◌ (flat-apply θ top ∙ ap (apply θ) (listed-flat heap (level_due levels n) (level_at levels n) (l n (omega arith)).0)) (waiting-flat heap levels θ n (λ i h. l i (omega arith)))

-- The variables of rows are those of words.

pub in-row-low : {b : ℕ} (heap : List ℕ) → Fits b heap → (k p v : ℕ) → In v (rows heap k p) → v < b
in-row-low {b} heap f k p v i =
    let n = span k (drop p (nodes heap)) in
    in-fits b v (take n (drop p heap)) (each_take (Fit b) n (drop p heap) (each-drop (Fit b) p heap f)) (subst (In v) (inv (nodes-take n (drop p heap) ∙ ap (take n) (nodes-drop p heap))) i)

pub any_append : (v : ℕ) (l m : Goal) → InAny v (l ++ m) → InAny v l ⊎ InAny v m
any_append v [] m i = inr i
any_append v (e ∷ l) m (inl i) = inl (inl i)
any_append v (e ∷ l) m (inr i) = elim (any_append v l m i) [ inl j ↦ inl (inr j) | inr j ↦ inr j ]

pub any-apply : (θ : Subst) (w : ℕ) (l : Goal) → InAny w (map (apply θ) l) → (v : ℕ) × InAny v l × In w (θ v)
any-apply θ w (e ∷ l) (inl i) = let (v, j, k) = in-apply w θ e i in (v, inl j, k)
any-apply θ w (e ∷ l) (inr i) = let (v, j, k) = any-apply θ w l i in (v, inr j, k)
any-apply θ w [] x' = elim x' [ ]

module _ {b : ℕ} (heap levels : List ℕ) (f : Fits b heap) (v : ℕ) where
  pub listed-low : (k p : ℕ) → InAny v (listed heap k p) → v < b
  listed-low (suc k) p (inl i) = in-row-low heap f 1 p v i
  listed-low (suc k) p (inr i) = listed-low k (p + length (rows heap 1 p)) i
  listed-low zero p x' = elim x' [ ]

  pub waiting-low : (n : ℕ) → InAny v (waiting heap levels n) → v < b
  waiting-low (suc n) i =
      elim (any_append v (listed heap (level_due levels n) (level_at levels n)) (waiting heap levels n) i) [ inl j ↦ listed-low (level_due levels n) (level_at levels n) j | inr j ↦ waiting-low n j ]
  waiting-low zero i = elim i [ ]

-- what a variable of a low number stands for has low ones
pub meant-low : {heap cells : List ℕ} (made : Made heap cells) {θ : Subst} (s : Solved heap cells θ) {b : ℕ} → Fits b heap → (v : ℕ) → v < b → (w : ℕ) → In w (θ v) → w < b
meant-low {heap} made {θ} s {b} f =
    solved_induction made s (λ v. v < b → (w : ℕ) → In w (θ v) → w < b) (λ v z l w i. alone v l w (subst (In w) (s.free v z) i)) (λ v p e all l w i.
    let (u, j, k) = in-apply w θ (rows heap 1 p) (subst (In w) (s.solves.stands v p e) i) in
    all u j (in-row-low heap f 1 p u j) w k)
  where
    alone : (v : ℕ) → v < b → (w : ℕ) → In w (itself v) → w < b
    alone v l w (inl e) = omega (arith, e, l)
    alone v l w (inr j) = absurd j
