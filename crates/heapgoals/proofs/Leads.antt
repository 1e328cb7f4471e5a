-- A row told apart from a saved formula down its first arguments.
use Prim.Native.Nat.{ℕ, suc, ◌+◌, ◌-◌, ◌<◌, ◌≤◌}
use native.Mathlib.Omega.{arith}
use native.Mathlib.Decide.{ℕ_discrete}
use mathlib.Core.Path.{◌≡◌, refl, sym as inv, ap, ◌∙◌, subst}
use mathlib.Core.List.{List, [], ◌∷◌, ◌++◌, append-nil, append_assoc}
use lib.ListN.{length, get_or, length-append}
use Rattle.terms.specs.Node.{Node, Expr}
use Rattle.terms.specs.RowLaws.{row-long}
use Rattle.terms.specs.Subst.{Subst, apply}
use Rattle.terms.specs.SubstLaws.{apply-row, apply-append}
use Rattle.words.specs.Word.{kind_of, arity_of, Plain, Valid, node}
use Rattle.words.specs.WordLaws.{node-var}
use Rattle.heap.specs.Heap.{rows, Whole, Made, Solved}
use Rattle.heap.specs.HeapLaws.{stands-var, stands-sym, whole-sym, first-whole, rows-first}
use Rattle.heap.specs.Following.{Followed}
use Rattle.heapgoals.specs.Telling.{Parted, Other}
use Rattle.heapgoals.proofs.Tells.{as_long, other-node}

-- after i nodes, each the first argument of the one before it, comes the row at p
pub record Leading (heap cells : List ℕ) (at p i : ℕ) : Type 0 where
  pub whole : Whole heap 1 p
  so_far : (θ : Subst) → Solved heap cells θ → (done : Expr) × (later : Expr) × (done ++ (apply θ (rows heap 1 p) ++ later) ≡ apply θ (rows heap 1 at)) × (length done ≡ i)

pub lead-start : {heap cells : List ℕ} {at : ℕ} → Whole heap 1 at → Leading heap cells at at 0
lead-start {heap} {cells} {at} r = record { whole = r; so_far = λ θ s. ([], [], append-nil (apply θ (rows heap 1 at)), refl) }

pub row-valid : {heap cells : List ℕ} {p q u : ℕ} → Made heap cells → Followed heap cells p q → u ≡ get_or heap q 0 → Valid u
row-valid {q = q} made f e = subst Valid (inv e) (made.fits q f.row.inside).valid

-- a node, and the first of its arguments behind it
one_down : (n : Node) (done first others later : Expr) → (done ++ (n ∷ [])) ++ (first ++ (others ++ later)) ≡ done ++ ((n ∷ (first ++ others)) ++ later)
one_down n done first others later = append_assoc done (n ∷ []) (first ++ (others ++ later)) ∙ ap (λ y. done ++ (n ∷ y)) (inv (append_assoc first others later))

module _ {heap cells : List ℕ} {at p i : ℕ} (x : Leading heap cells at p i) where
  -- the row is longer,
  pub lead-longer : (saved : List ℕ) (kept : ℕ) → kept ≤ length saved → kept ≤ i → Other heap cells at saved kept
  lead-longer saved kept k l θ s same =
      let (done, later, e, m) = x.so_far θ s in
      let row = apply θ (rows heap 1 p) in
      omega (arith, l, as_long saved kept i (apply θ (rows heap 1 at)) done (row ++ later) k e m same, length-append row later, row-long (apply-row θ s.solves.proper x.whole))

  module _ (made : Made heap cells) {q : ℕ} (f : Followed heap cells p q) where
    valid : Valid (get_or heap q 0)
    valid = row-valid made f refl

    begins : (θ : Subst) → Solved heap cells θ → (rest : Expr) × (apply θ (rows heap 1 p) ≡ node (get_or heap q 0) ∷ rest)
    begins θ s = elim (ℕ_discrete (kind_of (get_or heap q 0)) 1) [
      | yes k ↦ ([], f.row.same θ s.solves ∙ stands-var heap q f.row.inside θ k ∙ s.free _ (f.stops k) ∙ ap (λ n. n ∷ []) (inv (node-var (get_or heap q 0) k)))
      | no n ↦ (apply θ (rows heap (arity_of (get_or heap q 0)) (suc q)), f.row.same θ s.solves ∙ stands-sym heap q f.row.inside θ valid n refl)
    ]

    -- or has another node at some place.
    pub lead-other : (saved : List ℕ) (kept : ℕ) → kept ≤ length saved → i < kept → {u z : ℕ} → u ≡ get_or heap q 0 → z ≡ get_or saved i 0 → Parted u z → Other heap cells at saved kept
    lead-other saved kept k l {u} eu ez n θ s same =
        let (done, later, e, m) = x.so_far θ s in
        let (rest, b) = begins θ s in
        other-node saved kept i (apply θ (rows heap 1 at)) done (rest ++ later) k l u ez n (ap (λ y. done ++ y) (ap (λ w. node w ∷ (rest ++ later)) eu ∙ ap (λ y. y ++ later) (inv b)) ∙ e) m same

    -- Otherwise its first argument is next, where it has one.
    module _ {k : ℕ} (some : suc k ≡ arity_of (get_or heap q 0)) where
      plain : Plain (get_or heap q 0)
      plain e = omega (arith, some, valid.bare (omega (arith, e)))

      arguments : Whole heap (suc k) (suc q)
      arguments = let e : arity_of (get_or heap q 0) + 0 ≡ suc k = omega (arith, some) in subst (λ n. Whole heap n (suc q)) e (whole-sym heap 0 q f.row.inside valid plain (f.row.whole x.whole))

      lead-down : Leading heap cells at (suc q) (suc i)
      lead-down = record {
        whole = first-whole heap k (suc q) arguments;
        so_far = λ θ s.
            let (done, later, e, m) = x.so_far θ s in
            let n = node (get_or heap q 0) in
            let others = rows heap k (suc q + length (rows heap 1 (suc q))) in
            let row : apply θ (rows heap 1 p) ≡ n ∷ (apply θ (rows heap 1 (suc q)) ++ apply θ others)
            = f.row.same θ s.solves ∙ stands-sym heap q f.row.inside θ valid plain some
            ∙ ap (λ y. n ∷ y) (ap (apply θ) (rows-first heap k (suc q) arguments refl) ∙ apply-append θ (rows heap 1 (suc q)) others) in
            (done ++ (n ∷ []), apply θ others ++ later, one_down n done (apply θ (rows heap 1 (suc q))) (apply θ others) later ∙ ap (λ y. done ++ (y ++ later)) (inv row) ∙ e, omega (arith, length-append done (n ∷ []), m));
      }

    pub lead-on : {u a p' j : ℕ} → u ≡ get_or heap q 0 → a ≡ arity_of u → (a ≡ 0 → ⊥) → p' ≡ suc q → j ≡ suc i → Leading heap cells at p' j
    lead-on {u} {a} eu ea n ep ej = rw (ep, ej) (lead-down {k = a - 1} (omega (arith, ea ∙ ap arity_of eu, n)))
