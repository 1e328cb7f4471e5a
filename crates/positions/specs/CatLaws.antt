-- Rows of terms put together from the terms, and taken apart.
use Rattle.std.specs.Prelude.{ℕ, zero, suc, ◌+◌, ◌≤◌, ◌<◌, ◌≡◌, refl, List, [], ◌∷◌, ◌++◌, length, take, drop}
use Rattle.std.proofs.Common.{arith, zero-add, ap, ◌∙◌, sym as inv, length-append, take-append-drop, take-take, length-take-le}
use Rattle.std.proofs.Math.Decide.{dec_lt}
use Rattle.std.proofs.Math.Seq.{slice}
use Rattle.std.proofs.lemmas.List.{drop-append-le}
use Rattle.terms.specs.Node.{Node, var, sym, Expr}
use Rattle.terms.specs.Row.{Row, row_end, row_var, row_sym}
use Rattle.terms.specs.RowLaws.{row-append, row_unique}
use Rattle.terms.specs.Subst.{Subst, apply}
use Rattle.terms.specs.SubstLaws.{apply-append}
use Rattle.words.specs.Word.{places}
use Rattle.positions.specs.Nodes.{cat}

pub row-tail : {k : ℕ} {x : Node} {e : Expr} → Row k (x ∷ e) → (j : ℕ) × (k ≡ suc j) × Row (places x + j) e
row-tail (row_var {n = j} r) = (j, refl, rw zero-add r)
row-tail (row_sym {n = j} r) = (j, refl, r)

pub row-nil : {k : ℕ} → Row k [] → k ≡ 0
row-nil row_end = refl

pub row-node : (x : Node) {j : ℕ} {e : Expr} → Row (places x + j) e → Row (suc j) (x ∷ e)
row-node (var v) r = row_var (rw zero-add at r)
row-node (sym s) r = row_sym r

pub cat-row : (g : ℕ → Expr) (k : ℕ) → ((i : ℕ) → i < k → Row 1 (g i)) → Row k (cat g k)
cat-row g zero h = row_end
cat-row g (suc k) h =
    let e : k + 1 ≡ suc k = omega arith in
    rw e at (row-append (cat-row g k (λ i l. h i (omega arith))) (h k (omega arith)))

pub cat-same : (g h : ℕ → Expr) (k : ℕ) → ((i : ℕ) → i < k → g i ≡ h i) → cat g k ≡ cat h k
cat-same g h zero q = refl
cat-same g h (suc k) q = ap (λ z. z ++ g k) (cat-same g h k (λ i l. q i (omega arith))) ∙ ap (λ z. cat h k ++ z) (q k (omega arith))

-- equal rows are of equal terms
pub cat-read : (g h : ℕ → Expr) (k : ℕ) → ((i : ℕ) → i < k → Row 1 (g i)) → ((i : ℕ) → i < k → Row 1 (h i)) → cat g k ≡ cat h k → (i : ℕ) → i < k → g i ≡ h i
cat-read g h zero p q e i l = absurd (omega arith)
cat-read g h (suc k) p q e i l =
    let u = row_unique (cat-row g k (λ i l. p i (omega arith))) (cat-row h k (λ i l. q i (omega arith))) (g k) (h k) e in
    elim (dec_lt i k) [
      | yes m ↦ cat-read g h k (λ i l. p i (omega arith)) (λ i l. q i (omega arith)) u.0 i m
      | no n ↦ let y : i ≡ k = omega arith in rw y u.1
    ]

pub cat-longer : (g : ℕ → Expr) (k i : ℕ) → i < k → length (g i) ≤ length (cat g k)
cat-longer g zero i l = absurd (omega arith)
cat-longer g (suc k) i l =
    rw (length-append (cat g k) (g k)) (elim (dec_lt i k) [
      | yes m ↦ omega (arith, cat-longer g k i m)
      | no n ↦ let y : i ≡ k = omega arith in rw y (omega arith)
    ])

pub apply-cat : (θ : Subst) (g : ℕ → Expr) (k : ℕ) → apply θ (cat g k) ≡ cat (λ i. apply θ (g i)) k
apply-cat θ g zero = refl
apply-cat θ g (suc k) = apply-append θ (cat g k) (g k) ∙ ap (λ z. z ++ apply θ (g k)) (apply-cat θ g k)

pub slice-join {ℓ} : {A : Type ℓ} (f m t : ℕ) (l : List A) → f ≤ m → m ≤ t → t ≤ length l → slice f t l ≡ slice f m l ++ slice m t l
slice-join f m t l hf hm ht =
    ap (drop f) (inv (take-append-drop m (take t l)) ∙ ap (λ z. z ++ slice m t l) (take-take m t l hm))
    ∙ drop-append-le f (take m l) (slice m t l) (rw (length-take-le m l (omega arith)) hf)
