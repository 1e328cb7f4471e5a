-- What the heap means is one, and most general; and a variable more that is bound.
use Rattle.std.specs.Prelude.{ℕ, zero, suc, ◌+◌, ◌%◌, ◌<◌, ◌≤◌, ◌≡◌, refl, List, ◌∷◌, length, get_or}
use Rattle.std.proofs.Common.{arith, sym as inv, ap, ◌∙◌, subst, inl, inr, append-nil}
use Rattle.std.proofs.Math.Decide.{ℕ_discrete}
use Rattle.terms.specs.Node.{var, sym, Expr}
use Rattle.terms.specs.RowLaws.{row-long}
use Rattle.terms.specs.Subst.{In, Subst, apply, after, itself}
use Rattle.terms.specs.SubstLaws.{in-apply, in-length, apply-on, apply-after, apply-itself}
use Rattle.words.specs.Word.{kind_of, arity_of}
use Rattle.words.specs.WordLaws.{node-sym}
use Rattle.heap.specs.Heap.{rows, bound, Made, Solves, Solved}
use Rattle.heap.specs.HeapLaws.{rows_none, row_inside, rows-var, rows-sym}

-- What a variable stands for is longer than what those in its row stand for, or its row is one of a lower number.
module _ {heap cells : List ℕ} (made : Made heap cells) {θ : Subst} (s : Solved heap cells θ) where
  data Below (v u : ℕ) : Type 0 where
    shorter : length (θ u) < length (θ v) → Below v u
    lower : u < v → length (θ u) ≤ length (θ v) → Below v u

  below : (v p : ℕ) → bound cells v ≡ suc p → (u : ℕ) → In u (rows heap 1 p) → Below v u
  below v p e u i =
      let inside = row_inside heap 0 p (made.whole v p e) in
      let same = s.solves.stands v p e in
      elim (ℕ_discrete (kind_of (get_or heap p 0)) 1) [
        | yes k ↦
            let alone = rows-var heap 0 p inside k ∙ ap (λ x. var (get_or heap p 0 % 65536) ∷ x) (rows_none heap (suc p)) in
            elim (subst (In u) alone i) [
              | inl z ↦ lower (omega (arith, z, made.lower v p e k)) (omega (arith, in-length θ u (rows heap 1 p) i, ap length same))
              | inr j ↦ absurd j
            ]
        | no n ↦
            let (c, x) = node-sym (get_or heap p 0) n in
            let rest = rows heap (arity_of (get_or heap p 0) + 0) (suc p) in
            let whole : rows heap 1 p ≡ sym c ∷ rest = rows-sym heap 0 p inside (made.fits p inside).valid n ∙ ap (λ y. y ∷ rest) x in
            shorter (omega (arith, in-length θ u rest (subst (In u) whole i), ap length (same ∙ ap (apply θ) whole)))
      ]

  -- so what holds of free variables, and of a bound one where it holds of those in its row, holds of all
  module _ (P : ℕ → Type 0) (free : (v : ℕ) → bound cells v ≡ 0 → P v) (step : (v p : ℕ) → bound cells v ≡ suc p → ((u : ℕ) → In u (rows heap 1 p) → P u) → P v) where
    by_cases : (v : ℕ) → ((p u : ℕ) → bound cells v ≡ suc p → In u (rows heap 1 p) → P u) → P v
    by_cases v all = go (bound cells v) refl
      where
        go : (b : ℕ) → bound cells v ≡ b → P v
        go zero e = free v e
        go (suc p) e = step v p e (λ u i. all p u e i)

    -- all that stand for at most n nodes, and of those that stand for n + 1 all below k
    upto : (n : ℕ) → ((v : ℕ) → length (θ v) ≤ n → P v) → (k : ℕ) → (v : ℕ) → v < k → length (θ v) ≤ suc n → P v
    upto n less zero v l h = absurd (omega arith)
    upto n less (suc k) v l h = by_cases v (λ p u e i. elim (below v p e u i) [
      | shorter x ↦ less u (omega (arith, x, h))
      | lower x y ↦ upto n less k u (omega (arith, x, l)) (omega (arith, y, h))
    ])

    all-upto : (n : ℕ) → (v : ℕ) → length (θ v) ≤ n → P v
    all-upto zero v h = absurd (omega (arith, h, row-long (s.solves.proper v)))
    all-upto (suc n) v h = upto n (all-upto n) (suc v) v (omega arith) h

    pub solved_induction : (v : ℕ) → P v
    solved_induction v = all-upto (length (θ v)) v (omega arith)

  -- Every other solution is an instance of it.
  pub solved-general : (τ : Subst) → Solves heap cells τ → (v : ℕ) → τ v ≡ apply τ (θ v)
  solved-general τ t = solved_induction (λ v. τ v ≡ apply τ (θ v)) (λ v z. inv (append-nil (τ v)) ∙ ap (apply τ) (inv (s.free v z))) (λ v p e all.
      t.stands v p e ∙ apply-on τ (after τ θ) (rows heap 1 p) all ∙ inv (apply-after τ θ (rows heap 1 p)) ∙ ap (apply τ) (inv (s.solves.stands v p e)))

  -- What a variable stands for has no variable that is bound.
  pub solved-free : (v w : ℕ) → In w (θ v) → bound cells w ≡ 0
  solved-free v w = solved_induction (λ v. In w (θ v) → bound cells w ≡ 0) (λ v z i. alone v z (subst (In w) (s.free v z) i)) (λ v p e all i.
      let (u, j, k) = in-apply w θ (rows heap 1 p) (subst (In w) (s.solves.stands v p e) i) in
      all u j k) v
    where
      alone : (v : ℕ) → bound cells v ≡ 0 → In w (itself v) → bound cells w ≡ 0
      alone v z (inl e) = ap (bound cells) e ∙ z
      alone v z (inr j) = absurd j

  -- neither has a row of the heap
  pub row-free : (w : ℕ) (e : Expr) → In w (apply θ e) → bound cells w ≡ 0
  row-free w e i = let (v, j, k) = in-apply w θ e i in solved-free v w k

  -- It changes nothing a second time,
  pub solved_twice : (e : Expr) → apply θ (apply θ e) ≡ apply θ e
  solved_twice e = apply-on θ itself (apply θ e) (λ w i. s.free w (row-free w e i)) ∙ apply-itself (apply θ e)

  -- and is one.
  pub solved-one : (θ' : Subst) → Solved heap cells θ' → (v : ℕ) → θ' v ≡ θ v
  solved-one θ' s' v = solved-general θ' s'.solves v ∙ apply-on θ' itself (θ v) (λ w i. s'.free w (solved-free v w i)) ∙ apply-itself (θ v)
