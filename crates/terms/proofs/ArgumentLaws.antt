-- `clash` finds the first argument that clashes, where there is one.
use Rattle.std.specs.Prelude.{ℕ, zero, suc, ◌+◌, ◌-◌, ◌≤◌, ◌<◌, ◌≡◌, refl, [], ◌++◌, take, drop}
use Rattle.std.proofs.Math.Decide.{dec_lt}
use Rattle.std.proofs.Common.{arith, sym as inv, ap, subst, ◌∙◌, append-nil, take-append-drop}
use Rattle.std.proofs.Math.Option.{Option, none, some}
use Rattle.terms.specs.Node.{Expr}
use Rattle.terms.specs.Row.{Row, row_end, row_var, span}
use Rattle.terms.specs.Subst.{Subst, apply, itself}
use Rattle.terms.specs.Unify.{unify}
use Rattle.terms.specs.Argument.{firsts, Unifiable, ClashesAt, clash_after, clash}
use Rattle.terms.specs.RowLaws.{row-split, row_unique, first-row}
use Rattle.terms.specs.SubstLaws.{apply-append, apply-row}
use Rattle.terms.proofs.UnifyLaws.{unify-sound, unify-complete}

-- all the arguments
pub firsts-all : {n : ℕ} {a : Expr} → Row n a → firsts n a ≡ a
firsts-all {n} {a} p = subst (λ (e : Expr). take (span n e) e ≡ a) (append-nil a) (first-row p [])

-- the first of them are a row
pub firsts-row : {n : ℕ} {a : Expr} (k : ℕ) → k ≤ n → Row n a → Row k (firsts k a)
firsts-row {n} k l p = (row-split k (n - k) (omega arith) p).0

-- one argument at most is the first that clashes
pub clashes_once : (a b : Expr) (j k : ℕ) → ClashesAt a b j → ClashesAt a b k → j ≡ k
clashes_once a b j k p q =
    elim (dec_lt j k) [
      | yes l ↦ absurd (p.clash (q.before j l))
      | no l ↦ elim (dec_lt k j) [ yes m ↦ absurd (q.clash (p.before k m)) | no m ↦ omega arith ]
    ]

-- what a trial of n arguments says by its number
pub data Tried (a b : Expr) (n : ℕ) : ℕ → Type 0 where
  unified : Unifiable a b n → Tried a b n 0
  clashed : {k : ℕ} → k ≤ n → ClashesAt a b k → Tried a b n k

-- no arguments are no nodes
no_row : {e : Expr} → Row 0 e → e ≡ []
no_row row_end = refl

module _ {n : ℕ} {a b : Expr} (p : Row n a) (q : Row n b) where
  -- one argument more: it clashes, or the trial goes on
  tried-one : (k m : ℕ) → k < n → ((j : ℕ) → j < suc k → Unifiable a b j)
      → (((j : ℕ) → j < suc (suc k) → Unifiable a b j) → Tried a b n (clash_after (suc k) m a b)) → Tried a b n (clash_after k (suc m) a b)
  tried-one k m l well on = go (unify (firsts (suc k) a) (firsts (suc k) b)) refl
    where
      go : (o : Option Subst) → unify (firsts (suc k) a) (firsts (suc k) b) ≡ o → Tried a b n (elim o [ none ↦ suc k | some σ ↦ clash_after (suc k) m a b ])
      go none e =
          clashed {k = suc k} (omega arith)
          (record {
            counted = omega arith;
            clash = λ u. unify-complete (firsts-row (suc k) l p) (firsts-row (suc k) l q) e u.0 u.1;
            before = well;
          })
      go (some σ) e =
          let here : Unifiable a b (suc k) = (σ, (unify-sound (firsts-row (suc k) l p) (firsts-row (suc k) l q) e).unifies) in
          on (λ j c. elim (dec_lt j (suc k)) [ yes d ↦ well j d | no d ↦ (let o : suc k ≡ j = omega arith in subst (Unifiable a b) o here) ])

  tried-after : (k m : ℕ) → k + m ≡ n → ((j : ℕ) → j < suc k → Unifiable a b j) → Tried a b n (clash_after k m a b)
  tried-after k zero l well = unified (well n (omega arith))
  tried-after k (suc m) l well = tried-one k m (omega arith) well (λ more. tried-after (suc k) m (omega arith) more)

  none_tried : (j : ℕ) → j < 1 → Unifiable a b j
  none_tried zero c = (itself, (λ v. row_var row_end, ap (apply itself) (no_row (firsts-row 0 (omega arith) p) ∙ inv (no_row (firsts-row 0 (omega arith) q)))))
  none_tried (suc j) c = absurd (omega arith)

  -- the number says what it means
  pub clash-tried : Tried a b n (clash n a b)
  clash-tried = tried-after 0 n (omega arith) none_tried

-- what unifies n arguments together unifies fewer
module _ {n : ℕ} {a b : Expr} (p : Row n a) (q : Row n b) where
  pub unifiable-less : (k : ℕ) → k ≤ n → Unifiable a b n → Unifiable a b k
  unifiable-less k l (θ, (ok, e)) =
      let parts : (c : Expr) → apply θ (firsts k c) ++ apply θ (drop (span k c) c) ≡ apply θ c =
      λ c. inv (apply-append θ (firsts k c) (drop (span k c) c)) ∙ ap (apply θ) (take-append-drop (span k c) c) in
      let whole : apply θ a ≡ apply θ b = rw (firsts-all p, firsts-all q) at e in
      (θ, (ok, (row_unique (apply-row θ ok (firsts-row k l p)) (apply-row θ ok (firsts-row k l q)) (apply θ (drop (span k a) a)) (apply θ (drop (span k b) b)) (parts a ∙ whole ∙ inv (parts b))).0))

  -- a trial says one number
  pub tried_once : {j k : ℕ} → Tried a b n j → Tried a b n k → j ≡ k
  tried_once (unified u) (unified v) = refl
  tried_once (unified u) (clashed {k = k} l c) = absurd (c.clash (unifiable-less k l u))
  tried_once (clashed {k = k} l c) (unified u) = absurd (c.clash (unifiable-less k l u))
  tried_once (clashed {k = j} l c) (clashed {k = k} m d) = clashes_once a b j k c d

  -- and so the number that is computed
  pub tried-clash : {k : ℕ} → Tried a b n k → k ≡ clash n a b
  tried-clash t = tried_once t (clash-tried p q)
