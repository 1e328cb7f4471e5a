-- Rows of the heap, node by node.
use Rattle.std.specs.Prelude.{ℕ, suc, ◌+◌, ◌-◌, ◌%◌, ◌<◌, ◌≤◌, ◌≡◌, refl, List, [], ◌∷◌, ◌++◌, length, get_or, drop, take}
use Rattle.std.proofs.Common.{arith, sym as inv, ap, ap₂, ◌∙◌, subst, append-nil, append_assoc, take-append-drop, length-take, length-drop, drop_of_length-le, drop-cons, drop-drop}
use Rattle.std.proofs.Math.Decide.{ℕ_discrete, dec_lt}
use Rattle.std.proofs.lemmas.List.{length-map}
use Rattle.std.proofs.Math.Seq.{drop-append_seam}
use Rattle.terms.specs.Node.{Symbol, arity, var, sym, Expr}
use Rattle.terms.specs.Row.{Row, row_var, row_sym, span}
use Rattle.terms.specs.RowLaws.{row-long, row-split, first-row}
use Rattle.terms.specs.Subst.{Subst, apply}
use Rattle.terms.specs.Argument.{firsts}
use Rattle.words.specs.Word.{kind_of, arity_of, Plain, Valid, node, nodes}
use Rattle.words.specs.WordLaws.{node-var, node-sym, node-arity, nodes-drop}
use Rattle.heap.specs.Heap.{rows, Whole}

pub rows_none : (heap : List ℕ) (p : ℕ) → rows heap 0 p ≡ []
rows_none heap p = go (drop p (nodes heap))
  where
    go : (e : Expr) → firsts 0 e ≡ []
    go [] = refl
    go (x ∷ e) = refl

-- what stands at p is its word's node, and then what stands behind it
at-node : (heap : List ℕ) (p : ℕ) → p < length heap → drop p (nodes heap) ≡ node (get_or heap p 0) ∷ drop (suc p) (nodes heap)
at-node heap p l = inv (nodes-drop p heap) ∙ ap nodes (drop-cons heap p 0 l) ∙ ap (λ e. node (get_or heap p 0) ∷ e) (nodes-drop (suc p) heap)

-- a row has its first word on the heap
pub row_inside : (heap : List ℕ) (k p : ℕ) → Whole heap (suc k) p → p < length heap
row_inside heap k p r = elim (dec_lt p (length heap)) [
  | yes l ↦ l
  | no n ↦
      let none : rows heap (suc k) p ≡ [] = ap (firsts (suc k)) (inv (nodes-drop p heap) ∙ ap nodes (drop_of_length-le heap {i = p} (omega arith))) in
      absurd (omega (arith, row-long r, ap length none))
]

-- there are no more rows than words
pub rows_few : (heap : List ℕ) (k p : ℕ) → Whole heap k p → k ≤ length heap
rows_few heap k p r = omega (arith, row-long r, length-take (span k (drop p (nodes heap))) (drop p (nodes heap)), length-drop p (nodes heap), length-map heap node)

-- and they end within the heap
pub rows_inside : (heap : List ℕ) (k p : ℕ) → p ≤ length heap → p + length (rows heap k p) ≤ length heap
rows_inside heap k p l = omega (arith, l, length-take (span k (drop p (nodes heap))) (drop p (nodes heap)), length-drop p (nodes heap), length-map heap node)

module _ (heap : List ℕ) (k p : ℕ) (inside : p < length heap) where
  -- a variable, and k rows behind it
  module _ (is : kind_of (get_or heap p 0) ≡ 1) where
    pub rows-var : rows heap (suc k) p ≡ var (get_or heap p 0 % 65536) ∷ rows heap k (suc p)
    rows-var = ap (firsts (suc k)) (at-node heap p inside ∙ ap (λ n. n ∷ drop (suc p) (nodes heap)) (node-var (get_or heap p 0) is))

    pub whole-var : Whole heap (suc k) p → Whole heap k (suc p)
    whole-var r = go (subst (Row (suc k)) rows-var r)
      where
        go : {v : ℕ} {e : Expr} → Row (suc k) (var v ∷ e) → Row k e
        go (row_var r) = r

    pub whole-var-back : Whole heap k (suc p) → Whole heap (suc k) p
    whole-var-back r = subst (Row (suc k)) (inv rows-var) (row_var r)

  -- a symbol, its arguments and k rows behind them
  module _ (valid : Valid (get_or heap p 0)) (is : Plain (get_or heap p 0)) where
    pub rows-sym : rows heap (suc k) p ≡ node (get_or heap p 0) ∷ rows heap (arity_of (get_or heap p 0) + k) (suc p)
    rows-sym =
        let (s, e, a) = node-arity (get_or heap p 0) valid is in
        ap (firsts (suc k)) (at-node heap p inside ∙ ap (λ n. n ∷ drop (suc p) (nodes heap)) e)
        ∙ ap (λ n. sym s ∷ rows heap (n + k) (suc p)) a ∙ ap (λ n. n ∷ rows heap (arity_of (get_or heap p 0) + k) (suc p)) (inv e)

    pub whole-sym : Whole heap (suc k) p → Whole heap (arity_of (get_or heap p 0) + k) (suc p)
    whole-sym r =
        let (s, e, a) = node-arity (get_or heap p 0) valid is in
        subst (λ n. Row (n + k) (rows heap (arity_of (get_or heap p 0) + k) (suc p))) a (go (subst (Row (suc k)) (rows-sym ∙ ap (λ n. n ∷ rows heap (arity_of (get_or heap p 0) + k) (suc p)) e) r))
      where
        go : {s : Symbol} {e : Expr} → Row (suc k) (sym s ∷ e) → Row (arity s + k) e
        go (row_sym r) = r

-- what a symbol's row stands for, and k rows behind it
pub stands-symbol : (heap : List ℕ) (k p : ℕ) → p < length heap → Valid (get_or heap p 0) → Plain (get_or heap p 0) → (τ : Subst)
    → apply τ (rows heap (suc k) p) ≡ node (get_or heap p 0) ∷ apply τ (rows heap (arity_of (get_or heap p 0) + k) (suc p))
stands-symbol heap k p inside valid plain τ =
    let (s, e) = node-sym (get_or heap p 0) plain in
    let after = rows heap (arity_of (get_or heap p 0) + k) (suc p) in
    ap (apply τ) (rows-sym heap k p inside valid plain) ∙ subst (λ n. apply τ (n ∷ after) ≡ n ∷ apply τ after) (inv e) refl

-- what one row stands for, of a variable and of a symbol
module _ (heap : List ℕ) (p : ℕ) (inside : p < length heap) (τ : Subst) where
  pub stands-var : kind_of (get_or heap p 0) ≡ 1 → apply τ (rows heap 1 p) ≡ τ (get_or heap p 0 % 65536)
  stands-var k = ap (apply τ) (rows-var heap 0 p inside k ∙ ap (λ x. var (get_or heap p 0 % 65536) ∷ x) (rows_none heap (suc p))) ∙ append-nil (τ (get_or heap p 0 % 65536))

  pub stands-sym : Valid (get_or heap p 0) → (n : Plain (get_or heap p 0)) → {k : ℕ} → k ≡ arity_of (get_or heap p 0) → apply τ (rows heap 1 p) ≡ node (get_or heap p 0) ∷ apply τ (rows heap k (suc p))
  stands-sym valid n {k} e =
      let same : arity_of (get_or heap p 0) + 0 ≡ k = omega (arith, e) in
      stands-symbol heap 0 p inside valid n τ ∙ ap (λ j. node (get_or heap p 0) ∷ apply τ (rows heap j (suc p))) same

-- a node, its arguments and k rows behind them, be it a variable's or a symbol's
module _ (heap : List ℕ) (k p : ℕ) (inside : p < length heap) (valid : Valid (get_or heap p 0)) where
  bare : kind_of (get_or heap p 0) ≡ 1 → arity_of (get_or heap p 0) + k ≡ k
  bare e = omega (arith, valid.bare (omega (arith, e)))

  pub rows-node : length (rows heap (suc k) p) ≡ suc (length (rows heap (arity_of (get_or heap p 0) + k) (suc p)))
  rows-node = elim (ℕ_discrete (kind_of (get_or heap p 0)) 1) [
    | yes e ↦ ap length (rows-var heap k p inside e) ∙ ap (λ n. suc (length (rows heap n (suc p)))) (inv (bare e))
    | no n ↦ ap length (rows-sym heap k p inside valid n)
  ]

  pub whole-node : Whole heap (suc k) p → Whole heap (arity_of (get_or heap p 0) + k) (suc p)
  whole-node r = elim (ℕ_discrete (kind_of (get_or heap p 0)) 1) [
    | yes e ↦ subst (λ n. Whole heap n (suc p)) (inv (bare e)) (whole-var heap k p inside e r)
    | no n ↦ whole-sym heap k p inside valid n r
  ]

-- The first row, and those behind it.

-- k rows of an expression behind the first m
pub record Split (n m k : ℕ) (e : Expr) : Type 0 where
  pub first : Row m (firsts m e)
  pub rest : Row k (firsts k (drop (length (firsts m e)) e))
  pub both : firsts n e ≡ firsts m e ++ firsts k (drop (length (firsts m e)) e)

split : (n m k : ℕ) → n ≡ m + k → (e : Expr) → Row n (firsts n e) → Split n m k e
split n m k sum e r = record {
  first = subst (Row m) (inv fore) x.0;
  rest = subst (Row k) (inv aft) x.1;
  both = parts ∙ ap₂ ◌++◌ (inv fore) (inv aft);
}
  where
    w : Expr
    w = firsts n e

    x : Row m (take (span m w) w) × Row k (drop (span m w) w)
    x = row-split m k sum r

    a : Expr
    a = take (span m w) w

    b : Expr
    b = drop (span m w) w

    left : Expr
    left = drop (span n e) e

    parts : w ≡ a ++ b
    parts = inv (take-append-drop (span m w) w)

    whole : e ≡ a ++ (b ++ left)
    whole = inv (take-append-drop (span n e) e) ∙ ap (λ y. y ++ left) parts ∙ append_assoc a b left

    fore : firsts m e ≡ a
    fore = ap (firsts m) whole ∙ first-row x.0 (b ++ left)

    aft : firsts k (drop (length (firsts m e)) e) ≡ b
    aft = ap₂ (λ n y. firsts k (drop n y)) (ap length fore) whole ∙ ap (firsts k) (drop-append_seam a (b ++ left)) ∙ first-row x.1 left

module _ (heap : List ℕ) (k p : ℕ) (r : Whole heap (suc k) p) where
  parted : Split (suc k) 1 k (drop p (nodes heap))
  parted = split (suc k) 1 k (omega arith) (drop p (nodes heap)) r

  pub first-whole : Whole heap 1 p
  first-whole = parted.first

  module _ {q : ℕ} (e : q ≡ p + length (rows heap 1 p)) where
    there : drop (length (rows heap 1 p)) (drop p (nodes heap)) ≡ drop q (nodes heap)
    there = drop-drop (length (rows heap 1 p)) p (nodes heap) ∙ ap (λ n. drop n (nodes heap)) (inv e)

    pub rest-whole : Whole heap k q
    rest-whole = subst (λ y. Row k (firsts k y)) there parted.rest

    pub rows-first : rows heap (suc k) p ≡ rows heap 1 p ++ rows heap k q
    rows-first = parted.both ∙ ap (λ y. rows heap 1 p ++ firsts k y) there

-- Where a row ends: after some of its words, so many rows are still to come.
pub record Passing (heap : List ℕ) (p at due : ℕ) : Type 0 where
  pub ahead : Whole heap due at
  pub sum : p + length (rows heap 1 p) ≡ at + length (rows heap due at)

pub pass-start : {heap : List ℕ} {p : ℕ} → Whole heap 1 p → Passing heap p p 1
pass-start r = record { ahead = r; sum = refl }

pub pass-inside : {heap : List ℕ} {p at due : ℕ} → Passing heap p at due → 0 < due → at < length heap
pass-inside {heap} {at = at} {due} x l = row_inside heap (due - 1) at (subst (λ n. Whole heap n at) (omega (arith, l)) x.ahead)

pub pass-few : {heap : List ℕ} {p at due : ℕ} → Passing heap p at due → due ≤ length heap
pass-few {heap} {at = at} {due} x = rows_few heap due at x.ahead

pub pass_on : {heap : List ℕ} {p at due : ℕ} → Passing heap p at due → Valid (get_or heap at 0) → 0 < due → {u a at' due' : ℕ} → u ≡ get_or heap at 0 → a ≡ arity_of u → at' ≡ suc at → due' ≡ due - 1 + a → Passing heap p at' due'
pass_on {heap} {p} {at} {due} x valid l {due' = due'} eu ea e d = rw e (rw next (record { ahead = whole-node heap (due - 1) at inside valid here; sum = omega (arith, x.sum, rows-node heap (due - 1) at inside valid, ap (λ n. length (rows heap n at)) is) }))
  where
    inside : at < length heap
    inside = pass-inside x l

    is : due ≡ suc (due - 1)
    is = omega (arith, l)

    here : Whole heap (suc (due - 1)) at
    here = subst (λ n. Whole heap n at) is x.ahead

    next : due' ≡ arity_of (get_or heap at 0) + (due - 1)
    next = omega (arith, d, ea, ap arity_of eu)

pub pass-end : {heap : List ℕ} {p at due : ℕ} → Passing heap p at due → due ≤ 0 → at ≡ p + length (rows heap 1 p)
pass-end {heap} {at = at} {due} x z =
    let zero-due : due ≡ 0 = omega (arith, z) in
    omega (arith, x.sum, ap (λ n. length (rows heap n at)) zero-due, ap length (rows_none heap at))
