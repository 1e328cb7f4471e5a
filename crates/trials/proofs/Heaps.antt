-- A row, and behind it a clause whose variables are moved past those of the row: what stands where on the heap.
use Prim.Native.Nat.{ℕ, zero, suc, ◌+◌, ◌<◌, ◌≤◌}
use native.Mathlib.Omega.{arith}
use mathlib.Core.Path.{◌≡◌, refl, sym as inv, ap, ap₂, ◌∙◌, subst}
use mathlib.Core.Logic.{inl, inr}
use mathlib.Core.List.{List, [], ◌∷◌, ◌++◌, map, map-append, append_assoc, append-nil}
use lib.ListN.{length, take, drop, length-append, length-map, length-drop, take-append-drop}
use lib.Seq.{drop_at, drop-append-le, length-take-le}
use Rattle.terms.specs.Node.{var, sym, Expr}
use Rattle.terms.specs.Row.{Row, row_end, row_var, row_sym, span, Formulas}
use Rattle.terms.specs.RowLaws.{row-append, row_cons, row-split, first-row}
use Rattle.terms.specs.Subst.{In, InAny, Subst, Unifies, MostGeneral}
use Rattle.terms.specs.SubstLaws.{in_left, in_right}
use Rattle.terms.specs.Rename.{rename, Apart}
use Rattle.terms.specs.RenameLaws.{rename-row, rename_idle}
use Rattle.terms.specs.Argument.{firsts}
use Rattle.search.specs.Next.{Clause, Goal, Meets}
use Rattle.search.proofs.NextLaws.{carried}
use Rattle.words.specs.Word.{Fit, Fits, node, nodes}
use Rattle.words.specs.WordLaws.{each_append, fits_more, in-fits}
use Rattle.words.specs.Flat.{flat, flat_append, rename-append}
use Rattle.words.specs.Held.{RowIn, ClauseIn}
use Rattle.picking.specs.Laying.{moved}
use Rattle.picking.proofs.Appends.{row_fits, nodes-moved, fits_moved}
use Rattle.picking.proofs.Problems.{in-flat}
use Rattle.heap.specs.Heap.{rows, Whole, Made}
use Rattle.matching.specs.Unifying.{Low}
use Rattle.matching.specs.TrialLaws.{Free}

-- The goal's variables keep their numbers.
abbrev pub own_name : ℕ → ℕ
own_name v = v

abbrev pub past_name : ℕ → ℕ
past_name v = v + 8192

pub rename-own : (e : Expr) → rename own_name e ≡ e
rename-own e = rename_idle own_name e (λ v i. refl)

-- formulas one behind the other are as many rows
pub flat_rows : (g : Goal) → Formulas g → Row (length g) (flat g)
flat_rows [] p = row_end
flat_rows (f ∷ g) p = row_cons p.0 (flat_rows g p.1)

-- what begins within rows ends within them
row-behind : {k : ℕ} {e : Expr} → Row k e → (r : ℕ) → r < length e → (n : ℕ) × Row (suc n) (drop r e)
row-behind row_end r l = absurd (omega arith)
row-behind (row_var {n} w) zero l = (n, row_var w)
row-behind (row_sym {n} w) zero l = (n, row_sym w)
row-behind (row_var w) (suc r) l = row-behind w r (omega arith)
row-behind (row_sym w) (suc r) l = row-behind w r (omega arith)

pub in_rows : {k : ℕ} {e : Expr} → Row k e → (x : Expr) (r : ℕ) → r < length e → (v : ℕ) → In v (firsts 1 (drop r (e ++ x))) → In v e
in_rows {k} {e} w x r l v i =
    let (n, d) = row-behind w r l in
    let (first, rest) = row-split 1 n (omega arith) d in
    let same : firsts 1 (drop r (e ++ x)) ≡ firsts 1 (drop r e)
    = ap (firsts 1) (drop-append-le r e x (omega arith) ∙ ap (λ y. y ++ x) (inv (take-append-drop (span 1 (drop r e)) (drop r e))) ∙ append_assoc (firsts 1 (drop r e)) (drop (span 1 (drop r e)) (drop r e)) x)
    ∙ first-row first (drop (span 1 (drop r e)) (drop r e) ++ x) in
    let here : In v (drop r e)
    = subst (In v) (take-append-drop (span 1 (drop r e)) (drop r e)) (in_left v (firsts 1 (drop r e)) (drop (span 1 (drop r e)) (drop r e)) (subst (In v) same i)) in
    subst (In v) (take-append-drop r e) (in_right v (take r e) (drop r e) here)

-- k rows in the middle
module _ (heap : List ℕ) (x y z : Expr) (is : nodes heap ≡ x ++ (y ++ z)) (k p : ℕ) (r : Row k y) (at : p ≡ length x) where
  pub piece : rows heap k p ≡ y
  piece = ap (λ e. firsts k (drop p e)) is ∙ ap (firsts k) (drop_at x (y ++ z) p (inv at)) ∙ first-row r z

  pub piece-whole : Whole heap k p
  piece-whole = subst (Row k) (inv piece) r

module _ (row clause : List ℕ) (w n k b : ℕ) (f : Expr) (g a : Goal) (c : Clause) (p : RowIn row w n (f ∷ g) a) (q : ClauseIn clause k b c) where
  abbrev heap : List ℕ
  heap = row ++ map (moved 8192) clause

  pub row-nodes : nodes row ≡ flat (f ∷ g) ++ flat a
  row-nodes = ap nodes (inv (take-append-drop w row)) ∙ map-append node (take w row) (drop w row) ∙ ap₂ ◌++◌ p.goal.is p.answer.is

  clause-nodes : nodes (map (moved 8192) clause) ≡ rename past_name c.head ++ rename past_name (flat c.body)
  clause-nodes = nodes-moved 8192 64 (omega arith) clause q.fit ∙ ap (rename past_name) q.is ∙ rename-append past_name c.head (flat c.body)

  abbrev head : Expr
  head = rename past_name c.head

  abbrev body : Expr
  body = rename past_name (flat c.body)

  all : nodes heap ≡ (flat (f ∷ g) ++ flat a) ++ (head ++ body)
  all = map-append node row (map (moved 8192) clause) ∙ ap₂ ◌++◌ row-nodes clause-nodes

  pub row-length : length row ≡ length (flat (f ∷ g) ++ flat a)
  row-length = inv (length-map row node) ∙ ap length row-nodes

  pub goal-length : w ≡ length (f ++ flat g)
  goal-length = inv (length-take-le w row p.within) ∙ inv (length-map (take w row) node) ∙ ap length p.goal.is

  pub row_small : length row ≤ 8192
  row_small = omega (arith, p.goal.size, p.answer.size, length-take-le w row p.within, length-drop w row)

  pub heap-length : length heap ≡ length row + length clause
  heap-length = length-append row (map (moved 8192) clause) ∙ ap (λ i. length row + i) (length-map clause (moved 8192))

  heap-fits : Fits 8256 heap
  heap-fits = each_append (Fit 8256) row (map (moved 8192) clause) (fits_more 8192 8256 row (omega arith) (row_fits p)) (fits_moved 8192 64 (omega arith) clause q.fit)

  pub heap-made : (cells : List ℕ) → length cells ≡ 8256 → Free cells → Made heap cells
  heap-made cells l free = record {
    fits = subst (λ i. Fits i heap) (inv l) heap-fits;
    short = omega (arith, heap-length, row_small, q.size);
    whole = λ v r e. absurd (omega (arith, free v, e));
    lower = λ v r e. absurd (omega (arith, free v, e));
  }

  -- a row that begins before the clause ends before it
  pub heap-low : (i : ℕ) → i ≡ length row → Low heap 8192 i
  heap-low i e r l w v j =
      let all-rows = row-append (flat_rows (f ∷ g) p.goal.formulas) (flat_rows a p.answer.formulas) in
      in-fits 8192 v row (row_fits p)
      (subst (In v) (inv row-nodes) (in_rows all-rows (head ++ body) r (omega (arith, l, e, row-length)) v (subst (λ x. In v (firsts 1 (drop r x))) all j)))

  -- the formula, and the head
  formula_at : nodes heap ≡ [] ++ (f ++ (flat g ++ (flat a ++ (head ++ body))))
  formula_at = all ∙ append_assoc (f ++ flat g) (flat a) (head ++ body) ∙ append_assoc f (flat g) (flat a ++ (head ++ body))

  pub formula-here : rows heap 1 0 ≡ f
  formula-here = piece heap [] f (flat g ++ (flat a ++ (head ++ body))) formula_at 1 0 p.goal.formulas.0 refl

  pub formula-whole : Whole heap 1 0
  formula-whole = piece-whole heap [] f (flat g ++ (flat a ++ (head ++ body))) formula_at 1 0 p.goal.formulas.0 refl

  module _ (i : ℕ) (e : i ≡ length row) where
    pub head-here : rows heap 1 i ≡ head
    head-here = piece heap (flat (f ∷ g) ++ flat a) head body all 1 i (rename-row past_name q.formulas.0) (e ∙ row-length)

    pub head-whole : Whole heap 1 i
    head-whole = piece-whole heap (flat (f ∷ g) ++ flat a) head body all 1 i (rename-row past_name q.formulas.0) (e ∙ row-length)

  -- the rest of the goal
  module _ (d i : ℕ) (many : d ≡ length g) (e : i ≡ length f) where
    rest_at : nodes heap ≡ f ++ (flat g ++ (flat a ++ (head ++ body)))
    rest_at = formula_at

    rest-row : Row d (flat g)
    rest-row = subst (λ j. Row j (flat g)) (inv many) (flat_rows g p.goal.formulas.1)

    pub rest-here : rows heap d i ≡ flat g
    rest-here = piece heap f (flat g) (flat a ++ (head ++ body)) rest_at d i rest-row e

    pub rest-whole : Whole heap d i
    rest-whole = piece-whole heap f (flat g) (flat a ++ (head ++ body)) rest_at d i rest-row e

  -- the answer
  module _ (d : ℕ) (many : d ≡ length a) where
    answer_at : nodes heap ≡ (f ++ flat g) ++ (flat a ++ (head ++ body))
    answer_at = all ∙ append_assoc (f ++ flat g) (flat a) (head ++ body)

    answer-row : Row d (flat a)
    answer-row = subst (λ j. Row j (flat a)) (inv many) (flat_rows a p.answer.formulas)

    pub answer-here : rows heap d w ≡ flat a
    answer-here = piece heap (f ++ flat g) (flat a) (head ++ body) answer_at d w answer-row goal-length

    pub answer-whole : Whole heap d w
    answer-whole = piece-whole heap (f ++ flat g) (flat a) (head ++ body) answer_at d w answer-row goal-length

  -- the body
  module _ (i : ℕ) (e : i ≡ length row + k) where
    body_at : nodes heap ≡ ((flat (f ∷ g) ++ flat a) ++ head) ++ (body ++ [])
    body_at = all ∙ inv (append_assoc (flat (f ∷ g) ++ flat a) head body) ∙ ap (λ x. ((flat (f ∷ g) ++ flat a) ++ head) ++ x) (inv (append-nil body))

    rename-length : (e : Expr) → length (rename past_name e) ≡ length e
    rename-length [] = refl
    rename-length (var v ∷ e) = ap suc (rename-length e)
    rename-length (sym s ∷ e) = ap suc (rename-length e)

    place : i ≡ length ((flat (f ∷ g) ++ flat a) ++ head)
    place = omega (arith, e, row-length, length-append (flat (f ∷ g) ++ flat a) head, rename-length c.head, q.head)

    body-row : Row b body
    body-row = rename-row past_name (subst (λ j. Row j (flat c.body)) (inv q.body) (flat_rows c.body q.formulas.1))

    pub body-here : rows heap b i ≡ body
    body-here = piece heap ((flat (f ∷ g) ++ flat a) ++ head) body [] body_at b i body-row place

    pub body-whole : Whole heap b i
    body-whole = piece-whole heap ((flat (f ∷ g) ++ flat a) ++ head) body [] body_at b i body-row place

  -- no variable of the row is one of the clause
  in_row : (v : ℕ) → InAny v (f ∷ (g ++ a)) → v < 8192
  in_row v i = in-fits 8192 v row (row_fits p) (subst (In v) (flat_append (f ∷ g) a ∙ inv row-nodes) (in-flat v (f ∷ (g ++ a)) i))

  pub apart_far : Apart own_name past_name (f ∷ (g ++ a)) (c.head ∷ c.body)
  apart_far = record { left = λ v x i j e. e; right = λ v x i j e. omega (arith, e); shared = λ v x i j e. omega (arith, e, in_row v i) }

  any-front : (v : ℕ) (l m : Goal) → InAny v l → InAny v (l ++ m)
  any-front v (e ∷ l) m (inl i) = inl i
  any-front v (e ∷ l) m (inr i) = inr (any-front v l m i)
  any-front v [] m x' = elim x' [ ]

  pub apart-near : Apart own_name past_name (f ∷ g) (c.head ∷ c.body)
  apart-near = record { left = λ v x i j e. e; right = λ v x i j e. omega (arith, e); shared = λ v x i j e. omega (arith, e, in_row v (any-front v (f ∷ g) a i)) }

  apart-first : Apart own_name past_name (f ∷ []) (c.head ∷ [])
  apart-first = record { left = λ v x i j e. e; right = λ v x i j e. omega (arith, e); shared = λ v x i j e. omega (arith, e, in_row v (any-front v (f ∷ []) (g ++ a) i)) }

  -- what the trial of the two rows says of the clause
  module _ (i : ℕ) (e : i ≡ length row) where
    pub general-there : {θ : Subst} → MostGeneral θ (rows heap 1 0) (rows heap 1 i) → MostGeneral θ (rename own_name f) (rename past_name c.head)
    general-there {θ} m = subst (λ x. MostGeneral θ x head) (formula-here ∙ inv (rename-own f)) (subst (MostGeneral θ (rows heap 1 0)) (head-here i e) m)

    pub meets-there : {θ : Subst} → MostGeneral θ (rows heap 1 0) (rows heap 1 i) → Meets f c
    meets-there {θ} m = record { goal_names = own_name; clause_names = past_name; apart = apart-first; unifier = θ; unifies = (general-there m).unifies }

    pub none-there : ((τ : Subst) → ¬ Unifies τ (rows heap 1 0) (rows heap 1 i)) → Meets f c → ⊥
    none-there none t =
        let u = carried own_name past_name t.goal_names t.clause_names f c.head [] [] apart-first t.unifier t.unifies in
        none u.0.joint (subst (λ x. Unifies u.0.joint x (rows heap 1 i)) (rename-own f ∙ inv formula-here) (subst (Unifies u.0.joint (rename own_name f)) (inv (head-here i e)) u.1))
