-- What a walk comes to next.
use Rattle.std.specs.Prelude.{ℕ, zero, suc, ◌+◌, ◌*◌, ◌-◌, ◌%◌, ◌<◌, ◌≤◌, ◌≡◌, refl, List, [], ◌∷◌, ◌++◌, length, get_or, set}
use Rattle.std.proofs.Common.{arith, eq-eqb, ne_eqb, sym as inv, ap, ap₂, ◌∙◌, subst, append_assoc, length-set, get_or-set_same, get_or-set_other}
use Rattle.std.proofs.Math.Decide.{ℕ_discrete}
use Rattle.terms.specs.Node.{sym, Expr}
use Rattle.terms.specs.Row.{Row, row_end}
use Rattle.terms.specs.Subst.{Subst, apply}
use Rattle.words.specs.Word.{kind_of, arity_of, Fit, node}
use Rattle.words.specs.WordLaws.{node-var, node-sym}
use Rattle.heap.specs.Heap.{rows, Whole, Made, Solved}
use Rattle.heap.specs.HeapLaws.{rows_none, row_inside, rows_few, rows-var, rows-sym, stands-var, stands-sym, whole-var, whole-var-back, whole-sym}
use Rattle.heap.specs.Following.{Followed}
use Rattle.heap.specs.Walking.{level_at, level_due, behind, ahead, Levels, Ready, settled, settled_at, entered, pushed, Visited}
use Rattle.heap.specs.declared.walking.Walk.{Walk}

abbrev walk : ℕ → ℕ → ℕ → Walk
walk at due depth = record { at = at; due = due; depth = depth }

-- A level that is done.
module _ (levels : List ℕ) where
  pub settled-due : (w : Walk) → 0 < w.due → w ≡ settled levels w
  settled-due w l = go w.at w.due w.depth l
    where
      go : (at due depth : ℕ) → 0 < due → walk at due depth ≡ settled_at levels at due depth
      go at zero depth l = absurd (omega arith)
      go at (suc due) depth l = refl

  pub settled-last : (w : Walk) → w.due ≤ 0 → w.depth ≡ 0 → w ≡ settled levels w
  settled-last w z e = go w.at w.due w.depth z e
    where
      go : (at due depth : ℕ) → due ≤ 0 → depth ≡ 0 → walk at due depth ≡ settled_at levels at due depth
      go at zero zero z e = refl
      go at zero (suc n) z e = absurd (omega arith)
      go at (suc due) depth z e = absurd (omega arith)

  pub settled_before : (w : Walk) → w.due ≤ 0 → (w.depth ≡ 0 → ⊥) → {at due depth : ℕ} → at ≡ level_at levels (w.depth - 1) → due ≡ level_due levels (w.depth - 1) → depth ≡ w.depth - 1
      → walk at due depth ≡ settled levels w
  settled_before w z n p q r = rw p (rw q (rw r (go w.at w.due w.depth z n)))
    where
      go : (at due depth : ℕ) → due ≤ 0 → (depth ≡ 0 → ⊥) → walk (level_at levels (depth - 1)) (level_due levels (depth - 1)) (depth - 1) ≡ settled_at levels at due depth
      go at zero zero z n = absurd (n refl)
      go at zero (suc d) z n = let e : suc d - 1 ≡ d = omega arith in ap (λ i. walk (level_at levels i) (level_due levels i) i) e
      go at (suc due) depth z n = absurd (omega arith)

  module _ (heap : List ℕ) where
    pub settled-ahead : (θ : Subst) (at due depth : ℕ) → ahead heap levels θ (settled_at levels at due depth) ≡ apply θ (rows heap due at) ++ behind heap levels θ depth
    settled-ahead θ at (suc due) depth = refl
    settled-ahead θ at zero zero = refl
    settled-ahead θ at zero (suc n) = ap (λ e. apply θ e ++ behind heap levels θ (suc n)) (inv (rows_none heap at))

    pub settled-ready : (at due depth : ℕ) → Whole heap due at → Levels heap levels depth → 2 * depth ≤ length levels → Ready heap levels (settled_at levels at due depth)
    settled-ready at (suc due) depth r l room = record { front = r; back = l; ended = λ e. absurd (omega arith); room = room }
    settled-ready at zero zero r l room = record { front = r; back = l; ended = λ e. refl; room = room }
    settled-ready at zero (suc n) r l room =
        record { front = (l n (omega arith)).0; back = λ i h. l i (omega arith); ended = λ e. absurd (omega (arith, (l n (omega arith)).1, e)); room = omega (arith, room) }

    settled-deep : (at due depth : ℕ) → (settled_at levels at due depth).depth ≤ depth
    settled-deep at (suc due) depth = omega arith
    settled-deep at zero zero = omega arith
    settled-deep at zero (suc n) = omega arith

-- A level that is kept.
module _ (levels : List ℕ) (n x y : ℕ) (room : 2 * n + 2 ≤ length levels) where
  abbrev more : List ℕ
  more = set (set levels (2 * n) x) (2 * n + 1) y

  more-at : level_at more n ≡ x
  more-at = get_or-set_other (set levels (2 * n) x) (2 * n + 1) (2 * n) y 0 (λ e. omega arith) ∙ get_or-set_same levels (2 * n) x 0 (omega (arith, room))

  more-due : level_due more n ≡ y
  more-due = get_or-set_same (set levels (2 * n) x) (2 * n + 1) y 0 (omega (arith, room, length-set levels (2 * n) x))

  more-long : length more ≡ length levels
  more-long = length-set (set levels (2 * n) x) (2 * n + 1) y ∙ length-set levels (2 * n) x

  below : (j : ℕ) → j < 2 * n → get_or more j 0 ≡ get_or levels j 0
  below j l = get_or-set_other (set levels (2 * n) x) (2 * n + 1) j y 0 (λ e. omega arith) ∙ get_or-set_other levels (2 * n) j x 0 (λ e. omega arith)

  more-levels : (heap : List ℕ) → Levels heap levels n → (i : ℕ) → i < n → Whole heap (level_due more i) (level_at more i) × (0 < level_due more i)
  more-levels heap l i h = rw (below (2 * i) (omega arith)) (rw (below (2 * i + 1) (omega arith)) (l i h))

  more-behind : (heap : List ℕ) (θ : Subst) (m : ℕ) → m ≤ n → behind heap more θ m ≡ behind heap levels θ m
  more-behind heap θ zero l = refl
  more-behind heap θ (suc m) l =
      ap₂ ◌++◌ (ap₂ (λ k a. apply θ (rows heap k a)) (below (2 * m + 1) (omega arith)) (below (2 * m) (omega arith))) (more-behind heap θ m (omega arith))

-- what a walk that enters is, and the levels that it keeps
module _ (levels : List ℕ) (w : Walk) (p k : ℕ) where
  pub enter_alone : w.due ≡ 1 → (walk p k w.depth ≡ entered w p k) × (levels ≡ pushed levels w)
  enter_alone e = rw (eq-eqb w.due 1 e) (refl, refl)

  pub enter_more : (w.due ≡ 1 → ⊥) → {n : ℕ} → n ≡ suc w.depth → (walk p k n ≡ entered w p k) × (set (set levels (2 * w.depth) (w.at + 1)) (2 * w.depth + 1) (w.due - 1) ≡ pushed levels w)
  enter_more n e = rw e (rw (ne_eqb w.due 1 n) (refl, refl))

-- One node.
module _ {heap cells levels : List ℕ} (made : Made heap cells) {w : Walk} (ready : Ready heap levels w) (some : 0 < w.due) where
  abbrev p : ℕ
  p = w.at

  abbrev d : ℕ
  d = w.due - 1

  due_is : w.due ≡ suc d
  due_is = omega (arith, some)

  front : Whole heap (suc d) p
  front = subst (λ n. Whole heap n p) due_is ready.front

  pub walk_inside : p < length heap
  walk_inside = row_inside heap d p front

  pub walk-few : w.due ≤ length heap
  walk-few = rows_few heap w.due p ready.front

  ahead-is : (θ : Subst) → ahead heap levels θ w ≡ apply θ (rows heap (suc d) p) ++ behind heap levels θ w.depth
  ahead-is θ = ap (λ n. apply θ (rows heap n p) ++ behind heap levels θ w.depth) due_is

  -- a symbol of the heap, then its arguments
  pub visit_symbol : {u : ℕ} → u ≡ get_or heap p 0 → 33554432 ≤ u → {a : ℕ} → a ≡ arity_of u → {x y : ℕ} {r : Walk} → r ≡ settled levels (walk x y w.depth) → x ≡ suc p → y ≡ a + d
      → Visited heap cells levels w u levels r
  visit_symbol e high ea er ex ey = rw er (rw ex (rw ey (rw ea (rw e (record {
    same = λ θ s.
        ahead-is θ ∙ ap (λ x. apply θ x ++ behind heap levels θ w.depth) (rows-sym heap d p walk_inside fit.valid plain ∙ ap (λ n. n ∷ after) symbol)
        ∙ ap₂ ◌∷◌ (inv symbol) (inv (settled-ahead levels heap θ (suc p) (arity_of (get_or heap p 0) + d) w.depth));
    ready = settled-ready levels heap (suc p) (arity_of (get_or heap p 0) + d) w.depth (whole-sym heap d p walk_inside fit.valid plain front) ready.back ready.room;
    fit = fit;
    deep = omega (arith, settled-deep levels heap (suc p) (arity_of (get_or heap p 0) + d) w.depth);
    long = refl;
  })))))
    where
      fit : Fit (length cells) (get_or heap p 0)
      fit = made.fits p walk_inside

      plain : kind_of (get_or heap p 0) ≡ 1 → ⊥
      plain k = omega (arith, e, high, k)

      after : Expr
      after = rows heap (arity_of (get_or heap p 0) + d) (suc p)

      symbol : node (get_or heap p 0) ≡ sym (node-sym (get_or heap p 0) plain).0
      symbol = (node-sym (get_or heap p 0) plain).1

  -- a variable of the heap, and the row at q that it stands for
  module _ {u : ℕ} (eu : u ≡ get_or heap p 0) (low : u < 33554432) {q : ℕ} (there : Followed heap cells p q) where
    is-var : kind_of (get_or heap p 0) ≡ 1
    is-var = omega (arith, eu, low, (made.fits p walk_inside).valid.low)

    at-q : Fit (length cells) (get_or heap q 0)
    at-q = made.fits q there.row.inside

    rest : Whole heap d (suc p)
    rest = whole-var heap d p walk_inside is-var front

    whole-q : Whole heap 1 q
    whole-q = there.row.whole (whole-var-back heap 0 p walk_inside is-var (subst (Row 0) (inv (rows_none heap (suc p))) row_end))

    -- the walk is of what stands at q, and then of what is behind p
    ahead-var : (θ : Subst) → Solved heap cells θ → ahead heap levels θ w ≡ apply θ (rows heap 1 q) ++ (apply θ (rows heap d (suc p)) ++ behind heap levels θ w.depth)
    ahead-var θ s =
        let v = get_or heap p 0 % 65536 in
        let one : θ v ≡ apply θ (rows heap 1 q)
        = inv (stands-var heap p walk_inside θ is-var) ∙ there.row.same θ s.solves in
        ahead-is θ ∙ ap (λ x. apply θ x ++ behind heap levels θ w.depth) (rows-var heap d p walk_inside is-var)
        ∙ ap (λ x. (x ++ apply θ (rows heap d (suc p))) ++ behind heap levels θ w.depth) one
        ∙ append_assoc (apply θ (rows heap 1 q)) (apply θ (rows heap d (suc p))) (behind heap levels θ w.depth)

    -- a leaf: a constant, or a variable that is not bound
    leaf_row : arity_of (get_or heap q 0) ≡ 0 → (θ : Subst) → Solved heap cells θ → apply θ (rows heap 1 q) ≡ node (get_or heap q 0) ∷ []
    leaf_row z θ s = elim (ℕ_discrete (kind_of (get_or heap q 0)) 1) [
      | yes k ↦ stands-var heap q there.row.inside θ k ∙ s.free _ (there.stops k) ∙ ap (λ x. x ∷ []) (inv (node-var (get_or heap q 0) k))
      | no n ↦ stands-sym heap q there.row.inside θ at-q.valid n (inv z) ∙ ap (λ x. node (get_or heap q 0) ∷ apply θ x) (rows_none heap (suc q))
    ]

    pub visit_leaf : {x : ℕ} → x ≡ get_or heap q 0 → {k : ℕ} → k ≡ arity_of x → k ≡ 0 → {a b : ℕ} {r : Walk} → r ≡ settled levels (walk a b w.depth) → a ≡ suc p → b ≡ d
        → Visited heap cells levels w x levels r
    visit_leaf ex ek z er ea eb = rw er (rw ea (rw eb (rw ex (record {
      same = λ θ s. ahead-var θ s ∙ ap (λ x. x ++ (apply θ (rows heap d (suc p)) ++ behind heap levels θ w.depth)) (leaf_row (ap arity_of (inv ex) ∙ inv ek ∙ z) θ s)
          ∙ ap (λ x. node (get_or heap q 0) ∷ x) (inv (settled-ahead levels heap θ (suc p) d w.depth));
      ready = settled-ready levels heap (suc p) d w.depth rest ready.back ready.room;
      fit = at-q;
      deep = omega (arith, settled-deep levels heap (suc p) d w.depth);
      long = refl;
    }))))

    -- a symbol with arguments: they come before what is behind p
    module _ {x k : ℕ} (ex : x ≡ get_or heap q 0) (ek : k ≡ arity_of x) (some-k : k ≡ 0 → ⊥) (room : 2 * w.depth + 2 ≤ length levels) where
      arity-is : arity_of (get_or heap q 0) + 0 ≡ k
      arity-is = omega (arith, ap arity_of ex, ek)

      no-var : kind_of (get_or heap q 0) ≡ 1 → ⊥
      no-var z = some-k (ek ∙ ap arity_of ex ∙ at-q.valid.bare (omega (arith, z)))

      arguments : Whole heap k (suc q)
      arguments = subst (λ n. Whole heap n (suc q)) arity-is (whole-sym heap 0 q there.row.inside at-q.valid no-var whole-q)

      after-node : (θ : Subst) → Solved heap cells θ
          → ahead heap levels θ w ≡ node (get_or heap q 0) ∷ (apply θ (rows heap k (suc q)) ++ (apply θ (rows heap d (suc p)) ++ behind heap levels θ w.depth))
      after-node θ s =
          ahead-var θ s ∙ ap (λ x. x ++ (apply θ (rows heap d (suc p)) ++ behind heap levels θ w.depth))
          (stands-sym heap q there.row.inside θ at-q.valid no-var (ek ∙ ap arity_of ex))

      visit_alone : w.due ≡ 1 → Visited heap cells levels w (get_or heap q 0) levels (walk (suc q) k w.depth)
      visit_alone one = record {
        same = λ θ s. after-node θ s
            ∙ ap (λ e. node (get_or heap q 0) ∷ (apply θ (rows heap k (suc q)) ++ (apply θ e ++ behind heap levels θ w.depth))) (ap (λ n. rows heap n (suc p)) none ∙ rows_none heap (suc p));
        ready = record { front = arguments; back = ready.back; ended = λ z. absurd (some-k z); room = ready.room };
        fit = at-q;
        deep = omega arith;
        long = refl;
      }
        where
          none : d ≡ 0
          none = omega (arith, one)

      abbrev D : ℕ
      D = w.depth

      visit_kept : (w.due ≡ 1 → ⊥) → (x : ℕ) → x ≡ suc p → let z = set (set levels (2 * w.depth) x) (2 * w.depth + 1) d in
          Visited heap cells levels w (get_or heap q 0) z (walk (suc q) k (suc w.depth))
      visit_kept many x e = record {
        same = λ θ s. after-node θ s ∙ ap (λ y. node (get_or heap q 0) ∷ (apply θ (rows heap k (suc q)) ++ y))
            (inv (ap₂ ◌++◌ (ap₂ (λ n a. apply θ (rows heap n a)) (more-due levels D x d room) (more-at levels D x d room ∙ e)) (more-behind levels D x d room heap θ D (omega arith))));
        ready = record {
          front = arguments;
          back = λ i l. elim (ℕ_discrete i D) [
            | yes z ↦ rw z (rw (more-due levels D x d room) (rw (more-at levels D x d room) (rw e (rest, omega (arith, many, some)))))
            | no n ↦ more-levels levels D x d room heap ready.back i (omega (arith, l, n))
          ];
          ended = λ z. absurd (some-k z);
          room = omega (arith, room, more-long levels D x d room);
        };
        fit = at-q;
        deep = omega arith;
        long = more-long levels D x d room;
      }

      pub visit_within : {a : ℕ} {z : List ℕ} {r : Walk} → z ≡ pushed levels w → r ≡ entered w a k → a ≡ suc q → Visited heap cells levels w x z r
      visit_within ez er ea = rw er (rw ez (rw ea (rw ex (elim (ℕ_discrete w.due 1) [
        | yes one ↦ rw (eq-eqb w.due 1 one) (visit_alone one)
        | no many ↦ rw (ne_eqb w.due 1 many) (visit_kept many (p + 1) (omega arith))
      ]))))
