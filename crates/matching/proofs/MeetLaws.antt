-- Two rows that meet, past bound variables: the cases.
use Rattle.std.specs.Prelude.{ℕ, suc, ◌+◌, ◌%◌, ◌<◌, ◌≤◌, ◌≡◌, refl, ◌↔◌, ltb, length, get_or}
use Rattle.std.proofs.Common.{arith, lt-ltb, le-ltb, sym as inv, ap, ◌∙◌, subst}
use Rattle.std.proofs.Math.Decide.{ℕ_discrete, dec_lt}
use mathlib.Core.List.{List, ◌∷◌, head-eq_of_cons-eq, tail-eq_of_cons-eq}
use Rattle.terms.specs.When.{◌⇒◌∣◌}
use Rattle.terms.specs.Subst.{Subst, apply}
use Rattle.words.specs.Word.{kind_of, arity_of, Fit, node}
use Rattle.words.specs.PackLaws.{node_inj}
use Rattle.heap.specs.Heap.{rows, Whole, Made, Solves}
use Rattle.heap.specs.HeapLaws.{stands-var, stands-sym, rows_none, whole-sym}
use Rattle.heap.specs.Following.{Followed}
use Rattle.matching.specs.Meeting.{Equal, Bindable, Met, apart}
use Rattle.matching.specs.declared.meeting.Meeting.TheVariants.{Same, Inside, Join, Hang, Clash}

module _ {heap cells : List ℕ} (made : Made heap cells) {p q a b : ℕ} (left : Followed heap cells p a) (right : Followed heap cells q b) (whole-p : Whole heap 1 p) (whole-q : Whole heap 1 q) where
  abbrev x : ℕ
  x = get_or heap a 0

  abbrev y : ℕ
  y = get_or heap b 0

  fit-a : Fit (length cells) x
  fit-a = made.fits a left.row.inside

  fit-b : Fit (length cells) y
  fit-b = made.fits b right.row.inside

  whole-a : Whole heap 1 a
  whole-a = left.row.whole whole-p

  whole-b : Whole heap 1 b
  whole-b = right.row.whole whole-q

  -- the rows at p and q are made equal just where those at a and b are
  followed : (τ : Subst) → Solves heap cells τ → Equal heap τ 1 p q ↔ Equal heap τ 1 a b
  followed τ t = (λ e. inv (left.row.same τ t) ∙ e ∙ right.row.same τ t, λ e. left.row.same τ t ∙ e ∙ inv (right.row.same τ t))

  pub met-same : a ≡ b → Met heap cells p q Same
  met-same e τ t = (followed τ t).1 (ap (λ z. apply τ (rows heap 1 z)) e)

  -- one word at both
  module _ (same : x ≡ y) where
    pub met_leaf : arity_of x ≡ 0 → Met heap cells p q Same
    met_leaf z τ t = (followed τ t).1 (elim (ℕ_discrete (kind_of x) 1) [
      | yes k ↦ stands-var heap a left.row.inside τ k ∙ ap (λ u. τ (u % 65536)) same ∙ inv (stands-var heap b right.row.inside τ (inv (ap kind_of same) ∙ k))
      | no n ↦
          stands-sym heap a left.row.inside τ fit-a.valid n (inv z) ∙ ap (λ e. node x ∷ apply τ e) (rows_none heap (suc a) ∙ inv (rows_none heap (suc b))) ∙ ap (λ u. node u ∷ apply τ (rows heap 0 (suc b))) same
          ∙ inv (stands-sym heap b right.row.inside τ fit-b.valid (λ k. n (ap kind_of same ∙ k)) (inv z ∙ ap arity_of same))
    ])

    pub met-inside : {k : ℕ} → k ≡ arity_of x → (k ≡ 0 → ⊥) → {c d : ℕ} → c ≡ suc a → d ≡ suc b → Met heap cells p q (Inside c d k)
    met-inside {k} e some ec ed = rw ec (rw ed (
      omega (arith, some),
      subst (λ n. Whole heap n (suc a)) (omega (arith, e)) (whole-sym heap 0 a left.row.inside fit-a.valid plain-a whole-a),
      subst (λ n. Whole heap n (suc b)) (omega (arith, e, ap arity_of same)) (whole-sym heap 0 b right.row.inside fit-b.valid plain-b whole-b),
      λ τ t. (
        λ z. tail-eq_of_cons-eq (inv (at_a τ) ∙ (followed τ t).0 z ∙ at_b τ),
        λ z. (followed τ t).1 (at_a τ ∙ ap (λ w. node x ∷ w) z ∙ ap (λ u. node u ∷ apply τ (rows heap k (suc b))) same ∙ inv (at_b τ)),
      ),
    ))
      where
        plain-a : kind_of x ≡ 1 → ⊥
        plain-a z = some (e ∙ fit-a.valid.bare (omega (arith, z)))

        plain-b : kind_of y ≡ 1 → ⊥
        plain-b z = plain-a (ap kind_of same ∙ z)

        at_a : (τ : Subst) → apply τ (rows heap 1 a) ≡ node x ∷ apply τ (rows heap k (suc a))
        at_a τ = stands-sym heap a left.row.inside τ fit-a.valid plain-a e

        at_b : (τ : Subst) → apply τ (rows heap 1 b) ≡ node y ∷ apply τ (rows heap k (suc b))
        at_b τ = stands-sym heap b right.row.inside τ fit-b.valid plain-b (e ∙ ap arity_of same)

  -- a variable that is not bound, on the other's row
  pub bind_left : kind_of x ≡ 1 → Bindable heap cells p q (x % 65536) b
  bind_left k = record {
    free = left.stops k;
    inside = fit-a.below k;
    whole = whole-b;
    there = right.row.inside;
    just = λ τ t. let v = stands-var heap a left.row.inside τ k in (λ e. inv v ∙ (followed τ t).0 e, λ e. (followed τ t).1 (v ∙ e));
  }

  pub bind-right : kind_of y ≡ 1 → Bindable heap cells p q (y % 65536) a
  bind-right k = record {
    free = right.stops k;
    inside = fit-b.below k;
    whole = whole-a;
    there = left.row.inside;
    just = λ τ t. let v = stands-var heap b right.row.inside τ k in (λ e. inv v ∙ inv ((followed τ t).0 e), λ e. (followed τ t).1 (inv (v ∙ e)));
  }

  -- two words
  module _ (other : x ≡ y → ⊥) where
    var-a : x < 33554432 → kind_of x ≡ 1
    var-a l = omega (arith, l, fit-a.valid.low)

    var-b : y < 33554432 → kind_of y ≡ 1
    var-b l = omega (arith, l, fit-b.valid.low)

    -- the words of variables are in the order of their numbers
    number-a : kind_of x ≡ 1 → x ≡ 16777216 + x % 65536
    number-a k = omega (arith, k, fit-a.valid.bare (omega (arith, k)))

    number-b : kind_of y ≡ 1 → y ≡ 16777216 + y % 65536
    number-b k = omega (arith, k, fit-b.valid.bare (omega (arith, k)))

    both-vars : (kx : kind_of x ≡ 1) (ky : kind_of y ≡ 1) → Met heap cells p q (ltb y x ⇒ Join (x % 65536) b ∣ Join (y % 65536) a)
    both-vars kx ky = elim (dec_lt y x) [
      | yes l ↦ rw (lt-ltb y x l) (bind_left kx, ky, omega (arith, l, number-a kx, number-b ky), right.stops ky)
      | no n ↦ rw (le-ltb y x (omega (arith, n))) (bind-right ky, kx, omega (arith, n, other, number-a kx, number-b ky), left.stops kx)
    ]

    clash : ¬ (kind_of x ≡ 1) → ¬ (kind_of y ≡ 1) → Met heap cells p q Clash
    clash nx ny τ t e = other (node_inj x y fit-a.valid fit-b.valid (head-eq_of_cons-eq (inv (stands-sym heap a left.row.inside τ fit-a.valid nx refl) ∙ (followed τ t).0 e ∙ stands-sym heap b right.row.inside τ fit-b.valid ny refl)))

    pub met-apart : Met heap cells p q (apart x y a b)
    met-apart = elim (dec_lt x 33554432) [
      | yes lx ↦ elim (dec_lt y 33554432) [
        | yes ly ↦ rw (lt-ltb x 33554432 lx) (rw (lt-ltb y 33554432 ly) (both-vars (var-a lx) (var-b ly)))
        | no ny ↦ rw (lt-ltb x 33554432 lx) (rw (le-ltb y 33554432 (omega (arith, ny))) (bind_left (var-a lx), λ k. omega (arith, ny, k)))
      ]
      | no nx ↦ elim (dec_lt y 33554432) [
        | yes ly ↦ rw (le-ltb x 33554432 (omega (arith, nx))) (rw (lt-ltb y 33554432 ly) (bind-right (var-b ly), λ k. omega (arith, nx, k)))
        | no ny ↦ rw (le-ltb x 33554432 (omega (arith, nx))) (rw (le-ltb y 33554432 (omega (arith, ny))) (clash (λ k. omega (arith, nx, k)) (λ k. omega (arith, ny, k))))
      ]
    ]

-- The five ways apart, from the tests.
module _ (x y a b : ℕ) where
  pub apart-left : x < 33554432 → y < 33554432 → y < x → {v : ℕ} → v ≡ x % 65536 → Join v b ≡ apart x y a b
  apart-left p q l e = rw (lt-ltb x 33554432 p) (rw (lt-ltb y 33554432 q) (rw (lt-ltb y x l) (ap (λ v. Join v b) e)))

  pub apart-right : x < 33554432 → y < 33554432 → x ≤ y → {v : ℕ} → v ≡ y % 65536 → Join v a ≡ apart x y a b
  apart-right p q l e = rw (lt-ltb x 33554432 p) (rw (lt-ltb y 33554432 q) (rw (le-ltb y x l) (ap (λ v. Join v a) e)))

  pub apart_hang_left : x < 33554432 → 33554432 ≤ y → {v : ℕ} → v ≡ x % 65536 → Hang v b ≡ apart x y a b
  apart_hang_left p q e = rw (lt-ltb x 33554432 p) (rw (le-ltb y 33554432 q) (ap (λ v. Hang v b) e))

  pub apart_hang_right : 33554432 ≤ x → y < 33554432 → {v : ℕ} → v ≡ y % 65536 → Hang v a ≡ apart x y a b
  apart_hang_right p q e = rw (le-ltb x 33554432 p) (rw (lt-ltb y 33554432 q) (ap (λ v. Hang v a) e))

  pub apart-clash : 33554432 ≤ x → 33554432 ≤ y → Clash ≡ apart x y a b
  apart-clash p q = rw (le-ltb x 33554432 p) (rw (le-ltb y 33554432 q) refl)
