-- Past bound variables.
use Rattle.std.specs.Prelude.{ℕ, suc, ◌-◌, ◌%◌, ◌<◌, ◌≤◌, ◌≡◌, refl, List, ◌∷◌, eqb, length, get_or}
use Rattle.std.proofs.Common.{arith, eq-eqb, ne_eqb, sym as inv, ap, ◌∙◌, append-nil}
use Rattle.std.proofs.Math.Decide.{ℕ_discrete}
use Rattle.terms.specs.Node.{var}
use Rattle.terms.specs.When.{◌⇒◌∣◌}
use Rattle.terms.specs.Subst.{Subst, apply}
use Rattle.words.specs.Word.{kind_of}
use Rattle.heap.specs.Heap.{rows, Whole, bound, Made, Solves}
use Rattle.heap.specs.HeapLaws.{rows_none, row_inside, rows-var}

-- the row at q stands for what the one at p does
pub record SameRow (heap cells : List ℕ) (p q : ℕ) : Type 0 where
  pub inside : q < length heap
  pub same : (θ : Subst) → Solves heap cells θ → apply θ (rows heap 1 p) ≡ apply θ (rows heap 1 q)
  pub whole : Whole heap 1 p → Whole heap 1 q

-- and begins with a symbol, or is a variable that is not bound
pub record Followed (heap cells : List ℕ) (p q : ℕ) : Type 0 where
  pub row : SameRow heap cells p q
  pub stops : kind_of (get_or heap q 0) ≡ 1 → bound cells (get_or heap q 0 % 65536) ≡ 0

pub same_start : {heap cells : List ℕ} {p : ℕ} → p < length heap → SameRow heap cells p p
same_start l = record { inside = l; same = λ θ s. refl; whole = λ r. r }

-- one variable on
pub same-bound : {heap cells : List ℕ} {p q : ℕ} → Made heap cells → SameRow heap cells p q → kind_of (get_or heap q 0) ≡ 1 → (b : ℕ) → bound cells (get_or heap q 0 % 65536) ≡ suc b → SameRow heap cells p b
same-bound {heap} {cells} {p} {q} made r k b e = record {
  inside = row_inside heap 0 b (made.whole _ b e);
  same = λ θ s.
      r.same θ s ∙ ap (apply θ) (rows-var heap 0 q r.inside k ∙ ap (λ x. var (get_or heap q 0 % 65536) ∷ x) (rows_none heap (suc q)))
      ∙ append-nil (θ (get_or heap q 0 % 65536)) ∙ s.stands _ b e;
  whole = λ w. made.whole _ b e;
}

-- What falls on the way: a variable's number, from 1.
abbrev pub rank : List ℕ → ℕ → ℕ
rank heap p = eqb (kind_of (get_or heap p 0)) 1 ⇒ suc (get_or heap p 0 % 65536) ∣ 0

pub rank_falls : {heap cells : List ℕ} → Made heap cells → (q b : ℕ) → kind_of (get_or heap q 0) ≡ 1 → bound cells (get_or heap q 0 % 65536) ≡ suc b → rank heap b < rank heap q
rank_falls {heap} {cells} made q b k e = rw (eq-eqb (kind_of (get_or heap q 0)) 1 k) (elim (ℕ_discrete (kind_of (get_or heap b 0)) 1) [
  | yes x ↦ rw (eq-eqb (kind_of (get_or heap b 0)) 1 x) (omega (arith, made.lower _ b e x))
  | no n ↦ rw (ne_eqb (kind_of (get_or heap b 0)) 1 n) (omega arith)
])

-- A symbol's word is reached.
pub follow_symbol : {heap cells : List ℕ} {p q : ℕ} → SameRow heap cells p q → {u : ℕ} → u ≡ get_or heap q 0 → 33554432 ≤ u → Followed heap cells p q
follow_symbol r e high = record { row = r; stops = λ k. absurd (omega (arith, e, k)) }

-- A variable's word is reached, with its number and what it is bound to.
module _ {heap cells : List ℕ} (made : Made heap cells) {p q : ℕ} (r : SameRow heap cells p q) {u i : ℕ} (e : u ≡ get_or heap q 0) (low : u < 33554432) (number : i ≡ u % 65536) where
  pub kind : kind_of (get_or heap q 0) ≡ 1
  kind = omega (arith, e, low, (made.fits q r.inside).valid.low)

  same_number : i ≡ get_or heap q 0 % 65536
  same_number = number ∙ ap (λ w. w % 65536) e

  pub in_table : i < length cells
  in_table = omega (arith, same_number, (made.fits q r.inside).below kind)

  module _ {row : ℕ} (is : bound cells i ≡ suc row) where
    pub on_row : bound cells (get_or heap q 0 % 65536) ≡ suc row
    on_row = ap (bound cells) (inv same_number) ∙ is

    pub follow_row : SameRow heap cells p row
    follow_row = same-bound made r kind row on_row

  pub follow_unbound : bound cells i ≡ 0 → Followed heap cells p q
  follow_unbound z = record { row = r; stops = λ k. ap (bound cells) (inv same_number) ∙ z }

  module _ {b : ℕ} (is : b ≡ get_or cells i 0) where
    there : bound cells (get_or heap q 0 % 65536) ≡ b
    there = ap (bound cells) (inv same_number) ∙ inv is

    pub follow_free : b ≡ 0 → Followed heap cells p q
    follow_free z = record { row = r; stops = λ k. there ∙ z }

    module _ (n : b ≡ 0 → ⊥) where
      pub on : bound cells (get_or heap q 0 % 65536) ≡ suc (b - 1)
      on = omega (arith, there, n)

      pub follow_on : SameRow heap cells p (b - 1)
      follow_on = same-bound made r kind (b - 1) on
