-- What makes two rows of the heap equal, and nothing else, binds no variable that is not on the heap.
use Rattle.std.specs.Prelude.{ℕ, zero, suc, ◌≤◌, ◌≡◌, refl, List, [], ◌∷◌, eqb, drop, take}
use Rattle.std.proofs.Common.{arith, eq-eqb, ne_eqb, sym as inv, ap, ◌∙◌, subst, take-append-drop}
use Rattle.std.proofs.Math.Decide.{ℕ_discrete}
use Rattle.terms.specs.When.{◌⇒◌∣◌}
use Rattle.terms.specs.Node.{var, sym, Expr}
use Rattle.terms.specs.Row.{Row, row_var, row_end, span}
use Rattle.terms.specs.Subst.{In, Subst, apply, itself}
use Rattle.terms.specs.SubstLaws.{in_left, in_right, apply-on}
use Rattle.words.specs.Word.{Fits, nodes}
use Rattle.words.specs.WordLaws.{in-fits}
use Rattle.heap.specs.Heap.{rows, bound, Solves, Solved}
use Rattle.matching.specs.Unifying.{More}

-- a variable of a row is on the heap
pub row_on : (heap : List ℕ) (k r y : ℕ) → In y (rows heap k r) → In y (nodes heap)
row_on heap k r y i =
    let all = nodes heap in
    let rest = drop r all in
    subst (In y) (take-append-drop r all) (in_right y (take r all) rest (subst (In y) (take-append-drop (span k rest) rest) (in_left y (take (span k rest) rest) (drop (span k rest) rest) i)))

module _ {heap cells cells' : List ℕ} {p q : ℕ} (more : More heap cells p q cells') {θ : Subst} (s : Solved heap cells' θ) (n v : ℕ) (fits : Fits n heap) (high : n ≤ v) (free : bound cells v ≡ 0) where
  abbrev other : ℕ → Subst
  other x y = eqb y v ⇒ itself x ∣ θ y

  other-here : (x : ℕ) → other x v ≡ itself x
  other-here x = rw (eq-eqb v v refl) refl

  other-else : (x y : ℕ) → (y ≡ v → ⊥) → other x y ≡ θ y
  other-else x y m = rw (ne_eqb y v m) refl

  on_row : (x r : ℕ) → apply (other x) (rows heap 1 r) ≡ apply θ (rows heap 1 r)
  on_row x r = apply-on (other x) θ (rows heap 1 r) (λ y i. other-else x y (λ z. omega (arith, z, high, in-fits n y heap fits (row_on heap 1 r y i))))

  before : Solves heap cells θ
  before = ((more.just θ).1 s.solves).0

  solves : (x : ℕ) → Solves heap cells' (other x)
  solves x = (more.just (other x)).0 (
    record {
      proper = λ y. elim (ℕ_discrete y v) [ yes e ↦ subst (λ w. Row 1 (other x w)) (inv e) (subst (Row 1) (inv (other-here x)) (row_var row_end)) | no m ↦ subst (Row 1) (inv (other-else x y m)) (before.proper y) ];
      stands = λ y r e. other-else x y (λ z. omega (arith, e, ap (bound cells) z, free)) ∙ before.stands y r e ∙ inv (on_row x r);
    },
    on_row x p ∙ ((more.just θ).1 s.solves).1 ∙ inv (on_row x q),
  )

  value : (r : ℕ) → bound cells' v ≡ suc r → (x : ℕ) → itself x ≡ θ v
  value r e x = inv (other-here x) ∙ (solves x).stands v r e ∙ on_row x r ∙ inv (s.solves.stands v r e)

  abbrev first : Expr → ℕ
  first [] = 0
  first (var x ∷ e) = x
  first (sym x ∷ e) = 0

  pub unseen : bound cells' v ≡ 0
  unseen = go (bound cells' v) refl
    where
      go : (b : ℕ) → bound cells' v ≡ b → bound cells' v ≡ 0
      go zero e = e
      go (suc r) e = absurd (omega (arith, ap first (value r e 0 ∙ inv (value r e 1))))
