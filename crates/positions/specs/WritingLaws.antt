-- What is written has what the words it comes from have.
use Rattle.std.specs.Prelude.{ℕ, ◌<◌, ◌≡◌, ◌⊎◌, List, length, get_or}
use Rattle.std.proofs.Common.{arith, subst, ⊎_elim}
use Rattle.terms.specs.Node.{Expr}
use Rattle.positions.specs.Writing.{Of, Written}

pub written_all : (w src : List ℕ) {out z : List ℕ} {t : Expr} {r : ℕ} → Written (λ u. Of w u ⊎ Of src u) out 0 t z r → (r ≡ 65535 → ⊥)
    → (Q : ℕ → Type 0) → ((x : ℕ) → x < length w → Q (get_or w x 0)) → ((x : ℕ) → x < length src → Q (get_or src x 0)) → (x : ℕ) → x < r → Q (get_or z x 0)
written_all w src p n Q hw hs x l = ⊎_elim (λ o. subst Q o.2 (hw o.0 o.1)) (λ o. subst Q o.2 (hs o.0 o.1)) (p.from n x (omega arith) l)
