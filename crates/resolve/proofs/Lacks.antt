-- Where no clause fits: the figures say whether the book knows the predicate and arity.
use Prim.Native.Nat.{ℕ, suc, ◌<◌}
use native.Mathlib.Omega.{arith}
use mathlib.Core.Path.{◌≡◌, sym as inv, ap, ◌∙◌}
use mathlib.Core.List.{List, [], ◌∷◌}
use lib.ListN.{length}
use Rattle.terms.specs.Node.{Expr}
use Rattle.terms.specs.Row.{Atom}
use Rattle.search.specs.Next.{Book, NoneMeets, clause_at}
use Rattle.search.specs.Known.{Known, known?}
use Rattle.search.specs.KnownLaws.{AtomHeads}
use Rattle.search.specs.Furthest.{Figures, Furthest, furthest}
use Rattle.search.proofs.FurthestLaws.{furthest-says, unknown-figures}
use Rattle.words.specs.Held.{GoalIn, BookIn, BookOn}
use Rattle.words.specs.HeldLaws.{clauses-of}

heads-by : (P : Book) → ((i : ℕ) → i < length P → Atom (clause_at P i).head) → AtomHeads P
heads-by [] h = tt
heads-by (c ∷ P) h = (h 0 (omega arith), heads-by P (λ i l. h (suc i) (omega arith)))

heads-of : {words starts heads bodies : List ℕ} {n : ℕ} {P : Book} → BookIn words starts heads bodies n P → AtomHeads P
heads-of {P = P} b = heads-by P (λ i l. (b.placed i (omega (arith, b.count))).clause.atoms.0)

module _ {formula book shelf : List ℕ} (w : Figures) (f : Expr) (P : Book) (p : GoalIn formula 1 (f ∷ [])) (b : BookOn book shelf P) (e : w ≡ furthest P f) where
  says : NoneMeets f P → Known P f → Furthest P f (furthest P f)
  says = furthest-says P f p.atoms.0 p.formulas.0 (heads-of b.held) (clauses-of b.held)

  pub lacks-unknown : w.argument ≡ 0 → NoneMeets f P → ¬ Known P f
  lacks-unknown z none known = omega (arith, (says none known).fails.clashes.counted, ap (λ (v : Figures). v.argument) e, z)

  pub lacks-stuck : (w.argument ≡ 0 → ⊥) → Known P f × (furthest P f ≡ w)
  lacks-stuck z = elim (known? P f) [
    | yes k ↦ (k, inv e)
    | no n ↦ absurd (z (ap (λ (v : Figures). v.argument) (e ∙ unknown-figures P f p.atoms.0 p.formulas.0 (heads-of b.held) (clauses-of b.held) n)))
  ]
