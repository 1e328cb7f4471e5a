-- Document 000's derivations (1.3), by the leftmost formula and the first clause whose head unifies with it, with nothing numbered anew, and what follows from a book.
use Rattle.std.specs.Prelude.{ℕ, suc, ◌≡◌, ◌⊎◌, List, [], ◌∷◌, ◌++◌, map}
use Rattle.terms.specs.Node.{Expr}
use Rattle.terms.specs.Subst.{Subst, apply, after, itself}
use Rattle.terms.specs.Substitution.{Substitution, Mgu}
use Rattle.search.specs.Next.{Clause, Book, Goal}
use Rattle.search.specs.Resolution.{Standard, FirstUnifying}

-- "G0, G1, .. of goals .. together with a sequence C0, C1, .. of variants of clauses from P and a sequence θ0, θ1, .. of substitutions": after t steps the goal is g, and θ is θ0 θ1 ..
-- "Ci does not have a variable in common with the derivation up to Gi": of that only the goal and the query under θ are asked for. "The computed answer substitution is the restriction of
-- θ1 .. θm to the variables of the query": so the query under θ is the query under it.
pub data Derivation (P : Book) (q : Goal) : ℕ → Goal → Subst → Type 0 where
  begins : Derivation P q 0 q itself
  goes_on : {t : ℕ} {f : Expr} {g : Goal} {θ : Subst} (k : ℕ) (c : Clause) (names mgu : Subst) → Derivation P q t (f ∷ g) θ → FirstUnifying f P k c
      → Standard names ((f ∷ g) ++ map (apply θ) q) (c.head ∷ c.body) → Mgu mgu f (apply names c.head)
      → Derivation P q (suc t) (map (apply mgu) (map (apply names) c.body ++ g)) (after mgu θ)

-- x is one of a list
abbrev pub Among : {F : Type 0} → F → List F → Type 0
Among x [] = ⊥
Among x (y ∷ l) = (x ≡ y) ⊎ Among x l

-- "with the program clauses considered as axioms of a certain theory": an instance of a clause's head follows where the same instance of each formula of its body does
pub data Follows (P : Book) : Expr → Type 0 where
  by_clause : (c : Clause) → Among c P → (θ : Subst) → Substitution θ → ((b : Expr) → Among b c.body → Follows P (apply θ b)) → Follows P (apply θ c.head)

-- the clauses hold of M: whichever formulas M has, with those of an instance of a body it has the head's
abbrev pub Model : Book → (Expr → Type 0) → Type 0
Model P M = (c : Clause) → Among c P → (θ : Subst) → Substitution θ → ((b : Expr) → Among b c.body → M (apply θ b)) → M (apply θ c.head)
