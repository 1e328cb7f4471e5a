-- Codes 22 and 26 (document 02, C-12): together they are document 01's 22, and a predicate that is not known meets no head.
use Rattle.std.specs.Prelude.{ℕ, ◌≡◌, refl, ◌⊎◌, ◌↔◌}
use Rattle.std.proofs.Common.{sym as inv, ap, inl, inr}
use Rattle.std.proofs.Math.Option.{some}
use mathlib.Core.List.{[], ◌∷◌, head-eq_of_cons-eq}
use Rattle.terms.specs.Node.{Symbol, predicate, sym, Expr}
use Rattle.terms.specs.Row.{Atom, atom}
use Rattle.terms.specs.Subst.{Subst, apply}
use Rattle.terms.specs.Rename.{rename}
use Rattle.loops.specs.Detect.{State, stuck}
use Rattle.search.specs.Next.{Clause, Book, Meets, NoneMeets}
use Rattle.search.specs.Known.{Alike, Known, knows?}
use Rattle.search.specs.Run.{verdict, Closes, code_22, code_26}

-- each head begins with its predicate
abbrev pub AtomHeads : Book → Type 0
AtomHeads [] = Unit {0}
AtomHeads (c ∷ P) = Atom c.head × AtomHeads P

same-symbol-of : {s r : Symbol} {a b : Expr} → ◌≡◌ {A = Expr} (sym s ∷ a) (sym r ∷ b) → s ≡ r
same-symbol-of e = let p : ◌≡◌ {A = _} (sym _) (sym _) = head-eq_of_cons-eq e in cc

-- formulas that unify are of one predicate and arity
pub meets-alike : (f : Expr) (c : Clause) → Atom f → Atom c.head → Meets f c → Alike f c.head
meets-alike f c af ac m = go f c.head af ac m.goal_names m.clause_names m.unifier m.unifies.1
  where
    go : (f h : Expr) → Atom f → Atom h → (α β : ℕ → ℕ) (θ : Subst) → apply θ (rename α f) ≡ apply θ (rename β h) → Alike f h
    go f h (atom {p = x} {n = m} {e = a}) (atom {p = y} {n = n} {e = b}) α β θ e = record { predicate = predicate x m; formula = refl; head = ap some (inv (same-symbol-of e)) }

-- where no clause has the predicate and arity, no head unifies: 26 is said of goals that document 01 calls stuck
pub unknown-none : (P : Book) (f : Expr) → Atom f → AtomHeads P → ¬ Known P f → NoneMeets f P
unknown-none [] f a h n = tt
unknown-none (c ∷ P) f a h n = (λ m. n (inl (meets-alike f c a h.0 m)), unknown-none P f a h.1 (λ k. n (inr k)))

-- and with 22 or 26 it is said of all of them, in the place of document 01's 22
pub stuck_either : (P : Book) (budget : ℕ) (s : State Expr) → (verdict P s ≡ stuck) ↔ (Closes P budget s 22 0 ⊎ Closes P budget s 26 0)
stuck_either P budget s = (λ e. elim (knows? P s.goal) [ yes k ↦ inl (code_22 e k) | no n ↦ inr (code_26 e n) ], back)
  where
    back : Closes P budget s 22 0 ⊎ Closes P budget s 26 0 → verdict P s ≡ stuck
    back (inl (code_22 e k)) = e
    back (inr (code_26 e n)) = e
