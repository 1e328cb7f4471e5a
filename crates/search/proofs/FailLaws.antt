-- The computed number is the argument at which the head fails, whatever names are taken; and a head of the same predicate that does not fail unifies.
use Rattle.std.specs.Prelude.{ℕ, zero, suc, ◌+◌, ◌≤◌, ◌≡◌, refl, ◌⊎◌, ◌↔◌, List, [], ◌∷◌, take}
use Rattle.std.proofs.Common.{arith, add-zero, sym as inv, ap, ap₂, ◌∙◌, subst, inl, inr}
use Rattle.terms.specs.Node.{Symbol, predicate, arity, var, sym, Expr, same_symbol}
use Rattle.terms.specs.Row.{Row, row_sym, Atom, atom, span}
use Rattle.terms.specs.Subst.{In, apply, Unifies}
use Rattle.terms.specs.Rename.{rename, Apart}
use Rattle.terms.specs.Argument.{firsts, Unifiable, ClashesAt, clash}
use Rattle.terms.specs.Cases.{decided}
use Rattle.terms.specs.RenameLaws.{rename-row}
use Rattle.terms.proofs.ArgumentLaws.{firsts-all, Tried, unified, clashed, clash-tried, tried-clash}
use Rattle.search.specs.Next.{Clause, Meets}
use Rattle.search.specs.Step.{even, odd}
use Rattle.search.proofs.NextLaws.{even_odd, meets-by, carried}
use Rattle.search.specs.Fail.{FailsAt, failing_between, failing}

-- the first arguments of what is renamed are the first arguments, renamed
firsts-rename : (ρ : ℕ → ℕ) (k : ℕ) (e : Expr) → firsts k (rename ρ e) ≡ rename ρ (firsts k e)
firsts-rename ρ k [] = refl
firsts-rename ρ zero (var v ∷ e) = refl
firsts-rename ρ zero (sym s ∷ e) = refl
firsts-rename ρ (suc k) (var v ∷ e) = ap (λ r. var (ρ v) ∷ r) (firsts-rename ρ k e)
firsts-rename ρ (suc k) (sym s ∷ e) = ap (λ r. sym s ∷ r) (firsts-rename ρ (arity s + k) e)

in_take : (v n : ℕ) (e : Expr) → In v (take n e) → In v e
in_take v zero [] i = i
in_take v zero (x ∷ e) i = absurd i
in_take v (suc n) [] i = i
in_take v (suc n) (var w ∷ e) (inl p) = inl p
in_take v (suc n) (var w ∷ e) (inr i) = inr (in_take v n e i)
in_take v (suc n) (sym s ∷ e) i = in_take v n e i

-- names that are apart for two formulas are so for their first arguments
module _ (α β : ℕ → ℕ) (s : Symbol) (a b : Expr) (apart : Apart α β ((sym s ∷ a) ∷ []) ((sym s ∷ b) ∷ [])) (k : ℕ) where
  apart-firsts : Apart α β (firsts k a ∷ []) (firsts k b ∷ [])
  apart-firsts = record {
    left = λ v w i j p. apart.left v w (ours v i) (ours w j) p;
    right = λ v w i j p. apart.right v w (theirs v i) (theirs w j) p;
    shared = λ v w i j p. apart.shared v w (ours v i) (theirs w j) p;
  }
    where
      ours : (v : ℕ) → In v (firsts k a) ⊎ ⊥ → In v a ⊎ ⊥
      ours v (inl i) = inl (in_take v (span k a) a i)
      ours v (inr i) = inr i

      theirs : (v : ℕ) → In v (firsts k b) ⊎ ⊥ → In v b ⊎ ⊥
      theirs v (inl i) = inl (in_take v (span k b) b i)
      theirs v (inr i) = inr i

-- whether arguments can be unified together does not depend on the names
unifiable-names : (α β α' β' : ℕ → ℕ) (a b : Expr) (k : ℕ) → Apart α β (firsts k a ∷ []) (firsts k b ∷ []) → Unifiable (rename α' a) (rename β' b) k → Unifiable (rename α a) (rename β b) k
unifiable-names α β α' β' a b k apart u =
    let c = carried α β α' β' (firsts k a) (firsts k b) [] [] apart u.0 (subst (λ x. Unifies u.0 x (rename β' (firsts k b))) (firsts-rename α' k a) (subst (λ y. Unifies u.0 (firsts k (rename α' a)) y) (firsts-rename β' k b) u.1)) in
    (c.0.joint, subst (λ x. Unifies c.0.joint x (firsts k (rename β b))) (inv (firsts-rename α k a)) (subst (λ y. Unifies c.0.joint (rename α (firsts k a)) y) (inv (firsts-rename β k b)) c.1))

-- nor does the argument that clashes
clashes-names : (α β α' β' : ℕ → ℕ) (s : Symbol) (a b : Expr) (k : ℕ) → Apart α β ((sym s ∷ a) ∷ []) ((sym s ∷ b) ∷ []) → Apart α' β' ((sym s ∷ a) ∷ []) ((sym s ∷ b) ∷ [])
    → ClashesAt (rename α' a) (rename β' b) k → ClashesAt (rename α a) (rename β b) k
clashes-names α β α' β' s a b k apart apart' c = record {
  counted = c.counted;
  clash = λ u. c.clash (unifiable-names α' β' α β a b k (apart-firsts α' β' s a b apart' k) u);
  before = λ j l. unifiable-names α β α' β' a b j (apart-firsts α β s a b apart j) (c.before j l);
}

-- the arguments of a formula
arguments : (s : Symbol) (a : Expr) → Row 1 (sym s ∷ a) → Row (arity s) a
arguments s a (row_sym r) = rw add-zero at r

-- what the number says of f and the head of c
pub data Failing (f : Expr) (c : Clause) : ℕ → Type 0 where
  other : (s r : Symbol) (a b : Expr) → f ≡ sym s ∷ a → c.head ≡ sym r ∷ b → (s ≡ r → ⊥) → Failing f c 0
  meets : Meets f c → Failing f c 0
  fails : {k : ℕ} → FailsAt f c k → Failing f c k

module _ (s : Symbol) (a b : Expr) (body : List Expr) (p : Row 1 (sym s ∷ a)) (q : Row 1 (sym s ∷ b)) where
  abbrev their_clause : Clause
  their_clause = record { head = sym s ∷ b; body = body }

  row-a : Row (arity s) (rename even a)
  row-a = rename-row even (arguments s a p)

  row-b : Row (arity s) (rename odd b)
  row-b = rename-row odd (arguments s b q)

  -- all arguments together are the formulas
  all_meet : Unifiable (rename even a) (rename odd b) (arity s) → Meets (sym s ∷ a) their_clause
  all_meet u =
      let same : apply u.0 (rename even a) ≡ apply u.0 (rename odd b) =
      ap (apply u.0) (inv (firsts-all row-a)) ∙ u.1.1 ∙ ap (apply u.0) (firsts-all row-b) in
      meets-by (sym s ∷ a) their_clause u.0 (u.1.0, ap (λ r. sym s ∷ r) same)

  same-failing : {k : ℕ} → Tried (rename even a) (rename odd b) (arity s) k → Failing (sym s ∷ a) their_clause k
  same-failing (unified u) = meets (all_meet u)
  same-failing (clashed {k = k} l c) =
      fails
      (record {
        predicate = s;
        ours = a;
        theirs = b;
        formula = refl;
        head = refl;
        goal_names = even;
        clause_names = odd;
        apart = even_odd ((sym s ∷ a) ∷ []) ((sym s ∷ b) ∷ []);
        within = l;
        clashes = c;
      })

-- the same of any two formulas
failing-heads : (s r : Symbol) (a b : Expr) (body : List Expr) → Row 1 (sym s ∷ a) → Row 1 (sym r ∷ b)
    → Failing (sym s ∷ a) (record { head = sym r ∷ b; body = body }) (failing_between (sym s ∷ a) (sym r ∷ b))
failing-heads s r a b body p q =
    decided (same_symbol s r)
    (λ e h. rw (h, failing_between) (subst (λ x. Failing (sym s ∷ a) (record { head = sym x ∷ b; body = body }) (clash (arity s) (rename even a) (rename odd b))) e (here (rw e q))))
    (λ ne h. rw (h, failing_between) (other s r a b refl refl ne))
  where
    here : Row 1 (sym s ∷ b) → Failing (sym s ∷ a) (record { head = sym s ∷ b; body = body }) (clash (arity s) (rename even a) (rename odd b))
    here q = same-failing s a b body p q (clash-tried (row-a s a b body p q) (row-b s a b body p q))

said : {f : Expr} {c : Clause} {k : ℕ} → Failing f c k → 1 ≤ k → FailsAt f c k
said (other s r a b e d n) l = absurd (omega arith)
said (meets m) l = absurd (omega arith)
said (fails t) l = t

-- a number at which a head of the same predicate fails is the one that is computed
failing-same : (s : Symbol) (a b : Expr) (body : List Expr) → Row 1 (sym s ∷ a) → Row 1 (sym s ∷ b) → (k : ℕ) → k ≤ arity s
    → ClashesAt (rename even a) (rename odd b) k → failing_between (sym s ∷ a) (sym s ∷ b) ≡ k
failing-same s a b body p q k l c =
    decided (same_symbol s s)
    (λ e h. rw (h, failing_between) (inv (tried-clash (row-a s a b body p q) (row-b s a b body p q) (clashed l c))))
    (λ ne h. absurd (ne refl))

-- nor does the number depend on the names
module _ (s : Symbol) (a b : Expr) (body : List Expr) (p : Row 1 (sym s ∷ a)) (q : Row 1 (sym s ∷ b)) (α β : ℕ → ℕ) (apart : Apart α β ((sym s ∷ a) ∷ []) ((sym s ∷ b) ∷ [])) where
  renamed_tried : {k : ℕ} → Tried (rename α a) (rename β b) (arity s) k → Tried (rename even a) (rename odd b) (arity s) k
  renamed_tried (unified u) = unified (unifiable-names even odd α β a b (arity s) (apart-firsts even odd s a b (even_odd _ _) (arity s)) u)
  renamed_tried (clashed {k = k} l c) = clashed l (clashes-names even odd α β s a b k (even_odd _ _) apart c)

  pub failing-named : clash (arity s) (rename α a) (rename β b) ≡ failing_between (sym s ∷ a) (sym s ∷ b)
  failing-named =
      let t = renamed_tried (clash-tried (rename-row α (arguments s a p)) (rename-row β (arguments s b q))) in
      decided (same_symbol s s) (λ e h. rw (h, failing_between) (tried-clash (row-a s a b body p q) (row-b s a b body p q) t)) (λ ne h. absurd (ne refl))

module _ (f : Expr) (c : Clause) (atom-f : Atom f) (atom-c : Atom c.head) (p : Row 1 f) (q : Row 1 c.head) where
  -- the head is of another predicate or arity, or unifies, or fails at the number computed
  pub failing-says : Failing f c (failing f c)
  failing-says = go f c.head atom-f atom-c p q
    where
      go : (f h : Expr) → Atom f → Atom h → Row 1 f → Row 1 h → Failing f (record { head = h; body = c.body }) (failing_between f h)
      go f h (atom {p = x} {n = m} {e = a}) (atom {p = y} {n = n} {e = b}) p q = failing-heads (predicate x m) (predicate y n) a b c.body p q

  -- a number from 1 on is the computed one just when the head fails there
  pub failing_iff : (k : ℕ) → 1 ≤ k → (failing f c ≡ k) ↔ FailsAt f c k
  failing_iff k l = (λ e. said (subst (Failing f c) e failing-says) l, only)
    where
      only : FailsAt f c k → failing f c ≡ k
      only t =
          ap₂ failing_between t.formula t.head
          ∙ failing-same t.predicate t.ours t.theirs c.body (subst (Row 1) t.formula p) (subst (Row 1) t.head q) k t.within
          (clashes-names even odd t.goal_names t.clause_names t.predicate t.ours t.theirs k (even_odd _ _)
          (subst (λ x. Apart t.goal_names t.clause_names (x ∷ []) ((sym t.predicate ∷ t.theirs) ∷ [])) t.formula
          (subst (λ x. Apart t.goal_names t.clause_names (f ∷ []) (x ∷ [])) t.head t.apart))
          t.clashes)
