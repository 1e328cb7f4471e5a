-- The clause that got furthest is the one computed, and with 22 there is one.
use Rattle.std.specs.Prelude.{ℕ, zero, suc, ◌≤◌, ◌<◌, ◌≡◌, refl, Bool, true, false, [], ◌∷◌, leb, length}
use Rattle.std.proofs.Common.{arith, sym as inv, ap, ◌∙◌, subst, inl, inr, leb-true, leb-false}
use Rattle.std.proofs.Math.Decide.{ℕ_discrete}
use Rattle.std.proofs.Math.Option.{some-injective}
use Rattle.terms.specs.Node.{Expr}
use Rattle.terms.specs.Row.{Row, Atom}
use Rattle.search.specs.Next.{Clause, Book, Clauses, Meets, NoneMeets, clause_at}
use Rattle.search.specs.Fail.{FailsAt, failing}
use Rattle.search.proofs.FailLaws.{Failing, other, meets, fails, failing-says, failing_iff}
use Rattle.search.specs.Known.{symbol_for, Alike, Known}
use Rattle.search.specs.KnownLaws.{AtomHeads}
use Rattle.search.specs.Furthest.{Figures, no_figures, Furthest, before, furthest}

-- The first of the highest among n numbers; where all are 0 there is none.
pub record Best (at : ℕ → ℕ) (n : ℕ) (w : Figures) : Type 0 where
  pub most : (j : ℕ) → j < n → at j ≤ w.argument
  pub first : (j : ℕ) → j < w.clause → at j < w.argument
  pub here : 0 < w.argument → (w.clause < n) × (at w.clause ≡ w.argument)
  pub bare : w.argument ≡ 0 → w.clause ≡ 0

module _ {at : ℕ → ℕ} {n : ℕ} where
  not-above : {w v : Figures} → Best at n w → Best at n v → w.argument < v.argument → ⊥
  not-above x y l = let h = y.here (omega arith) in omega (arith, x.most _ h.0, h.1)

  not-before : {w v : Figures} → Best at n w → Best at n v → w.argument ≡ v.argument → w.clause < v.clause → ⊥
  not-before {w} {v} x y e l = elim (ℕ_discrete w.argument 0) [
    | yes z ↦ omega (arith, y.bare (inv e ∙ z), l)
    | no p ↦ omega (arith, y.first w.clause l, (x.here (omega arith)).1, e)
  ]

  pub best-one : (w v : Figures) → Best at n w → Best at n v → w ≡ v
  best-one w v x y =
      let e : w.argument ≡ v.argument = omega (arith, not-above x y, not-above y x) in
      let c : w.clause ≡ v.clause = omega (arith, not-before x y e, not-before y x (inv e)) in
      λ i. record { clause = c i; argument = e i }

-- One number more, behind the others.

pub best_none : {at : ℕ → ℕ} → Best at 0 no_figures
best_none = record { most = λ j l. absurd (omega arith); first = λ j l. absurd (omega arith); here = λ p. absurd (omega arith); bare = λ z. refl }

module _ {at : ℕ → ℕ} {n : ℕ} {w : Figures} (x : Best at n w) where
  pub best-keep : at n ≤ w.argument → Best at (suc n) w
  best-keep l = record {
    most = λ j h. elim (ℕ_discrete j n) [ yes e ↦ subst (λ i. at i ≤ w.argument) (inv e) l | no d ↦ x.most j (omega arith) ];
    first = x.first;
    here = λ p. let h = x.here p in (omega (arith, h.0), h.1);
    bare = x.bare;
  }

  pub best-take : w.argument < at n → Best at (suc n) (record { clause = n; argument = at n })
  best-take l = record {
    most = λ j h. elim (ℕ_discrete j n) [ yes e ↦ subst (λ i. at i ≤ at n) (inv e) (omega arith) | no d ↦ omega (arith, x.most j (omega arith)) ];
    first = λ j h. omega (arith, x.most j h);
    here = λ p. (omega arith, refl);
    bare = λ z. absurd (omega (arith, z));
  }

-- one number in front
best-before : {at : ℕ → ℕ} {n : ℕ} {w : Figures} (b : Bool) → leb w.argument (at 0) ≡ b → Best (λ j. at (suc j)) n w → Best at (suc n) (before b (at 0) w)
best-before {at} {n} {w} true e x = record {
  most = λ j l. most j l;
  first = λ j l. absurd (omega arith);
  here = λ p. (omega arith, refl);
  bare = λ z. refl;
}
  where
    most : (j : ℕ) → j < suc n → at j ≤ at 0
    most zero l = omega arith
    most (suc j) l = omega (arith, x.most j (omega arith), leb-true w.argument (at 0) e)
best-before {at} {n} {w} false e x = record {
  most = λ j l. most j l;
  first = λ j l. first j l;
  here = λ p. let h = x.here p in (omega (arith, h.0), h.1);
  bare = λ z. absurd (omega (arith, leb-false w.argument (at 0) e, z));
}
  where
    most : (j : ℕ) → j < suc n → at j ≤ w.argument
    most zero l = omega (arith, leb-false w.argument (at 0) e)
    most (suc j) l = x.most j (omega arith)

    first : (j : ℕ) → j < suc w.clause → at j < w.argument
    first zero l = omega (arith, leb-false w.argument (at 0) e)
    first (suc j) l = x.first j (omega arith)

pub furthest-best : (P : Book) (f : Expr) → Best (λ j. failing f (clause_at P j)) (length P) (furthest P f)
unfolding furthest
furthest-best [] f = best_none
furthest-best (c ∷ P) f = best-before (leb (furthest P f).argument (failing f c)) refl (furthest-best P f)

-- it is the only one
pub furthest-is : (P : Book) (f : Expr) (w : Figures) → Best (λ j. failing f (clause_at P j)) (length P) w → w ≡ furthest P f
furthest-is P f w x = best-one w (furthest P f) x (furthest-best P f)

-- What the figures say of a book and a formula.

abbrev HeadOf : Clause → Type 0
HeadOf c = Atom c.head × Row 1 c.head

heads-at : (P : Book) → AtomHeads P → Clauses P → (j : ℕ) → j < length P → HeadOf (clause_at P j)
heads-at [] a r j l = absurd (omega arith)
heads-at (c ∷ P) a r zero l = (a.0, r.0.0)
heads-at (c ∷ P) a r (suc j) l = heads-at P a.1 r.1 j (omega arith)

none-at : (P : Book) (f : Expr) → NoneMeets f P → (j : ℕ) → j < length P → Meets f (clause_at P j) → ⊥
none-at [] f n j l m = absurd (omega arith)
none-at (c ∷ P) f n zero l m = n.0 m
none-at (c ∷ P) f n (suc j) l m = none-at P f n.1 j (omega arith) m

known_at : (P : Book) (f : Expr) → Known P f → (j : ℕ) × (j < length P) × Alike f (clause_at P j).head
known_at (c ∷ P) f (inl a) = (0, omega arith, a)
known_at (c ∷ P) f (inr k) = let h = known_at P f k in (suc h.0, omega (arith, h.1), h.2)
known_at [] f x' = elim x' [ ]

unlike_at : (P : Book) (f : Expr) → ¬ Known P f → (j : ℕ) → j < length P → ¬ Alike f (clause_at P j).head
unlike_at [] f n j l a = omega arith
unlike_at (c ∷ P) f n zero l a = n (inl a)
unlike_at (c ∷ P) f n (suc j) l a = unlike_at P f (λ k. n (inr k)) j (omega arith) a

-- a head of the predicate and arity of f that does not unify fails at an argument
alike-fails : {f : Expr} {c : Clause} {k : ℕ} → Failing f c k → Alike f c.head → (Meets f c → ⊥) → FailsAt f c k
alike-fails (other s r a b p q n) x m =
    absurd (n (some-injective s x.predicate (inv (ap symbol_for p) ∙ x.formula) ∙ inv (some-injective r x.predicate (inv (ap symbol_for q) ∙ x.head))))
alike-fails (meets y) x m = absurd (m y)
alike-fails (fails t) x m = t

-- a head of another one fails nowhere
unlike_nowhere : {f : Expr} {c : Clause} {k : ℕ} → Failing f c k → ¬ Alike f c.head → k ≡ 0
unlike_nowhere (other s r a b p q n) x = refl
unlike_nowhere (meets y) x = refl
unlike_nowhere (fails t) x = absurd (x (record { predicate = t.predicate; formula = ap symbol_for t.formula; head = ap symbol_for t.head }))

pub unlike_failing : (f : Expr) (c : Clause) → Atom f → Atom c.head → Row 1 f → Row 1 c.head → ¬ Alike f c.head → failing f c ≡ 0
unlike_failing f c a b p q n = unlike_nowhere (failing-says f c a b p q) n

-- what holds of 0, and of an argument at which the head fails, holds of the number
number-holds : (H : ℕ → Type 0) {f : Expr} {c : Clause} {k : ℕ} → Failing f c k → H 0 → ((n : ℕ) → FailsAt f c n → H n) → H k
number-holds H (other s r a b p q n) z h = z
number-holds H (meets y) z h = z
number-holds H (fails t) z h = h _ t

module _ (P : Book) (f : Expr) (atom : Atom f) (row : Row 1 f) (atoms : AtomHeads P) (rows : Clauses P) where
  abbrev number : ℕ → ℕ
  number j = failing f (clause_at P j)

  says : (j : ℕ) → j < length P → Failing f (clause_at P j) (number j)
  says j l = let h = heads-at P atoms rows j l in failing-says f (clause_at P j) atom h.0 row h.1

  number_of : (j k : ℕ) → j < length P → FailsAt f (clause_at P j) k → number j ≡ k
  number_of j k l t = let h = heads-at P atoms rows j l in (failing_iff f (clause_at P j) atom h.0 row h.1 k t.clashes.counted).1 t

  best : Best number (length P) (furthest P f)
  best = furthest-best P f

  -- with 22 both figures are there
  pub furthest-says : NoneMeets f P → Known P f → Furthest P f (furthest P f)
  furthest-says none known =
      let k = known_at P f known in
      let t = alike-fails (says k.0 k.1) k.2 (none-at P f none k.0 k.1) in
      let h = best.here (omega (arith, t.clashes.counted, best.most k.0 k.1)) in
      record {
        within = h.0;
        fails = let c = heads-at P atoms rows (furthest P f).clause h.0 in (failing_iff f _ atom c.0 row c.1 (furthest P f).argument (omega (arith, t.clashes.counted, best.most k.0 k.1))).0 h.1;
        latest = λ j i l x. omega (arith, best.most j l, number_of j i l x);
        lowest = λ j i l x. omega (arith, best.first j l, number_of j i (omega (arith, h.0)) x);
      }

  -- and there are no others
  pub furthest-one : (w : Figures) → Furthest P f w → w ≡ furthest P f
  furthest-one w x = best-one w (furthest P f) (record {
    most = λ j l. most j l;
    first = λ j l. first j l;
    here = λ p. (x.within, number_of w.clause w.argument x.within x.fails);
    bare = λ z. absurd (omega (arith, z, x.fails.clashes.counted));
  }) best
    where
      most : (j : ℕ) → j < length P → number j ≤ w.argument
      most j l = number-holds (λ n. n ≤ w.argument) (says j l) (omega arith) (λ n t. x.latest j n l t)

      first : (j : ℕ) → j < w.clause → number j < w.argument
      first j l = number-holds (λ n. n < w.argument) (says j (omega (arith, x.within))) (omega (arith, x.fails.clashes.counted)) (λ n t. x.lowest j n l t)

  -- with 26 both are 0
  pub unknown-figures : ¬ Known P f → furthest P f ≡ no_figures
  unknown-figures n =
      best-one (furthest P f) no_figures best
      (record {
        most = λ j l. omega (arith, unlike_nowhere (says j l) (unlike_at P f n j l));
        first = λ j l. absurd (omega arith);
        here = λ p. absurd (omega arith);
        bare = λ z. refl;
      })
