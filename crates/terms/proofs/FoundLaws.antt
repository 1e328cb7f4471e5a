-- A unifier that is found has only the symbols of what it unifies, and leaves every other variable as it is.
use Rattle.std.specs.Prelude.{ℕ, zero, suc, ◌≤◌, ◌<◌, max, ◌≡◌, refl, [], ◌∷◌, ◌++◌, take, drop, eqb}
use Rattle.std.proofs.Math.Decide.{dec_lt}
use Rattle.std.proofs.Common.{arith, sym as inv, ap, ◌∙◌, subst}
use Rattle.std.proofs.Math.Option.{none, some}
use Rattle.terms.specs.Node.{Symbol, var, sym, Expr, same_symbol}
use Rattle.terms.specs.Row.{span}
use Rattle.terms.specs.Subst.{In, in?, Subst, apply, itself, only}
use Rattle.terms.specs.Substitution.{Symbols}
use Rattle.terms.specs.Unify.{Answer, then_after, bind, against, sweep, unify_by, sweeps, unify}
use Rattle.terms.specs.Cases.{cases, decided}
use Rattle.terms.specs.SubstLaws.{only-cases}

-- a number above every variable of e
abbrev pub above : Expr → ℕ
above [] = 0
above (var v ∷ e) = max (suc v) (above e)
above (sym s ∷ e) = above e

module _ (Q : Symbol → Type 0) (n : ℕ) where
  -- each node of e is a variable below n or a symbol that has Q
  abbrev Drawn : Expr → Type 0
  Drawn [] = Unit {0}
  Drawn (var v ∷ e) = (v < n) × Drawn e
  Drawn (sym s ∷ e) = Q s × Drawn e

  drawn : (e : Expr) → Symbols Q e → above e ≤ n → Drawn e
  drawn [] p l = tt
  drawn (var v ∷ e) p l = (omega arith, drawn e p (omega arith))
  drawn (sym s ∷ e) p l = (p.0, drawn e p.1 l)

  drawn-symbols : (e : Expr) → Drawn e → Symbols Q e
  drawn-symbols [] p = tt
  drawn-symbols (var v ∷ e) p = drawn-symbols e p.1
  drawn-symbols (sym s ∷ e) p = (p.0, drawn-symbols e p.1)

  drawn-append : (a b : Expr) → Drawn a → Drawn b → Drawn (a ++ b)
  drawn-append [] b p q = q
  drawn-append (var v ∷ a) b p q = (p.0, drawn-append a b p.1 q)
  drawn-append (sym s ∷ a) b p q = (p.0, drawn-append a b p.1 q)

  drawn-take : (k : ℕ) (a : Expr) → Drawn a → Drawn (take k a)
  drawn-take zero [] p = tt
  drawn-take zero (x ∷ a) p = tt
  drawn-take (suc k) [] p = tt
  drawn-take (suc k) (var v ∷ a) p = (p.0, drawn-take k a p.1)
  drawn-take (suc k) (sym s ∷ a) p = (p.0, drawn-take k a p.1)

  drawn-drop : (k : ℕ) (a : Expr) → Drawn a → Drawn (drop k a)
  drawn-drop zero [] p = p
  drawn-drop zero (x ∷ a) p = p
  drawn-drop (suc k) [] p = tt
  drawn-drop (suc k) (var v ∷ a) p = drawn-drop k a p.1
  drawn-drop (suc k) (sym s ∷ a) p = drawn-drop k a p.1

  -- σ makes such expressions of variables below n, and leaves the others
  record Draws (σ : Subst) : Type 0 where
    below : (v : ℕ) → v < n → Drawn (σ v)
    others : (v : ℕ) → n ≤ v → σ v ≡ itself v

  module _ (σ : Subst) (k : Draws σ) where
    drawn-apply : (e : Expr) → Drawn e → Drawn (apply σ e)
    drawn-apply [] p = tt
    drawn-apply (var v ∷ e) p = drawn-append (σ v) (apply σ e) (k.below v p.0) (drawn-apply e p.1)
    drawn-apply (sym s ∷ e) p = (p.0, drawn-apply e p.1)

  abbrev AnswerDraws : Answer → Type 0
  AnswerDraws none = Unit {0}
  AnswerDraws (some σ) = Draws σ

  then-draws : (σ : Subst) → Draws σ → (x : Answer) → AnswerDraws x → AnswerDraws (then_after σ x)
  then-draws σ k none l = tt
  then-draws σ k (some τ) l = record {
    below = λ v b. drawn-apply τ l (σ v) (k.below v b);
    others = λ v b. ap (apply τ) (k.others v b) ∙ ap (λ e. e ++ []) (l.others v b);
  }

  only-draws : (v : ℕ) (t : Expr) → v < n → Drawn t → Draws (only v t)
  only-draws v t b p = record {
    below = λ w c. only-cases v t Drawn w (λ q. p) (λ q. (c, tt));
    others = λ w c. only-cases v t (λ e. e ≡ itself w) w (λ q. absurd (omega arith)) (λ q. refl);
  }

  module _ (next : Expr → Expr → Answer) (rec : (a b : Expr) → Drawn a → Drawn b → AnswerDraws (next a b)) where
    bind-draws : (v : ℕ) (t : Expr) (d : Dec (In v t)) (a b : Expr) → v < n → Drawn t → Drawn a → Drawn b → AnswerDraws (bind next v t d a b)
    bind-draws v t (yes i) a b l p q r = tt
    bind-draws v t (no i) a b l p q r =
        let k = only-draws v t l p in
        let a' = apply (only v t) a in
        let b' = apply (only v t) b in
        then-draws (only v t) k (next a' b') (rec a' b' (drawn-apply (only v t) k a q) (drawn-apply (only v t) k b r))

    against-draws : (v : ℕ) (a b : Expr) → v < n → Drawn a → Drawn b → AnswerDraws (against next v a b)
    against-draws v a b l q r = bind-draws v (take (span 1 b) b) (in? v (take (span 1 b) b)) a (drop (span 1 b) b) l (drawn-take (span 1 b) b r) q (drawn-drop (span 1 b) b r)

    sweep-draws : (a b : Expr) → Drawn a → Drawn b → AnswerDraws (sweep next a b)
    sweep-draws [] [] p q = record { below = λ v b. (b, tt); others = λ v b. refl }
    sweep-draws [] (y ∷ b) p q = tt
    sweep-draws (x ∷ a) [] p q = tt
    sweep-draws (var v ∷ a) (var w ∷ b) p q =
        cases (eqb v w) (λ h. rw (h, sweep) (sweep-draws a b p.1 q.1)) (λ h. rw (h, sweep) (against-draws v a (var w ∷ b) p.0 p.1 q))
    sweep-draws (var v ∷ a) (sym s ∷ b) p q = against-draws v a (sym s ∷ b) p.0 p.1 q
    sweep-draws (sym s ∷ a) (var w ∷ b) p q = against-draws w b (sym s ∷ a) q.0 q.1 p
    sweep-draws (sym s ∷ a) (sym r ∷ b) p q = decided (same_symbol s r) (λ e h. rw (h, sweep) (sweep-draws a b p.1 q.1)) (λ e h. rw (h, sweep) tt)

  unify-by-draws : (k : ℕ) (a b : Expr) → Drawn a → Drawn b → AnswerDraws (unify_by k a b)
  unify-by-draws zero a b p q = tt
  unify-by-draws (suc k) a b p q = sweep-draws (unify_by k) (unify-by-draws k) a b p q

  -- behind symbols that need not have Q
  heads_draw : (k : ℕ) (s r : Symbol) (a b : Expr) → Drawn a → Drawn b → AnswerDraws (unify_by k (sym s ∷ a) (sym r ∷ b))
  heads_draw zero s r a b p q = tt
  heads_draw (suc k) s r a b p q =
      decided (same_symbol s r) (λ e h. rw (h, sweep) (sweep-draws (unify_by k) (unify-by-draws k) a b p q)) (λ e h. rw (h, sweep) tt)

-- σ is made of symbols with Q, and moves only variables below a bound
pub record MadeOf (Q : Symbol → Type 0) (σ : Subst) : Type 0 where
  pub symbols : (v : ℕ) → Symbols Q (σ v)
  pub bound : ℕ
  pub finite : (v : ℕ) → bound ≤ v → σ v ≡ itself v

module _ (Q : Symbol → Type 0) where
  draws-found : (n : ℕ) (σ : Subst) → Draws Q n σ → MadeOf Q σ
  draws-found n σ k = record { symbols = λ v. go v (dec_lt v n); bound = n; finite = k.others }
    where
      go : (v : ℕ) → Dec (v < n) → Symbols Q (σ v)
      go v (yes l) = drawn-symbols Q n (σ v) (k.below v l)
      go v (no l) = subst (Symbols Q) (inv (k.others v (omega arith))) tt

  module _ (a b : Expr) (p : Symbols Q a) (q : Symbols Q b) where
    most : ℕ
    most = max (above a) (above b)

    drawn-left : Drawn Q most a
    unfolding most
    drawn-left = drawn Q most a p (omega arith)

    drawn-right : Drawn Q most b
    unfolding most
    drawn-right = drawn Q most b q (omega arith)

    -- what is found has only the symbols of what it unifies
    pub unify-found : (σ : Subst) → unify a b ≡ some σ → MadeOf Q σ
    unify-found σ e = draws-found most σ (subst (AnswerDraws Q most) e (unify-by-draws Q most (sweeps a b) a b drawn-left drawn-right))

    -- and only those of the arguments, where it unifies formulas
    pub heads-found : (s r : Symbol) (σ : Subst) → unify (sym s ∷ a) (sym r ∷ b) ≡ some σ → MadeOf Q σ
    heads-found s r σ e = draws-found most σ (subst (AnswerDraws Q most) e (heads_draw Q most (sweeps (sym s ∷ a) (sym r ∷ b)) s r a b drawn-left drawn-right))
