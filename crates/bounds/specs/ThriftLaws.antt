-- Expressions weighed by how often variables are in them.
use Rattle.std.specs.Prelude.{ℕ, zero, suc, ◌+◌, ◌*◌, ◌≤◌, ◌≡◌, refl, [], ◌∷◌, eqb}
use Rattle.std.proofs.Common.{arith, add-mul, mul-le-mul_right, eq-eqb, ne_eqb, ap, ◌∙◌, inl, inr}
use Rattle.std.proofs.Math.Decide.{ℕ_discrete}
use Rattle.terms.specs.When.{◌⇒◌∣◌}
use Rattle.terms.specs.Node.{var, sym, Expr}
use Rattle.terms.specs.Subst.{In}
use Rattle.bounds.specs.Places.{weigh, places, times}
use Rattle.bounds.specs.Thrift.{away, fresh, Thrifty, Kept}
use Rattle.bounds.specs.WeighLaws.{weigh-add, weigh-none, weigh-more}

-- one where two variables are the same
abbrev pub mark : ℕ → ℕ → ℕ
mark x v = eqb x v ⇒ 1 ∣ 0

pub mark-same : (x v : ℕ) → x ≡ v → mark x v ≡ 1
mark-same x v p = rw (eq-eqb x v p)

pub mark-other : (x v : ℕ) → (x ≡ v → ⊥) → mark x v ≡ 0
mark-other x v p = rw (ne_eqb x v p)

pub mark-most : (x v : ℕ) → mark x v ≤ 1
mark-most x v = elim (ℕ_discrete x v) [ yes p ↦ omega (arith, mark-same x v p) | no n ↦ omega (arith, mark-other x v n) ]

-- a variable is in an expression just where it is there at least once
pub in-times : (x : ℕ) (e : Expr) → In x e → times x e ≡ 0 → ⊥
in-times x (var v ∷ e) (inl p) z = omega (arith, z, mark-same x v p)
in-times x (var v ∷ e) (inr i) z = in-times x e i (omega (arith, z))
in-times x (sym s ∷ e) i z = in-times x e i z
in-times x [] i z = elim i [ ]

pub out-times : (x : ℕ) (e : Expr) → (In x e → ⊥) → times x e ≡ 0
out-times x [] n = refl
out-times x (var v ∷ e) n = omega (arith, out-times x e (λ i. n (inr i)), mark-other x v (λ p. n (inl p)))
out-times x (sym s ∷ e) n = out-times x e n

-- Weights but at one variable.
module _ (n : ℕ) (w : ℕ → ℕ) where
  abbrev pub except : ℕ → ℕ
  except v = eqb n v ⇒ 0 ∣ w v

  pub except-same : (v : ℕ) → n ≡ v → except v ≡ 0
  except-same v e = ap (λ b. b ⇒ 0 ∣ w v) (eq-eqb n v e)

  pub except-other : (v : ℕ) → (n ≡ v → ⊥) → except v ≡ w v
  except-other v e = ap (λ b. b ⇒ 0 ∣ w v) (ne_eqb n v e)

  pub weigh-split : (e : Expr) → weigh w e ≡ times n e * w n + weigh except e
  weigh-split [] = omega arith
  weigh-split (var v ∷ e) = elim (ℕ_discrete n v) [
    | yes p ↦ omega (arith, weigh-split e, except-same v p, ap w p, ap (λ k. (k + times n e) * w n) (mark-same n v p), add-mul 1 (times n e) (w n))
    | no p ↦ omega (arith, weigh-split e, except-other v p, ap (λ k. (k + times n e) * w n) (mark-other n v p), add-mul 0 (times n e) (w n))
  ]
  weigh-split (sym s ∷ e) = weigh-split e

-- where no variable with a weight is more often in b than in a, b does not weigh more
counts : (n : ℕ) (w : ℕ → ℕ) (a b : Expr) → ((x : ℕ) → n ≤ x → w x ≡ 0) → ((x : ℕ) → (w x ≡ 0 → ⊥) → times x b ≤ times x a) → weigh w b ≤ weigh w a
counts zero w a b none less = omega (arith, weigh-none w b (λ v i. none v (omega arith)))
counts (suc n) w a b none less =
    omega (
      arith,
      weigh-split n w a,
      weigh-split n w b,
      here,
      counts n (except n w) a b
          (λ x l. elim (ℕ_discrete n x) [ yes p ↦ except-same n w x p | no p ↦ except-other n w x p ∙ none x (omega (arith, l, p)) ])
          (λ x m. less x (λ z. elim (ℕ_discrete n x) [ yes p ↦ m (except-same n w x p) | no p ↦ m (except-other n w x p ∙ z) ])),
    )
  where
    here : times n b * w n ≤ times n a * w n
    here = elim (ℕ_discrete (w n) 0) [
      | yes z ↦ omega (arith, ap (λ k. times n b * k) z, ap (λ k. times n a * k) z)
      | no m ↦ mul-le-mul_right (w n) (less n m)
    ]

-- a number that no variable reaches
abbrev pub top : Expr → ℕ
top [] = 0
top (var v ∷ e) = suc v + top e
top (sym s ∷ e) = top e

pub top-high : (x : ℕ) (e : Expr) → top e ≤ x → times x e ≡ 0
top-high x [] l = refl
top-high x (var v ∷ e) l = omega (arith, top-high x e (omega (arith, l)), mark-other x v (λ p. omega (arith, p, l)))
top-high x (sym s ∷ e) l = top-high x e l

module _ (a b : Expr) where
  -- the weights of variables that are in a
  abbrev within : (ℕ → ℕ) → ℕ → ℕ
  within w v = eqb (times v a) 0 ⇒ 0 ∣ w v

  pub away-in : (w : ℕ → ℕ) (v : ℕ) → (times v a ≡ 0 → ⊥) → away a w v ≡ 0
  away-in w v n = ap (λ t. t ⇒ w v ∣ 0) (ne_eqb (times v a) 0 n)

  pub away-out : (w : ℕ → ℕ) (v : ℕ) → times v a ≡ 0 → away a w v ≡ w v
  away-out w v e = ap (λ t. t ⇒ w v ∣ 0) (eq-eqb (times v a) 0 e)

  within_in : (w : ℕ → ℕ) (v : ℕ) → (times v a ≡ 0 → ⊥) → within w v ≡ w v
  within_in w v n = ap (λ t. t ⇒ 0 ∣ w v) (ne_eqb (times v a) 0 n)

  within-out : (w : ℕ → ℕ) (v : ℕ) → times v a ≡ 0 → within w v ≡ 0
  within-out w v e = ap (λ t. t ⇒ 0 ∣ w v) (eq-eqb (times v a) 0 e)

  parts : (w : ℕ → ℕ) → weigh w b ≤ weigh (within w) b + weigh (away a w) b
  parts w = omega (
    arith,
    weigh-add (within w) (away a w) b,
    weigh-more w (λ v. within w v + away a w v) b (λ v i. elim (ℕ_discrete (times v a) 0) [
      | yes z ↦ omega (arith, away-out w v z)
      | no n ↦ omega (arith, within_in w v n)
    ]),
  )

  abbrev ones : ℕ → ℕ
  ones = within (λ v. 1)

  less : (w : ℕ → ℕ) → weigh (within w) a ≤ weigh w a
  less w = weigh-more (within w) w a (λ v i. omega (arith, within_in w v (in-times v a i)))

  module _ (thrifty : Thrifty a b) where
    -- a thrifty b weighs no more than a and what is not in a
    pub weigh-thrifty : (w : ℕ → ℕ) → weigh w b ≤ weigh w a + weigh (away a w) b
    weigh-thrifty w = omega (arith, parts w, less w, counts (top a) (within w) a b (λ x l. within-out w x (top-high x a l)) (λ x m. thrifty x (λ z. m (within-out w x z))))

    -- and if as many of its places as a has are of variables of a, it keeps them
    pub kept-matched : {m : ℕ} → m + fresh a b ≡ places b → m ≡ places a → Kept a b
    kept-matched all same x = elim (ℕ_discrete (times x a) 0) [ yes z ↦ omega (arith, z) | no n ↦ here n ]
      where
        none : (y : ℕ) → times y a ≡ 0 → except x ones y ≡ 0
        none y z = elim (ℕ_discrete x y) [ yes p ↦ except-same x ones y p | no q ↦ except-other x ones y q ∙ within-out (λ v. 1) y z ]

        others : weigh (except x ones) b ≤ weigh (except x ones) a
        others = counts (top a) (except x ones) a b (λ y l. none y (top-high y a l)) (λ y m. thrifty y (λ z. m (none y z)))

        here : (times x a ≡ 0 → ⊥) → times x a ≤ times x b
        here n =
            let one = within_in (λ v. 1) x n in
            omega (arith, parts (λ v. 1), less (λ v. 1), all, same, others, weigh-split x ones a, weigh-split x ones b, ap (λ k. times x a * k) one, ap (λ k. times x b * k) one)

pub weigh-kept : (w : ℕ → ℕ) (a b : Expr) → Kept a b → weigh w a ≤ weigh w b
weigh-kept w a b kept =
    omega (arith, weigh-thrifty b a (λ x n. kept x) w, weigh-none (away b w) a (λ v i. away-in b a w v (λ z. in-times v a i (omega (arith, z, kept v)))))
