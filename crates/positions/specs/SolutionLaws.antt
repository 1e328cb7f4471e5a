-- The solution that settled classes hold: it unifies what the classes make equal, and every other substitution that does is an instance of it.
use Rattle.std.specs.Prelude.{ℕ, zero, suc, ◌+◌, ◌%◌, ◌<◌, Bool, true, false, ◌≡◌, refl, List, [], ◌∷◌, length, get_or, eqb, ltb}
use Rattle.std.proofs.Common.{arith, ap, ◌∙◌, sym as inv, append-nil, eq-eqb, lt-ltb, eqb-true, ltb-true}
use Rattle.std.proofs.Math.Decide.{ℕ_discrete, dec_lt}
use Rattle.std.proofs.Math.ListN.{get_or-eq_default}
use Rattle.terms.specs.Node.{var, sym, Expr}
use Rattle.terms.specs.Row.{Row, row_end, row_var}
use Rattle.terms.specs.Subst.{Subst, apply, Proper}
use Rattle.words.specs.Word.{places, kind_of, arity_of, node}
use Rattle.words.specs.WordLaws.{node-var, node-sym, node-places}
use Rattle.positions.specs.Words.{child}
use Rattle.positions.specs.Classes.{root, Down, Agree, picked}
use Rattle.positions.specs.Steps.{Args}
use Rattle.positions.specs.Nodes.{value, cat}
use Rattle.positions.specs.Solving.{resolve, resolved, choose, both, stands, solution, Solved}
use Rattle.positions.specs.Trying.{Trial}
use Rattle.positions.specs.RootLaws.{root_fix, root_le, root-root}
use Rattle.positions.specs.CatLaws.{row-node, cat-row, cat-same, apply-cat}
use Rattle.positions.specs.ValueLaws.{downward, value-var, value-sym, good}

both_true : (a b : Bool) → both a b ≡ true → (a ≡ true) × (b ≡ true)
both_true true b h = (refl, h)
both_true false b h = let z : ◌≡◌ {A = Bool} false true = h in absurd (let y : ◌≡◌ {A = ℕ} 0 1 = cc in omega arith)

stands-true : (w first : List ℕ) (v : ℕ) → stands w first v ≡ true → (v < 65536) × (get_or w (get_or first v 0) 0 ≡ 16777216 + v)
stands-true w first v h =
    let t = both_true (ltb v 65536) (eqb (get_or w (get_or first v 0) 0) (16777216 + v)) h in
    (ltb-true v 65536 t.0, eqb-true (get_or w (get_or first v 0) 0) (16777216 + v) t.1)

pub stands-is : (w first : List ℕ) (v : ℕ) → v < 65536 → get_or w (get_or first v 0) 0 ≡ 16777216 + v → stands w first v ≡ true
stands-is w first v h e = ap (λ b. both b (eqb (get_or w (get_or first v 0) 0) (16777216 + v))) (lt-ltb v 65536 h) ∙ eq-eqb (get_or w (get_or first v 0) 0) (16777216 + v) e

-- where a variable stands
module _ (w : List ℕ) (q v : ℕ) (h : v < 65536) (e : get_or w q 0 ≡ 16777216 + v) where
  there : q < length w
  there = elim (dec_lt q (length w)) [ yes l ↦ l | no n ↦ let z : get_or w q 0 ≡ 0 = get_or-eq_default w 0 (omega arith) in absurd (omega arith) ]

  its_kind : kind_of (get_or w q 0) ≡ 1
  its_kind = omega arith

  its_number : get_or w q 0 % 65536 ≡ v
  its_number = omega arith

-- what a class stands for
module _ (w e up pick rank : List ℕ) (s : Solved w e up pick rank) where
  dn : Down up
  dn = s.grouped.down

  pub pick-in : (p : ℕ) → p < length w → picked up pick p < length w
  pick-in p h = (s.grouped.picks p h).within

  pub kid_in : (p i : ℕ) → p < length w → i < arity_of (get_or w (picked up pick p) 0) → child e (picked up pick p) i < length w
  kid_in p i h l = (s.ends (picked up pick p) (pick-in p h)).inside i l

  lower : (p i : ℕ) → p < length w → i < arity_of (get_or w (picked up pick p) 0) → get_or rank (root up (child e (picked up pick p) i)) 0 < get_or rank (root up p) 0
  lower p i h l = s.settled (root up p) i (omega (arith, root_le up dn p)) (root_fix up dn p) l

  stable : (j n p : ℕ) → p < length w → get_or rank (root up p) 0 < j → get_or rank (root up p) 0 < n → resolve w e up pick j p ≡ resolve w e up pick n p
  stable zero n p h a b = absurd (omega arith)
  stable (suc j) zero p h a b = absurd (omega arith)
  stable (suc j) (suc n) p h a b =
      ap (λ z. node (get_or w (picked up pick p) 0) ∷ z)
      (cat-same (λ i. resolve w e up pick j (child e (picked up pick p) i)) (λ i. resolve w e up pick n (child e (picked up pick p) i)) (arity_of (get_or w (picked up pick p) 0))
      (λ i l. stable j n (child e (picked up pick p) i) (kid_in p i h l) (omega (arith, lower p i h l)) (omega (arith, lower p i h l))))

  -- the node picked, and what its arguments' classes stand for
  pub resolved_eq : (p : ℕ) → p < length w → resolved w e up pick rank p ≡
      node (get_or w (picked up pick p) 0) ∷ cat (λ i. resolved w e up pick rank (child e (picked up pick p) i)) (arity_of (get_or w (picked up pick p) 0))
  resolved_eq p h =
      ap (λ z. node (get_or w (picked up pick p) 0) ∷ z)
      (cat-same (λ i. resolve w e up pick (get_or rank (root up p) 0) (child e (picked up pick p) i)) (λ i. resolved w e up pick rank (child e (picked up pick p) i)) (arity_of (get_or w (picked up pick p) 0))
      (λ i l. stable (get_or rank (root up p) 0) (suc (get_or rank (root up (child e (picked up pick p) i)) 0)) (child e (picked up pick p) i) (kid_in p i h l) (lower p i h l) (omega arith)))

  -- the same over a class
  resolved-same : (p q : ℕ) → root up p ≡ root up q → resolved w e up pick rank p ≡ resolved w e up pick rank q
  resolved-same p q h = ap (λ r. node (get_or w (get_or pick r 0) 0) ∷ cat (λ i. resolve w e up pick (get_or rank r 0) (child e (get_or pick r 0) i)) (arity_of (get_or w (get_or pick r 0) 0))) h

  pub resolved-agree : Agree (λ p. resolved w e up pick rank p) up
  resolved-agree p h = resolved-same p (root up p) (inv (root-root up dn p))

  row-resolve : (n p : ℕ) → p < length w → get_or rank (root up p) 0 < n → Row 1 (resolve w e up pick n p)
  row-resolve zero p h l = absurd (omega arith)
  row-resolve (suc n) p h l =
      let a : places (node (get_or w (picked up pick p) 0)) + 0 ≡ arity_of (get_or w (picked up pick p) 0) = omega (arith, node-places (get_or w (picked up pick p) 0) (s.valid (picked up pick p) (pick-in p h))) in
      row-node (node (get_or w (picked up pick p) 0)) (rw a (cat-row (λ i. resolve w e up pick n (child e (picked up pick p) i)) (arity_of (get_or w (picked up pick p) 0))
      (λ i q. row-resolve n (child e (picked up pick p) i) (kid_in p i h q) (omega (arith, lower p i h q)))))

  module _ (first : List ℕ) where
    choose-row : (b : Bool) (v : ℕ) → (b ≡ true → Row 1 (resolved w e up pick rank (get_or first v 0))) → Row 1 (choose b (resolved w e up pick rank (get_or first v 0)) (var v ∷ []))
    choose-row true v h = h refl
    choose-row false v h = row_var row_end

    pub proper : Proper (solution w e up pick rank first)
    proper v = choose-row (stands w first v) v (λ b.
        let t = stands-true w first v b in
        row-resolve (suc (get_or rank (root up (get_or first v 0)) 0)) (get_or first v 0) (there w (get_or first v 0) v t.0 t.1) (omega arith))

  -- where the classes are those of a trial
  module _ (first : List ℕ) (m j : ℕ) (t : Trial w e up pick first m j) where
    abbrev μ : Subst
    μ = solution w e up pick rank first

    solution-at : (x : ℕ) → x < length w → kind_of (get_or w x 0) ≡ 1 → solution w e up pick rank first (get_or w x 0 % 65536) ≡ resolved w e up pick rank x
    solution-at x h kx =
        let q : get_or w (get_or first (get_or w x 0 % 65536) 0) 0 ≡ get_or w x 0 = t.firsts x h kx in
        let full : get_or w x 0 ≡ 16777216 + get_or w x 0 % 65536 = omega (arith, (s.valid x h).bare (omega arith)) in
        let b : stands w first (get_or w x 0 % 65536) ≡ true = stands-is w first (get_or w x 0 % 65536) (omega arith) (q ∙ full) in
        ap (λ b. choose b (resolved w e up pick rank (get_or first (get_or w x 0 % 65536) 0)) (var (get_or w x 0 % 65536) ∷ [])) b
        ∙ resolved-same (get_or first (get_or w x 0 % 65536) 0) x
        (t.vars (get_or first (get_or w x 0 % 65536) 0) x (there w (get_or first (get_or w x 0 % 65536) 0) (get_or w x 0 % 65536) (omega arith) (q ∙ full)) h (ap kind_of q ∙ kx) q)

    -- the value of each position under the solution
    pub value-solution : (p : ℕ) → p < length w → value w e (solution w e up pick rank first) p ≡ resolved w e up pick rank p
    value-solution = downward w e s.ends (λ p. value w e μ p ≡ resolved w e up pick rank p) (λ p h ih. elim (ℕ_discrete (kind_of (get_or w p 0)) 1) [
      | yes kp ↦ value-var w e s.ends s.valid μ p h kp ∙ solution-at p h kp
      | no n ↦
          let ew : get_or w p 0 ≡ get_or w (picked up pick p) 0 = (s.grouped.picks p h).word n in
          value-sym w e s.ends s.valid μ p h n
          ∙ ap (λ z. node (get_or w p 0) ∷ z) (cat-same (λ j. value w e μ (child e p j)) (λ j. resolved w e up pick rank (child e (picked up pick p) j)) (arity_of (get_or w p 0))
          (λ i l. ih i l ∙ t.closed.args p h n (λ p. resolved w e up pick rank p) resolved-agree i l))
          ∙ ap (λ u. node u ∷ cat (λ i. resolved w e up pick rank (child e (picked up pick p) i)) (arity_of u)) ew
          ∙ inv (resolved_eq p h)
    ])

    -- the solution makes the arguments equal
    pub solution-meets : (i : ℕ) → i < j → child e 0 i < length w → child e m i < length w → value w e (solution w e up pick rank first) (child e 0 i) ≡ value w e (solution w e up pick rank first) (child e m i)
    solution-meets i l h k = value-solution (child e 0 i) h ∙ t.meets (λ p. resolved w e up pick rank p) resolved-agree i l ∙ inv (value-solution (child e m i) k)

    -- a substitution that makes them equal, applied to what a class stands for, is its value there
    module _ (θ : Subst) (pθ : Proper θ) (hθ : Args (value w e θ) e j 0 m) where
      agreeθ : Agree (value w e θ) up
      agreeθ = t.sound (value w e θ) (good w e s.ends s.valid θ pθ) hθ

      to-pick : (p : ℕ) → p < length w → value w e θ p ≡ value w e θ (picked up pick p)
      to-pick p h =
          agreeθ p (omega (arith, s.grouped.up_length)) ∙ ap (value w e θ) (inv (s.grouped.picks p h).same)
          ∙ inv (agreeθ (picked up pick p) (omega (arith, s.grouped.up_length, pick-in p h)))

      factor : (n p : ℕ) → p < length w → get_or rank (root up p) 0 < n → apply θ (resolve w e up pick n p) ≡ value w e θ p
      factor zero p h l = absurd (omega arith)
      factor (suc n) p h l =
          let g : ℕ → Expr = λ i. resolve w e up pick n (child e (picked up pick p) i) in
          elim (ℕ_discrete (kind_of (get_or w (picked up pick p) 0)) 1) [
            | yes kx ↦
                let z : arity_of (get_or w (picked up pick p) 0) ≡ 0 = (s.valid (picked up pick p) (pick-in p h)).bare (omega arith) in
                ap (λ n. apply θ (node (get_or w (picked up pick p) 0) ∷ cat g n)) z
                ∙ ap (λ n. apply θ (n ∷ [])) (node-var (get_or w (picked up pick p) 0) kx)
                ∙ append-nil (θ (get_or w (picked up pick p) 0 % 65536))
                ∙ inv (value-var w e s.ends s.valid θ (picked up pick p) (pick-in p h) kx)
                ∙ inv (to-pick p h)
            | no nx ↦
                let y = node-sym (get_or w (picked up pick p) 0) nx in
                ap (λ n. apply θ (n ∷ cat g (arity_of (get_or w (picked up pick p) 0)))) y.1
                ∙ ap (λ z. sym y.0 ∷ z) (apply-cat θ g (arity_of (get_or w (picked up pick p) 0))
                ∙ cat-same (λ i. apply θ (g i)) (λ i. value w e θ (child e (picked up pick p) i)) (arity_of (get_or w (picked up pick p) 0))
                (λ i q. factor n (child e (picked up pick p) i) (kid_in p i h q) (omega (arith, lower p i h q))))
                ∙ ap (λ n. n ∷ cat (λ i. value w e θ (child e (picked up pick p) i)) (arity_of (get_or w (picked up pick p) 0))) (inv y.1)
                ∙ inv (value-sym w e s.ends s.valid θ (picked up pick p) (pick-in p h) nx)
                ∙ inv (to-pick p h)
          ]

      choose_factor : (b : Bool) (v : ℕ) → (b ≡ true → θ v ≡ apply θ (resolved w e up pick rank (get_or first v 0))) → θ v ≡ apply θ (choose b (resolved w e up pick rank (get_or first v 0)) (var v ∷ []))
      choose_factor true v h = h refl
      choose_factor false v h = inv (append-nil (θ v))

      pub factors : (v : ℕ) → θ v ≡ apply θ (solution w e up pick rank first v)
      factors v = choose_factor (stands w first v) v (λ b.
          let t = stands-true w first v b in
          let h = there w (get_or first v 0) v t.0 t.1 in
          ap θ (inv (its_number w (get_or first v 0) v t.0 t.1))
          ∙ inv (value-var w e s.ends s.valid θ (get_or first v 0) h (its_kind w (get_or first v 0) v t.0 t.1))
          ∙ inv (factor (suc (get_or rank (root up (get_or first v 0)) 0)) (get_or first v 0) h (omega arith)))
