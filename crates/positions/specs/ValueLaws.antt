-- The terms at positions, and that their values under a substitution are good labels.
use Rattle.std.specs.Prelude.{ℕ, zero, suc, ◌+◌, ◌%◌, ◌-◌, ◌≤◌, ◌<◌, ◌≡◌, refl, List, [], ◌∷◌, ◌++◌, length, get_or}
use Rattle.std.proofs.Common.{arith, add-one, ap, ◌∙◌, sym as inv, append-nil}
use Rattle.std.proofs.Math.Decide.{ℕ_discrete}
use Rattle.std.proofs.lemmas.List.{length-map}
use Rattle.std.proofs.Math.ListN.{get_or-map}
use Rattle.std.proofs.Math.Seq.{slice, slice_empty, slice-cons}
use Rattle.terms.specs.Node.{var, sym}
use Rattle.terms.specs.Row.{Row}
use Rattle.terms.specs.Subst.{Subst, apply, Proper}
use Rattle.words.specs.WordLaws.{node-var, node-sym, node-places}
use Rattle.words.specs.PackLaws.{node_inj}
use Rattle.words.specs.Word.{places, kind_of, arity_of, Plain, Valids, node, nodes}
use Rattle.positions.specs.Words.{child, Terms, terms_end, terms_more, Ends}
use Rattle.positions.specs.Closing.{Good}
use Rattle.positions.specs.Nodes.{term, value, cat}
use Rattle.positions.specs.RootLaws.{strong}
use Rattle.positions.specs.CatLaws.{row-tail, row-nil, row-node, cat-row, cat-read, cat-longer, apply-cat, slice-join}

-- a row of nodes is a row of words
pub row-terms : (l : List ℕ) (k : ℕ) → Row k (nodes l) → Valids l → Terms k l
row-terms [] k r v = let e = row-nil r in rw e terms_end
row-terms (u ∷ l) k r v =
    let t = row-tail r in
    let q : Row (arity_of u + t.0) (nodes l) = rw (node-places u (v 0 (omega arith))) at t.2 in
    rw t.1 (terms_more (row-terms l (arity_of u + t.0) q (λ x h. v (suc x) (omega arith))))

module _ (w e : List ℕ) (ends : Ends w e) where
  pub child-above : (p i : ℕ) → p < length w → i ≤ arity_of (get_or w p 0) → p < child e p i
  child-above p zero h l = omega arith
  child-above p (suc i) h l =
      let q = (ends p h).inside i (omega arith) in
      omega (arith, child-above p i h (omega arith), (ends (child e p i) q).above)

  pub child-next : (p i : ℕ) → p < length w → i < arity_of (get_or w p 0) → (child e p i ≤ child e p (suc i)) × (child e p (suc i) ≤ length w)
  child-next p i h l = let q = (ends p h).inside i l in let g = ends (child e p i) q in (omega (arith, g.above), g.within)

  kids : (p i : ℕ) → p < length w → i ≤ arity_of (get_or w p 0) → slice (p + 1) (child e p i) (nodes w) ≡ cat (λ j. term w e (child e p j)) i
  kids p zero h l = slice_empty (p + 1) (nodes w)
  kids p (suc i) h l =
      let c = child-next p i h (omega arith) in
      slice-join (p + 1) (child e p i) (child e p (suc i)) (nodes w) (omega (arith, child-above p i h (omega arith))) c.0 (rw (length-map w node) c.1)
      ∙ ap (λ z. z ++ term w e (child e p i)) (kids p i h (omega arith))

  pub term_eq : (p : ℕ) → p < length w → term w e p ≡ node (get_or w p 0) ∷ cat (λ j. term w e (child e p j)) (arity_of (get_or w p 0))
  term_eq p h =
      let g = ends p h in
      let a : term w e p ≡ get_or (nodes w) p (node 0) ∷ slice (suc p) (get_or e p 0) (nodes w) = slice-cons p (get_or e p 0) (nodes w) (node 0) g.above (rw (length-map w node) g.within) in
      let b : slice (suc p) (get_or e p 0) (nodes w) ≡ cat (λ j. term w e (child e p j)) (arity_of (get_or w p 0)) =
      ap (λ z. slice z (get_or e p 0) (nodes w)) (inv (add-one p)) ∙ ap (λ z. slice (p + 1) z (nodes w)) g.last ∙ kids p (arity_of (get_or w p 0)) h (omega arith) in
      a ∙ ap (λ z. z ∷ slice (suc p) (get_or e p 0) (nodes w)) (get_or-map node w p 0) ∙ ap (λ z. node (get_or w p 0) ∷ z) b

  -- from the positions after p
  pub downward {ℓ} : (P : ℕ → Type ℓ) → ((p : ℕ) → p < length w → ((i : ℕ) → i < arity_of (get_or w p 0) → P (child e p i)) → P p) → (p : ℕ) → p < length w → P p
  downward P step p h = strong (λ n. (p : ℕ) → p < length w → length w - p ≡ n → P p)
      (λ n ih p h q. step p h (λ i l. ih (length w - child e p i) (omega (arith, child-above p i h (omega arith), (ends p h).inside i l)) (child e p i) ((ends p h).inside i l) refl))
      (length w - p) p h refl

  pub term-row : Valids w → (p : ℕ) → p < length w → Row 1 (term w e p)
  term-row valid = downward (λ p. Row 1 (term w e p)) (λ p h ih.
      let a : places (node (get_or w p 0)) + 0 ≡ arity_of (get_or w p 0) = omega (arith, node-places (get_or w p 0) (valid p h)) in
      rw (term_eq p h) (row-node (node (get_or w p 0)) (rw a (cat-row (λ j. term w e (child e p j)) (arity_of (get_or w p 0)) ih))))

  module _ (valid : Valids w) (θ : Subst) where
    pub value-var : (p : ℕ) → p < length w → kind_of (get_or w p 0) ≡ 1 → value w e θ p ≡ θ (get_or w p 0 % 65536)
    value-var p h k =
        let z : arity_of (get_or w p 0) ≡ 0 = (valid p h).bare (omega arith) in
        let c : cat (λ j. term w e (child e p j)) (arity_of (get_or w p 0)) ≡ [] = ap (λ n. cat (λ j. term w e (child e p j)) n) z in
        ap (apply θ) (term_eq p h ∙ ap (λ n. n ∷ cat (λ j. term w e (child e p j)) (arity_of (get_or w p 0))) (node-var (get_or w p 0) k) ∙ ap (λ n. var (get_or w p 0 % 65536) ∷ n) c)
        ∙ append-nil (θ (get_or w p 0 % 65536))

    pub value-sym : (p : ℕ) → p < length w → Plain (get_or w p 0) → value w e θ p ≡ node (get_or w p 0) ∷ cat (λ j. value w e θ (child e p j)) (arity_of (get_or w p 0))
    value-sym p h k =
        let s = node-sym (get_or w p 0) k in
        ap (apply θ) (term_eq p h ∙ ap (λ n. n ∷ cat (λ j. term w e (child e p j)) (arity_of (get_or w p 0))) s.1)
        ∙ ap (λ z. sym s.0 ∷ z) (apply-cat θ (λ j. term w e (child e p j)) (arity_of (get_or w p 0)))
        ∙ ap (λ n. n ∷ cat (λ j. value w e θ (child e p j)) (arity_of (get_or w p 0))) (inv s.1)

    module _ (proper : Proper θ) where
      pub value_row : (p : ℕ) → p < length w → Row 1 (value w e θ p)
      value_row = downward (λ p. Row 1 (value w e θ p)) (λ p h ih. elim (ℕ_discrete (kind_of (get_or w p 0)) 1) [
        | yes k ↦ rw (value-var p h k) (proper (get_or w p 0 % 65536))
        | no n ↦
            let a : places (node (get_or w p 0)) + 0 ≡ arity_of (get_or w p 0) = omega (arith, node-places (get_or w p 0) (valid p h)) in
            rw (value-sym p h n) (row-node (node (get_or w p 0)) (rw a (cat-row (λ j. value w e θ (child e p j)) (arity_of (get_or w p 0)) ih)))
      ])

      pub good : Good w e (value w e θ)
      good = record {
        apart = λ x y hx hy px py q.
            let a = value-sym x hx px in let b = value-sym y hy py in
            let s : node (get_or w x 0) ≡ node (get_or w y 0) = cc in
            node_inj (get_or w x 0) (get_or w y 0) (valid x hx) (valid y hy) s;
        args = λ x y hx hy px ew q.
            let py : Plain (get_or w y 0) = λ z. px (ap kind_of ew ∙ z) in
            let a = value-sym x hx px in let b = value-sym y hy py in
            let s : cat (λ j. value w e θ (child e x j)) (arity_of (get_or w x 0)) ≡ cat (λ j. value w e θ (child e y j)) (arity_of (get_or w y 0)) = cc in
            cat-read (λ j. value w e θ (child e x j)) (λ j. value w e θ (child e y j)) (arity_of (get_or w x 0))
            (λ i l. value_row (child e x i) ((ends x hx).inside i l)) (λ i l. value_row (child e y i) ((ends y hy).inside i (omega (arith, l, ap arity_of ew))))
            (s ∙ ap (λ n. cat (λ j. value w e θ (child e y j)) n) (ap arity_of (inv ew)));
        vars = λ x y hx hy k ew. value-var x hx k ∙ ap (λ u. θ (u % 65536)) ew ∙ inv (value-var y hy (ap kind_of (inv ew) ∙ k));
        longer = λ x i hx px l. rw (value-sym x hx px) (omega (arith, cat-longer (λ j. value w e θ (child e x j)) (arity_of (get_or w x 0)) i l));
      }
