-- Whether a variable is in what a row stands for.
use Rattle.std.specs.Prelude.{ℕ, ◌+◌, ◌-◌, ◌<◌, ◌≤◌, ◌≡◌, refl, List, [], ◌∷◌, ◌++◌}
use Rattle.std.proofs.Common.{arith, sym as inv, ap, ◌∙◌, subst, inl, inr, append-nil, append_assoc}
use Rattle.terms.specs.Node.{Expr}
use Rattle.terms.specs.Subst.{In, Subst, apply}
use Rattle.terms.specs.SubstLaws.{in_right, in-append}
use Rattle.words.specs.Word.{node}
use Rattle.words.specs.WordLaws.{in-node, word-var, node-var}
use Rattle.heap.specs.Heap.{rows, Whole, Solved}
use Rattle.heap.specs.HeapLaws.{rows_none}
use Rattle.heap.specs.Walking.{ahead, Ready, Visited, flat}
use Rattle.heap.specs.LoneLaws.{flat-ready}
use Rattle.heap.specs.PartLaws.{ahead-alone}
use Rattle.heap.specs.declared.walking.Walk.{Walk}
use Rattle.matching.specs.declared.occurring.Look.{Look}
use Rattle.matching.specs.declared.occurring.Look.TheVariants.{Away, There, Tired}

-- v is not in what the row at p stands for
abbrev pub Apart : List ℕ → List ℕ → ℕ → ℕ → Type 0
Apart heap cells v p = (θ : Subst) → Solved heap cells θ → ¬ In v (apply θ (rows heap 1 p))

abbrev pub Looked : List ℕ → List ℕ → ℕ → ℕ → ℕ → Look → Type 0
Looked heap cells v p fuel (Away left) = (left ≤ fuel) × Apart heap cells v p
Looked heap cells v p fuel There = (θ : Subst) → Solved heap cells θ → In v (apply θ (rows heap 1 p))
Looked heap cells v p fuel Tired = Unit {0}

-- after some nodes, none of them v, the walk w is left
pub record Seeking (heap cells : List ℕ) (v p fuel : ℕ) (levels : List ℕ) (left : ℕ) (w : Walk) : Type 0 where
  pub ready : Ready heap levels w
  pub deep : w.depth + left ≤ fuel
  pub so_far : (θ : Subst) → Solved heap cells θ → (done : Expr) × (done ++ ahead heap levels θ w ≡ apply θ (rows heap 1 p)) × ¬ In v done

module _ {heap cells : List ℕ} {v p fuel : ℕ} where
  pub seek-start : {levels : List ℕ} → Whole heap 1 p → Seeking heap cells v p fuel levels fuel (flat p 1)
  seek-start {levels} r = record {
    ready = flat-ready r;
    deep = omega arith;
    so_far = λ θ s. ([], ahead-alone heap cells levels (flat p 1) refl θ, λ i. i);
  }

  -- a walk that keeps no level goes on with any
  pub seek-flat : {left at due : ℕ} → Seeking heap cells v p fuel [] left (flat at due) → {levels : List ℕ} → Seeking heap cells v p fuel levels left (flat at due)
  seek-flat x = record { ready = flat-ready x.ready.front; deep = x.deep; so_far = x.so_far }

  module _ {levels : List ℕ} {left : ℕ} {w : Walk} (x : Seeking heap cells v p fuel levels left w) where
    pub seek-end : w.due ≤ 0 → Looked heap cells v p fuel (Away left)
    seek-end z = (
      omega (arith, x.deep),
      λ θ s i.
          let (done, e, away) = x.so_far θ s in
          away (subst (In v) (inv e ∙ ap (λ y. done ++ y) (nothing θ) ∙ append-nil done) i),
    )
      where
        none : w.due ≡ 0
        none = omega (arith, z)

        nothing : (θ : Subst) → ahead heap levels θ w ≡ []
        nothing θ = ahead-alone heap cells levels w (x.ready.ended none) θ ∙ ap (λ n. apply θ (rows heap n w.at)) none ∙ ap (apply θ) (rows_none heap w.at)

    module _ {u : ℕ} {levels' : List ℕ} {w' : Walk} (visit : Visited heap cells levels w u levels' w') {sought : ℕ} (word : sought ≡ 16777216 + v) (small : v < 65536) where
      pub seek-there : u ≡ sought → Looked heap cells v p fuel There
      seek-there e θ s =
          let (done, same, away) = x.so_far θ s in
          let (k, n, valid) = word-var v u small (e ∙ word) in
          subst (In v) same (in_right v done (ahead heap levels θ w) (subst (In v) (inv (visit.same θ s)) (subst (λ y. In v (y ∷ ahead heap levels' θ w')) (inv (node-var u k)) (inl (inv n)))))

      pub seek-on : (u ≡ sought → ⊥) → 0 < left → {less : ℕ} → less ≡ left - 1 → Seeking heap cells v p fuel levels' less w'
      seek-on n l e = record {
        ready = visit.ready;
        deep = omega (arith, x.deep, visit.deep, e, l);
        so_far = λ θ s.
            let (done, same, away) = x.so_far θ s in
            (done ++ (node u ∷ []), append_assoc done (node u ∷ []) _ ∙ ap (λ y. done ++ y) (inv (visit.same θ s)) ∙ same, λ i. elim (in-append v done (node u ∷ []) i) [ inl j ↦ away j | inr j ↦ other j ]);
      }
        where
          other : ¬ In v (node u ∷ [])
          other i = elim (in-node v u [] i) [
            | inl (k, z) ↦ n (omega (arith, word, k, z, visit.fit.valid.bare (omega (arith, k))))
            | inr j ↦ j
          ]
