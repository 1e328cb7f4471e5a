-- Nodes counted on a walk, and variables of a trail gone through.
use Rattle.std.specs.Prelude.{ℕ, suc, ◌+◌, ◌-◌, ◌<◌, ◌≤◌, ◌≡◌, refl, List, [], ◌∷◌, length, get_or, max}
use Rattle.std.proofs.Common.{arith, sym as inv, ap, ◌∙◌, subst}
use Rattle.std.proofs.Math.Decide.{ℕ_discrete, dec_lt}
use Rattle.std.proofs.Math.ListN.{get_or-eq_default}
use Rattle.terms.specs.Subst.{Subst, apply}
use Rattle.words.specs.Word.{kind_of, node}
use Rattle.words.specs.WordLaws.{node-var, node-sym}
use Rattle.heap.specs.Heap.{rows, Whole, bound, Made, Solved}
use Rattle.heap.specs.HeapLaws.{rows_none}
use Rattle.heap.specs.Walking.{ahead, Ready, Visited, flat}
use Rattle.heap.specs.LoneLaws.{flat-ready}
use Rattle.heap.specs.PartLaws.{ahead-alone}
use Rattle.heap.specs.declared.walking.Walk.{Walk}
use Rattle.bounds.specs.Places.{weigh, places}
use Rattle.bounds.specs.Sizing.{Sized, Bound, Grown}
use Rattle.bounds.specs.WeighLaws.{weigh-append}
use Rattle.bounds.specs.declared.Size.{Size}

-- One node, and whether it is a variable.
pub one-var : (u : ℕ) → kind_of u ≡ 1 → 1 ≡ places (node u ∷ [])
one-var u k = ap (λ x. places (x ∷ [])) (inv (node-var u k))

pub one-sym : (u : ℕ) → (kind_of u ≡ 1 → ⊥) → 0 ≡ places (node u ∷ [])
one-sym u n = let (s, e) = node-sym u n in ap (λ x. places (x ∷ [])) (inv e)

-- after some nodes, whose variables weigh n, the walk w is left
pub record Tallies (heap cells : List ℕ) (at due : ℕ) (weight : ℕ → ℕ) (levels : List ℕ) (n : ℕ) (w : Walk) : Type 0 where
  pub sum : (θ : Subst) → Solved heap cells θ → n + weigh weight (ahead heap levels θ w) ≡ weigh weight (apply θ (rows heap due at))

module _ {heap cells : List ℕ} {at due : ℕ} (weight : ℕ → ℕ) where
  pub tally-start : {levels : List ℕ} → Tallies heap cells at due weight levels 0 (flat at due)
  tally-start {levels} = record { sum = λ θ s. omega (arith, ap (weigh weight) (ahead-alone heap cells levels (flat at due) refl θ)) }

  pub tally-on : {levels levels' : List ℕ} {n u : ℕ} {w w' : Walk} → Tallies heap cells at due weight levels n w → Visited heap cells levels w u levels' w' → {k : ℕ} → k ≡ weigh weight (node u ∷ []) → {n' : ℕ} → n' ≡ n + k → Tallies heap cells at due weight levels' n' w'
  tally-on {levels' = levels'} {u = u} {w' = w'} x visit is en = record { sum = λ θ s. omega (arith, x.sum θ s, ap (weigh weight) (visit.same θ s), weigh-append weight (node u ∷ []) (ahead heap levels' θ w'), is, en) }

  pub tally-end : {levels : List ℕ} {n : ℕ} {w : Walk} → Tallies heap cells at due weight levels n w → Ready heap levels w → w.due ≤ 0 → (θ : Subst) → Solved heap cells θ → n ≡ weigh weight (apply θ (rows heap due at))
  tally-end {levels} {w = w} x ready z θ s =
      let none : w.due ≡ 0 = omega (arith, z) in
      omega (arith, x.sum θ s, ap (weigh weight) (ahead-alone heap cells levels w (ready.ended none) θ ∙ ap (λ n. apply θ (rows heap n w.at)) none ∙ ap (apply θ) (rows_none heap w.at)))

-- after some nodes the walk w is left
pub record Counting (heap cells : List ℕ) (at due limit : ℕ) (levels : List ℕ) (nodes variables : ℕ) (w : Walk) : Type 0 where
  pub ready : Ready heap levels w
  pub deep : w.depth ≤ nodes
  pub few : variables ≤ nodes
  pub low : nodes ≤ limit
  pub long : (θ : Subst) → Solved heap cells θ → nodes + length (ahead heap levels θ w) ≡ length (apply θ (rows heap due at))
  pub held : Tallies heap cells at due (λ v. 1) levels variables w

module _ {heap cells : List ℕ} {at due limit : ℕ} where
  pub count-start : {levels : List ℕ} → Whole heap due at → Counting heap cells at due limit levels 0 0 (flat at due)
  count-start {levels} r = record {
    ready = flat-ready r;
    deep = omega arith;
    few = omega arith;
    low = omega arith;
    long = λ θ s. omega (arith, ap length (alone θ));
    held = tally-start (λ v. 1);
  }
    where
      alone : (θ : Subst) → ahead heap levels θ (flat at due) ≡ apply θ (rows heap due at)
      alone θ = ahead-alone heap cells levels (flat at due) refl θ

  module _ {levels : List ℕ} {nodes variables : ℕ} {w : Walk} (x : Counting heap cells at due limit levels nodes variables w) where
    pub count-end : w.due ≤ 0 → Sized heap cells at due limit (record { nodes = nodes; variables = variables })
    count-end z = record {
      few = x.few;
      low = x.low;
      long = λ θ s. omega (arith, x.long θ s, ap length (nothing θ));
      places = tally-end (λ v. 1) x.held x.ready z;
    }
      where
        none : w.due ≡ 0
        none = omega (arith, z)

        nothing : (θ : Subst) → ahead heap levels θ w ≡ []
        nothing θ = ahead-alone heap cells levels w (x.ready.ended none) θ ∙ ap (λ n. apply θ (rows heap n w.at)) none ∙ ap (apply θ) (rows_none heap w.at)

    pub count-on : {u : ℕ} {levels' : List ℕ} {w' : Walk} → Visited heap cells levels w u levels' w' → (nodes ≡ limit → ⊥) → {k : ℕ} → k ≡ places (node u ∷ []) → k ≤ 1
        → {n v : ℕ} → n ≡ nodes + 1 → v ≡ variables + k → Counting heap cells at due limit levels' n v w'
    count-on {u} {levels'} {w'} visit more is one en ev = record {
      ready = visit.ready;
      deep = omega (arith, x.deep, visit.deep, en);
      few = omega (arith, x.few, one, en, ev);
      low = omega (arith, x.low, more, en);
      long = λ θ s. omega (arith, x.long θ s, ap length (visit.same θ s), en);
      held = tally-on (λ v. 1) x.held visit is ev;
    }

-- What is at least two numbers, and no more than what they both are at most.
pub larger-max : (a b : ℕ) {r : ℕ} → r ≡ max a b → (a ≤ r) × (b ≤ r) × ((m : ℕ) → a ≤ m → b ≤ m → r ≤ m)
larger-max a b e = (omega (arith, e), omega (arith, e), λ m l h. omega (arith, e, l, h))

-- One variable more of a trail.
module _ {heap cells trail : List ℕ} where
  pub grown-start : {limit : ℕ} → 1 ≤ limit → Grown heap cells trail 0 limit (record { nodes = 1; variables = 0 })
  grown-start l = record {
    some = omega arith;
    few = omega arith;
    low = l;
    long = λ i h. absurd (omega arith);
    places = λ i h. absurd (omega arith);
  }

  pub grown-end : {count i n m limit : ℕ} → Grown heap cells trail i limit (record { nodes = n; variables = m }) → count ≤ i → i ≤ count
      → Grown heap cells trail count limit (record { nodes = n; variables = m })
  grown-end {n = n} {m} {limit} g l h = subst (λ k. Grown heap cells trail k limit (record { nodes = n; variables = m })) (omega (arith, l, h)) g

  -- the variable v of the trail is bound to the row at b - 1
  module _ (made : Made heap cells) {count : ℕ} (all : Bound cells trail count) (i : ℕ) (l : i < count) {v : ℕ} (ev : v ≡ get_or trail i 0) where
    some : bound cells v ≡ 0 → ⊥
    some e = all.each i l (ap (bound cells) (inv ev) ∙ e)

    pub trail-inside : v < length cells
    trail-inside = elim (dec_lt v (length cells)) [ yes h ↦ h | no n ↦ absurd (some (get_or-eq_default cells 0 (omega (arith, n)))) ]

    module _ {b : ℕ} (eb : b ≡ get_or cells v 0) where
      pub trail-bound : 1 ≤ b
      trail-bound = elim (ℕ_discrete b 0) [ yes z ↦ absurd (some (inv eb ∙ z)) | no n ↦ omega (arith, n) ]

      module _ {p : ℕ} (ep : p ≡ b - 1) where
        row : bound cells v ≡ suc p
        row = omega (arith, eb, ep, trail-bound)

        pub trail-whole : Whole heap 1 p
        trail-whole = made.whole v p row

        stands : (θ : Subst) → Solved heap cells θ → θ (get_or trail i 0) ≡ apply θ (rows heap 1 p)
        stands θ t = ap θ (inv ev) ∙ t.solves.stands v p row

        pub grown-on : {n m limit : ℕ} → Grown heap cells trail i limit (record { nodes = n; variables = m }) → n ≤ limit → {r : Size} → Sized heap cells p 1 limit r → {n' m' : ℕ}
            → (n ≤ n') × (r.nodes ≤ n') × ((k : ℕ) → n ≤ k → r.nodes ≤ k → n' ≤ k) → (m ≤ m') × (r.variables ≤ m') × ((k : ℕ) → m ≤ k → r.variables ≤ k → m' ≤ k)
            → {j : ℕ} → j ≡ i + 1 → Grown heap cells trail j limit (record { nodes = n'; variables = m' }) × (n' ≤ limit)
        grown-on {n} {m} {limit} g low {r} s {n'} {m'} a b {j} ej = (
          record {
            some = omega (arith, g.some, a.0);
            few = b.2 n' (omega (arith, g.few, a.0)) (omega (arith, s.few, a.1));
            low = a.2 limit low s.low;
            long = λ x h θ t. elim (ℕ_discrete x i) [
              | yes z ↦ omega (arith, a.1, s.long θ t, ap length (stands θ t), ap (λ y. length (θ (get_or trail y 0))) z)
              | no d ↦ omega (arith, a.0, g.long x (omega (arith, h, d, ej)) θ t)
            ];
            places = λ x h θ t. elim (ℕ_discrete x i) [
              | yes z ↦ omega (arith, b.1, s.places θ t, ap places (stands θ t), ap (λ y. places (θ (get_or trail y 0))) z)
              | no d ↦ omega (arith, b.0, g.places x (omega (arith, h, d, ej)) θ t)
            ];
          },
          a.2 limit low s.low,
        )
