-- How often any one variable is there: in a goal, where some variables are bound, and where it is numbered.
use Rattle.std.specs.Prelude.{ℕ, zero, suc, ◌+◌, ◌*◌, ◌-◌, ◌%◌, ◌<◌, ◌≤◌, ◌≡◌, ◌⊎◌, List, [], ◌∷◌, length, get_or}
use Rattle.std.proofs.Common.{arith, add-mul, mul-add, mul_assoc, mul-le-mul, mul-le-mul_left, lt-ltb, le-ltb, sym as inv, ap, ◌∙◌, inl, inr}
use Rattle.std.proofs.Math.Decide.{ℕ_discrete, dec_lt}
use Rattle.terms.specs.Node.{Expr}
use Rattle.terms.specs.When.{◌⇒◌∣◌}
use Rattle.terms.specs.Subst.{In, InAny, Subst, itself}
use Rattle.terms.specs.Number.{place, seen_all, number_all}
use Rattle.terms.proofs.NumberLaws.{get_d_place, in-seen-all, number-all-is-rename}
use Rattle.search.specs.Next.{Goal}
use Rattle.words.specs.Word.{kind_of, Valid, node}
use Rattle.words.specs.WordLaws.{node-var, node-sym}
use Rattle.words.specs.Flat.{flat, flat-rename}
use Rattle.heap.specs.Heap.{Solved}
use Rattle.bounds.specs.Places.{weigh, places, times, below, places_all, Seldom, total}
use Rattle.bounds.specs.Sizing.{Grown, comes, Weighs}
use Rattle.bounds.specs.WeighLaws.{gain, weigh-append, weigh-rename, weigh-more, weigh-none, weigh-add}
use Rattle.bounds.specs.ThriftLaws.{mark, mark-same, mark-other, mark-most, out-times, except, except-same, except-other, weigh-split}
use Rattle.bounds.specs.GoalLaws.{flat_in, places-flat}
use Rattle.bounds.specs.declared.Size.{Size}

-- not more often than there are places,
pub times-places : (y : ℕ) (e : Expr) → times y e ≤ places e
times-places y e = weigh-more (mark y) (λ v. 1) e (λ v i. mark-most y v)

pub seldom-few : {k : ℕ} (g : Goal) → places_all g ≤ k → Seldom k g
seldom-few g l = record { each = λ y. omega (arith, times-places y (flat g), places-flat g, l) }

pub seldom-rest : {k : ℕ} {f : Expr} {g : Goal} → Seldom k (f ∷ g) → Seldom k g
seldom-rest {f = f} {g} s = record { each = λ y. omega (arith, s.each y, weigh-append (mark y) f (flat g)) }

-- than there are places of variables on its side of a number
module _ (base : ℕ) where
  below-low : (v : ℕ) → v < base → below base v ≡ 1
  below-low v l = ap (λ b. b ⇒ 1 ∣ 0) (lt-ltb v base l)

  below-high : (v : ℕ) → base ≤ v → below base v ≡ 0
  below-high v l = ap (λ b. b ⇒ 1 ∣ 0) (le-ltb v base l)

  below-most : (v : ℕ) → below base v ≤ 1
  below-most v = elim (dec_lt v base) [ yes l ↦ omega (arith, below-low v l) | no n ↦ omega (arith, below-high v (omega (arith, n))) ]

  pub below-places : (e : Expr) → weigh (below base) e ≤ places e
  below-places e = weigh-more (below base) (λ v. 1) e (λ v i. below-most v)

  pub times_below : (y : ℕ) → y < base → (e : Expr) → times y e ≤ weigh (below base) e
  times_below y l e = weigh-more (mark y) (below base) e (λ v i. elim (ℕ_discrete y v) [
    | yes p ↦ omega (arith, mark-most y v, below-low v (omega (arith, l, p)))
    | no n ↦ omega (arith, mark-other y v n)
  ])

  pub times_above : (y : ℕ) → base ≤ y → (e : Expr) → times y e + weigh (below base) e ≤ places e
  times_above y l e = omega (
    arith,
    weigh-add (mark y) (below base) e,
    weigh-more (λ v. mark y v + below base v) (λ v. 1) e (λ v i. elim (ℕ_discrete y v) [
      | yes p ↦ omega (arith, mark-most y v, below-high v (omega (arith, l, p)))
      | no n ↦ omega (arith, mark-other y v n, below-most v)
    ]),
  )

  -- a word that is one of theirs, or not
  old-word : (u : ℕ) → kind_of u ≡ 1 → weigh (below base) (node u ∷ []) ≡ below base (u % 65536) + 0
  old-word u k = ap (λ x. weigh (below base) (x ∷ [])) (node-var u k)

  pub old-var : (u : ℕ) → Valid u → base < 65536 → u < 16777216 + base → 1 ≡ weigh (below base) (node u ∷ [])
  old-var u valid small l =
      let k : kind_of u ≡ 1 = omega (arith, valid.low, l, small) in
      omega (arith, old-word u k, below-low (u % 65536) (omega (arith, valid.low, l, small)))

  pub old-not : (u : ℕ) → Valid u → 16777216 + base ≤ u → 0 ≡ weigh (below base) (node u ∷ [])
  old-not u valid l = elim (ℕ_discrete (kind_of u) 1) [
    | yes k ↦ omega (arith, old-word u k, below-high (u % 65536) (omega (arith, k, l, valid.low, valid.bare (omega (arith, k)))))
    | no n ↦ let (s, e) = node-sym u n in ap (λ x. weigh (below base) (x ∷ [])) (inv e)
  ]

-- Weights that only the first variables of a trail have.
module _ (trail : List ℕ) (e : Expr) (M : ℕ) (seldom : (y : ℕ) → times y e ≤ M) where
  pub weigh-trail : (n : ℕ) (w k : ℕ → ℕ) → ((v : ℕ) → In v e → (w v ≡ 0) ⊎ ((j : ℕ) × (j < n) × (get_or trail j 0 ≡ v))) → ((j : ℕ) → j < n → w (get_or trail j 0) ≤ k j) → weigh w e ≤ M * total k n
  weigh-trail zero w k where-so few = omega (arith, weigh-none w e (λ v i. elim (where-so v i) [ inl z ↦ z | inr (j, l, is) ↦ absurd (omega (arith, l)) ]))
  weigh-trail (suc n) w k where-so few =
      omega (
        arith,
        weigh-split (get_or trail n 0) w e,
        mul-le-mul (seldom (get_or trail n 0)) (few n (omega arith)),
        weigh-trail n (except (get_or trail n 0) w) k
            (λ v i. elim (ℕ_discrete (get_or trail n 0) v) [
              | yes p ↦ inl (except-same (get_or trail n 0) w v p)
              | no q ↦ elim (where-so v i) [
                | inl z ↦ inl (except-other (get_or trail n 0) w v q ∙ z)
                | inr (j, l, is) ↦ let other : j ≡ n → ⊥ = λ p. q (ap (λ i. get_or trail i 0) (inv p) ∙ is) in inr (j, omega (arith, l, other), is)
              ]
            ])
            (λ j l. elim (ℕ_discrete (get_or trail n 0) (get_or trail j 0)) [
              | yes p ↦ omega (arith, except-same (get_or trail n 0) w (get_or trail j 0) p)
              | no q ↦ omega (arith, except-other (get_or trail n 0) w (get_or trail j 0) q, few j (omega (arith, l)))
            ]),
        mul-add M (k n) (total k n),
      )

pub total-most : (k : ℕ → ℕ) (m n : ℕ) → ((j : ℕ) → j < n → k j ≤ m) → total k n ≤ n * m
total-most k m zero few = omega arith
total-most k m (suc n) few = omega (arith, few n (omega arith), total-most k m n (λ j l. few j (omega (arith, l))), add-mul 1 n m)

-- What is bound, weighed by the most that one stands for.
pub grown-small : {heap cells trail : List ℕ} {count : ℕ} {x : Size} → Grown heap cells trail count 4096 x → count ≤ 8448 → count * x.variables ≤ 553639680
grown-small {count = count} {x} g few = omega (arith, mul-le-mul few small)
  where
    small : x.variables ≤ 65535
    small = omega (arith, g.few, g.low)

pub grown-weighs : {heap cells trail : List ℕ} {count : ℕ} {x : Size} → Grown heap cells trail count 4096 x → count ≤ 8448 → (base : ℕ) {m : ℕ} → (x.variables ≤ m) × (1 ≤ m) × ((k : ℕ) → x.variables ≤ k → 1 ≤ k → m ≤ k)
    → Weighs heap cells base trail count (record { nodes = x.nodes; variables = m; times = 1 + count * x.variables })
grown-weighs {heap} {cells} {trail} {count} {x} g few base {m} l = record {
  grown = record {
    some = g.some;
    few = l.2 x.nodes g.few g.some;
    low = g.low;
    long = g.long;
    places = λ i h θ s. omega (arith, g.places i h θ s, l.0);
  };
  one = l.1;
  old = λ θ s y h. omega (arith, in_all θ s y);
  new = λ θ s y h. omega (arith, in_all θ s y);
  room = omega (arith, grown-small g few);
}
  where
    in_all : (θ : Subst) → Solved heap cells θ → (y : ℕ) → comes θ trail count y ≤ count * x.variables
    in_all θ s y = total-most (λ i. times y (θ (get_or trail i 0))) x.variables count (λ j h. omega (arith, times-places y (θ (get_or trail j 0)), g.places j h θ s))

-- Under a substitution that leaves all variables but those of a trail as they are.
module _ (E : Goal) (base M : ℕ) (low : (v : ℕ) → InAny v E → v < base) (seldom : Seldom M E) (σ θ : Subst) (agree : (v : ℕ) → InAny v E → σ v ≡ θ v) (trail : List ℕ) (count : ℕ)
    (moved : (v : ℕ) → InAny v E → (θ v ≡ itself v) ⊎ ((j : ℕ) × (j < count) × (get_or trail j 0 ≡ v))) where
  on-trail : (w k : ℕ → ℕ) → ((v : ℕ) → θ v ≡ itself v → w v ≡ 0) → ((j : ℕ) → j < count → w (get_or trail j 0) ≤ k j) → weigh w (flat E) ≤ M * total k count
  on-trail w k none few = weigh-trail trail (flat E) M seldom.each count w k (λ v i. elim (moved v (flat_in v E i)) [ inl e ↦ inl (none v e) | inr x ↦ inr x ]) few

  pub gain-few : (K : ℕ) → ((j : ℕ) → j < count → length (θ (get_or trail j 0)) ≤ K) → weigh (gain σ) (flat E) ≤ M * count * (K - 1)
  gain-few K longest =
      omega (
        arith,
        weigh-more (gain σ) (gain θ) (flat E) (λ v i. omega (arith, ap (λ e. length e - 1) (agree v (flat_in v E i)))),
        on-trail (gain θ) (λ j. K - 1) (λ v e. ap (λ x. length x - 1) e) (λ j l. omega (arith, longest j l)),
        mul-le-mul_left {m = total (λ j. K - 1) count} {n = count * (K - 1)} M (total-most (λ j. K - 1) (K - 1) count (λ j l. omega arith)),
        mul_assoc M count (K - 1),
      )

  module _ (y : ℕ) where
    -- what comes to y's places
    abbrev more : ℕ → ℕ
    more v = times y (θ v) - mark y v

    old-new : weigh (λ v. times y (σ v)) (flat E) ≤ times y (flat E) + M * comes θ trail count y
    old-new =
        omega (
          arith,
          weigh-more (λ v. times y (σ v)) (λ v. mark y v + more v) (flat E) (λ v i. omega (arith, ap (times y) (agree v (flat_in v E i)))),
          weigh-add (mark y) more (flat E),
          on-trail more (λ j. times y (θ (get_or trail j 0))) (λ v e. omega (arith, ap (times y) e)) (λ j l. omega arith),
        )

    pub often-under : (t : ℕ) → (y < base → 1 + comes θ trail count y ≤ t) → (base ≤ y → comes θ trail count y ≤ t) → weigh (λ v. times y (σ v)) (flat E) ≤ M * t
    often-under t old new = elim (dec_lt y base) [
      | yes l ↦ omega (arith, old-new, seldom.each y, mul-add M 1 (comes θ trail count y), mul-le-mul_left {m = 1 + comes θ trail count y} {n = t} M (old l))
      | no n ↦ omega (arith, old-new, out-times y (flat E) (λ i. omega (arith, low y (flat_in y E i), n)), mul-le-mul_left {m = comes θ trail count y} {n = t} M (new (omega (arith, n))))
    ]

-- Numbering does not change it.
module _ (g : Goal) where
  abbrev ρ : ℕ → ℕ
  ρ v = place v (seen_all [] g)

  numbered-times : (y : ℕ) → times y (flat (number_all [] g)) ≡ weigh (λ v. mark y (ρ v)) (flat g)
  numbered-times y = ap (λ h. times y (flat h)) (number-all-is-rename [] g) ∙ ap (times y) (flat-rename ρ g) ∙ weigh-rename (mark y) ρ (flat g)

  pub seldom-number : {k : ℕ} → Seldom k g → Seldom k (number_all [] g)
  seldom-number s = record {
    each = λ y.
        omega (
          arith,
          numbered-times y,
          s.each (get_or (seen_all [] g) y 0),
          weigh-more (λ v. mark y (ρ v)) (mark (get_or (seen_all [] g) y 0)) (flat g) (λ v i. elim (ℕ_discrete y (ρ v)) [
            | yes p ↦ omega (arith, mark-most y (ρ v), mark-same (get_or (seen_all [] g) y 0) v (ap (λ i. get_or (seen_all [] g) i 0) p ∙ get_d_place v (seen_all [] g) (in-seen-all [] g v (flat_in v g i))))
            | no n ↦ omega (arith, mark-other y (ρ v) n)
          ]),
        );
  }

  pub number-seldom : {k : ℕ} → Seldom k (number_all [] g) → Seldom k g
  number-seldom s = record {
    each = λ y.
        omega (
          arith,
          numbered-times (ρ y),
          s.each (ρ y),
          weigh-more (mark y) (λ v. mark (ρ y) (ρ v)) (flat g) (λ v i. elim (ℕ_discrete y v) [
            | yes p ↦ omega (arith, mark-most y v, mark-same (ρ y) (ρ v) (ap ρ p))
            | no n ↦ omega (arith, mark-other y v n)
          ]),
        );
  }
