-- What a trial has bound, and how it is undone.
use Rattle.std.specs.Prelude.{ℕ, suc, ◌<◌, ◌≤◌, ◌≡◌, refl, ◌⊎◌, List, ltb, length, get_or, set}
use Rattle.std.proofs.Common.{arith, lt-ltb, le-ltb, sym as inv, ap, ◌∙◌, inl, inr, length-set, get_or-set_same, get_or-set_other}
use Rattle.std.proofs.Math.Decide.{ℕ_discrete, dec_lt}
use Rattle.std.proofs.Math.ListN.{get_or-eq_default}
use Rattle.terms.specs.When.{◌⇒◌∣◌}
use Rattle.heap.specs.Heap.{bound}

-- the trail after v is bound, and how many are on it
abbrev pub noted : ℕ → ℕ → ℕ → List ℕ → List ℕ
noted base v count trail = ltb v base ⇒ set trail count v ∣ trail

abbrev pub counted : ℕ → ℕ → ℕ → ℕ
counted base v count = ltb v base ⇒ suc count ∣ count

-- v is among the first n of the trail, from i on
abbrev pub OnTrail : List ℕ → ℕ → ℕ → ℕ → Type 0
OnTrail trail i n v = (j : ℕ) × (i ≤ j) × (j < n) × (get_or trail j 0 ≡ v)

-- of the variables below `base` those that are bound now and were not before are on the trail
pub record Trailed (before cells trail : List ℕ) (base n : ℕ) : Type 0 where
  pub kept : (v : ℕ) → v < base → (bound cells v ≡ bound before v) ⊎ ((bound before v ≡ 0) × OnTrail trail 0 n v)
  pub inside : (i : ℕ) → i < n → get_or trail i 0 < length cells
  pub fresh : (i : ℕ) → i < n → bound before (get_or trail i 0) ≡ 0
  pub held : (i : ℕ) → i < n → bound cells (get_or trail i 0) ≡ 0 → ⊥

pub trail-none : (cells trail : List ℕ) (base : ℕ) → Trailed cells cells trail base 0
trail-none cells trail base = record { kept = λ v l. inl refl; inside = λ i l. absurd (omega arith); fresh = λ i l. absurd (omega arith); held = λ i l. absurd (omega arith) }

module _ {before cells trail : List ℕ} {base n : ℕ} (t : Trailed before cells trail base n) (v p : ℕ) (free : bound cells v ≡ 0) (inside : v < length cells) (room : n < length trail) where
  was_free : v < base → bound before v ≡ 0
  was_free l = elim (t.kept v l) [ inl e ↦ inv e ∙ free | inr x ↦ x.0 ]

  still_held : (i : ℕ) → i < n → bound (set cells v (suc p)) (get_or trail i 0) ≡ 0 → ⊥
  still_held i h z = elim (ℕ_discrete (get_or trail i 0) v) [
    | yes e ↦ omega (arith, inv z ∙ ap (bound (set cells v (suc p))) e, get_or-set_same cells v (suc p) 0 inside)
    | no m ↦ t.held i h (inv (get_or-set_other cells v (get_or trail i 0) (suc p) 0 m) ∙ z)
  ]

  trail-goal : v < base → Trailed before (set cells v (suc p)) (set trail n v) base (suc n)
  trail-goal l = record {
    kept = λ u h. elim (ℕ_discrete u v) [
      | yes z ↦ inr (ap (bound before) z ∙ was_free l, (n, omega arith, omega arith, get_or-set_same trail n v 0 room ∙ inv z))
      | no m ↦ elim (t.kept u h) [
        | inl e ↦ inl (get_or-set_other cells v u (suc p) 0 m ∙ e)
        | inr (z, (j, a, b, e)) ↦ inr (z, (j, a, omega (arith, b), get_or-set_other trail n j v 0 (λ q. omega (arith, b, q)) ∙ e))
      ]
    ];
    inside = λ i h. elim (ℕ_discrete i n) [
      | yes z ↦ omega (arith, ap (λ j. get_or (set trail n v) j 0) z ∙ get_or-set_same trail n v 0 room, inside, length-set cells v (suc p))
      | no m ↦ omega (arith, get_or-set_other trail n i v 0 m, t.inside i (omega (arith, h, m)), length-set cells v (suc p))
    ];
    fresh = λ i h. elim (ℕ_discrete i n) [
      | yes z ↦ ap (bound before) (ap (λ j. get_or (set trail n v) j 0) z ∙ get_or-set_same trail n v 0 room) ∙ was_free l
      | no m ↦ ap (bound before) (get_or-set_other trail n i v 0 m) ∙ t.fresh i (omega (arith, h, m))
    ];
    held = λ i h z. elim (ℕ_discrete i n) [
      | yes e ↦ omega (arith, inv z ∙ ap (bound (set cells v (suc p))) (ap (λ j. get_or (set trail n v) j 0) e ∙ get_or-set_same trail n v 0 room), get_or-set_same cells v (suc p) 0 inside)
      | no m ↦ still_held i (omega (arith, h, m)) (ap (bound (set cells v (suc p))) (inv (get_or-set_other trail n i v 0 m)) ∙ z)
    ];
  }

  trail-clause : base ≤ v → Trailed before (set cells v (suc p)) trail base n
  trail-clause l = record {
    kept = λ u h. elim (t.kept u h) [ inl e ↦ inl (get_or-set_other cells v u (suc p) 0 (λ z. omega (arith, h, l, z)) ∙ e) | inr x ↦ inr x ];
    inside = λ i h. omega (arith, t.inside i h, length-set cells v (suc p));
    fresh = t.fresh;
    held = still_held;
  }

  pub trail-bind : Trailed before (set cells v (suc p)) (noted base v n trail) base (counted base v n)
  trail-bind = elim (dec_lt v base) [
    | yes l ↦ rw (lt-ltb v base l) (trail-goal l)
    | no m ↦ rw (le-ltb v base (omega (arith, m))) (trail-clause (omega (arith, m)))
  ]

-- Undoing: the first i of the trail are not bound any more.
pub record Undone (before cells trail : List ℕ) (base i n : ℕ) : Type 0 where
  pub kept : (v : ℕ) → v < base → (bound cells v ≡ bound before v) ⊎ OnTrail trail i n v
  pub fresh : (j : ℕ) → j < n → bound before (get_or trail j 0) ≡ 0

pub undo_start : {before cells trail : List ℕ} {base n : ℕ} → Trailed before cells trail base n → Undone before cells trail base 0 n
undo_start t = record { kept = λ v l. elim (t.kept v l) [ inl e ↦ inl e | inr x ↦ inr x.1 ]; fresh = t.fresh }

pub undo_one : {before cells trail : List ℕ} {base i n : ℕ} → Undone before cells trail base i n → i < n → (v : ℕ) → v ≡ get_or trail i 0 → v < length cells → {next : ℕ} → next ≡ suc i
    → Undone before (set cells v 0) trail base next n
undo_one {before} {cells} {trail} {base} {i} u under v e inside s = rw s (record {
  kept = λ w l. elim (ℕ_discrete w v) [
    | yes z ↦ inl (ap (bound (set cells v 0)) z ∙ get_or-set_same cells v 0 0 inside ∙ inv (ap (bound before) (z ∙ e) ∙ u.fresh i under))
    | no m ↦ elim (u.kept w l) [
      | inl x ↦ inl (get_or-set_other cells v w 0 0 m ∙ x)
      | inr (j, a, b, x) ↦ inr (j, later j a (λ q. m (inv x ∙ ap (λ y. get_or trail y 0) q ∙ inv e)), b, x)
    ]
  ];
  fresh = u.fresh;
})
  where
    later : (j : ℕ) → i ≤ j → (j ≡ i → ⊥) → suc i ≤ j
    later j a n = omega (arith, a, n)

pub undo_free : (cells : List ℕ) (v w : ℕ) → bound cells w ≡ 0 → bound (set cells v 0) w ≡ 0
undo_free cells v w e = elim (ℕ_discrete w v) [ yes z ↦ go (dec_lt v (length cells)) z | no m ↦ get_or-set_other cells v w 0 0 m ∙ e ]
  where
    go : Dec (v < length cells) → w ≡ v → bound (set cells v 0) w ≡ 0
    go (yes l) z = ap (bound (set cells v 0)) z ∙ get_or-set_same cells v 0 0 l
    go (no m) z = get_or-eq_default (set cells v 0) 0 (omega (arith, m, z, length-set cells v 0))

pub undo_end : {before cells trail : List ℕ} {base i n : ℕ} → Undone before cells trail base i n → n ≤ i → (v : ℕ) → v < base → bound cells v ≡ bound before v
undo_end u l v h = elim (u.kept v h) [ inl e ↦ e | inr (j, a, b, e) ↦ absurd (omega (arith, a, b, l)) ]

-- the two ways of noting
module _ (base v count : ℕ) (cells trail : List ℕ) {p q : ℕ} (e : q ≡ suc p) where
  abbrev Noted : ℕ → List ℕ → List ℕ → Type 0
  Noted n c t = (n ≡ counted base v count) × ((c ≡ set cells v (suc p)) × (t ≡ noted base v count trail))

  pub note_goal : v < base → {n : ℕ} → n ≡ suc count → Noted n (set cells v q) (set trail count v)
  note_goal l d = rw (lt-ltb v base l) (d, (ap (set cells v) e, refl))

  pub note_clause : base ≤ v → Noted count (set cells v q) trail
  note_clause l = rw (le-ltb v base l) (refl, (ap (set cells v) e, refl))
