-- Names by first appearance, of numbers by first appearance: each number is the place of its name.
use Rattle.std.specs.Prelude.{ℕ, zero, suc, ◌+◌, ◌≤◌, ◌<◌, ◌≡◌, refl, true, false, List, [], ◌∷◌, ◌++◌, eqb, ltb, length}
use Rattle.std.proofs.Common.{sym as inv, ap, ◌∙◌, arith, ltb-true, ltb-false, eqb-true, length-append}
use Rattle.std.proofs.lemmas.Bool.{eqb-false}
use Rattle.terms.specs.Cases.{cases}
use Rattle.format.specs.Reading.{next_unused}
use Rattle.format.proofs.Numbering.{unused-same, unused-other}
use Rattle.grammar.specs.Names.{same_name, place, within, grow}
use Rattle.grammar.specs.NameLaws.{same_refl, same_true, place-outside}

-- a name in a list, and behind it
place-front : (w : List ℕ) (l m : List (List ℕ)) → within w l ≡ true → place w (l ++ m) ≡ place w l
place-front w [] m h = let z : ◌≡◌ {A = ℕ} 0 1 = cc in absurd (omega arith)
place-front w (v ∷ l) m h = cases (same_name w v) (λ t. rw t) (λ t. rw t (ap suc (place-front w l m (rw t at h))))

within-front : (w : List ℕ) (l m : List (List ℕ)) → within w l ≡ true → within w (l ++ m) ≡ true
within-front w [] m h = let z : ◌≡◌ {A = ℕ} 0 1 = cc in absurd (omega arith)
within-front w (v ∷ l) m h = cases (same_name w v) (λ t. rw t) (λ t. rw t (within-front w l m (rw t at h)))

pub place-back : (w : List ℕ) (l m : List (List ℕ)) → within w l ≡ false → place w (l ++ m) ≡ length l + place w m
place-back w [] m h = omega arith
place-back w (v ∷ l) m h =
    cases (same_name w v) (λ t. let z : ◌≡◌ {A = ℕ} 0 1 = cc (rw t at h) in absurd (omega arith)) (λ t. rw t (omega (arith, place-back w l m (rw t at h))))

within-back : (w : List ℕ) (l m : List (List ℕ)) → within w l ≡ false → within w (l ++ m) ≡ within w m
within-back w [] m h = refl
within-back w (v ∷ l) m h =
    cases (same_name w v) (λ t. let z : ◌≡◌ {A = ℕ} 0 1 = cc (rw t at h) in absurd (omega arith)) (λ t. rw t (within-back w l m (rw t at h)))

-- called what f calls them, the numbers below m
abbrev pub names_below : (ℕ → List ℕ) → ℕ → List (List ℕ)
names_below f zero = []
names_below f (suc m) = names_below f m ++ (f m ∷ [])

pub below_length : (f : ℕ → List ℕ) (m : ℕ) → length (names_below f m) ≡ m
below_length f zero = refl
below_length f (suc m) = omega (arith, length-append (names_below f m) (f m ∷ []), below_length f m)

-- f has another name for each number of D
module _ (f : ℕ → List ℕ) (D : ℕ → Type 0) (one : (v w : ℕ) → D v → D w → f v ≡ f w → v ≡ w) (v : ℕ) (in-v : D v) where
  apart : (w : ℕ) → D w → (v ≡ w → ⊥) → same_name (f v) (f w) ≡ false
  apart w q d = cases (same_name (f v) (f w)) (λ t. absurd (d (one v w in-v q (same_true (f v) (f w) t)))) (λ t. t)

  not-below : (m : ℕ) → ((n : ℕ) → n < m → D n) → m ≤ v → within (f v) (names_below f m) ≡ false
  not-below zero a h = refl
  not-below (suc m) a h =
      within-back (f v) (names_below f m) (f m ∷ []) (not-below m (λ n l. a n (omega arith)) (omega arith))
      ∙ rw (apart m (a m (omega arith)) (λ (e : v ≡ m). omega arith))

  pub record Below (m : ℕ) : Type 0 where
    pub there : within (f v) (names_below f m) ≡ true
    pub at : place (f v) (names_below f m) ≡ v

  pub is_below : (m : ℕ) → ((n : ℕ) → n < m → D n) → v < m → Below m
  is_below zero a h = absurd (omega arith)
  is_below (suc m) a h = cases (ltb v m) (λ t. front (is_below m (λ n l. a n (omega arith)) (ltb-true v m t))) last
    where
      front : Below m → Below (suc m)
      front b = record { there = within-front (f v) (names_below f m) (f m ∷ []) b.there; at = place-front (f v) (names_below f m) (f m ∷ []) b.there ∙ b.at }

      last : ltb v m ≡ false → Below (suc m)
      last t =
          let e : v ≡ m = omega (arith, ltb-false v m t) in
          let o = not-below m (λ n l. a n (omega arith)) (omega (arith, ltb-false v m t)) in
          let s : same_name (f v) (f m) ≡ true = rw e (same_refl (f m)) in
          record {
            there = within-back (f v) (names_below f m) (f m ∷ []) o ∙ rw s;
            at = place-back (f v) (names_below f m) (f m ∷ []) o ∙ rw s (omega (arith, below_length f m));
          }

  -- behind the first m, v has its own number, and one more is seen if it is new
  pub record Follows (m : ℕ) : Type 0 where
    pub at : place (f v) (names_below f m) ≡ v
    pub seen : grow (names_below f m) (f v) ≡ names_below f (next_unused m v)

  pub follows : (m : ℕ) → ((n : ℕ) → n < m → D n) → v ≤ m → Follows m
  follows m a h = cases (eqb v m) new old
    where
      new : eqb v m ≡ true → Follows m
      new t =
          let e = eqb-true v m t in
          let o = not-below m a (omega arith) in
          record {
            at = place-outside (f v) (names_below f m) o ∙ below_length f m ∙ inv e;
            seen = rw o (ap (λ (n : ℕ). names_below f m ++ (f n ∷ [])) e ∙ ap (names_below f) (inv (unused-same m v e)));
          }

      old : eqb v m ≡ false → Follows m
      old t =
          let d = eqb-false v m t in
          let b = is_below m a (omega (arith, d)) in
          record { at = b.at; seen = rw b.there (ap (names_below f) (inv (unused-other m v d))) }
