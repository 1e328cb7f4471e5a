-- What is left of bytes whose variables' numbers are cleared: places and kinds, and all other records.
use Rattle.std.specs.Prelude.{ℕ, zero, suc, ◌+◌, ◌-◌, ◌*◌, ◌≤◌, ◌<◌, ◌≡◌, List, [], ◌∷◌, ◌++◌, length, get_or, set, drop, eqb, ltb}
use Rattle.std.proofs.Math.Path.{refl}
use Rattle.std.proofs.Common.{sym as inv, ap, ap₂, ◌∙◌, subst, arith, lt-ltb, le-ltb, ne_eqb}
use Rattle.std.proofs.Math.Decide.{dec_lt}
use Rattle.std.proofs.Math.ListN.{length-set}
use Rattle.std.proofs.Math.Seq.{get_or-set_other, drop-set-lt}
use Rattle.terms.specs.Cases.{cases}
use Rattle.format.specs.declared.Record.{Record}
use Rattle.format.specs.declared.Record.TheVariants.{Variable, Constant, Compound, Formula, Clause, Goal, End}
use Rattle.format.specs.Reading.{body_length, number_at, record_at}
use Rattle.format.specs.Format.{record_kind, encode_record, Bytes}
use Rattle.format.proofs.Encoded.{encoded}
use Rattle.format.proofs.Items.{NarrowRecord, Kinded, k1, k2, k3, k4, k5, k6, k7, decode}
use Rattle.printouts.specs.Answer.{clear_at, cleared}

-- One record

set-low : (l : List ℕ) (i j : ℕ) → get_or l j 0 < 256 → get_or (set l i 0) j 0 < 256
set-low [] i j h = h
set-low (x ∷ l) zero zero h = omega arith
set-low (x ∷ l) zero (suc j) h = h
set-low (x ∷ l) (suc i) zero h = h
set-low (x ∷ l) (suc i) (suc j) h = set-low l i j h

module _ (s : List ℕ) (at : ℕ) where
  pub clear-length : length (clear_at s at) ≡ length s
  unfolding clear_at
  clear-length = cases (eqb (get_or s at 0) 1) (λ e. rw e (length-set (set s (at + 1) 0) (at + 2) 0 ∙ length-set s (at + 1) 0)) (λ e. rw e refl)

  clear-before : (i : ℕ) → i ≤ at → get_or (clear_at s at) i 0 ≡ get_or s i 0
  unfolding clear_at
  clear-before i h =
      cases (eqb (get_or s at 0) 1)
      (λ e. rw e (get_or-set_other (set s (at + 1) 0) (at + 2) i 0 0 (λ p. let z : ⊥ = omega (arith, p) in z) ∙ get_or-set_other s (at + 1) i 0 0 (λ p. let z : ⊥ = omega (arith, p) in z))) (λ e. rw e refl)

  pub clear_none : (get_or s at 0 ≡ 1 → ⊥) → clear_at s at ≡ s
  unfolding clear_at
  clear_none n = rw (ne_eqb (get_or s at 0) 1 n) refl

  clear_behind : (i : ℕ) → at + 2 < i → drop i (clear_at s at) ≡ drop i s
  unfolding clear_at
  clear_behind i h =
      cases (eqb (get_or s at 0) 1) (λ e. rw e (drop-set-lt i (set s (at + 1) 0) (at + 2) 0 h ∙ drop-set-lt i s (at + 1) 0 (omega arith))) (λ e. rw e refl)

  pub clear-bytes : Bytes s → Bytes (clear_at s at)
  unfolding clear_at
  clear-bytes b i = cases (eqb (get_or s at 0) 1) (λ e. rw e (set-low (set s (at + 1) 0) (at + 2) i (set-low s (at + 1) i (b i)))) (λ e. rw e (b i))

-- The records behind it

pub cleared-length : (k : ℕ) (s : List ℕ) (at : ℕ) → length (cleared k s at) ≡ length s
unfolding cleared
cleared-length zero s at = refl
cleared-length (suc k) s at =
    cases (ltb (at + body_length (get_or s at 0)) (length s)) (λ e. rw e (cleared-length k (clear_at s at) (at + 1 + body_length (get_or s at 0)) ∙ clear-length s at)) (λ e. rw e refl)

pub cleared-bytes : (k : ℕ) (s : List ℕ) (at : ℕ) → Bytes s → Bytes (cleared k s at)
unfolding cleared
cleared-bytes zero s at b i = b i
cleared-bytes (suc k) s at b i =
    cases (ltb (at + body_length (get_or s at 0)) (length s)) (λ e. rw e (cleared-bytes k (clear_at s at) (at + 1 + body_length (get_or s at 0)) (clear-bytes s at b) i)) (λ e. rw e (b i))

cleared-before : (k : ℕ) (s : List ℕ) (at i : ℕ) → i < at → get_or (cleared k s at) i 0 ≡ get_or s i 0
unfolding cleared
cleared-before zero s at i h = refl
cleared-before (suc k) s at i h =
    cases (ltb (at + body_length (get_or s at 0)) (length s))
    (λ e. rw e (cleared-before k (clear_at s at) (at + 1 + body_length (get_or s at 0)) i (omega arith) ∙ clear-before s at i (omega arith))) (λ e. rw e refl)

pub cleared-next : (k : ℕ) (s : List ℕ) (at : ℕ) → at + body_length (get_or s at 0) < length s → cleared (suc k) s at ≡ cleared k (clear_at s at) (at + 1 + body_length (get_or s at 0))
unfolding cleared
cleared-next k s at h = rw (lt-ltb _ _ h) refl

pub cleared-last : (k : ℕ) (s : List ℕ) (at : ℕ) → length s ≤ at + body_length (get_or s at 0) → cleared k s at ≡ s
unfolding cleared
cleared-last zero s at h = refl
cleared-last (suc k) s at h = rw (le-ltb _ _ h) refl

kind-of : (r : Record) → Kinded (record_kind r)
kind-of (Variable v) = k1
kind-of (Constant c) = k2
kind-of (Compound f n) = k3
kind-of (Formula p n) = k4
kind-of (Clause n) = k5
kind-of (Goal n) = k6
kind-of End = k7

same_record : (u s : List ℕ) (at k : ℕ) → Kinded k → ((i : ℕ) → i < at + 1 + body_length k → get_or u i 0 ≡ get_or s i 0) → record_at s at k ≡ record_at u at k
unfolding record_at number_at body_length
same_record u s at k k1 e = ap₂ (λ (a b : ℕ). Variable (a * 256 + b)) (inv (e (at + 1) (omega arith))) (inv (e (at + 1 + 1) (omega arith)))
same_record u s at k k2 e = ap₂ (λ (a b : ℕ). Constant (a * 256 + b)) (inv (e (at + 1) (omega arith))) (inv (e (at + 1 + 1) (omega arith)))
same_record u s at k k3 e =
    ap₂ (λ (n b : ℕ). Compound n b) (ap₂ (λ (a b : ℕ). a * 256 + b) (inv (e (at + 1) (omega arith))) (inv (e (at + 1 + 1) (omega arith)))) (inv (e (at + 3) (omega arith)))
same_record u s at k k4 e =
    ap₂ (λ (n b : ℕ). Formula n b) (ap₂ (λ (a b : ℕ). a * 256 + b) (inv (e (at + 1) (omega arith))) (inv (e (at + 1 + 1) (omega arith)))) (inv (e (at + 3) (omega arith)))
same_record u s at k k5 e = ap Clause (inv (e (at + 1) (omega arith)))
same_record u s at k k6 e = ap₂ (λ (a b : ℕ). Goal (a * 256 + b)) (inv (e (at + 1) (omega arith))) (inv (e (at + 1 + 1) (omega arith)))
same_record u s at k k7 e = refl

behind : (s : List ℕ) (at : ℕ) {m : ℕ} → Kinded m → get_or s at 0 ≡ m → drop (at + 1 + body_length m) (clear_at s at) ≡ drop (at + 1 + body_length m) s
unfolding body_length
behind s at k1 b = clear_behind s at (at + 1 + 2) (omega arith)
behind s at k2 b = ap (drop (at + 1 + 2)) (clear_none s at (λ z. let y : ⊥ = omega (arith, b, z) in y))
behind s at k3 b = ap (drop (at + 1 + 3)) (clear_none s at (λ z. let y : ⊥ = omega (arith, b, z) in y))
behind s at k4 b = ap (drop (at + 1 + 3)) (clear_none s at (λ z. let y : ⊥ = omega (arith, b, z) in y))
behind s at k5 b = ap (drop (at + 1 + 1)) (clear_none s at (λ z. let y : ⊥ = omega (arith, b, z) in y))
behind s at k6 b = ap (drop (at + 1 + 2)) (clear_none s at (λ z. let y : ⊥ = omega (arith, b, z) in y))
behind s at k7 b = ap (drop (at + 1 + 0)) (clear_none s at (λ z. let y : ⊥ = omega (arith, b, z) in y))

-- The record that stood there: of the same kind, the same but for a variable's number
pub record Stood (k : ℕ) (s : List ℕ) (at : ℕ) (r : Record) (l : List ℕ) : Type 0 where
  pub fits : at + body_length (record_kind r) < length s
  pub later : drop (at + 1 + body_length (record_kind r)) (cleared k (clear_at s at) (at + 1 + body_length (record_kind r))) ≡ l
  pub image : drop at s ≡ encode_record (record_at s at (record_kind r)) ++ drop (at + 1 + body_length (record_kind r)) (clear_at s at)
  pub item : (record_kind r ≡ 1 → ⊥) → record_at s at (record_kind r) ≡ r
  pub narrow : NarrowRecord (record_at s at (record_kind r))

module _ (k : ℕ) (s : List ℕ) (at : ℕ) (bytes : Bytes s) (r : Record) (l : List ℕ) (whole : at + body_length (get_or s at 0) < length s) where
  abbrev u : List ℕ
  u = cleared k (clear_at s at) (at + 1 + body_length (get_or s at 0))

  stood-there : drop at u ≡ encode_record r ++ l → Stood k s at r l
  stood-there e =
      let c = encoded u at r l e in
      let before : (i : ℕ) → i ≤ at → get_or u i 0 ≡ get_or s i 0 = λ i h. cleared-before k (clear_at s at) (at + 1 + body_length (get_or s at 0)) i (omega arith) ∙ clear-before s at i h in
      let b : get_or s at 0 ≡ record_kind r = inv (before at (omega arith)) ∙ c.kind in
      let d = decode s bytes at (record_kind r) (kind-of r) b (subst (λ (n : ℕ). body_length n < length s - at) b (omega (arith, whole))) in
      record {
        fits = subst (λ (n : ℕ). at + body_length n < length s) b whole;
        later = ap (λ (n : ℕ). drop (at + 1 + body_length (record_kind r)) (cleared k (clear_at s at) (at + 1 + body_length n))) (inv b) ∙ c.later;
        image = d.image ∙ ap (λ (x : List ℕ). encode_record (record_at s at (record_kind r)) ++ x) (inv (behind s at (kind-of r) b));
        item = λ n. same_record u s at (record_kind r) (kind-of r) (same b n) ∙ c.item;
        narrow = d.narrow;
      }
    where
      same : get_or s at 0 ≡ record_kind r → (record_kind r ≡ 1 → ⊥) → (i : ℕ) → i < at + 1 + body_length (record_kind r) → get_or u i 0 ≡ get_or s i 0
      same b n i h =
          cleared-before k (clear_at s at) (at + 1 + body_length (get_or s at 0)) i (subst (λ (m : ℕ). i < at + 1 + body_length m) (inv b) h)
          ∙ ap (λ (x : List ℕ). get_or x i 0) (clear_none s at (λ z. n (inv b ∙ z)))

pub stood : (k : ℕ) (s : List ℕ) (at : ℕ) → Bytes s → (r : Record) (l : List ℕ) → drop at (cleared (suc k) s at) ≡ encode_record r ++ l → Stood k s at r l
stood k s at bytes r l e =
    elim (dec_lt (at + body_length (get_or s at 0)) (length s)) [
      | yes h ↦ stood-there k s at bytes r l h (ap (drop at) (inv (cleared-next k s at h)) ∙ e)
      | no h ↦ (
          let f : drop at s ≡ encode_record r ++ l = ap (drop at) (inv (cleared-last (suc k) s at (omega arith))) ∙ e in
          let c = encoded s at r l f in
          absurd (omega (arith, subst (λ (n : ℕ). body_length n < length s - at) (inv c.kind) c.body)))
    ]
