-- One pair of rows made equal.
use Rattle.std.specs.Prelude.{ℕ, suc, ◌%◌, ◌<◌, ◌≤◌, ◌≡◌, refl, length, get_or, set}
use Rattle.std.proofs.Common.{arith, lt-ltb, le-ltb, sym as inv, ap, ◌∙◌, subst, inl, inr, length-set, get_or-set_same, get_or-set_other}
use Rattle.std.proofs.Math.Decide.{ℕ_discrete, dec_lt}
use mathlib.Core.List.{List, head-eq_of_cons-eq}
use Rattle.terms.specs.Node.{Symbol, var, sym}
use Rattle.terms.specs.Subst.{In, Subst, apply, after, itself, only}
use Rattle.words.specs.Word.{kind_of}
use Rattle.words.specs.WordLaws.{node-sym}
use Rattle.heap.specs.Heap.{rows, bound, Made, Solved}
use Rattle.heap.specs.HeapLaws.{stands-var, stands-sym}
use Rattle.heap.proofs.BindLaws.{bind-made, bind_iff, bind-solved, bind-none}
use Rattle.matching.specs.Meeting.{Bindable, Met}
use Rattle.matching.specs.Binding.{noted, counted, trail-bind}
use Rattle.matching.specs.Unifying.{More, Hung, KeptUp, Stepped}
use Rattle.matching.specs.declared.meeting.Meeting.TheVariants.{Same}
use Rattle.matching.specs.declared.unifying.Trial.{Trial}
use Rattle.matching.specs.declared.unifying.Step.{Step}

-- how long the trail is, and how many are on it
module _ (base v n : ℕ) (trail : List ℕ) where
  noted-long : length (noted base v n trail) ≡ length trail
  noted-long = elim (dec_lt v base) [ yes l ↦ rw (lt-ltb v base l) (length-set trail n v) | no m ↦ rw (le-ltb v base (omega (arith, m))) refl ]

  counted-slow : counted base v n ≤ suc n
  counted-slow = elim (dec_lt v base) [ yes l ↦ rw (lt-ltb v base l) (omega arith) | no m ↦ rw (le-ltb v base (omega (arith, m))) (omega arith) ]

-- a symbol is no variable
sym-var : {c : Symbol} {v : ℕ} → sym c ≡ var v → ⊥
sym-var e = let z : ◌≡◌ {A = ℕ} 0 1 = cc in absurd (omega (arith, z))

module _ {heap cells : List ℕ} {p q : ℕ} (made : Made heap cells) {v r : ℕ} (b : Bindable heap cells p q v r) where
  pub more-bound : (kind_of (get_or heap r 0) ≡ 1 → get_or heap r 0 % 65536 < v) → ((θ : Subst) → Solved heap cells θ → ¬ In v (apply θ (rows heap 1 r))) → More heap cells p q (set cells v (suc r))
  more-bound low away = record {
    made = bind-made heap cells v r b.free b.inside made b.whole low;
    long = length-set cells v (suc r);
    grows = λ u e. elim (ℕ_discrete u v) [
      | yes z ↦ absurd (omega (arith, inv e ∙ ap (bound (set cells v (suc r))) z ∙ get_or-set_same cells v (suc r) 0 b.inside))
      | no n ↦ inv (get_or-set_other cells v u (suc r) 0 n) ∙ e
    ];
    solved = λ θ s. (after (only v (apply θ (rows heap 1 r))) θ, bind-solved heap cells v r b.free b.inside made s b.whole (away θ s));
    just = λ τ. (
      λ x. (bind_iff heap cells v r b.free b.inside τ).0 (x.0, (b.just τ x.0).0 x.1),
      λ y. let z = (bind_iff heap cells v r b.free b.inside τ).1 y in (z.0, (b.just τ z.0).1 z.1),
    );
  }

-- nothing is to be done
pub more_same : {heap cells : List ℕ} {p q : ℕ} → Made heap cells → Met heap cells p q Same → More heap cells p q cells
more_same made met = record { made = made; long = refl; grows = λ v e. e; solved = λ θ s. (θ, s); just = λ τ. (λ x. x.0, λ y. (y, met τ y)) }

module _ (heap cells trail : List ℕ) (t : Trial) (p q : ℕ) (made : Made heap cells) where
  pub step_same : Met heap cells p q Same → Stepped heap cells trail t p q cells trail (Step.Done t.count t.fuel)
  step_same met = (
    more_same made met,
    record { trailed = λ before b. b; slow = omega arith; long = refl },
    omega arith,
  )

  module _ {v r : ℕ} (b : Bindable heap cells p q v r) where
    kept-up : t.count < length trail → KeptUp cells trail t (set cells v (suc r)) (noted t.base v t.count trail) (counted t.base v t.count)
    kept-up room = record {
      trailed = λ before x. trail-bind x v r b.free b.inside room;
      slow = counted-slow t.base v t.count trail;
      long = noted-long t.base v t.count trail;
    }

    -- a variable on another, of a lower number
    pub step_join : (kind_of (get_or heap r 0) ≡ 1) × (get_or heap r 0 % 65536 < v) × (bound cells (get_or heap r 0 % 65536) ≡ 0) → t.count < length trail → {cells' trail' : List ℕ} {count : ℕ}
        → count ≡ counted t.base v t.count → cells' ≡ set cells v (suc r) → trail' ≡ noted t.base v t.count trail → Stepped heap cells trail t p q cells' trail' (Step.Done count t.fuel)
    step_join (k, l, z) room en ec et = rw en (rw ec (rw et (more-bound made b (λ x. l) away, kept-up room, omega arith)))
      where
        away : (θ : Subst) → Solved heap cells θ → ¬ In v (apply θ (rows heap 1 r))
        away θ s i = elim (subst (In v) (stands-var heap r b.there θ k ∙ s.free _ z) i) [ inl e ↦ omega (arith, l, e) | inr j ↦ j ]

    -- or on a symbol's row
    pub step_hang : ¬ (kind_of (get_or heap r 0) ≡ 1) → ((θ : Subst) × Solved heap cells θ) → t.count < length trail → (cells' trail' : List ℕ) (z : Step) → Hung heap cells trail t v r cells' trail' z → Stepped heap cells trail t p q cells' trail' z
    step_hang n some room cells' trail' (Step.Done count left) (x, l, away) = rw x.count_is (rw x.cells_are (rw x.trail_is (more-bound made b (λ k. absurd (n k)) away, kept-up room, l)))
    step_hang n some room cells' trail' (Step.Inside a c k) x = absurd x
    step_hang n (θ, s) room cells' trail' Step.Clash (ec, et, i) = (ec, et, λ τ y e. bind-none heap cells v r b.free b.inside made s b.whole (i θ s) other τ y ((b.just τ y).0 e))
      where
        other : ¬ (apply θ (rows heap 1 r) ≡ itself v)
        other e =
            let (c, x) = node-sym (get_or heap r 0) n in
            sym-var (inv x ∙ head-eq_of_cons-eq (inv (stands-sym heap r b.there θ (made.fits r b.there).valid n refl) ∙ e))
    step_hang n some room cells' trail' Step.Tired x = x
