-- Records cleared one behind the other, in a copy.
use Prim.Native.Nat.{ℕ, zero, suc, ◌+◌, ◌-◌, ◌≤◌, ◌<◌}
use mathlib.Core.Path.{◌≡◌, refl, sym as inv, ap, ap₂, ◌∙◌}
use mathlib.Core.Bool.{Bool, true, false}
use mathlib.Core.List.{List, [], ◌∷◌, ◌++◌}
use native.Mathlib.Omega.{arith}
use borrow.Author.Tests.{lt-ltb, ltb-true, ltb-false, eq-eqb, ne_eqb}
use lib.ListN.{length, get_or, set, take, length-set}
use lib.Seq.{take-suc-set, take-suc, take_all}
use lib.Dec.{ltb}
use Rattle.format.specs.declared.Check.{Check}
use Rattle.format.specs.Reading.{body_length, verdict, query_verdict}
use Rattle.printouts.specs.Answer.{clear_at, cleared, unnumbered, answer_verdict}
use Rattle.printouts.proofs.ClearLaws.{clear-length, cleared-length, cleared-next, cleared-last}

-- One record

module _ (s : List ℕ) (at : ℕ) where
  pub clear-some : (s' : List ℕ) → get_or s at 0 ≡ 1 → s' ≡ set (set s (at + 1) 0) (at + 2) 0 → s' ≡ clear_at s at
  unfolding clear_at
  clear-some s' e f = f ∙ inv (rw (eq-eqb (get_or s at 0) 1 e) refl)

  pub clear-other : (get_or s at 0 ≡ 1 → ⊥) → s ≡ clear_at s at
  unfolding clear_at
  clear-other n = inv (rw (ne_eqb (get_or s at 0) 1 n) refl)

  pub variable-body : get_or s at 0 ≡ 1 → at + body_length (get_or s at 0) < length s → at + 2 < length s
  unfolding body_length
  variable-body e h = rw e at h

pub ruleset clearing-one = (clear-some, clear-other)

-- All of them

pub record Clearing (s₀ s : List ℕ) (at : ℕ) : Type 0 where
  pub fuel : ℕ
  pub enough : length s - at ≤ fuel
  pub rest : cleared fuel s at ≡ unnumbered s₀
  pub size : length s ≡ length s₀

module _ (s₀ : List ℕ) where
  pub clearing-start : Clearing s₀ s₀ 0
  clearing-start = record { fuel = length s₀; enough = omega arith; rest = refl; size = refl }

  pub clearing-step : (s s' : List ℕ) (at next : ℕ) (t : Bool) → Clearing s₀ s at → t ≡ ltb (at + body_length (get_or s at 0)) (length s) → t ≡ true → next ≡ at + 1 + body_length (get_or s at 0) → s' ≡ clear_at s at →
      Clearing s₀ s' next
  clearing-step s s' at next t g e f n c = by g.fuel g.enough g.rest
    where
      whole : at + body_length (get_or s at 0) < length s
      whole = ltb-true _ _ (inv e ∙ f)

      by : (k : ℕ) → length s - at ≤ k → cleared k s at ≡ unnumbered s₀ → Clearing s₀ s' next
      by zero h r = absurd (omega (arith, whole))
      by (suc k) h r =
          let l : length s' ≡ length s = ap length c ∙ clear-length s at in
          record {
            fuel = k;
            enough = omega (arith, l, n, h);
            rest = ap (λ (x : List ℕ). cleared k x next) c ∙ ap (cleared k (clear_at s at)) n ∙ inv (cleared-next k s at whole) ∙ r;
            size = l ∙ g.size;
          }

  pub clearing-less : (s s' : List ℕ) (at next : ℕ) (t : Bool) → t ≡ ltb (at + body_length (get_or s at 0)) (length s) → t ≡ true → next ≡ at + 1 + body_length (get_or s at 0) → s' ≡ clear_at s at →
      length s' - next < length s - at
  clearing-less s s' at next t e f n c = omega (arith, ltb-true (at + body_length (get_or s at 0)) (length s) (inv e ∙ f), ap length c, clear-length s at, n)

  pub clearing-whole : (s : List ℕ) (at : ℕ) (t : Bool) → t ≡ ltb (at + body_length (get_or s at 0)) (length s) → t ≡ true → at + body_length (get_or s at 0) < length s
  clearing-whole s at t e f = ltb-true _ _ (inv e ∙ f)

  pub clearing-end : (s : List ℕ) (at : ℕ) (t : Bool) → Clearing s₀ s at → t ≡ ltb (at + body_length (get_or s at 0)) (length s) → t ≡ false → s ≡ unnumbered s₀
  clearing-end s at t g e f = inv (cleared-last g.fuel s at (ltb-false _ _ (inv e ∙ f))) ∙ g.rest

pub ruleset clearing = (clearing-start, clearing-step, clearing-less, clearing-whole, clearing-end)

-- The copy

pub record Copied (s₀ s answer : List ℕ) (i : ℕ) : Type 0 where
  pub below : i ≤ length answer
  pub room : length answer ≤ length s
  pub size : length s ≡ length s₀
  pub front : take i s ≡ take i answer

module _ (s₀ answer : List ℕ) where
  pub copied-start : length answer ≤ length s₀ → Copied s₀ s₀ answer 0
  copied-start h = record { below = omega arith; room = h; size = refl; front = refl }

  pub copied-step : (s s' : List ℕ) (i : ℕ) → Copied s₀ s answer i → i < length answer → s' ≡ set s i (get_or answer i 0) → Copied s₀ s' answer (i + 1)
  copied-step s s' i g h e =
      let n : i + 1 ≡ suc i = omega arith in
      record {
        below = omega arith;
        room = omega (arith, ap length e, length-set s i (get_or answer i 0), g.room);
        size = ap length e ∙ length-set s i (get_or answer i 0) ∙ g.size;
        front = ap₂ take n e ∙ take-suc-set s i (get_or answer i 0) (omega (arith, g.room)) ∙ ap (λ (x : List ℕ). x ++ (get_or answer i 0 ∷ [])) g.front ∙ inv (take-suc answer i 0 h) ∙ ap (λ (m : ℕ). take m answer) (inv n);
      }

  pub copied-end : (s : List ℕ) (i : ℕ) → Copied s₀ s answer i → length answer ≤ i → take (length answer) s ≡ answer
  copied-end s i g h =
      let n : length answer ≡ i = omega (arith, g.below) in
      ap (λ (m : ℕ). take m s) n ∙ g.front ∙ take_all i answer (omega arith)

pub ruleset copied = (copied-start, copied-step, copied-end)

-- An answer that is too long is no shorter with its numbers cleared
pub long_same : (book answer : List ℕ) (r : Check) → 16387 < length answer → r ≡ query_verdict book answer → r ≡ answer_verdict book answer
unfolding query_verdict verdict
long_same book answer r h e = e ∙ rw (lt-ltb 16387 (length answer) h, lt-ltb 16387 (length (unnumbered answer)) (omega (arith, cleared-length (length answer) answer 0))) refl

pub copied-check : (book answer s : List ℕ) (n : ℕ) (r : Check) → take (length answer) s ≡ answer → n ≡ length answer → r ≡ answer_verdict book (take n s) → r ≡ answer_verdict book answer
copied-check book answer s n r e f g = g ∙ ap (answer_verdict book) (ap (λ (m : ℕ). take m s) f ∙ e)
