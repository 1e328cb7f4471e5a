-- What every state of the detector holds (document 001, Lemmas 10 and 11, and the proof of Theorem 1).
use Rattle.std.specs.Prelude.{ℕ, suc, ◌≤◌, ◌<◌, Bool, true, false, ◌||◌, ◌≡◌, refl, List, [], ◌∷◌, ltb, length}
use Rattle.std.proofs.Math.Decide.{dec_lt}
use Rattle.std.proofs.Common.{arith, sym, ap, ◌∙◌, ltb-true, ltb-false}
use Rattle.std.proofs.lemmas.Bool.{false≢true}
use Rattle.std.proofs.Math.Option.{Option, none, some, none-ne-some}
use Rattle.loops.specs.Path.{Successor, path, path-zero}
use Rattle.loops.specs.Schedule.{scheduled}
use Rattle.loops.proofs.ScheduleLaws.{scheduled-zero}
use Rattle.loops.specs.Detect.{State, start, leftmost, saves, move, Detected}

-- no step strictly between j and t is scheduled
abbrev pub Quiet : ℕ → ℕ → Type 0
Quiet j t = (k : ℕ) → j < k → k < t → scheduled k ≡ false

-- to an earlier end
quiet-less : (j t : ℕ) → Quiet j (suc t) → Quiet j t
quiet-less j t w k a b = w k a (omega arith)

-- one of two tests passed, and not the first
or_true : (a b : Bool) → (a || b) ≡ true → a ≡ false → b ≡ true
or_true true b e f = absurd (false≢true (sym f))
or_true false b e f = e

-- neither of two tests passed
pub or_false : (a b : Bool) → (a || b) ≡ false → (a ≡ false) × (b ≡ false)
or_false true b e = absurd (false≢true (sym e))
or_false false b e = (refl, e)

-- a move counts one step
pub move_step : {F : Type 0} (b : Bool) (s : State F) (h : List F) → (move b s h).step ≡ suc s.step
move_step true s h = refl
move_step false s h = refl

module _ {F : Type 0} (next : List F → Option (List F)) where
  -- at step t of the query q the formula a and the length l are saved, from step m
  pub record Kept (q : List F) (t l m : ℕ) (a : F) : Type 0 where
    pub rest : List F
    pub earlier : m < t
    pub save : path next m q ≡ some (a ∷ rest)
    pub size : l ≡ length (a ∷ rest)
    -- no scheduled step since
    pub quiet : Quiet m t
    -- from the last scheduled step on no goal was shorter, and before the save each was longer
    pub low : (j : ℕ) (k : List F) → j < t → Quiet j t → path next j q ≡ some k → (l ≤ length k) × (j < m → l < length k)
    -- no goal since began with a
    pub away : (j : ℕ) (k : List F) → m < j → j < t → ¬ (path next j q ≡ some (a ∷ k))

  -- nothing is saved only at the start
  abbrev pub Held : List F → ℕ → ℕ → ℕ → Option F → Type 0
  Held q t l m none = t ≡ 0
  Held q t l m (some a) = Kept q t l m a

  -- Lemma 10: what holds of every state of the query
  pub record Sound (q : List F) (s : State F) : Type 0 where
    pub here : path next s.step q ≡ some s.goal
    pub held : Held q s.step s.least s.from s.saved

  -- of the first state
  pub sound-start : (q : List F) → Sound q (start q)
  sound-start q = record { here = path-zero next q; held = refl }

  module _ (laws : Successor next) (q : List F) (s : State F) (i : Sound q s) where
    -- a step up to this one that is not before it is this one
    now : (j : ℕ) (k : List F) → j < suc s.step → ¬ (j < s.step) → path next j q ≡ some k → k ≡ s.goal
    now j k b c p = let o : j ≡ s.step = omega arith in cc

    -- a goal that is saved, unless it is scheduled, is shorter than those since the last scheduled step
    saved-shorter : saves s ≡ true → (j : ℕ) (k : List F) → j < s.step → Quiet j (suc s.step) → path next j q ≡ some k → length s.goal < length k
    saved-shorter e j k l w p = go s.saved i.held
      where
        less : length s.goal < s.least
        less = ltb-true (length s.goal) s.least (or_true (scheduled s.step) (ltb (length s.goal) s.least) e (w s.step l (omega arith)))

        go : (o : Option F) → Held q s.step s.least s.from o → length s.goal < length k
        go none z = omega arith
        go (some a) c = omega (arith, less, c.low j k l (quiet-less j s.step w) p)

    -- so it is the least, and less than those before it
    saved_low : saves s ≡ true → (j : ℕ) (k : List F) → j < suc s.step → Quiet j (suc s.step) → path next j q ≡ some k
        → (length s.goal ≤ length k) × (j < s.step → length s.goal < length k)
    saved_low e j k b w p =
        elim (dec_lt j s.step) [
          | yes c ↦ (omega (arith, saved-shorter e j k c w p), λ _. saved-shorter e j k c w p)
          | no c ↦ (omega (arith, ap length (now j k b c p)), λ d. absurd (c d))
        ]

    -- what is held after a save
    pub saved-next : saves s ≡ true → (h : List F) → next s.goal ≡ some h → Held q (suc s.step) (length s.goal) s.step (leftmost s.goal)
    saved-next e h n = go s.goal refl
      where
        go : (g : List F) → s.goal ≡ g → Held q (suc s.step) (length s.goal) s.step (leftmost g)
        go [] f = absurd (none-ne-some h (sym laws.ends ∙ ap next (sym f) ∙ n))
        go (a ∷ g) f = record {
          rest = g;
          earlier = omega arith;
          save = i.here ∙ ap some f;
          size = ap length f;
          quiet = λ k b c. absurd (omega arith);
          low = saved_low e;
          away = λ j k b c p. omega arith;
        }

    -- Lemma 11: what is held on without a save, and where no loop is detected
    pub kept_next : saves s ≡ false → ¬ Detected s → Held q (suc s.step) s.least s.from s.saved
    kept_next e d = go s.saved refl i.held
      where
        off : (scheduled s.step ≡ false) × (ltb (length s.goal) s.least ≡ false)
        off = or_false (scheduled s.step) (ltb (length s.goal) s.least) e

        long : s.least ≤ length s.goal
        long = ltb-false (length s.goal) s.least off.1

        go : (o : Option F) → s.saved ≡ o → Held q s.step s.least s.from o → Held q (suc s.step) s.least s.from o
        go none f z = absurd (false≢true (sym off.0 ∙ ap scheduled z ∙ scheduled-zero))
        go (some a) f c = record {
          rest = c.rest;
          earlier = omega arith;
          save = c.save;
          size = c.size;
          quiet = λ k b w. elim (dec_lt k s.step) [ yes x ↦ c.quiet k b x | no x ↦ (let o : k ≡ s.step = omega arith in ap scheduled o ∙ off.0) ];
          low = λ j k b w p.
              elim (dec_lt j s.step) [
                | yes x ↦ c.low j k x (quiet-less j s.step w) p
                | no x ↦ (omega (arith, long, ap length (now j k b x p)), λ y. absurd (omega (arith, c.earlier)))
              ];
          away = λ j k b w p. elim (dec_lt j s.step) [ yes x ↦ c.away j k b x p | no x ↦ d (a, k, f, sym (now j (a ∷ k) w x p), omega (arith, long)) ];
        }
