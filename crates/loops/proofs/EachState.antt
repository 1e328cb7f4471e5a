-- Every state of the detector holds it (document 001, Lemma 10).
use Rattle.std.specs.Prelude.{ℕ, zero, suc, Bool, true, false, ◌≡◌, refl, List}
use Rattle.std.proofs.Common.{ap, subst, ◌∙◌}
use mathlib.Core.HLevel.{Discrete}
use Rattle.std.proofs.Math.Option.{Option, some}
use Rattle.loops.specs.Path.{Successor, path-on}
use Rattle.loops.specs.Detect.{State, start, saves, move, Detected, detect, Judged, judged, detect-zero, detect-back}
use Rattle.loops.proofs.Held.{Sound, sound-start, saved-next, kept_next, move_step}

module _ {F : Type 0} (next : List F → Option (List F)) (laws : Successor next) (q : List F) (s : State F) (i : Sound next q s) where
  -- of the next state
  pub sound-next : ¬ Detected s → (h : List F) → next s.goal ≡ some h → Sound next q (move (saves s) s h)
  sound-next d h n = go (saves s) refl
    where
      go : (b : Bool) → saves s ≡ b → Sound next q (move b s h)
      go true e = record { here = path-on next s.step q s.goal i.here ∙ n; held = saved-next next laws q s i e h n }
      go false e = record { here = path-on next s.step q s.goal i.here ∙ n; held = kept_next next laws q s i e d }

module _ {F : Type 0} (dec : Discrete F) (next : List F → Option (List F)) (laws : Successor next) where
  -- Lemma 10: of every state, whose number is its step
  pub detect-sound : (t : ℕ) (q : List F) (s : State F) → detect dec next t q ≡ some s → (s.step ≡ t) × Sound next q s
  detect-sound zero q s e =
      let o : s ≡ start q = cc (detect-zero dec next q) in
      rw o (refl, sound-start next q)
  detect-sound (suc t) q s e =
      let b = detect-back dec next t q s e in
      let d = detect-sound t q b.0 b.1 in
      let j = subst (Judged dec next b.0) b.2 (judged dec next b.0) in
      rw j.4 (move_step (saves b.0) b.0 j.2 ∙ ap suc d.0, sound-next next laws q b.0 d.1 j.1 j.2 j.3)
