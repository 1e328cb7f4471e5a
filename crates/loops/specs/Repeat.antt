-- A goal that comes back whole never ends (document 02, C-21).
use Rattle.std.specs.Prelude.{ℕ, ◌-◌, ◌<◌, ◌≡◌, List, []}
use Rattle.std.proofs.Common.{arith, sym, ap, subst, ◌∙◌, append-nil}
use Rattle.std.proofs.Math.Option.{Option, some}
use Rattle.loops.specs.Path.{Successor, path, Goes, path-sum}
use Rattle.loops.specs.Cyclic.{Cyclic, strong_cyclic, endless}

module _ {F : Type 0} (next : List F → Option (List F)) (laws : Successor next) where
  -- it is cyclic, with the steps in between as its period
  pub repeat_cyclic : (q g : List F) (i k : ℕ) → i < k → path next i q ≡ some g → path next k q ≡ some g → Cyclic next g (k - i)
  repeat_cyclic q g i k l e d =
      let p : path next (k - i) g ≡ some g = sym (path-sum next i (k - i) k q g (omega arith) e) ∙ d in
      subst (λ (x : List F). Cyclic next x (k - i)) (append-nil g) (strong_cyclic next laws g [] (k - i) (omega arith, [], p ∙ ap some (sym (append-nil g))))

  -- so the path through it has no end
  pub repeat_endless : (q g : List F) (i k : ℕ) → i < k → path next i q ≡ some g → path next k q ≡ some g → (n : ℕ) → Goes next n q
  repeat_endless q g i k l e d = endless next laws i q g (k - i) e (repeat_cyclic q g i k l e d)
