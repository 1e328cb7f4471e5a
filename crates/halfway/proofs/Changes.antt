-- What each piece changes.
use Prim.Native.Nat.{ℕ, ◌+◌}
use mathlib.Core.Path.{◌≡◌, refl, sym as inv, ap, ap₂, ◌∙◌}
use mathlib.Core.Bool.{Bool, true, false}
use mathlib.Core.List.{List}
use lib.Dec.{ltb}
use borrow.Author.Tests.{eq-eqb, ne_eqb}
use Rattle.pieces.specs.declared.Found.{Found}
use Rattle.halfway.specs.declared.Mode.{Mode}
use Rattle.halfway.specs.declared.Stage.{Stage}
use Rattle.std.specs.Prelude.{Ok, Err}
use native.Mathlib.Omega.{arith}
use Rattle.pieces.specs.declared.Code.{Code}
use Rattle.pieces.specs.declared.Code.TheVariants.{Range, Size, QueryRange, QuerySize, Unexpected, LongName}
use Rattle.pieces.specs.declared.Refusal.{Refusal}
use Rattle.pieces.specs.Refusal.{number, refusal}
use Rattle.halfway.specs.Machine.{may_end}
use Rattle.halfway.specs.Stage.{is_wrong, is_half, after_found, next, size_at, Passes, numbered, stage_after, counts_after, turned, ends_at}

pub advanced : (counts : List ℕ) (c : Stage) (m : Mode) (found g : Found) (r : Stage) (left : List ℕ) → found ≡ g → r ≡ stage_after c m g → left ≡ counts_after counts c g →
    (r ≡ stage_after c m found) × (left ≡ counts_after counts c found)
advanced counts c m found g r left e p q = (p ∙ ap (stage_after c m) (inv e), q ∙ ap (counts_after counts c) (inv e))

number-some : (k : Code) → number k ≡ 0 → ⊥
number-some Range e = omega arith
number-some Size e = omega arith
number-some QueryRange e = omega arith
number-some QuerySize e = omega arith
number-some Unexpected e = omega arith
number-some LongName e = omega arith

-- The end of the text

pub end-fine : (c : Stage) (at : ℕ) (d b : Bool) → d ≡ ltb 0 c.depth → b ≡ may_end c.mode d → b ≡ true → Ok tt ≡ ends_at c at
end-fine c at d b p q e = let h : may_end c.mode (ltb 0 c.depth) ≡ true = ap (may_end c.mode) (inv p) ∙ inv q ∙ e in rw h refl

pub end-early : (c : Stage) (at : ℕ) (d b : Bool) {k : Refusal} → d ≡ ltb 0 c.depth → b ≡ may_end c.mode d → b ≡ false → k ≡ refusal Unexpected at → Err k ≡ ends_at c at
end-early c at d b p q e f = let h : may_end c.mode (ltb 0 c.depth) ≡ false = ap (may_end c.mode) (inv p) ∙ inv q ∙ e in rw (h, f) refl

-- A piece

module _ (counts : List ℕ) (c : Stage) (at : ℕ) (found : Found) where
  pub mode_is : (d : Bool) (m : Mode) → d ≡ ltb 0 c.depth → m ≡ after_found c.mode d found → m ≡ next c found
  mode_is d m p q = q ∙ ap (λ (z : Bool). after_found c.mode z found) p

  pub turn-wrong : (m : Mode) (b : Bool) → m ≡ next c found → b ≡ is_wrong m → b ≡ true → {k : Refusal} → k ≡ refusal Unexpected at → numbered (Err k) ≡ turned counts c at found
  turn-wrong m b p q e f = let h : is_wrong (next c found) ≡ true = ap is_wrong (inv p) ∙ inv q ∙ e in rw (h, f) refl

  pub right : (m : Mode) (b : Bool) → m ≡ next c found → b ≡ is_wrong m → b ≡ false → is_wrong (next c found) ≡ false
  right m b p q e = ap is_wrong (inv p) ∙ inv q ∙ e

  pub turn-half : (h : Bool) → is_wrong (next c found) ≡ false → h ≡ is_half found → h ≡ true → {k : Refusal} → k ≡ refusal Unexpected (at + 1) → numbered (Err k) ≡ turned counts c at found
  turn-half h w p e f = let q : is_half found ≡ true = inv p ∙ e in rw (w, q, f) refl

  pub turn-size : (h : Bool) (k : Refusal) → is_wrong (next c found) ≡ false → h ≡ is_half found → h ≡ false → Passes (size_at counts c at found) at (Err k) → numbered (Err k) ≡ turned counts c at found
  turn-size h k w q e p =
      let z = ne_eqb (size_at counts c at found) 0 (λ (x : size_at counts c at found ≡ 0). number-some k.code (p.0 ∙ x)) in
      let y : is_half found ≡ false = inv q ∙ e in
      rw (w, y, z) (ap₂ (λ (a b : ℕ). Err (a, b)) p.0 p.1)

  pub turn-goes : (h : Bool) (m : Mode) (r : Stage) → is_wrong (next c found) ≡ false → h ≡ is_half found → h ≡ false → size_at counts c at found ≡ 0 → m ≡ next c found →
      r ≡ stage_after c m found → numbered (Ok r) ≡ turned counts c at found
  turn-goes h m r w q e a p t =
      let k : is_half found ≡ false = inv q ∙ e in
      let y = eq-eqb (size_at counts c at found) 0 a in
      rw (w, k, y) (ap Ok (t ∙ ap (λ (x : Mode). stage_after c x found) p))
