-- The lists built, one clause after another.
use Prim.Native.Nat.{ℕ, suc, ◌+◌, ◌*◌, ◌≤◌, ◌<◌}
use native.Mathlib.Omega.{arith}
use mathlib.Core.Path.{◌≡◌, ap, ◌∙◌}
use mathlib.Core.List.{List}
use lib.ListN.{length, get_or, set, length-set}
use lib.Seq.{get_or-set_same, get_or-set_other}
use Rattle.words.specs.Linked.{no-lists, one_more}
use Rattle.words.specs.Lists.{Built}

pub nothing-built : {n : ℕ} {keys : ℕ → ℕ} {shelf z : List ℕ} → ((h : ℕ) → h < 256 → get_or z h 0 ≡ n) → ((x : ℕ) → 256 ≤ x → get_or z x 0 ≡ get_or shelf x 0) → Built n n keys shelf z
nothing-built f g = record { linked = no-lists f; kept = λ x a _. g x a }

module _ {n : ℕ} {keys : ℕ → ℕ} {shelf z : List ℕ} (i h : ℕ) (b : Built n (suc i) keys shelf z) (l : i < n) (is : h ≡ keys i) (small : h < 256) (room : 4 * i + 259 < length z) where
  abbrev w : List ℕ
  w = set z (4 * i + 259) (get_or z h 0)

  abbrev y : List ℕ
  y = set w h i

  beyond : (x : ℕ) → 256 ≤ x → get_or y x 0 ≡ get_or w x 0
  beyond x a = get_or-set_other w h x i 0 (λ e. omega arith)

  other : (x : ℕ) → (x ≡ 4 * i + 259 → ⊥) → get_or w x 0 ≡ get_or z x 0
  other x d = get_or-set_other z (4 * i + 259) x (get_or z h 0) 0 d

  pub built-more : Built n i keys shelf (set (set z (4 * i + 259) (get_or z h 0)) h i)
  built-more = record {
    linked = one_more b.linked l
        (rw (← is) (get_or-set_same w h i 0 (simp length-set (omega arith))))
        (λ k c d. get_or-set_other w h k i 0 (λ e. d (e ∙ is)) ∙ other k (λ e. omega arith))
        (beyond (4 * i + 259) (omega arith) ∙ get_or-set_same z (4 * i + 259) (get_or z h 0) 0 room ∙ ap (λ k. get_or z k 0) is)
        (λ j d. beyond (4 * j + 259) (omega arith) ∙ other (4 * j + 259) (λ e. d (omega arith)))
        (omega (arith, is));
    kept = λ x a d. beyond x a ∙ other x (d i) ∙ b.kept x a d;
  }
