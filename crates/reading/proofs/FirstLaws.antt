-- There is one place of an unexpected byte at most.
use Rattle.std.specs.Prelude.{ℕ, suc, ◌+◌, ◌-◌, ◌≤◌, ◌<◌, ◌≡◌, List, ◌++◌, length, take, drop}
use Rattle.std.proofs.Common.{sym as inv, ap, ◌∙◌, append_assoc, arith, take-add, take_all}
use Rattle.std.proofs.Math.Decide.{dec_lt}
use Rattle.reading.proofs.Viable.{Viable}
use Rattle.reading.proofs.Unexpected.{Unexpected, too_early, no_further}

-- what begins a beginning of a text begins a text
pub viable-front : (x y : List ℕ) → Viable (x ++ y) → Viable x
viable-front x y v = record { rest = y ++ v.rest; rules = v.rules; writes = rw (append_assoc x y v.rest) at v.writes }

pub viable-take : (text : List ℕ) (i j : ℕ) → i ≤ j → Viable (take j text) → Viable (take i text)
viable-take text i j h v =
    viable-front (take i text) (take (j - i) (drop i text)) (rw (ap (λ (k : ℕ). take k text) (let q : j ≡ i + (j - i) = omega arith in q) ∙ take-add i (j - i) text) at v)

pub viable-whole : (text : List ℕ) (i : ℕ) → i ≤ length text → Viable text → Viable (take i text)
viable-whole text i h v = viable-take text i (length text) h (rw (take_all (length text) text (omega arith)) v)

not-before : (text : List ℕ) (i j : ℕ) → i < j → Viable (take j text) → (Viable (take (suc i) text) → ⊥) → ⊥
not-before text i j h v d = d (viable-take text (suc i) j h v)

pub unexpected-one : {text : List ℕ} (i j : ℕ) → Unexpected text i → Unexpected text j → i ≡ j
unexpected-one i j (too_early p v d) (too_early q w e) = p ∙ inv q
unexpected-one {text} i j (too_early p v d) (no_further l w e) = absurd (e (viable-whole text (suc j) l v))
unexpected-one {text} i j (no_further l v d) (too_early q w e) = absurd (d (viable-whole text (suc i) l w))
unexpected-one {text} i j (no_further l v d) (no_further k w e) =
    elim (dec_lt i j) [
      | yes h ↦ absurd (not-before text i j h w d)
      | no h ↦ elim (dec_lt j i) [ yes g ↦ absurd (not-before text j i g v e) | no g ↦ omega arith ]
    ]
