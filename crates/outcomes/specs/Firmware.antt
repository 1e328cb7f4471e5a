-- The one number that C gets.
use Rattle.std.specs.Prelude.{ℕ, ◌+◌, ◌*◌, ◌/◌, ◌%◌, ◌^◌, ◌<◌, ◌≡◌, Bool, true, false, ltb}
use Rattle.std.proofs.Common.{arith}
use Rattle.terms.specs.When.{◌⇒◌∣◌}
use Rattle.outcomes.specs.declared.Answer.{Answer}

-- "the place for codes 1 to 19 and the bytes written otherwise"
abbrev pub field : Answer → ℕ
field a = ltb a.code 20 ⇒ a.place ∣ a.bytes

-- "outcome in the lowest eight bits; the next 24 bits hold the place .. ; the top 32 hold the steps"
abbrev pub number : Answer → ℕ
number a = a.code + 256 * field a + 2 ^ 32 * a.steps

-- there is room for both in 24 bits
pub record Narrow (a : Answer) : Type 0 where
  pub place : a.place < 2 ^ 24
  pub bytes : a.bytes < 2 ^ 24

-- the number has no other parts
module _ (code field steps : ℕ) (c : code < 256) (f : field < 2 ^ 24) where
  abbrev whole : ℕ
  whole = code + 256 * field + 2 ^ 32 * steps

  pub code-back : whole % 256 ≡ code
  code-back = omega arith

  pub field_back : whole / 256 % 2 ^ 24 ≡ field
  field_back = omega arith

  pub steps_back : whole / 2 ^ 32 ≡ steps
  steps_back = omega arith

pub field-narrow : (a : Answer) → Narrow a → field a < 2 ^ 24
field-narrow a n = go (ltb a.code 20)
  where
    go : (b : Bool) → (b ⇒ a.place ∣ a.bytes) < 2 ^ 24
    go true = n.place
    go false = n.bytes
