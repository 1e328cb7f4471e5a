-- The one number that C gets of each of the two calls of a single step (document 02, C-16): as the run's, with the clause number in the place of the steps.
use Rattle.std.specs.Prelude.{ℕ, ◌+◌, ◌*◌, ◌^◌, ◌<◌, Bool, true, false, eqb, ltb}
use Rattle.terms.specs.When.{◌⇒◌∣◌}
use Rattle.outcomes.specs.declared.Picked.{Picked}
use Rattle.outcomes.specs.declared.Stepped.{Stepped}

-- the clause number; with 22 that of the clause that got furthest, and from 2^16 up the argument at which its head fails (document 02, C-19)
abbrev pub pick_top : Picked → ℕ
pick_top a = eqb a.code 22 ⇒ a.furthest + 2 ^ 16 * a.argument ∣ a.clause

-- the pick writes no bytes: the code in the lowest eight bits, the place in the next 24, the clause number in the top 32
abbrev pub pick_number : Picked → ℕ
pick_number a = a.code + 256 * a.place + 2 ^ 32 * pick_top a

-- there is room for them: 24 bits for the place, and 16 for each of the two figures
pub record PickNarrow (a : Picked) : Type 0 where
  pub place : a.place < 2 ^ 24
  pub furthest : a.furthest < 2 ^ 16
  pub argument : a.argument < 2 ^ 16

-- "the place for codes 1 to 19 and the bytes written otherwise"
abbrev pub apply_field : Stepped → ℕ
apply_field a = ltb a.code 20 ⇒ a.place ∣ a.bytes

abbrev pub apply_number : Stepped → ℕ
apply_number a = a.code + 256 * apply_field a + 2 ^ 32 * a.clause

-- there is room for both in 24 bits
pub record ApplyNarrow (a : Stepped) : Type 0 where
  pub place : a.place < 2 ^ 24
  pub bytes : a.bytes < 2 ^ 24

pub apply-field-narrow : (a : Stepped) → ApplyNarrow a → apply_field a < 2 ^ 24
apply-field-narrow a n = go (ltb a.code 20)
  where
    go : (b : Bool) → (b ⇒ a.place ∣ a.bytes) < 2 ^ 24
    go true = n.place
    go false = n.bytes
