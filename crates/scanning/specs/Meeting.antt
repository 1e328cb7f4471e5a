-- Records one by one, as long as they keep to the arities before them.
use Rattle.std.specs.Prelude.{ℕ, ◌≤◌, ◌≡◌, true, List, [], ◌∷◌, length, Option, None}
use Rattle.format.specs.declared.Record.{Record}
use Rattle.format.specs.Format.{encode}
use Rattle.format.specs.Reading.{in_range}
use Rattle.format.specs.Arities.{uses_of, recall, recalled}
use Rattle.readouts.specs.Clash.{arities_from}

abbrev pub AllRange : List Record → Type 0
AllRange [] = Unit {0}
AllRange (r ∷ rs) = (in_range r ≡ true) × AllRange rs

pub record MeetsAll (image : List ℕ) : Type 0 where
  pub records : List Record
  pub is : image ≡ encode records
  pub ranged : AllRange records
  pub short : length image ≤ 32768

-- so many formulas stand before the first that does not keep to the table; if there is none, the table remembers them too
pub record Met (image table table' : List ℕ) (r : Option ℕ) : Type 0 where
  pub counts : (rs : List Record) → image ≡ encode rs → AllRange rs → r ≡ arities_from (recalled table) 0 (uses_of rs)
  pub remembers : (rs : List Record) → image ≡ encode rs → AllRange rs → r ≡ None → recalled table' ≡ recall (recalled table) (uses_of rs)
  pub same : length table' ≡ length table
