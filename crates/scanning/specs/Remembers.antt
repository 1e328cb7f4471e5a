-- One record more is remembered, as long as it keeps to what is.
use Rattle.std.specs.Prelude.{◌≡◌, Bool, true, List, ℕ}
use Rattle.format.specs.declared.Record.{Record}
use Rattle.format.specs.Arities.{meets, keeps, recalled}

pub record Remembers (table table' : List ℕ) (item : Record) (r : Bool) : Type 0 where
  pub answer : r ≡ keeps (recalled table) item
  pub remembered : r ≡ true → recalled table' ≡ meets (recalled table) item
