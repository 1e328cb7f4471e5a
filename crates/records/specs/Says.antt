-- What a check answers with a table of n entries: what it has to, or nothing where a predicate's number has no entry, as no number has that is below 65,536.
use Rattle.std.specs.Prelude.{ℕ, ◌≤◌, ◌≡◌, Option, Some, IfSome}
use Rattle.format.specs.declared.Check.{Check}

pub record Says (right : Check) (n : ℕ) (r : Option Check) : Type 0 where
  pub told : IfSome r (λ (c : Check). c ≡ right)
  pub wide : 65536 ≤ n → r ≡ Some right
