-- How often the variables of one expression are in another: what a clause's body adds to its head.
use Rattle.std.specs.Prelude.{ℕ, ◌≤◌, ◌≡◌, eqb}
use Rattle.terms.specs.When.{◌⇒◌∣◌}
use Rattle.terms.specs.Node.{Expr}
use Rattle.bounds.specs.Places.{weigh, times}

-- the weights of variables that are not in a
abbrev pub away : Expr → (ℕ → ℕ) → ℕ → ℕ
away a w v = eqb (times v a) 0 ⇒ w v ∣ 0

-- how many places of b have variables that are not in a
abbrev pub fresh : Expr → Expr → ℕ
fresh a b = weigh (away a (λ v. 1)) b

-- no variable of a is more often in b
abbrev pub Thrifty : Expr → Expr → Type 0
Thrifty a b = (x : ℕ) → (times x a ≡ 0 → ⊥) → times x b ≤ times x a

-- each is as often in b
abbrev pub Kept : Expr → Expr → Type 0
Kept a b = (x : ℕ) → times x a ≤ times x b
