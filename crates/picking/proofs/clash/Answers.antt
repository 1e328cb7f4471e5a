use Prim.Native.Nat.{ℕ}
use native.Mathlib.Omega.{arith}
use mathlib.Core.Path.{◌≡◌}
use Rattle.picking.proofs.clash.Goals as goal

pub returns-then-u-v : goal.returns-then-u-v
returns-then-u-v c = λ z. absurd (let y : ◌≡◌ {A = ℕ} 0 1 = cc in omega arith)

pub returns-then-left-eq1 : goal.returns-then-left-eq1
returns-then-left-eq1 c = λ z. absurd (let y : ◌≡◌ {A = ℕ} 0 1 = cc in omega arith)

pub returns-then-right-eq1 : goal.returns-then-right-eq1
returns-then-right-eq1 c = λ z. absurd (let y : ◌≡◌ {A = ℕ} 0 1 = cc in omega arith)

pub returns : goal.returns
returns c = λ z. (c.if-left-eq1.false, c.if-right-eq1.false, c.if-u-v.false)
