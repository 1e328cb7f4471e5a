use Rattle.std.specs.List.{sum_by}
use mathlib.Core.Path.{◌≡◌, ◌∙◌}
use Prim.Native.Nat.{ℕ, ◌+◌}
use native.Mathlib.Omega.{arith}
use borrow.Author.Rules.{rules}
use Rattle.listing.proofs.Filled.{sizes-sum, sizes-few}
use Rattle.listing.proofs.measure.Goals as goal

pub returns : goal.returns
returns c =
    let h : c.sum.result ≡ sum_by (λ (n : ℕ). 4 + n) c.args.lens.now = search rules in
    let e = sizes-sum c.args.lens.now in
    (h ∙ e, omega (arith, h, e, sizes-few c.args.lens.now (λ k. omega (arith, c.type_inv.lens k))))
