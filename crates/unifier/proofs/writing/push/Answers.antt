use Prim.Native.Nat.{ℕ, ◌+◌, ◌-◌, ◌<◌, ◌≤◌}
use native.Mathlib.Omega.{arith}
use mathlib.Core.Path.{◌≡◌, refl, ap, ◌∙◌}
use mathlib.Core.List.{List}
use lib.ListN.{get_or, set}
use lib.Seq.{get_or-set_same, get_or-set_other}
use borrow.Author.Count.{below_more}
use Rattle.words.specs.Columns.{column, column-length, Put, same, after, ROWS, END, STACK}
use Rattle.positions.specs.Words.{child}
use Rattle.positions.specs.Tables.{stacks}
use Rattle.positions.specs.TrialLaws.{next-argument}
use borrow.Author.Rules.{rules}
use Rattle.unifier.proofs.writing.push.Goals as goal

module _ (e rows z : List ℕ) (x base k c i : ℕ) (l : i < k) (room : base + k ≤ 4352) (ec : c ≡ child e x i) (s : Put STACK (base + (k - 1 - i)) c rows z) where
  more : ((j : ℕ) → j < i → get_or (stacks rows) (base + (k - 1 - j)) 0 ≡ child e x j) → (j : ℕ) → j < i + 1 → get_or (stacks z) (base + (k - 1 - j)) 0 ≡ child e x j
  more h = rw (s.here 4352) (below_more (λ j. get_or (set (stacks rows) (base + (k - 1 - i)) c) (base + (k - 1 - j)) 0 ≡ child e x j) i
      (λ j q. get_or-set_other (stacks rows) (base + (k - 1 - i)) (base + (k - 1 - j)) c 0 (λ z. omega (arith, z, q, l)) ∙ h j q)
      (get_or-set_same (stacks rows) (base + (k - 1 - i)) c 0 (omega (arith, column-length STACK ROWS rows)) ∙ ec))

  kept : (st₀ : List ℕ) → ((j : ℕ) → j < base → get_or (stacks rows) j 0 ≡ get_or st₀ j 0) → (j : ℕ) → j < base → get_or (stacks z) j 0 ≡ get_or st₀ j 0
  kept st₀ h j q = rw (s.here 4352) (get_or-set_other (stacks rows) (base + (k - 1 - i)) j c 0 (λ z. omega (arith, z, q)) ∙ h j q)

pub loop-i-init : goal.loop-i-init
loop-i-init c = (search rules, search rules, search rules, (λ j h. absurd (omega arith)), (λ j h. refl), same)

pub put-requires : goal.put-requires
put-requires c = (search rules, omega arith, omega (arith, c.loop-i.invariant.2, c.requires.3 c.loop-i.i c.loop-i-test.true))

pub cell-c-requires : goal.cell-c-requires
cell-c-requires c = (search rules, omega (arith, c.loop-i.invariant.2, c.requires.3 c.loop-i.i c.loop-i-test.true))

pub loop-i-preserved : goal.loop-i-preserved
loop-i-preserved c = let o = after c.loop-i.invariant.5 c.put.ensures.only in let h : c.loop-i.c < c.args.n = omega (arith, c.loop-i.invariant.2, c.requires.3 c.loop-i.i c.loop-i-test.true) in (search rules, search rules, next-argument (column END c.args.n c.args.rows.now) c.args.x c.loop-i.i _ _ c.loop-i.invariant.2 (c.cell-c.ensures.0 _ h ∙ ap (λ l. get_or l c.loop-i.c 0) (o.kept END _ refl)), more _ _ _ _ _ _ _ _ c.loop-i-test.true c.requires.0 c.loop-i.invariant.2 c.put.ensures c.loop-i.invariant.3, kept _ _ _ _ _ _ _ _ c.loop-i-test.true c.requires.0 c.loop-i.invariant.2 c.put.ensures (stacks c.args.rows.now) c.loop-i.invariant.4, o)

pub returns : goal.returns
returns c = (record { new = λ i h. c.loop-i.invariant.3 i (omega (arith, h, c.loop-i-test.false)); old = c.loop-i.invariant.4 }, c.loop-i.invariant.5)
