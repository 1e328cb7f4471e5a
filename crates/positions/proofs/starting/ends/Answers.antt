use Prim.Native.Nat.{ℕ, ◌+◌, ◌-◌, ◌<◌, ◌≤◌}
use native.Mathlib.Omega.{arith}
use native.Mathlib.Decide.{ℕ_discrete}
use mathlib.Core.Path.{◌≡◌, ap, ◌∙◌}
use mathlib.Core.List.{List}
use lib.ListN.{length, get_or, set}
use Rattle.words.specs.Word.{arity_of}
use Rattle.words.specs.Columns.{column-length, Put, same, after, END}
use Rattle.positions.specs.Words.{walk_of, Whole, Ended}
use Rattle.positions.specs.Tables.{ends}
use Rattle.positions.proofs.Rows.{ended-other, ended_here, some-term, args_row, walk_inside, walk-within}
use borrow.Author.Rules.{rules}
use Rattle.positions.proofs.starting.ends.Goals as goal

module _ (l e : List ℕ) (p : ℕ) (t : Whole l) (h : p < length l) (le : length e ≡ length l) (ok : (q : ℕ) → p < q → q < length l → Ended l e q) where
  inside : (i : ℕ) → i < arity_of (get_or l p 0) → walk_of e i (p + 1) < length l
  inside i x =
      let s = some-term t.1 p h in
      walk_inside l e p ok (arity_of (get_or l p 0)) s.0 (p + 1) i (omega arith) (args_row l s.0 p s.1) x

  within : walk_of e (arity_of (get_or l p 0)) (p + 1) ≤ length l
  within =
      let s = some-term t.1 p h in
      walk-within l e p ok (arity_of (get_or l p 0)) s.0 (p + 1) (omega arith) (omega arith) (args_row l s.0 p s.1)

  again : (v : ℕ) → v ≡ walk_of e (arity_of (get_or l p 0)) (p + 1) → (q : ℕ) → p ≤ q → q < length l → Ended l (set e p v) q
  again v x q i j = elim (ℕ_discrete p q) [
    | yes y ↦ rw (← y) (ended_here l e p ok t.1 v h le x)
    | no n ↦ ended-other l e p ok t.1 v q (omega arith) j
  ]

-- the same of a column, with what walk answers
module _ (w rows : List ℕ) (p k r : ℕ) (t : Whole w) (h : p < length w) (ok : (q : ℕ) → p < q → q < length w → Ended w (ends w rows) q)
    (ek : k ≡ arity_of (get_or w p 0)) (er : r ≡ walk_of (ends w rows) k (p + 1)) where
  told : r ≡ walk_of (ends w rows) (arity_of (get_or w p 0)) (p + 1)
  told = er ∙ ap (λ k. walk_of (ends w rows) k (p + 1)) ek

  low : r ≤ length w
  low = rw told (within w (ends w rows) p t h (column-length END (length w) rows) ok)

  again-in : (z : List ℕ) → Put END p r rows z → (q : ℕ) → p ≤ q → q < length w → Ended w (ends w z) q
  again-in z s = rw (s.here (length w)) (again w (ends w rows) p t h (column-length END (length w) rows) ok r told)

pub loop-p-init : goal.loop-p-init
loop-p-init c = (search rules, search rules, (λ q h i. absurd (omega arith)), same)

pub walk-e-requires : goal.walk-e-requires
walk-e-requires c = (search rules, λ i x. inside c.args.words.now (ends c.args.words.now c.loop-p.rows) (c.loop-p.p - 1) c.requires.1 (omega arith) (column-length END _ _) (λ q y. c.loop-p.invariant.2 q (omega arith)) i (omega (arith, x, c.arity-k.ensures.0 ∙ ap arity_of c.word.ensures)))

pub put-requires : goal.put-requires
put-requires c = (search rules, omega arith, omega (arith, c.requires.0, low c.args.words.now c.loop-p.rows (c.loop-p.p - 1) _ _ c.requires.1 (omega arith) (λ q y. c.loop-p.invariant.2 q (omega arith)) (c.arity-k.ensures.0 ∙ ap arity_of c.word.ensures) c.walk-e.ensures))

pub loop-p-preserved : goal.loop-p-preserved
loop-p-preserved c = (search rules, search rules, again-in c.args.words.now c.loop-p.rows (c.loop-p.p - 1) _ _ c.requires.1 (omega arith) (λ q y. c.loop-p.invariant.2 q (omega arith)) (c.arity-k.ensures.0 ∙ ap arity_of c.word.ensures) c.walk-e.ensures _ c.put.ensures, after c.loop-p.invariant.3 c.put.ensures.only)

pub returns : goal.returns
returns c = ((λ q h. c.loop-p.invariant.2 q (omega arith) h), c.loop-p.invariant.3)
