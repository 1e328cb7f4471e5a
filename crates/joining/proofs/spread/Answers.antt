use Rattle.std.proofs.Common.{Some}
use Prim.Native.Nat.{ℕ, ◌+◌, ◌<◌}
use native.Mathlib.Omega.{arith}
use mathlib.Core.Path.{◌≡◌, refl, sym, ap, ◌∙◌}
use mathlib.Core.List.{List, []}
use lib.ListN.{length, get_or}
use borrow.Author.Count.{below_more}
use Rattle.words.specs.Word.{arity_of}
use Rattle.words.specs.Columns.{same, after, END}
use Rattle.positions.specs.Words.{child, Ends}
use Rattle.positions.specs.Steps.{State, state, Args, Step, Fails, Outcome}
use Rattle.positions.specs.Tables.{ends}
use Rattle.joining.proofs.Stepping.{restated, followed, idle}
use Rattle.positions.specs.TrialLaws.{next-argument}
use borrow.Author.Rules.{rules}
use Rattle.joining.proofs.spread.Goals as goal

module _ (w e : List ℕ) (s m z : State) (x y c d i k : ℕ) (ec : c ≡ child e x i) (ed : d ≡ child e y i) (t : Step w s (λ f. Args f e i x y) m) where
  again : Step w m (λ f. f c ≡ f d) z → Step w s (λ f. Args f e (i + 1) x y) z
  again u = restated w s z (λ f. Args f e i x y × (f c ≡ f d)) (λ f. Args f e (i + 1) x y)
      (λ f g p. below_more (λ j. f (child e x j) ≡ f (child e y j)) i p.0 (ap f (sym ec) ∙ p.1 ∙ ap f ed))
      (λ f g p. ((λ j h. p j (omega arith)), ap f ec ∙ p i (omega arith) ∙ ap f (sym ed)))
      (followed w s m z (λ f. Args f e i x y) (λ f. f c ≡ f d) t u)

  fails : i < k → Fails w m (λ f. f c ≡ f d) → Fails w s (λ f. Args f e k x y)
  fails l h f a g p = h f a (t.sound f g (λ j q. p j (omega arith))) (ap f ec ∙ p i l ∙ ap f (sym ed))

module _ (w e : List ℕ) (x y i k c d : ℕ) (ends : Ends w e) (hx : x < length w) (hy : y < length w) (ew : get_or w x 0 ≡ get_or w y 0) (ek : k ≡ arity_of (get_or w x 0)) (l : i < k)
    (ec : c ≡ child e x i) (ed : d ≡ child e y i) where
  in_c : c < length w
  in_c = rw ec ((ends x hx).inside i (omega arith))

  in_d : d < length w
  in_d = rw ed ((ends y hy).inside i (omega (arith, ap arity_of ew)))

finish : (w e : List ℕ) (s : State) (z : ℕ → State) (n x y i k : ℕ) → i ≡ k → Step w s (λ f. Args f e i x y) (z n) → Outcome w s (λ f. Args f e k x y) z (Some n)
finish w e s z n x y i k q t = record { known = rw (← q) t }

pub loop-i-init : goal.loop-i-init
loop-i-init c = (search rules, c.arity-k.ensures.0 ∙ ap arity_of c.word.ensures, search rules, search rules, idle _ _ _ c.requires.0 (λ f g j h. absurd (omega arith)), search rules, same)

pub join-requires : goal.join-requires
join-requires c = (c.loop-i.invariant.4.ready, in_c _ _ _ _ _ _ _ _ c.requires.1 c.requires.2 c.requires.3 c.requires.4 c.loop-i.invariant.1 c.loop-i-test.true c.loop-i.invariant.2 c.loop-i.invariant.3, in_d _ _ _ _ _ _ _ _ c.requires.1 c.requires.2 c.requires.3 c.requires.4 c.loop-i.invariant.1 c.loop-i-test.true c.loop-i.invariant.2 c.loop-i.invariant.3)

pub returns-in_err-t : goal.returns-in_err-t
returns-in_err-t c = (record { known = rw c.from_residual.ensures (fails _ _ _ _ (state [] [] [] [] 0) _ _ _ _ _ _ c.loop-i.invariant.2 c.loop-i.invariant.3 c.loop-i.invariant.4 (omega (arith, c.loop-i.invariant.1, c.loop-i-test.true)) (rw c.in_err-t.was at c.join.ensures.0.known)) }, after c.loop-i.invariant.6 c.join.ensures.1)

pub cell-c-requires : goal.cell-c-requires
cell-c-requires c = (search rules, omega (arith, c.requires.0.grouped.small, in_c _ _ _ _ _ _ _ _ c.requires.1 c.requires.2 c.requires.3 c.requires.4 c.loop-i.invariant.1 c.loop-i-test.true c.loop-i.invariant.2 c.loop-i.invariant.3))

pub cell-d-requires : goal.cell-d-requires
cell-d-requires c = (search rules, omega (arith, c.requires.0.grouped.small, in_d _ _ _ _ _ _ _ _ c.requires.1 c.requires.2 c.requires.3 c.requires.4 c.loop-i.invariant.1 c.loop-i-test.true c.loop-i.invariant.2 c.loop-i.invariant.3))

pub loop-i-preserved : goal.loop-i-preserved
loop-i-preserved c = let o = after c.loop-i.invariant.6 c.join.ensures.1 in let w = c.args.words.now in let e = ends w c.args.rows.now in (search rules, c.loop-i.invariant.1, next-argument e c.args.x c.loop-i.i _ _ c.loop-i.invariant.2 (c.cell-c.ensures.0 _ (in_c _ _ _ _ _ _ _ _ c.requires.1 c.requires.2 c.requires.3 c.requires.4 c.loop-i.invariant.1 c.loop-i-test.true c.loop-i.invariant.2 c.loop-i.invariant.3) ∙ ap (λ l. get_or l c.loop-i.c 0) (o.kept END (length w) refl)), next-argument e c.args.y c.loop-i.i _ _ c.loop-i.invariant.3 (c.cell-d.ensures.0 _ (in_d _ _ _ _ _ _ _ _ c.requires.1 c.requires.2 c.requires.3 c.requires.4 c.loop-i.invariant.1 c.loop-i-test.true c.loop-i.invariant.2 c.loop-i.invariant.3) ∙ ap (λ l. get_or l c.loop-i.d 0) (o.kept END (length w) refl)), again _ _ _ _ _ _ _ _ _ _ 0 c.loop-i.invariant.2 c.loop-i.invariant.3 c.loop-i.invariant.4 (rw c.in_ok-t.was at c.join.ensures.0.known), search rules, o)

pub returns : goal.returns
returns c = (finish _ _ _ _ _ _ _ _ _ (omega (arith, c.loop-i.invariant.1)) c.loop-i.invariant.4, c.loop-i.invariant.6)
