use Prim.Native.Nat.{ℕ, ◌+◌, ◌<◌}
use native.Mathlib.Omega.{arith}
use mathlib.Core.Path.{◌≡◌, refl, sym, subst, ◌∙◌}
use mathlib.Core.List.{List, []}
use lib.ListN.{length, get_or}
use Rattle.words.specs.Word.{arity_of}
use Rattle.words.specs.Columns.{column-length, same, after, END, LEFT, RIGHT}
use Rattle.positions.specs.Words.{Ends}
use Rattle.positions.specs.Steps.{state, Args, Step, Fails}
use Rattle.positions.specs.Tables.{ends, ups, picks, state_in}
use Rattle.joining.proofs.Progress.{Progress, waiting, begun, next_in, turned, refuted, ended, never}
use borrow.Author.Rules.{rules}
use Rattle.joining.proofs.close.Goals as goal

turned-in : (w rows z e u p : List ℕ) (x y head tail t a b : ℕ) → a ≡ get_or (state_in w rows tail).left head 0 → b ≡ get_or (state_in w rows tail).right head 0 → head < tail
    → Progress w e u p x y head (state_in w rows tail) → e ≡ ends w rows → Step w (state_in w rows tail) (λ f. Args f (ends w rows) (arity_of (get_or w a 0)) a b) (state_in w z t) → Progress w e u p x y (head + 1) (state_in w z t)
turned-in w rows z e u p x y head tail t a b ea eb l g ee s =
    turned w e u p x y head (state_in w rows tail) (state_in w z t) a b ea eb l g (subst (λ e. Step w (state_in w rows tail) (λ f. Args f e (arity_of (get_or w a 0)) a b) (state_in w z t)) (sym ee) s)

pub join-requires : goal.join-requires
join-requires c = (waiting _ _ _ _ _ _ c.requires.0 (column-length LEFT _ _) (column-length RIGHT _ _), c.requires.1, c.requires.2)

pub returns-in_default : goal.returns-in_default
returns-in_default c = (never _ _ _ _ _ _ _ (λ f good g h. (rw c.in_default.is at c.join.ensures.0.known) f good.apart g h), c.join.ensures.1)

pub loop-head-init : goal.loop-head-init
loop-head-init c = (omega arith, (λ e u p h q. q), search rules, same)

pub cell-a-requires : goal.cell-a-requires
cell-a-requires c = let r = ((let here : let a = c.args in
    Progress a.words.now (ends a.words.now a.rows.now) (ups a.words.now a.rows.now) (picks a.words.now a.rows.now) a.x a.y c.loop-head.head (state_in a.words.now c.loop-head.rows c.loop-head.tail) = c.loop-head.invariant.1 _ _ _ (sym (c.join.ensures.1.kept END _ refl)) (begun _ _ _ _ _ _ _ _ _ c.requires.0 (rw c.in-Some.is at c.join.ensures.0.known)) in here)).ready in (search rules, omega (arith, r.grouped.small, r.count, c.loop-head-test.true))

pub cell-b-requires : goal.cell-b-requires
cell-b-requires c = let r = ((let here : let a = c.args in
    Progress a.words.now (ends a.words.now a.rows.now) (ups a.words.now a.rows.now) (picks a.words.now a.rows.now) a.x a.y c.loop-head.head (state_in a.words.now c.loop-head.rows c.loop-head.tail) = c.loop-head.invariant.1 _ _ _ (sym (c.join.ensures.1.kept END _ refl)) (begun _ _ _ _ _ _ _ _ _ c.requires.0 (rw c.in-Some.is at c.join.ensures.0.known)) in here)).ready in (search rules, omega (arith, r.grouped.small, r.count, c.loop-head-test.true))

pub spread-requires : goal.spread-requires
spread-requires c = let p = (let here : let a = c.args in
    Progress a.words.now (ends a.words.now a.rows.now) (ups a.words.now a.rows.now) (picks a.words.now a.rows.now) a.x a.y c.loop-head.head (state_in a.words.now c.loop-head.rows c.loop-head.tail) = c.loop-head.invariant.1 _ _ _ (sym (c.join.ensures.1.kept END _ refl)) (begun _ _ _ _ _ _ _ _ _ c.requires.0 (rw c.in-Some.is at c.join.ensures.0.known)) in here) in let h : c.loop-head.head < length c.args.words.now = omega (arith, p.ready.count, c.loop-head-test.true) in let n = next_in _ _ _ _ _ _ _ _ (state [] [] [] [] 0) _ _ (c.cell-a.ensures.0 _ h) (c.cell-b.ensures.0 _ h) c.loop-head-test.true p in (p.ready, subst (Ends c.args.words.now) ((let here : let a = c.args in ends a.words.now a.rows.now ≡ ends a.words.now c.loop-head.rows = sym ((after c.join.ensures.1 c.loop-head.invariant.3).kept END _ refl) in here)) c.requires.0.ends, n.0, n.1, n.2)

pub returns-in_default-spread : goal.returns-in_default-spread
returns-in_default-spread c = let p = (let here : let a = c.args in
    Progress a.words.now (ends a.words.now a.rows.now) (ups a.words.now a.rows.now) (picks a.words.now a.rows.now) a.x a.y c.loop-head.head (state_in a.words.now c.loop-head.rows c.loop-head.tail) = c.loop-head.invariant.1 _ _ _ (sym (c.join.ensures.1.kept END _ refl)) (begun _ _ _ _ _ _ _ _ _ c.requires.0 (rw c.in-Some.is at c.join.ensures.0.known)) in here) in let h : c.loop-head.head < length c.args.words.now = omega (arith, p.ready.count, c.loop-head-test.true) in (never _ _ _ _ _ _ _ (refuted _ _ _ _ _ _ _ _ (state [] [] [] [] 0) _ _ (c.cell-a.ensures.0 _ h) (c.cell-b.ensures.0 _ h) c.loop-head-test.true p (subst (λ e. Fails c.args.words.now (state_in c.args.words.now c.loop-head.rows c.loop-head.tail) (λ f. Args f e (arity_of (get_or c.args.words.now c.cell-a.result 0)) c.cell-a.result c.cell-b.result)) (sym ((let here : let a = c.args in ends a.words.now a.rows.now ≡ ends a.words.now c.loop-head.rows = sym ((after c.join.ensures.1 c.loop-head.invariant.3).kept END _ refl) in here))) (rw c.in_default-spread.is at c.spread.ensures.0.known))), after c.join.ensures.1 (after c.loop-head.invariant.3 c.spread.ensures.1))

pub overflow_add-head : goal.overflow_add-head
overflow_add-head c = let r = ((let here : let a = c.args in
    Progress a.words.now (ends a.words.now a.rows.now) (ups a.words.now a.rows.now) (picks a.words.now a.rows.now) a.x a.y c.loop-head.head (state_in a.words.now c.loop-head.rows c.loop-head.tail) = c.loop-head.invariant.1 _ _ _ (sym (c.join.ensures.1.kept END _ refl)) (begun _ _ _ _ _ _ _ _ _ c.requires.0 (rw c.in-Some.is at c.join.ensures.0.known)) in here)).ready in omega (arith, r.grouped.small, r.count, c.loop-head-test.true)

pub loop-head-smaller : goal.loop-head-smaller
loop-head-smaller c = let r = ((let here : let a = c.args in
    Progress a.words.now (ends a.words.now a.rows.now) (ups a.words.now a.rows.now) (picks a.words.now a.rows.now) a.x a.y c.loop-head.head (state_in a.words.now c.loop-head.rows c.loop-head.tail) = c.loop-head.invariant.1 _ _ _ (sym (c.join.ensures.1.kept END _ refl)) (begun _ _ _ _ _ _ _ _ _ c.requires.0 (rw c.in-Some.is at c.join.ensures.0.known)) in here)).ready in omega (arith, r.grouped.small, r.count, c.loop-head-test.true)

pub loop-head-preserved : goal.loop-head-preserved
loop-head-preserved c = let r = ((let here : let a = c.args in
    Progress a.words.now (ends a.words.now a.rows.now) (ups a.words.now a.rows.now) (picks a.words.now a.rows.now) a.x a.y c.loop-head.head (state_in a.words.now c.loop-head.rows c.loop-head.tail) = c.loop-head.invariant.1 _ _ _ (sym (c.join.ensures.1.kept END _ refl)) (begun _ _ _ _ _ _ _ _ _ c.requires.0 (rw c.in-Some.is at c.join.ensures.0.known)) in here)).ready in let h : c.loop-head.head < length c.args.words.now = omega (arith, r.count, c.loop-head-test.true) in let t = (rw c.in-Some-spread.is at c.spread.ensures.0.known) in (omega (arith, t.grows, c.loop-head-test.true), (λ e u p q g. turned-in _ _ _ _ _ _ _ _ _ _ _ _ _ (c.cell-a.ensures.0 _ h) (c.cell-b.ensures.0 _ h) c.loop-head-test.true (c.loop-head.invariant.1 e u p q g) (q ∙ sym (c.loop-head.invariant.3.kept END (length c.args.words.now) refl)) t), search rules, after c.loop-head.invariant.3 c.spread.ensures.1)

pub returns : goal.returns
returns c = (
  ended _ _ _ _ _ _ c.loop-head.head _ _ _ _ c.loop-head.tail c.requires.0 c.loop-head-test.false ((let here : let a = c.args in
      Progress a.words.now (ends a.words.now a.rows.now) (ups a.words.now a.rows.now) (picks a.words.now a.rows.now) a.x a.y c.loop-head.head (state_in a.words.now c.loop-head.rows c.loop-head.tail) = c.loop-head.invariant.1 _ _ _ (sym (c.join.ensures.1.kept END _ refl)) (begun _ _ _ _ _ _ _ _ _ c.requires.0 (rw c.in-Some.is at c.join.ensures.0.known)) in here)),
  after c.join.ensures.1 c.loop-head.invariant.3,
)
