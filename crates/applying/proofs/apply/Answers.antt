use borrow.Author.Rules.{rules}
use Prim.Native.Nat.{◌+◌}
use native.Mathlib.Omega.{arith}
use mathlib.Core.Path.{refl, ◌∙◌}
use lib.ListN.{length}
use Rattle.picking.proofs.Appends.{row_fits}
use Rattle.applying.proofs.Lending.{solved_still}
use Rattle.applying.proofs.Nexts.{first-within, goal-within, goal-small, row_small, head-within, clause-small, places, answer-places, goal_fit, all_fit, solved-here}
use Rattle.applying.proofs.Applies.{few-written, ends-full, ends-many, ends-over, ready, ends-done}
use Rattle.applying.proofs.apply.Goals as goal

pub build-all-requires : goal.build-all-requires
build-all-requires c = let s = c.requires.0.4 in (omega (arith, first-within _ _ _ _ _ _ _ s, goal-within _ _ _ _ _ _ _ s), row_small _ _ _ _ _ _ _ s, head-within _ _ _ _ _ _ _ s, clause-small _ _ _ _ _ _ _ s, λ x l. (row_fits s.row_in x l).valid, λ x l. (s.clause_in.fit x l).valid)

pub overflow_add-p : goal.overflow_add-p
overflow_add-p c = let s = c.requires.0.4 in record { fits = omega (arith, first-within _ _ _ _ _ _ _ s, goal-small _ _ _ _ _ _ _ s, head-within _ _ _ _ _ _ _ s, clause-small _ _ _ _ _ _ _ s) }

pub overflow_add-behind : goal.overflow_add-behind
overflow_add-behind c = let s = c.requires.0.4 in record { fits = omega (arith, goal-small _ _ _ _ _ _ _ s, clause-small _ _ _ _ _ _ _ s) }

pub instance-goal-requires : goal.instance-goal-requires
instance-goal-requires c = let q = places _ _ _ _ _ _ _ c.requires.0.4 _ _ (search rules) c.requires.1 _ _ (search rules) c.build-all.ensures (c.args.cut.goal + length c.args.clause.now) refl in record { cuts = (q.0, q.1, q.2, omega arith); fits = (goal_fit _ _ _ _ _ _ _ c.requires.0.4 _ _ (search rules) c.requires.1 _ _ (search rules) c.build-all.ensures (c.args.cut.goal + length c.args.clause.now) refl, solved-here _ _ _ _ _ _ _ c.requires.0.4 _ _ (search rules) c.requires.1 _ _ (search rules) c.build-all.ensures) }

pub returns-then-goal-eq-FULL : goal.returns-then-goal-eq-FULL
returns-then-goal-eq-FULL c = λ f g a k s. ends-full _ _ _ _ _ (search rules) c.requires.1 _ _ (search rules) c.build-all.ensures (c.args.cut.goal + length c.args.clause.now) refl _ _ _ (search rules) (search rules) c.instance-goal.ensures.written f g a k s _ _ c.too_big.ensures c.if-goal-eq-FULL.true

pub returns-then-cut-gt512 : goal.returns-then-cut-gt512
returns-then-cut-gt512 c = λ f g a k s. ends-many _ _ _ _ _ (search rules) c.requires.1 _ _ (search rules) c.build-all.ensures (c.args.cut.goal + length c.args.clause.now) refl _ _ _ (search rules) (search rules) c.instance-goal.ensures.written f g a k s _ _ c.too_big-then-cut-gt512.ensures c.if-cut-gt512.true

pub instance-answer-requires : goal.instance-answer-requires
instance-answer-requires c = let q = answer-places _ _ _ _ _ _ _ c.requires.0.4 _ _ (search rules) c.requires.1 _ _ (search rules) c.build-all.ensures (c.args.cut.goal + length c.args.clause.now) refl in record { cuts = (q.0, q.1, q.2, few-written _ _ _ _ _ (search rules) c.requires.1 _ _ (search rules) c.build-all.ensures (c.args.cut.goal + length c.args.clause.now) refl _ _ _ (search rules) (search rules) c.instance-goal.ensures.written _ _ _ _ c.requires.0.4 c.if-goal-eq-FULL.false); fits = (all_fit _ _ _ _ _ _ _ c.requires.0.4 _ _ (search rules) c.requires.1 _ _ (search rules) c.build-all.ensures, solved_still _ _ _ c.instance-goal.ensures.kept (solved-here _ _ _ _ _ _ _ c.requires.0.4 _ _ (search rules) c.requires.1 _ _ (search rules) c.build-all.ensures)) }

pub returns-then-answer-eq-FULL : goal.returns-then-answer-eq-FULL
returns-then-answer-eq-FULL c = λ f g a k s. ends-over _ _ _ _ _ (search rules) c.requires.1 _ _ (search rules) c.build-all.ensures (c.args.cut.goal + length c.args.clause.now) refl _ _ _ (search rules) (search rules) c.instance-goal.ensures.written f g a k s c.if-goal-eq-FULL.false c.if-cut-gt512.false _ _ _ (search rules) c.instance-goal.ensures.kept c.instance-answer.ensures.written _ _ c.both.ensures c.if-answer-eq-FULL.true

pub overflow_add-goal : goal.overflow_add-goal
overflow_add-goal c = let q = ready _ _ _ _ _ (search rules) c.requires.1 _ _ (search rules) c.build-all.ensures (c.args.cut.goal + length c.args.clause.now) refl _ _ _ (search rules) (search rules) c.instance-goal.ensures.written _ _ _ _ c.requires.0.4 c.if-goal-eq-FULL.false c.if-cut-gt512.false _ _ _ (search rules) c.instance-goal.ensures.kept c.instance-answer.ensures.written c.if-answer-eq-FULL.false in record { fits = omega (arith, q.1) }

pub renumber-requires : goal.renumber-requires
renumber-requires c = let q = ready _ _ _ _ _ (search rules) c.requires.1 _ _ (search rules) c.build-all.ensures (c.args.cut.goal + length c.args.clause.now) refl _ _ _ (search rules) (search rules) c.instance-goal.ensures.written _ _ _ _ c.requires.0.4 c.if-goal-eq-FULL.false c.if-cut-gt512.false _ _ _ (search rules) c.instance-goal.ensures.kept c.instance-answer.ensures.written c.if-answer-eq-FULL.false in (q.0, q.1, q.2)

pub returns : goal.returns
returns c = λ f g a k s. ends-done _ _ _ _ _ (search rules) c.requires.1 _ _ (search rules) c.build-all.ensures (c.args.cut.goal + length c.args.clause.now) refl _ _ _ (search rules) (search rules) c.instance-goal.ensures.written f g a k s c.if-goal-eq-FULL.false c.if-cut-gt512.false _ _ _ (search rules) c.instance-goal.ensures.kept c.instance-answer.ensures.written c.if-answer-eq-FULL.false _ (search rules) c.renumber.ensures _ c.both-2.ensures
