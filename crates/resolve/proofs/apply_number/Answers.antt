use Prim.Native.Nat.{suc}
use native.Mathlib.Omega.{arith}
use mathlib.Core.Path.{sym as inv, ◌∙◌}
use mathlib.Core.List.{[]}
use lib.ListN.{take}
use lib.Seq.{length-take-le}
use Rattle.words.specs.HeldLaws.{first-length, no_answer}
use Rattle.resolve.proofs.Advances.{formula-part, matched-front}
use Rattle.resolve.proofs.Cuts.{first-clauses, cut_shelf, alone-stuck, alone}
use Rattle.resolve.proofs.apply_number.Goals as goal

pub overflow_mul-cut : goal.overflow_mul-cut
overflow_mul-cut c = record { fits = omega (arith, c.requires.goal_in.0.2, c.requires.goal_in.0.1.held.few) }

pub overflow_add-cut : goal.overflow_add-cut
overflow_add-cut c = record { fits = omega (arith, c.requires.goal_in.0.2, c.requires.goal_in.0.1.held.few) }

pub extent-m-requires : goal.extent-m-requires
extent-m-requires c = (_, _, _, c.requires.goal_in.1.2)

pub slice_bounds-pick-end : goal.slice_bounds-pick-end
slice_bounds-pick-end c = let p = c.requires.goal_in.1.2 in omega (arith, first-length _ _ _ _ p _ (c.extent-m.ensures _ _ _ p))

pub slice_bounds-pick-end-2 : goal.slice_bounds-pick-end-2
slice_bounds-pick-end-2 c = inv (length-take-le _ _ (omega (arith, c.requires.goal_in.0.2, c.requires.goal_in.0.1.long)))

pub pick-requires : goal.pick-requires
pick-requires c = let p = c.requires.goal_in.1.2 in let b = c.requires.goal_in.0.1 in let l = c.requires.goal_in.0.2 in ((_, formula-part p _ (c.extent-m.ensures _ _ _ p)), (take (suc c.args.k) c.requires.goal_in.0.0, cut_shelf b c.args.k l, omega (arith, first-clauses b c.args.k l)))

pub returns-in_default : goal.returns-in_default
returns-in_default c = λ P f g b p l. alone-stuck b c.args.k l f g p _ (rw c.in_default.is at c.pick.ensures f (take (suc c.args.k) P) (formula-part p _ (c.extent-m.ensures f g _ p)) (cut_shelf b c.args.k l)) (omega (arith, first-clauses b c.args.k l))

pub slice_bounds-apply_clause-end : goal.slice_bounds-apply_clause-end
slice_bounds-apply_clause-end c = inv (length-take-le _ _ (omega (arith, c.requires.goal_in.0.2, c.requires.goal_in.0.1.long)))

pub apply_clause-requires : goal.apply_clause-requires
apply_clause-requires c = let f = c.requires.goal_in.1.0 in let p = c.requires.goal_in.1.2 in let b = c.requires.goal_in.0.1 in let l = c.requires.goal_in.0.2 in let e = c.extent-m.ensures _ _ _ p in let x = rw c.in-Some.is at c.pick.ensures f (take (suc c.args.k) c.requires.goal_in.0.0) (formula-part p _ e) (cut_shelf b c.args.k l) in record { book_on = (take (suc c.args.k) c.requires.goal_in.0.0, f, c.requires.goal_in.1.1, [], cut_shelf b c.args.k l, no_answer p, x.1, matched-front c.args.goal.now _ f e x.2) }

pub returns : goal.returns
returns c = λ P f g b p l. let x = rw c.in-Some.is at c.pick.ensures f (take (suc c.args.k) P) (formula-part p _ (c.extent-m.ensures f g _ p)) (cut_shelf b c.args.k l) in alone b c.args.k l f g p _ x.0 (omega (arith, x.1, first-clauses b c.args.k l)) _ c.apply_clause.result (c.apply_clause.ensures (take (suc c.args.k) P) f g [] (cut_shelf b c.args.k l) (no_answer p) x.1)
