use Rattle.treads.proofs.Dropping.{given-gone}
use native.Mathlib.Omega.{arith}
use mathlib.Core.Path.{refl, sym as inv, subst, ◌∙◌}
use lib.Seq.{length-take-le}
use Rattle.figures.specs.Figures.{Figured}
use Rattle.heapgoals.specs.HoldLaws.{fore-after}
use Rattle.attempts.specs.Trying.{Sought}
use Rattle.treads.specs.Stepping.{Went, Treads}
use Rattle.treads.proofs.Known.{none-if, some-if}
use Rattle.treads.proofs.Treading.{held_still, clause-few, end-inside, weighed-there, under_way, gone, figures-left, figures-lent, lent-long, figures-back}
use Rattle.treads.proofs.take_step.Goals as goal

pub returns-then-not-has_room : goal.returns-then-not-has_room
returns-then-not-has_room c = record { words = refl; figured = c.requires.words_len_bound.2; treads = λ P f g a o h. h }

pub first_fit-requires : goal.first_fit-requires
first_fit-requires c = let m = (c.has_room.ensures c.if-not-has_room.false) in record { words_len_bound = (c.requires.words_len_bound.0, m.1, m.0, length-take-le 387 c.args.stack.now (omega (arith, c.requires.words_len_bound.1))); holds = ((_, c.requires.book_on.4), (_, _, _, c.requires.book_on.5)) }

pub drop_first-requires : goal.drop_first-requires
drop_first-requires c = ((_, _, _, _, held_still c.requires.book_on.5 c.first_fit.ensures.words c.first_fit.auto.words c.first_fit.ensures.levels refl), (c.has_room.ensures c.if-not-has_room.false).2)

pub clause_at-c-requires : goal.clause_at-c-requires
clause_at-c-requires c = ((_, c.requires.book_on.4, (subst (Sought _ _ _ _ _ _ _ _ _ _) c.in-Clause.is (c.first_fit.ensures.sought _ _ _ _ c.requires.book_on.4 c.requires.book_on.5)).1), subst (Figured _ _) (inv (figures-lent c.args.stack.now c.first_fit.new.stack c.requires.words_len_bound.1 c.first_fit.auto.stack)) c.requires.words_len_bound.2, lent-long c.args.stack.now c.first_fit.new.stack c.requires.words_len_bound.1 c.first_fit.auto.stack)

pub overflow_sub-end : goal.overflow_sub-end
overflow_sub-end c = let t = (subst (Sought _ _ _ _ _ _ _ _ _ _) c.in-Clause.is (c.first_fit.ensures.sought _ _ _ _ c.requires.book_on.4 c.requires.book_on.5)) in let p = (c.clause_at-c.ensures.placed _ c.requires.book_on.4 t.1) in omega (arith, p.0.begins, p.0.ends)

pub overflow_add-end : goal.overflow_add-end
overflow_add-end c = let t = (subst (Sought _ _ _ _ _ _ _ _ _ _) c.in-Clause.is (c.first_fit.ensures.sought _ _ _ _ c.requires.book_on.4 c.requires.book_on.5)) in let p = (c.clause_at-c.ensures.placed _ c.requires.book_on.4 t.1) in record { fits = omega (arith, clause-few c.requires.book_on.4 c.requires.book_on.5 (c.has_room.ensures c.if-not-has_room.false).0 (c.has_room.ensures c.if-not-has_room.false).1 c.requires.words_len_bound.0 c.first_fit.auto.words c.first_fit.ensures.levels c.in-Clause.known t c.clause_at-c.result p.0 p.1, (c.has_room.ensures c.if-not-has_room.false).1, c.requires.words_len_bound.0) }

pub slice_bounds-go-end : goal.slice_bounds-go-end
slice_bounds-go-end c = let t = (subst (Sought _ _ _ _ _ _ _ _ _ _) c.in-Clause.is (c.first_fit.ensures.sought _ _ _ _ c.requires.book_on.4 c.requires.book_on.5)) in let p = (c.clause_at-c.ensures.placed _ c.requires.book_on.4 t.1) in omega (arith, end-inside c.requires.book_on.4 c.requires.book_on.5 (c.has_room.ensures c.if-not-has_room.false).0 (c.has_room.ensures c.if-not-has_room.false).1 c.requires.words_len_bound.0 c.first_fit.auto.words c.first_fit.ensures.levels c.in-Clause.known t c.clause_at-c.result p.0 p.1)

pub go-next-requires : goal.go-next-requires
go-next-requires c = let t = (subst (Sought _ _ _ _ _ _ _ _ _ _) c.in-Clause.is (c.first_fit.ensures.sought _ _ _ _ c.requires.book_on.4 c.requires.book_on.5)) in let p = (c.clause_at-c.ensures.placed _ c.requires.book_on.4 t.1) in ((_, _, _, _, _, _, _, under_way c.requires.book_on.4 c.requires.book_on.5 (c.has_room.ensures c.if-not-has_room.false).0 (c.has_room.ensures c.if-not-has_room.false).1 c.requires.words_len_bound.0 c.first_fit.auto.words c.first_fit.ensures.levels c.in-Clause.known t c.clause_at-c.result p.0 p.1 c.clause_at-c.ensures.figure), (c.has_room.ensures c.if-not-has_room.false).2, weighed-there c.requires.book_on.4 c.requires.book_on.5 (c.has_room.ensures c.if-not-has_room.false).0 (c.has_room.ensures c.if-not-has_room.false).1 c.requires.words_len_bound.0 c.first_fit.auto.words c.first_fit.ensures.levels c.in-Clause.known t c.clause_at-c.result p.0 p.1)

pub release-requires : goal.release-requires
release-requires c = let t = (subst (Sought _ _ _ _ _ _ _ _ _ _) c.in-Clause.is (c.first_fit.ensures.sought _ _ _ _ c.requires.book_on.4 c.requires.book_on.5)) in let p = (c.clause_at-c.ensures.placed _ c.requires.book_on.4 t.1) in (c.first_fit.auto.cells ∙ c.requires.book_on.5.cells_long, (c.has_room.ensures c.if-not-has_room.false).0, (_, t.2.fitted.undoable))

pub returns-in-Unsure : goal.returns-in-Unsure
returns-in-Unsure c = record { words = c.first_fit.ensures.words; figured = subst (Figured _ _) (inv (figures-left c.args.stack.now c.first_fit.new.stack c.requires.words_len_bound.1 c.first_fit.auto.stack)) c.requires.words_len_bound.2; treads = λ P f g a o h. held_still h c.first_fit.ensures.words c.first_fit.auto.words c.first_fit.ensures.levels (subst (Sought _ _ _ _ _ _ _ _ _ _) c.in-Unsure.is (c.first_fit.ensures.sought P f g a o h)) }

pub returns-in-Given : goal.returns-in-Given
returns-in-Given c = record { words = c.first_fit.ensures.words; figured = subst (Figured _ _) (inv (figures-left c.args.stack.now c.first_fit.new.stack c.requires.words_len_bound.1 c.first_fit.auto.stack)) c.requires.words_len_bound.2; treads = λ P f g a o h. let t = (subst (Sought _ _ _ _ _ _ _ _ _ _) c.in-Given.is (c.first_fit.ensures.sought P f g a o h)) in given-gone o h t.0 t.1 t.2 c.first_fit.ensures.words c.first_fit.auto.words t.3 c.first_fit.ensures.levels c.drop_first.ensures.top c.drop_first.ensures.held }

pub returns-else-is_none : goal.returns-else-is_none
returns-else-is_none c = record { words = c.first_fit.ensures.words; figured = subst (Figured _ _) (inv (figures-back c.args.stack.now c.first_fit.new.stack c.requires.words_len_bound.1 c.first_fit.auto.stack c.clause_at-c.new.figures c.clause_at-c.auto.figures)) c.clause_at-c.ensures.figured; treads = λ P f g a o h. let t = (subst (Sought _ _ _ _ _ _ _ _ _ _) c.in-Clause.is (c.first_fit.ensures.sought P f g a o h)) in let p = (c.clause_at-c.ensures.placed _ o t.1) in let (t', e) = some-if c.go-next.result c.is_none.ensures c.if-is_none.false in subst (Treads P f g a _ _ _ _) (inv e) (gone o h (c.has_room.ensures c.if-not-has_room.false).0 (c.has_room.ensures c.if-not-has_room.false).1 c.requires.words_len_bound.0 c.first_fit.auto.words c.first_fit.ensures.levels c.in-Clause.known t c.clause_at-c.result p.0 p.1 c.clause_at-c.ensures.figure (subst (Went _ _ _ _ _ _ _ _) e c.go-next.ensures)) }

pub returns-then-is_none : goal.returns-then-is_none
returns-then-is_none c = record { words = c.first_fit.ensures.words; figured = subst (Figured _ _) (inv (figures-back c.args.stack.now c.first_fit.new.stack c.requires.words_len_bound.1 c.first_fit.auto.stack c.clause_at-c.new.figures c.clause_at-c.auto.figures)) c.clause_at-c.ensures.figured; treads = λ P f g a o h. let t = (subst (Sought _ _ _ _ _ _ _ _ _ _) c.in-Clause.is (c.first_fit.ensures.sought P f g a o h)) in let e = none-if c.go-next.result c.is_none.ensures c.if-is_none.true in subst (Treads P f g a _ _ _ _) (inv e) (held_still h c.first_fit.ensures.words c.first_fit.auto.words (fore-after c.first_fit.ensures.levels (subst (Went _ _ _ _ _ _ _ _) e c.go-next.ensures)) (c.release.ensures _ t.2.fitted.undoable)) }
