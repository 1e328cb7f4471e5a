use Rattle.rides.proofs.Aside.{start-kept, came, aside_room, front_long, front-starts, back-room, row_stays, back-again}
use Rattle.rides.proofs.Stands.{start-within, start_small}
use Prim.Native.Nat.{◌+◌, ◌-◌}
use native.Mathlib.Omega.{arith}
use mathlib.Core.Path.{refl, sym as inv, subst}
use lib.ListN.{length}
use Rattle.treads.proofs.Known.{none-if, some-if}
use Rattle.rides.specs.Riding.{Rode}
use Rattle.rides.proofs.ride.Goals as goal

pub overflow_add-place : goal.overflow_add-place
overflow_add-place c = record { fits = omega (arith, start_small c.requires.book_on.3) }

pub overflow_sub-words : goal.overflow_sub-words
overflow_sub-words c = start-within c.requires.book_on.3

pub returns-then-words-place : goal.returns-then-words-place
returns-then-words-place c = record { rode = (λ P q b y. refl); free = c.requires.lent.1; row = refl }

pub copy_words-requires : goal.copy_words-requires
copy_words-requires c = (start-kept c.requires.book_on.3, aside_room c.args.words.now c.args.saved.now c.args.start.place.kept (omega (arith, c.if-words-place.false)) (start-kept c.requires.book_on.3) (length c.args.words.now) (length c.args.words.now - c.args.start.place.kept) refl refl)

pub go_on-come-requires : goal.go_on-come-requires
go_on-come-requires c = record { lent = (record { words_length = omega (arith, front_long c.args.words.now c.args.saved.now c.args.start.place.kept (omega (arith, c.if-words-place.false)) (start-kept c.requires.book_on.3) (length c.args.words.now) (length c.args.words.now - c.args.start.place.kept) refl refl _ c.copy_words.ensures (length c.args.words.now - c.args.start.place.kept - 0) (omega arith), c.requires.lent.0.words_length); cells_length = c.requires.lent.0.cells_length; rows_length = c.requires.lent.0.rows_length; saved_room = c.requires.lent.0.saved_room; out_length = c.requires.lent.0.out_length }, c.requires.lent.1); book_on = (c.requires.book_on.0, c.requires.book_on.1, c.requires.book_on.2, front-starts c.args.words.now c.args.saved.now c.args.start.place.kept (omega (arith, c.if-words-place.false)) (start-kept c.requires.book_on.3) (length c.args.words.now) (length c.args.words.now - c.args.start.place.kept) refl refl _ c.copy_words.ensures (length c.args.words.now - c.args.start.place.kept - 0) (omega arith) _ (omega (arith, c.if-words-place.false, start-within c.requires.book_on.3)) c.requires.book_on.3) }

pub offset_bounds-words-limit-then-is_none : goal.offset_bounds-words-limit-then-is_none
offset_bounds-words-limit-then-is_none c = record { fits = omega (arith, c.requires.lent.0.words_length) }

pub copy_words-requires-then-is_none : goal.copy_words-requires-then-is_none
copy_words-requires-then-is_none c = (back-room c.args.words.now c.args.saved.now c.args.start.place.kept (omega (arith, c.if-words-place.false)) (start-kept c.requires.book_on.3) (length c.args.words.now) (length c.args.words.now - c.args.start.place.kept) refl refl _ c.copy_words.ensures (length c.args.words.now - c.args.start.place.kept - 0) (omega arith) c.go_on-come.new.words c.go_on-come.auto.words, omega (arith, start-kept c.requires.book_on.3, c.go_on-come.auto.saved))

pub returns-then-is_none : goal.returns-then-is_none
returns-then-is_none c = record { rode = λ P q b y. subst (Rode P q c.args.saved.now c.args.start _ _) (inv (none-if c.go_on-come.result c.is_none.ensures c.if-is_none.true)) (back-again c.args.words.now c.args.saved.now c.args.start.place.kept (omega (arith, c.if-words-place.false)) (start-kept c.requires.book_on.3) (length c.args.words.now) (length c.args.words.now - c.args.start.place.kept) refl refl _ c.copy_words.ensures (length c.args.words.now - c.args.start.place.kept - 0) (omega arith) c.go_on-come.new.words c.go_on-come.auto.words c.go_on-come.new.saved _ c.copy_words-then-is_none.ensures); free = c.go_on-come.ensures.free; row = row_stays c.args.words.now c.args.saved.now c.args.start.place.kept (omega (arith, c.if-words-place.false)) (start-kept c.requires.book_on.3) (length c.args.words.now) (length c.args.words.now - c.args.start.place.kept) refl refl _ c.copy_words.ensures (length c.args.words.now - c.args.start.place.kept - 0) (omega arith) c.go_on-come.new.words c.go_on-come.auto.words (c.args.start.place.words + c.args.start.place.answer) (omega (arith, c.if-words-place.false, start-within c.requires.book_on.3)) c.go_on-come.ensures.row }

pub returns-else-is_none : goal.returns-else-is_none
returns-else-is_none c = record { rode = λ P q b y. let (r, e) = some-if c.go_on-come.result c.is_none.ensures c.if-is_none.false in subst (Rode P q c.args.saved.now c.args.start _ _) (inv e) (came _ _ e (c.go_on-come.ensures.went P q b (front-starts c.args.words.now c.args.saved.now c.args.start.place.kept (omega (arith, c.if-words-place.false)) (start-kept c.requires.book_on.3) (length c.args.words.now) (length c.args.words.now - c.args.start.place.kept) refl refl _ c.copy_words.ensures (length c.args.words.now - c.args.start.place.kept - 0) (omega arith) _ (omega (arith, c.if-words-place.false, start-within y)) y))); free = c.go_on-come.ensures.free; row = row_stays c.args.words.now c.args.saved.now c.args.start.place.kept (omega (arith, c.if-words-place.false)) (start-kept c.requires.book_on.3) (length c.args.words.now) (length c.args.words.now - c.args.start.place.kept) refl refl _ c.copy_words.ensures (length c.args.words.now - c.args.start.place.kept - 0) (omega arith) c.go_on-come.new.words c.go_on-come.auto.words (c.args.start.place.words + c.args.start.place.answer) (omega (arith, c.if-words-place.false, start-within c.requires.book_on.3)) c.go_on-come.ensures.row }
