use Prim.Native.Nat.{ℕ}
use native.Mathlib.Omega.{arith}
use mathlib.Core.List.{List}
use mathlib.Core.Path.{sym as inv}
use lib.ListN.{length-replicate}
use lib.Seq.{length-take-le}
use Rattle.words.specs.Held.{RowIn}
use Rattle.format.specs.Format.{Bytes}
use Rattle.format.specs.Reading.{Askable}
use Rattle.format.proofs.Decoding.{goal_of-good}
use Rattle.format.proofs.Premises.{goal_premises}
use Rattle.searching.specs.Searching.{Asked}
use Rattle.format.specs.Decode.{book_of, goal_of}
use Rattle.endings.specs.Ending.{said-holds, last-short, search-leaves}
use Rattle.outcomes.proofs.Smalls.{figures-small, small_is}
use Rattle.running.proofs.with_words.Goals as goal

-- the query is numbered, since its image is good
asked : {query : List ℕ} → Bytes query → Askable query → {row : List ℕ} {n m : ℕ} → RowIn row n m (goal_of query) (goal_of query) → Asked row n m (goal_of query)
asked {query} bytes a h = record { held = h; numbered = (goal_premises (goal_of query) (goal_of-good a.book query bytes a.good).0).1 }

pub from_goal-e-requires : goal.from_goal-e-requires
from_goal-e-requires g c = (omega (arith, c.open_row-opened.ensures.within, c.open_row-opened.auto, length-replicate {A = ℕ} 8448 0), (book_of _, c.open_book-clauses.ensures.on), (goal_of _, asked (λ i. omega (arith, c.type_inv.query i)) c.requires.good.askable c.open_row-opened.ensures.holds))

pub overflow_add-m : goal.overflow_add-m
overflow_add-m g c = let s = last-short (c.from_goal-e.ensures _ _ c.open_book-clauses.ensures.on (asked (λ i. omega (arith, c.type_inv.query i)) c.requires.good.askable c.open_row-opened.ensures.holds)) in omega (arith, s.0, s.1)

pub slice_bounds-goal-end : goal.slice_bounds-goal-end
slice_bounds-goal-end g c = (c.from_goal-e.ensures _ _ c.open_book-clauses.ensures.on (asked (λ i. omega (arith, c.type_inv.query i)) c.requires.good.askable c.open_row-opened.ensures.holds)).within

pub slice_bounds-put_goal-end : goal.slice_bounds-put_goal-end
slice_bounds-put_goal-end g c = inv (length-take-le _ _ (c.from_goal-e.ensures _ _ c.open_book-clauses.ensures.on (asked (λ i. omega (arith, c.type_inv.query i)) c.requires.good.askable c.open_row-opened.ensures.holds)).within)

pub put_goal-bytes-requires : goal.put_goal-bytes-requires
put_goal-bytes-requires g c = let e = c.from_goal-e.ensures _ _ c.open_book-clauses.ensures.on (asked (λ i. omega (arith, c.type_inv.query i)) c.requires.good.askable c.open_row-opened.ensures.holds) in record { in_bounds = omega (arith, c.requires.good.enough); by_index = (4096, e.last, e.holds) }

pub offset_bounds-goal-n : goal.offset_bounds-goal-n
offset_bounds-goal-n g c = omega (arith, (last-short (c.from_goal-e.ensures _ _ c.open_book-clauses.ensures.on (asked (λ i. omega (arith, c.type_inv.query i)) c.requires.good.askable c.open_row-opened.ensures.holds))).0)

pub slice_bounds-put_goal-end-2 : goal.slice_bounds-put_goal-end-2
slice_bounds-put_goal-end-2 g c = let e = c.from_goal-e.ensures _ _ c.open_book-clauses.ensures.on (asked (λ i. omega (arith, c.type_inv.query i)) c.requires.good.askable c.open_row-opened.ensures.holds) in omega (arith, e.answer_within, (last-short e).0, (last-short e).1)

pub put_goal-said-requires : goal.put_goal-said-requires
put_goal-said-requires g c = let e = c.from_goal-e.ensures _ _ c.open_book-clauses.ensures.on (asked (λ i. omega (arith, c.type_inv.query i)) c.requires.good.askable c.open_row-opened.ensures.holds) in record { in_bounds = omega (arith, c.requires.good.enough); by_index = (8192, e.said, said-holds e c.open_row-opened.ensures.holds.goal.count) }

pub answered-requires : goal.answered-requires
answered-requires g c = let e = c.from_goal-e.ensures _ _ c.open_book-clauses.ensures.on (asked (λ i. omega (arith, c.type_inv.query i)) c.requires.good.askable c.open_row-opened.ensures.holds) in let s = small_is e.why (figures-small _ c.open_book-clauses.ensures.on _ e.last e.holds) in (c.put_goal-bytes.ensures.within, c.put_goal-said.ensures.within, s.clause, s.argument)

pub returns : goal.returns
returns g c = let e = c.from_goal-e.ensures _ _ c.open_book-clauses.ensures.on (asked (λ i. omega (arith, c.type_inv.query i)) c.requires.good.askable c.open_row-opened.ensures.holds) in rw c.answered.ensures (search-leaves e (c.put_goal-bytes.ensures.written 4096 e.last e.holds) (c.put_goal-said.ensures.written 8192 e.said (said-holds e c.open_row-opened.ensures.holds.goal.count)))
