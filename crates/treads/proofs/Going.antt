-- What is under way: where it stands, and the next goal and answer from it.
use Prim.Native.Nat.{ℕ, ◌+◌, ◌-◌, ◌<◌, ◌≤◌}
use native.Mathlib.Omega.{arith}
use mathlib.Core.Path.{◌≡◌, sym as inv, subst}
use mathlib.Core.List.{List, map}
use lib.ListN.{length, take, drop, length-drop}
use lib.Seq.{length-take-le}
use Rattle.terms.specs.Node.{Expr}
use Rattle.terms.specs.RowLaws.{row-long}
use Rattle.search.specs.Next.{Clause, Goal}
use Rattle.search.specs.Room.{fits}
use Rattle.search.specs.Answer.{small}
use Rattle.words.specs.HeldLaws.{head-length}
use Rattle.words.specs.Word.{Valids}
use Rattle.picking.specs.Laying.{moved}
use Rattle.applying.specs.Applying.{Onward}
use Rattle.trials.proofs.Heaps.{flat_rows}
use Rattle.heap.specs.Heap.{Whole}
use Rattle.heap.specs.Walking.{Levels}
use Rattle.heap.specs.declared.walking.Walk.{Walk}
use Rattle.heapgoals.specs.Holding.{used, Holds}
use Rattle.heapgoals.specs.HoldLaws.{Fore, holds-levels}
use Rattle.heapgoals.specs.declared.Standing.{Standing}
use Rattle.attempts.specs.Trying.{laid, Fitted}
use Rattle.treads.specs.Stepping.{IsUnderWay, body_at, Bounded, Entered}
use Rattle.treads.specs.declared.sizing.Span.{Span}
use Rattle.std.specs.Prelude.{true}
use Rattle.treads.specs.declared.sizing.Bounds.{Bounds}
use Rattle.attempts.proofs.Extending.{still_whole, still_levels}
use Rattle.treads.proofs.Nexts.{next_standing, body-whole, goal, answer, goes, goal-fits, answer-fits, next-held}

-- the same of the heap that is under way
module _ {book words before levels : List ℕ} {s : Standing} {c : Span} {heap' cells tables : List ℕ} {count : ℕ} {f : Expr} {g a : Goal} {d : Clause} (u : IsUnderWay book words before levels s c heap' cells tables count f g a d) where
  abbrev there_words : List ℕ
  there_words = take (c.end - c.start) (drop c.start book)

  pub span-few : c.end - c.start ≤ 256
  span-few = omega (arith, length-take-le (c.end - c.start) (drop c.start book) (omega (arith, length-drop c.start book, u.placed.within)), u.placed.clause.size)

  pub body-few : c.bodies ≤ 256
  body-few = omega (arith, u.placed.clause.body, row-long (flat_rows d.body u.placed.clause.formulas.1), head-length there_words (c.head - c.start) c.bodies d u.placed.clause, u.placed.clause.size)

  pub heap-short : s.top + length there_words < 65536
  heap-short = omega (arith, u.short, u.placed.clause.size)

  pub under_way-fore : {levels' : List ℕ} → Fore levels levels' → IsUnderWay book words before levels' s c heap' cells tables count f g a d
  under_way-fore x = record { held = holds-levels x u.held; placed = u.placed; is = u.is; figure = u.figure; fitted = u.fitted; room = u.room; short = u.short }

  abbrev the_heap : List ℕ
  the_heap = laid (used words s) s.base there_words

  pub stands-front : Whole heap' s.due s.at
  stands-front = subst (λ l. Whole l s.due s.at) (inv u.is) (still_whole (used words s) (map (moved s.base) there_words) s.due s.at u.held.front)

  pub stands-levels : Levels heap' levels s.depth
  stands-levels = subst (λ l. Levels l levels s.depth) (inv u.is) (still_levels (used words s) (map (moved s.base) there_words) levels s.depth u.held.back)

  pub stands-body : Whole heap' c.bodies (body_at s c)
  stands-body = subst (λ l. Whole l c.bodies (body_at s c)) (inv u.is) (body-whole u.held there_words c d u.placed.clause u.room heap-short)

  pub stands-valid : Valids heap'
  stands-valid x l = (u.fitted.more.made.fits x l).valid

  pub next_of : (r : Bounds) → Bounded heap' cells levels s c r → (levels' : List ℕ) (w : Walk) → Entered heap' levels s (body_at s c) c.bodies levels' w → (n : ℕ) → n ≡ s.formulas - 1 + c.bodies → n ≤ 512
      → (l : Goal) × (m : Goal) × Onward f g a d l m × (fits l ≡ true) × (small m ≡ true) × Holds heap' cells levels' (next_standing s (length heap') n r w) l m
  next_of r b levels' w e n many few =
      subst (λ l. (x : Goal) × (y : Goal) × Onward f g a d x y × (fits x ≡ true) × (small y ≡ true) × Holds l cells levels' (next_standing s (length l) n r w) x y) (inv u.is) (core (subst (λ l. Fitted l before s cells tables count) u.is u.fitted) (subst (λ l. Bounded l cells levels s c r) u.is b) (subst (λ l. Entered l levels s (body_at s c) c.bodies levels' w) u.is e))
    where
      core : Fitted the_heap before s cells tables count → Bounded the_heap cells levels s c r → Entered the_heap levels s (body_at s c) c.bodies levels' w
          → (x : Goal) × (y : Goal) × Onward f g a d x y × (fits x ≡ true) × (small y ≡ true) × Holds the_heap cells levels' (next_standing s (length the_heap) n r w) x y
      core fitted b e = (
        goal u.held there_words c d u.placed.clause u.room heap-short fitted r b levels' w e n many few,
        answer u.held there_words c d u.placed.clause u.room heap-short fitted r b levels' w e n many few,
        goes u.held there_words c d u.placed.clause u.room heap-short fitted r b levels' w e n many few,
        goal-fits u.held there_words c d u.placed.clause u.room heap-short fitted r b levels' w e n many few,
        answer-fits u.held there_words c d u.placed.clause u.room heap-short fitted r b levels' w e n many few,
        next-held u.held there_words c d u.placed.clause u.room heap-short fitted r b levels' w e n many few,
      )
