-- The bounds of a step that is under way.
use Prim.Native.Nat.{ℕ, ◌-◌}
use native.Mathlib.Omega.{arith}
use mathlib.Core.Path.{◌≡◌, sym as inv, ap, ◌∙◌, subst}
use mathlib.Core.List.{List}
use lib.ListN.{length, drop, length-drop}
use lib.Seq.{length-take-le}
use Rattle.terms.specs.Node.{Expr}
use Rattle.search.specs.Next.{Clause, Goal}
use Rattle.trials.specs.Trying.{trail}
use Rattle.figures.specs.Figures.{first_of}
use Rattle.bounds.specs.Sizing.{Weighs}
use Rattle.bounds.specs.declared.Weight.{Weight}
use Rattle.heapgoals.specs.Holding.{used}
use Rattle.heapgoals.specs.declared.Standing.{Standing}
use Rattle.attempts.specs.Trying.{laid, Fitted}
use Rattle.treads.specs.Stepping.{IsUnderWay, body_rows, Bounded}
use Rattle.treads.specs.Adding.{span_words, Adds, Grows}
use Rattle.treads.specs.declared.sizing.Span.{Span}
use Rattle.treads.specs.declared.sizing.Added.{Added}
use Rattle.treads.specs.declared.sizing.Bounds.{Bounds}
use Rattle.treads.proofs.Going.{heap-short}
use Rattle.treads.proofs.Bounding.{first-long, bounded_so}

module _ {book words before levels : List ℕ} {s : Standing} {c : Span} {heap' cells tables : List ℕ} {count : ℕ} {f : Expr} {g a : Goal} {d : Clause} (u : IsUnderWay book words before levels s c heap' cells tables count f g a d) where
  words_long : length (span_words book c) ≡ c.end - c.start
  words_long = length-take-le (c.end - c.start) (drop c.start book) (omega (arith, length-drop c.start book, u.placed.within))

  pub first-is : c.figure.first ≡ length (first_of (body_rows heap' s c))
  first-is = u.figure.leads d u.placed.clause ∙ inv (first-long u.held (span_words book c) c d u.placed.clause u.room (heap-short u) words_long (u.placed.begins, u.placed.ends)) ∙ ap (λ l. length (first_of (body_rows l s c))) (inv u.is)

  pub bounds_hold : (grown : Weight) → Weighs heap' cells s.base (trail tables) count grown → (more : Added) → Adds (span_words book c) heap' cells s c (length (first_of (body_rows heap' s c))) more → (r : Bounds) → Grows s more grown count r → Bounded heap' cells levels s c r
  bounds_hold grown y more x r (extra, places', times', charged, sum) =
      subst (λ l. Bounded l cells levels s c r) (inv u.is)
      (core (subst (λ l. Fitted l before s cells tables count) u.is u.fitted) (subst (λ l. Weighs l cells s.base (trail tables) count grown) u.is y) (subst (λ l. Adds (span_words book c) l cells s c (length (first_of (body_rows l s c))) more) u.is x))
    where
      core : Fitted (laid (used words s) s.base (span_words book c)) before s cells tables count → Weighs (laid (used words s) s.base (span_words book c)) cells s.base (trail tables) count grown
          → Adds (span_words book c) (laid (used words s) s.base (span_words book c)) cells s c (length (first_of (body_rows (laid (used words s) s.base (span_words book c)) s c))) more → Bounded (laid (used words s) s.base (span_words book c)) cells levels s c r
      core fitted y x = bounded_so u.held (span_words book c) c d u.placed.clause u.room (heap-short u) words_long (u.placed.begins, u.placed.ends) fitted grown y more r charged sum x.how x.names x.few
