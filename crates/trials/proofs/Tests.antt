-- One clause after another, behind the row.
use Prim.Native.Nat.{ℕ, suc, ◌+◌, ◌-◌, ◌<◌, ◌≤◌}
use native.Mathlib.Omega.{arith}
use mathlib.Core.Path.{◌≡◌, refl, sym as inv, ap, ◌∙◌, subst}
use mathlib.Core.List.{List, [], ◌∷◌, ◌++◌, map}
use lib.ListN.{length, get_or, take, drop, length-drop}
use lib.Seq.{take-take, take_at, length-take-le, get_or-take}
use Rattle.terms.specs.Node.{Expr}
use Rattle.search.specs.Next.{Clause, Book, Goal, clause_at}
use Rattle.words.specs.Word.{Valids}
use Rattle.words.specs.Columns.{every}
use Rattle.words.specs.Held.{GoalIn, ClauseIn, RowIn, BookOn, starts, heads, bodies}
use Rattle.words.specs.HeldLaws.{formula_in, first-length}
use Rattle.picking.specs.Laying.{moved, Appended}
use Rattle.heap.specs.Heap.{Whole, Made}
use Rattle.matching.specs.Unifying.{Low}
use Rattle.matching.specs.TrialLaws.{Free}
use Rattle.trials.specs.Trying.{Attempted, Fronted, clause_words, laid, HeldTrial, Tested, Sought}
use Rattle.trials.specs.declared.Attempt.{Attempt}
use Rattle.trials.specs.declared.Attempt.TheVariants.{Fits, Clash, Tired}
use Rattle.std.specs.declared.option.Option.TheVariants.{Some}
use Rattle.words.specs.Lists.{Found}
use Rattle.picking.proofs.Picks.{Passed, passed-more, passed-found, picked-here}
use Rattle.terms.specs.RowLaws.{row-long as row-long'}
use Rattle.trials.proofs.Heaps.{heap-made, heap-low, formula-whole, head-whole, meets-there, none-there}

part-front : (m : ℕ) (l : List ℕ) → take (m - 0) (drop 0 l) ≡ take m l
part-front m l = let n : m - 0 ≡ m = omega arith in ap (λ n. take n l) n

module _ {words : List ℕ} {n m : ℕ} {f : Expr} {g a : Goal} (x : Fronted words n m f g a) where
  abbrev row : List ℕ
  row = take n words

  pub row-long : length row ≡ n
  row-long = length-take-le n words x.within

  goal-inside : x.goal ≤ n
  goal-inside = omega (arith, x.row.within, row-long)

  first-inside : m ≤ x.goal
  first-inside = omega (arith, first-length (take x.goal row) x.formulas f g x.row.goal m x.first, length-take-le x.goal row x.row.within)

  pub first_part : m ≤ length words
  first_part = omega (arith, first-inside, goal-inside, x.within)

  pub row-short : n ≤ 8192
  row-short = omega (arith, row-long, x.row.goal.size, x.row.answer.size, length-take-le x.goal row x.row.within, length-drop x.goal row)

  -- the row's first formula
  pub formula-words : GoalIn (take (m - 0) (drop 0 words)) 1 (f ∷ [])
  formula-words = subst (λ l. GoalIn l 1 (f ∷ []))
      (ap (take m) (take-take x.goal n words goal-inside) ∙ take-take m x.goal words first-inside ∙ inv (part-front m words))
      (formula_in (take x.goal row) x.formulas f g x.row.goal m x.first)

-- where the clause number i stands
module _ {book shelf : List ℕ} {P : Book} (o : BookOn book shelf P) (i s t : ℕ) (l : i < length P) (es : (n : ℕ) → i < n → s ≡ get_or (every 4 256 n shelf) i 0)
    (et : (n : ℕ) → i + 1 < n → t ≡ get_or (every 4 256 n shelf) (i + 1) 0) where
  pub clause-is : take (t - s) (drop s book) ≡ clause_words book shelf (length P) i
  clause-is = let next : i + 1 ≡ suc i = omega arith in rw (es (suc (length P)) (omega arith), et (suc (length P)) (omega arith), next) refl

  pub clause-held : ClauseIn (clause_words book shelf (length P) i) (get_or (heads (length P) shelf) i 0 - get_or (starts (length P) shelf) i 0) (get_or (bodies (length P) shelf) i 0) (clause_at P i)
  clause-held = (o.held.placed i l).clause

  pub clause-valid : Valids (take (t - s) (drop s book))
  clause-valid = subst Valids (inv clause-is) (λ x h. (clause-held.fit x h).valid)

  pub clause-ends : (s ≤ t) × (t ≤ length book)
  clause-ends =
      let next : i + 1 ≡ suc i = omega arith in
      let d = o.held.placed i l in (
        omega (arith, d.begins, d.ends, es (suc (length P)) (omega arith), et (suc (length P)) (omega arith) ∙ ap (λ j. get_or (every 4 256 (suc (length P)) shelf) j 0) next),
        omega (arith, d.within, et (suc (length P)) (omega arith) ∙ ap (λ j. get_or (every 4 256 (suc (length P)) shelf) j 0) next),
      )

-- the clause is put behind the row
module _ {words : List ℕ} {n m : ℕ} {f : Expr} {g a : Goal} (x : Fronted words n m f g a) (src clause z : List ℕ) (r k b : ℕ) (c : Clause) (p : Appended words n src 8192 z r) (is : src ≡ clause)
    (q : ClauseIn clause k b c) where
  abbrev row' : List ℕ
  row' = take n words

  pub heap-front : take r z ≡ laid row' clause
  heap-front = p.front ∙ ap (λ l. row' ++ map (moved 8192) l) is

  pub heap-end : r ≡ n + length clause
  heap-end = p.end ∙ ap (λ l. n + length l) is

  pub row_kept : r ≤ length z → take n z ≡ row'
  row_kept l = inv (take-take n r z (omega (arith, heap-end))) ∙ ap (take n) heap-front ∙ take_at row' (map (moved 8192) clause) n (row-long x)

  lent : (l : List ℕ) → l ≡ take (r - 0) (drop 0 z) → l ≡ laid row' clause
  lent l e = e ∙ part-front r z ∙ heap-front

  -- the heap as it is lent
  pub lent-made : (cells : List ℕ) → length cells ≡ 8256 → Free cells → Made (take (r - 0) (drop 0 z)) cells
  lent-made cells l free = subst (λ h. Made h cells) (inv (lent _ refl)) (heap-made row' clause x.goal x.formulas k b f g a c x.row q cells l free)

  pub lent-formula : Whole (take (r - 0) (drop 0 z)) 1 0
  lent-formula = subst (λ h. Whole h 1 0) (inv (lent _ refl)) (formula-whole row' clause x.goal x.formulas k b f g a c x.row q)

  pub lent-head : Whole (take (r - 0) (drop 0 z)) 1 n
  lent-head = subst (λ h. Whole h 1 n) (inv (lent _ refl)) (head-whole row' clause x.goal x.formulas k b f g a c x.row q n (inv (row-long x)))

  pub lent-low : Low (take (r - 0) (drop 0 z)) 8192 n
  lent-low = subst (λ h. Low h 8192 n) (inv (lent _ refl)) (heap-low row' clause x.goal x.formulas k b f g a c x.row q n (inv (row-long x)))

  pub tested : (cells tables : List ℕ) (v : Attempt) → Attempted (take (r - 0) (drop 0 z)) n cells tables v → Tested f c row' clause z cells tables n v
  tested cells tables v h = go v (subst (λ y. Attempted y n cells tables v) (lent _ refl) h)
    where
      go : (v : Attempt) → Attempted (laid row' clause) n cells tables v → Tested f c row' clause z cells tables n v
      go (Fits count) y = (
        meets-there row' clause x.goal x.formulas k b f g a c x.row q n (inv (row-long x)) y.general,
        record { front = ap (λ j. take j z) (inv heap-end) ∙ heap-front; fitted = y },
      )
      go Clash y = (none-there row' clause x.goal x.formulas k b f g a c x.row q n (inv (row-long x)) y.1, y.0)
      go Tired y = y

-- the row stays where it is
pub fronted_still : {words : List ℕ} {n m : ℕ} {f : Expr} {g a : Goal} → Fronted words n m f g a → (z : List ℕ) → take n z ≡ take n words → length z ≡ length words → Fronted z n m f g a
fronted_still {words} {n} {f = f} {g} {a} x z e l = record { goal = x.goal; formulas = x.formulas; row = subst (λ w. RowIn w x.goal x.formulas (f ∷ g) a) (inv e) x.row; first = x.first; within = omega (arith, x.within, l) }

-- one trial after those that failed
module _ (P : Book) (f : Expr) (book shelf row row₀ z cells tables : List ℕ) (n i : ℕ) (v : Attempt) (t : Tested f (clause_at P i) row (clause_words book shelf (length P) i) z cells tables n v) where
  pub found_here : (count : ℕ) → v ≡ Fits count → row ≡ row₀ → i < length P → Passed f P 0 i → Sought P f book shelf row₀ z cells tables n (Some (record { clause = i; count = count }))
  found_here count e r l p =
      let y = subst (Tested f (clause_at P i) row (clause_words book shelf (length P) i) z cells tables n) e t in
      (picked-here f P 0 i (omega arith) l p y.0, l, subst (λ w. HeldTrial w (clause_words book shelf (length P) i) z cells tables n count) r y.1)

  pub passed_here : v ≡ Clash → Passed f P 0 i → (j : ℕ) → j ≡ i + 1 → Passed f P 0 j
  passed_here e p j s = rw s (passed-more f P 0 i p (subst (Tested f (clause_at P i) row (clause_words book shelf (length P) i) z cells tables n) e t).0)

  pub freed_clash : v ≡ Clash → Free cells
  freed_clash e = (subst (Tested f (clause_at P i) row (clause_words book shelf (length P) i) z cells tables n) e t).1

  pub freed_tired : v ≡ Tired → Free cells
  freed_tired e = subst (Tested f (clause_at P i) row (clause_words book shelf (length P) i) z cells tables n) e t

-- on to the next clause of the formula's predicate and arity
pub passed_on : {book shelf : List ℕ} {P : Book} → BookOn book shelf P → {words : List ℕ} {n m : ℕ} {f : Expr} {g a : Goal} → Fronted words n m f g a → {u i r : ℕ} → u ≡ get_or words 0 0 → Found book shelf P u i r
    → Passed f P 0 i → Passed f P 0 r
passed_on o {words} {m = m} x eu s =
    let z : m - 0 ≡ m = omega arith in
    passed-found o (formula-words x) (eu ∙ inv (get_or-take (m - 0) (drop 0 words) 0 0 (omega (arith, z, x.first, row-long' x.row.goal.formulas.0)))) s
