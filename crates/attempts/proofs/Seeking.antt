-- One clause after another, each behind what is held.
use Prim.Native.Nat.{ℕ, suc, ◌+◌, ◌-◌, ◌<◌, ◌≤◌}
use native.Mathlib.Omega.{arith}
use mathlib.Core.Path.{◌≡◌, refl, sym as inv, ap, ◌∙◌, subst}
use mathlib.Core.List.{List, ◌∷◌}
use lib.ListN.{length, get_or, take, drop}
use lib.Seq.{get_or-take, length-take-le}
use Rattle.terms.specs.Node.{Expr}
use Rattle.search.specs.Next.{Book, Goal, Meets, clause_at}
use Rattle.words.specs.Word.{kind_of, arity_of}
use Rattle.words.specs.Columns.{every}
use Rattle.words.specs.Held.{Placed, BookOn, bodies}
use Rattle.words.specs.Lists.{head_word}
use Rattle.picking.proofs.Picks.{Passed, passed-more, picked-here}
use Rattle.heap.specs.Heap.{Whole, Made}
use Rattle.heap.specs.HeapLaws.{row_inside}
use Rattle.trials.specs.Trying.{trail, clause_words}
use Rattle.heapgoals.specs.Holding.{used, Holds}
use Rattle.heapgoals.specs.HoldLaws.{Fore, fore-same, fore-after, holds-levels, holds-words, held-row, held_first}
use Rattle.heapgoals.specs.declared.Standing.{Standing}
use Rattle.bounds.specs.Sizing.{Weighed}
use Rattle.std.specs.Prelude.{Option}
use Rattle.bounds.specs.declared.Weight.{Weight}
use Rattle.attempts.specs.Trying.{laid, HeldTrial, Tested, Sought}
use Rattle.attempts.specs.declared.Attempt.{Attempt}
use Rattle.attempts.specs.declared.Attempt.TheVariants.{Fits as Fits-now, Clash, Tired}
use Rattle.attempts.specs.declared.Found.TheVariants as Seen
use Rattle.std.specs.Prelude.{IsSome}
use Rattle.std.specs.declared.option.Option.{Option}
use Rattle.attempts.specs.Passing.{Lead, Over}
use Rattle.attempts.proofs.Extending.{part-front}
use Rattle.attempts.proofs.Telling.{same_head, head_plain}
use Rattle.attempts.proofs.PassingLaws.{passed_over, other-meets}

-- where the clause number i stands
module _ {book shelf : List ℕ} {P : Book} (o : BookOn book shelf P) (i b e t : ℕ) (l : i < length P) (es : (n : ℕ) → i < n → b ≡ get_or (every 4 256 n shelf) i 0) (ee : (n : ℕ) → i < n → e ≡ get_or (every 4 257 n shelf) i 0)
    (et : (n : ℕ) → i + 1 < n → t ≡ get_or (every 4 256 n shelf) (i + 1) 0) where
  pub placed : Placed book b e t (get_or (bodies (length P) shelf) i 0) (clause_at P i)
  placed = let next : i + 1 ≡ suc i = omega arith in rw (es (suc (length P)) (omega (arith, l)), ee (length P) l, et (suc (length P)) (omega (arith, l)), next) (o.held.placed i l)

  pub placed_so : (n : ℕ) → ((m : ℕ) → i < m → n ≡ get_or (every 4 258 m shelf) i 0) → Placed book b e t n (clause_at P i)
  placed_so n en = subst (λ m. Placed book b e t m (clause_at P i)) (inv (en (length P) l)) placed

  pub clause-is : take (t - b) (drop b book) ≡ clause_words book shelf (length P) i
  clause-is = let next : i + 1 ≡ suc i = omega arith in rw (es (suc (length P)) (omega (arith, l)), et (suc (length P)) (omega (arith, l)), next) refl

-- the clauses before the one number i do not meet what is held, and all is as it was
pub record Seeking (book shelf words₀ cells₀ rows₀ levels₀ stack₀ : List ℕ) (s : Standing) (all u : ℕ) (words cells rows levels stack : List ℕ) (i : ℕ) : Type 0 where
  pub high : i ≤ all
  pub words_long : length words ≡ length words₀
  pub cells_are : cells ≡ cells₀
  pub rows_long : length rows ≡ length rows₀
  pub fore : Fore levels₀ levels
  pub stack_long : length stack ≡ length stack₀
  pub front : take s.top words ≡ take s.top words₀
  pub passing : (P : Book) (f : Expr) (g a : Goal) → BookOn book shelf P → Holds words₀ cells₀ levels₀ s (f ∷ g) a → i < length P → Passed f P 0 i
  pub begins : (P : Book) → BookOn book shelf P → i < length P → head_word book shelf (length P) i ≡ u

module _ {words cells levels : List ℕ} {s : Standing} {f : Expr} {g a : Goal} (h : Holds words cells levels s (f ∷ g) a) where
  pub at-below : s.at < s.top
  at-below = omega (arith, row_inside (used words s) 0 s.at (held-row h), length-take-le s.top words h.inside)

  pub passed_on : {book shelf : List ℕ} {P : Book} → BookOn book shelf P → {u : ℕ} {x : Option ℕ} {q r : ℕ} → u ≡ get_or words s.at 0 → Lead (used words s) cells s.at x → Over book shelf P u x q r → r < length P → Passed f P 0 q → Passed f P 0 r
  passed_on o {u} {x = x'} eu led x l p =
      let here : get_or (used words s) s.at 0 ≡ u = get_or-take s.top words s.at 0 at-below ∙ inv eu in
      let inside = row_inside (used words s) 0 s.at (held-row h) in
      passed_over o x (λ head k c q t. same_head (used words s) s.at inside (h.made.fits s.at inside).valid (λ z. head_plain o l (x.here l) (ap kind_of (inv here) ∙ z)) h.meaning (held_first h) head k c q t ∙ here)
      (λ j b e. other-meets o x' led h.made (held-row h) h.solved.solves (held_first h) j b (e ∙ inv here)) p

  -- the words in use as they are lent
  abbrev lent : List ℕ
  lent = take (s.top - 0) (drop 0 words)

  pub lent-made : Made lent cells × Whole lent 1 s.at
  lent-made = rw (part-front s.top words) (h.made, held-row h)

  module _ {x : Option ℕ} (led : Lead lent cells s.at x) where
    pub lent-lead : Lead (used words s) cells s.at x
    lent-lead = subst (λ l. Lead l cells s.at x) (part-front s.top words) led

    pub lead-some : {u : ℕ} → u ≡ get_or words s.at 0 → IsSome x → 0 < arity_of u
    lead-some eu n = subst (λ w. 0 < arity_of w) (get_or-take s.top words s.at 0 at-below ∙ inv eu) (lent-lead.some n)

module _ {book shelf words₀ cells₀ rows₀ levels₀ stack₀ : List ℕ} {s : Standing} {all u : ℕ} where
  pub seek-start : {x : Option ℕ} → Lead (used words₀ s) cells₀ s.at x → (P : Book) → BookOn book shelf P → all ≡ length P → u ≡ get_or words₀ s.at 0 → {r : ℕ} → ((P : Book) → BookOn book shelf P → Over book shelf P u x 0 r)
      → Seeking book shelf words₀ cells₀ rows₀ levels₀ stack₀ s all u words₀ cells₀ rows₀ levels₀ stack₀ r
  seek-start led P o e eu y = record {
    high = omega (arith, (y P o).high, e);
    words_long = refl;
    cells_are = refl;
    rows_long = refl;
    fore = fore-same;
    stack_long = refl;
    front = refl;
    passing = λ P f g a o h l. passed_on h o eu led (y P o) l (λ j b z. absurd (omega (arith, z)));
    begins = λ P o. (y P o).here;
  }

  module _ {words cells rows levels stack : List ℕ} {i : ℕ} (k : Seeking book shelf words₀ cells₀ rows₀ levels₀ stack₀ s all u words cells rows levels stack i) where
    pub held-now : {g a : Goal} → Holds words₀ cells₀ levels₀ s g a → Holds words cells levels s g a
    held-now {g} {a} h = holds-levels k.fore (holds-words k.front (omega (arith, h.inside, k.words_long)) (subst (λ l. Holds words₀ l levels₀ s g a) (inv k.cells_are) h))

    module _ {P : Book} (o : BookOn book shelf P) {f : Expr} {g a : Goal} (h : Holds words₀ cells₀ levels₀ s (f ∷ g) a) (l : i < length P) (clause words' cells' tables : List ℕ) (is : clause ≡ clause_words book shelf (length P) i) (v : Attempt)
        (t : Tested f (clause_at P i) (take s.top words) clause words' cells s cells' tables v) where
      pub found_here : (count : ℕ) (size : Option Weight) → v ≡ Fits-now count size → Sought P f book shelf (take s.top words₀) words' cells₀ s cells' tables (Seen.Clause i count size)
      found_here count size e =
          let y = subst (Tested f (clause_at P i) (take s.top words) clause words' cells s cells' tables) e t in (
            picked-here f P 0 i (omega arith) l (k.passing P f g a o h l) y.0,
            l,
            subst (λ w. HeldTrial w (clause_words book shelf (length P) i) words' cells₀ s cells' tables count) k.front
                (subst (λ x. HeldTrial (take s.top words) x words' cells₀ s cells' tables count) is (subst (λ x. HeldTrial (take s.top words) clause words' x s cells' tables count) k.cells_are y.1)),
            subst (λ w. Weighed (laid w s.base (clause_words book shelf (length P) i)) cells' s.base (trail tables) count size) k.front (subst (λ x. Weighed (laid (take s.top words) s.base x) cells' s.base (trail tables) count size) is y.2),
          )

      pub none_here : v ≡ Clash → Meets f (clause_at P i) → ⊥
      none_here e = (subst (Tested f (clause_at P i) (take s.top words) clause words' cells s cells' tables) e t).0

      pub kept-clash : v ≡ Clash → cells' ≡ cells₀
      kept-clash e = (subst (Tested f (clause_at P i) (take s.top words) clause words' cells s cells' tables) e t).1 ∙ k.cells_are

      pub kept_tired : v ≡ Tired → cells' ≡ cells₀
      kept_tired e = subst (Tested f (clause_at P i) (take s.top words) clause words' cells s cells' tables) e t ∙ k.cells_are

    pub seek-again : {x : Option ℕ} → Lead (used words₀ s) cells₀ s.at x → (P : Book) → BookOn book shelf P → ((P : Book) → BookOn book shelf P → all ≡ length P) → i < all → u ≡ get_or words₀ s.at 0
        → {r : ℕ} → ((P : Book) → BookOn book shelf P → i < length P → head_word book shelf (length P) i ≡ u → Over book shelf P u x (suc i) r)
        → {words' cells' rows' levels' stack' : List ℕ} → length words' ≡ length words → cells' ≡ cells₀ → length rows' ≡ length rows → Fore levels levels' → length stack' ≡ length stack → take s.top words' ≡ take s.top words
        → ((P : Book) (f : Expr) (g a : Goal) → BookOn book shelf P → Holds words₀ cells₀ levels₀ s (f ∷ g) a → i < length P → Meets f (clause_at P i) → ⊥)
        → Seeking book shelf words₀ cells₀ rows₀ levels₀ stack₀ s all u words' cells' rows' levels' stack' r
    seek-again {x} led P o es under eu {r} y lw ec lr lf ls ew none = record {
      high = omega (arith, (found P o).high, es P o);
      words_long = lw ∙ k.words_long;
      cells_are = ec;
      rows_long = lr ∙ k.rows_long;
      fore = fore-after k.fore lf;
      stack_long = ls ∙ k.stack_long;
      front = ew ∙ k.front;
      passing = λ P f g a o h l. let here : i < length P = omega (arith, under, es P o) in passed_on h o eu led (found P o) l (next P f (passed-more f P 0 i (k.passing P f g a o h here) (none P f g a o h here)));
      begins = λ P o. (found P o).here;
    }
      where
        found : (P : Book) → BookOn book shelf P → Over book shelf P u x (suc i) r
        found P o = let here : i < length P = omega (arith, under, es P o) in y P o here (k.begins P o here)

        next : (P : Book) (f : Expr) → Passed f P 0 (i + 1) → Passed f P 0 (suc i)
        next P f p = let e : i + 1 ≡ suc i = omega arith in subst (Passed f P 0) e p
