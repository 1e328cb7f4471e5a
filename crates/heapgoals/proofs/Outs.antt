-- Goal and answer, or the first formula, told apart or written, are those that are held.
use Prim.Native.Nat.{ℕ, ◌+◌, ◌-◌, ◌%◌, ◌<◌, ◌≤◌}
use native.Mathlib.Omega.{arith}
use mathlib.Core.Path.{◌≡◌, refl, sym as inv, ap, ap₂, ◌∙◌, subst}
use mathlib.Core.List.{List, [], ◌∷◌, ◌++◌, append-nil}
use lib.ListN.{length, get_or, take, drop, length-drop, length-map}
use lib.Seq.{take_at, drop_at, take_all, length-take-le}
use Rattle.terms.specs.Node.{Expr}
use Rattle.terms.specs.Row.{Row, Atom, Every}
use Rattle.terms.specs.RowLaws.{row-long as as_long}
use Rattle.terms.specs.Subst.{In, apply}
use Rattle.terms.specs.Number.{seen_after, seen_all, number}
use Rattle.terms.proofs.NumberLaws.{seen-append, number_append, number-length}
use Rattle.search.specs.Next.{Goal}
use Rattle.words.specs.Word.{Fit, Fits, node, nodes}
use Rattle.words.specs.WordLaws.{each_take, each-drop, nodes-take, nodes-drop, in_words, in-fits}
use Rattle.words.specs.Flat.{flat, flat-number}
use Rattle.words.specs.Held.{RowIn}
use Rattle.numbering.specs.Naming.{table, back}
use Rattle.heap.specs.Heap.{rows}
use Rattle.heap.specs.HeapLaws.{rows_none}
use Rattle.heap.specs.Writing.{Writes, Copied}
use Rattle.heap.specs.WriteLaws.{writes-append}
use Rattle.heap.specs.declared.writing.Pen.{Pen}
use Rattle.heap.specs.declared.writing.Run.{Run}
use Rattle.heapgoals.specs.declared.Standing.{Standing}
use Rattle.heapgoals.specs.Holding.{used, Holds}
use Rattle.heapgoals.specs.HoldLaws.{goal_meant, answer_meant, held-goal, held-answer, goal-flat, answer-flat, held_first}
use Rattle.heapgoals.specs.Telling.{Other}
use Rattle.heapgoals.specs.Showing.{visited, goal_part, Laid, Placed, Lead}
use Rattle.heapgoals.proofs.Shows.{no_names}

seen-flat : (seen : List ℕ) (g : Goal) → seen_after seen (flat g) ≡ seen_all seen g
seen-flat seen [] = refl
seen-flat seen (f ∷ g) = seen-append seen f (flat g) ∙ seen-flat (seen_after seen f) g

every-parts : (Q : Expr → Type 0) (g a : Goal) → Every Q (g ++ a) → Every Q g × Every Q a
every-parts Q [] a p = (tt, p)
every-parts Q (f ∷ g) a (x, p) = let (y, z) = every-parts Q g a p in ((x, y), z)

pub holds-placed : {words cells levels heap : List ℕ} {s : Standing} {g a : Goal} → Holds words cells levels s g a → heap ≡ used words s → Placed heap cells levels s
holds-placed h e = rw e (record {
  made = h.made;
  solved = (h.meaning, h.solved);
  front = h.front;
  back = h.back;
  deep = h.deep;
  behind = h.behind;
  cells_long = h.cells_long;
  levels_long = h.levels_long;
})

-- nothing is written yet
nothing-fits : (k : ℕ) (out : List ℕ) → Fits k (take 0 out)
nothing-fits k out = λ i l. absurd (omega arith)

abbrev origin : Pen
origin = record { at = 0; count = 0 }

module _ {words cells levels : List ℕ} {s : Standing} {g a : Goal} (h : Holds words cells levels s g a) {names out names₁ out₁ names₂ out₂ : List ℕ} {goal all : Pen}
    (x : Laid (used words s) cells names out origin (goal_part (used words s) levels s) 4096 names₁ out₁ goal) (l : goal.at ≤ 4096) {end : ℕ} (ends : end ≡ goal.at + 4096)
    (y : Laid (used words s) cells names₁ out₁ goal (visited (used words s) s.answers s.answer) end names₂ out₂ all) (m : all.at ≤ end) (long : length out₂ ≡ 8192) where
  abbrev G : Expr
  G = goal_part (used words s) levels s h.meaning

  abbrev A : Expr
  A = visited (used words s) s.answers s.answer h.meaning

  front : Writes names out origin G names₁ out₁ goal
  front = x.fits l h.meaning h.solved

  rear : Writes names₁ out₁ goal A names₂ out₂ all
  rear = y.fits m h.meaning h.solved

  both : Writes names out origin (G ++ A) names₂ out₂ all
  both = writes-append front rear

  pub goal-first : goal.at ≤ all.at
  goal-first = omega (arith, rear.at)

  sum : goal.at + (all.at - goal.at) ≡ all.at
  sum = omega (arith, goal-first)

  abbrev row : List ℕ
  row = take (goal.at + (all.at - goal.at)) out₂

  inside : goal.at + (all.at - goal.at) ≤ 8192
  inside = omega (arith, sum, m, ends, l)

  row-long : length row ≡ all.at
  row-long = length-take-le (goal.at + (all.at - goal.at)) out₂ (omega (arith, inside, long)) ∙ sum

  are : nodes row ≡ number [] G ++ number (seen_after [] G) A
  are = ap (λ i. nodes (take i out₂)) sum ∙ both.is [] (no_names (table names) (back names)) ∙ number_append [] G A

  goal-length : length (number [] G) ≡ goal.at
  goal-length = omega (arith, number-length [] G, front.at)

  goal_nodes : nodes (take goal.at row) ≡ number [] G
  goal_nodes = nodes-take goal.at row ∙ ap (take goal.at) are ∙ take_at (number [] G) (number (seen_after [] G) A) goal.at goal-length

  answer_nodes : nodes (drop goal.at row) ≡ number (seen_after [] G) A
  answer_nodes = nodes-drop goal.at row ∙ ap (drop goal.at) are ∙ drop_at (number [] G) (number (seen_after [] G) A) goal.at goal-length

  fit : Fits 8192 row
  fit = subst (λ i. Fits 8192 (take i out₂)) (inv sum) (both.fits 8192 (omega (arith, y.few m, m, ends, l)) (nothing-fits 8192 out))

  goal_fit : Fits 4096 (take goal.at row)
  goal_fit i j = record {
    valid = (each_take (Fit 8192) goal.at row fit i j).valid;
    below = λ k. in-fits 4096 (get_or (take goal.at row) i 0 % 65536) (take goal.at out₁) (front.fits 4096 (omega (arith, x.few l, l)) (nothing-fits 4096 out))
        (subst (In (get_or (take goal.at row) i 0 % 65536)) (goal_nodes ∙ inv (front.is [] (no_names (table names) (back names)))) (in_words (take goal.at row) i j k));
  }

  goal_is : number [] G ≡ flat g
  goal_is = ap (number []) (inv (goal-flat h)) ∙ inv (flat-number [] (goal_meant h)) ∙ ap flat (held-goal h)

  answer_is : number (seen_after [] G) A ≡ flat a
  answer_is =
      ap₂ (λ i j. number i j) (ap (seen_after []) (inv (goal-flat h)) ∙ seen-flat [] (goal_meant h)) (inv (answer-flat h)) ∙ inv (flat-number (seen_all [] (goal_meant h)) (answer_meant h)) ∙ ap flat (held-answer h)

  row-shown : RowIn row goal.at s.formulas g a × (goal.at + (all.at - goal.at) ≤ 8192)
  row-shown = (
    record {
      goal = record {
        formulas = (every-parts (Row 1) g a h.formulas).0;
        atoms = (every-parts Atom g a h.atoms).0;
        is = goal_nodes ∙ goal_is;
        count = h.many;
        few = h.few;
        fit = goal_fit;
        size = omega (arith, length-take-le goal.at row (omega (arith, row-long, goal-first)), l);
      };
      answer = record {
        formulas = (every-parts (Row 1) g a h.formulas).1;
        atoms = (every-parts Atom g a h.atoms).1;
        is = answer_nodes ∙ answer_is;
        count = refl;
        few = omega (arith, h.answer_many, h.answer_few);
        fit = each-drop (Fit 8192) goal.at row fit;
        size = omega (arith, length-drop goal.at row, row-long, m, ends);
      };
      within = omega (arith, row-long, goal-first);
    },
    inside,
  )

-- the same on a heap that is what is in use
pub row_out : {words cells levels heap : List ℕ} {s : Standing} {g a : Goal} → Holds words cells levels s g a → heap ≡ used words s → {names out names₁ out₁ names₂ out₂ : List ℕ} {goal all : Pen}
    → Laid heap cells names out origin (goal_part heap levels s) 4096 names₁ out₁ goal → goal.at ≤ 4096 → {end : ℕ} → end ≡ goal.at + 4096
    → Laid heap cells names₁ out₁ goal (visited heap s.answers s.answer) end names₂ out₂ all → all.at ≤ end → length out₂ ≡ 8192
    → RowIn (take (goal.at + (all.at - goal.at)) out₂) goal.at s.formulas g a × (goal.at + (all.at - goal.at) ≤ 8192)
row_out {words} {cells} {levels} {heap} {s} h e {names} {out} {names₁} {out₁} {names₂} {out₂} {goal} {all} x l {end} ends y m long =
    row-shown h (subst (λ z. Laid z cells names out origin (goal_part z levels s) 4096 names₁ out₁ goal) e x) l ends
    (subst (λ z. Laid z cells names₁ out₁ goal (visited z s.answers s.answer) end names₂ out₂ all) e y) m long

-- Symbols alone, copied, stand for themselves.
pub symbols-laid : (names : List ℕ) {heap cells out out' : List ℕ} {from r : Run} {limit : ℕ} → from.pen ≡ 0 → Copied heap out from limit out' r → r.due ≡ 0
    → Laid heap cells names out origin (visited heap from.due from.at) limit names out' (record { at = r.pen; count = 0 })
symbols-laid names {heap} {cells} {out} {out'} {from} {r} zero x none = record {
  fits = λ l θ h.
      let all : apply θ (rows heap from.due from.at) ≡ x.done =
      x.same θ ∙ ap (λ e. x.done ++ apply θ e) (ap (λ n. rows heap n r.at) none ∙ rows_none heap r.at) ∙ append-nil x.done in
      subst (λ e. Writes names out origin e names out' (record { at = r.pen; count = 0 })) (inv all)
      (subst (λ (n : ℕ). Writes names out (record { at = n; count = 0 }) x.done names out' (record { at = r.pen; count = 0 })) zero (x.written names 0));
  few = λ l. omega arith;
}

-- The first formula.
pub lead-out : {words cells levels heap : List ℕ} {s : Standing} {f : Expr} {g a : Goal} → Holds words cells levels s (f ∷ g) a → heap ≡ used words s → {names out names' out' : List ℕ} {r : Pen}
    → Laid heap cells names out origin (visited heap 1 s.at) 4096 names' out' r → r.at ≤ 4096 → Lead f out' r.at
lead-out {words} {cells} {levels} {heap} {s} {f} h e {names} {out} {names'} {out'} {r} x l =
    let w = (subst (λ z. Laid z cells names out origin (visited z 1 s.at) 4096 names' out' r) e x).fits l h.meaning h.solved in
    let first = apply h.meaning (rows (used words s) 1 s.at) in
    let long : r.at ≡ length f = omega (arith, w.at, number-length [] first, ap length (held_first h)) in
    record {
      is = w.is [] (no_names (table names) (back names)) ∙ held_first h;
      fits = w.fits 4096 (omega (arith, x.few l, l)) (nothing-fits 4096 out);
      long = long;
      some = omega (arith, long, as_long h.formulas.0);
    }

-- The part of the words that is in use, as it is lent.
pub used-part : (words : List ℕ) (s : Standing) → take (s.top - 0) words ≡ used words s
used-part words s = let e : s.top - 0 ≡ s.top = omega arith in ap (λ n. take n words) e

-- Told apart.

module _ {words cells levels : List ℕ} {s : Standing} {f : Expr} {g a : Goal} (h : Holds words cells levels s (f ∷ g) a) (saved : List ℕ) where
  pub least_other : length saved < s.least → f ≡ nodes saved → ⊥
  least_other l e = omega (arith, l, h.leading, ap length e, length-map saved node)

  pub other-held : (heap : List ℕ) → heap ≡ used words s → Other heap cells s.at saved (length saved) → f ≡ nodes saved → ⊥
  other-held heap e o same = subst (λ z. Other z cells s.at saved (length saved)) e o h.meaning h.solved (held_first h ∙ same ∙ ap nodes (inv (take_all (length saved) saved (omega arith))))
