-- A row that is written is held where it stands.
use Prim.Native.Nat.{ℕ, zero, suc, ◌+◌, ◌-◌, ◌%◌, ◌<◌, ◌≤◌}
use native.Mathlib.Omega.{arith}
use mathlib.Core.Path.{◌≡◌, refl, sym as inv, ap, ap₂, ◌∙◌, subst}
use mathlib.Core.Logic.{inl, inr}
use mathlib.Core.Bool.{true}
use mathlib.Core.List.{List, [], ◌∷◌, ◌++◌, map, map-append, append_assoc, append-nil}
use lib.ListN.{length, get_or, take, drop, length-append, length-map, length-drop, take-append-drop}
use lib.Seq.{drop_at, drop-drop, length-take-le}
use lib.Dec.{eqb}
use Rattle.terms.specs.Node.{var, sym, Expr}
use Rattle.terms.specs.Row.{Row, row_end, row_var, Formulas}
use Rattle.terms.specs.RowLaws.{row-append, row_cons, first-row, every_append}
use Rattle.terms.specs.Subst.{In, apply, itself}
use Rattle.terms.specs.SubstLaws.{apply-itself}
use Rattle.terms.specs.Cases.{cases}
use Rattle.terms.specs.Number.{place, within, grow, number, number_all}
use Rattle.terms.proofs.NumberLaws.{within-last}
use Rattle.terms.specs.Argument.{firsts}
use Rattle.search.specs.Next.{Goal}
use Rattle.words.specs.Word.{Fit, Fits, Valids, node, nodes}
use Rattle.words.specs.WordLaws.{fits_more, each_append, in_words}
use Rattle.words.specs.Flat.{flat, flat_append, flat-number, flat-size}
use Rattle.heap.specs.Heap.{rows, Made, Solved}
use Rattle.bounds.specs.Places.{places, places_all}
use Rattle.bounds.specs.WeighLaws.{places-few}
use Rattle.bounds.specs.GoalLaws.{places-flat}
use Rattle.bounds.specs.OftenLaws.{seldom-few}
use Rattle.heapgoals.specs.declared.Sides.{Sides}
use Rattle.heapgoals.specs.Holding.{listed, Holds}
use Rattle.heapgoals.specs.Rows.{Sided, Clean}

-- A variable's number by first appearance is below the number of nodes.

place-low : (v : ℕ) (l : List ℕ) → within v l ≡ true → place v l < length l
place-low v [] h = let z : ◌≡◌ {A = ℕ} 0 1 = cc in absurd (omega arith)
place-low v (w ∷ l) h = cases (eqb v w) (λ p. rw (p, place) (omega arith)) (λ p. rw (p, place) (let z = place-low v l (rw (p, within) at h) in omega (arith, z)))

grown : (v : ℕ) (seen : List ℕ) → (place v (grow seen v) < length (grow seen v)) × (length (grow seen v) ≤ suc (length seen))
grown v seen =
    cases (within v seen)
    (λ p. rw (p, grow) (place-low v seen p, omega arith))
    (λ p. rw (p, grow) (place-low v (seen ++ (v ∷ [])) (within-last v seen), omega (arith, length-append seen (v ∷ []))))

number_low : (seen : List ℕ) (e : Expr) (v : ℕ) → In v (number seen e) → v < length seen + length e
number_low seen (var w ∷ e) v (inl p) = let (a, b) = grown w seen in omega (arith, p, a, b)
number_low seen (var w ∷ e) v (inr i) = let (a, b) = grown w seen in omega (arith, number_low (grow seen w) e v i, b)
number_low seen (sym s ∷ e) v i = omega (arith, number_low seen e v i)
number_low seen [] v i = elim i [ ]

-- Formulas one behind the other are as many rows.

flat_rows : (g : Goal) → Formulas g → Row (length g) (flat g)
flat_rows [] p = row_end
flat_rows (f ∷ g) p = row_cons p.0 (flat_rows g p.1)

module _ (heap : List ℕ) (x : Expr) where
  rows_of : (g : Goal) → Formulas g → (n p : ℕ) → n ≡ length g → drop p (nodes heap) ≡ flat g ++ x → rows heap n p ≡ flat g
  rows_of g l n p e is = rw e (ap (firsts (length g)) is ∙ first-row (flat_rows g l) x)

  listed_of : (g : Goal) → Formulas g → (n p : ℕ) → n ≡ length g → drop p (nodes heap) ≡ flat g ++ x → listed heap n p ≡ g
  listed_of [] l zero p e is = refl
  listed_of [] l (suc n) p e is = absurd (omega (arith, e))
  listed_of (f ∷ g) l zero p e is = absurd (omega (arith, e))
  listed_of (f ∷ g) l (suc n) p e is =
      let apart = is ∙ append_assoc f (flat g) x in
      let first : rows heap 1 p ≡ f = ap (firsts 1) apart ∙ first-row l.0 (flat g ++ x) in
      ap₂ ◌∷◌ first (listed_of g l.1 n (p + length (rows heap 1 p)) (omega (arith, e))
      (inv (drop-drop (length (rows heap 1 p)) p (nodes heap)) ∙ ap (drop (length (rows heap 1 p))) apart ∙ drop_at f (flat g ++ x) (length (rows heap 1 p)) (ap length (inv first))))

module _ {row : List ℕ} {x : Sides} {f : Expr} {g a : Goal} (y : Sided row x f g a) where
  row-nodes : nodes row ≡ flat (f ∷ g) ++ flat a
  row-nodes = ap nodes (inv (take-append-drop x.words row)) ∙ map-append node (take x.words row) (drop x.words row) ∙ ap₂ ◌++◌ y.held.goal.is y.held.answer.is

  goal_long : length (take x.words row) ≡ x.words
  goal_long = length-take-le x.words row y.held.within

  pub row_small : length row ≤ 8192
  row_small = omega (arith, y.held.goal.size, y.held.answer.size, goal_long, length-drop x.words row)

  pub row_fits : Fits 8192 row
  row_fits = subst (Fits 8192) (take-append-drop x.words row) (each_append (Fit 8192) (take x.words row) (drop x.words row) (fits_more 4096 8192 (take x.words row) (omega arith) y.held.goal.fit) y.held.answer.fit)

  pub row-valids : Valids row
  row-valids i l = (row_fits i l).valid

  pub goal-inside : x.words ≤ length row
  goal-inside = y.held.within

  numbered-row : number [] (nodes row) ≡ nodes row
  numbered-row = subst (λ e. number [] e ≡ e) (flat_append (f ∷ g) a ∙ inv row-nodes) (inv (flat-number [] ((f ∷ g) ++ a)) ∙ ap flat y.numbered)

  low : Fits (length row) row
  low i l = record {
    valid = row-valids i l;
    below = λ k. omega (arith, number_low [] (nodes row) (get_or row i 0 % 65536) (subst (In (get_or row i 0 % 65536)) (inv numbered-row) (in_words row i l k)), length-map row node);
  }

  goal-words : x.words ≡ length (flat (f ∷ g))
  goal-words = inv goal_long ∙ inv (length-map (take x.words row) node) ∙ ap length y.held.goal.is

  answer-words : length row - x.words ≡ length (flat a)
  answer-words = omega (arith, length-drop x.words row, length-map (drop x.words row) node, ap length y.held.answer.is)

  answer-there : drop x.words (nodes row) ≡ flat a ++ []
  answer-there = ap (drop x.words) row-nodes ∙ drop_at (flat (f ∷ g)) (flat a) x.words (inv goal-words) ∙ inv (append-nil (flat a))

  goal-listed : listed row x.formulas 0 ≡ f ∷ g
  goal-listed = listed_of row (flat a) (f ∷ g) y.held.goal.formulas x.formulas 0 y.held.goal.count row-nodes

  answer-listed : listed row x.answers x.words ≡ a
  answer-listed = listed_of row [] a y.held.answer.formulas x.answers x.words y.answers answer-there

  module _ {words cells levels : List ℕ} (c : Clean row words cells levels) where
    made : Made row cells
    made = record {
      fits = fits_more (length row) (length cells) row (omega (arith, row_small, c.cells_long)) low;
      short = omega (arith, row_small);
      whole = λ v p e. absurd (omega (arith, c.free v, e));
      lower = λ v p e. absurd (omega (arith, c.free v, e));
    }

    solved : Solved row cells itself
    solved = record { solves = record { proper = λ v. row_var row_end; stands = λ v p e. absurd (omega (arith, c.free v, e)) }; free = λ v e. refl }

    unmoved : (l : Goal) → map (apply itself) l ≡ l
    unmoved [] = refl
    unmoved (e ∷ l) = ap₂ ◌∷◌ (apply-itself e) (unmoved l)

    pub stood : (n : ℕ) → n ≡ places (nodes row) → {found : ℕ} → found ≡ length row - x.words → Holds words cells levels (record {
      at = 0;
      due = x.formulas;
      depth = 0;
      formulas = x.formulas;
      answer = x.words;
      answers = x.answers;
      top = length row;
      base = length row;
      nodes = x.words;
      found = found;
      variables = n;
      most = n;
      least = x.first;
    }) (f ∷ g) a
    stood n e {found} d = record {
      inside = c.within;
      cells_long = c.cells_long;
      levels_long = c.levels_long;
      made = rw c.front made;
      all = rw c.front (_, subst (Row _) (inv row-nodes) (row-append (flat_rows (f ∷ g) y.held.goal.formulas) (flat_rows a y.held.answer.formulas)));
      low = rw c.front low;
      new = λ v l. c.free v;
      base_room = omega (arith, row_small);
      meaning = itself;
      solved = rw c.front solved;
      front = rw c.front (subst (Row x.formulas) (inv (rows_of row (flat a) (f ∷ g) y.held.goal.formulas x.formulas 0 y.held.goal.count row-nodes)) (rw y.held.goal.count (flat_rows (f ∷ g) y.held.goal.formulas)));
      back = λ i l. absurd (omega arith);
      ended = λ z. refl;
      deep = omega arith;
      behind = rw c.front (subst (Row x.answers) (inv (rows_of row [] a y.held.answer.formulas x.answers x.words y.answers answer-there)) (rw y.answers (flat_rows a y.held.answer.formulas)));
      is = rw c.front (ap (number_all []) (ap (map (apply itself)) (ap₂ ◌++◌ (append-nil (listed row x.formulas 0) ∙ goal-listed) answer-listed) ∙ unmoved ((f ∷ g) ++ a)) ∙ y.numbered);
      formulas = every_append (Row 1) (f ∷ g) a y.held.goal.formulas y.held.answer.formulas;
      atoms = every_append _ (f ∷ g) a y.held.goal.atoms y.held.answer.atoms;
      many = y.held.goal.count;
      goal_many = rw c.front (ap length (append-nil (listed row x.formulas 0) ∙ goal-listed));
      answer_many = y.answers;
      few = y.held.goal.few;
      answer_few = omega (arith, y.answers, y.held.answer.few);
      goal_nodes = omega (arith, goal-words, flat-size (f ∷ g));
      answer_nodes = omega (arith, answer-words, flat-size a, d);
      goal_room = omega (arith, y.held.goal.size, goal_long);
      answer_room = omega (arith, y.held.answer.size, length-drop x.words row, d);
      variables = places-now;
      variables_room = places_room;
      often = seldom-few ((f ∷ g) ++ a) places-now;
      often_room = places_room;
      leading = omega (arith, y.first);
    }
      where
        places-now : places_all ((f ∷ g) ++ a) ≤ n
        places-now = omega (arith, e, places-flat ((f ∷ g) ++ a), ap places (flat_append (f ∷ g) a ∙ inv row-nodes))

        places_room : n ≤ 8192
        places_room = omega (arith, e, places-few (nodes row), length-map row node, row_small)
