-- What is held: where its first formula stands, what its variables are, and what may change without it.
use Rattle.std.specs.Prelude.{ℕ, zero, suc, ◌+◌, ◌*◌, ◌-◌, ◌<◌, ◌≤◌, ◌≡◌, refl, length, get_or, take, drop}
use Rattle.std.proofs.Common.{arith, sym as inv, ap, ap₂, ◌∙◌, subst, inl, inr, take_at, drop_at}
use Rattle.std.proofs.Math.Decide.{dec_lt}
use mathlib.Core.List.{List, [], ◌∷◌, ◌++◌, map, map-append, append-nil, head-eq_of_cons-eq}
use Rattle.std.proofs.lemmas.List.{length-map}
use Rattle.terms.specs.Node.{Expr}
use Rattle.terms.specs.Subst.{In, InAny, apply, itself}
use Rattle.terms.specs.Number.{seen_all, number, number_all}
use Rattle.terms.proofs.NumberLaws.{number-all-append, number-all-length}
use Rattle.search.specs.Next.{Goal}
use Rattle.words.specs.Flat.{flat, flat_append, flat-apply}
use Rattle.heap.specs.Heap.{rows, Whole, bound}
use Rattle.heap.specs.HeapLaws.{first-whole, rest-whole}
use Rattle.heap.proofs.SolvedLaws.{row-free}
use Rattle.heap.specs.Walking.{level_at, level_due, Levels, behind}
use Rattle.heapgoals.specs.declared.Standing.{Standing}
use Rattle.heapgoals.specs.Holding.{listed, waiting, goal_rows, answer_rows, used, Holds}
use Rattle.heapgoals.specs.ListLaws.{listed-flat, waiting-flat, any_append, any-apply, listed-low, waiting-low, meant-low}
use Rattle.heapgoals.specs.Rows.{Cleared}

-- Of levels, the first 514 numbers are the same.
pub record Fore (levels levels' : List ℕ) : Type 0 where
  pub long : length levels' ≡ length levels
  pub same : (i : ℕ) → i < 514 → get_or levels' i 0 ≡ get_or levels i 0

pub fore-same : {levels : List ℕ} → Fore levels levels
fore-same = record { long = refl; same = λ i l. refl }

pub fore-after : {a b c : List ℕ} → Fore a b → Fore b c → Fore a c
fore-after x y = record { long = y.long ∙ x.long; same = λ i l. y.same i l ∙ x.same i l }

module _ {levels levels' : List ℕ} (x : Fore levels levels') where
  pub fore-at : (n : ℕ) → n ≤ 256 → level_at levels' n ≡ level_at levels n
  fore-at n l = x.same (2 * n) (omega (arith, l))

  pub fore-due : (n : ℕ) → n ≤ 256 → level_due levels' n ≡ level_due levels n
  fore-due n l = x.same (2 * n + 1) (omega (arith, l))

  fore-waiting : (heap : List ℕ) (n : ℕ) → n ≤ 256 → waiting heap levels' n ≡ waiting heap levels n
  fore-waiting heap zero l = refl
  fore-waiting heap (suc n) l = ap₂ ◌++◌ (ap₂ (listed heap) (fore-due n (omega arith)) (fore-at n (omega arith))) (fore-waiting heap n (omega arith))

  pub fore-levels : (heap : List ℕ) (n : ℕ) → n ≤ 256 → Levels heap levels n → Levels heap levels' n
  fore-levels heap n l h i j = rw (fore-due i (omega (arith, l, j))) (rw (fore-at i (omega (arith, l, j))) (h i j))

  -- What is held is held still where levels behind them are others,
  pub holds-levels : {words cells : List ℕ} {s : Standing} {g a : Goal} → Holds words cells levels s g a → Holds words cells levels' s g a
  holds-levels {words} {s = s} h =
      let e = ap (λ l. listed (used words s) s.due s.at ++ l) (fore-waiting (used words s) s.depth h.deep) in
      record {
        inside = h.inside;
        cells_long = h.cells_long;
        levels_long = x.long ∙ h.levels_long;
        made = h.made;
        all = h.all;
        low = h.low;
        new = h.new;
        base_room = h.base_room;
        meaning = h.meaning;
        solved = h.solved;
        front = h.front;
        back = fore-levels (used words s) s.depth h.deep h.back;
        ended = h.ended;
        deep = h.deep;
        behind = h.behind;
        is = ap (λ l. number_all [] (map (apply h.meaning) (l ++ answer_rows (used words s) s))) e ∙ h.is;
        formulas = h.formulas;
        atoms = h.atoms;
        many = h.many;
        goal_many = ap length e ∙ h.goal_many;
        answer_many = h.answer_many;
        few = h.few;
        answer_few = h.answer_few;
        goal_nodes = h.goal_nodes;
        answer_nodes = h.answer_nodes;
        goal_room = h.goal_room;
        answer_room = h.answer_room;
        variables = h.variables;
        variables_room = h.variables_room;
        often = h.often;
        often_room = h.often_room;
        leading = h.leading;
      }

-- and where words are others that are not in use.
pub holds-words : {words words' cells levels : List ℕ} {s : Standing} {g a : Goal} → take s.top words' ≡ take s.top words → s.top ≤ length words' → Holds words cells levels s g a → Holds words' cells levels s g a
holds-words {words} {words'} {cells} {levels} {s} {g} {a} e l h = record {
  inside = l;
  cells_long = h.cells_long;
  levels_long = h.levels_long;
  made = rw e h.made;
  all = rw e h.all;
  low = rw e h.low;
  new = h.new;
  base_room = h.base_room;
  meaning = h.meaning;
  solved = rw e h.solved;
  front = rw e h.front;
  back = rw e h.back;
  ended = h.ended;
  deep = h.deep;
  behind = rw e h.behind;
  is = rw e h.is;
  formulas = h.formulas;
  atoms = h.atoms;
  many = h.many;
  goal_many = rw e h.goal_many;
  answer_many = h.answer_many;
  few = h.few;
  answer_few = h.answer_few;
  goal_nodes = h.goal_nodes;
  answer_nodes = h.answer_nodes;
  goal_room = h.goal_room;
  answer_room = h.answer_room;
  variables = h.variables;
  variables_room = h.variables_room;
  often = h.often;
  often_room = h.often_room;
  leading = h.leading;
}

-- Goal and answer by themselves.
module _ {words cells levels : List ℕ} {s : Standing} {g a : Goal} (h : Holds words cells levels s g a) where
  abbrev pub goal_meant : Goal
  goal_meant = map (apply h.meaning) (goal_rows (used words s) levels s)

  abbrev pub answer_meant : Goal
  answer_meant = map (apply h.meaning) (answer_rows (used words s) s)

  parts : number_all [] goal_meant ++ number_all (seen_all [] goal_meant) answer_meant ≡ g ++ a
  parts = inv (number-all-append [] goal_meant answer_meant) ∙ ap (number_all []) (inv (map-append (apply h.meaning) (goal_rows (used words s) levels s) (answer_rows (used words s) s))) ∙ h.is

  long : length (number_all [] goal_meant) ≡ length g
  long = number-all-length [] goal_meant ∙ length-map (goal_rows (used words s) levels s) (apply h.meaning) ∙ h.goal_many

  pub held-goal : number_all [] goal_meant ≡ g
  held-goal = inv (take_at (number_all [] goal_meant) (number_all (seen_all [] goal_meant) answer_meant) (length g) long) ∙ ap (take (length g)) parts ∙ take_at g a (length g) refl

  pub held-answer : number_all (seen_all [] goal_meant) answer_meant ≡ a
  held-answer = inv (drop_at (number_all [] goal_meant) (number_all (seen_all [] goal_meant) answer_meant) (length g) long) ∙ ap (drop (length g)) parts ∙ drop_at g a (length g) refl

  -- as a walk has them
  pub goal-flat : flat goal_meant ≡ apply h.meaning (rows (used words s) s.due s.at) ++ behind (used words s) levels h.meaning s.depth
  goal-flat =
      let first = listed (used words s) s.due s.at in
      ap flat (map-append (apply h.meaning) first (waiting (used words s) levels s.depth))
      ∙ flat_append (map (apply h.meaning) first) (map (apply h.meaning) (waiting (used words s) levels s.depth))
      ∙ ap₂ ◌++◌ (flat-apply h.meaning first ∙ ap (apply h.meaning) (listed-flat (used words s) s.due s.at h.front)) (waiting-flat (used words s) levels h.meaning s.depth h.back)

  pub answer-flat : flat answer_meant ≡ apply h.meaning (rows (used words s) s.answers s.answer)
  answer-flat = flat-apply h.meaning (answer_rows (used words s) s) ∙ ap (apply h.meaning) (listed-flat (used words s) s.answers s.answer h.behind)

  -- their variables are below those that are new, and not bound
  pub meant-below : (v : ℕ) → InAny v (map (apply h.meaning) (goal_rows (used words s) levels s ++ answer_rows (used words s) s)) → v < s.base
  meant-below v i =
      let (u, j, k) = any-apply h.meaning v (goal_rows (used words s) levels s ++ answer_rows (used words s) s) i in
      meant-low h.made h.solved h.low u (source u j) v k
    where
      source : (u : ℕ) → InAny u (goal_rows (used words s) levels s ++ answer_rows (used words s) s) → u < s.base
      source u j = elim (any_append u (goal_rows (used words s) levels s) (answer_rows (used words s) s) j) [
        | inl i ↦ elim (any_append u (listed (used words s) s.due s.at) (waiting (used words s) levels s.depth) i) [
          | inl i ↦ listed-low (used words s) levels h.low u s.due s.at i
          | inr i ↦ waiting-low (used words s) levels h.low u s.depth i
        ]
        | inr i ↦ listed-low (used words s) levels h.low u s.answers s.answer i
      ]

-- The first formula.

-- the rows behind that of the first formula
abbrev pub rest_rows : List ℕ → List ℕ → Standing → Goal
rest_rows heap levels s = listed heap (s.due - 1) (s.at + length (rows heap 1 s.at)) ++ waiting heap levels s.depth

pub rows-due : (heap levels : List ℕ) (s : Standing) → 0 < s.due → goal_rows heap levels s ≡ rows heap 1 s.at ∷ rest_rows heap levels s
rows-due heap levels s l = go s.due l
  where
    go : (n : ℕ) → 0 < n → listed heap n s.at ++ waiting heap levels s.depth ≡ rows heap 1 s.at ∷ (listed heap (n - 1) (s.at + length (rows heap 1 s.at)) ++ waiting heap levels s.depth)
    go zero l = absurd (omega arith)
    go (suc n) l = let e : suc n - 1 ≡ n = omega arith in ap (λ k. rows heap 1 s.at ∷ (listed heap k (s.at + length (rows heap 1 s.at)) ++ waiting heap levels s.depth)) (inv e)

-- a goal with rows due has a first formula
pub held-some : {words cells levels : List ℕ} {s : Standing} {g a : Goal} → Holds words cells levels s g a → 0 < s.due → (f : Expr) × (r : Goal) × (g ≡ f ∷ r)
held-some {words} {levels = levels} {s} {g} h l = go g (omega (arith, h.goal_many, ap length (rows-due (used words s) levels s l)))
  where
    go : (g : Goal) → 0 < length g → (f : Expr) × (r : Goal) × (g ≡ f ∷ r)
    go [] l = absurd (omega arith)
    go (f ∷ r) l = (f, r, refl)

module _ {words cells levels : List ℕ} {s : Standing} {f : Expr} {g a : Goal} (h : Holds words cells levels s (f ∷ g) a) where
  pub held-due : 0 < s.due
  held-due = go s.due refl
    where
      none : s.due ≡ 0 → goal_rows (used words s) levels s ≡ []
      none e = ap₂ (λ k n. listed (used words s) k s.at ++ waiting (used words s) levels n) e (h.ended e)

      go : (n : ℕ) → s.due ≡ n → 0 < s.due
      go zero e = absurd (omega (arith, h.goal_many, ap length (none e)))
      go (suc n) e = omega (arith, e)

  pub held-row : Whole (used words s) 1 s.at
  held-row = first-whole (used words s) (s.due - 1) s.at (subst (λ n. Whole (used words s) n s.at) (omega (arith, held-due)) h.front)

  -- those behind it in its list
  pub held-rest : {q : ℕ} → q ≡ s.at + length (rows (used words s) 1 s.at) → Whole (used words s) (s.due - 1) q
  held-rest e = rest-whole (used words s) (s.due - 1) s.at (subst (λ n. Whole (used words s) n s.at) (omega (arith, held-due)) h.front) e

  pub held_rows : goal_rows (used words s) levels s ≡ rows (used words s) 1 s.at ∷ rest_rows (used words s) levels s
  held_rows = rows-due (used words s) levels s held-due

  -- what they stand for: the first formula, the rest of the goal, and the answer
  abbrev pub first_meant : Expr
  first_meant = apply h.meaning (rows (used words s) 1 s.at)

  abbrev pub rest_meant : Goal
  rest_meant = map (apply h.meaning) (rest_rows (used words s) levels s)

  whole : map (apply h.meaning) (goal_rows (used words s) levels s ++ answer_rows (used words s) s) ≡ first_meant ∷ (rest_meant ++ answer_meant h)
  whole = map-append (apply h.meaning) (goal_rows (used words s) levels s) (answer_rows (used words s) s) ∙ ap (λ l. map (apply h.meaning) l ++ answer_meant h) held_rows

  pub held_all : number_all [] (first_meant ∷ (rest_meant ++ answer_meant h)) ≡ f ∷ (g ++ a)
  held_all = ap (number_all []) (inv whole) ∙ h.is

  pub held_first : number [] first_meant ≡ f
  held_first = head-eq_of_cons-eq held_all

  pub held_low : (v : ℕ) → InAny v (first_meant ∷ (rest_meant ++ answer_meant h)) → v < s.base
  held_low v i = meant-below h v (subst (InAny v) (inv whole) i)

  pub held-free : (v : ℕ) → InAny v (first_meant ∷ (rest_meant ++ answer_meant h)) → bound cells v ≡ 0
  held-free v i =
      let (u, j, k) = any-apply h.meaning v (goal_rows (used words s) levels s ++ answer_rows (used words s) s) (subst (InAny v) (inv whole) i) in
      row-free h.made h.solved v (itself u) (subst (In v) (inv (one u)) k)
    where
      one : (u : ℕ) → apply h.meaning (itself u) ≡ h.meaning u
      one u = append-nil (h.meaning u)

-- Where nothing below the new variables is bound, nothing is.
pub holds-cleared : {words cells levels z : List ℕ} {s : Standing} {g a : Goal} → Holds words cells levels s g a → Cleared cells 0 s.base z → (v : ℕ) → bound z v ≡ 0
holds-cleared {s = s} h x v = elim (dec_lt v s.base) [ yes l ↦ x.inside v (omega arith) l | no n ↦ let far : s.base ≤ v = omega (arith, n) in x.outside v (inr far) ∙ h.new v far ]
