-- The next goal and answer, held on the heap behind whose rows the clause stands.
use Prim.Native.Nat.{ℕ, ◌+◌, ◌-◌, ◌<◌, ◌≤◌}
use native.Mathlib.Omega.{arith}
use mathlib.Core.Path.{◌≡◌, refl, sym as inv, ap, ap₂, ◌∙◌, subst}
use mathlib.Core.Bool.{true}
use mathlib.Core.List.{List, [], ◌∷◌, ◌++◌, map, map-append, append-nil, append_assoc, head-eq_of_cons-eq}
use lib.ListN.{length, take, length-append, length-map}
use lib.Seq.{take-length}
use Rattle.terms.specs.Node.{Expr}
use Rattle.terms.specs.Row.{Row, Formulas}
use Rattle.terms.specs.RowLaws.{row-append, every_map}
use Rattle.terms.specs.Subst.{Subst, apply}
use Rattle.terms.specs.Rename.{rename}
use Rattle.terms.specs.RenameLaws.{rename-row}
use Rattle.terms.specs.Number.{number_all}
use Rattle.terms.proofs.NumberLaws.{number-all-length, number-length}
use Rattle.search.specs.Next.{Clause, Goal}
use Rattle.search.proofs.NextLaws.{resolved-formulas, resolved-atoms}
use Rattle.search.specs.Room.{nodes, fits}
use Rattle.search.specs.Answer.{small}
use Rattle.words.specs.Word.{node, nodes as heap-nodes}
use Rattle.words.specs.Flat.{flat, flat-rename}
use Rattle.words.specs.Held.{ClauseIn}
use Rattle.picking.specs.Laying.{moved}
use Rattle.applying.specs.Applying.{Onward}
use Rattle.applying.proofs.Rooms.{fits_both, small_is}
use Rattle.trials.proofs.Heaps.{flat_rows, piece-whole}
use Rattle.heap.specs.Heap.{rows, Whole, Solved}
use Rattle.heap.specs.declared.walking.Walk.{Walk}
use Rattle.paths.proofs.Naming.{held-step}
use Rattle.bounds.specs.Places.{places_all, Seldom}
use Rattle.bounds.specs.GoalLaws.{numbered-nodes, places-all-number}
use Rattle.bounds.specs.OftenLaws.{seldom-number}
use Rattle.figures.specs.Figures.{first_of}
use Rattle.heapgoals.specs.Holding.{listed, answer_rows, used, Leading, Holds}
use Rattle.heapgoals.specs.ListLaws.{listed-length}
use Rattle.heapgoals.specs.HoldLaws.{rest_rows, held-row, held-rest, held_rows, first_meant, rest_meant, answer_meant, held_all, held_low}
use Rattle.heapgoals.specs.declared.Standing.{Standing}
use Rattle.attempts.specs.Trying.{laid, Fitted}
use Rattle.treads.specs.Stepping.{body_at, body_rows, next_rows, Bounded, Entered}
use Rattle.treads.specs.declared.sizing.Span.{Span}
use Rattle.treads.specs.declared.sizing.Bounds.{Bounds}
use Rattle.attempts.proofs.Extending.{rename-length, same_rows, still_whole, same-listed, same-waiting, listed_here}
use Rattle.attempts.proofs.Laying.{top-is, whole-nodes, whole-solved, clause-same, unifier, unifier-meant, general}

-- the first formula, numbered
lead-number : (n : ℕ) (x y h b : Goal) → h ++ b ≡ number_all [] (x ++ y) → length h ≡ length x → n ≤ length (first_of x) → Leading n h
lead-number n [] y [] b e l z = refl
lead-number n [] y (f ∷ h) b e l z = absurd (omega (arith, l))
lead-number n (e ∷ x) y [] b is l z = absurd (omega (arith, l))
lead-number n (e ∷ x) y (f ∷ h) b is l z = omega (arith, z, ap length (head-eq_of_cons-eq is), number-length [] e)

lead-more : (n : ℕ) (x y : Goal) → n ≤ length (first_of x) → n ≤ length (first_of (x ++ y))
lead-more n [] y z = omega (arith, z)
lead-more n (e ∷ x) y z = z

-- where the next goal stands
abbrev pub next_standing : Standing → ℕ → ℕ → Bounds → Walk → Standing
next_standing s top formulas r w = record {
  at = w.at;
  due = w.due;
  depth = w.depth;
  formulas = formulas;
  answer = s.answer;
  answers = s.answers;
  top = top;
  base = s.base + r.names;
  nodes = r.nodes;
  found = r.found;
  variables = r.variables;
  most = r.most;
  least = r.least;
}

module _ {words before levels : List ℕ} {s : Standing} {f : Expr} {g a : Goal} (h : Holds words before levels s (f ∷ g) a) (clause : List ℕ) (c : Span) (d : Clause) (q : ClauseIn clause (c.head - c.start) c.bodies d) (room : s.base ≤ 8192) (short : s.top + length clause < 65536) where
  abbrev old : List ℕ
  old = used words s

  abbrev behind : List ℕ
  behind = map (moved s.base) clause

  abbrev heap : List ℕ
  heap = laid old s.base clause

  abbrev past : ℕ → ℕ
  past v = v + s.base

  abbrev body : Goal
  body = map (rename past) d.body

  body-formulas : Formulas body
  body-formulas = every_map (Row 1) (rename past) (λ e r. rename-row past r) d.body q.formulas.1

  there : heap-nodes heap ≡ (heap-nodes old ++ rename past d.head) ++ (flat body ++ [])
  there = whole-nodes h clause (c.head - c.start) c.bodies d q room short ∙ ap (λ e. heap-nodes old ++ (rename past d.head ++ e)) (inv (flat-rename past d.body) ∙ inv (append-nil (flat body)))
      ∙ inv (append_assoc (heap-nodes old) (rename past d.head) (flat body ++ []))

  place : body_at s c ≡ length (heap-nodes old ++ rename past d.head)
  place = omega (arith, top-is h clause (c.head - c.start) c.bodies d q room short, length-map old node, length-append (heap-nodes old) (rename past d.head), rename-length past d.head, q.head)

  pub body_is : body_rows heap s c ≡ body
  body_is = listed_here heap (heap-nodes old ++ rename past d.head) body [] c.bodies (body_at s c) there body-formulas (q.body ∙ inv (length-map d.body (rename past))) place

  body-row : Row c.bodies (flat body)
  body-row = subst (λ n. Row n (flat body)) (length-map d.body (rename past) ∙ inv q.body) (flat_rows body body-formulas)

  pub body-whole : Whole heap c.bodies (body_at s c)
  body-whole = piece-whole heap (heap-nodes old ++ rename past d.head) (flat body) [] there c.bodies (body_at s c) body-row place

  pub rest_is : rest_rows heap levels s ≡ rest_rows old levels s
  rest_is =
      ap₂ ◌++◌ (ap (λ e. listed heap (s.due - 1) (s.at + length e)) (same_rows old behind 1 s.at (held-row h)) ∙ same-listed old behind (s.due - 1) (s.at + length (rows old 1 s.at)) (held-rest h refl))
      (same-waiting old behind levels s.depth h.back)

  pub answer_is : answer_rows heap s ≡ answer_rows old s
  answer_is = same-listed old behind s.answers s.answer h.behind

  module _ {cells tables : List ℕ} {count : ℕ} (fitted : Fitted heap before s cells tables count) where
    abbrev pub found : (θ : Subst) × Solved heap cells θ
    found = fitted.more.solved h.meaning (whole-solved h clause (c.head - c.start) c.bodies d q room short)

    abbrev θ : Subst
    θ = found.0

    abbrev pub σ : Subst
    σ = unifier h clause (c.head - c.start) c.bodies d q room short fitted.more found.1

    pub on-clause : (l : Goal) → map (apply θ) (map (rename past) l) ≡ map (apply σ) (map (rename past) l)
    on-clause [] = refl
    on-clause (e ∷ l) = ap₂ ◌∷◌
        (inv (unifier-meant h clause (c.head - c.start) c.bodies d q room short fitted.more found.1 (rename past e)) ∙ ap (apply σ) (clause-same h clause (c.head - c.start) c.bodies d q room short e))
        (on-clause l)

    pub on-rows : (l : Goal) → map (apply θ) l ≡ map (apply σ) (map (apply h.meaning) l)
    on-rows [] = refl
    on-rows (e ∷ l) = ap₂ ◌∷◌ (inv (unifier-meant h clause (c.head - c.start) c.bodies d q room short fitted.more found.1 e)) (on-rows l)

    -- what the next goal and answer stand for
    pub goal_meant : map (apply θ) (next_rows heap levels s c) ≡ map (apply σ) (body ++ rest_meant h)
    goal_meant =
        ap (map (apply θ)) (ap₂ ◌++◌ body_is rest_is) ∙ map-append (apply θ) body (rest_rows old levels s) ∙ ap₂ ◌++◌ (on-clause d.body) (on-rows (rest_rows old levels s))
        ∙ inv (map-append (apply σ) body (rest_meant h))

    pub next-meant : map (apply θ) (answer_rows heap s) ≡ map (apply σ) (answer_meant h)
    next-meant = ap (map (apply θ)) answer_is ∙ on-rows (answer_rows old s)

    pub all-meant : map (apply θ) (next_rows heap levels s c ++ answer_rows heap s) ≡ map (apply σ) (body ++ rest_meant h) ++ map (apply σ) (answer_meant h)
    all-meant = map-append (apply θ) (next_rows heap levels s c) (answer_rows heap s) ∙ ap₂ ◌++◌ goal_meant next-meant

    module _ (r : Bounds) (b : Bounded heap cells levels s c r) (levels' : List ℕ) (w : Walk) (e : Entered heap levels s (body_at s c) c.bodies levels' w) (n : ℕ) (many : n ≡ s.formulas - 1 + c.bodies) (few : n ≤ 512) where
      pub step : (l : Goal) × (m : Goal) × Onward f g a d l m × (l ++ m ≡ number_all [] (map (apply σ) (body ++ (rest_meant h ++ answer_meant h))))
      step = held-step (first_meant h) (rest_meant h) (answer_meant h) f g a (held_all h) s.base (held_low h) d σ (general h clause (c.head - c.start) c.bodies d q room short fitted.more found.1)

      abbrev pub goal : Goal
      goal = step.0

      abbrev pub answer : Goal
      answer = step.1

      parts : goal ++ answer ≡ number_all [] (map (apply σ) (body ++ rest_meant h) ++ map (apply σ) (answer_meant h))
      parts = step.3 ∙ ap (number_all []) (ap (map (apply σ)) (inv (append_assoc body (rest_meant h) (answer_meant h))) ∙ map-append (apply σ) (body ++ rest_meant h) (answer_meant h))

      rest-long : length (rest_meant h) ≡ length g
      rest-long = length-map (rest_rows old levels s) (apply h.meaning) ∙ omega (arith, h.goal_many, ap length (held_rows h))

      answer_long : length answer ≡ length a
      answer_long = step.2.as_many

      goal_long : length goal ≡ length (map (apply σ) (body ++ rest_meant h))
      goal_long =
          omega (
            arith,
            ap length parts,
            length-append goal answer,
            number-all-length [] (map (apply σ) (body ++ rest_meant h) ++ map (apply σ) (answer_meant h)),
            length-append (map (apply σ) (body ++ rest_meant h)) (map (apply σ) (answer_meant h)),
            length-map (answer_meant h) (apply σ),
            length-map (answer_rows old s) (apply h.meaning),
            listed-length old s.answers s.answer,
            h.answer_many,
            answer_long,
          )

      goal-count : length goal ≡ length d.body + length g
      goal-count = goal_long ∙ length-map (body ++ rest_meant h) (apply σ) ∙ length-append body (rest_meant h) ∙ ap₂ ◌+◌ (length-map d.body (rename past)) rest-long

      sizes : (nodes goal ≡ nodes (map (apply σ) (body ++ rest_meant h))) × (nodes answer ≡ nodes (map (apply σ) (answer_meant h)))
      sizes = numbered-nodes goal answer (map (apply σ) (body ++ rest_meant h)) (map (apply σ) (answer_meant h)) parts goal_long

      goal-small : nodes goal ≤ r.nodes
      goal-small = omega (arith, sizes.0, ap nodes goal_meant, b.goal_nodes θ found.1)

      answer-small : nodes answer ≤ r.found
      answer-small = omega (arith, sizes.1, ap nodes next-meant, b.answer_nodes θ found.1)

      pub goes : Onward f g a d goal answer
      goes = step.2

      pub goal-fits : fits goal ≡ true
      goal-fits = fits_both goal (omega (arith, goal-count, many, few, h.many, q.body)) (omega (arith, goal-small, b.goal_room))

      pub answer-fits : small answer ≡ true
      answer-fits = small_is answer (omega (arith, answer-small, b.answer_room))

      whole : take (length heap) heap ≡ heap
      whole = take-length heap

      pub next-held : Holds heap cells levels' (next_standing s (length heap) n r w) goal answer
      next-held = record {
        inside = omega arith;
        cells_long = fitted.more.long ∙ h.cells_long;
        levels_long = e.long ∙ h.levels_long;
        made = rw whole fitted.more.made;
        all = rw whole (_, subst (Row _) (inv there) (row-append (row-append h.all.1 (rename-row past q.formulas.0)) (subst (Row _) (inv (append-nil (flat body))) (flat_rows body body-formulas))));
        low = rw whole b.below;
        new = λ v l. fitted.unseen h.meaning (whole-solved h clause (c.head - c.start) c.bodies d q room short) (s.base + r.names) v b.below l (h.new v (omega (arith, l)));
        base_room = omega (arith, room, b.few);
        meaning = θ;
        solved = rw whole found.1;
        front = rw whole e.ready.front;
        back = rw whole e.ready.back;
        ended = e.ready.ended;
        deep = e.deep;
        behind = rw whole (still_whole old behind s.answers s.answer h.behind);
        is = rw whole (ap (λ l. number_all [] (map (apply θ) (l ++ answer_rows heap s))) e.same ∙ ap (number_all []) all-meant ∙ inv parts);
        formulas = resolved-formulas f (g ++ a) d (goal ++ answer) q.formulas.1 h.formulas.1 goes.whole;
        atoms = resolved-atoms f (g ++ a) d (goal ++ answer) q.atoms.1 h.atoms.1 goes.whole;
        many = omega (arith, goal-count, many, h.many, q.body);
        goal_many = rw whole (ap length e.same ∙ inv (length-map (next_rows heap levels s c) (apply θ)) ∙ ap length goal_meant ∙ inv goal_long);
        answer_many = h.answer_many ∙ inv answer_long;
        few = few;
        answer_few = h.answer_few;
        goal_nodes = goal-small;
        answer_nodes = answer-small;
        goal_room = b.goal_room;
        answer_room = b.answer_room;
        variables = omega (arith, ap places_all parts, places-all-number [] (map (apply σ) (body ++ rest_meant h) ++ map (apply σ) (answer_meant h)), ap places_all all-meant, b.places θ found.1);
        variables_room = b.places_room;
        often = subst (Seldom r.most) (inv parts) (seldom-number (map (apply σ) (body ++ rest_meant h) ++ map (apply σ) (answer_meant h)) (subst (Seldom r.most) all-meant (b.often θ found.1)));
        often_room = b.often_room;
        leading = lead-number r.least (map (apply σ) (body ++ rest_meant h)) (map (apply σ) (answer_meant h)) goal answer parts goal_long
            (subst (λ x. r.least ≤ length (first_of x)) (inv (map-append (apply θ) (body_rows heap s c) (rest_rows heap levels s)) ∙ goal_meant) (lead-more r.least (map (apply θ) (body_rows heap s c)) (map (apply θ) (rest_rows heap levels s)) (b.leading θ found.1)));
      }
