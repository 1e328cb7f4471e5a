-- The next goal and answer by a clause whose trial the heap holds.
use Prim.Native.Nat.{ℕ, ◌+◌, ◌%◌, ◌<◌, ◌≤◌}
use native.Mathlib.Omega.{arith}
use mathlib.Core.Path.{◌≡◌, refl, sym as inv, ap, ap₂, ◌∙◌, subst}
use mathlib.Core.Bool.{true, false}
use mathlib.Core.List.{List, [], ◌∷◌, ◌++◌}
use lib.ListN.{length, get_or, take, drop, length-drop}
use lib.Seq.{take_at, drop_at, length-take-le}
use Rattle.terms.specs.Node.{Expr}
use Rattle.terms.specs.Subst.{In, Subst, apply, MostGeneral}
use Rattle.terms.specs.SubstLaws.{apply-append}
use Rattle.terms.specs.Rename.{rename, Apart}
use Rattle.terms.specs.Number.{number, seen_after}
use Rattle.terms.proofs.NumberLaws.{number-length}
use Rattle.search.specs.Next.{Clause, Goal, Resolved}
use Rattle.search.specs.Room.{fits}
use Rattle.search.specs.Answer.{small}
use Rattle.words.specs.Word.{Fit, Fits, nodes}
use Rattle.words.specs.WordLaws.{each_take, each-drop, nodes-take, nodes-drop, in_words}
use Rattle.words.specs.Flat.{flat}
use Rattle.words.specs.Held.{RowIn, ClauseIn}
use Rattle.heap.specs.Heap.{rows, Whole}
use Rattle.applying.specs.Applying.{Onward}
use Rattle.applying.proofs.Onwards.{h, b, onward, goal_image, answer_image, goal-flat, answer-flat, goal-size, answer-size, goal-count, goal-formulas, answer-formulas, goal-atoms, answer-atoms}
use Rattle.applying.proofs.Rooms.{fits-not-wide, fits-not-long, fits_both, small-not, small_is}
use Rattle.trials.specs.Trying.{laid}
use Rattle.trying.specs.Carrying.{Placed, goal_part, answer_part, Both}
use Rattle.trying.specs.declared.carrying.Parts.{Parts}
use Rattle.trials.proofs.Heaps.{own_name, past_name, rename-own, rest-here, rest-whole, answer-here, answer-whole, body-here, body-whole, apart-near, apart_far, general-there}

module _ (row clause : List ℕ) (w n k d : ℕ) (f : Expr) (g a : Goal) (c : Clause) (p : RowIn row w n (f ∷ g) a) (q : ClauseIn clause k d c) (x : Parts)
    (at_body : x.body ≡ length row + k) (bodies : x.bodies ≡ d) (at_rest : x.rest ≡ length f) (others : x.others ≡ length g) (at-answer : x.answer ≡ w) (answers : x.answers ≡ length a) where
  abbrev heap : List ℕ
  heap = laid row clause

  body_is : rows heap x.bodies x.body ≡ rename past_name (flat c.body)
  body_is = ap (λ i. rows heap i x.body) bodies ∙ body-here row clause w n k d f g a c p q x.body at_body

  rest_is : rows heap x.others x.rest ≡ flat g
  rest_is = rest-here row clause w n k d f g a c p q x.others x.rest others at_rest

  answer_is : rows heap x.answers x.answer ≡ flat a
  answer_is = ap (rows heap x.answers) at-answer ∙ answer-here row clause w n k d f g a c p q x.answers answers

  pub placed : Placed heap x
  placed = record {
    body = subst (λ i. Whole heap i x.body) (inv bodies) (body-whole row clause w n k d f g a c p q x.body at_body);
    rest = rest-whole row clause w n k d f g a c p q x.others x.rest others at_rest;
    answer = subst (Whole heap x.answers) (inv at-answer) (answer-whole row clause w n k d f g a c p q x.answers answers);
  }

  module _ (θ : Subst) (m : MostGeneral θ (rows heap 1 0) (rows heap 1 (length row))) where
    general : MostGeneral θ (rename own_name f) (rename past_name c.head)
    general = general-there row clause w n k d f g a c p q (length row) refl m

    near : Apart own_name past_name (f ∷ g) (c.head ∷ c.body)
    near = apart-near row clause w n k d f g a c p q

    far : Apart own_name past_name (f ∷ (g ++ a)) (c.head ∷ c.body)
    far = apart_far row clause w n k d f g a c p q

    abbrev next : Goal
    next = h own_name past_name f g a c near far θ general

    abbrev next_answer : Goal
    next_answer = b own_name past_name f g a c near far θ general

    goes : Onward f g a c next next_answer
    goes = onward own_name past_name f g a c near far θ general

    abbrev t : Expr
    t = goal_image own_name past_name f g a c near far θ general

    abbrev u : Expr
    u = answer_image own_name past_name f g a c near far θ general

    goal-same : goal_part heap x θ ≡ t
    goal-same = ap₂ ◌++◌ (ap (apply θ) body_is) (ap (apply θ) (rest_is ∙ inv (rename-own (flat g)))) ∙ inv (apply-append θ (rename past_name (flat c.body)) (rename own_name (flat g)))

    answer-same : answer_part heap x θ ≡ u
    answer-same = ap (apply θ) (answer_is ∙ inv (rename-own (flat a)))

    count : x.bodies + x.others ≡ length next
    count = omega (arith, bodies, others, q.body, goal-count own_name past_name f g a c near far θ general)

    abbrev Fails : Type 0
    Fails = (l : Goal) × Resolved f g c l × (fits l ≡ false)

    pub ends-many : 512 < x.bodies + x.others → Fails
    ends-many l = (next, goes.goal, fits-not-wide next (omega (arith, l, count)))

    pub ends-full : 4096 < length (goal_part heap x θ) → Fails
    ends-full l = (next, goes.goal, fits-not-long next (omega (arith, l, ap length goal-same, goal-size own_name past_name f g a c near far θ general)))

    module _ (few : x.bodies + x.others ≤ 512) where
      fit : length (goal_part heap x θ) ≤ 4096 → fits next ≡ true
      fit l = fits_both next (omega (arith, few, count)) (omega (arith, l, ap length goal-same, goal-size own_name past_name f g a c near far θ general))

      pub ends-over : (length (goal_part heap x θ) ≤ 4096) × (4096 < length (answer_part heap x θ)) → (l : Goal) × (s : Goal) × Onward f g a c l s × (fits l ≡ true) × (small s ≡ false)
      ends-over (l, o) = (next, next_answer, goes, fit l, small-not next_answer (omega (arith, o, ap length answer-same, answer-size own_name past_name f g a c near far θ general)))

      module _ (out : List ℕ) (lo : length out ≡ 8192) (r s : ℕ) (y : Both (goal_part heap x θ) (answer_part heap x θ) out r s) where
        abbrev both : List ℕ
        both = take (r + s) out

        inside : r + s ≤ length out
        inside = omega (arith, lo, y.goal_room, y.answer_room)

        both_long : length both ≡ r + s
        both_long = length-take-le (r + s) out inside

        both-are : nodes both ≡ number [] t ++ number (seen_after [] t) u
        both-are = y.are ∙ ap₂ (λ i j. number [] i ++ number (seen_after [] i) j) goal-same answer-same

        goal-length : length (number [] t) ≡ r
        goal-length = number-length [] t ∙ inv (y.goal_long ∙ ap length goal-same)

        goal_nodes : nodes (take r both) ≡ number [] t
        goal_nodes = nodes-take r both ∙ ap (take r) both-are ∙ take_at (number [] t) (number (seen_after [] t) u) r goal-length

        answer_nodes : nodes (drop r both) ≡ number (seen_after [] t) u
        answer_nodes = nodes-drop r both ∙ ap (drop r) both-are ∙ drop_at (number [] t) (number (seen_after [] t) u) r goal-length

        goal_fit : Fits 4096 (take r both)
        goal_fit i l = record {
          valid = (each_take (Fit 8192) r both y.fit i l).valid;
          below = λ e. y.goal_fit (get_or (take r both) i 0 % 65536) (subst (In (get_or (take r both) i 0 % 65536)) (goal_nodes ∙ ap (number []) (inv goal-same)) (in_words (take r both) i l e));
        }

        held : RowIn both r (x.bodies + x.others) next next_answer
        held = record {
          goal = record {
            formulas = goal-formulas own_name past_name f g a c near far θ general q.formulas.1 p.goal.formulas.1;
            atoms = goal-atoms own_name past_name f g a c near far θ general q.atoms.1 p.goal.atoms.1;
            is = goal_nodes ∙ inv (goal-flat own_name past_name f g a c near far θ general);
            count = count;
            few = few;
            fit = goal_fit;
            size = omega (arith, length-take-le r both (omega (arith, both_long)), y.goal_room);
          };
          answer = record {
            formulas = answer-formulas own_name past_name f g a c near far θ general q.formulas.1 p.goal.formulas.1 p.answer.formulas;
            atoms = answer-atoms own_name past_name f g a c near far θ general q.atoms.1 p.goal.atoms.1 p.answer.atoms;
            is = answer_nodes ∙ inv (answer-flat own_name past_name f g a c near far θ general);
            count = refl;
            few = omega (arith, goes.as_many, p.answer.few);
            fit = each-drop (Fit 8192) r both y.fit;
            size = omega (arith, length-drop r both, both_long, y.answer_room);
          };
          within = omega (arith, both_long);
        }

        pub ends-done : (l : Goal) × (m : Goal) × Onward f g a c l m × (fits l ≡ true) × (small m ≡ true) × RowIn both r (x.bodies + x.others) l m × (r + s ≤ length out)
        ends-done = (
          next,
          next_answer,
          goes,
          fit (omega (arith, y.goal_long, y.goal_room)),
          small_is next_answer (omega (arith, y.answer_long, y.answer_room, ap length answer-same, answer-size own_name past_name f g a c near far θ general)),
          held,
          inside,
        )
