-- The step by a fact that is the goal's first formula: the next goal is the rest, and the answer stays.
use Prim.Native.Nat.{ℕ, ◌-◌, ◌<◌}
use native.Mathlib.Omega.{arith}
use mathlib.Core.Path.{◌≡◌, refl, sym as inv, ap, ap₂, ◌∙◌, subst}
use mathlib.Core.Logic.{inl, inr}
use mathlib.Core.List.{List, [], ◌∷◌, ◌++◌, map, map-append, append-nil, tail-eq_of_cons-eq}
use lib.ListN.{length, take, drop}
use Rattle.terms.specs.Node.{Expr}
use Rattle.terms.specs.Row.{Row, row_end}
use Rattle.terms.specs.Subst.{In, InAny, apply, itself}
use Rattle.terms.specs.SubstLaws.{apply-itself}
use Rattle.terms.specs.Rename.{rename}
use Rattle.terms.specs.RenameLaws.{in-any-rename}
use Rattle.terms.specs.Number.{place, seen_after, number_all, Numbered}
use Rattle.terms.proofs.NumberLaws.{number-is-rename, numbered-beginning}
use Rattle.terms.proofs.VariantLaws.{number-all_idempotent}
use Rattle.search.specs.Next.{Clause, Book, Goal, Resolved, clause_at}
use Rattle.search.specs.Answer.{small}
use Rattle.words.specs.Word.{Valids}
use Rattle.words.specs.Held.{BookOn}
use Rattle.picking.specs.Picking.{Picked}
use Rattle.applying.specs.Applying.{Onward}
use Rattle.applying.proofs.Rooms.{fits_both, small_is}
use Rattle.trials.proofs.Heaps.{own_name, rename-own}
use Rattle.heap.specs.Heap.{Whole}
use Rattle.heap.specs.HeapLaws.{rows_none}
use Rattle.heap.specs.Walking.{Levels}
use Rattle.heap.specs.declared.walking.Walk.{Walk}
use Rattle.bounds.specs.OftenLaws.{seldom-rest}
use Rattle.heapgoals.specs.Holding.{answer_rows, used, Leading, Holds}
use Rattle.heapgoals.specs.HoldLaws.{Fore, rest_rows, held-due, held_rows, first_meant, rest_meant, answer_meant, held_all, held_first}
use Rattle.heapgoals.specs.declared.Standing.{Standing}
use Rattle.attempts.specs.Facts.{Bare, Given}
use Rattle.attempts.proofs.Extending.{part-front}
use Rattle.attempts.proofs.FactLaws.{bare-seen, given-unifies}
use Rattle.treads.specs.Stepping.{Entered, Treads}
use Rattle.std.specs.declared.option.Option.TheVariants.{Some}
use Rattle.treads.proofs.Treading.{held_still, goal-next, answer-next}

-- where the rest of the goal stands
abbrev pub rest_standing : Standing → ℕ → Walk → Standing
rest_standing s formulas w = record {
  at = w.at;
  due = w.due;
  depth = w.depth;
  formulas = formulas;
  answer = s.answer;
  answers = s.answers;
  top = s.top;
  base = s.base;
  nodes = s.nodes;
  found = s.found;
  variables = s.variables;
  most = s.most;
  least = 0;
}

leads : (g : Goal) → Leading 0 g
leads [] = refl
leads (f ∷ g) = omega arith

-- the words in use, as they are lent
abbrev lent : List ℕ → Standing → List ℕ
lent words s = take (s.top - 0) (drop 0 words)

pub rest-ready : {words cells levels : List ℕ} {s : Standing} {f : Expr} {g a : Goal} → Holds words cells levels s (f ∷ g) a → s.depth < 256
    → (Valids (lent words s) × (length (lent words s) < 65536) × Whole (lent words s) s.due s.at × (0 < s.due) × Whole (lent words s) 0 s.top) × (Levels (lent words s) levels s.depth × (s.depth < 256) × (length levels ≡ 1028))
rest-ready {words} {s = s} h deep = rw (part-front s.top words) ((λ x l. (h.made.fits x l).valid, h.made.short, h.front, held-due h, subst (Row 0) (inv (rows_none (used words s) s.top)) row_end), (h.back, deep, h.levels_long))

module _ {words cells levels : List ℕ} {s : Standing} {f : Expr} {g a : Goal} (bare : Bare f) (h : Holds words cells levels s (f ∷ g) a) where
  first-bare : Bare (first_meant h)
  first-bare v i =
      let ρ : ℕ → ℕ = λ w. place w (seen_after [] (first_meant h)) in
      elim (in-any-rename ρ v (first_meant h ∷ []) (inl i)) [ inl j ↦ bare (ρ v) (subst (In (ρ v)) (inv (number-is-rename [] (first_meant h)) ∙ held_first h) j) | inr j ↦ absurd j ]

  rest_all : number_all [] (rest_meant h ++ answer_meant h) ≡ g ++ a
  rest_all = ap (λ seen. number_all seen (rest_meant h ++ answer_meant h)) (inv (bare-seen [] (first_meant h) first-bare)) ∙ tail-eq_of_cons-eq (held_all h)

  pub rest-numbered : Numbered (g ++ a)
  rest-numbered = subst Numbered rest_all (number-all_idempotent (rest_meant h ++ answer_meant h))

  pub rest-held : {levels' : List ℕ} {w : Walk} {p : ℕ} → Entered (lent words s) levels s p 0 levels' w → {n : ℕ} → n ≡ s.formulas - 1 → Holds words cells levels' (rest_standing s n w) g a
  rest-held {levels'} {w} {p} entered many = record {
    inside = h.inside;
    cells_long = h.cells_long;
    levels_long = e.long ∙ h.levels_long;
    made = h.made;
    all = h.all;
    low = h.low;
    new = h.new;
    base_room = h.base_room;
    meaning = h.meaning;
    solved = h.solved;
    front = e.ready.front;
    back = e.ready.back;
    ended = e.ready.ended;
    deep = e.deep;
    behind = h.behind;
    is = ap (λ l. number_all [] (map (apply h.meaning) (l ++ answer_rows (used words s) s))) e.same ∙ ap (number_all []) (map-append (apply h.meaning) (rest_rows (used words s) levels s) (answer_rows (used words s) s)) ∙ rest_all;
    formulas = h.formulas.1;
    atoms = h.atoms.1;
    many = omega (arith, many, h.many);
    goal_many = ap length e.same ∙ omega (arith, h.goal_many, ap length (held_rows h));
    answer_many = h.answer_many;
    few = omega (arith, many, h.few);
    answer_few = h.answer_few;
    goal_nodes = omega (arith, h.goal_nodes);
    answer_nodes = h.answer_nodes;
    goal_room = h.goal_room;
    answer_room = h.answer_room;
    variables = omega (arith, h.variables);
    variables_room = h.variables_room;
    often = seldom-rest h.often;
    often_room = h.often_room;
    leading = leads g;
  }
    where
      e : Entered (used words s) levels s p 0 levels' w
      e = subst (λ l. Entered l levels s p 0 levels' w) (part-front s.top words) entered

-- what is numbered stays as it is where nothing is bound
own-all : (l : Goal) → map (apply itself) (map (rename own_name) l) ≡ l
own-all [] = refl
own-all (e ∷ l) = ap₂ ◌∷◌ (ap (apply itself) (rename-own e) ∙ apply-itself e) (own-all l)

pub given-resolved : {f : Expr} {c : Clause} → Given f c → (l : Goal) → Numbered l → Resolved f l c l
given-resolved {f} {c} x l numbered = record {
  goal_names = own_name;
  clause_names = own_name;
  apart = record { left = λ v w i j e. e; right = λ v w i j e. e; shared = λ v w i j e. none w j };
  unifier = itself;
  general = record { unifies = given-unifies x; general = λ θ u. (θ, u.0, λ v. inv (append-nil (θ v))) };
  result = inv (ap (λ b. number_all [] (map (apply itself) (map (rename own_name) b ++ map (rename own_name) l))) x.body ∙ ap (number_all []) (own-all l) ∙ numbered);
}
  where
    none : (w : ℕ) → InAny w (c.head ∷ c.body) → ⊥
    none w (inl i) = x.bare w (subst (In w) x.head i)
    none w (inr i) = subst (InAny w) x.body i

pub given-gone : {book shelf words cells levels : List ℕ} {P : Book} {s : Standing} {f : Expr} {g a : Goal} → BookOn book shelf P → Holds words cells levels s (f ∷ g) a
    → {i : ℕ} → Picked f P 0 i → i < length P → Given f (clause_at P i) → {words' cells' levels' : List ℕ} → take s.top words' ≡ take s.top words → length words' ≡ length words → cells' ≡ cells → Fore levels levels'
    → {levels'' : List ℕ} {t : Standing} → t.top ≡ s.top → ((cells : List ℕ) (f : Expr) (g a : Goal) → Bare f → Holds words' cells levels' s (f ∷ g) a → Holds words' cells levels'' t g a) → Treads P f g a words' cells' levels'' s (Some t)
given-gone {P = P} {s} {f} {g} {a} o h {i} picked l x {words'} {cells'} kept long same fore {levels''} {t} top held =
    let now = held_still h kept long fore same in
    let numbered = rest-numbered x.bare h in
    let on : Onward f g a (clause_at P i) g a = record { goal = given-resolved x g (numbered-beginning g a numbered); whole = given-resolved x (g ++ a) numbered; as_many = refl } in
    let answer = answer-next o f g a h.formulas picked l g a on in (
      g,
      goal-next o f g a h.formulas picked l g on.goal,
      fits_both g (omega (arith, h.many, h.few)) (omega (arith, h.goal_nodes, h.goal_room)),
      ap small answer ∙ small_is a (omega (arith, h.answer_nodes, h.answer_room)),
      subst (Holds words' cells' levels'' t g) (inv answer) (held cells' f g a x.bare now),
      omega (arith, top),
    )
