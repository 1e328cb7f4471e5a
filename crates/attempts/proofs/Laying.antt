-- A clause laid behind what is held: the trial's start, and what the trial says of the clause.
use Prim.Native.Nat.{ℕ, ◌+◌, ◌-◌, ◌<◌, ◌≤◌}
use native.Mathlib.Omega.{arith}
use mathlib.Core.Path.{◌≡◌, sym as inv, ap, ap₂, ◌∙◌, subst}
use mathlib.Core.Logic.{inl, inr}
use mathlib.Core.List.{List, [], ◌∷◌, ◌++◌, map, map-append, head-eq_of_cons-eq}
use lib.ListN.{length, take, drop, length-append, length-map}
use lib.Seq.{length-take-le, take_at, take-take}
use Rattle.terms.specs.Node.{Expr}
use Rattle.terms.specs.Subst.{In, InAny, Subst, apply, after, itself, Unifies, MostGeneral}
use Rattle.terms.specs.SubstLaws.{apply-on, apply-after, apply-itself, apply-row, in-apply}
use Rattle.terms.specs.Rename.{rename, Apart}
use Rattle.terms.specs.RenameLaws.{rename-row, rename-apply}
use Rattle.terms.specs.Argument.{firsts}
use Rattle.search.specs.Next.{Clause, Goal, Meets}
use Rattle.search.proofs.NextLaws.{carried}
use Rattle.words.specs.Word.{Fit, Fits, node, nodes}
use Rattle.words.specs.WordLaws.{each_append, fits_more, in-fits}
use Rattle.words.specs.Flat.{flat, rename-append}
use Rattle.words.specs.Held.{ClauseIn}
use Rattle.picking.specs.Laying.{moved, Appended}
use Rattle.picking.proofs.Appends.{nodes-moved, fits_moved}
use Rattle.heap.specs.Heap.{rows, Made, Solves, Solved}
use Rattle.heap.specs.HeapLaws.{row_inside}
use Rattle.matching.specs.Meeting.{Equal}
use Rattle.matching.specs.Unifying.{More}
use Rattle.trials.proofs.Heaps.{in_rows, piece, piece-whole}
use Rattle.paths.specs.Binding.{newly}
use Rattle.paths.proofs.Binding.{newly-general, newly-meant}
use Rattle.paths.specs.Naming.{α, stood}
use Rattle.paths.proofs.Naming.{near}
use Rattle.heapgoals.specs.Holding.{used, Holds}
use Rattle.heapgoals.specs.HoldLaws.{held-row, first_meant, rest_meant, answer_meant, held_all, held_low}
use Rattle.heapgoals.specs.declared.Standing.{Standing}
use Rattle.attempts.specs.Trying.{laid, IsSetUp, Attempted, Tested}
use Rattle.attempts.specs.declared.Attempt.{Attempt}
use Rattle.attempts.specs.declared.Attempt.TheVariants.{Fits as Fits-now, Clash, Tired}
use Rattle.attempts.proofs.Extending.{part-front, same_rows, still_whole, still_made, still_solved}

-- variables from `base` on
in-past : (base : ℕ) (e : Expr) (v : ℕ) → In v (rename (λ x. x + base) e) → base ≤ v
in-past base e v i =
    let (w, j, k) = in-apply v (λ x. itself (x + base)) e (subst (In v) (rename-apply (λ x. x + base) e) i) in
    elim k [ inl z ↦ omega (arith, z) | inr z ↦ absurd z ]

module _ {words cells levels : List ℕ} {s : Standing} {f : Expr} {g a : Goal} (h : Holds words cells levels s (f ∷ g) a) (clause : List ℕ) (k b : ℕ) (c : Clause) (q : ClauseIn clause k b c) (room : s.base ≤ 8192) (short : s.top + length clause < 65536) where
  abbrev heap : List ℕ
  heap = used words s

  abbrev pub whole : List ℕ
  whole = laid heap s.base clause

  abbrev moved_by : ℕ → ℕ
  moved_by v = v + s.base

  pub top-is : s.top ≡ length heap
  top-is = inv (length-take-le s.top words h.inside)

  pub whole_length : length whole ≡ s.top + length clause
  whole_length = length-append heap (map (moved s.base) clause) ∙ ap₂ ◌+◌ (inv top-is) (length-map clause (moved s.base))

  abbrev head : Expr
  head = rename moved_by c.head

  abbrev body : Expr
  body = rename moved_by (flat c.body)

  clause-nodes : nodes (map (moved s.base) clause) ≡ head ++ body
  clause-nodes = nodes-moved s.base 64 (omega (arith, room)) clause q.fit ∙ ap (rename moved_by) q.is ∙ rename-append moved_by c.head (flat c.body)

  pub whole-nodes : nodes whole ≡ nodes heap ++ (head ++ body)
  whole-nodes = map-append node heap (map (moved s.base) clause) ∙ ap (λ e. nodes heap ++ e) clause-nodes

  pub whole-fits : (n : ℕ) → n ≤ 64 → Fits n clause → Fits (s.base + n) whole
  whole-fits n l fit = each_append (Fit (s.base + n)) heap (map (moved s.base) clause) (fits_more s.base (s.base + n) heap (omega arith) h.low)
      (subst (λ i. Fits i (map (moved s.base) clause)) (turn n) (fits_moved s.base n (omega (arith, room, l)) clause fit))
    where
      turn : (n : ℕ) → n + s.base ≡ s.base + n
      turn n = omega arith

  heap-rows : s.top ≡ length (nodes heap)
  heap-rows = top-is ∙ inv (length-map heap node)

  pub head-here : rows whole 1 s.top ≡ head
  head-here = piece whole (nodes heap) head body whole-nodes 1 s.top (rename-row moved_by q.formulas.0) heap-rows

  pub whole-made : Made whole cells
  whole-made = still_made heap (map (moved s.base) clause) h.made (subst (λ n. Fits n whole) (inv h.cells_long) (fits_more (s.base + 64) 8256 whole (omega (arith, room)) (whole-fits 64 (omega arith) q.fit))) (omega (arith, whole_length, short))

  pub whole-solved : Solved whole cells h.meaning
  whole-solved = still_solved heap (map (moved s.base) clause) h.made h.solved

  pub set-up : IsSetUp whole cells s
  set-up = record {
    made = whole-made;
    solved = (h.meaning, whole-solved);
    first = still_whole heap (map (moved s.base) clause) 1 s.at (held-row h);
    head = piece-whole whole (nodes heap) head body whole-nodes 1 s.top (rename-row moved_by q.formulas.0) heap-rows;
    low = λ r l w v i. in-fits s.base v heap h.low (in_rows h.all.1 (head ++ body) r (omega (arith, l, heap-rows)) v (subst (λ e. In v (firsts 1 (drop r e))) whole-nodes i));
    inner = λ v p l e. omega (arith, row_inside heap 0 p (h.made.whole v p e), top-is);
    new = h.new;
    fits = whole-fits 64 (omega arith) q.fit;
    room = room;
    small = h.goal_room;
    long = h.cells_long;
  }

  -- the clause has none of the variables that are bound
  pub clause-same : (e : Expr) → apply h.meaning (rename moved_by e) ≡ rename moved_by e
  clause-same e = apply-on h.meaning itself (rename moved_by e) (λ v i. h.solved.free v (h.new v (in-past s.base e v i))) ∙ apply-itself (rename moved_by e)

  first-same : apply h.meaning (rows whole 1 s.at) ≡ first_meant h
  first-same = ap (apply h.meaning) (same_rows heap (map (moved s.base) clause) 1 s.at (held-row h))

  head-same : apply h.meaning (rows whole 1 s.top) ≡ head
  head-same = ap (apply h.meaning) head-here ∙ clause-same c.head

  abbrev names : ℕ → ℕ
  names = α (first_meant h) (rest_meant h) (answer_meant h) f g a (held_all h) s.base (held_low h) c

  apart : Apart names moved_by (f ∷ g) (c.head ∷ c.body)
  apart = near (first_meant h) (rest_meant h) (answer_meant h) f g a (held_all h) s.base (held_low h) c

  first-named : rename names f ≡ first_meant h
  first-named = head-eq_of_cons-eq (stood (first_meant h) (rest_meant h) (answer_meant h) f g a (held_all h) s.base (held_low h) c)

  -- what the trial has bound
  module _ {cells' : List ℕ} (more : More whole cells s.at s.top cells') {θ' : Subst} (s' : Solved whole cells' θ') where
    abbrev pub unifier : Subst
    unifier = newly whole cells cells' whole-made whole-solved s.at s.top more s'

    pub unifier-meant : (e : Expr) → apply unifier (apply h.meaning e) ≡ apply θ' e
    unifier-meant = newly-meant whole cells cells' whole-made whole-solved s.at s.top more s'

    pub general : MostGeneral unifier (first_meant h) head
    general = subst (λ e. MostGeneral unifier e head) first-same (subst (MostGeneral unifier (apply h.meaning (rows whole 1 s.at))) head-same (newly-general whole cells cells' whole-made whole-solved s.at s.top more s'))

    pub meets-there : Meets f c
    meets-there = record {
      goal_names = names;
      clause_names = moved_by;
      apart = record { left = λ v w i j. apart.left v w (one v f g i) (one w f g j); right = λ v w i j. apart.right v w (one v c.head c.body i) (one w c.head c.body j); shared = λ v w i j. apart.shared v w (one v f g i) (one w c.head c.body j) };
      unifier = unifier;
      unifies = subst (λ e. Unifies unifier e head) (inv first-named) general.unifies;
    }
      where
        one : (v : ℕ) (e : Expr) (l : Goal) → InAny v (e ∷ []) → InAny v (e ∷ l)
        one v e l (inl i) = inl i
        one v e l (inr i) = absurd i

  pub none-there : ((τ : Subst) → Solves whole cells τ → ¬ Equal whole τ 1 s.at s.top) → Meets f c → ⊥
  none-there none t =
      let u = carried names moved_by t.goal_names t.clause_names f c.head g c.body apart t.unifier t.unifies in
      let τ = u.0.joint in
      none (after τ h.meaning) (
      record {
        proper = λ v. apply-row τ u.1.0 (h.solved.solves.proper v);
        stands = λ v r e. ap (apply τ) (whole-solved.solves.stands v r e) ∙ apply-after τ h.meaning (rows whole 1 r);
      }
      ) (
      inv (apply-after τ h.meaning (rows whole 1 s.at)) ∙ ap (apply τ) (first-same ∙ inv first-named) ∙ u.1.1 ∙ ap (apply τ) (inv head-same)
      ∙ apply-after τ h.meaning (rows whole 1 s.top)
      )

  pub tested : (words' cells' tables : List ℕ) (r : Attempt) → take (s.top + length clause) words' ≡ whole → Attempted whole cells s cells' tables r → Tested f c heap clause words' cells s cells' tables r
  tested words' cells' tables (Fits-now count size) e (y, w) = (let (θ', s') = y.more.solved h.meaning whole-solved in meets-there y.more s', record { front = e; fitted = y }, w)
  tested words' cells' tables Clash e y = (none-there y.1, y.0)
  tested words' cells' tables Tired e y = y

  -- the clause as it is put there, and lent
  module _ (z : List ℕ) (r : ℕ) (p : Appended words s.top clause s.base z r) where
    end-front : take (s.top + length clause) z ≡ whole
    end-front = ap (λ n. take n z) (inv p.end) ∙ p.front

    lent : take (r - 0) (drop 0 z) ≡ whole
    lent = part-front r z ∙ p.front

    pub row_kept : take s.top z ≡ heap
    row_kept = inv (take-take s.top r z (omega (arith, p.end))) ∙ ap (take s.top) p.front ∙ take_at heap (map (moved s.base) clause) s.top (inv top-is)

    pub lent-set-up : IsSetUp (take (r - 0) (drop 0 z)) cells s
    lent-set-up = subst (λ l. IsSetUp l cells s) (inv lent) set-up

    pub lent-tested : (cells' tables : List ℕ) (v : Attempt) → Attempted (take (r - 0) (drop 0 z)) cells s cells' tables v → Tested f c heap clause z cells s cells' tables v
    lent-tested cells' tables v y = tested z cells' tables v end-front (subst (λ l. Attempted l cells s cells' tables v) lent y)
