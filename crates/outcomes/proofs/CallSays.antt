-- What the pick and the apply call say (document 02, C-16), of bytes and in plain figures: "The pick answers 20, 22, 26 or else 25 with the clause number; it doesn't look at the
-- next goal's size and never writes; its steps are 0. The apply call answers 25 with steps 1 and its clause number and writes the next goal, or is refused and writes nothing. Refusals
-- of the apply call, after the input codes: 20 empty goal, 32 no such clause, 33 head doesn't unify, 24; in this order."
use Rattle.std.specs.Prelude.{ℕ, ◌≤◌, ◌<◌, ◌≡◌, refl, ◌↔◌, List, [], ◌∷◌, ◌++◌, length, drop}
use Rattle.std.proofs.Common.{arith, sym as inv, ap, ◌∙◌, subst}
use Rattle.terms.specs.Node.{Expr}
use Rattle.terms.specs.Row.{Formulas}
use Rattle.search.specs.Next.{Clause, Clauses, Book, Goal, Meets, First, NoneMeets, Resolved, clause_at}
use Rattle.search.specs.Room.{nodes, fits_iff}
use Rattle.search.specs.Known.{Known}
use Rattle.search.specs.KnownLaws.{AtomHeads}
use Rattle.search.specs.Furthest.{Figures, no_figures, Furthest, furthest, stuck_figures, figures, figures_22, figures-other}
use Rattle.search.specs.Told.{TooBig}
use Rattle.search.proofs.TestLaws.{big_iff}
use Rattle.search.specs.Single.{Single, not_taken}
use Rattle.search.specs.Single as Single
use Rattle.search.specs.Pick.{Pick, no_pick, pick, Picks, stuck_22, unknown_26, chosen_25, apply_by, Applies, absent_32, apart_33, full_24, taken_25}
use Rattle.search.specs.Pick as Pick
use Rattle.search.proofs.PickLaws.{pick_iff, apply_iff}
use Rattle.format.specs.Format.{encode_goal, Bytes}
use Rattle.format.specs.Decode.{book_of, goal_of}
use Rattle.format.proofs.Premises.{book-clauses, goal_premises}
use Rattle.outcomes.specs.declared.Picked.{Picked}
use Rattle.outcomes.specs.declared.Stepped.{Stepped}
use Rattle.outcomes.specs.Outcome.{refusal, stepped, leaves, picked_as, pick_said, pick_answer, apply_answer, apply_area}
use Rattle.outcomes.specs.Stepping.{single-taken, single-written}
use Rattle.outcomes.proofs.Calls.{pick-taken}
use Rattle.outcomes.proofs.Images.{Images, images}
use Rattle.outcomes.proofs.Stuck.{good-heads, stuck-says, stuck-one}

-- the pick for q by P, with what it answers
pub data PickSays (P : Book) (q : Goal) : Picked → Type 0 where
  solved : q ≡ [] → PickSays P q (record { code = 20; place = 0; steps = 0; clause = 0; furthest = 0; argument = 0 })
  stuck : (f : Expr) (g : Goal) → q ≡ f ∷ g → NoneMeets f P → Known P f → (w : Figures) → Furthest P f w
      → PickSays P q (record { code = 22; place = 0; steps = 0; clause = 0; furthest = w.clause; argument = w.argument })
  unknown : (f : Expr) (g : Goal) → q ≡ f ∷ g → NoneMeets f P → ¬ Known P f → PickSays P q (record { code = 26; place = 0; steps = 0; clause = 0; furthest = 0; argument = 0 })
  chosen : (f : Expr) (g : Goal) (k : ℕ) (c : Clause) → q ≡ f ∷ g → First f P k c → PickSays P q (record { code = 25; place = 0; steps = 0; clause = k; furthest = 0; argument = 0 })

-- the clause number k of P applied to q, into an area, with what is answered and left
pub data ApplySays (P : Book) (q : Goal) (k : ℕ) (area : List ℕ) : Stepped → List ℕ → Type 0 where
  solved : q ≡ [] → ApplySays P q k area (record { code = 20; place = 0; steps = 0; span = 0; bytes = 0; clause = 0; furthest = 0; argument = 0 }) area
  absent : (f : Expr) (g : Goal) → q ≡ f ∷ g → length P ≤ k → ApplySays P q k area (record { code = 32; place = 0; steps = 0; span = 0; bytes = 0; clause = 0; furthest = 0; argument = 0 }) area
  apart : (f : Expr) (g : Goal) → q ≡ f ∷ g → k < length P → (Meets f (clause_at P k) → ⊥)
      → ApplySays P q k area (record { code = 33; place = 0; steps = 0; span = 0; bytes = 0; clause = 0; furthest = 0; argument = 0 }) area
  full : (f : Expr) (g h : Goal) → q ≡ f ∷ g → k < length P → Resolved f g (clause_at P k) h → TooBig h
      → ApplySays P q k area (record { code = 24; place = 0; steps = 0; span = 0; bytes = 0; clause = 0; furthest = 0; argument = 0 }) area
  went : (f : Expr) (g h : Goal) → q ≡ f ∷ g → k < length P → Resolved f g (clause_at P k) h → length h ≤ 512 → nodes h ≤ 4096
      → ApplySays P q k area (record { code = 25; place = 0; steps = 1; span = 0; bytes = length (encode_goal h); clause = k; furthest = 0; argument = 0 }) (encode_goal h ++ drop (length (encode_goal h)) area)

module _ (P : Book) (heads : AtomHeads P) (clauses : Clauses P) (q : Goal) (formulas : Formulas q) where
  -- with every code but 22 both figures are 0
  bare : (p : Pick) → ¬ (p.code ≡ 22) → picked_as no_figures p ≡ pick_said P q p
  bare p n = ap (λ w. picked_as w p) (inv (figures-other P p.code q n))

  -- and with 22 those of the goal's first formula
  of-first : (f : Expr) (g : Goal) → q ≡ f ∷ g → figures P 22 q ≡ furthest P f
  of-first f g e = figures_22 P q ∙ ap (stuck_figures P) e

  picks-says : (p : Pick) → Picks P q p → PickSays P q (pick_said P q p)
  picks-says p (Pick.solved_20 e) = subst (PickSays P q) (bare (no_pick 20) (λ z. omega arith)) (solved e)
  picks-says p (stuck_22 f g e n k) =
      subst (λ w. PickSays P q (picked_as w (no_pick 22))) (inv (of-first f g e)) (stuck f g e n k (furthest P f) (stuck-says P heads clauses f (subst Formulas e formulas).0 k n))
  picks-says p (unknown_26 f g e n u) = subst (PickSays P q) (bare (no_pick 26) (λ z. omega arith)) (unknown f g e n u)
  picks-says p (chosen_25 f g k c e m) = subst (PickSays P q) (bare (record { code = 25; clause = k }) (λ z. omega arith)) (chosen f g k c e m)

  -- what is said comes of one pick
  record PickedBy (r : Picked) : Type 0 where
    one : Pick
    picks : Picks P q one
    answer : r ≡ pick_said P q one

  says-picks : {r : Picked} → PickSays P q r → PickedBy r
  says-picks (solved e) = record { one = no_pick 20; picks = Pick.solved_20 e; answer = bare (no_pick 20) (λ z. omega arith) }
  says-picks (stuck f g e n k w x) = record {
    one = no_pick 22;
    picks = stuck_22 f g e n k;
    answer = ap (λ v. picked_as v (no_pick 22)) (inv (stuck-one P heads clauses f (subst Formulas e formulas).0 k w x) ∙ inv (of-first f g e));
  }
  says-picks (unknown f g e n u) = record { one = no_pick 26; picks = unknown_26 f g e n u; answer = bare (no_pick 26) (λ z. omega arith) }
  says-picks (chosen f g k c e m) = record { one = record { code = 25; clause = k }; picks = chosen_25 f g k c e m; answer = bare (record { code = 25; clause = k }) (λ z. omega arith) }

module _ (P : Book) (q : Goal) (k : ℕ) (area : List ℕ) where
  applies-says : (s : Single) → Applies P q k s → ApplySays P q k area (stepped no_figures s) (leaves s.written area)
  applies-says s (Pick.solved_20 e) = solved e
  applies-says s (absent_32 f g e l) = absent f g e l
  applies-says s (apart_33 f g e l n) = apart f g e l n
  applies-says s (full_24 f g h e l x b) = full f g h e l x ((big_iff h).0 b)
  applies-says s (taken_25 f g h e l x b) = let room = (fits_iff h).0 b in went f g h e l x room.0 room.1

  record AppliedBy (r : Stepped) (after : List ℕ) : Type 0 where
    one : Single
    applies : Applies P q k one
    answer : r ≡ stepped no_figures one
    left : after ≡ leaves one.written area

  says-applies : {r : Stepped} {after : List ℕ} → ApplySays P q k area r after → AppliedBy r after
  says-applies (solved e) = record { one = not_taken 20; applies = Pick.solved_20 e; answer = refl; left = refl }
  says-applies (absent f g e l) = record { one = not_taken 32; applies = absent_32 f g e l; answer = refl; left = refl }
  says-applies (apart f g e l n) = record { one = not_taken 33; applies = apart_33 f g e l n; answer = refl; left = refl }
  says-applies (full f g h e l x b) = record { one = not_taken 24; applies = full_24 f g h e l x ((big_iff h).1 b); answer = refl; left = refl }
  says-applies (went f g h e l x m n) = record { one = Single.taken k h; applies = taken_25 f g h e l x ((fits_iff h).1 (m, n)); answer = refl; left = refl }

module _ (book query : List ℕ) (book-bytes : Bytes book) (query-bytes : Bytes query) where
  abbrev P : Book
  P = book_of book

  abbrev q : Goal
  q = goal_of query

  -- what the pick answers is said, and what is said it answers
  pub pick-says : (refusal book query 16387).code ≡ 0 → (r : Picked) → (pick_answer book query ≡ r) ↔ PickSays P q r
  pick-says z r = (to, from)
    where
      good : Images book query
      good = images book query book-bytes query-bytes 16387 z

      heads : AtomHeads P
      heads = good-heads P good.good_book

      clauses : Clauses P
      clauses = book-clauses P good.good_book

      formulas : Formulas q
      formulas = (goal_premises q good.good_goal).0

      by_relation : (p : Pick) → (pick P q ≡ p) ↔ Picks P q p
      by_relation = pick_iff P clauses q formulas

      to : pick_answer book query ≡ r → PickSays P q r
      to e = subst (PickSays P q) (inv (pick-taken book query z) ∙ e) (picks-says P heads clauses q formulas (pick P q) ((by_relation (pick P q)).0 refl))

      from : PickSays P q r → pick_answer book query ≡ r
      from s = let o = says-picks P heads clauses q formulas s in pick-taken book query z ∙ ap (pick_said P q) ((by_relation o.one).1 o.picks) ∙ inv o.answer

  module _ (area : List ℕ) (z : (refusal book query (length area)).code ≡ 0) where
    -- what the apply call answers and leaves is said, and what is said it answers and leaves
    pub apply-says : (k : ℕ) (r : Stepped) (after : List ℕ) → ((apply_answer book query k area ≡ r) × (apply_area book query k area ≡ after)) ↔ ApplySays P q k area r after
    apply-says k r after = (to, from)
      where
        good : Images book query
        good = images book query book-bytes query-bytes (length area) z

        by_relation : (s : Single) → (apply_by P q k ≡ s) ↔ Applies P q k s
        by_relation = apply_iff P (book-clauses P good.good_book) q (goal_premises q good.good_goal).0 k

        answered : apply_answer book query k area ≡ stepped no_figures (apply_by P q k)
        answered = single-taken book query area z (stepped no_figures (apply_by P q k))

        left : apply_area book query k area ≡ leaves (apply_by P q k).written area
        left = single-written book query area z (apply_by P q k)

        to : (apply_answer book query k area ≡ r) × (apply_area book query k area ≡ after) → ApplySays P q k area r after
        to e =
            subst (λ x. ApplySays P q k area x after) (inv answered ∙ e.0)
            (subst (ApplySays P q k area (stepped no_figures (apply_by P q k))) (inv left ∙ e.1) (applies-says P q k area (apply_by P q k) ((by_relation (apply_by P q k)).0 refl)))

        from : ApplySays P q k area r after → (apply_answer book query k area ≡ r) × (apply_area book query k area ≡ after)
        from s =
            let o = says-applies P q k area s in
            let same = (by_relation o.one).1 o.applies in
            (answered ∙ ap (stepped no_figures) same ∙ inv o.answer, left ∙ ap (λ (s : Single). leaves s.written area) same ∙ inv o.left)
