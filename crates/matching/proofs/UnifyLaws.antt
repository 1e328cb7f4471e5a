-- Two rows made equal, pair by pair.
use Rattle.std.specs.Prelude.{ℕ, ◌+◌, ◌<◌, ◌≤◌, ◌≡◌, refl, ◌↔◌, List, length}
use Rattle.std.proofs.Common.{arith, sym as inv, ◌∙◌, subst, inl, inr}
use Rattle.terms.specs.Subst.{In, Subst, itself}
use Rattle.terms.specs.SubstLaws.{in-apply}
use Rattle.heap.specs.Heap.{rows, Whole, bound, Made, Solves, Solved}
use Rattle.heap.specs.HeapLaws.{rows_few}
use Rattle.heap.proofs.SolvedLaws.{solved_induction}
use Rattle.matching.specs.Meeting.{Equal}
use Rattle.matching.specs.Binding.{Trailed, trail-none}
use Rattle.matching.specs.Pairs.{EqualLevels, EqualAll, Due, Alike, Behind, Settled, Entered}
use Rattle.matching.proofs.PairLaws.{none-due, first-row-whole}
use Rattle.matching.specs.Unifying.{Unmixed, Begun, Unseen, Stepped, TrailKept, Unified}
use Rattle.matching.proofs.UnseenLaws.{unseen as more-unseen}
use Rattle.matching.specs.declared.pairs.Pairs.{Pairs}
use Rattle.matching.specs.declared.unifying.Trial.{Trial}
use Rattle.matching.specs.declared.unifying.Step.TheVariants as Step
use Rattle.matching.specs.declared.unifying.Tried.TheVariants as Tried

-- some pairs are equal for what is bound now, and those of x are due: for just those solutions of what was bound at the start that make the rows at p and q equal
pub record Unifying (heap cells trail : List ℕ) (t : Trial) (p q : ℕ) (cells' trail' stack : List ℕ) (count fuel : ℕ) (x : Pairs) : Type 0 where
  pub made : Made heap cells'
  pub long : length cells' ≡ length cells
  pub trail_long : length trail' ≡ length trail
  pub grows : (v : ℕ) → bound cells' v ≡ 0 → bound cells v ≡ 0
  pub solved : (θ : Subst) → Solved heap cells θ → (θ' : Subst) × Solved heap cells' θ'
  pub due : Due heap stack x
  pub ended : x.due ≡ 0 → x.depth ≡ 0
  pub just : (τ : Subst) → (Solves heap cells τ × Equal heap τ 1 p q) ↔ (Solves heap cells' τ × EqualAll heap stack τ x)
  pub trailed : (before : List ℕ) → Trailed before cells trail t.base t.count → Trailed before cells' trail' t.base count
  pub unseen : Unseen heap cells cells'
  pub spent : count + fuel ≤ t.count + t.fuel
  pub less : fuel ≤ t.fuel

-- as long as the goal's variables are bound as at the start, they stand for rows before the clause
pub unmixed_while : {heap cells cells' : List ℕ} {t : Trial} → Begun heap cells t → Made heap cells' → ((y : ℕ) → y < t.base → bound cells' y ≡ bound cells y) → Unmixed heap cells' t
unmixed_while {heap} {cells} {cells'} {t} b made as_before none v r high before whole θ s i =
    let (w, j, k) = in-apply v θ (rows heap 1 r) i in
    omega (arith, high, stays w (b.low r before whole w j) v k)
  where
    alone : (y v : ℕ) → In v (itself y) → v ≡ y
    alone y v (inl e) = e
    alone y v (inr e) = absurd e

    stays : (y : ℕ) → y < t.base → (v : ℕ) → In v (θ y) → v < t.base
    stays = solved_induction made s (λ y. y < t.base → (v : ℕ) → In v (θ y) → v < t.base)
        (λ y z l v k. omega (arith, l, alone y v (subst (In v) (s.free y z) k)))
        (λ y p e all l v k.
        let (w, j, m) = in-apply v θ (rows heap 1 p) (subst (In v) (s.solves.stands y p e) k) in
        all w j (b.low p (b.inner y p l (inv (as_before y l) ∙ e)) (made.whole y p e) w j) v m)

-- the trial t, further on
abbrev now : Trial → ℕ → ℕ → Trial
now t count fuel = record { base = t.base; start = t.start; count = count; fuel = fuel }

module _ {heap cells trail : List ℕ} {t : Trial} {p q : ℕ} where
  pub unify-start : {stack : List ℕ} {x : Pairs} → Made heap cells → Alike heap (record { p = p; q = q; due = 1; depth = 0 }) x → Unifying heap cells trail t p q cells trail stack t.count t.fuel x
  unify-start {stack} {x} made a = record {
    made = made;
    long = refl;
    trail_long = refl;
    grows = λ v e. e;
    solved = λ θ s. (θ, s);
    due = record { left = a.left; right = a.right; back = λ i h. absurd (omega (arith, h, a.depth)); room = omega (arith, a.depth) };
    ended = λ e. a.depth;
    just = λ τ. (λ (s, e). (s, ((a.just τ).0 e, subst (EqualLevels heap stack τ) (inv a.depth) tt)), λ (s, e). (s, (a.just τ).1 e.0));
    trailed = λ before b. b;
    unseen = λ θ s n v f h e. e;
    spent = omega arith;
    less = omega arith;
  }

  module _ {cells' trail' stack : List ℕ} {count fuel : ℕ} {x : Pairs} (u : Unifying heap cells trail t p q cells' trail' stack count fuel x) where
    pub unify-kept : TrailKept cells trail t cells' trail' count
    unify-kept = (u.trailed, omega (arith, u.spent), u.long)

    -- the first pair is of rows
    pub first-pair : 0 < x.due → Whole heap 1 x.p × Whole heap 1 x.q
    first-pair l = (first-row-whole heap x.due x.p l u.due.left, first-row-whole heap x.due x.q l u.due.right)

    -- as long as no goal variable is on the trail
    pub still_unmixed : Begun heap cells t → (left : ℕ) → Unmixed heap cells' (now t count left)
    still_unmixed b left none = unmixed_while b u.made as_before b.none
      where
        as_before : (y : ℕ) → y < t.base → bound cells' y ≡ bound cells y
        as_before y l = elim ((u.trailed cells (subst (Trailed cells cells trail t.base) (inv b.none) (trail-none cells trail t.base))).kept y l) [
          | inl e ↦ e
          | inr (z, (j, a, under, e)) ↦ absurd (omega (arith, under, none))
        ]

    pub pair-few : x.due ≤ length heap
    pair-few = rows_few heap x.due x.p u.due.left

    pub unify-end : x.due ≤ 0 → Unified heap cells trail t p q cells' trail' (Tried.Fits count fuel)
    unify-end z = (
      record {
        made = u.made;
        long = u.long;
        grows = u.grows;
        solved = u.solved;
        just = λ τ. (λ y. ((u.just τ).0 y).0, λ y. (u.just τ).1 (y, (none-due heap τ x.p x.q x.due none, subst (EqualLevels heap stack τ) (inv (u.ended none)) tt)));
      },
      unify-kept,
      u.spent,
      u.unseen,
    )
      where
        none : x.due ≡ 0
        none = omega (arith, z)

    -- one pair, and those behind it
    module _ {rest : Pairs} (behind : Behind heap x rest) where
      -- those behind are due
      rest-due : Due heap stack rest
      rest-due = record { left = behind.left; right = behind.right; back = λ i l. u.due.back i (omega (arith, l, behind.depth)); room = omega (arith, u.due.room, behind.depth) }

      split : (τ : Subst) → Solves heap cells' τ → EqualAll heap stack τ x ↔ (Equal heap τ 1 x.p x.q × EqualAll heap stack τ rest)
      split τ s = (
        λ (e, l). let (a, b) = (behind.just τ s.proper).0 e in (a, (b, subst (EqualLevels heap stack τ) (inv behind.depth) l)),
        λ (a, b). ((behind.just τ s.proper).1 (a, b.0), subst (EqualLevels heap stack τ) behind.depth b.1),
      )

      -- it is equal now
      pub unify-done : {cells'' trail'' : List ℕ} {left n less : ℕ} → Stepped heap cells' trail' (now t count left) x.p x.q cells'' trail'' (Step.Done n less) → left < fuel → {y : Pairs} → Settled stack rest y
          → Unifying heap cells trail t p q cells'' trail'' stack n less y
      unify-done (more, kept, small) paid {y} s = record {
        made = more.made;
        long = more.long ∙ u.long;
        trail_long = kept.long ∙ u.trail_long;
        grows = λ v e. u.grows v (more.grows v e);
        solved = λ θ z. let (θ', z') = u.solved θ z in more.solved θ' z';
        due = s.due heap rest-due;
        ended = s.ended heap rest-due;
        just = λ τ. (
          λ a. let (b, c) = (u.just τ).0 a in let (d, e) = (split τ b).0 c in ((more.just τ).0 (b, d), (s.just heap τ).1 e),
          λ (a, b). let (c, d) = (more.just τ).1 a in (u.just τ).1 (c, (split τ c).1 (d, (s.just heap τ).0 b)),
        );
        trailed = λ before z. kept.trailed before (u.trailed before z);
        unseen = λ θ z n v f h e. let (θ', z') = u.solved θ z in more-unseen more (more.solved θ' z').1 n v f h (u.unseen θ z n v f h e);
        spent = omega (arith, u.spent, kept.slow, small, paid);
        less = omega (arith, u.less, small, paid);
      }

      -- its arguments are due
      pub unify-inside : {cells'' trail'' : List ℕ} {left a b k : ℕ} → Stepped heap cells' trail' (now t count left) x.p x.q cells'' trail'' (Step.Inside a b k) → left < fuel → {stack' : List ℕ} {y : Pairs} → Entered stack rest a b k stack' y
          → Unifying heap cells trail t p q cells'' trail'' stack' count left y
      unify-inside (ec, et, some, l, r, args) paid {stack'} {y} s = rw ec (rw et (record {
        made = u.made;
        long = u.long;
        trail_long = u.trail_long;
        grows = u.grows;
        solved = u.solved;
        due = s.due heap rest-due l r;
        ended = λ e. absurd (omega (arith, e, s.count, some));
        just = λ τ. (
          λ z. let (c, d) = (u.just τ).0 z in let (e, f) = (split τ c).0 d in (c, (s.just heap τ).1 ((args τ c).0 e, f)),
          λ (c, d). let (e, f) = (s.just heap τ).0 d in (u.just τ).1 (c, (split τ c).1 ((args τ c).1 e, f)),
        );
        trailed = u.trailed;
        unseen = u.unseen;
        spent = omega (arith, u.spent, paid);
        less = omega (arith, u.less, paid);
      }))

      -- it can't be made equal
      pub unify-clash : {cells'' trail'' : List ℕ} → (cells'' ≡ cells') × (trail'' ≡ trail') × ((τ : Subst) → Solves heap cells' τ → ¬ Equal heap τ 1 x.p x.q) → Unified heap cells trail t p q cells'' trail'' (Tried.Clash count)
      unify-clash (ec, et, none) = rw ec (rw et (unify-kept, λ τ s e. let (a, b) = (u.just τ).0 (s, e) in none τ a ((split τ a).0 b).0, u.unseen))

      pub unify_tired : {cells'' trail'' : List ℕ} → (cells'' ≡ cells') × (trail'' ≡ trail') → Unified heap cells trail t p q cells'' trail'' (Tried.Tired count)
      unify_tired (ec, et) = rw ec (rw et (unify-kept, u.unseen))
