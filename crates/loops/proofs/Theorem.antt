-- What a reported loop means, and that every cyclic loop is reported in time (document 001, Lemma 12 and Theorem 1; document 02, C-23).
use Rattle.std.specs.Prelude.{ℕ, zero, suc, ◌+◌, ◌-◌, ◌*◌, ◌≤◌, ◌<◌, max, true, ◌⊎◌, ◌≡◌, refl, List, [], ◌∷◌, ◌++◌, length}
use Rattle.std.proofs.Math.Decide.{dec_lt}
use Rattle.std.proofs.Common.{arith, inl, inr, sym, ap, subst, ◌∙◌}
use Rattle.std.proofs.lemmas.Bool.{false≢true}
use mathlib.Core.HLevel.{Discrete}
use Rattle.std.proofs.Math.Option.{Option, none, some, none-ne-some}
use Rattle.loops.specs.Path.{Successor, path, Goes, path-sum, path-on, carry, carried, alone}
use Rattle.loops.specs.Cyclic.{CyclicFormula, PrimitiveCyclic, Cyclic, formula-cyclic, cyclic-on, endless, cyclic-grows, low-primitive, primitive-low}
use Rattle.loops.specs.Schedule.{scheduled}
use Rattle.loops.proofs.ScheduleLaws.{window}
use Rattle.loops.specs.Detect.{State, Verdict, solved, loop, stuck, go_on, start, Detected, judge, detect, Reported, Judged, judged, detect-zero, detect-on, detect-back}
use Rattle.loops.proofs.Held.{Kept, Held, Sound, Quiet}
use Rattle.loops.proofs.EachState.{detect-sound}

module _ {F : Type 0} (next : List F → Option (List F)) (laws : Successor next) (q : List F) (t l m : ℕ) (a : F) (k : Kept next q t l m a) where
  -- Lemma 11: the path from the save
  since : (j i : ℕ) → m + j ≡ i → path next i q ≡ path next j (a ∷ k.rest)
  since j i s = path-sum next m j i q (a ∷ k.rest) s k.save

  -- before t no goal since the save is shorter
  since-low : (j : ℕ) (g : List F) → m + j < t → path next j (a ∷ k.rest) ≡ some g → length k.rest < length g
  since-low j g b e = omega (arith, k.size, k.low (m + j) g b (λ i c d. k.quiet i (omega arith) d) (since j (m + j) refl ∙ e))

  -- Lemma 12: the saved formula is cyclic where it comes back
  comes_back : (g : List F) → path next t q ≡ some (a ∷ g) → l ≤ length (a ∷ g) → CyclicFormula next a (t - m)
  comes_back g e b =
      let p = sym (since (t - m) t (omega (arith, k.earlier))) ∙ e in
      let h = alone next laws (t - m) (a ∷ []) k.rest (a ∷ g, p) (λ j x c d. since-low j x (omega arith) d) in
      let d = carried next laws (t - m) (a ∷ []) h.0 k.rest (a ∷ g) h.1 p in
      formula-cyclic next a g h.0 d.0 (t - m) (omega (arith, k.earlier)) h.1 d.1 (omega (arith, d.2, k.size))

  -- C-23: no smaller period
  no_smaller : (r : ℕ) → r < t - m → ¬ CyclicFormula next a r
  no_smaller r b c =
      let d = carry next laws r (a ∷ []) (a ∷ c.1) c.2 k.rest in
      k.away (m + r) _ (omega (arith, c.0)) (omega arith) (since r (m + r) refl ∙ d.1)

  -- The proof of Theorem 1, from (B) to (A): a scheduled step u, its goal cyclic with period r, and t as far on as the next scheduled step may be
  module _ (u r : ℕ) (g : List F) (w : scheduled u ≡ true) (v : Quiet u t) (o : t ≡ u + (2 * r - 1)) (e : path next u q ≡ some g) (y : Cyclic next g r) where
    -- a period is not zero
    period : 1 ≤ r
    period = y.4.0

    -- the last save was not before
    not-before : u ≤ m
    not-before = elim (dec_lt m u) [ yes b ↦ absurd (false≢true (sym (k.quiet u b (omega (arith, period))) ∙ w)) | no b ↦ omega arith ]

    -- the goals since are there, and cyclic
    cyclic-since : (j : ℕ) → u ≤ j → (h : List F) × (path next j q ≡ some h) × Cyclic next h r
    cyclic-since j b = let c = cyclic-on next laws (j - u) g r y in (c.0, path-sum next u (j - u) j q g (omega arith) e ∙ c.1, c.2)

    -- the last save was within the first period: a period later no goal is shorter
    not_late : ¬ (u + r ≤ m)
    not_late b =
        let j = m - r in
        let c = cyclic-since j (omega arith) in
        let p = cyclic-grows next laws c.0 (a ∷ k.rest) r c.2 (sym (path-sum next j r m q c.0 (omega arith) c.1) ∙ k.save) in
        let d = (k.low j c.0 (omega (arith, k.earlier)) (λ i x z. v i (omega arith) z) c.1).1 (omega (arith, period)) in
        omega (arith, k.size)

    -- so what it saved is cyclic with period r (Lemma 8)
    returns : CyclicFormula next a r
    returns =
        let c = cyclic-since m not-before in
        let same : c.0 ≡ a ∷ k.rest = cc in
        low-primitive next laws a k.rest r (rw same at c.2) (λ j h b d. since-low j h (omega (arith, not_late)) d)

    -- and it comes back no earlier than now
    now : m + r ≡ t
    now = elim (dec_lt r (t - m)) [ yes b ↦ absurd (no_smaller r b returns) | no b ↦ omega (arith, not_late, k.earlier) ]

    -- so it is back, and its goal is no shorter (Lemma 9)
    back : (h : List F) × (path next t q ≡ some (a ∷ h)) × (l ≤ length (a ∷ h))
    back =
        let c = carry next laws r (a ∷ []) (a ∷ returns.1) returns.2 k.rest in
        let d = primitive-low next laws a k.rest r returns r (a ∷ returns.1 ++ c.0) c.1 in
        (returns.1 ++ c.0, since r t now ∙ c.1, omega (arith, k.size))

module _ {F : Type 0} (next : List F → Option (List F)) (q : List F) where
  -- what a loop of span n, reported at step t in the state s, means
  pub record Loop (t n : ℕ) (s : State F) : Type 0 where
    pub formula : F
    pub rest : List F
    pub here : path next t q ≡ some (formula ∷ rest)
    -- demand 3: searched by itself, the leftmost formula comes back after the span, which is not zero; and the path never ends
    pub cyclic : CyclicFormula next formula n
    pub forever : (k : ℕ) → Goes next k q
    -- C-23: no smaller number is a period of it, and it began the goal at the last save
    pub shortest : (r : ℕ) → r < n → ¬ CyclicFormula next formula r
    pub save : s.from + n ≡ t
    pub others : List F
    pub before : path next s.from q ≡ some (formula ∷ others)
    pub primitive : PrimitiveCyclic next (formula ∷ others) n

  -- the path passes a goal with P, for some period
  abbrev pub Passes : (List F → ℕ → Type 0) → Type 0
  Passes P = (t : ℕ) × (g : List F) × (r : ℕ) × (path next t q ≡ some g) × P g r

  module _ (laws : Successor next) where
    -- Lemma 12
    loop-at : (n : ℕ) (s : State F) → Sound next q s → (d : Detected s) → n ≡ s.step - s.from → Kept next q s.step s.least s.from d.0 → Loop s.step n s
    loop-at n s i d e k =
        let here : path next s.step q ≡ some (d.0 ∷ d.1) = i.here ∙ ap some d.3 in
        let c = comes_back next laws q s.step s.least s.from d.0 k d.1 here (omega (arith, ap length d.3, d.4)) in
        record {
          formula = d.0;
          rest = d.1;
          here = here;
          cyclic = rw e c;
          forever = endless next laws s.step q (d.0 ∷ d.1) (s.step - s.from) here (d.0, [], d.1, refl, c);
          shortest = λ r l. no_smaller next laws q s.step s.least s.from d.0 k r (omega arith);
          save = omega (arith, k.earlier);
          others = k.rest;
          before = k.save;
          primitive = (d.0, k.rest, refl, rw e c);
        }

module _ {F : Type 0} (dec : Discrete F) (next : List F → Option (List F)) (laws : Successor next) (q : List F) where
  -- demand 3, the first half, and C-23
  pub reported-loop : (t n : ℕ) (y : Reported dec next q t n) → Loop next q t n y.0
  reported-loop t n y =
      let s = y.0 in
      let i = detect-sound dec next laws t q s y.1 in
      let j = subst (Judged dec next s) y.2 (judged dec next s) in
      let k = subst (Held next q s.step s.least s.from) j.0.2 i.1.held in
      subst (λ (x : ℕ). Loop next q x n s) i.0 (loop-at next q laws n s i.1 j.0 j.1 k)

  -- a state before another goes on
  pub went_on : (t t' : ℕ) (s s' : State F) → t < t' → detect dec next t q ≡ some s → detect dec next t' q ≡ some s' → (n : State F) × (judge dec next s ≡ go_on n)
  went_on t zero s s' l e f = absurd (omega arith)
  went_on t (suc t') s s' l e f =
      let b = detect-back dec next t' q s' f in
      elim (dec_lt t t') [ yes c ↦ went_on t t' s b.0 c e b.1 | no c ↦ (let o : t ≡ t' = omega arith in (s', cc)) ]

  -- a loop is reported at one step only, so the bound of `complete` is a bound of every report
  pub reported_once : (t n t' n' : ℕ) → Reported dec next q t n → Reported dec next q t' n' → t ≡ t'
  reported_once t n t' n' y y' = omega (arith, first t n t' n' y y', first t' n' t n y' y)
    where
      first : (t n t' n' : ℕ) → Reported dec next q t n → Reported dec next q t' n' → ¬ (t < t')
      first t n t' n' y y' l =
          let w = went_on t t' y.0 y'.0 l y.1 y'.1 in
          let z : ◌≡◌ {A = ℕ} 0 1 = cc in
          omega arith

  -- a state where a loop is detected reports it
  reports : (t : ℕ) (s : State F) → detect dec next t q ≡ some s → Detected s → (n : ℕ) × Reported dec next q t n
  reports t s e d = go (judge dec next s) refl (judged dec next s)
    where
      go : (v : Verdict F) → judge dec next s ≡ v → Judged dec next s v → (n : ℕ) × Reported dec next q t n
      go solved f j = absurd (omega (arith, ap length j, ap length d.3))
      go stuck f j = absurd (j.1 d)
      go (loop n) f j = (n, (s, e, f))
      go (go_on s') f j = absurd (j.1 d)

  module _ (e : (k : ℕ) → Goes next k q) where
    -- on a path that never ends no state is solved or stuck
    state-goes-on : (t : ℕ) (s : State F) → detect dec next t q ≡ some s → ((n : ℕ) × Reported dec next q t n) ⊎ ((s' : State F) × (detect dec next (suc t) q ≡ some s'))
    state-goes-on t s d = go (judge dec next s) refl (judged dec next s)
      where
        more : (h : List F) × (next s.goal ≡ some h)
        more =
            let i = detect-sound dec next laws t q s d in
            let g = e (suc s.step) in
            (g.0, sym (path-on next s.step q s.goal i.1.here) ∙ g.1)

        go : (v : Verdict F) → judge dec next s ≡ v → Judged dec next s v → ((n : ℕ) × Reported dec next q t n) ⊎ ((s' : State F) × (detect dec next (suc t) q ≡ some s'))
        go solved f j = absurd (none-ne-some more.0 (sym laws.ends ∙ ap next (sym j) ∙ more.1))
        go stuck f j = absurd (none-ne-some more.0 (sym j.2 ∙ more.1))
        go (loop n) f j = inl (n, (s, d, f))
        go (go_on s') f j = inr (s', detect-on dec next t q s s' d f)

    -- Lemma 10: at each step there is a state, or a loop was reported before
    reaches : (t : ℕ) → ((t' : ℕ) × (t' < t) × (n : ℕ) × Reported dec next q t' n) ⊎ ((s : State F) × (detect dec next t q ≡ some s))
    reaches zero = inr (start q, detect-zero dec next q)
    reaches (suc t) =
        elim (reaches t) [
          | inl b ↦ inl (b.0, omega arith, b.2, b.3)
          | inr s ↦ elim (state-goes-on t s.0 s.1) [ inl b ↦ inl (t, omega arith, b.0, b.1) | inr n ↦ inr n ]
        ]

  -- a state so far after a scheduled step reports the loop
  caught : (u r t : ℕ) (g : List F) (s : State F) → scheduled u ≡ true → Quiet u t → t ≡ u + (2 * r - 1) → path next u q ≡ some g → Cyclic next g r
      → detect dec next t q ≡ some s → (n : ℕ) × Reported dec next q t n
  caught u r t g s w v o e y d = go s.saved refl i.1.held
    where
      i : (s.step ≡ t) × Sound next q s
      i = detect-sound dec next laws t q s d

      go : (x : Option F) → s.saved ≡ x → Held next q s.step s.least s.from x → (n : ℕ) × Reported dec next q t n
      go none f z = absurd (omega (arith, i.0, y.4.0))
      go (some a) f k =
          let b = back next laws q s.step s.least s.from a k u r g w (λ j x z. v j x (omega (arith, i.0))) (i.0 ∙ o) e y in
          let same : s.goal ≡ a ∷ b.0 = cc (i.1.here, b.1) in
          reports t s d (a, b.0, f, same, omega (arith, ap length same, b.2))

  -- demand 3, the second half: a cyclic goal at step s makes a loop be reported in time
  pub complete : (s r : ℕ) (g : List F) → path next s q ≡ some g → Cyclic next g r → (t : ℕ) × (n : ℕ) × (t ≤ 2 * max s (2 * r - 1) + 2 * r - 2) × Reported dec next q t n
  complete s r g e y =
      let w = window (max s (2 * r - 1)) (omega (arith, y.4.0)) in
      let u = w.start in
      let t = u + (2 * r - 1) in
      let c = cyclic-on next laws (u - s) g r y in
      let p = path-sum next s (u - s) u q g (omega (arith, w.late)) e ∙ c.1 in
      elim (reaches (endless next laws s q g r e y) t) [
        | inl b ↦ (b.0, b.2, omega (arith, b.1, w.soon, y.4.0), b.3)
        | inr d ↦
            let n = caught u r t c.0 d.0 w.on (λ k a b. w.quiet k a (omega (arith, w.late))) refl p c.2 d.1 in
            (t, n.0, omega (arith, w.soon, y.4.0), n.1)
      ]
