-- Lemmas 7, 10 and 11 of document 001, each with all its conclusions. What the theorems use of them stands where it is used (Path, Held, Theorem).
use Rattle.std.specs.Prelude.{ℕ, zero, suc, ◌+◌, ◌-◌, ◌≤◌, ◌<◌, true, false, ◌⊎◌, ◌≡◌, refl, List, [], ◌∷◌, ◌++◌, ltb, length}
use Rattle.std.proofs.Math.Decide.{dec_lt}
use Rattle.std.proofs.Common.{arith, inl, inr, sym, ap, ◌∙◌, ltb-false}
use mathlib.Core.HLevel.{Discrete}
use Rattle.std.proofs.Math.Option.{Option, none, some, none-ne-some}
use Rattle.loops.specs.Path.{Successor, path, Goes, path-zero, path-on, path-sum, path-cut, carried, alone}
use Rattle.loops.specs.Schedule.{scheduled}
use Rattle.loops.specs.Detect.{State, start, Verdict, solved, loop, stuck, go_on, leftmost, saves, move, Detected, judge, detect, Judged, judged, detect-zero, detect-on, detect-back}
use Rattle.loops.proofs.Held.{or_false}
use Rattle.loops.proofs.EachState.{detect-sound}

module _ {F : Type 0} (next : List F → Option (List F)) (laws : Successor next) where
  -- a goal with a successor is not empty
  next-full : (g h : List F) → next g ≡ some h → 0 < length g
  next-full [] h e = absurd (none-ne-some h (sym laws.ends ∙ e))
  next-full (a ∷ g) h e = omega arith

  -- a goal of a path that goes further has a successor
  next-within : (r i : ℕ) (g k : List F) → Goes next r g → i < r → path next i g ≡ some k → (h : List F) × (next k ≡ some h)
  next-within r i g k e l p =
      let c = path-cut next (suc i) (r - suc i) r g e.0 (omega arith) e.1 in
      (c.0, sym (path-on next i g k p) ∙ c.1)

  -- v is "the minimal one among the lengths of the goals σ^i(G), i = 0, 1, .., r - 1"
  pub record Least (g : List F) (r v : ℕ) : Type 0 where
    pub at : ℕ
    pub within : at < r
    pub goal : List F
    pub reached : path next at g ≡ some goal
    pub size : length goal ≡ v
    pub low : (j : ℕ) (k : List F) → j < r → path next j g ≡ some k → v ≤ length k

  -- Lemma 7, for a goal that goes r steps. A goal without its last n formulas is a beginning of it before n others.
  module _ (g : List F) (r v : ℕ) (e : Goes next r g) (m : Least g r v) where
    -- "v > 0"
    pub least-positive : 0 < v
    least-positive = let n = next-within r m.at g m.goal e m.within m.reached in omega (arith, next-full m.goal n.0 n.1, m.size)

    -- "G ∈ dom(π^v)"
    pub least-short : v ≤ length g
    least-short = m.low 0 g (omega (arith, m.within)) (path-zero next g)

    module _ (a b : List F) (split : g ≡ a ++ b) where
      -- "π^(v-1)(G) ∈ dom(σ^r)"
      pub least-goes : suc (length b) ≡ v → Goes next r a
      least-goes s =
          alone next laws r a b (e.0, ap (path next r) (sym split) ∙ e.1) (λ j k l p. omega (arith, m.low j k l (ap (path next j) split ∙ p)))

      -- the lengths of what the beginning comes to
      lengths : (i : ℕ) (h k : List F) → path next i a ≡ some h → path next i g ≡ some k → length k ≡ length h + length b
      lengths i h k p d = (carried next laws i a h b k p (ap (path next i) (sym split) ∙ d)).2

      -- "π^v(G) ∉ dom(σ^r)"
      pub least-stops : length b ≡ v → ¬ Goes next r a
      least-stops s f =
          let c = path-cut next m.at (r - m.at) r a f.0 (omega (arith, m.within)) f.1 in
          let n = next-within r m.at a c.0 f m.within c.1 in
          omega (arith, next-full c.0 n.0 n.1, lengths m.at c.0 m.goal c.1 m.reached, m.size)

      -- "|σ^i(π^(v-1)(G))| = 1 for any natural number i which is less than r and satisfies the condition |σ^i(G)| = v"
      pub least-single : suc (length b) ≡ v → (i : ℕ) (h k : List F) → i < r → path next i g ≡ some k → length k ≡ v → path next i a ≡ some h → length h ≡ 1
      least-single s i h k l d z p = omega (arith, lengths i h k p d)

module _ {F : Type 0} (dec : Discrete F) (next : List F → Option (List F)) (laws : Successor next) (q : List F) where
  -- a closing state: "its last component is a terminal goal or a loop is detected at this state"
  abbrev pub ClosesPath : State F → Type 0
  ClosesPath s = (next s.goal ≡ none) ⊎ Detected s

  -- a state that closes not goes on, by its save and the next goal
  on_or_closed : (s : State F) → ClosesPath s ⊎ ((h : List F) × (next s.goal ≡ some h) × (judge dec next s ≡ go_on (move (saves s) s h)))
  on_or_closed s = go (judge dec next s) refl (judged dec next s)
    where
      go : (v : Verdict F) → judge dec next s ≡ v → Judged dec next s v → ClosesPath s ⊎ ((h : List F) × (next s.goal ≡ some h) × (judge dec next s ≡ go_on (move (saves s) s h)))
      go solved f j = inl (inl (ap next j ∙ laws.ends))
      go stuck f j = inl (inl j.2)
      go (loop n) f j = inl (inr j.0)
      go (go_on s') f j = inr (j.2, j.3, f ∙ ap go_on j.4)

  -- Lemma 10

  -- "For each natural number t, either there is a member with first component t in the execution-detection path, or there is a closing member with first component
  -- less than t"
  pub member_or_closed : (t : ℕ) → ((s : State F) × (detect dec next t q ≡ some s)) ⊎ ((u : ℕ) × (s : State F) × (u < t) × (detect dec next u q ≡ some s) × ClosesPath s)
  member_or_closed zero = inl (start q, detect-zero dec next q)
  member_or_closed (suc t) =
      elim (member_or_closed t) [
        | inl m ↦ elim (on_or_closed m.0) [
          | inl c ↦ inr (t, m.0, omega arith, m.1, c)
          | inr n ↦ inl (move (saves m.0) m.0 n.0, detect-on dec next t q m.0 (move (saves m.0) m.0 n.0) m.1 n.2)
        ]
        | inr c ↦ inr (c.0, c.1, omega arith, c.3, c.4)
      ]

  -- "(the member in question is unique in this case)": its first component is t, and there is one state at t
  pub member-one : (t : ℕ) (s s' : State F) → detect dec next t q ≡ some s → detect dec next t q ≡ some s' → s ≡ s'
  member-one t s s' e f = cc

  -- "If a member of the path has first component t then the last component of this member is σ^t(Q)"
  pub member-goal : (t : ℕ) (s : State F) → detect dec next t q ≡ some s → (s.step ≡ t) × (path next t q ≡ some s.goal)
  member-goal t s e = let i = detect-sound dec next laws t q s e in (i.0, ap (λ (n : ℕ). path next n q) (sym i.0) ∙ i.1.here)

  -- "and there is a member with first component t' in the path for each natural number t' less than t"
  pub member-before : (t u : ℕ) (s : State F) → detect dec next t q ≡ some s → u < t → (s' : State F) × (detect dec next u q ≡ some s')
  member-before zero u s e l = absurd (omega arith)
  member-before (suc t) u s e l =
      let b = detect-back dec next t q s e in
      elim (dec_lt u t) [ yes c ↦ member-before t u b.0 b.1 c | no c ↦ (let o : u ≡ t = omega arith in (b.0, ap (λ (n : ℕ). detect dec next n q) o ∙ b.1)) ]

  -- "In case a member of the path has first component t with t ≤ τ0, then the second and the third components of this member are 0 and ε": τ0 is 0
  pub member-first : (s : State F) → detect dec next 0 q ≡ some s → (s.least ≡ 0) × (s.saved ≡ none)
  member-first s e = let o : s ≡ start q = cc (detect-zero dec next q) in (ap (λ (x : State F). x.least) o, ap (λ (x : State F). x.saved) o)

  -- Lemma 11, for a member E at step t that "invokes saving": it does not close, and saves. Its goal G begins with a.
  module _ (t : ℕ) (s : State F) (a : F) (g : List F) (e : detect dec next t q ≡ some s) (f : s.goal ≡ a ∷ g) (saving : saves s ≡ true) (quiet : ¬ Detected s) where
    -- "no member of the execution-detection path with first component strictly between t and t + r invokes saving, and at no such member a loop is detected"
    abbrev pub Undisturbed : ℕ → Type 0
    Undisturbed r = (j : ℕ) (x : State F) → t < j → j < t + r → detect dec next j q ≡ some x → (saves x ≡ false) × (¬ Detected x)

    -- the member ⟨t + r, l', A', σ^r(G)⟩, where l' and A' are the length and the leftmost formula of G
    pub record Member (r : ℕ) : Type 0 where
      pub state : State F
      pub reached : detect dec next (t + r) q ≡ some state
      pub least : state.least ≡ length s.goal
      pub saved : state.saved ≡ some a
      pub goal : path next r s.goal ≡ some state.goal

    -- a state goes on where its goal has a successor and no loop is detected
    goes_by : (u v : ℕ) → suc u ≡ v → (x : State F) (h : List F) → detect dec next u q ≡ some x → next x.goal ≡ some h → ¬ Detected x
        → detect dec next v q ≡ some (move (saves x) x h)
    goes_by u v o x h d n c =
        elim (on_or_closed x) [
          | inl (inl z) ↦ absurd (none-ne-some h (sym z ∙ n))
          | inl (inr z) ↦ absurd (c z)
          | inr m ↦ (
              let same : m.0 ≡ h = cc in
              ap (λ (i : ℕ). detect dec next i q) (sym o) ∙ detect-on dec next u q x (move (saves x) x h) d (m.2 ∙ ap (λ (k : List F). go_on (move (saves x) x k)) same)
              )
        ]

    -- the goal of a later state, from here
    goal-since : (r : ℕ) (x : State F) → detect dec next (t + r) q ≡ some x → path next r s.goal ≡ some x.goal
    goal-since r x d = sym (path-sum next t r (t + r) q s.goal refl (member-goal t s e).1) ∙ (member-goal (t + r) x d).1

    -- "⟨t + r, l', A', σ^r(G)⟩ is a member of the execution-detection path"
    pub member-kept : (r : ℕ) → Goes next (suc r) s.goal → Undisturbed (suc r) → Member (suc r)
    member-kept zero y w =
        let n = next-within next laws 1 0 s.goal s.goal y (omega arith) (path-zero next s.goal) in
        let x = move true s n.0 in
        let d = goes_by t (t + 1) (omega arith) s n.0 e n.1 quiet ∙ ap (λ b. some (move b s n.0)) saving in
        record { state = x; reached = d; least = refl; saved = ap leftmost f; goal = goal-since 1 x d }
    member-kept (suc r) y w =
        let c = path-cut next (suc r) 1 (suc (suc r)) s.goal y.0 (omega arith) y.1 in
        let m = member-kept r (c.0, c.1) (λ j x u v. w j x u (omega arith)) in
        let x = m.state in
        let n = next-within next laws (suc (suc r)) (suc r) s.goal x.goal y (omega arith) m.goal in
        let off = w (t + suc r) x (omega arith) (omega arith) m.reached in
        let z = move false x n.0 in
        let d = goes_by (t + suc r) (t + suc (suc r)) (omega arith) x n.0 m.reached n.1 off.1 ∙ ap (λ b. some (move b x n.0)) off.0 in
        record { state = z; reached = d; least = m.least; saved = m.saved; goal = goal-since (suc (suc r)) z d }

    -- "and the goal whose unique formula is A' belongs to dom(σ^r)"
    pub formula-goes : (r : ℕ) → Goes next (suc r) s.goal → Undisturbed (suc r) → Goes next (suc r) (a ∷ [])
    formula-goes r y w = alone next laws (suc r) (a ∷ []) g (y.0, ap (path next (suc r)) (sym f) ∙ y.1) (λ j k l p. low j k l (ap (path next j) f ∙ p))
      where
        low : (j : ℕ) (k : List F) → j < suc r → path next j s.goal ≡ some k → length g < length k
        low zero k l p = let same : k ≡ a ∷ g = cc (path-zero next s.goal) in omega (arith, ap length same)
        low (suc j) k l p =
            let c = path-cut next (suc j) (r - j) (suc r) s.goal y.0 (omega arith) y.1 in
            let m = member-kept j (c.0, c.1) (λ i x u v. w i x u (omega arith)) in
            let x = m.state in
            let off = (w (t + suc j) x (omega arith) (omega arith) m.reached).0 in
            let long = ltb-false (length x.goal) x.least (or_false (scheduled x.step) (ltb (length x.goal) x.least) off).1 in
            let same : x.goal ≡ k = cc m.goal in
            omega (arith, long, m.least, ap length f, ap length same)
