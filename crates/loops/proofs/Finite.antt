-- Where the leftmost formulas of a path are all of a finite list, the path ends or passes a primitive cyclic goal (for document 02, C-20).
--
-- The leftmost formula is followed until it and all that came of it are gone. What is left to see is a list of formulas that have not yet begun a goal which is still
-- being worked off; each step takes one from it, and a formula that is no longer on it has come back below itself, so it is cyclic.
use Rattle.std.specs.Prelude.{ℕ, zero, suc, ◌+◌, ◌-◌, ◌≤◌, ◌<◌, ◌≡◌, refl, ◌⊎◌, List, [], ◌∷◌, ◌++◌, length}
use Rattle.std.proofs.Math.Decide.{dec_lt}
use Rattle.std.proofs.Common.{arith, sym, ap, subst, ◌∙◌, inl, inr, length-append}
use Rattle.std.proofs.Math.Option.{Option, none, some}
use Rattle.loops.specs.Path.{Successor, path, path-zero, path-on, path-sum, carried, alone, front-next}
use Rattle.loops.specs.Cyclic.{CyclicFormula, PrimitiveCyclic, formula-cyclic}
use Rattle.loops.proofs.Theorem.{Passes}

-- x is of the list
abbrev pub Listed : {F : Type 0} → F → List F → Type 0
Listed x [] = ⊥
Listed x (y ∷ l) = (x ≡ y) ⊎ Listed x l

-- the list without x: the others stay
record Without {F : Type 0} (x : F) (l : List F) : Type 0 where
  left : List F
  fewer : length l ≡ suc (length left)
  stays : (y : F) → Listed y l → (y ≡ x) ⊎ Listed y left

without : {F : Type 0} (x : F) (l : List F) → Listed x l → Without x l
without x (z ∷ l) (inl p) = record { left = l; fewer = refl; stays = λ y. elim [ inl e ↦ inl (e ∙ sym p) | inr m ↦ inr m ] }
without x (z ∷ l) (inr m) =
    let r = without x l m in
    record {
      left = z ∷ r.left;
      fewer = ap suc r.fewer;
      stays = λ y. elim [ inl e ↦ inr (inl e) | inr n ↦ elim (r.stays y n) [ inl e ↦ inl e | inr o ↦ inr (inr o) ] ];
    }
without {F = F} x [] x'' = elim x'' [ ]

module _ {F : Type 0} (next : List F → Option (List F)) (laws : Successor next) (q : List F) where
  -- x began the goal of an earlier step, every goal since is longer than what stood behind it, and that is n formulas at most
  record Ancestor (x : F) (t n : ℕ) : Type 0 where
    step : ℕ
    rest : List F
    earlier : step < t
    began : path next step q ≡ some (x ∷ rest)
    low : (j : ℕ) (k : List F) → step ≤ j → j < t → path next j q ≡ some k → length rest < length k
    short : length rest ≤ n

  -- each goal from step b on and before step t has more than n formulas
  abbrev Above : ℕ → ℕ → ℕ → Type 0
  Above n b t = (j : ℕ) (k : List F) → b ≤ j → j < t → path next j q ≡ some k → n < length k

  -- from step t on: the path ends, or passes a primitive cyclic goal, or comes down to n formulas
  data Fate (t n : ℕ) : Type 0 where
    ends : (u : ℕ) (g : List F) → path next u q ≡ some g → next g ≡ none → Fate t n
    circle : Passes next q (PrimitiveCyclic next) → Fate t n
    down : (u : ℕ) (g : List F) → t ≤ u → path next u q ≡ some g → length g ≡ n → Above n t u → Fate t n

  -- x begins a goal of the path
  abbrev pub Leads : F → Type 0
  Leads x = (u : ℕ) × (g : List F) × (path next u q ≡ some (x ∷ g))

  -- each formula that leads is on the list, or leads a goal that is still being worked off at step t, above n formulas
  abbrev Seen : List F → ℕ → ℕ → Type 0
  Seen l t n = (x : F) → Leads x → Listed x l ⊎ Ancestor x t n

  -- what becomes of a leftmost formula, by the formulas of l that may still come
  abbrev WorkedOff : List F → Type 0
  WorkedOff l = (t : ℕ) (a : F) (g : List F) → path next t q ≡ some (a ∷ g) → Seen l t (length g) → Fate t (length g)

  -- a formula that comes back below itself is cyclic
  below-itself : (x : F) (g : List F) (t : ℕ) → path next t q ≡ some (x ∷ g) → Ancestor x t (length g) → Passes next q (PrimitiveCyclic next)
  below-itself x g t e a = (t, x ∷ g, t - m, e, (x, g, refl, cyclic))
    where
      m : ℕ
      m = a.step

      since : (j i : ℕ) → m + j ≡ i → path next i q ≡ path next j (x ∷ a.rest)
      since j i s = path-sum next m j i q (x ∷ a.rest) s a.began

      cyclic : CyclicFormula next x (t - m)
      cyclic =
          let p = sym (since (t - m) t (omega (arith, a.earlier))) ∙ e in
          let h = alone next laws (t - m) (x ∷ []) a.rest (x ∷ g, p) (λ j k c d. a.low (m + j) k (omega arith) (omega arith) (since j (m + j) refl ∙ d)) in
          let d = carried next laws (t - m) (x ∷ []) h.0 a.rest (x ∷ g) h.1 p in
          formula-cyclic next x g h.0 d.0 (t - m) (omega (arith, a.earlier)) h.1 d.1 (omega (arith, d.2, a.short))

  -- a goal taken down to `floor` formulas, one formula after the other
  clear : (l : List F) → WorkedOff l → (floor b start : ℕ) → ((t n : ℕ) → start ≤ t → floor ≤ n → Above floor b t → Seen l t n)
      → (n t : ℕ) (h : List F) → b ≤ start → start ≤ t → path next t q ≡ some h → length h ≡ floor + n → Above floor b t → Fate b floor
  clear l follow floor b start seen zero t h v w e c above = down t h (omega arith) e (omega arith) above
  clear l follow floor b start seen (suc n) t [] v w e c above = absurd (omega arith)
  clear l follow floor b start seen (suc n) t (a ∷ g) v w e c above =
      elim (follow t a g e (seen t (length g) w (omega arith) above)) [
        | ends u k d f ↦ ends u k d f
        | circle p ↦ circle p
        | down u k x d f low ↦
            clear l follow floor b start seen n u k v (omega arith) d (omega arith)
            (λ j i y z o. elim (dec_lt j t) [ yes s ↦ above j i y s o | no s ↦ omega (arith, low j i (omega arith) z o) ])
      ]

  -- one step from a formula that does not stand above itself
  module _ (l : List F) (t : ℕ) (a : F) (g : List F) (e : path next t q ≡ some (a ∷ g)) (seen : Seen l t (length g)) (r : Without a l) where
    still : (x : F) (u n : ℕ) → t < u → length g ≤ n → Above (length g) t u → Ancestor x t (length g) → Ancestor x u n
    still x u n b c above y = record {
      step = y.step;
      rest = y.rest;
      earlier = omega (arith, y.earlier);
      began = y.began;
      low = λ j k v w z. elim (dec_lt j t) [ yes s ↦ y.low j k v s z | no s ↦ omega (arith, above j k (omega arith) w z, y.short) ];
      short = omega (arith, y.short);
    }

    this : (u n : ℕ) → t < u → length g ≤ n → Above (length g) t u → Ancestor a u n
    this u n b c above = record { step = t; rest = g; earlier = b; began = e; low = above; short = c }

    seen-on : (u n : ℕ) → suc t ≤ u → length g ≤ n → Above (length g) t u → Seen r.left u n
    seen-on u n b c above x lead =
        elim (seen x lead) [
          | inl m ↦ elim (r.stays x m) [ inl p ↦ inr (subst (λ (z : F). Ancestor z u n) (sym p) (this u n b c above)) | inr o ↦ inl o ]
          | inr y ↦ inr (still x u n b c above y)
        ]

    onward : WorkedOff r.left → (o : Option (List F)) → next (a ∷ g) ≡ o → Fate t (length g)
    onward follow none d = ends t (a ∷ g) e d
    onward follow (some h) d =
        let b = front-next next laws (a ∷ []) g h (omega arith) d in
        let f = laws.front (a ∷ []) b.0 b.1 g in
        let same : h ≡ b.0 ++ f.0 = cc in
        clear r.left follow (length g) t (suc t) seen-on (length b.0) (suc t) h (omega arith) (omega arith) (path-on next t q (a ∷ g) e ∙ d)
        (omega (arith, ap length same, length-append b.0 f.0, f.2))
        (λ j i x y z. let o : j ≡ t = omega arith in let s : i ≡ a ∷ g = cc in omega (arith, ap length s))

  -- by how many formulas the list has at most
  fate : (k : ℕ) (l : List F) → length l ≤ k → WorkedOff l
  fate zero l c t a g e seen = elim (seen a (t, g, e)) [ inl m ↦ absurd (omega (arith, c, (without a l m).fewer)) | inr x ↦ circle (below-itself a g t e x) ]
  fate (suc k) l c t a g e seen =
      elim (seen a (t, g, e)) [
        | inl m ↦ (let r = without a l m in onward l t a g e seen r (fate k r.left (omega (arith, c, r.fewer))) (next (a ∷ g)) refl)
        | inr x ↦ circle (below-itself a g t e x)
      ]

  -- the path stops after some steps
  abbrev pub Stops : Type 0
  Stops = (u : ℕ) × (g : List F) × (path next u q ≡ some g) × (next g ≡ none)

  pub ends_or_circles : (l : List F) → ((x : F) → Leads x → Listed x l) → Stops ⊎ Passes next q (PrimitiveCyclic next)
  ends_or_circles l all =
      elim
      (clear l (fate (length l) l (omega arith)) 0 0 0 (λ t n b c above x lead. inl (all x lead)) (length q) 0 q (omega arith) (omega arith) (path-zero next q)
      (omega arith) (λ j k x y z. absurd (omega arith))) [
        | ends u g e d ↦ inl (u, g, e, d)
        | circle p ↦ inr p
        | down u g w e d above ↦ inl (u, g, e, no-next g d)
      ]
    where
      no-next : (g : List F) → length g ≡ 0 → next g ≡ none
      no-next [] d = laws.ends
      no-next (a ∷ g) d = absurd (omega arith)
