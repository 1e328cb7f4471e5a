-- What a ride finds, and how it goes on.
use Prim.Native.Nat.{ℕ, ◌+◌, ◌≤◌, ◌<◌}
use native.Mathlib.Omega.{arith}
use native.Mathlib.Decide.{dec_lt}
use mathlib.Core.Path.{◌≡◌, refl, sym as inv, ap, ◌∙◌, subst}
use mathlib.Core.Logic.{inl, inr}
use mathlib.Core.Bool.{Bool, true, false, not}
use mathlib.Core.Option.{none, some}
use mathlib.Core.List.{List, [], ◌∷◌}
use lib.ListN.{length, take}
use Rattle.terms.specs.Node.{Expr}
use Rattle.search.specs.Next.{Book, Goal}
use Rattle.words.specs.Word.{Valids, nodes}
use Rattle.matching.specs.TrialLaws.{Free}
use Rattle.words.specs.Held.{RowIn}
use Rattle.detector.specs.Detecting.{due}
use Rattle.states.specs.Visiting.{Visits}
use Rattle.states.proofs.Visits.{written}
use Rattle.heapgoals.specs.Holding.{Holds}
use Rattle.heapgoals.specs.declared.Standing.{Standing}
use Rattle.heapgoals.specs.Rows.{Cleared}
use Rattle.heapgoals.specs.Showing.{Lead}
use Rattle.rides.specs.Riding.{ApartFrom, Arrived, Drawn, ForeseenFrom, KeepsSome, Something}
use Rattle.rides.specs.declared.looking.Along.{Along}

pub kept-valid : (saved : List ℕ) (k : ℕ) → KeepsSome saved k → Valids (take k saved) × (k ≤ length saved)
kept-valid saved k (none, e) = rw e ((λ x l. absurd (omega arith)), omega arith)
kept-valid saved k (some f, e) = ((λ x l. (e.1 x l).valid), e.3)

-- a state that does not close
module _ (words cells levels : List ℕ) (s : Standing) where
  pub first_of : (s.formulas ≡ 0 → ⊥) → (g a : Goal) → Holds words cells levels s g a → (f : Expr) × (r : Goal) × (g ≡ f ∷ r)
  first_of filled [] a h = absurd (filled h.many)
  first_of filled (f ∷ r) a h = (f, r, refl)

  pub some_first : (s.formulas ≡ 0 → ⊥) → Something words cells levels s → (f : Expr) × (g : Goal) × (a : Goal) × Holds words cells levels s (f ∷ g) a
  some_first filled (g, a, h) = let (f, r, e) = first_of filled g a h in (f, r, a, subst (λ y. Holds words cells levels s y a) e h)

  module _ (saved : List ℕ) (x : Along) (filled : s.formulas ≡ 0 → ⊥) (left : x.detector.step ≡ x.budget → ⊥) where
    pub apart-short : s.formulas < x.detector.length → (g a : Goal) → Holds words cells levels s g a → ApartFrom saved x g
    apart-short l g a h = let (f, r, e) = first_of filled g a h in (f, r, e, record { allowed = left; other = inl (omega (arith, l, h.many, ap length e)) })

    pub apart_other : ((f : Expr) (g a : Goal) → Holds words cells levels s (f ∷ g) a → f ≡ nodes (take x.kept saved) → ⊥) → (g a : Goal) → Holds words cells levels s g a → ApartFrom saved x g
    apart_other o g a h =
        let (f, r, e) = first_of filled g a h in
        (f, r, e, record { allowed = left; other = inr (o f r a (subst (λ y. Holds words cells levels s y a) e h)) })

-- the formula that is to be saved
pub drawn-first : (f : Expr) (out : List ℕ) (r : ℕ) (b : Bool) → b ≡ true → r ≤ 4096 → length out ≡ 8192 → Lead f out r → Drawn f out r b
drawn-first f out r b e l n h = rw e (h.is, h.fits, h.some, omega arith)

pub drawn-none : (f : Expr) (out : List ℕ) (r : ℕ) (b : Bool) → b ≡ false → Drawn f out r b
drawn-none f out r b e = rw e tt

-- what is found of a state that does not close
module _ (words cells levels levels' : List ℕ) (s : Standing) (saved : List ℕ) (x : Along)
    (apart : (g a : Goal) → Holds words cells levels s g a → ApartFrom saved x g) (held : (g a : Goal) → Holds words cells levels s g a → Holds words cells levels' s g a) where
  pub open_first : Something words cells levels s → (f : Expr) × (g : Goal) × (a : Goal) × Holds words cells levels' s (f ∷ g) a
  open_first (g, a, h) = let (f, r, e, y) = apart g a h in (f, r, a, subst (λ y. Holds words cells levels' s y a) e (held g a h))

  pub foreseen : (out : List ℕ) (k : ℕ) (b : Bool) → b ≡ due x.detector s.formulas → ((f : Expr) (g a : Goal) → Holds words cells levels' s (f ∷ g) a → Drawn f out k b)
      → (g a : Goal) → Holds words cells levels s g a → ForeseenFrom saved out x g (record { kept = k; due = b })
  foreseen out k b e drawn g a h =
      let (f, r, i, y) = apart g a h in (
        f,
        r,
        i,
        record {
          apart = y;
          due_is = e ∙ ap (due x.detector) (h.many ∙ ap length i);
          drawn = drawn f r a (subst (λ y. Holds words cells levels' s y a) i (held g a h));
        },
      )

pub not-false : (b : Bool) → not b ≡ false → b ≡ true
not-false true e = refl
not-false false e = inv e

-- a state that is written out
pub arrived : {P : Book} {q : Goal} {saved : List ℕ} {g a : Goal} (x : Along) (since : ℕ) (out : List ℕ) (n m w : ℕ) → since ≤ x.detector.step → (x.detector.step ≡ since → ⊥) → length out ≡ 8192
    → Visits P q x.budget saved x.detector x.kept g a → RowIn (take (n + w) out) n m g a × (n + w ≤ 8192)
    → Arrived P q x.budget since saved out (record { detector = x.detector; words = n; answer = w; formulas = m; kept = x.kept })
arrived {P} {q} {saved} {g} {a} x since out n m w l z long v (h, small) = record {
  here = written v out n m w (omega arith) h;
  later = omega (arith, l, z);
}

-- the cells after a ride
pub freed : (words cells levels : List ℕ) (s : Standing) (z : List ℕ) → Something words cells levels s → Cleared cells 0 s.base z → Free z
freed words cells levels s z (g, a, h) c v = elim (dec_lt v s.base) [ yes l ↦ c.inside v (omega arith) l | no n ↦ c.outside v (inr (omega (arith, n))) ∙ h.new v (omega (arith, n)) ]
