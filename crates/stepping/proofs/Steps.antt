-- From what a clause says to a goal, to what the pick and the apply call give.
use Prim.Native.Nat.{ℕ, ◌≤◌, ◌<◌}
use native.Mathlib.Omega.{arith}
use borrow.Author.Tests.{lt-ltb, le-ltb}
use mathlib.Core.Path.{◌≡◌, refl, ap, ◌∙◌, subst}
use mathlib.Core.List.{List, [], ◌∷◌}
use lib.ListN.{length, take}
use Rattle.terms.specs.Node.{Expr}
use Rattle.search.specs.Next.{Book, Goal, clause_at}
use Rattle.search.specs.Step.{stuck, next}
use Rattle.search.specs.Single.{not_taken, if_fits}
use Rattle.search.specs.Pick.{applied, apply_by}
use Rattle.words.specs.Held.{GoalIn, BookOn}
use Rattle.format.specs.Format.{encode_goal}
use Rattle.storage.specs.Storage.{Written}
use Rattle.resolve.specs.declared.Move.{Move}
use Rattle.resolve.specs.declared.Move.TheVariants.{Stuck, Unknown, Full, Over, To}
use Rattle.resolve.specs.Advancing.{Alone}
use Rattle.outcomes.specs.declared.Stepped.{Stepped}
use Rattle.outcomes.specs.Stepping.{Gives, no_step, one_step, gives_none, gives-taken}

-- a clause that a goal is held against, on any book that the words hold
pub same-clauses : {book shelf : List ℕ} {P Q : Book} (k : ℕ) → BookOn book shelf P → k < length P → BookOn book shelf Q → k < length Q
same-clauses k b l c = omega (arith, l, b.long, c.long)

pub went-number : {book shelf : List ℕ} {k : ℕ} → (P : Book) × BookOn book shelf P × (k < length P) → k ≤ 512
went-number held = omega (arith, held.2, held.1.held.few)

-- the apply call by a clause of the book
apply-inside : (P : Book) (f : Expr) (g : Goal) (k : ℕ) → k < length P → apply_by P (f ∷ g) k ≡ applied k (next (clause_at P k ∷ []) (f ∷ g))
apply-inside P f g k l = rw (lt-ltb k (length P) l) refl

module _ {book shelf goal : List ℕ} {formulas k : ℕ} (held : (P : Book) × BookOn book shelf P × (k < length P)) (out : List ℕ) (m : Move)
    (says : (P : Book) (f : Expr) (g : Goal) → BookOn book shelf P → GoalIn goal formulas (f ∷ g) → k < length P → Alone P k (f ∷ g) out m) where
  inside : (P : Book) → BookOn book shelf P → k < length P
  inside P b = same-clauses k held.1 held.2 b

  -- what is said of m is said of what it is
  says_of : (x : Move) → m ≡ x → (P : Book) (f : Expr) (g : Goal) → BookOn book shelf P → GoalIn goal formulas (f ∷ g) → Alone P k (f ∷ g) out x
  says_of x e P f g b w = subst (Alone P k (f ∷ g) out) e (says P f g b w (inside P b))

  -- the head does not unify
  apart : (P : Book) (f : Expr) (g : Goal) → BookOn book shelf P → next (clause_at P k ∷ []) (f ∷ g) ≡ stuck → apply_by P (f ∷ g) k ≡ not_taken 33
  apart P f g b e = apply-inside P f g k (inside P b) ∙ ap (applied k) e

  pub went-apart : (j a : ℕ) → m ≡ Stuck j a → (area : List ℕ) {r : Stepped} → r ≡ no_step 33 →
      (P : Book) (f : Expr) (g : Goal) → BookOn book shelf P → GoalIn goal formulas (f ∷ g) → Gives (apply_by P (f ∷ g) k) area r area
  went-apart j a e area q P f g b w = rw q (gives_none area 33 (apart P f g b (says_of (Stuck j a) e P f g b w)))

  pub went-unknown : m ≡ Unknown → (area : List ℕ) {r : Stepped} → r ≡ no_step 33 →
      (P : Book) (f : Expr) (g : Goal) → BookOn book shelf P → GoalIn goal formulas (f ∷ g) → Gives (apply_by P (f ∷ g) k) area r area
  went-unknown e area q P f g b w = rw q (gives_none area 33 (apart P f g b (says_of Unknown e P f g b w)))

  pub went_too_far : m ≡ Full → (area : List ℕ) {r : Stepped} → r ≡ no_step 24 →
      (P : Book) (f : Expr) (g : Goal) → BookOn book shelf P → GoalIn goal formulas (f ∷ g) → Gives (apply_by P (f ∷ g) k) area r area
  went_too_far e area q P f g b w =
      let a = says_of Full e P f g b w in
      rw q (gives_none area 24 (apply-inside P f g k (inside P b) ∙ ap (applied k) a.2 ∙ ap (λ x. if_fits x k a.1) a.3))

  -- a goal alone has no answer that could be too big
  pub never_over : m ≡ Over → {area after : List ℕ} {r : Stepped} → (P : Book) (f : Expr) (g : Goal) → BookOn book shelf P → GoalIn goal formulas (f ∷ g) → Gives (apply_by P (f ∷ g) k) area r after
  never_over e P f g b w = absurd (says_of Over e P f g b w)

  module _ {i n a count : ℕ} (e : m ≡ To i n a count) where
    module _ (some : (f : Expr) × (g : Goal) × GoalIn goal formulas (f ∷ g)) where
      there : Alone held.0 k (some.0 ∷ some.1) out (To i n a count)
      there = says_of (To i n a count) e held.0 some.0 some.1 held.1 some.2

      pub went-room : n ≤ length out
      went-room = there.5

      pub went-goal : (h : Goal) × GoalIn (take n out) count h
      went-goal = (there.1, there.4)

    pub went : (area : List ℕ) {bytes : ℕ} {r : Stepped} {after : List ℕ} → ((h : Goal) → GoalIn (take n out) count h → Written (encode_goal h) area after bytes) → r ≡ one_step k bytes →
        (P : Book) (f : Expr) (g : Goal) → BookOn book shelf P → GoalIn goal formulas (f ∷ g) → Gives (apply_by P (f ∷ g) k) area r after
    went area put q P f g b w =
        let s = says_of (To i n a count) e P f g b w in
        rw q (gives-taken area k s.1 (apply-inside P f g k (inside P b) ∙ ap (applied k) s.2 ∙ ap (λ x. if_fits x k s.1) s.3) (put s.1 s.4))

-- A goal that may be empty
module _ {w : List ℕ} {n : ℕ} where
  module _ {book shelf : List ℕ} (k : ℕ) where
    pub gives-empty : n ≡ 0 → (area : List ℕ) {r : Stepped} → r ≡ no_step 20 → (P : Book) (g : Goal) → BookOn book shelf P → GoalIn w n g → Gives (apply_by P g k) area r area
    gives-empty z area q P [] b h = rw q (gives_none area 20 refl)
    gives-empty z area q P (f ∷ g) b h = absurd (omega (arith, h.count))

    -- no such clause
    pub gives-absent : (n ≡ 0 → ⊥) → ((P : Book) → BookOn book shelf P → length P ≤ k) → (area : List ℕ) {r : Stepped} → r ≡ no_step 32 →
        (P : Book) (g : Goal) → BookOn book shelf P → GoalIn w n g → Gives (apply_by P g k) area r area
    gives-absent z out area q P [] b h = absurd (z h.count)
    gives-absent z out area q P (f ∷ g) b h = rw q (gives_none area 32 (rw (le-ltb k (length P) (out P b)) refl))

    pub gives-formula : (n ≡ 0 → ⊥) → (area : List ℕ) {r : Stepped} {after : List ℕ} →
        ((P : Book) (f : Expr) (g : Goal) → BookOn book shelf P → GoalIn w n (f ∷ g) → Gives (apply_by P (f ∷ g) k) area r after) →
        (P : Book) (g : Goal) → BookOn book shelf P → GoalIn w n g → Gives (apply_by P g k) area r after
    gives-formula z area all P [] b h = absurd (z h.count)
    gives-formula z area all P (f ∷ g) b h = all P f g b h
