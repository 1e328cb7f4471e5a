-- The tests and the moves of a state in document 01's words (Told) are those that the detector computes.
use Rattle.std.specs.Prelude.{ℕ, suc, ◌≤◌, ◌≡◌, refl, ◌↔◌, Bool, true, false, ◌||◌, [], ◌∷◌, ltb, length}
use Rattle.std.proofs.Math.Decide.{dec_lt}
use Rattle.std.proofs.Common.{arith, sym as inv, ap, ◌∙◌, subst, inl, inr, true≢false, ltb-true, lt-ltb}
use Rattle.std.proofs.Math.Option.{Option, some}
use Rattle.terms.specs.Node.{Expr, same_expr}
use Rattle.terms.specs.Rename.{Variant}
use Rattle.terms.specs.Number.{Numbered}
use Rattle.terms.specs.Cases.{cases}
use Rattle.loops.specs.Schedule.{scheduled}
use Rattle.loops.proofs.ScheduleLaws.{scheduled-zero, scheduled-pow, scheduled-only}
use Rattle.loops.specs.Detect.{State, leftmost, saves, move, Detected}
use Rattle.loops.proofs.Held.{Held, Sound}
use Rattle.loops.proofs.EachState.{detect-sound}
use Rattle.search.specs.Next.{Book, Goal}
use Rattle.search.specs.Step.{next_goal}
use Rattle.search.specs.StepLaws.{lawful}
use Rattle.search.specs.Room.{fits, nodes, fits_iff}
use Rattle.search.specs.Run.{state_at}
use Rattle.search.proofs.PathLaws.{same-leftmost}
use Rattle.search.specs.Told.{ComesBack, OnSchedule, Saving, After, save, keep, TooBig}

-- "A present, length of G at least l, and leftmost formula equal to A up to renaming": the loop test of a state that is reached
pub detected_iff : (P : Book) (q : Goal) → Numbered q → (t : ℕ) (s : State Expr) → state_at P q t ≡ some s → Detected s ↔ ComesBack s
detected_iff P q n t s e = (
  λ d. record { formula = d.0; present = d.2; long = d.4; leftmost = d.0; rest = d.1; front = d.3; same = (equal d.0 d.0 d.1 d.2 d.3).0 refl },
  λ c.
      let same = (equal c.formula c.leftmost c.rest c.present c.front).1 c.same in
      (c.formula, c.rest, c.present, c.front ∙ ap (λ b. b ∷ c.rest) (inv same), c.long),
)
  where
    i : (s.step ≡ t) × Sound (next_goal P) q s
    i = detect-sound same_expr (next_goal P) (lawful P) t q s e

    equal : (a b : Expr) (g : Goal) → s.saved ≡ some a → s.goal ≡ b ∷ g → (a ≡ b) ↔ Variant a b
    equal a b g u v =
        let k = subst (Held (next_goal P) q s.step s.least s.from) u i.1.held in
        same-leftmost P q n s.from s.step a b k.rest g k.save (i.1.here ∙ ap some v)

-- the schedule
pub scheduled_iff : (t : ℕ) → (scheduled t ≡ true) ↔ OnSchedule t
scheduled_iff t = (scheduled-only t, elim [ inl p ↦ ap scheduled p ∙ scheduled-zero | inr p ↦ ap scheduled p.1 ∙ scheduled-pow p.0 ])

-- whether a state saves
pub saves_iff : (s : State Expr) → (saves s ≡ true) ↔ Saving s
saves_iff s = (λ e. either (scheduled s.step) (ltb (length s.goal) s.least) refl refl e, back)
  where
    either : (a b : Bool) → scheduled s.step ≡ a → ltb (length s.goal) s.least ≡ b → (a || b) ≡ true → Saving s
    either true b e f g = inl ((scheduled_iff s.step).0 e)
    either false true e f g = inr (ltb-true (length s.goal) s.least f)
    either false false e f g = absurd (true≢false (inv g))

    or_right : (a b : Bool) → b ≡ true → (a || b) ≡ true
    or_right true b e = refl
    or_right false b e = e

    back : Saving s → saves s ≡ true
    back (inl p) = ap (λ a. a || ltb (length s.goal) s.least) ((scheduled_iff s.step).1 p)
    back (inr l) = or_right (scheduled s.step) (ltb (length s.goal) s.least) (lt-ltb (length s.goal) s.least l)

-- the state after s, where it saves the formula o
abbrev saving_as : State Expr → Goal → Option Expr → State Expr
saving_as s h o = record { step = suc s.step; least = length s.goal; saved = o; from = s.step; goal = h }

pub after_is : (s : State Expr) (h : Goal) (s' : State Expr) → After s h s' → s' ≡ move (saves s) s h
after_is s h s' (save f g p e) = ap (saving_as s h) (inv (ap leftmost e)) ∙ ap (λ b. move b s h) (inv ((saves_iff s).1 p))
after_is s h s' (keep n) = ap (λ b. move b s h) (inv (cases (saves s) (λ e. absurd (n ((saves_iff s).0 e))) (λ e. e)))

pub move-after : (s : State Expr) (h : Goal) → ¬ (s.goal ≡ []) → After s h (move (saves s) s h)
move-after s h n = cases (saves s) (λ e. rw e (saved s.goal refl e)) (λ e. rw e (keep (λ p. true≢false (inv ((saves_iff s).1 p) ∙ e))))
  where
    saved : (g : Goal) → s.goal ≡ g → saves s ≡ true → After s h (move true s h)
    saved [] d e = absurd (n d)
    saved (f ∷ g) d e = subst (λ o. After s h (saving_as s h o)) (inv (ap leftmost d)) (save f g ((saves_iff s).0 e) d)

pub move-goal : (b : Bool) (s : State Expr) (h : Goal) → (move b s h).goal ≡ h
move-goal true s h = refl
move-goal false s h = refl

-- the room
pub big_iff : (h : Goal) → (fits h ≡ false) ↔ TooBig h
big_iff h = (to, λ b. cases (fits h) (λ e. absurd (over b ((fits_iff h).0 e))) (λ e. e))
  where
    over : TooBig h → (length h ≤ 512) × (nodes h ≤ 4096) → ⊥
    over (inl l) m = omega (arith, m.0)
    over (inr l) m = omega (arith, m.1)

    to : fits h ≡ false → TooBig h
    to e =
        elim (dec_lt 512 (length h)) [
          | yes l ↦ inl l
          | no l ↦ elim (dec_lt 4096 (nodes h)) [ yes m ↦ inr m | no m ↦ absurd (true≢false (inv ((fits_iff h).1 (omega arith, omega arith)) ∙ e)) ]
        ]
