-- The next goal and answer, written one behind the other.
use Prim.Native.Nat.{ℕ, ◌+◌, ◌-◌, ◌<◌, ◌≤◌}
use native.Mathlib.Omega.{arith}
use mathlib.Core.Path.{◌≡◌, refl, sym as inv, ap, ◌∙◌, subst}
use mathlib.Core.List.{List, [], ◌++◌}
use lib.ListN.{length, take, length-append}
use Rattle.terms.specs.Node.{Expr}
use Rattle.terms.specs.Subst.{In, Subst, apply}
use Rattle.terms.proofs.NumberLaws.{number_append}
use Rattle.words.specs.Word.{Fits, nodes}
use Rattle.words.specs.WordLaws.{in-fits}
use Rattle.numbering.specs.Naming.{table, back, Table}
use Rattle.heap.specs.Heap.{rows, Whole, Solved}
use Rattle.heap.specs.Walking.{Ready}
use Rattle.heap.specs.Writing.{Writes, Written}
use Rattle.heap.specs.WriteLaws.{writes-append}
use Rattle.heap.specs.declared.walking.Walk.{Walk}
use Rattle.heap.specs.declared.writing.Pen.{Pen}
use Rattle.trying.specs.declared.carrying.Parts.{Parts}
use Rattle.trying.specs.Carrying.{goal_part, answer_part, Put, Both}

-- no variable has a number yet
pub no_names : (t b : List ℕ) → Table [] t b 0
no_names t b = record { counted = refl; listed = refl; at = λ v e. let z : ◌≡◌ {A = ℕ} 0 1 = cc in absurd (omega arith) }

-- a walk without levels
pub alone : {heap : List ℕ} (levels : List ℕ) {at due : ℕ} → Whole heap due at → (w : Walk) → w ≡ record { at = at; due = due; depth = 0 } → Ready heap levels w × (w.depth ≡ 0)
alone levels r w e = rw e (record { front = r; back = λ i h. absurd (omega arith); ended = λ z. refl; room = omega arith }, refl)

-- the body, and the rest of the goal behind it
module _ {heap cells names out names' out' : List ℕ} {from : Pen} {w : Walk} {body : Pen} (p : Parts) (x : Written heap cells names out from w 4096 names' out' body)
    (is : w ≡ record { at = p.body; due = p.bodies; depth = 0 }) where
  abbrev first : Subst → Expr
  first θ = apply θ (rows heap p.bodies p.body)

  abbrev second : Subst → Expr
  second θ = apply θ (rows heap p.others p.rest)

  first_walk : (θ : Subst) → apply θ (rows heap w.due w.at) ≡ first θ
  first_walk θ = ap (λ y. apply θ (rows heap y.due y.at)) is

  -- the body alone passes the limit, or is given up
  pub put-over : 4096 < body.at → Put heap cells names out from (goal_part heap p) 4096 names' out' body
  put-over l = record {
    fits = λ h. absurd (omega (arith, l, h));
    few = λ h. absurd (omega (arith, l, h));
    over = λ e θ s. omega (arith, x.over e θ s, ap length (first_walk θ), length-append (first θ) (second θ));
    ends = x.ends;
  }

  module _ (l : body.at ≤ 4096) where
    first-written : (θ : Subst) → Solved heap cells θ → Writes names out from (first θ) names' out' body
    first-written θ s = subst (λ e. Writes names out from e names' out' body) (first_walk θ) (x.fits l θ s)

    -- the variables named so far
    pub named-then : (seen : List ℕ) → Table seen (table names) (back names) from.count → (θ : Subst) → Solved heap cells θ → (seen : List ℕ) × Table seen (table names') (back names') body.count
    named-then seen t θ s = (_, (x.fits l θ s).named seen t)

    pub put_both : {names'' out'' : List ℕ} {v : Walk} {r : Pen} → Written heap cells names' out' body v 4096 names'' out'' r → v ≡ record { at = p.rest; due = p.others; depth = 0 }
        → Put heap cells names out from (goal_part heap p) 4096 names'' out'' r
    put_both {names''} {out''} {v} {r} y at = record {
      fits = λ h θ s. writes-append (first-written θ s) (subst (λ e. Writes names' out' body e names'' out'' r) (second_walk θ) (y.fits h θ s));
      few = y.few;
      over = λ e θ s. omega (arith, y.over e θ s, ap length (second_walk θ), (first-written θ s).at, length-append (first θ) (second θ));
      ends = y.ends;
    }
      where
        second_walk : (θ : Subst) → apply θ (rows heap v.due v.at) ≡ second θ
        second_walk θ = ap (λ y. apply θ (rows heap y.due y.at)) at

nothing-fits : (k : ℕ) (out : List ℕ) → Fits k (take 0 out)
nothing-fits k out = λ i l. absurd (omega arith)

-- the goal, and the answer behind it
module _ {heap cells names out names' out' : List ℕ} {goal : Pen} (p : Parts) (x : Put heap cells names out (record { at = 0; count = 0 }) (goal_part heap p) 4096 names' out' goal) where
  pub goal-over : goal.at ≡ 65535 → (θ : Subst) → Solved heap cells θ → 4096 < length (goal_part heap p θ)
  goal-over e θ s = omega (arith, x.over e θ s)

  module _ (n : goal.at ≡ 65535 → ⊥) (m : goal.at ≡ 65534 → ⊥) where
    pub goal-within : goal.at ≤ 4096
    goal-within = x.ends n m

    pub goal-named : (θ : Subst) → Solved heap cells θ → (seen : List ℕ) × Table seen (table names') (back names') goal.count
    goal-named θ s = (_, (x.fits goal-within θ s).named [] (no_names (table names) (back names)))

    module _ {limit : ℕ} (end : limit ≡ goal.at + 4096) {names'' out'' : List ℕ} {w : Walk} {all : Pen} (y : Written heap cells names' out' goal w limit names'' out'' all)
        (is : w ≡ record { at = p.answer; due = p.answers; depth = 0 }) (θ : Subst) (s : Solved heap cells θ) where
      goal-length : goal.at ≡ length (goal_part heap p θ)
      goal-length = omega (arith, (x.fits goal-within θ s).at)

      walked : apply θ (rows heap w.due w.at) ≡ answer_part heap p θ
      walked = ap (λ y. apply θ (rows heap y.due y.at)) is

      pub answer-over : all.at ≡ 65535 → (length (goal_part heap p θ) ≤ 4096) × (4096 < length (answer_part heap p θ))
      answer-over e = (omega (arith, goal-length, goal-within), omega (arith, y.over e θ s, end, ap length walked))

      module _ (n' : all.at ≡ 65535 → ⊥) (m' : all.at ≡ 65534 → ⊥) where
        low : all.at ≤ limit
        low = y.ends n' m'

        behind : Writes names' out' goal (answer_part heap p θ) names'' out'' all
        behind = subst (λ e. Writes names' out' goal e names'' out'' all) walked (y.fits low θ s)

        pub answer-after : goal.at ≤ all.at
        answer-after = omega (arith, behind.at)

        both : Writes names out (record { at = 0; count = 0 }) (goal_part heap p θ ++ answer_part heap p θ) names'' out'' all
        both = writes-append (x.fits goal-within θ s) behind

        pub both-written : Both (goal_part heap p θ) (answer_part heap p θ) out'' goal.at (all.at - goal.at)
        both-written =
            let sum : goal.at + (all.at - goal.at) ≡ all.at = omega (arith, answer-after) in
            let front = x.fits goal-within θ s in
            record {
              goal_long = goal-length;
              goal_room = goal-within;
              answer_long = omega (arith, behind.at);
              answer_room = omega (arith, low, end);
              are = ap (λ i. nodes (take i out'')) sum ∙ both.is [] (no_names (table names) (back names)) ∙ number_append [] (goal_part heap p θ) (answer_part heap p θ);
              goal_fit = λ v i. in-fits 4096 v (take goal.at out') (front.fits 4096 (omega (arith, x.few goal-within, goal-within)) (nothing-fits 4096 out))
                  (subst (In v) (inv (front.is [] (no_names (table names) (back names)))) i);
              fit = subst (λ i. Fits 8192 (take i out'')) (inv sum) (both.fits 8192 (omega (arith, y.few low, low, end, goal-within)) (nothing-fits 8192 out));
            }
