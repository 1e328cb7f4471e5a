use Prim.Native.Nat.{ℕ}
use native.Mathlib.Omega.{arith}
use mathlib.Core.Path.{refl, ◌∙◌}
use lib.ListN.{length-replicate}
use Rattle.trying.proofs.Carries.{alone, goal-over, goal-named, answer-over, answer-after, both-written}
use Rattle.trying.proofs.carrying.write_next.Goals as goal

pub returns-then-goal-eq-OVER : goal.returns-then-goal-eq-OVER
returns-then-goal-eq-OVER c = record { carried = (λ θ s. goal-over c.args.p c.write_goal-goal.ensures.put c.if-goal-eq-OVER.true θ s); spare = c.write_goal-goal.ensures.spare }

pub overflow_add-end : goal.overflow_add-end
overflow_add-end c = record { fits = omega (arith, c.write_goal-goal.ensures.put.ends c.if-goal-eq-OVER.false c.if-goal-eq-TIRED.false) }

pub write-all-requires : goal.write-all-requires
write-all-requires c =
    let k = c.requires in
    let w = c.write_goal-goal in
    let y = w.ensures.put in
    let l = y.ends c.if-goal-eq-OVER.false c.if-goal-eq-TIRED.false in
    let r = alone w.new.levels k.made.2.answer _ c.rows_at-from.ensures in
    record {
      made = (k.made.0, r.0, r.1);
      by_index = goal-named c.args.p y c.if-goal-eq-OVER.false c.if-goal-eq-TIRED.false k.made.1.0 k.made.1.1;
      cells_len_bound = (omega (arith, k.cells_len), omega (arith, w.auto.levels, length-replicate {A = ℕ} 514 0));
      count_le_at = (y.few l, omega arith, omega arith, omega (arith, l), omega (arith, l));
    }

pub returns-then-all-eq-OVER : goal.returns-then-all-eq-OVER
returns-then-all-eq-OVER c = record { carried = (λ θ s. answer-over c.args.p c.write_goal-goal.ensures.put c.if-goal-eq-OVER.false c.if-goal-eq-TIRED.false refl c.write-all.ensures.written c.rows_at-from.ensures θ s c.if-all-eq-OVER.true); spare = c.write-all.ensures.spare ∙ c.write_goal-goal.ensures.spare }

pub returns-then-all-eq-TIRED : goal.returns-then-all-eq-TIRED
returns-then-all-eq-TIRED c = record { carried = (λ θ s. tt); spare = c.write-all.ensures.spare ∙ c.write_goal-goal.ensures.spare }

pub overflow_sub-result : goal.overflow_sub-result
overflow_sub-result c = omega (arith, answer-after c.args.p c.write_goal-goal.ensures.put c.if-goal-eq-OVER.false c.if-goal-eq-TIRED.false refl c.write-all.ensures.written c.rows_at-from.ensures c.requires.made.1.0 c.requires.made.1.1 c.if-all-eq-OVER.false c.if-all-eq-TIRED.false)

pub returns : goal.returns
returns c = record { carried = (λ θ s. both-written c.args.p c.write_goal-goal.ensures.put c.if-goal-eq-OVER.false c.if-goal-eq-TIRED.false refl c.write-all.ensures.written c.rows_at-from.ensures θ s c.if-all-eq-OVER.false c.if-all-eq-TIRED.false); spare = c.write-all.ensures.spare ∙ c.write_goal-goal.ensures.spare }
