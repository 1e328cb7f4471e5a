use native.Mathlib.Omega.{arith}
use mathlib.Core.Path.{◌∙◌}
use Rattle.trying.proofs.Carries.{no_names, alone, put-over, put_both, named-then}
use borrow.Author.Rules.{rules}
use Rattle.trying.proofs.carrying.write_goal.Goals as goal

pub rows_at-first-requires : goal.rows_at-first-requires
rows_at-first-requires c = search rules

pub write-body-requires : goal.write-body-requires
write-body-requires c =
    let k = c.requires in
    let r = alone c.args.levels.now k.made.2.body _ c.rows_at-first.ensures in
    record {
      made = (k.made.0, r.0, r.1);
      by_index = (_, no_names _ _);
      cells_len_bound = (omega (arith, k.cells_len.0), omega (arith, k.cells_len.1));
      count_le_at = (omega arith, omega arith, omega arith, omega arith, omega arith);
    }

pub shape_of-levels-then-body-gt4096 : goal.shape_of-levels-then-body-gt4096
shape_of-levels-then-body-gt4096 c = search rules

pub returns-then-body-gt4096 : goal.returns-then-body-gt4096
returns-then-body-gt4096 c = record { put = put-over c.args.p c.write-body.ensures.written c.rows_at-first.ensures c.if-body-gt4096.true; spare = c.write-body.ensures.spare }

pub rows_at-second-requires : goal.rows_at-second-requires
rows_at-second-requires c = search rules

pub write-requires : goal.write-requires
write-requires c =
    let k = c.requires in
    let r = alone c.write-body.new.levels k.made.2.rest _ c.rows_at-second.ensures in
    let l = c.if-body-gt4096.false in
    let x = c.write-body.ensures.written in
    record {
      made = (k.made.0, r.0, r.1);
      by_index = named-then c.args.p x c.rows_at-first.ensures (omega (arith, l)) _ (no_names _ _) k.made.1.0 k.made.1.1;
      cells_len_bound = (omega (arith, k.cells_len.0), omega (arith, c.write-body.auto.levels, k.cells_len.1));
      count_le_at = (x.few (omega (arith, l)), omega (arith, l), omega arith, omega arith, omega arith);
    }

pub shape_of-levels : goal.shape_of-levels
shape_of-levels c = search rules

pub returns : goal.returns
returns c = record { put = put_both c.args.p c.write-body.ensures.written c.rows_at-first.ensures (omega (arith, c.if-body-gt4096.false)) c.write.ensures.written c.rows_at-second.ensures; spare = c.write.ensures.spare ∙ c.write-body.ensures.spare }
