use native.Mathlib.Omega.{arith}
use Rattle.drafts.proofs.Adding.{section_held, section_free, section_few, number-few, adds-symbol, symbol-short}
use Rattle.drafts.proofs.symbol.Goals as goal

pub number_in-number-requires : goal.number_in-number-requires
number_in-number-requires c = record { by_index = (_, section_held c.requires.somewhere.drafted c.args.w.kind _ c.section-c.ensures); count_lt_room = (section_free c.requires.somewhere.drafted c.args.w.kind _ c.section-c.ensures c.requires.len_bound.0, c.requires.len_bound.1, c.requires.len_bound.2, c.requires.len_bound.3) }

pub next-d-requires : goal.next-d-requires
next-d-requires c = section_few c.requires.somewhere.drafted c.args.w.kind _ c.section-c.ensures c.requires.len_bound.0

pub overflow_add-b : goal.overflow_add-b
overflow_add-b c = omega (arith, c.requires.somewhere.drafted.low, c.requires.len_bound.0)

pub put_symbol-more-requires : goal.put_symbol-more-requires
put_symbol-more-requires c = (omega (arith, c.requires.somewhere.drafted.low, c.requires.somewhere.drafted.long, c.requires.len_bound.0), number-few c.requires.somewhere.drafted c.args.w.kind _ c.section-c.ensures _ _ c.requires.len_bound.0 c.number_in-number.ensures)

pub overflow_add-b-2 : goal.overflow_add-b-2
overflow_add-b-2 c = omega (arith, c.requires.len_bound.0, symbol-short c.args.w.kind c.number_in-number.result _ c.put_symbol-more.ensures.1)

pub returns : goal.returns
returns c = adds-symbol _ _ _ _ _ _ _ _ _ _ _ _ _ _ _ _ _ _ _ c.section-c.ensures c.next-d.ensures c.counted.ensures c.number_in-number.ensures c.put_symbol-more.ensures.0 c.put_symbol-more.ensures.1
