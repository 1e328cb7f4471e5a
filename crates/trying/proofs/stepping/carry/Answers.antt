use native.Mathlib.Omega.{arith}
use mathlib.Core.Path.{refl, sym as inv, ◌∙◌, subst}
use Rattle.trying.specs.Stepping.{Quickly}
use Rattle.trying.proofs.Quicks.{row_fits, some-formulas, parts-small, end-small, lent-made, lent-solved, quick_many, lent_placed, quickly}
use borrow.Author.Rules.{rules}
use Rattle.trying.proofs.stepping.carry.Goals as goal

pub parts_of-p-requires : goal.parts_of-p-requires
parts_of-p-requires c = ((_, _, c.requires.by_index.6.on, c.requires.by_index.6.inside), row_fits c.requires.by_index.6, some-formulas c.requires.by_index.6)

pub overflow_add-formulas : goal.overflow_add-formulas
overflow_add-formulas c = record { fits = omega (arith, parts-small c.requires.by_index.6 _ (c.parts_of-p.ensures _ c.requires.by_index.6.inside)) }

pub returns-then-formulas-gt512 : goal.returns-then-formulas-gt512
returns-then-formulas-gt512 c = record { quickly = λ book count P f g a s. quick_many s _ (c.parts_of-p.ensures _ s.inside) c.args.out.now c.if-formulas-gt512.true; spare = refl }

pub end_of-end-requires : goal.end_of-end-requires
end_of-end-requires c = ((_, _, c.requires.by_index.6.on, c.requires.by_index.6.inside), row_fits c.requires.by_index.6)

pub slice_bounds-write_next-end : goal.slice_bounds-write_next-end
slice_bounds-write_next-end c = omega (arith, end-small c.requires.by_index.6 _ (c.end_of-end.ensures _ c.requires.by_index.6.inside))

pub write_next-next-requires : goal.write_next-next-requires
write_next-next-requires c = record { made = (lent-made c.requires.by_index.6 _ (c.end_of-end.ensures _ c.requires.by_index.6.inside), (_, lent-solved c.requires.by_index.6 _ (c.end_of-end.ensures _ c.requires.by_index.6.inside)), lent_placed c.requires.by_index.6 _ (c.parts_of-p.ensures _ c.requires.by_index.6.inside) _ (c.end_of-end.ensures _ c.requires.by_index.6.inside)); cells_len = c.requires.cells_len }

pub returns : goal.returns
returns c = record { quickly = λ book count P f g a s. subst (Quickly P c.args.i f g a _) (inv c.concluded.ensures) (quickly s _ (c.parts_of-p.ensures _ s.inside) _ (c.end_of-end.ensures _ s.inside) (omega (arith, c.if-formulas-gt512.false)) _ (search rules) c.write_next-next.result c.write_next-next.ensures.carried); spare = c.write_next-next.ensures.spare }
