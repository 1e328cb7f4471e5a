use native.Mathlib.Omega.{arith}
use mathlib.Core.Path.{refl, sym as inv, ◌∙◌, subst}
use Rattle.heap.specs.Heap.{Whole}
use Rattle.heapgoals.specs.HoldLaws.{holds-levels, held-row}
use Rattle.heapgoals.proofs.Shows.{no_names}
use Rattle.heapgoals.proofs.Outs.{holds-placed, used-part, symbols-laid, lead-out}
use Rattle.heapgoals.proofs.writing.write_first.Goals as goal

pub symbols-run-requires : goal.symbols-run-requires
symbols-run-requires c = let u = used-part c.args.words.now c.args.s in let p = holds-placed c.requires.holds.3 u in record { valids = ((λ y h. (p.made.fits y h).valid), p.made.short, subst (λ z. Whole z 1 c.args.s.at) (inv u) (held-row c.requires.holds.3)); pen_le_limit = (omega arith, omega arith, omega arith) }

pub returns-then-run-eq0 : goal.returns-then-run-eq0
returns-then-run-eq0 c = let u = used-part c.args.words.now c.args.s in record { first = (c.symbols-run.ensures.high, λ f g a h. lead-out h u (symbols-laid c.args.rows.now refl c.symbols-run.ensures c.if-run-eq0.true) c.symbols-run.ensures.high); held = λ g a h. h; spare = refl }

pub put-pen-requires : goal.put-pen-requires
put-pen-requires c = let u = used-part c.args.words.now c.args.s in let p = holds-placed c.requires.holds.3 u in record { made = (p.made, subst (λ z. Whole z 1 c.args.s.at) (inv u) (held-row c.requires.holds.3), refl); by_index = (_, no_names _ _); cells_len = (p.cells_long, p.levels_long); count_le_at = (omega arith, omega arith, omega arith, omega arith) }

pub returns : goal.returns
returns c = let u = used-part c.args.words.now c.args.s in record { first = (omega (arith, c.if-pen-gt4096.false), λ f g a h. lead-out h u c.put-pen.ensures.laid (omega (arith, c.if-pen-gt4096.false))); held = λ g a h. holds-levels c.put-pen.ensures.fore h; spare = c.put-pen.ensures.spare }

pub returns-then-pen-gt4096 : goal.returns-then-pen-gt4096
returns-then-pen-gt4096 c = record { first = tt; held = λ g a h. holds-levels c.put-pen.ensures.fore h; spare = c.put-pen.ensures.spare }
