use native.Mathlib.Omega.{arith}
use mathlib.Core.Path.{subst}
use Rattle.matching.specs.Fitting.{Fitting}
use Rattle.matching.proofs.FitLaws.{extends-begun, fit-done, fit-last}
use Rattle.matching.proofs.HangLaws.{none-weighed, fitting-again}
use Rattle.matching.proofs.fitting.fit.Goals as goal

pub returns-then-left-eq0 : goal.returns-then-left-eq0
returns-then-left-eq0 c = let z = fit-done c.args.t c.in-Some.ensures c.if-left-eq0.true in ((z.0, z.1, omega (arith, z.1.1), z.3), none-weighed c.requires.made.5.none c.weightless.ensures)

pub hang_last-requires-clause-made : goal.hang_last-requires-clause-made
hang_last-requires-clause-made c = let m = c.in-Some.ensures in (m.extends.made, m.extends.solved c.requires.made.1.0 c.requires.made.1.1, omega (arith, m.extends.long, c.requires.made.2), omega (arith, c.if-left-eq0.false), m.due.left, m.due.right)

pub fit_all-requires-clause-made : goal.fit_all-requires-clause-made
fit_all-requires-clause-made c = let m = c.in-Some.ensures in let e = c.in-None.ensures in rw e.0 (m.extends.made, m.extends.solved c.requires.made.1.0 c.requires.made.1.1, omega (arith, m.extends.long, c.requires.made.2), c.requires.made.3, c.requires.made.4, extends-begun c.args.t m.extends c.requires.made.5)

pub returns-in-Some-hang_last : goal.returns-in-Some-hang_last
returns-in-Some-hang_last c = let h = c.in-Some-hang_last.ensures in let z = fit-last c.args.t c.in-Some.ensures h.0 h.1 h.3 (omega (arith, h.2)) in ((z.0, z.1, omega (arith, z.1.1), z.3), h.4)

pub returns-in-None : goal.returns-in-None
returns-in-None c = let m = c.in-Some.ensures in let e = c.in-None.ensures in fitting-again c.args.t m c.args.trail.now c.fit_all.new.cells c.fit_all.new.trail c.fit_all.result (subst (λ l. Fitting c.args.heap.now c.match_head.new.cells l c.args.t c.args.p c.args.q c.fit_all.new.cells c.fit_all.new.trail c.fit_all.result) e.1 (subst (λ l. Fitting c.args.heap.now l c.hang_last.new.trail c.args.t c.args.p c.args.q c.fit_all.new.cells c.fit_all.new.trail c.fit_all.result) e.0 c.fit_all.ensures))
