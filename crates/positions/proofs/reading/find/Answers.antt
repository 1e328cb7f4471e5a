use Prim.Native.Nat.{ℕ}
use native.Mathlib.Omega.{arith}
use mathlib.Core.Path.{◌≡◌, refl, sym, ◌∙◌}
use mathlib.Core.List.{List}
use lib.ListN.{get_or}
use Rattle.positions.specs.Classes.{root, Down}
use Rattle.positions.specs.RootLaws.{root_self, root-step}
use borrow.Author.Rules.{rules}
use Rattle.positions.proofs.reading.find.Goals as goal

root-up : (up : List ℕ) (p q s : ℕ) → Down up → q ≡ get_or up p 0 → root up p ≡ root up s → root up q ≡ root up s
root-up up p q s d e h = rw e (sym (root-step up d p) ∙ h)

pub loop-q-init : goal.loop-q-init
loop-q-init c = (search rules, c.cell-q.ensures.0 _ c.requires.1, refl)

pub loop-q-preserved : goal.loop-q-preserved
loop-q-preserved c = (search rules, c.cell-q-in-loop-q.ensures.0 c.args.n (omega arith), root-up _ _ _ _ c.requires.2 c.loop-q.invariant.1 c.loop-q.invariant.2)

pub returns : goal.returns
returns c = sym (root_self _ c.requires.2 c.loop-q.p (omega (arith, c.requires.2 c.loop-q.p))) ∙ c.loop-q.invariant.2
