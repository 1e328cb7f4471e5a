use Prim.Native.Nat.{◌<◌}
use native.Mathlib.Omega.{arith}
use mathlib.Core.Path.{◌∙◌}
use lib.ListN.{length}
use Rattle.words.specs.HeldLaws.{first-length}
use Rattle.resolve.specs.Advancing.{fits_first}
use Rattle.resolve.proofs.Advances.{formula-part, matched-front, chosen_none}
use Rattle.resolve.proofs.choose.Goals as goal

pub extent-m-requires : goal.extent-m-requires
extent-m-requires c = (_, _, _, c.requires.1.3)

pub slice_bounds-pick-end : goal.slice_bounds-pick-end
slice_bounds-pick-end c = let p = c.requires.1.3 in omega (arith, first-length _ _ _ _ p _ (c.extent-m.ensures _ _ _ p))

pub pick-requires : goal.pick-requires
pick-requires c = let p = c.requires.1.3 in ((_, formula-part p _ (c.extent-m.ensures _ _ _ p)), (_, c.requires.0.1, omega arith))

pub slice_bounds-none_fits-end : goal.slice_bounds-none_fits-end
slice_bounds-none_fits-end c = let p = c.requires.1.3 in omega (arith, first-length _ _ _ _ p _ (c.extent-m.ensures _ _ _ p))

pub none_fits-requires : goal.none_fits-requires
none_fits-requires c = let p = c.requires.1.3 in ((_, formula-part p _ (c.extent-m.ensures _ _ _ p)), (_, c.requires.0.1))

pub returns-in-None : goal.returns-in-None
returns-in-None c = λ P f g n b p. let q = formula-part p _ (c.extent-m.ensures f g n p) in let z = (rw c.in-None.is at c.pick.ensures f P q b).none (omega arith) in chosen_none c.none_fits.result z (c.none_fits.ensures f P q b z)

pub returns-in-Some : goal.returns-in-Some
returns-in-Some c = λ P f g n b p. let e = c.extent-m.ensures f g n p in let k = rw c.in-Some.is at c.pick.ensures f P (formula-part p _ e) b in fits_first k.0 k.1 (matched-front c.args.goal.now _ f e k.2)
