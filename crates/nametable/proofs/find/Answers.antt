use Rattle.nametable.proofs.Chain.{is_that, is-other}
use Prim.Native.Nat.{◌-◌}
use native.Mathlib.Omega.{arith}
use Rattle.nametable.specs.Table.{word}
use Rattle.nametable.proofs.Chain.{search-start, search-step, search-less, search-found, search-ended}
use Rattle.nametable.proofs.find.Goals as goal

pub loop-e-init : goal.loop-e-init
loop-e-init c = ((search-start c.requires.by_index.1 (word c.args.text.now c.args.at c.args.len) _ _ c.hash.ensures.0 c.hash.ensures.1 c.get-e.ensures.0).below, λ names t. search-start t (word c.args.text.now c.args.at c.args.len) _ _ c.hash.ensures.0 c.hash.ensures.1 c.get-e.ensures.0)

pub is_name-requires : goal.is_name-requires
is_name-requires c = record { i_in_bounds = (omega (arith, c.requires.room.starts_room, c.loop-e.invariant.0, c.loop-e-test.true), omega (arith, c.requires.room.lens_room, c.loop-e.invariant.0, c.loop-e-test.true), c.requires.len_in_bounds); i_in_bounds_2 = c.requires.by_index.1.entries.inside (c.loop-e.e - 1) (omega (arith, c.loop-e.invariant.0, c.loop-e-test.true)) }

pub returns-then-is_name : goal.returns-then-is_name
returns-then-is_name c = λ names t. (search-found t.entries (word c.args.text.now c.args.at c.args.len) (c.loop-e.e - 1) (omega (arith, c.loop-e.invariant.0, c.loop-e-test.true)) (is_that t.entries c.args.at c.args.len (c.loop-e.e - 1) _ c.is_name.ensures (omega (arith, c.loop-e.invariant.0, c.loop-e-test.true)) c.if-is_name.true), omega (arith, c.loop-e.invariant.0, c.loop-e-test.true))

pub loop-e-smaller : goal.loop-e-smaller
loop-e-smaller c = search-less c.requires.by_index.1 (word c.args.text.now c.args.at c.args.len) _ _ (c.loop-e.invariant.1 c.requires.by_index.0 c.requires.by_index.1) c.loop-e-test.true c.get-e-in-loop-e.ensures.0

pub loop-e-preserved : goal.loop-e-preserved
loop-e-preserved c = ((search-step c.requires.by_index.1 (word c.args.text.now c.args.at c.args.len) _ _ (c.loop-e.invariant.1 c.requires.by_index.0 c.requires.by_index.1) c.loop-e-test.true (is-other c.requires.by_index.1.entries c.args.at c.args.len (c.loop-e.e - 1) _ c.is_name.ensures (omega (arith, c.loop-e.invariant.0, c.loop-e-test.true)) c.if-is_name.false) c.get-e-in-loop-e.ensures.0).below, λ names t. search-step t (word c.args.text.now c.args.at c.args.len) _ _ (c.loop-e.invariant.1 names t) c.loop-e-test.true (is-other t.entries c.args.at c.args.len (c.loop-e.e - 1) _ c.is_name.ensures (omega (arith, c.loop-e.invariant.0, c.loop-e-test.true)) c.if-is_name.false) c.get-e-in-loop-e.ensures.0)

pub returns : goal.returns
returns c = λ names t. search-ended t.entries (word c.args.text.now c.args.at c.args.len) _ (c.loop-e.invariant.1 names t) (omega (arith, c.loop-e-test.false))
