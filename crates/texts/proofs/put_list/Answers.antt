use native.Mathlib.Omega.{arith}
use mathlib.Core.Path.{refl}
use Rattle.texts.proofs.Names.{sizes-sliced, within-sliced, written-sliced, second-room, third-counted, third-room, list_counted, list_written}
use Rattle.texts.proofs.put_list.Goals as goal

pub put_names-more-requires-clause-within : goal.put_names-more-requires-clause-within
put_names-more-requires-clause-within c = within-sliced c.args.text.now c.args.starts.now c.args.lens.now 11264 c.args.b.compounds c.requires.0.compounds

pub put_names-more-requires-clause-room : goal.put_names-more-requires-clause-room
put_names-more-requires-clause-room c = let e = sizes-sliced 11264 c.args.b.compounds c.args.lens.now in let h = second-room c.args.text.now c.args.starts.now c.args.lens.now c.args.b c.requires.0 _ _ _ c.requires.1 c.put_names-from.ensures in omega (arith, e, h)

pub overflow_add-end : goal.overflow_add-end
overflow_add-end c = let z = third-counted c.args.text.now c.args.starts.now c.args.lens.now c.args.b c.requires.0 _ _ _ c.requires.1 c.put_names-from.ensures _ _ _ (written-sliced c.args.text.now c.args.starts.now c.args.lens.now _ _ 3 11264 c.args.b.compounds _ c.put_names-more.ensures) refl in record { fits = omega arith }

pub put_names-requires-clause-within : goal.put_names-requires-clause-within
put_names-requires-clause-within c = within-sliced c.args.text.now c.args.starts.now c.args.lens.now 19712 c.args.b.predicates c.requires.0.predicates

pub put_names-requires-clause-room : goal.put_names-requires-clause-room
put_names-requires-clause-room c = let e = sizes-sliced 19712 c.args.b.predicates c.args.lens.now in let h = third-room c.args.text.now c.args.starts.now c.args.lens.now c.args.b c.requires.0 _ _ _ c.requires.1 c.put_names-from.ensures _ _ _ (written-sliced c.args.text.now c.args.starts.now c.args.lens.now _ _ 3 11264 c.args.b.compounds _ c.put_names-more.ensures) refl in omega (arith, e, h)

pub overflow_add-result : goal.overflow_add-result
overflow_add-result c = let z = list_counted c.args.text.now c.args.starts.now c.args.lens.now c.args.b c.requires.0 _ _ _ c.requires.1 c.put_names-from.ensures _ _ _ (written-sliced c.args.text.now c.args.starts.now c.args.lens.now _ _ 3 11264 c.args.b.compounds _ c.put_names-more.ensures) refl _ _ (written-sliced c.args.text.now c.args.starts.now c.args.lens.now _ _ 4 19712 c.args.b.predicates _ c.put_names.ensures) in record { fits = omega arith }

pub returns : goal.returns
returns c = list_written c.args.text.now c.args.starts.now c.args.lens.now c.args.b c.requires.0 _ _ _ c.requires.1 c.put_names-from.ensures _ _ _ (written-sliced c.args.text.now c.args.starts.now c.args.lens.now _ _ 3 11264 c.args.b.compounds _ c.put_names-more.ensures) refl _ _ (written-sliced c.args.text.now c.args.starts.now c.args.lens.now _ _ 4 19712 c.args.b.predicates _ c.put_names.ensures)
