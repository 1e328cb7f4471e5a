use lib.ListN.{length-drop}
use lib.Seq.{take_all}
use native.Mathlib.Nat.{le_of_eq}
use Rattle.applying.proofs.Builds.{rest-valid, built}
use borrow.Author.Rules.{rules}
use Rattle.applying.proofs.build.Goals as goal

pub append-b-requires : goal.append-b-requires
append-b-requires c = let k = c in (search rules, search rules, search rules, rest-valid k.args.k k.args.clause.now k.requires.5)

pub append-requires : goal.append-requires
append-requires c = let k = c in (search rules, search rules, search rules, rest-valid k.args.m k.args.row.now k.requires.4)

pub returns : goal.returns
returns c = built _ _ _ _ _ _ _ _ _ _ _ c.requires.0 c.requires.2 c.append-b.ensures c.append.ensures (take_all _ _ (le_of_eq (length-drop c.args.k c.args.clause.now))) (take_all _ _ (le_of_eq (length-drop c.args.m c.args.row.now)))
