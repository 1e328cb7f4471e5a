use Rattle.laying.proofs.Seeking.{known-stands, name-listed, name-own, name-words, name-room}
use native.Mathlib.Omega.{arith}
use Rattle.laying.proofs.owned.number_of_name.Goals as goal

pub number_of-requires : goal.number_of-requires
number_of-requires c = known-stands _ (λ i. omega (arith, c.type_inv.names i)) c.requires.knowing.is

pub returns-in-Some : goal.returns-in-Some
returns-in-Some c = name-listed _ _ _ (λ i. omega (arith, c.type_inv.names i)) _ _ _ c.requires _ _ c.code.ensures (omega arith) _ c.number_of.ensures.is _ c.in-Some.is

pub find-requires : goal.find-requires
find-requires c = (name-words _ _ _ (λ i. omega (arith, c.type_inv.names i)) _ _ _ c.requires _ _ c.base.ensures.0 c.own.ensures, c.requires.kept.long, name-room _ _ _ (λ i. omega (arith, c.type_inv.names i)) _ _ _ c.requires _ _ c.base.ensures.0 c.own.ensures, c.requires.inside)

pub overflow_add-result : goal.overflow_add-result
overflow_add-result c = omega (arith, c.requires.knowing.few c.args.w.kind, c.given.ensures, c.find.ensures.1, c.own.ensures, c.requires.kept.few c.args.w.kind)

pub returns : goal.returns
returns c = name-own _ _ _ (λ i. omega (arith, c.type_inv.names i)) _ _ _ c.requires _ _ c.code.ensures (omega arith) _ c.number_of.ensures.is _ _ _ _ c.in_default.is c.given.ensures c.base.ensures.0 c.own.ensures c.find.ensures.0 c.find.ensures.1
