use native.Mathlib.Omega.{arith}
use Rattle.storage.proofs.Loading.{number-inside, arity-inside, number-bytes, word-bare, word-led, behind-bare, behind-led}
use Rattle.storage.proofs.node_at.Goals as goal

pub bounds-bytes-at-then-kind-le2 : goal.bounds-bytes-at-then-kind-le2
bounds-bytes-at-then-kind-le2 c = omega (arith, number-inside c.requires)

pub bounds-bytes-at-then-kind-le2-2 : goal.bounds-bytes-at-then-kind-le2-2
bounds-bytes-at-then-kind-le2-2 c = omega (arith, number-inside c.requires)

pub returns-then-kind-le2-clause-word : goal.returns-then-kind-le2-clause-word
returns-then-kind-le2-clause-word c = let s = c.args.bytes.now in let at = c.args.at in omega (arith, c.from_be_bytes.ensures, word-bare s at _ c.requires.low c.if-kind-le2.true, number-bytes s at)

pub returns-then-kind-le2-clause-past : goal.returns-then-kind-le2-clause-past
returns-then-kind-le2-clause-past c = behind-bare c.requires c.if-kind-le2.true

pub bounds-bytes-at-2 : goal.bounds-bytes-at-2
bounds-bytes-at-2 c = arity-inside c.requires (omega (arith, c.if-kind-le2.false))

pub bounds-bytes-at-3 : goal.bounds-bytes-at-3
bounds-bytes-at-3 c = omega (arith, number-inside c.requires)

pub bounds-bytes-at-4 : goal.bounds-bytes-at-4
bounds-bytes-at-4 c = omega (arith, number-inside c.requires)

pub returns-clause-word : goal.returns-clause-word
returns-clause-word c = let s = c.args.bytes.now in let at = c.args.at in omega (arith, c.from_be_bytes-2.ensures, word-led s at _ (omega (arith, c.if-kind-le2.false)) c.requires.high, number-bytes s at)

pub returns-clause-past : goal.returns-clause-past
returns-clause-past c = behind-led c.requires (omega (arith, c.if-kind-le2.false))
