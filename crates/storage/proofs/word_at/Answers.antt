use native.Mathlib.Omega.{arith}
use Rattle.storage.proofs.Loading.{number-inside, arity-inside, number-bytes, word-bare, word-led}
use Rattle.storage.proofs.word_at.Goals as goal
use Rattle.storage.proofs.word_at.Goals.{then-kind-le2, else-kind-le2}

pub bounds-bytes-at-else-kind-le2 : goal.bounds-bytes-at-else-kind-le2
bounds-bytes-at-else-kind-le2 c = arity-inside c.requires (omega (arith, c.if-kind-le2.false))

pub bounds-bytes-at-2 : goal.bounds-bytes-at-2
bounds-bytes-at-2 c = omega (arith, number-inside c.requires)

pub bounds-bytes-at-3 : goal.bounds-bytes-at-3
bounds-bytes-at-3 c = omega (arith, number-inside c.requires)

pub returns : goal.returns
returns c =
    let s = c.args.bytes.now in
    let at = c.args.at in
    elim c.if-kind-le2.branch [
      | then-kind-le2 w ↦ omega (arith, word-bare s at _ c.requires.low w.if-kind-le2.true, number-bytes s at)
      | else-kind-le2 w ↦ omega (arith, word-led s at _ (omega (arith, w.if-kind-le2.false)) c.requires.high, number-bytes s at)
    ]
