use mathlib.Core.Path.{◌≡◌, refl}
use mathlib.Core.List.{[], ◌∷◌}
use Prim.Native.Nat.{◌/◌, ◌%◌}
use Rattle.format.specs.Words.{word_bytes}
use native.Mathlib.Omega.{arith}
use lib.Seq.{sets-eq}
use borrow.Author.Tests.{lt-ltb, le-ltb}
use Rattle.storage.proofs.write_node.Goals as goal

pub returns-then-word-lt-FIRST_WITH_ARITY : goal.returns-then-word-lt-FIRST_WITH_ARITY
unfolding word_bytes
returns-then-word-lt-FIRST_WITH_ARITY c =
    let a = c.args in
    let kind : a.word / 0x100_0000 % 256 ≡ a.word / 0x100_0000 = omega arith in
    rw (c.to_be_bytes.ensures, kind)
    (simp (lt-ltb _ _ c.if-word-lt-FIRST_WITH_ARITY.true) (record { count = refl; holds = sets-eq (a.word / 0x100_0000 ∷ a.word / 256 % 256 ∷ a.word % 256 ∷ []) a.area.now 0 (omega arith) }))

pub returns : goal.returns
unfolding word_bytes
returns c =
    let a = c.args in
    let kind : a.word / 0x100_0000 % 256 ≡ a.word / 0x100_0000 = omega arith in
    rw (c.to_be_bytes.ensures, kind)
    (simp (le-ltb _ _ c.if-word-lt-FIRST_WITH_ARITY.false) (record { count = refl; holds = sets-eq (a.word / 0x100_0000 ∷ a.word / 256 % 256 ∷ a.word % 256 ∷ a.word / 0x1_0000 % 256 ∷ []) a.area.now 0 (omega arith) }))
