use Prim.Native.Nat.{suc, ◌-◌, ◌%◌}
use native.Mathlib.Omega.{arith}
use mathlib.Core.Path.{◌≡◌, refl, ap, ◌∙◌}
use lib.ListN.{get_or}
use Rattle.words.proofs.Links.{nothing-built, built-more}
use Rattle.words.proofs.linking.link.Goals as goal

pub loop-i-init : goal.loop-i-init
loop-i-init c = nothing-built c.empty.ensures.0 (λ x a. refl)

pub word-requires : goal.word-requires
word-requires c = omega (arith, c.requires.3 (c.loop-i.i - 1))

pub prepend-requires : goal.prepend-requires
prepend-requires c = (c.list_of-h.ensures.1, omega arith, omega (arith, c.empty.auto.shelf))

pub loop-i-preserved : goal.loop-i-preserved
loop-i-preserved c =
    let e : c.loop-i.i ≡ suc (c.loop-i.i - 1) = omega arith in
    let h = c.list_of-h.ensures.0 ∙ ap (λ w. w % 256) (c.word.ensures ∙ ap (λ x. get_or c.args.book.now x 0) c.get-s.ensures.0) in
    rw c.prepend.ensures (built-more (c.loop-i.i - 1) c.list_of-h.result (rw e at c.loop-i.invariant) (omega arith) h c.list_of-h.ensures.1 (omega (arith, c.empty.auto.shelf)))

pub returns : goal.returns
returns c =
    let e : c.loop-i.i ≡ 0 = omega arith in
    let b = rw e at c.loop-i.invariant in
    record { linked = b.linked; kept = λ x a d. b.kept x a d ∙ c.empty.ensures.1 x a }
