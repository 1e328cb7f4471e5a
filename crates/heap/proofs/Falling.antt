-- Following a variable goes down: what it is bound to has a lower rank.
use Rattle.std.specs.Prelude.{ℕ, suc, ◌-◌, ◌%◌, ◌<◌, ◌≤◌, ◌≡◌, refl, List, ◌∷◌, eqb, length, get_or}
use Rattle.std.proofs.Common.{arith, eq-eqb, ne_eqb, sym as inv, ap, ◌∙◌, append-nil}
use Rattle.std.proofs.Math.Decide.{ℕ_discrete}
use Rattle.terms.specs.Node.{var}
use Rattle.terms.specs.When.{◌⇒◌∣◌}
use Rattle.terms.specs.Subst.{Subst, apply}
use Rattle.words.specs.Word.{kind_of}
use Rattle.heap.specs.Heap.{rows, Whole, bound, Made, Solves}
use Rattle.heap.specs.HeapLaws.{rows_none, row_inside, rows-var}
use Rattle.heap.specs.Following.{SameRow, rank, rank_falls, kind, on}

module _ {heap cells : List ℕ} (made : Made heap cells) {p q : ℕ} (r : SameRow heap cells p q) {u i : ℕ} (e : u ≡ get_or heap q 0) (low : u < 33554432) (number : i ≡ u % 65536) where
  module _ {b : ℕ} (is : b ≡ get_or cells i 0) where
    module _ (n : b ≡ 0 → ⊥) where
      pub follow_less : rank heap (b - 1) < rank heap q
      follow_less = rank_falls made q (b - 1) (kind made r e low number) (on made r e low number is n)
