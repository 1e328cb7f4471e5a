-- What two rows of the heap come to, for every solution of the bindings.
use Rattle.std.specs.Prelude.{ℕ, ◌<◌, ◌%◌, ◌≡◌, ◌↔◌, List, ltb, length, get_or}
use Rattle.terms.specs.When.{◌⇒◌∣◌}
use Rattle.terms.specs.Subst.{Subst, apply}
use Rattle.words.specs.Word.{kind_of}
use Rattle.heap.specs.Heap.{rows, Whole, bound, Solves}
use Rattle.matching.specs.declared.meeting.Meeting.{Meeting}
use Rattle.matching.specs.declared.meeting.Meeting.TheVariants.{Same, Inside, Join, Hang, Clash}

-- τ makes the k rows at p and those at q equal
abbrev pub Equal : List ℕ → Subst → ℕ → ℕ → ℕ → Type 0
Equal heap τ k p q = apply τ (rows heap k p) ≡ apply τ (rows heap k q)

-- v, which is not bound, on the row at r would make the rows at p and q equal, and nothing else does
pub record Bindable (heap cells : List ℕ) (p q v r : ℕ) : Type 0 where
  pub free : bound cells v ≡ 0
  pub inside : v < length cells
  pub whole : Whole heap 1 r
  pub there : r < length heap
  pub just : (τ : Subst) → Solves heap cells τ → Equal heap τ 1 p q ↔ (τ v ≡ apply τ (rows heap 1 r))

abbrev pub Met : List ℕ → List ℕ → ℕ → ℕ → Meeting → Type 0
Met heap cells p q Same = (τ : Subst) → Solves heap cells τ → Equal heap τ 1 p q
Met heap cells p q (Inside a b k) = (0 < k) × Whole heap k a × Whole heap k b × ((τ : Subst) → Solves heap cells τ → Equal heap τ 1 p q ↔ Equal heap τ k a b)
Met heap cells p q (Join v r) = Bindable heap cells p q v r × (kind_of (get_or heap r 0) ≡ 1) × (get_or heap r 0 % 65536 < v) × (bound cells (get_or heap r 0 % 65536) ≡ 0)
Met heap cells p q (Hang v r) = Bindable heap cells p q v r × ¬ (kind_of (get_or heap r 0) ≡ 1)
Met heap cells p q Clash = (τ : Subst) → Solves heap cells τ → ¬ Equal heap τ 1 p q

-- what words x and y at a and b, not the same, come to: of two variables the one of the higher number is bound
abbrev pub apart : ℕ → ℕ → ℕ → ℕ → Meeting
apart x y a b =
    ltb x 33554432 ⇒ (ltb y 33554432 ⇒ (ltb y x ⇒ Join (x % 65536) b ∣ Join (y % 65536) a) ∣ Hang (x % 65536) b)
    ∣ (ltb y 33554432 ⇒ Hang (y % 65536) a ∣ Clash)
