-- Nodes that a walk needs no level for.
use Rattle.std.specs.Prelude.{ℕ, zero, suc, ◌+◌, ◌-◌, ◌<◌, ◌≤◌, ◌≡◌, refl, List, [], length, get_or}
use Rattle.std.proofs.Common.{arith, subst}
use Rattle.words.specs.Word.{arity_of}
use Rattle.heap.specs.Heap.{Whole, Made}
use Rattle.heap.specs.HeapLaws.{row_inside, rows_few}
use Rattle.heap.specs.Following.{Followed}
use Rattle.heap.specs.Walking.{Ready, settled_at, Visited, flat, Lone}
use Rattle.heap.specs.WalkLaws.{visit_symbol, visit_leaf}

flat-settled : (at due : ℕ) → flat at due ≡ settled_at [] at due 0
flat-settled at zero = refl
flat-settled at (suc due) = refl

pub flat-ready : {heap levels : List ℕ} {at due : ℕ} → Whole heap due at → Ready heap levels (flat at due)
flat-ready r = record { front = r; back = λ i h. absurd (omega arith); ended = λ e. refl; room = omega arith }

-- What the word u at p stands for.
module _ {heap cells : List ℕ} (made : Made heap cells) {p u : ℕ} (e : u ≡ get_or heap p 0) where
  pub lone-symbol : 33554432 ≤ u → Lone heap cells p u
  lone-symbol high due some r = visit_symbol made (flat-ready r) some e high refl (flat-settled (suc p) (arity_of u + (due - 1))) refl refl

  pub lone_leaf : u < 33554432 → {q : ℕ} → Followed heap cells p q → {x : ℕ} → x ≡ get_or heap q 0 → {k : ℕ} → k ≡ arity_of x → k ≤ 0 → Lone heap cells p x
  lone_leaf low there {x} ex ek z due some r =
      let none : arity_of x + (due - 1) ≡ due - 1 = omega (arith, ek, z) in
      visit_leaf made (flat-ready r) some e low there ex ek (omega (arith, z)) (flat-settled (suc p) (arity_of x + (due - 1))) refl none

-- On the way over a row's own words.
module _ {heap : List ℕ} {at due : ℕ} (ready : Ready heap [] (flat at due)) where
  pub flat-few : due ≤ length heap
  flat-few = rows_few heap due at ready.front

  module _ (some : 0 < due) where
    pub flat-inside : at < length heap
    flat-inside = row_inside heap (due - 1) at (subst (λ n. Whole heap n at) (omega (arith, some)) ready.front)

    pub lone-on : {cells : List ℕ} {u : ℕ} → Lone heap cells at u → {k at' due' : ℕ} → k ≡ arity_of u → at' ≡ suc at → due' ≡ due - 1 + k
        → Visited heap cells [] (flat at due) u [] (flat at' due')
    lone-on {cells} {u} x {k} {at'} {due'} ek ea ed = rw ea (rw (same) (x due some ready.front))
      where
        same : due' ≡ arity_of u + (due - 1)
        same = omega (arith, ek, ed)
