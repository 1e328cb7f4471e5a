-- What is known of a record that was taken: each test, and the state after it.
use Prim.Native.Nat.{ℕ, ◌+◌, ◌-◌, ◌*◌, ◌≤◌, ◌<◌, zero-le}
use native.Mathlib.Omega.{arith}
use borrow.Author.Tests.{leb-true, leb-false}
use mathlib.Core.Path.{◌≡◌, refl}
use mathlib.Core.Bool.{Bool, true, false}
use mathlib.Core.List.{List}
use lib.ListN.{length, get_or}
use lib.Dec.{eqb, leb, lit≤}
use Rattle.terms.specs.When.{◌⇒◌∣◌}
use Rattle.format.specs.declared.State.{State}
use Rattle.format.specs.declared.Form.{Form}
use Rattle.format.specs.declared.Form.TheVariants.{Book, Query}
use Rattle.format.specs.declared.Record.{Record}
use Rattle.format.specs.declared.Record.TheVariants.{Variable, Constant, Compound, Formula, Clause, Goal, End}
use Rattle.format.specs.declared.Fault.{Fault}
use Rattle.format.specs.declared.Fault.TheVariants.{Kind, Cut, Range, Size, Number, Arity}
use Rattle.std.specs.Prelude.{Ok, Err}
use Rattle.format.specs.Reading.{code_base, fault_number, allowed, body_length, record_at, in_range, is_in_size, is_in_order, next_unused, after, judge_record, judge, Small}
use Rattle.format.specs.Arities.{Memory, keeps}
use Rattle.format.proofs.Tests.{and_both}

pub base-small : (form : Form) → code_base form ≤ 10
base-small Book = zero-le
base-small Query = lit≤ tt

pub number_small : (fault : Fault) → fault_number fault ≤ 7
number_small Kind = lit≤ tt
number_small Cut = lit≤ tt
number_small Range = lit≤ tt
number_small Size = lit≤ tt
number_small Number = lit≤ tt
number_small Arity = lit≤ tt

pub pick_small : (t : Bool) (a b k : ℕ) → a ≤ k → b ≤ k → (t ⇒ a ∣ b) ≤ k
pick_small true a b k p q = p
pick_small false a b k p q = q

no_fault : {fault : Fault} (next : State) → Err fault ≡ Ok next → ⊥
no_fault next e = cc

-- a record that was taken passed each test, in whatever order they are made
pub record Taken (form : Form) (state : State) (m : Memory) (item : Record) (next : State) : Type 0 where
  pub within_range : in_range item ≡ true
  pub in_size : is_in_size form state item ≡ true
  pub in_order : is_in_order state item ≡ true
  pub kept : keeps m item ≡ true
  pub then : next ≡ after state item

pub taken_record : (form : Form) (state : State) (m : Memory) (item : Record) (next : State) → judge_record form state m item ≡ Ok next → Taken form state m item next
unfolding judge_record
taken_record form state m item next e = by (in_range item) (is_in_size form state item) (is_in_order state item) (keeps m item) refl refl refl refl
  where
    by : (a b c d : Bool) → in_range item ≡ a → is_in_size form state item ≡ b → is_in_order state item ≡ c → keeps m item ≡ d → Taken form state m item next
    by true true true true r s o k = record { within_range = r; in_size = s; in_order = o; kept = k; then = cc (simp (r, s, o, k) at e) }
    by true true true false r s o k = absurd (no_fault next (simp (r, s, o, k) at e))
    by true true false true r s o k = absurd (no_fault next (simp (r, s, o, k) at e))
    by true true false false r s o k = absurd (no_fault next (simp (r, s, o, k) at e))
    by true false true true r s o k = absurd (no_fault next (simp (r, s, o, k) at e))
    by true false true false r s o k = absurd (no_fault next (simp (r, s, o, k) at e))
    by true false false true r s o k = absurd (no_fault next (simp (r, s, o, k) at e))
    by true false false false r s o k = absurd (no_fault next (simp (r, s, o, k) at e))
    by false true true true r s o k = absurd (no_fault next (simp (r, s, o, k) at e))
    by false true true false r s o k = absurd (no_fault next (simp (r, s, o, k) at e))
    by false true false true r s o k = absurd (no_fault next (simp (r, s, o, k) at e))
    by false true false false r s o k = absurd (no_fault next (simp (r, s, o, k) at e))
    by false false true true r s o k = absurd (no_fault next (simp (r, s, o, k) at e))
    by false false true false r s o k = absurd (no_fault next (simp (r, s, o, k) at e))
    by false false false true r s o k = absurd (no_fault next (simp (r, s, o, k) at e))
    by false false false false r s o k = absurd (no_fault next (simp (r, s, o, k) at e))

pub record TakenAt (form : Form) (state : State) (m : Memory) (s : List ℕ) (at : ℕ) (next : State) : Type 0 where
  pub kind : allowed form state (get_or s at 0) ≡ true
  pub body : body_length (get_or s at 0) < length s - at
  pub item : Taken form state m (record_at s at (get_or s at 0)) next

pub taken : (form : Form) (state : State) (m : Memory) (s : List ℕ) (at : ℕ) (next : State) → judge form state m s at ≡ Ok next → TakenAt form state m s at next
unfolding judge
taken form state m s at next e = by (allowed form state (get_or s at 0)) (leb (length s - at) (body_length (get_or s at 0))) refl refl
  where
    by : (a b : Bool) → allowed form state (get_or s at 0) ≡ a → leb (length s - at) (body_length (get_or s at 0)) ≡ b → TakenAt form state m s at next
    by true false k c = record { kind = k; body = leb-false _ _ c; item = taken_record form state m _ next (simp (k, c) at e) }
    by true true k c = absurd (no_fault next (simp (k, c) at e))
    by false false k c = absurd (no_fault next (simp (k, c) at e))
    by false true k c = absurd (no_fault next (simp (k, c) at e))

-- the counters grow with the place
pub record Within (at : ℕ) (state : State) : Type 0 where
  pub terms : state.terms ≤ 256 * at
  pub nodes : state.nodes ≤ at
  pub variables : state.variables ≤ at
  pub clauses : state.clauses ≤ at

pub small : (at : ℕ) (state : State) → at ≤ 32768 → Within at state → Small state
small at state p w = omega arith

pub within-later : (a b : ℕ) (state : State) → a ≤ b → Within a state → Within b state
within-later a b state p w = omega arith

pub next-unused-small : (variables v : ℕ) → next_unused variables v ≤ variables + 1
unfolding next_unused
next-unused-small variables v = pick_small (eqb v variables) (variables + 1) variables (variables + 1) (omega arith) (omega arith)

pub after-within : (at : ℕ) (state : State) (item : Record) → in_range item ≡ true → Within at state → Within (at + 1) (after state item)
unfolding after in_range
after-within at state (Variable v) r w = omega (arith, next-unused-small state.variables v)
after-within at state (Constant c) r w = omega arith
after-within at state (Compound f n) r w = omega (arith, leb-true n 8 (and_both (leb 1 n) (leb n 8) r).1)
after-within at state (Formula p n) r w = omega (arith, leb-true n 8 r)
after-within at state (Clause n) r w = omega arith
after-within at state (Goal n) r w = omega arith
after-within at state End r w = omega arith
