-- Where the plain check comes to: the place of its fault, by where it stands.
use Prim.Native.Nat.{ℕ, zero, suc, ◌+◌, ◌≤◌, ◌<◌}
use native.Mathlib.Omega.{arith}
use native.Mathlib.Decide.{dec_lt}
use borrow.Author.Tests.{lt-ltb, le-ltb, eq-eqb, ne_eqb}
use mathlib.Core.Path.{◌≡◌, refl, subst}
use mathlib.Core.Bool.{true}
use mathlib.Core.List.{List}
use lib.ListN.{length, get_or}
use Rattle.terms.specs.Cases.{cases}
use Rattle.format.specs.declared.Check.{Check}
use Rattle.format.specs.declared.State.{State}
use Rattle.format.specs.declared.Form.{Form}
use Rattle.format.specs.declared.Fault.{Fault}
use Rattle.format.specs.declared.Fault.TheVariants.{Kind, Cut, Range, Size, Number, Arity}
use Rattle.std.specs.Prelude.{Result, Ok, Err}
use Rattle.format.specs.Reading.{code_base, byte_limit, fault_number, refused, body_length, allowed, judge, whole, finish, walk, verdict, start}
use Rattle.format.specs.Arities.{Memory}
use Rattle.format.proofs.Taken.{taken}
use Rattle.format.proofs.Going.{met_at, walk-next, walk-bad, walk_end}
use Rattle.format.proofs.Tested.{Looked, kind_failed, cut_failed, whole_record, looked, range_failed, size_failed, number_failed, arity_failed}
use Rattle.flatness.specs.Profile.{allowed_up_to}

module _ (form : Form) (s : List ℕ) where
  abbrev kind : ℕ
  kind = code_base form + 2

  -- good, or a fault from a place on: one of kind, or at a record that is there
  pub data From (at : ℕ) (c : Check) : Type 0 where
    no_fault : c.code ≡ 0 → From at c
    kind_at : c.code ≡ kind → at ≤ c.place → c.place ≤ length s → From at c
    other_at : (c.code ≡ 0 → ⊥) → (c.code ≡ kind → ⊥) → at ≤ c.place → c.place < length s → From at c

  from-later : {at at' : ℕ} {c : Check} → at ≤ at' → From at' c → From at c
  from-later l (no_fault z) = no_fault z
  from-later l (kind_at z p q) = kind_at z (omega arith) q
  from-later l (other_at z n p q) = other_at z n (omega arith) q

  from-refused : (at : ℕ) (fault : Fault) → at < length s → From at (refused form fault at)
  from-refused at Kind l = kind_at refl (omega arith) (omega arith)
  from-refused at Cut l = other_at (λ z. omega arith) (λ z. omega arith) (omega arith) l
  from-refused at Range l = other_at (λ z. omega arith) (λ z. omega arith) (omega arith) l
  from-refused at Size l = other_at (λ z. omega arith) (λ z. omega arith) (omega arith) l
  from-refused at Number l = other_at (λ z. omega arith) (λ z. omega arith) (omega arith) l
  from-refused at Arity l = other_at (λ z. omega arith) (λ z. omega arith) (omega arith) l

  from-finish : (at : ℕ) (state : State) → at ≤ length s → From at (finish form state (length s))
  unfolding finish
  from-finish at state l = cases (whole state) (λ w. simp w (no_fault refl)) (λ w. simp w (kind_at refl l (omega arith)))

  pub walk_from : (k at : ℕ) (state : State) (m : Memory) → at ≤ length s → From at (walk form k s at state m)
  unfolding walk
  walk_from zero at state m l = from-finish at state l
  walk_from (suc k) at state m l = elim (dec_lt at (length s)) [
    | yes p ↦ go p (judge form state m s at) refl (λ next. walk_from k (at + 1 + body_length (get_or s at 0)) next (met_at s at m))
    | no p ↦ rw (walk_end form s (suc k) at state m (le-ltb at (length s) (omega arith))) (from-finish at state l)
  ]
    where
      go : at < length s → (j : Result State Fault) → judge form state m s at ≡ j → ((next : State) → at + 1 + body_length (get_or s at 0) ≤ length s → From (at + 1 + body_length (get_or s at 0)) (walk form k s (at + 1 + body_length (get_or s at 0)) next (met_at s at m))) →
          From at (walk form (suc k) s at state m)
      go p (Ok next) e rest = let b = (taken form state m s at next e).body in rw (walk-next form s k at state next m (lt-ltb _ _ p) e) (from-later (omega arith) (rest next (omega arith)))
      go p (Err fault) e rest = rw (walk-bad form s k at state m fault (lt-ltb _ _ p) e) (from-refused at fault p)

  -- a record whose kind is allowed is not refused for its kind
  not-kind : (at : ℕ) (state : State) (m : Memory) (fault : Fault) → allowed form state (get_or s at 0) ≡ true → Looked form state m s at (Err fault) → code_base form + fault_number fault ≡ kind → ⊥
  not-kind at state m fault a (kind_failed k) e = let z : ◌≡◌ {A = ℕ} 0 1 = cc in omega arith
  not-kind at state m fault a (cut_failed k c) e = omega arith
  not-kind at state m fault a (whole_record k c (range_failed r)) e = omega arith
  not-kind at state m fault a (whole_record k c (size_failed r z)) e = omega arith
  not-kind at state m fault a (whole_record k c (number_failed r z o)) e = omega arith
  not-kind at state m fault a (whole_record k c (arity_failed r z o n)) e = omega arith

  -- so where a kind is allowed, the check comes past it
  pub allowed-past : (k at : ℕ) (state : State) (m : Memory) → at < length s → allowed form state (get_or s at 0) ≡ true → at < allowed_up_to (code_base form) (walk form (suc k) s at state m) (length s)
  allowed-past k at state m l a = go (judge form state m s at) refl
    where
      past : (c : Check) → From (at + 1) c → at < allowed_up_to (code_base form) c (length s)
      past c (no_fault z) = simp (eq-eqb c.code 0 z) l
      past c (kind_at z p q) = simp (ne_eqb c.code 0 (λ w. omega arith), eq-eqb c.code kind z) (omega arith)
      past c (other_at z n p q) = simp (ne_eqb c.code 0 z, ne_eqb c.code kind n) (omega arith)

      some : (fault : Fault) → code_base form + fault_number fault ≡ 0 → ⊥
      some Kind e = omega arith
      some Cut e = omega arith
      some Range e = omega arith
      some Size e = omega arith
      some Number e = omega arith
      some Arity e = omega arith

      go : (j : Result State Fault) → judge form state m s at ≡ j → at < allowed_up_to (code_base form) (walk form (suc k) s at state m) (length s)
      go (Ok next) e =
          let b = (taken form state m s at next e).body in
          rw (walk-next form s k at state next m (lt-ltb _ _ l) e) (past _ (from-later (omega arith) (walk_from k (at + 1 + body_length (get_or s at 0)) next (met_at s at m) (omega arith))))
      go (Err fault) e =
          let n = not-kind at state m fault a (subst (Looked form state m s at) e (looked form state m s at)) in
          rw (walk-bad form s k at state m fault (lt-ltb _ _ l) e) (simp (ne_eqb (code_base form + fault_number fault) 0 (some fault), ne_eqb (code_base form + fault_number fault) kind n) (omega arith))

  -- it never comes past the input
  pub within : (c : Check) → From 0 c → allowed_up_to (code_base form) c (length s) ≤ length s
  within c (no_fault z) = simp (eq-eqb c.code 0 z) (omega arith)
  within c (kind_at z p q) = simp (ne_eqb c.code 0 (λ w. omega arith), eq-eqb c.code kind z) q
  within c (other_at z n p q) = simp (ne_eqb c.code 0 z, ne_eqb c.code kind n) (omega arith)

  pub verdict-within : (m : Memory) → length s ≤ byte_limit form → allowed_up_to (code_base form) (verdict form m s) (length s) ≤ length s
  unfolding verdict
  verdict-within m l = simp (le-ltb (byte_limit form) (length s) l) (within _ (walk_from (suc (length s)) 0 start m (omega arith)))
