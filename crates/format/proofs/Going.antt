-- Where the reading of the records stands, between two records.
use Prim.Native.Nat.{ℕ, zero, suc, ◌+◌, ◌-◌, ◌≤◌, ◌<◌, zero-le}
use native.Mathlib.Omega.{arith}
use borrow.Author.Tests.{lt-ltb, le-ltb}
use mathlib.Core.Path.{◌≡◌, refl, sym, ◌∙◌}
use mathlib.Core.List.{List}
use mathlib.Core.Bool.{true, false}
use lib.ListN.{length, get_or}
use lib.Dec.{ltb}
use Rattle.format.specs.declared.State.{State}
use Rattle.format.specs.declared.Form.{Form}
use Rattle.format.specs.declared.Fault.{Fault}
use Rattle.std.specs.Prelude.{Ok, Err}
use Rattle.format.specs.Reading.{body_length, judge, refused, record_at, finish, walk, met_from, start}
use Rattle.format.specs.Arities.{Memory, meets}
use Rattle.format.proofs.Taken.{taken, Within, within-later, after-within}

-- what is remembered after the record at a place
abbrev pub met_at : List ℕ → ℕ → Memory → Memory
met_at s at m = meets m (record_at s at (get_or s at 0))

module _ (form : Form) (s : List ℕ) where
  pub walk-next : (k at : ℕ) (state next : State) (m : Memory) → ltb at (length s) ≡ true → judge form state m s at ≡ Ok next →
      walk form (suc k) s at state m ≡ walk form k s (at + 1 + body_length (get_or s at 0)) next (met_at s at m)
  unfolding walk
  walk-next k at state next m p e = simp (p, e)

  pub walk-bad : (k at : ℕ) (state : State) (m : Memory) (fault : Fault) → ltb at (length s) ≡ true → judge form state m s at ≡ Err fault →
      walk form (suc k) s at state m ≡ refused form fault at
  unfolding walk
  walk-bad k at state m fault p e = simp (p, e)

  pub walk_end : (k at : ℕ) (state : State) (m : Memory) → ltb at (length s) ≡ false → walk form k s at state m ≡ finish form state (length s)
  unfolding walk
  walk_end zero at state m p = refl
  walk_end (suc k) at state m p = simp p

met_next : (s : List ℕ) (k at : ℕ) (m : Memory) → ltb at (length s) ≡ true → met_from (suc k) s at m ≡ met_from k s (at + 1 + body_length (get_or s at 0)) (met_at s at m)
unfolding met_from
met_next s k at m p = simp p

met-end : (s : List ℕ) (k at : ℕ) (m : Memory) → ltb at (length s) ≡ false → met_from k s at m ≡ m
unfolding met_from
met-end s zero at m p = refl
met-end s (suc k) at m p = simp p

-- at a place, in a state and with a memory from which the walk answers, and leaves remembered, what it does from the start
pub record Going (form : Form) (s : List ℕ) (before : Memory) (state : State) (at : ℕ) (m : Memory) : Type 0 where
  pub bound : at ≤ length s
  pub counted : Within at state
  pub fuel : ℕ
  pub enough : length s - at < fuel
  pub same : walk form fuel s at state m ≡ walk form (suc (length s)) s 0 start before
  pub met : met_from fuel s at m ≡ met_from (suc (length s)) s 0 before

module _ (form : Form) (s : List ℕ) (before : Memory) where
  pub going_start : Going form s before start 0 before
  going_start = record { bound = zero-le; counted = omega arith; fuel = suc (length s); enough = omega arith; same = refl; met = refl }

  going-by : (state : State) (at : ℕ) (m : Memory) (next : State) (k : ℕ) → at < length s → Within at state → length s - at < k →
      walk form k s at state m ≡ walk form (suc (length s)) s 0 start before → met_from k s at m ≡ met_from (suc (length s)) s 0 before → judge form state m s at ≡ Ok next →
      Going form s before next (at + 1 + body_length (get_or s at 0)) (met_at s at m)
  going-by state at m next zero l w p e f j = absurd (omega arith)
  going-by state at m next (suc k) l w p e f j =
      let t = taken form state m s at next j in
      let body = t.body in
      record {
        bound = omega arith;
        counted = within-later (at + 1) _ next (omega arith) (rw t.item.then (after-within at state _ t.item.within_range w));
        fuel = k;
        enough = omega arith;
        same = sym (walk-next form s k at state next m (lt-ltb _ _ l) j) ∙ e;
        met = sym (met_next s k at m (lt-ltb _ _ l)) ∙ f;
      }

  pub going_next : (state : State) (at : ℕ) (m : Memory) (next : State) → Going form s before state at m → at < length s → judge form state m s at ≡ Ok next →
      Going form s before next (at + 1 + body_length (get_or s at 0)) (met_at s at m)
  going_next state at m next g l j = going-by state at m next g.fuel l g.counted g.enough g.same g.met j

  bad-by : (state : State) (at : ℕ) (m : Memory) (fault : Fault) (k : ℕ) → at < length s → length s - at < k →
      judge form state m s at ≡ Err fault → walk form k s at state m ≡ refused form fault at
  bad-by state at m fault zero l p j = absurd (omega arith)
  bad-by state at m fault (suc k) l p j = walk-bad form s k at state m fault (lt-ltb _ _ l) j

  pub going-bad : (state : State) (at : ℕ) (m : Memory) (fault : Fault) → Going form s before state at m → at < length s → judge form state m s at ≡ Err fault →
      refused form fault at ≡ walk form (suc (length s)) s 0 start before
  going-bad state at m fault g l j = sym (bad-by state at m fault g.fuel l g.enough j) ∙ g.same

  pub going_end : (state : State) (at : ℕ) (m : Memory) → Going form s before state at m → length s ≤ at →
      finish form state (length s) ≡ walk form (suc (length s)) s 0 start before
  going_end state at m g l = sym (walk_end form s g.fuel at state m (le-ltb _ _ l)) ∙ g.same

  pub going-met : (state : State) (at : ℕ) (m : Memory) → Going form s before state at m → length s ≤ at → m ≡ met_from (suc (length s)) s 0 before
  going-met state at m g l = sym (met-end s g.fuel at m (le-ltb _ _ l)) ∙ g.met
