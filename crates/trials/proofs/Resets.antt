-- No variable is bound any more.
use Prim.Native.Nat.{ℕ, ◌+◌, ◌<◌, ◌≤◌}
use native.Mathlib.Omega.{arith}
use native.Mathlib.Decide.{dec_lt}
use mathlib.Core.Path.{◌≡◌, refl, sym as inv, ap, ◌∙◌, subst}
use mathlib.Core.Logic.{inl}
use mathlib.Core.List.{List, ◌++◌}
use lib.ListN.{length, take, drop, length-drop, get_or-eq_default}
use lib.Seq.{length-take-le, take_at, drop_at}
use Rattle.heap.specs.Heap.{bound}
use Rattle.matching.specs.Binding.{Trailed, trail-none}
use Rattle.matching.specs.Unifying.{Low, Begun, More, TrailKept}
use Rattle.matching.specs.TrialLaws.{Free, trial-fits}
use Rattle.matching.specs.declared.unifying.Trial.{Trial}
use Rattle.heapgoals.specs.Rows.{Cleared}
use Rattle.trials.specs.Trying.{trail, Undoable, Fitted}
use borrow.Rule.Slice.PartMut.{put_mid}

-- where the goal's variables are not bound, and the clause's are cleared, none is
pub free-again : {cells z : List ℕ} → length cells ≡ 8256 → ((v : ℕ) → v < 8192 → bound cells v ≡ 0) → Cleared cells 8192 8256 z → Free z
free-again {cells} {z} l low x v = elim (dec_lt v 8192) [
  | yes h ↦ x.outside v (inl h) ∙ low v h
  | no n ↦ elim (dec_lt v 8256) [
    | yes k ↦ x.inside v (omega (arith, n)) k
    | no m ↦ get_or-eq_default z 0 (omega (arith, m, l, x.long))
  ]
]

-- The trail is a part of the tables.
module _ (tables : List ℕ) (l : length tables ≡ 30464) where
  pub trail_long : length (take 8448 (drop 16512 tables)) ≡ 8448
  trail_long = length-take-le 8448 (drop 16512 tables) (omega (arith, length-drop 16512 tables, l))

-- A trial that starts with nothing bound, from how it ends.
abbrev pub start : ℕ → ℕ → Trial
start q k = record { base = 8192; start = q; count = 0; fuel = k }

abbrev pub Starts : ℕ → Trial → Type 0
Starts q t = (k : ℕ) × (k ≤ 8448) × (t ≡ start q k)

module _ (heap before tables : List ℕ) (free : Free before) (q : ℕ) (cells now tables' : List ℕ) (count : ℕ) (is : trail tables' ≡ now) (t : Trial) (b : Starts q t) (k : TrailKept before (trail tables) t cells now count) where
  kept : TrailKept before (trail tables) (start q b.0) cells now count
  kept = subst (λ y. TrailKept before (trail tables) y cells now count) b.2 k

  pub undoable : Undoable cells tables' count
  undoable = record { before = before; free = free; trailed = subst (λ t. Trailed before cells t 8192 count) (inv is) (kept.0 before (trail-none before (trail tables) 8192)); few = omega (arith, kept.1, b.1) }

  pub fitted : More heap before 0 q cells → Fitted heap q cells tables' count
  fitted more =
      let (θ, s, g) = trial-fits {heap = heap} free 0 q more in
      record { made = more.made; undoable = undoable; unifier = θ; solved = s; general = g }

-- how far it may go
pub start-few : (q : ℕ) (t : Trial) → Starts q t → (t.fuel ≤ 8448) × (t.count + t.fuel ≤ 8448)
start-few q t (k, l, e) = rw e (l, omega (arith, l))

pub begins : {heap cells : List ℕ} → Free cells → (q : ℕ) → Low heap 8192 q → (t : Trial) → Starts q t → Begun heap cells t
begins free q low t (k, l, e) = rw e (record { none = refl; inner = λ v p l e. absurd (omega (arith, free v, e)); low = low })

-- the trail after the part is back
pub trail-back : (tables now : List ℕ) → length tables ≡ 30464 → length now ≡ length (take 8448 (drop 16512 tables)) → trail (put_mid 16512 8448 tables now) ≡ now
trail-back tables now l e =
    ap (take 8448) (drop_at (take 16512 tables) (now ++ drop 8448 (drop 16512 tables)) 16512 (length-take-le 16512 tables (omega (arith, l))))
    ∙ take_at now (drop 8448 (drop 16512 tables)) 8448 (e ∙ trail_long tables l)
