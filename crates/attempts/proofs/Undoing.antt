-- How a trial begins, and how it is undone.
use Prim.Native.Nat.{ℕ, ◌+◌, ◌<◌, ◌≤◌}
use native.Mathlib.Omega.{arith}
use native.Mathlib.Decide.{dec_lt}
use mathlib.Core.Path.{◌≡◌, refl, sym as inv, ap, ◌∙◌, subst}
use mathlib.Core.Logic.{inl, inr}
use mathlib.Core.List.{List, ◌++◌}
use lib.ListN.{length, take, drop, length-drop, get_or-append}
use lib.Seq.{ext_get_or, get_or-take, length-take-le, take_at, drop_at}
use borrow.Rule.Slice.PartMut.{put_mid, same_len_mid}
use Rattle.heap.specs.Heap.{bound}
use Rattle.bounds.specs.Sizing.{Weighed}
use Rattle.std.specs.Prelude.{Option}
use Rattle.bounds.specs.declared.Weight.{Weight}
use Rattle.matching.specs.Binding.{Trailed, trail-none}
use Rattle.matching.specs.Unifying.{Begun, Unseen, TrailKept}
use Rattle.matching.specs.declared.unifying.Trial.{Trial}
use Rattle.trials.specs.Trying.{trail}
use Rattle.heapgoals.specs.Rows.{Cleared}
use Rattle.heapgoals.specs.HoldLaws.{Fore}
use Rattle.heapgoals.specs.declared.Standing.{Standing}
use Rattle.attempts.specs.Trying.{IsSetUp, Undoable}

-- what is undone and cleared is as it was
pub restored : {before cells tables mid z : List ℕ} {base count : ℕ} → Undoable before cells tables base count → length mid ≡ length cells → ((v : ℕ) → bound cells v ≡ 0 → bound mid v ≡ 0)
    → ((v : ℕ) → v < base → bound mid v ≡ bound before v) → Cleared mid base (base + 64) z → z ≡ before
restored {before} {z = z} {base} u long free undone c = ext_get_or 0 z before (c.long ∙ long ∙ u.long) (λ v l. elim (dec_lt v base) [
  | yes h ↦ c.outside v (inl h) ∙ undone v h
  | no n ↦ elim (dec_lt v (base + 64)) [
    | yes k ↦ c.inside v (omega (arith, n)) k ∙ inv (u.new v (omega (arith, n)))
    | no m ↦ c.outside v (inr (omega (arith, m))) ∙ free v (u.unseen v (omega (arith, m))) ∙ inv (u.new v (omega (arith, n)))
  ]
])

abbrev pub start : Standing → ℕ → Trial
start s k = record { base = s.base; start = s.top; count = 0; fuel = k }

abbrev pub Starts : Standing → Trial → Type 0
Starts s t = (k : ℕ) × (k ≤ 8224) × (t ≡ start s k)

pub start-few : (s : Standing) (t : Trial) → Starts s t → (t.fuel ≤ 8448) × (t.count + t.fuel ≤ 8448)
start-few s t (k, l, e) = rw e (omega (arith, l), omega (arith, l))

pub begins : {heap cells : List ℕ} {s : Standing} → IsSetUp heap cells s → (t : Trial) → Starts s t → Begun heap cells t
begins x t (k, l, e) = rw e (record { none = refl; inner = x.inner; low = x.low })

module _ (tables : List ℕ) (l : length tables ≡ 30464) where
  pub trail_long : length (take 8448 (drop 16512 tables)) ≡ 8448
  trail_long = length-take-le 8448 (drop 16512 tables) (omega (arith, length-drop 16512 tables, l))

-- the trail after the part is back
pub trail-back : (tables now : List ℕ) → length tables ≡ 30464 → length now ≡ length (take 8448 (drop 16512 tables)) → trail (put_mid 16512 8448 tables now) ≡ now
trail-back tables now l e =
    ap (take 8448) (drop_at (take 16512 tables) (now ++ drop 8448 (drop 16512 tables)) 16512 (length-take-le 16512 tables (omega (arith, l))))
    ∙ take_at now (drop 8448 (drop 16512 tables)) 8448 (e ∙ trail_long tables l)

-- what was weighed with the part is weighed with the whole
pub weighed-back : (heap cells : List ℕ) {now whole : List ℕ} {base base' : ℕ} (count : ℕ) (size : Option Weight) → base ≡ base' → whole ≡ now → Weighed heap cells base now count size → Weighed heap cells base' whole count size
weighed-back heap cells {whole = whole} {base = base} count size same is w = subst (λ n. Weighed heap cells n whole count size) same (subst (λ l. Weighed heap cells base l count size) (inv is) w)

module _ {heap before : List ℕ} {s : Standing} (x : IsSetUp heap before s) (tables cells now tables' : List ℕ) (count : ℕ) (is : trail tables' ≡ now) (t : Trial) (b : Starts s t) (k : TrailKept before (trail tables) t cells now count) (unseen : Unseen heap before cells) where
  kept : TrailKept before (trail tables) (start s b.0) cells now count
  kept = subst (λ y. TrailKept before (trail tables) y cells now count) b.2 k

  pub undoable : Undoable before cells tables' s.base count
  undoable = record {
    long = kept.2;
    trailed = subst (λ t. Trailed before cells t s.base count) (inv is) (kept.0 before (trail-none before (trail tables) s.base));
    few = omega (arith, kept.1, b.1);
    new = x.new;
    unseen = λ v l. unseen x.solved.0 x.solved.1 (s.base + 64) v x.fits l (x.new v (omega (arith, l)));
  }

-- levels of which the end is lent
pub fore-part : (levels part : List ℕ) → length levels ≡ 1028 → length part ≡ length (take 514 (drop 514 levels)) → Fore levels (put_mid 514 514 levels part)
fore-part levels part l e = record {
  long = same_len_mid 514 514 levels part e;
  same = λ i h. get_or-append (take 514 levels) (part ++ drop 514 (drop 514 levels)) 0 i (omega (arith, h, length-take-le 514 levels (omega (arith, l)))) ∙ get_or-take 514 levels i 0 h;
}
