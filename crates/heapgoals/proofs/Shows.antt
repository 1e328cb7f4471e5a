-- What is held, written piece by piece.
use Prim.Native.Nat.{ℕ, zero, suc, ◌<◌, ◌≤◌}
use native.Mathlib.Omega.{arith}
use mathlib.Core.Path.{◌≡◌, refl, sym as inv, ap, ap₂, ◌∙◌, subst}
use mathlib.Core.List.{List, [], ◌++◌, append-nil, append_assoc}
use lib.ListN.{length, get_or, take, drop, length-drop}
use lib.Seq.{get_or-take, length-take-le}
use borrow.Rule.Slice.PartMut.{put_mid, take_put, same_len_mid}
use Rattle.terms.specs.Node.{Expr}
use Rattle.terms.specs.Subst.{Subst, apply}
use Rattle.numbering.specs.Naming.{table, back, Table}
use Rattle.heap.specs.Heap.{rows, Whole, Solved}
use Rattle.heap.specs.Walking.{level_at, level_due, Levels, behind, Ready}
use Rattle.heap.specs.Writing.{Writes, Written}
use Rattle.heap.specs.WriteLaws.{writes-none, writes-append}
use Rattle.heap.specs.declared.walking.Walk.{Walk}
use Rattle.heap.specs.declared.writing.Pen.{Pen}
use Rattle.heapgoals.specs.declared.Standing.{Standing}
use Rattle.heapgoals.specs.HoldLaws.{Fore, fore-at, fore-due}
use Rattle.heapgoals.specs.Showing.{visited, goal_part, Laid}

-- no variable has a number yet
pub no_names : (t b : List ℕ) → Table [] t b 0
no_names t b = record { counted = refl; listed = refl; at = λ v e. let z : ◌≡◌ {A = ℕ} 0 1 = cc in absurd (omega arith) }

-- a walk without levels
pub alone : {heap : List ℕ} (levels : List ℕ) (w : Walk) → Whole heap w.due w.at → w.depth ≡ 0 → Ready heap levels w
alone levels w r e = record { front = r; back = λ i h. absurd (omega (arith, e, h)); ended = λ z. e; room = omega (arith, e) }

pub laid-written : {heap cells names out names' out' : List ℕ} {pen r : Pen} {w : Walk} {limit : ℕ} → Written heap cells names out pen w limit names' out' r → Laid heap cells names out pen (visited heap w.due w.at) limit names' out' r
laid-written x = record { fits = x.fits; few = x.few }

pub laid-over : {heap cells names out names' out' : List ℕ} {pen r : Pen} {e : Subst → Expr} {limit : ℕ} → limit < r.at → Laid heap cells names out pen e limit names' out' r
laid-over l = record { fits = λ h. absurd (omega (arith, l, h)); few = λ h. absurd (omega (arith, l, h)) }

module _ {heap cells names out names' out' : List ℕ} {pen r : Pen} {e : Subst → Expr} {limit : ℕ} (x : Laid heap cells names out pen e limit names' out' r) (l : r.at ≤ limit) where
  pub laid_both : {names'' out'' : List ℕ} {q : Pen} {d : Subst → Expr} {limit' : ℕ} → Laid heap cells names' out' r d limit' names'' out'' q → Laid heap cells names out pen (λ θ. e θ ++ d θ) limit' names'' out'' q
  laid_both y = record { fits = λ h θ s. writes-append (x.fits l θ s) (y.fits h θ s); few = y.few }

  -- the variables named so far
  pub laid-named : ((θ : Subst) × Solved heap cells θ) → ((seen : List ℕ) × Table seen (table names) (back names) pen.count) → (seen : List ℕ) × Table seen (table names') (back names') r.count
  laid-named (θ, s) (seen, t) = (_, (x.fits l θ s).named seen t)

-- Of the levels, those from n on are written.
pub record Lowered (heap cells levels names out : List ℕ) (first : Pen) (depth : ℕ) (names' out' : List ℕ) (pen : Pen) (n : ℕ) : Type 0 where
  pub low : n ≤ depth
  pub high : pen.at ≤ 4096
  pub few : pen.count ≤ pen.at
  pub named : (seen : List ℕ) × Table seen (table names') (back names') pen.count
  pub so_far : (θ : Subst) → Solved heap cells θ → (done : Expr) × (done ++ behind heap levels θ n ≡ behind heap levels θ depth) × Writes names out first done names' out' pen

module _ {heap cells levels names out : List ℕ} {first : Pen} {depth : ℕ} where
  pub low-start : first.at ≤ 4096 → first.count ≤ first.at → ((seen : List ℕ) × Table seen (table names) (back names) first.count) → Lowered heap cells levels names out first depth names out first depth
  low-start l f t = record { low = omega arith; high = l; few = f; named = t; so_far = λ θ s. ([], refl, writes-none names out first) }

  module _ {names' out' : List ℕ} {pen : Pen} {n : ℕ} (x : Lowered heap cells levels names out first depth names' out' pen n) where
    pub low_end : n ≤ 0 → Laid heap cells names out first (λ θ. behind heap levels θ depth) 4096 names' out' pen
    low_end z = record {
      fits = λ l θ s.
          let (done, e, p) = x.so_far θ s in
          let none : n ≡ 0 = omega (arith, z) in
          subst (λ y. Writes names out first y names' out' pen) (inv (append-nil done) ∙ ap (λ k. done ++ behind heap levels θ k) (inv none) ∙ e) p;
      few = λ l. x.few;
    }

    pub low-on : {k at due : ℕ} → n ≡ suc k → at ≡ level_at levels k → due ≡ level_due levels k → {names'' out'' : List ℕ} {r : Pen} → Laid heap cells names' out' pen (visited heap due at) 4096 names'' out'' r → r.at ≤ 4096
        → ((θ : Subst) × Solved heap cells θ) → Lowered heap cells levels names out first depth names'' out'' r k
    low-on {k} e p q {names''} {out''} {r} y l some = record {
      low = omega (arith, e, x.low);
      high = l;
      few = y.few l;
      named = laid-named y l some x.named;
      so_far = λ θ s.
          let (done, same, w) = x.so_far θ s in
          let next = subst (λ z. Writes names' out' pen z names'' out'' r) (ap₂ (λ i j. apply θ (rows heap i j)) q p) (y.fits l θ s) in
          let here = apply θ (rows heap (level_due levels k) (level_at levels k)) in
          (done ++ here, append_assoc done here (behind heap levels θ k) ∙ ap (λ i. done ++ behind heap levels θ i) (inv e) ∙ same, writes-append w next);
    }

-- Levels of which those behind the goal's are lent.
pub part-fore : (levels part : List ℕ) → length levels ≡ 1028 → length part ≡ length (take 514 (drop 514 levels)) → Fore levels (put_mid 514 514 levels part)
part-fore levels part long e = record {
  long = same_len_mid 514 514 levels part e;
  same = λ i l. inv (get_or-take 514 (put_mid 514 514 levels part) i 0 l) ∙ ap (λ z. get_or z i 0) (take_put 514 514 levels part (omega (arith, long))) ∙ get_or-take 514 levels i 0 l;
}

pub part-long : (levels : List ℕ) → length levels ≡ 1028 → 514 ≤ length (take 514 (drop 514 levels))
part-long levels e = omega (arith, e, length-drop 514 levels, length-take-le 514 (drop 514 levels) (omega (arith, e, length-drop 514 levels)))

-- A level that is read.
pub level-read : (heap : List ℕ) {levels levels' : List ℕ} {depth : ℕ} → Levels heap levels depth → Fore levels levels' → depth ≤ 256 → (k : ℕ) → k < depth → {at due : ℕ} → at ≡ level_at levels' k → due ≡ level_due levels' k
    → Whole heap due at × (at ≡ level_at levels k) × (due ≡ level_due levels k)
level-read heap all x d k l e f =
    let p = e ∙ fore-at x k (omega (arith, d, l)) in
    let q = f ∙ fore-due x k (omega (arith, d, l)) in
    (rw q (rw p (all k l).0), p, q)

fore-behind : {levels levels' : List ℕ} → Fore levels levels' → (heap : List ℕ) (θ : Subst) (n : ℕ) → n ≤ 256 → behind heap levels' θ n ≡ behind heap levels θ n
fore-behind x heap θ zero l = refl
fore-behind x heap θ (suc n) l = ap₂ ◌++◌ (ap₂ (λ i j. apply θ (rows heap i j)) (fore-due x n (omega arith)) (fore-at x n (omega arith))) (fore-behind x heap θ n (omega arith))

-- The rows at the front, and then those of the levels.
pub goal_laid : {heap cells levels levels' names out names' out' names'' out'' : List ℕ} {pen r q : Pen} (s : Standing) → Laid heap cells names out pen (visited heap s.due s.at) 4096 names' out' r → r.at ≤ 4096
    → Fore levels levels' → s.depth ≤ 256 → Laid heap cells names' out' r (λ θ. behind heap levels' θ s.depth) 4096 names'' out'' q → Laid heap cells names out pen (goal_part heap levels s) 4096 names'' out'' q
goal_laid {heap} {names' = names'} {out'} {names''} {out''} {r = r} {q} s x l f d y = record {
  fits = λ h θ t. writes-append (x.fits l θ t) (subst (λ e. Writes names' out' r e names'' out'' q) (fore-behind f heap θ s.depth d) (y.fits h θ t));
  few = y.few;
}
