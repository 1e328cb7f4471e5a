-- Laws of rows of terms, and of the walk over them.
use Prim.Native.Nat.{ℕ, zero, suc, ◌+◌, ◌-◌, ◌≤◌, ◌<◌}
use native.Mathlib.Omega.{arith}
use native.Mathlib.Numerals.{add-one}
use native.Mathlib.Nat.{zero-add, suc-add, add-suc}
use mathlib.Core.Path.{◌≡◌, refl, sym, ◌∙◌}
use mathlib.Core.List.{List, ◌∷◌}
use lib.ListN.{length, get_or, set, drop, length-drop}
use lib.Seq.{get_or-set_same, get_or-set_other, drop-cons}
use Rattle.words.specs.Word.{arity_of}
use Rattle.positions.specs.Words.{walk_of, Terms, terms_end, terms_more, Ended}
use Rattle.positions.specs.TrialLaws.{nonempty}

pub terms-drop : {m : ℕ} {l : List ℕ} → Terms m l → (p : ℕ) → p ≤ length l → (k : ℕ) × Terms k (drop p l)
terms-drop terms_end zero h = (0, terms_end)
terms-drop terms_end (suc p) h = absurd (omega arith)
terms-drop (terms_more {k = k} t) zero h = (suc k, terms_more t)
terms-drop (terms_more t) (suc p) h = terms-drop t p (omega arith)

uncons : {k w : ℕ} {l : List ℕ} → Terms k (w ∷ l) → (j : ℕ) × (k ≡ suc j) × Terms (arity_of w + j) l
uncons (terms_more {k = j} t) = (j, refl, t)

pub at-term : (l : List ℕ) (k p : ℕ) → Terms (suc k) (drop p l) → p < length l
at-term l k p t = omega (arith, nonempty t, length-drop p l)

pub args_row : (l : List ℕ) (k p : ℕ) → Terms (suc k) (drop p l) → Terms (arity_of (get_or l p 0) + k) (drop (p + 1) l)
args_row l k p t =
    let h : p < length l = at-term l k p t in
    let u : Terms (suc k) (get_or l p 0 ∷ drop (suc p) l) = rw (drop-cons l p 0 h) at t in
    let r = uncons u in
    let e : k ≡ r.0 = omega (arith, r.1) in
    rw (add-one, e) r.2

-- each position has a term
pub some-term : {m : ℕ} {l : List ℕ} → Terms m l → (p : ℕ) → p < length l → (k : ℕ) × Terms (suc k) (drop p l)
some-term {m} {l} t p h =
    let r = terms-drop t p (omega arith) in
    let u : Terms r.0 (get_or l p 0 ∷ drop (suc p) l) = rw (drop-cons l p 0 h) at r.1 in
    let s = uncons u in
    (s.0, rw (← s.1) r.1)

module _ (l e : List ℕ) (b : ℕ) (ok : (q : ℕ) → b < q → q < length l → Ended l e q) where
  pub walks : (i j c : ℕ) → b < c → Terms (i + j) (drop c l) → (b < walk_of e i c) × Terms j (drop (walk_of e i c) l)
  walks zero j c h t = (h, rw zero-add at t)
  walks (suc i) j c h t =
      let u : Terms (i + suc j) (drop c l) = rw (add-suc, ← suc-add) t in
      let r = walks i (suc j) c h u in
      let w : walk_of e i c < length l = at-term l j (walk_of e i c) r.1 in
      let g = ok (walk_of e i c) r.0 w in
      (omega (arith, g.above, r.0), g.rest j r.1)

  pub walk_inside : (k j c i : ℕ) → b < c → Terms (k + j) (drop c l) → i < k → walk_of e i c < length l
  walk_inside k j c i h t q =
      let x : k + j ≡ i + suc (k - i - 1 + j) = omega arith in
      let u : Terms (i + suc (k - i - 1 + j)) (drop c l) = rw (← x) t in
      at-term l (k - i - 1 + j) (walk_of e i c) (walks i (suc (k - i - 1 + j)) c h u).1

  pub walk-within : (i j c : ℕ) → b < c → c ≤ length l → Terms (i + j) (drop c l) → walk_of e i c ≤ length l
  walk-within zero j c h m t = m
  walk-within (suc i) j c h m t =
      let u : Terms (i + suc j) (drop c l) = rw (add-suc, ← suc-add) t in
      let r = walks i (suc j) c h u in
      (ok (walk_of e i c) r.0 (at-term l j (walk_of e i c) r.1)).within

  pub walk-set : (v i j c : ℕ) → b < c → Terms (i + j) (drop c l) → walk_of (set e b v) i c ≡ walk_of e i c
  walk-set v zero j c h t = refl
  walk-set v (suc i) j c h t =
      let u : Terms (i + suc j) (drop c l) = rw (add-suc, ← suc-add) t in
      let r = walks i (suc j) c h u in
      rw (walk-set v i (suc j) c h u) (get_or-set_other e b (walk_of e i c) v 0 (λ x. omega (arith, r.0, x)))

  walk-set-less : (v k j c i : ℕ) → b < c → Terms (k + j) (drop c l) → i ≤ k → walk_of (set e b v) i c ≡ walk_of e i c
  walk-set-less v k j c i h t q =
      let x : k + j ≡ i + (k - i + j) = omega arith in
      let u : Terms (i + (k - i + j)) (drop c l) = rw (← x) t in
      walk-set v i (k - i + j) c h u

  module _ {m : ℕ} (row : Terms m l) where
    pub ended-other : (v q : ℕ) → b < q → q < length l → Ended l (set e b v) q
    ended-other v q h n =
        let g = ok q h n in
        let s = some-term row q n in
        let t = args_row l s.0 q s.1 in
        let same : get_or (set e b v) q 0 ≡ get_or e q 0 = get_or-set_other e b q v 0 (λ x. omega (arith, h, x)) in
        record {
          above = rw same g.above;
          within = rw same g.within;
          last = rw same (g.last ∙ sym (walk-set-less v (arity_of (get_or l q 0)) s.0 (q + 1) (arity_of (get_or l q 0)) (omega arith) t (omega arith)));
          inside = λ i x. rw (walk-set-less v (arity_of (get_or l q 0)) s.0 (q + 1) i (omega arith) t (omega arith)) (g.inside i x);
          rest = λ k y. rw same (g.rest k y);
        }

    pub ended_here : (v : ℕ) → b < length l → length e ≡ length l → v ≡ walk_of e (arity_of (get_or l b 0)) (b + 1) → Ended l (set e b v) b
    ended_here v n le ve =
        let s = some-term row b n in
        let t = args_row l s.0 b s.1 in
        let a = arity_of (get_or l b 0) in
        let same : get_or (set e b v) b 0 ≡ v = get_or-set_same e b v 0 (omega arith) in
        let w = walks a s.0 (b + 1) (omega arith) t in
        record {
          above = rw (same, ve) w.0;
          within = rw (same, ve) (walk-within a s.0 (b + 1) (omega arith) (omega arith) t);
          last = rw same (ve ∙ sym (walk-set-less v a s.0 (b + 1) a (omega arith) t (omega arith)));
          inside = λ i x. rw (walk-set-less v a s.0 (b + 1) i (omega arith) t (omega (arith, x))) (walk_inside a s.0 (b + 1) i (omega arith) t x);
          rest = λ k y. rw (same, ve) (walks a k (b + 1) (omega arith) (args_row l k b y)).1;
        }
