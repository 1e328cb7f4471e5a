-- From a head's own variables to all: what is made equal then is what was to be made equal.
use Rattle.std.specs.Prelude.{ℕ, ◌+◌, ◌-◌, ◌%◌, ◌<◌, ◌≤◌, ◌≡◌, ◌↔◌, List, length, get_or}
use Rattle.std.proofs.Common.{arith, sym as inv, ap, ◌∙◌, subst, inl, inr, lt-ltb}
use Rattle.terms.specs.Subst.{Subst}
use Rattle.words.specs.Word.{kind_of}
use Rattle.heap.specs.Heap.{Whole, bound, Made, Solves, Solved}
use Rattle.heap.specs.Following.{Followed}
use Rattle.matching.specs.Meeting.{Equal, Bindable}
use Rattle.matching.proofs.MeetLaws.{bind_left}
use Rattle.matching.proofs.StepLaws.{step_hang}
use Rattle.matching.proofs.HeadLaws.{left-row, right-row, right_inside, symbol-here}
use Rattle.matching.specs.Occurring.{Apart}
use Rattle.matching.specs.Binding.{counted, Trailed}
use Rattle.matching.specs.Pairs.{EqualLevels, EqualAll}
use Rattle.matching.proofs.PairLaws.{none-due}
use Rattle.matching.specs.Unifying.{Begun, Unseen, More, Bound, Stepped, Unified}
use Rattle.matching.proofs.UnseenLaws.{unseen as more-unseen}
use Rattle.matching.specs.Heads.{Extends, Matching}
use Rattle.matching.specs.declared.pairs.Pairs.{Pairs}
use Rattle.matching.specs.declared.unifying.Trial.{Trial}
use Rattle.matching.specs.declared.unifying.Step.TheVariants as Step
use Rattle.matching.specs.declared.unifying.Tried.{Tried}

module _ {heap : List ℕ} {base : ℕ} {cells cells' : List ℕ} (x : Extends heap base cells cells') where
  -- nothing comes on the trail
  pub extends-trailed : {before trail : List ℕ} {n : ℕ} → Trailed before cells trail base n → Trailed before cells' trail base n
  extends-trailed t = record {
    kept = λ v l. elim (t.kept v l) [ inl e ↦ inl (x.old v l ∙ e) | inr z ↦ inr z ];
    inside = λ i l. omega (arith, t.inside i l, x.long);
    fresh = t.fresh;
    held = λ i l e. t.held i l (x.grows _ e);
  }

module _ (t : Trial) {heap cells cells' : List ℕ} (x : Extends heap t.base cells cells') where
  -- a trial may begin again
  pub extends-begun : Begun heap cells t → Begun heap cells' t
  extends-begun b = record { none = b.none; inner = λ v p l z. b.inner v p l (inv (x.old v l) ∙ z); low = b.low }

  pub unlike_clash : (trail : List ℕ) (p q : ℕ) → ((τ : Subst) → Solves heap cells τ → ¬ Equal heap τ 1 p q) → Unified heap cells trail t p q cells' trail (Tried.Clash t.count)
  unlike_clash trail p q none = ((λ before y. extends-trailed x y, omega arith, x.long), none, x.unseen)

module _ (t : Trial) {heap cells cells' stack : List ℕ} {p q : ℕ} {x : Pairs} (m : Matching heap t.base cells p q cells' stack x) where
  -- the pairs that are left are made equal just where the rows are
  left-same : (τ : Subst) → Solves heap cells' τ → EqualAll heap stack τ x ↔ Equal heap τ 1 p q
  left-same τ s = (λ e. ((m.just τ).1 (s, e)).1, λ e. ((m.just τ).0 (m.extends.back τ s, e)).1)

  -- rows at a and b are made equal for it
  module _ {a b : ℕ} (same : (τ : Subst) → Solves heap cells' τ → EqualAll heap stack τ x ↔ Equal heap τ 1 a b) {cells'' : List ℕ} (more : More heap cells' a b cells'') where
    more-after : More heap cells p q cells''
    more-after = record {
      made = more.made;
      long = more.long ∙ m.extends.long;
      grows = λ v e. m.extends.grows v (more.grows v e);
      solved = λ θ s. let (θ', s') = m.extends.solved θ s in more.solved θ' s';
      just = λ τ. (
        λ y. let (s, e) = (m.just τ).0 y in (more.just τ).0 (s, (same τ s).0 e),
        λ s. let (z, e) = (more.just τ).1 s in (m.just τ).1 (z, (same τ z).1 e),
      );
    }

    unseen-after : Unseen heap cells cells''
    unseen-after θ s n v f h e = more-unseen more-after (more-after.solved θ s).1 n v f h e

  -- none is left
  pub fit-done : {trail : List ℕ} → x.due ≡ 0 → Unified heap cells trail t p q cells' trail (Tried.Fits t.count t.fuel)
  fit-done none = (
    record {
      made = m.extends.made;
      long = m.extends.long;
      grows = m.extends.grows;
      solved = m.extends.solved;
      just = λ τ. (λ y. ((m.just τ).0 y).0, λ s. (m.just τ).1 (s, (none-due heap τ x.p x.q x.due none, subst (EqualLevels heap stack τ) (inv (m.ended none)) tt)));
    },
    (λ before y. extends-trailed m.extends y, omega arith, m.extends.long),
    omega arith,
    m.extends.unseen,
  )

  -- the rows are made equal from the start
  pub fit-again : (trail cells'' trail'' : List ℕ) (z : Tried ℕ) → Unified heap cells' trail t p q cells'' trail'' z → Unified heap cells trail t p q cells'' trail'' z
  fit-again trail cells'' trail'' (Tried.Fits count left) (more, kept, few, unseen) = (
    more-after left-same more,
    (λ before y. kept.0 before (extends-trailed m.extends y), kept.1, kept.2 ∙ m.extends.long),
    few,
    unseen-after left-same more,
  )
  fit-again trail cells'' trail'' (Tried.Clash count) (kept, none, unseen) = (
    (λ before y. kept.0 before (extends-trailed m.extends y), kept.1, kept.2 ∙ m.extends.long),
    λ τ s e. none τ ((m.just τ).0 (s, e)).0 e,
    λ θ s n v f h e. let (θ', s') = m.extends.solved θ s in unseen θ' s' n v f h (m.extends.unseen θ s n v f h e),
  )
  fit-again trail cells'' trail'' (Tried.Tired count) (kept, unseen) = (
    (λ before y. kept.0 before (extends-trailed m.extends y), kept.1, kept.2 ∙ m.extends.long),
    λ θ s n v f h e. let (θ', s') = m.extends.solved θ s in unseen θ' s' n v f h (m.extends.unseen θ s n v f h e),
  )

  -- one pair is left, and is made equal
  pub fit-last : {trail cells'' trail'' : List ℕ} {n left : ℕ} → x.due ≡ 1 → x.depth ≡ 0 → Stepped heap cells' trail t x.p x.q cells'' trail'' (Step.Done n left) → left < t.fuel → Unified heap cells trail t p q cells'' trail'' (Tried.Fits n left)
  fit-last one flat (more, kept, few) paid = (
    more-after same more,
    (λ before y. kept.trailed before (extends-trailed m.extends y), omega (arith, kept.slow, paid), more.long ∙ m.extends.long),
    omega (arith, kept.slow, paid),
    unseen-after same more,
  )
    where
      same : (τ : Subst) → Solves heap cells' τ → EqualAll heap stack τ x ↔ Equal heap τ 1 x.p x.q
      same τ s = (λ (e, l). subst (λ n. Equal heap τ n x.p x.q) one e, λ e. (subst (λ n. Equal heap τ n x.p x.q) (inv one) e, subst (EqualLevels heap stack τ) (inv flat) tt))

pub counted-goal : (base v n : ℕ) → v < base → n + 1 ≡ counted base v n
counted-goal base v n l = rw (lt-ltb v base l) (omega arith)

-- a variable of the goal that is not bound, and a row of the head that begins with a symbol
module _ {heap cells : List ℕ} (made : Made heap cells) (x : Pairs) (due : 0 < x.due) (left : Whole heap x.due x.p) (right : Whole heap x.due x.q) (r v y w : ℕ) (f : Followed heap cells x.p r)
    (ey : y ≡ get_or heap r 0) (low : y < 33554432) (ev : v ≡ y % 65536) (ew : w ≡ get_or heap x.q 0) (high : 33554432 ≤ w) where
  kind : kind_of (get_or heap r 0) ≡ 1
  kind = omega (arith, ey, low, (made.fits r f.row.inside).valid.low)

  pub hung-bindable : Bindable heap cells x.p x.q v x.q
  hung-bindable = subst (λ n. Bindable heap cells x.p x.q n x.q) (ap (λ u. u % 65536) (inv ey) ∙ inv ev) (bind_left made f (symbol-here (right_inside made x due left right) (omega (arith, ew, high))) (left-row made x due left right) (right-row made x due left right) kind)

  pub hung_so : (t : Trial) {trail : List ℕ} → ((θ : Subst) × Solved heap cells θ) → t.count < length trail → {cells' trail' : List ℕ} → Bound heap cells trail t v x.q cells' trail' (t.count + 1) → Apart heap cells v x.q
      → Stepped heap cells trail t x.p x.q cells' trail' (Step.Done (t.count + 1) (t.fuel - 1))
  hung_so t {trail} some room {cells'} {trail'} bound away =
      step_hang heap cells trail t x.p x.q made hung-bindable (λ k. omega (arith, k, ew, high)) some room cells' trail' (Step.Done (t.count + 1) (t.fuel - 1)) (bound, omega arith, away)
