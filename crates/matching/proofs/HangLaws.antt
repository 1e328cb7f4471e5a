-- A variable of the goal on a row that it is not in: it stands for what the row stood for, and no more.
use Rattle.std.specs.Prelude.{ℕ, suc, ◌+◌, ◌-◌, ◌%◌, ◌<◌, ◌≤◌, ◌≡◌, refl, List, length, get_or, set, Option, Some, None, IfSome}
use Rattle.std.proofs.Common.{arith, lt-ltb, le-ltb, sym as inv, ap, ◌∙◌, subst, append-nil, get_or-set_same}
use Rattle.std.proofs.Math.Decide.{dec_lt}
use Rattle.terms.specs.Node.{Expr}
use Rattle.terms.specs.Row.{Row, row_var, row_sym}
use Rattle.terms.specs.Subst.{Subst, apply, only}
use Rattle.terms.specs.SubstLaws.{apply-row, only_same}
use Rattle.heap.specs.Heap.{rows, Whole, bound, Made, Solved}
use Rattle.heap.specs.Following.{Followed}
use Rattle.heap.proofs.BindLaws.{bind-solved}
use Rattle.heap.proofs.SolvedLaws.{solved-one}
use Rattle.bounds.specs.Places.{weigh, places, times, below}
use Rattle.bounds.specs.Sizing.{Sized, Weighs, Weighed}
use Rattle.bounds.specs.OftenLaws.{times_below, times_above}
use Rattle.bounds.specs.declared.Weight.{Weight}
use Rattle.matching.specs.Binding.{noted, counted}
use Rattle.matching.specs.Occurring.{Apart}
use Rattle.matching.specs.Unifying.{Bound}
use Rattle.matching.proofs.FitLaws.{fit-again, hung-bindable, hung_so}
use Rattle.matching.specs.Fitting.{Heavy, Hangs, HangsLast, Fitting}
use Rattle.matching.specs.declared.pairs.Pairs.{Pairs}
use Rattle.matching.specs.declared.unifying.Trial.{Trial}
use Rattle.matching.specs.Heads.{Matching}
use Rattle.matching.specs.declared.unifying.Tried.{Tried}

row-long : {e : Expr} → Row 1 e → 1 ≤ length e
row-long (row_var r) = omega arith
row-long (row_sym r) = omega arith

-- what was counted, n nodes and m places of variables, some of them of old ones
pub heavy : {heap cells : List ℕ} (base q n m old : ℕ) → ((θ : Subst) × Solved heap cells θ) → Whole heap 1 q → Sized heap cells q 1 4096 (record { nodes = n; variables = m }) → ((θ : Subst) → Solved heap cells θ → old ≡ weigh (below base) (apply θ (rows heap 1 q))) → old ≤ m
    → {m' : ℕ} → (m ≤ m') × (1 ≤ m') × ((k : ℕ) → m ≤ k → 1 ≤ k → m' ≤ k) → {t : ℕ} → (m - old ≤ t) × (1 + old ≤ t) × ((k : ℕ) → m - old ≤ k → 1 + old ≤ k → t ≤ k)
    → Heavy heap cells base q (record { nodes = n; variables = m'; times = t })
heavy {heap} base q n m old (θ, s) whole x is few l most = record {
  one = l.1;
  low = x.low;
  few = l.2 _ x.few (omega (arith, x.long θ s, row-long (apply-row θ s.solves.proper whole)));
  long = λ θ s. omega (arith, x.long θ s);
  places = λ θ s. omega (arith, x.places θ s, l.0);
  old = λ θ s y h. omega (arith, times_below base y h (apply θ (rows heap 1 q)), is θ s, most.1);
  new = λ θ s y h. omega (arith, times_above base y h (apply θ (rows heap 1 q)), is θ s, x.places θ s, most.0);
  room = most.2 553648129 (omega (arith, x.few, x.low)) (omega (arith, few, x.few, x.low));
}

-- the variable v, which is not bound, on the row at q
module _ {heap cells : List ℕ} (made : Made heap cells) {θ : Subst} (s : Solved heap cells θ) (v q : ℕ) (free : bound cells v ≡ 0) (inside : v < length cells) (whole : Whole heap 1 q) (away : Apart heap cells v q)
    (made' : Made heap (set cells v (suc q))) where
  hung-term : (θ' : Subst) → Solved heap (set cells v (suc q)) θ' → θ' v ≡ apply θ (rows heap 1 q)
  hung-term θ' s' =
      solved-one made' (bind-solved heap cells v q free inside made s whole (away θ s)) θ' s' v
      ∙ ap (apply (only v (apply θ (rows heap 1 q)))) (s.free v free)
      ∙ append-nil (only v (apply θ (rows heap 1 q)) v)
      ∙ only_same v (apply θ (rows heap 1 q))

  pub hung-weighs : {base : ℕ} {trail' : List ℕ} {size : Weight} → get_or trail' 0 0 ≡ v → Heavy heap cells base q size → Weighs heap (set cells v (suc q)) base trail' 1 size
  hung-weighs {trail' = trail'} {size} first x = record {
    grown = record {
      some = omega (arith, x.one, x.few);
      few = x.few;
      low = x.low;
      long = λ i l θ' s'. omega (arith, x.long θ s, ap length (here i l θ' s'));
      places = λ i l θ' s'. omega (arith, x.places θ s, ap places (here i l θ' s'));
    };
    one = x.one;
    old = λ θ' s' y h. omega (arith, x.old θ s y h, ap (times y) (here 0 (omega arith) θ' s'));
    new = λ θ' s' y h. omega (arith, x.new θ s y h, ap (times y) (here 0 (omega arith) θ' s'));
    room = x.room;
  }
    where
      here : (i : ℕ) → i < 1 → (θ' : Subst) → Solved heap (set cells v (suc q)) θ' → θ' (get_or trail' i 0) ≡ apply θ (rows heap 1 q)
      here i l θ' s' = ap (λ j. θ' (get_or trail' j 0)) (omega (arith, l)) ∙ ap θ' first ∙ hung-term θ' s'

-- it is the first on the trail
noted-first : (t : Trial) (trail : List ℕ) (v : ℕ) → t.count ≡ 0 → 0 < length trail → t.count + 1 ≡ counted t.base v t.count → get_or (noted t.base v t.count trail) 0 0 ≡ v
noted-first t trail v none room e = elim (dec_lt v t.base) [
  | yes l ↦ low l
  | no n ↦ absurd (omega (arith, e, high n))
]
  where
    high : ¬ (v < t.base) → counted t.base v t.count ≡ t.count
    high n = rw (le-ltb v t.base (omega (arith, n))) refl

    low : v < t.base → get_or (noted t.base v t.count trail) 0 0 ≡ v
    low l = rw (lt-ltb v t.base l) (subst (λ n. get_or (set trail n v) 0 0 ≡ v) (inv none) (get_or-set_same trail 0 v 0 room))

pub hung-weighed : (t : Trial) {heap cells trail : List ℕ} → Made heap cells → ((θ : Subst) × Solved heap cells θ) → t.count ≡ 0 → 0 < length trail → (v q : ℕ) → bound cells v ≡ 0 → v < length cells → Whole heap 1 q
    → {cells' trail' : List ℕ} → Made heap cells' → Bound heap cells trail t v q cells' trail' (t.count + 1) → Apart heap cells v q → (size : Option Weight) → IfSome size (Heavy heap cells t.base q) → Weighed heap cells' t.base trail' (t.count + 1) size
hung-weighed t {heap} {cells} {trail} made (θ, s) none room v q free inside whole {cells'} {trail'} made' b away (Some size) x =
    subst (λ n. Weighs heap cells' t.base trail' n size) (omega (arith, none)) (subst (λ l. Weighs heap l t.base trail' 1 size) (inv b.cells_are) (hung-weighs made s v q free inside whole away (subst (Made heap) b.cells_are made') (ap (λ l. get_or l 0 0) b.trail_is ∙ noted-first t trail v none room b.count_is) x))
hung-weighed t made some none room v q free inside whole made' b away None x = x

-- the pair that is left, by what becomes of its variable
module _ {heap cells : List ℕ} (made : Made heap cells) (x : Pairs) (due : 0 < x.due) (left : Whole heap x.due x.p) (right : Whole heap x.due x.q) (r v y w : ℕ) (f : Followed heap cells x.p r)
    (ey : y ≡ get_or heap r 0) (low : y < 33554432) (ev : v ≡ y % 65536) (ew : w ≡ get_or heap x.q 0) (high : 33554432 ≤ w) (t : Trial) (one : x.due ≡ 1) (flat : x.depth ≡ 0) (fuel : 0 < t.fuel) (none : t.count ≡ 0) where
  pub hangs-last : (trail : List ℕ) → ((θ : Subst) × Solved heap cells θ) → t.count < length trail → (cells' trail' : List ℕ) (z : Option (Option Weight)) → Hangs heap cells trail t v x.q cells' trail' z → HangsLast heap cells trail t x cells' trail' z
  hangs-last trail some room cells' trail' (Some size) (b, away, weight) =
      let step = hung_so made x due left right r v y w f ey low ev ew high t some room b away in
      let bindable = hung-bindable made x due left right r v y w f ey low ev ew high in
      (one, flat, fuel, step, hung-weighed t made some none (omega (arith, room)) v x.q bindable.free bindable.inside bindable.whole step.0.made b away size weight)
  hangs-last trail some room cells' trail' None z = z

-- nothing is bound
pub none-weighed : {heap cells trail : List ℕ} {base count : ℕ} {size : Weight} → count ≡ 0 → size ≡ record { nodes = 1; variables = 1; times = 1 } → Weighed heap cells base trail count (Some size)
none-weighed {heap} {cells} {trail} {base} {count} none e = subst (λ r. Weighs heap cells base trail count r) (inv e) (subst (λ n. Weighs heap cells base trail n (record { nodes = 1; variables = 1; times = 1 })) (inv none) nothing)
  where
    nothing : Weighs heap cells base trail 0 (record { nodes = 1; variables = 1; times = 1 })
    nothing = record {
      grown = record { some = omega arith; few = omega arith; low = omega arith; long = λ i h. absurd (omega arith); places = λ i h. absurd (omega arith) };
      one = omega arith;
      old = λ θ s y h. omega arith;
      new = λ θ s y h. omega arith;
      room = omega arith;
    }

-- the rows are made equal from the start
module _ (t : Trial) {heap cells cells' stack : List ℕ} {p q : ℕ} {x : Pairs} (m : Matching heap t.base cells p q cells' stack x) (trail cells'' trail'' : List ℕ) where
  pub fitting-again : (z : Tried (Option Weight)) → Fitting heap cells' trail t p q cells'' trail'' z → Fitting heap cells trail t p q cells'' trail'' z
  fitting-again (Tried.Fits count size) (u, w) = (fit-again t m trail cells'' trail'' (Tried.Fits count 0) u, w)
  fitting-again (Tried.Clash count) u = fit-again t m trail cells'' trail'' (Tried.Clash count) u
  fitting-again (Tried.Tired count) u = fit-again t m trail cells'' trail'' (Tried.Tired count) u
