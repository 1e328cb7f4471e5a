-- A head matched, pair by pair.
use Rattle.std.specs.Prelude.{ℕ, suc, ◌+◌, ◌-◌, ◌%◌, ◌<◌, ◌≤◌, ◌≡◌, refl, List, ◌∷◌, length, get_or, set}
use Rattle.std.proofs.Common.{arith, sym as inv, ap, ◌∙◌, subst, inl, get_or-set_other}
use Rattle.terms.specs.Node.{var}
use Rattle.terms.specs.Subst.{In, Subst}
use Rattle.words.specs.Word.{kind_of}
use Rattle.heap.specs.Heap.{rows, Whole, bound, Made, Solves}
use Rattle.heap.specs.HeapLaws.{rows-var, rows_none, row_inside}
use Rattle.heap.specs.Following.{Followed, same_start}
use Rattle.matching.specs.Meeting.{Equal, Bindable, Met}
use Rattle.matching.proofs.MeetLaws.{met-apart, apart-clash, bind-right}
use Rattle.matching.proofs.StepLaws.{more-bound}
use Rattle.matching.specs.Pairs.{EqualLevels, Alike, Behind, Settled, Entered}
use Rattle.matching.proofs.PairLaws.{first-row-whole, equal-first}
use Rattle.matching.specs.Unifying.{Unmixed, Low, Begun, More}
use Rattle.matching.proofs.UnifyLaws.{unmixed_while}
use Rattle.matching.proofs.UnseenLaws.{unseen as more-unseen}
use Rattle.matching.specs.Heads.{Extends, Onward, Matching}
use Rattle.matching.specs.declared.meeting.Meeting.TheVariants.{Inside, Clash}
use Rattle.matching.specs.declared.pairs.Pairs.{Pairs}
use Rattle.matching.specs.declared.unifying.Trial.{Trial}

pub extends-same : {heap cells : List ℕ} {base : ℕ} → Made heap cells → Extends heap base cells cells
extends-same made = record { made = made; long = refl; grows = λ v e. e; solved = λ θ s. (θ, s); back = λ τ s. s; old = λ v l. refl; unseen = λ θ s n v f h e. e }

pub extends-after : {heap cells cells' cells'' : List ℕ} {base : ℕ} → Extends heap base cells cells' → Extends heap base cells' cells'' → Extends heap base cells cells''
extends-after a b = record {
  made = b.made;
  long = b.long ∙ a.long;
  grows = λ v e. a.grows v (b.grows v e);
  solved = λ θ s. let (θ', s') = a.solved θ s in b.solved θ' s';
  back = λ τ s. a.back τ (b.back τ s);
  old = λ v l. b.old v l ∙ a.old v l;
  unseen = λ θ s n v f h e. let (θ', s') = a.solved θ s in b.unseen θ' s' n v f h (a.unseen θ s n v f h e);
}

-- what makes two rows equal and binds no variable below `base`
pub extends-more : {heap cells cells' : List ℕ} {p q base : ℕ} → More heap cells p q cells' → ((v : ℕ) → v < base → bound cells' v ≡ bound cells v) → Extends heap base cells cells'
extends-more more old = record {
  made = more.made;
  long = more.long;
  grows = more.grows;
  solved = more.solved;
  back = λ τ s. ((more.just τ).1 s).0;
  old = old;
  unseen = λ θ s n v f h e. more-unseen more (more.solved θ s).1 n v f h e;
}

module _ {heap : List ℕ} {base : ℕ} {cells stack : List ℕ} {x : Pairs} where
  -- the first pair is equal, and those behind it are due
  pub on-behind : {cells' : List ℕ} {y : Pairs} → More heap cells x.p x.q cells' → ((v : ℕ) → v < base → bound cells' v ≡ bound cells v) → Behind heap x y → Onward heap base cells stack x cells' stack y
  on-behind {y = y} more old b = record {
    extends = extends-more more old;
    due = λ d. record { left = b.left; right = b.right; back = λ i l. d.back i (omega (arith, l, b.depth)); room = omega (arith, d.room, b.depth) };
    deep = λ l. omega (arith, l, b.depth);
    just = λ τ. (
      λ (s, (e, l)). let (first, rest) = (b.just τ s.proper).0 e in ((more.just τ).0 (s, first), (rest, subst (EqualLevels heap stack τ) (inv b.depth) l)),
      λ (s, (e, l)). let (before, first) = (more.just τ).1 s in (before, ((b.just τ s.proper).1 (first, e), subst (EqualLevels heap stack τ) b.depth l)),
    );
  }

  -- their arguments are due in its place
  pub on-inside : Made heap cells → {rest : Pairs} → Behind heap x rest → {a b k : ℕ} → Met heap cells x.p x.q (Inside a b k) → {stack' : List ℕ} {y : Pairs} → Entered stack rest a b k stack' y → x.depth < 128 → Onward heap base cells stack x cells stack' y
  on-inside made {rest} behind (some, left, right, args) e under = record {
    extends = extends-same made;
    due = λ d. e.due heap (record { left = behind.left; right = behind.right; back = λ i l. d.back i (omega (arith, l, behind.depth)); room = omega (arith, d.room, behind.depth) }) left right;
    deep = λ l. omega (arith, under, e.deep, behind.depth);
    just = λ τ. (
      λ (s, (z, l)). let (first, others) = (behind.just τ s.proper).0 z in (s, (e.just heap τ).1 ((args τ s).0 first, (others, subst (EqualLevels heap stack τ) (inv behind.depth) l))),
      λ (s, z). let (inner, (others, l)) = (e.just heap τ).0 z in (s, ((behind.just τ s.proper).1 ((args τ s).1 inner, others), subst (EqualLevels heap stack τ) behind.depth l)),
    );
  }

  -- the same symbol twice
  pub on_alike : Made heap cells → {y : Pairs} → Alike heap x y → Onward heap base cells stack x cells stack y
  on_alike made a = record {
    extends = extends-same made;
    due = λ d. record { left = a.left; right = a.right; back = λ i l. d.back i (omega (arith, l, a.depth)); room = omega (arith, d.room, a.depth) };
    deep = λ l. omega (arith, l, a.depth);
    just = λ τ. (
      λ (s, (e, l)). (s, ((a.just τ).0 e, subst (EqualLevels heap stack τ) (inv a.depth) l)),
      λ (s, (e, l)). (s, ((a.just τ).1 e, subst (EqualLevels heap stack τ) a.depth l)),
    );
  }

-- a symbol stands for itself
pub symbol-here : {heap cells : List ℕ} {p : ℕ} → p < length heap → 33554432 ≤ get_or heap p 0 → Followed heap cells p p
symbol-here l high = record { row = same_start l; stops = λ k. absurd (omega (arith, high, k)) }

-- and so does a variable that is not bound
pub variable-here : {heap cells : List ℕ} {p : ℕ} → p < length heap → bound cells (get_or heap p 0 % 65536) ≡ 0 → Followed heap cells p p
variable-here l free = record { row = same_start l; stops = λ k. free }

-- a variable's row is one word
pub variable-long : (heap : List ℕ) (q : ℕ) → q < length heap → kind_of (get_or heap q 0) ≡ 1 → q + 1 ≡ q + length (rows heap 1 q)
variable-long heap q l k = ap (λ e. q + length e) (inv (rows-var heap 0 q l k ∙ ap (λ e. var (get_or heap q 0 % 65536) ∷ e) (rows_none heap (suc q))))

-- The first pair of x.
module _ {heap cells : List ℕ} (made : Made heap cells) (x : Pairs) (some : 0 < x.due) (left : Whole heap x.due x.p) (right : Whole heap x.due x.q) where
  pub left-row : Whole heap 1 x.p
  left-row = first-row-whole heap x.due x.p some left

  pub right-row : Whole heap 1 x.q
  right-row = first-row-whole heap x.due x.q some right

  pub left_inside : x.p < length heap
  left_inside = row_inside heap 0 x.p left-row

  pub right_inside : x.q < length heap
  right_inside = row_inside heap 0 x.q right-row

  -- where it can't be made equal, the pairs can't
  pub first_unlike : Met heap cells x.p x.q Clash → (τ : Subst) → Solves heap cells τ → ¬ Equal heap τ x.due x.p x.q
  first_unlike none τ s e = none τ s ((equal-first heap (x.due - 1) x.p x.q (subst (λ n. Whole heap n x.p) is left) (subst (λ n. Whole heap n x.q) is right) refl refl τ s.proper).0 (subst (λ n. Equal heap τ n x.p x.q) is e)).0
    where
      is : x.due ≡ suc (x.due - 1)
      is = omega (arith, some)

  -- the right row begins with another symbol than what the left one stands for
  pub unlike_symbols : {r : ℕ} → Followed heap cells x.p r → 33554432 ≤ get_or heap r 0 → 33554432 ≤ get_or heap x.q 0 → (get_or heap r 0 ≡ get_or heap x.q 0 → ⊥) → (τ : Subst) → Solves heap cells τ → ¬ Equal heap τ x.due x.p x.q
  unlike_symbols {r} f hl hr other = first_unlike (subst (Met heap cells x.p x.q) (inv (apart-clash (get_or heap r 0) (get_or heap x.q 0) r x.q hl hr)) (met-apart made f (symbol-here right_inside hr) left-row right-row other))

  -- The right row is a variable of the clause, which is not bound: it is bound to what the left one stands for, a row of the goal.
  module _ (t : Trial) (none : t.count ≡ 0) (unmixed : Unmixed heap cells t) (low : Low heap t.base t.start) (kind : kind_of (get_or heap x.q 0) ≡ 1) {v : ℕ} (is : v ≡ get_or heap x.q 0 % 65536) (high : t.base ≤ v) (free : bound cells v ≡ 0) {r : ℕ} (f : Followed heap cells x.p r) (before : r < t.start) where
    bindable : Bindable heap cells x.p x.q v r
    bindable = rw is (bind-right made f (variable-here right_inside (ap (bound cells) (inv is) ∙ free)) left-row right-row kind)

    lower : kind_of (get_or heap r 0) ≡ 1 → get_or heap r 0 % 65536 < v
    lower k = omega (arith, high, low r before bindable.whole (get_or heap r 0 % 65536) (subst (In (get_or heap r 0 % 65536)) (inv (rows-var heap 0 r bindable.there k)) (inl refl)))

    pub on_variable : {n : ℕ} → n ≡ suc r → {stack : List ℕ} {y : Pairs} → Behind heap x y → Onward heap t.base cells stack x (set cells v n) stack y
    on_variable e b = rw e (on-behind (more-bound made bindable lower (unmixed none v r high before bindable.whole)) (λ w l. get_or-set_other cells v w (suc r) 0 (λ z. omega (arith, l, high, z))) b)

-- The rows at p and q.
module _ {heap : List ℕ} {base : ℕ} {cells : List ℕ} {p q : ℕ} where
  pub match_start : {stack : List ℕ} → Made heap cells → Whole heap 1 p → Whole heap 1 q → Matching heap base cells p q cells stack (record { p = p; q = q; due = 1; depth = 0 })
  match_start made left right = record {
    extends = extends-same made;
    due = record { left = left; right = right; back = λ i l. absurd (omega (arith, l)); room = omega arith };
    deep = omega arith;
    ended = λ e. refl;
    just = λ τ. (λ (s, e). (s, (e, tt)), λ (s, e). (s, e.0));
  }

  module _ {cells' stack : List ℕ} {x : Pairs} (m : Matching heap base cells p q cells' stack x) where
    pub match_on : {cells'' stack' : List ℕ} {y z : Pairs} → Onward heap base cells' stack x cells'' stack' y → Settled stack' y z → Matching heap base cells p q cells'' stack' z
    match_on o s = record {
      extends = extends-after m.extends o.extends;
      due = s.due heap (o.due m.due);
      deep = omega (arith, s.deep, o.deep m.deep);
      ended = s.ended heap (o.due m.due);
      just = λ τ. (
        λ a. let (b, c) = (o.just τ).0 ((m.just τ).0 a) in (b, (s.just heap τ).1 c),
        λ (b, c). (m.just τ).1 ((o.just τ).1 (b, (s.just heap τ).0 c)),
      );
    }

    pub match_unlike : ((τ : Subst) → Solves heap cells' τ → ¬ Equal heap τ x.due x.p x.q) → (τ : Subst) → Solves heap cells τ → ¬ Equal heap τ 1 p q
    match_unlike none τ s e = let (b, c) = (m.just τ).0 (s, e) in none τ b c.0

    pub match_unmixed : {t : Trial} → base ≡ t.base → Begun heap cells t → Unmixed heap cells' t
    match_unmixed e b = unmixed_while b m.extends.made (λ v l. m.extends.old v (omega (arith, e, l)))
