-- A clause whose head has another symbol as its first argument than the formula on the heap does not meet it, and is passed over.
use Prim.Native.Nat.{ℕ, suc, ◌+◌, ◌-◌, ◌<◌, ◌≤◌}
use native.Mathlib.Omega.{arith}
use native.Mathlib.Decide.{ℕ_discrete, dec_lt}
use mathlib.Core.Path.{◌≡◌, refl, sym as inv, ap, ◌∙◌, subst}
use mathlib.Core.Bool.{true≢false}
use Rattle.std.specs.declared.option.Option.{Option}
use Rattle.std.specs.declared.option.Option.TheVariants.{None, Some}
use mathlib.Core.List.{List, [], ◌∷◌, ◌++◌, append-nil}
use lib.ListN.{length, get_or, drop}
use lib.Seq.{get_or-take, get_or-drop}
use Rattle.terms.specs.Node.{Expr}
use Rattle.terms.specs.Row.{Row}
use Rattle.terms.specs.RowLaws.{first-row}
use Rattle.terms.specs.Subst.{Subst, apply}
use Rattle.terms.specs.SubstLaws.{apply-append}
use Rattle.terms.specs.Argument.{firsts}
use Rattle.terms.specs.Number.{number}
use Rattle.search.specs.Next.{Clause, Book, Meets, clause_at}
use Rattle.words.specs.Word.{kind_of, arity_of, Plain, Valid, Valids, node, nodes}
use Rattle.words.specs.PackLaws.{node_inj}
use Rattle.words.specs.Columns.{every}
use Rattle.words.specs.Held.{ClauseIn, BookOn, starts, heads}
use Rattle.words.specs.HeldLaws.{headed, head-length}
use Rattle.words.specs.Lists.{head_word, Found}
use Rattle.picking.specs.Picking.{head_at}
use Rattle.picking.proofs.Picks.{Passed, head-here, head_first}
use Rattle.heap.specs.Heap.{rows, Whole, Made, Solves}
use Rattle.heap.specs.HeapLaws.{row_inside, rows-sym, whole-node, stands-sym, rows-first}
use Rattle.heap.specs.Following.{Followed}
use Rattle.attempts.specs.Passing.{Lead, second_word, Other, Over, Hopeful}
use Rattle.attempts.proofs.Telling.{BeginSo, first-same, rest-same, made-equal}

-- a row that begins with a symbol of some arguments
module _ (heap : List ℕ) (at : ℕ) (valids : Valids heap) (whole : Whole heap 1 at) (some : 0 < arity_of (get_or heap at 0)) where
  pub inside : at < length heap
  inside = row_inside heap 0 at whole

  -- those behind its first
  abbrev others : ℕ
  others = arity_of (get_or heap at 0) - 1

  pub arguments : Whole heap (suc others) (suc at)
  arguments = let e : arity_of (get_or heap at 0) + 0 ≡ suc others = omega (arith, some) in subst (λ n. Whole heap n (suc at)) e (whole-node heap 0 at inside (valids at inside) whole)

  pub argument-inside : suc at < length heap
  argument-inside = row_inside heap others (suc at) arguments

  pub symbol-first : Plain (get_or heap at 0)
  symbol-first z = omega (arith, some, (valids at inside).bare (omega (arith, z)))

pub some-arity : {v w r : ℕ} → w ≡ v → r ≡ arity_of w → (r ≡ 0 → ⊥) → 0 < arity_of v
some-arity {v} {r = r} ew er n = let z : r ≡ arity_of v = er ∙ ap arity_of ew in omega (arith, z, n)

-- What is said of the first argument.
module _ {heap cells : List ℕ} {at : ℕ} where
  pub lead-bare : arity_of (get_or heap at 0) ≡ 0 → Lead heap cells at None
  lead-bare e = record {
    place = 0;
    reached = λ l. absurd (omega (arith, e, l));
    some = λ n. absurd (true≢false (inv n));
    symbol = tt;
    plain = tt;
    none = λ z l. absurd (omega (arith, e, l));
  }

  module _ (made : Made heap cells) (some : 0 < arity_of (get_or heap at 0)) {q x : ℕ} (f : Followed heap cells (at + 1) q) (is : x ≡ get_or heap q 0) where
    here : Followed heap cells (suc at) q
    here = let e : at + 1 ≡ suc at = omega arith in subst (λ p. Followed heap cells p q) e f

    pub lead-variable : x < 33554432 → Lead heap cells at None
    lead-variable l = record {
      place = q;
      reached = λ s. here;
      some = λ n. absurd (true≢false (inv n));
      symbol = tt;
      plain = tt;
      none = λ z s. omega (arith, is, l, (made.fits q here.row.inside).valid.low);
    }

    pub lead-symbol : 33554432 ≤ x → Lead heap cells at (Some x)
    lead-symbol l = record {
      place = q;
      reached = λ s. here;
      some = λ n. some;
      symbol = is;
      plain = λ z. omega (arith, z, l);
      none = λ z s. absurd (true≢false z);
    }

-- the words of a head, of one symbol and arguments
module _ (head : List ℕ) (k : ℕ) (c : Clause) (q : ClauseIn head k 0 (headed c)) (some : 0 < arity_of (get_or head 0 0)) where
  valids : Valids head
  valids i l = (q.fit i l).valid

  head-nodes : nodes head ≡ c.head
  head-nodes = q.is ∙ append-nil c.head

  head-row : rows head 1 0 ≡ nodes head
  head-row = ap (firsts 1) (head-nodes ∙ inv (append-nil c.head)) ∙ first-row q.formulas.0 [] ∙ inv head-nodes

  head-whole : Whole head 1 0
  head-whole = subst (Row 1) (inv (head-row ∙ head-nodes)) q.formulas.0

  pub second-inside : 1 < length head
  second-inside = argument-inside head 0 valids head-whole some

  pub second-valid : Valid (get_or head 1 0)
  second-valid = valids 1 second-inside

  pub head-second : Plain (get_or head 1 0) → (e : Expr) × (c.head ≡ node (get_or head 0 0) ∷ (node (get_or head 1 0) ∷ e))
  head-second plain =
      let inner = inside head 0 valids head-whole some in
      let e : arity_of (get_or head 0 0) + 0 ≡ suc (others head 0 valids head-whole some) = omega (arith, some) in (
        _,
        inv head-nodes ∙ inv head-row ∙ rows-sym head 0 0 inner (valids 0 inner) (symbol-first head 0 valids head-whole some)
            ∙ ap (λ l. node (get_or head 0 0) ∷ l) (ap (λ n. rows head n 1) e ∙ rows-sym head (others head 0 valids head-whole some) 1 second-inside second-valid plain),
      )

-- what the row stands for begins with its symbol, and then with the first argument's
module _ {heap cells : List ℕ} {at x : ℕ} (led : Lead heap cells at (Some x)) (made : Made heap cells) (whole : Whole heap 1 at) where
  valids-heap : Valids heap
  valids-heap i l = (made.fits i l).valid

  some-heap : 0 < arity_of (get_or heap at 0)
  some-heap = led.some refl

  there : Followed heap cells (suc at) led.place
  there = led.reached some-heap

  pub lead-valid : Valid x
  lead-valid = subst Valid (inv (led.symbol)) (valids-heap led.place there.row.inside)

  row-second : (θ : Subst) → Solves heap cells θ → (e : Expr) × (apply θ (rows heap 1 at) ≡ node (get_or heap at 0) ∷ (node x ∷ e))
  row-second θ s =
      let inner = inside heap at valids-heap whole some-heap in
      let k = others heap at valids-heap whole some-heap in
      let e : suc k ≡ arity_of (get_or heap at 0) = omega (arith, some-heap) in
      let rest = rows heap k (suc at + length (rows heap 1 (suc at))) in
      let y = get_or heap led.place 0 in
      let tail = apply θ (rows heap (arity_of y) (suc led.place)) ++ apply θ rest in (
        tail,
        stands-sym heap at inner θ (valids-heap at inner) (symbol-first heap at valids-heap whole some-heap) e
            ∙ ap (λ l. node (get_or heap at 0) ∷ l) (ap (apply θ) (rows-first heap k (suc at) (arguments heap at valids-heap whole some-heap) refl) ∙ apply-append θ (rows heap 1 (suc at)) rest
            ∙ ap (λ l. l ++ apply θ rest) (there.row.same θ s ∙ stands-sym heap led.place there.row.inside θ (valids-heap led.place there.row.inside) (λ z. led.plain (ap kind_of (led.symbol) ∙ z)) refl)
            ∙ ap (λ n. node n ∷ tail) (inv (led.symbol))),
      )

  -- a head that begins with the same symbol, and then with another one
  pub other_none : {θ : Subst} → Solves heap cells θ → {f : Expr} → number [] (apply θ (rows heap 1 at)) ≡ f
      → (head : List ℕ) (k : ℕ) (c : Clause) → ClauseIn head k 0 (headed c) → get_or head 0 0 ≡ get_or heap at 0 → Other (Some x) (get_or head 1 0) → Meets f c → ⊥
  other_none {θ} s is head k c q same o t =
      let u = get_or heap at 0 in
      let y = get_or head 1 0 in
      let some : 0 < arity_of (get_or head 0 0) = subst (λ w. 0 < arity_of w) (inv same) some-heap in
      let plain = symbol-first heap at valids-heap whole some-heap in
      let (e, l) = row-second θ s in
      let (h, r) = head-second head k c q some o.0 in
      let (ρ, equal) = made-equal is t l (r ∙ ap (λ w. node w ∷ (node y ∷ h)) same) in
      let m = rest-same t.unifier t.goal_names ρ t.clause_names u u (node x ∷ e) (node y ∷ h) plain plain equal in
      o.1 (inv (node_inj x y lead-valid (second-valid head k c q some) (first-same t.unifier t.goal_names ρ t.clause_names x y e h led.plain o.0 m)))

-- The clause number i, whose head begins with u, a symbol of some arguments.
module _ {book shelf : List ℕ} {P : Book} (o : BookOn book shelf P) (i : ℕ) (l : i < length P) where
  abbrev start : ℕ
  start = get_or (starts (length P) shelf) i 0

  abbrev end : ℕ
  end = get_or (heads (length P) shelf) i 0

  first-is : get_or (head_at book shelf (length P) i) 0 0 ≡ head_word book shelf (length P) i
  first-is = head_first book start end (o.held.placed i l).begins

  module _ {u : ℕ} (begins : head_word book shelf (length P) i ≡ u) (some : 0 < arity_of u) where
    some-here : 0 < arity_of (get_or (head_at book shelf (length P) i) 0 0)
    some-here = subst (λ w. 0 < arity_of w) (inv (first-is ∙ begins)) some

    long : suc start < end
    long = omega (arith, second-inside (head_at book shelf (length P) i) _ (clause_at P i) (head-here o i l) some-here, head-length (head_at book shelf (length P) i) _ 0 (headed (clause_at P i)) (head-here o i l))

    second_is : get_or (head_at book shelf (length P) i) 1 0 ≡ second_word book shelf (length P) i
    second_is =
        let e : start + 1 ≡ suc start = omega arith in
        get_or-take (end - start) (drop start book) 1 0 (omega (arith, long)) ∙ get_or-drop start book 1 0 ∙ ap (λ n. get_or book n 0) e

    pub second_fits : Valid (second_word book shelf (length P) i)
    second_fits = subst Valid second_is (second-valid (head_at book shelf (length P) i) _ (clause_at P i) (head-here o i l) some-here)

    -- as it is read
    module _ (b : ℕ) (es : (n : ℕ) → i < n → b ≡ get_or (every 4 256 n shelf) i 0) where
      pub second-read : b + 1 < length book
      second-read = let d = o.held.placed i l in omega (arith, es (suc (length P)) (omega (arith, l)), long, d.ends, d.within)

      pub word_read : {y : ℕ} → y ≡ get_or book (b + 1) 0 → second_word book shelf (length P) i ≡ y
      word_read e = let z : b + 1 ≡ suc start = omega (arith, es (suc (length P)) (omega (arith, l))) in inv (e ∙ ap (λ n. get_or book n 0) z)

-- From clause to clause.

pub another : {x y w : ℕ} → w ≡ y → 33554432 ≤ y → (y ≡ x → ⊥) → Other (Some x) w
another is h d = ((λ z. omega (arith, is, h, z)), λ e. d (inv is ∙ e))

module _ {book shelf : List ℕ} {P : Book} {u : ℕ} {x : Option ℕ} {from : ℕ} where
  pub over-start : {i : ℕ} → Found book shelf P u from i → Over book shelf P u x from i
  over-start f = record { low = f.low; high = f.high; here = f.here; other = λ j a b e. absurd (f.other j a b e) }

  module _ {i : ℕ} (p : Over book shelf P u x from i) where
    pub over-on : Other x (second_word book shelf (length P) i) → {r : ℕ} → Found book shelf P u (suc i) r → Over book shelf P u x from r
    over-on d f = record {
      low = omega (arith, p.low, f.low);
      high = f.high;
      here = f.here;
      other = λ j a b e. elim (ℕ_discrete j i) [
        | yes y ↦ subst (λ j. Other x (second_word book shelf (length P) j)) (inv y) d
        | no y ↦ elim (dec_lt j i) [ yes z ↦ p.other j a z e | no z ↦ absurd (f.other j (omega arith) b e) ]
      ];
    }

    pub hope-unknown : x ≡ None → Hopeful book shelf P u x from i
    hope-unknown z = record { over = p; hope = λ l d. subst (λ y. Other y (second_word book shelf (length P) i)) z d }

    pub hope-end : length P ≤ i → Hopeful book shelf P u x from i
    hope-end l = record { over = p; hope = λ z. absurd (omega (arith, l, z)) }

module _ {book shelf : List ℕ} {P : Book} {u x from i : ℕ} (p : Over book shelf P u (Some x) from i) {y : ℕ} (is : second_word book shelf (length P) i ≡ y) where
  pub hope-variable : Valid (second_word book shelf (length P) i) → y < 33554432 → Hopeful book shelf P u (Some x) from i
  hope-variable v l = record { over = p; hope = λ z d. d.0 (omega (arith, is, l, v.low)) }

  pub hope-same : y ≡ x → Hopeful book shelf P u (Some x) from i
  hope-same e = record { over = p; hope = λ z d. d.1 (is ∙ e) }

-- on to a clause that is not passed over
pub passed_over : {book shelf : List ℕ} {P : Book} → BookOn book shelf P → {f : Expr} {u : ℕ} {x : Option ℕ} {q r : ℕ} → Over book shelf P u x q r → BeginSo f u
    → ((j : ℕ) → j < length P → head_word book shelf (length P) j ≡ u → Other x (second_word book shelf (length P) j) → Meets f (clause_at P j) → ⊥) → Passed f P 0 q → Passed f P 0 r
passed_over {book} {P = P} o {q = q} x same none h j a b t = elim (dec_lt j q) [
  | yes l ↦ h j a l t
  | no d ↦
      let l : j < length P = omega (arith, x.high) in
      let e = inv (first-is o j l) ∙ same _ _ (clause_at P j) (head-here o j l) t in
      none j l e (x.other j (omega arith) b e) t
]

-- a clause of the book that has another symbol than the formula's
pub other-meets : {book shelf : List ℕ} {P : Book} → BookOn book shelf P → {heap cells : List ℕ} {at : ℕ} (x : Option ℕ) → Lead heap cells at x → Made heap cells → Whole heap 1 at → {θ : Subst} → Solves heap cells θ
    → {f : Expr} → number [] (apply θ (rows heap 1 at)) ≡ f → (j : ℕ) → j < length P → head_word book shelf (length P) j ≡ get_or heap at 0 → Other x (second_word book shelf (length P) j) → Meets f (clause_at P j) → ⊥
other-meets {book} {shelf} {P} o None led made whole s is j l e d = absurd d
other-meets {book} {shelf} {P} o (Some x) led made whole s is j l e d =
    other_none led made whole s is (head_at book shelf (length P) j) _ (clause_at P j) (head-here o j l) (first-is o j l ∙ e) (subst (Other (Some x)) (inv (second_is o j l e (led.some refl))) d)
