-- Laws of figures.
use Rattle.std.specs.Prelude.{ℕ, suc, ◌+◌, ◌*◌, ◌-◌, ◌/◌, ◌%◌, ◌≤◌, ◌<◌, ◌≡◌, refl, true, false, List, [], ◌∷◌, length, get_or, set, take, drop, replicate, eqb, Option, Some, None, IfSome}
use Rattle.std.proofs.Common.{arith, sym as inv, ap, ◌∙◌, subst, inl, inr, length-set, length-append, drop_at, get_or-set_same, get_or-set_other, lt-ltb, le-ltb, eqb-true}
use Rattle.std.proofs.Math.Decide.{ℕ_discrete}
use Rattle.std.proofs.lemmas.Bool.{false_from_ne_true}
use Rattle.terms.specs.Row.{Row, Formulas}
use Rattle.terms.specs.RowLaws.{first-row, row-long}
use Rattle.terms.specs.Argument.{firsts}
use Rattle.search.specs.Next.{Clause, Goal}
use Rattle.words.specs.Word.{nodes}
use Rattle.words.specs.Columns.{every, every-at}
use Rattle.words.specs.Flat.{flat}
use Rattle.words.specs.Held.{ClauseIn}
use Rattle.words.specs.HeldLaws.{head-length}
use Rattle.heap.specs.Heap.{rows, Whole}
use Rattle.bounds.specs.Tally.{Thrifts}
use Rattle.bounds.specs.TurnLaws.{zeros}
use Rattle.bounds.specs.declared.clauses.Thrift.{Thrift}
use Rattle.figures.specs.Figures.{first_of, Leads, FigureOf, figure_in, Slot, KeptAt, SlotAt, Figured}
use Rattle.figures.specs.declared.Figure.{Figure}

pub known-most : (n m : ℕ) → m ≤ 65535 → ((n ≡ 65535 → ⊥) → n ≤ m) → n ≤ 65535
known-most n m l h = elim (ℕ_discrete n 65535) [ yes e ↦ omega (arith, e) | no x ↦ omega (arith, h x, l) ]

-- the first formula of the body, where it stands
none : (g : Goal) → 0 ≡ length g → 0 ≡ length (first_of g)
none [] e = refl
none (f ∷ g) e = absurd (omega (arith, e))

-- the only one is the whole body
alone : (g : Goal) → 1 ≡ length g → length (flat g) ≡ length (first_of g)
alone [] e = absurd (omega (arith, e))
alone (f ∷ []) e = omega (arith, length-append f [])
alone (f ∷ g ∷ h) e = absurd (omega (arith, e))

module _ (clause : List ℕ) (head bodies : ℕ) where
  pub leads-none : bodies ≡ 0 → Leads clause head bodies 0
  leads-none e c q = none c.body (inv e ∙ q.body)

  pub leads-alone : bodies ≡ 1 → Leads clause head bodies (length clause - head)
  leads-alone e c q = omega (arith, head-length clause head bodies c q, alone c.body (inv e ∙ q.body))

  module _ (c : Clause) (q : ClauseIn clause head bodies c) where
    body-nodes : drop head (nodes clause) ≡ flat c.body
    body-nodes = ap (drop head) q.is ∙ drop_at c.head (flat c.body) head (inv q.head)

    first-here : (g : Goal) → c.body ≡ g → Formulas g → (bodies ≡ 0 → ⊥) → (rows clause 1 head ≡ first_of g) × Row 1 (first_of g)
    first-here [] is p some = absurd (some (q.body ∙ ap length is))
    first-here (f ∷ g) is p some = (ap (firsts 1) (body-nodes ∙ ap flat is) ∙ first-row p.0 (flat g), p.0)

    pub first-row-is : (bodies ≡ 0 → ⊥) → rows clause 1 head ≡ first_of c.body
    first-row-is some = (first-here c.body refl q.formulas.1 some).0

    pub first-whole : (bodies ≡ 0 → ⊥) → Whole clause 1 head
    first-whole some = let (e, r) = first-here c.body refl q.formulas.1 some in subst (Row 1) (inv e) r

    pub head_few : (1 ≤ head) × (head ≤ length clause)
    head_few = (omega (arith, q.head, row-long q.formulas.0), omega (arith, head-length clause head bodies c q))

-- a figure in words
module _ (f n : ℕ) (lf : f ≤ 255) (ln : n ≤ 64) where
  pub first_back : (f * 128 + n) / 128 % 256 ≡ f
  first_back = omega (arith, lf, ln)

  pub names-back : (f * 128 + n) % 128 ≡ n
  names-back = omega (arith, lf, ln)

  pub first-whole-back : (32768 + (f * 128 + n)) / 128 % 256 ≡ f
  first-whole-back = omega (arith, lf, ln)

  pub names-whole-back : (32768 + (f * 128 + n)) % 128 ≡ n
  names-whole-back = omega (arith, lf, ln)

-- a figure with the thrift t
module _ (f : ℕ) (t : Thrift) (lf : f ≤ 255) (small : t.fresh ≤ 256) (ln : t.names ≤ 64) where
  abbrev with-thrift : Figure
  with-thrift = record { thrift = Some t; first = f }

  known : eqb t.fresh 65535 ≡ false
  known = false_from_ne_true (eqb t.fresh 65535) (λ e. omega (arith, eqb-true t.fresh 65535 e, small))

  pub pack_whole : t.whole ≡ true → figure_in t.fresh (32768 + (f * 128 + t.names)) ≡ with-thrift
  pack_whole e = rw (known, lt-ltb 32767 (32768 + (f * 128 + t.names)) (omega arith), first-whole-back f t.names lf ln, names-whole-back f t.names lf ln, ← e) refl

  pub pack_part : t.whole ≡ false → figure_in t.fresh (f * 128 + t.names) ≡ with-thrift
  pack_part e = rw (known, le-ltb 32767 (f * 128 + t.names) (omega (arith, lf, ln)), first_back f t.names lf ln, names-back f t.names lf ln, ← e) refl

-- and one with none
abbrev with-none : ℕ → Figure
with-none f = record { thrift = None; first = f }

pub pack-none : (f : ℕ) → f ≤ 255 → figure_in 65535 (f * 128) ≡ with-none f
pack-none f l = ap with-none (omega (arith, l))

-- its thrift is small
pub thrift-small : (clause : List ℕ) (head first : ℕ) (o : Option Thrift) → IfSome o (Thrifts clause head first) → IfSome o (λ t. (t.fresh ≤ 256) × (t.names ≤ 64))
thrift-small clause head first (Some t) x = (x.small, x.few)
thrift-small clause head first None x = x

-- a figure that is kept already, and one that is put there
module _ {clause : List ℕ} {head bodies : ℕ} (figures : List ℕ) (i : ℕ) {r : Figure} where
  pub kept_same : Slot clause head bodies figures i → (get_or figures (2 * i + 1) 0 ≡ 0 → ⊥) → r ≡ figure_in (get_or figures (2 * i) 0) (get_or figures (2 * i + 1) 0) → KeptAt clause head bodies figures i figures r
  kept_same s known e = elim s [
    | inl z ↦ absurd (known z)
    | inr f ↦ record { figure = subst (FigureOf clause head bodies) (inv e) f; here = inr f; fresh = λ j n. refl; rest = λ j n. refl }
  ]

  pub kept_new : FigureOf clause head bodies r → length figures ≡ 1024 → i < 512 → (z w : ℕ) → figure_in z w ≡ r → KeptAt clause head bodies figures i (set (set figures (2 * i) z) (2 * i + 1) w) r
  kept_new f long low z w e = record {
    figure = f;
    here = inr (rw (a-is, b-is, e) f);
    fresh = λ j n. get_or-set_other (set figures (2 * i) z) (2 * i + 1) (2 * j) w 0 (λ y. omega (arith, y)) ∙ get_or-set_other figures (2 * i) (2 * j) z 0 (λ y. n (omega (arith, y)));
    rest = λ j n. get_or-set_other (set figures (2 * i) z) (2 * i + 1) (2 * j + 1) w 0 (λ y. n (omega (arith, y))) ∙ get_or-set_other figures (2 * i) (2 * j + 1) z 0 (λ y. omega (arith, y));
  }
    where
      a-is : get_or (set (set figures (2 * i) z) (2 * i + 1) w) (2 * i) 0 ≡ z
      a-is = get_or-set_other (set figures (2 * i) z) (2 * i + 1) (2 * i) w 0 (λ y. omega (arith, y)) ∙ get_or-set_same figures (2 * i) z 0 (omega (arith, long, low))

      b-is : get_or (set (set figures (2 * i) z) (2 * i + 1) w) (2 * i + 1) 0 ≡ w
      b-is = get_or-set_same (set figures (2 * i) z) (2 * i + 1) w 0 (omega (arith, length-set figures (2 * i) z, long, low))

-- none is known yet
pub figured-none : (book shelf : List ℕ) (n : ℕ) → Figured book shelf (replicate n 0)
figured-none book shelf n = record { each = λ i. inl (zeros n (2 * i + 1)) }

read : (shelf : List ℕ) (k x j : ℕ) → ((m : ℕ) → j < m → x ≡ get_or (every 4 k m shelf) j 0) → x ≡ get_or shelf (4 * j + k) 0
read shelf k x j h = h (suc j) (omega arith) ∙ every-at 4 k (suc j) shelf j (omega arith)

-- the clause number i, as the shelf is read
module _ (book shelf : List ℕ) (i b e t n : ℕ) (eb : (m : ℕ) → i < m → b ≡ get_or (every 4 256 m shelf) i 0) (ee : (m : ℕ) → i < m → e ≡ get_or (every 4 257 m shelf) i 0)
    (et : (m : ℕ) → i + 1 < m → t ≡ get_or (every 4 256 m shelf) (i + 1) 0) (en : (m : ℕ) → i < m → n ≡ get_or (every 4 258 m shelf) i 0) (figures : List ℕ) where
  pub slot_so : Figured book shelf figures → Slot (take (t - b) (drop b book)) (e - b) n figures i
  slot_so x = rw (read shelf 256 b i eb, read shelf 257 e i ee, read shelf 256 t (i + 1) et, read shelf 258 n i en) (x.each i)

  slot_is : (figures' : List ℕ) → Slot (take (t - b) (drop b book)) (e - b) n figures' i → SlotAt book shelf figures' i
  slot_is figures' x = rw (inv (read shelf 256 b i eb), inv (read shelf 257 e i ee), inv (read shelf 256 t (i + 1) et), inv (read shelf 258 n i en)) x

  pub figured-on : (figures' : List ℕ) (r : Figure) → Figured book shelf figures → KeptAt (take (t - b) (drop b book)) (e - b) n figures i figures' r → Figured book shelf figures'
  figured-on figures' r x k = record {
    each = λ j. elim (ℕ_discrete j i) [
      | yes z ↦ subst (SlotAt book shelf figures') (inv z) (slot_is figures' k.here)
      | no z ↦ rw (k.fresh j z, k.rest j z) (x.each j)
    ];
  }
