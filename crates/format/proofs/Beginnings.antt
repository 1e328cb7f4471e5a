-- The records with which a book or a query begins are those that the reader takes, but for their sizes; and a kind is allowed behind them just where the reader
-- allows it.
use Prim.Native.Nat.{ℕ, zero, suc, zero-le}
use lib.Dec.{lit<}
use borrow.Author.Tests.{le-leb}
use mathlib.Core.Path.{◌≡◌, refl, sym as inv, ap, subst}
use mathlib.Core.Logic.{◌↔◌}
use mathlib.Core.Bool.{Bool, true, false}
use mathlib.Core.List.{List, [], ◌∷◌, ◌++◌, append-nil, append_assoc}
use lib.ListN.{length}
use Rattle.terms.specs.Node.{constant, predicate, sym, Expr}
use Rattle.words.specs.Flat.{flat}
use Rattle.format.specs.declared.State.{State}
use Rattle.format.specs.declared.Form.{Form}
use Rattle.format.specs.declared.Form.TheVariants.{Book, Query}
use Rattle.format.specs.declared.Record.{Record}
use Rattle.format.specs.declared.Record.TheVariants.{Variable, Constant, Compound, Formula, Clause, Goal, End}
use Rattle.format.specs.Reading.{allowed, in_range, is_in_order, after, whole, start}
use Rattle.format.specs.Format.{record_kind, node_records, Terms, terms_none, terms_constant, formula, AreFormulas}
use Rattle.format.specs.Faulty.{Complete, Beginning, KindAllowed}
use Rattle.format.proofs.Items.{NarrowRecord, Kinded, k1, k2, k3, k4, k5, k6, k7, allowed-is, allowed-kinded}
use Rattle.format.proofs.Numbering.{Ordered}
use Rattle.format.proofs.Owed.{MayStand, Follows, Owed, start-complete, owed-between}
use Rattle.format.proofs.Stepping.{whole_is, owed, stepped}

-- the state after some records
abbrev pub reach : State → List Record → State
reach state [] = state
reach state (r ∷ rs) = reach (after state r) rs

-- each record may stand where it stands, but for its size
abbrev pub Reads : Form → State → List Record → Type 0
Reads form state [] = Unit
Reads form state (r ∷ rs) = MayStand form state r × Reads form (after state r) rs

pub reach-append : (state : State) (a b : List Record) → reach state (a ++ b) ≡ reach (reach state a) b
reach-append state [] b = refl
reach-append state (r ∷ a) b = reach-append (after state r) a b

module _ (form : Form) where
  pub reads-front : (state : State) (a b : List Record) → Reads form state (a ++ b) → Reads form state a × Reads form (reach state a) b
  reads-front state [] b r = (tt, r)
  reads-front state (x ∷ a) b r = let q = reads-front (after state x) a b r.1 in ((r.0, q.0), q.1)

  pub reads-back : (state : State) (a b : List Record) → Reads form state a → Reads form (reach state a) b → Reads form state (a ++ b)
  reads-back state [] b r q = q
  reads-back state (x ∷ a) b r q = (r.0, reads-back (after state x) a b r.1 q)

  reads : (state : State) (rs more : List Record) → Owed form state (rs ++ more) → Reads form state rs × Owed form (reach state rs) more
  reads state [] more o = (tt, o)
  reads state (r ∷ rs) more o =
      let s = stepped form state (r ∷ (rs ++ more)) o in
      let q = reads (after state r) rs more s.1 in
      ((s.0, q.0), q.1)

  owes : (state : State) (rs more : List Record) → Reads form state rs → Owed form (reach state rs) more → Owed form state (rs ++ more)
  owes state [] more r o = o
  owes state (x ∷ rs) more r o = owed form state (x ∷ (rs ++ more)) (r.0, owes (after state x) rs more r.1 o)

  complete-owed : (rs : List Record) → Complete form rs → Owed form start rs
  complete-owed rs c = owed-between form start rs refl refl refl c

-- What is owed can always be had: constants, formulas without arguments, an end.

constants : ℕ → Expr
constants zero = []
constants (suc n) = sym (constant 0) ∷ constants n

constants-terms : (n : ℕ) → Terms n (constants n)
unfolding constants
constants-terms zero = terms_none
constants-terms (suc n) = terms_constant (lit< tt) (constants-terms n)

facts : ℕ → List Expr
facts zero = []
facts (suc n) = (sym (predicate 0 0) ∷ []) ∷ facts n

facts-formulas : (n : ℕ) → AreFormulas (facts n)
unfolding facts
facts-formulas zero = tt
facts-formulas (suc n) = (formula (lit< tt) zero-le terms_none, facts-formulas n)

facts-length : (n : ℕ) → length (facts n) ≡ n
unfolding facts
facts-length zero = refl
facts-length (suc n) = ap suc (facts-length n)

-- there is no variable in them
facts-ordered : (u m n : ℕ) → Ordered u (constants n ++ flat (facts m))
unfolding constants facts
facts-ordered u zero zero = tt
facts-ordered u (suc m) zero = facts-ordered u m zero
facts-ordered u m (suc n) = facts-ordered u m n

some_follow : (form : Form) (closed : Bool) → (tail : List Record) × Follows form closed tail
some_follow form true = ([], refl)
some_follow Book false = (End ∷ [], ([], tt, refl))
some_follow Query false = (Goal 0 ∷ [], ([], record { few = zero-le; formulas = tt; numbered = refl }, refl))

completion : (form : Form) (state : State) → (more : List Record) × Owed form state more
completion form state =
    let f = some_follow form state.closed in (
      node_records (constants state.terms ++ flat (facts state.formulas)) ++ f.0,
      record {
        e = constants state.terms;
        fs = facts state.formulas;
        tail = f.0;
        split = refl;
        terms = constants-terms state.terms;
        formulas = facts-formulas state.formulas;
        count = facts-length state.formulas;
        ordered = facts-ordered state.variables state.formulas state.terms;
        follows = f.1;
      },
    )

-- a record of each kind
record Sample (k : ℕ) : Type 0 where
  item : Record
  kind : record_kind item ≡ k
  narrow : NarrowRecord item
  within_range : in_range item ≡ true
  in_order : (state : State) → is_in_order state item ≡ true

sample : {k : ℕ} → Kinded k → Sample k
unfolding in_range is_in_order
sample k1 = record { item = Variable 0; kind = refl; narrow = lit< tt; within_range = refl; in_order = λ state. le-leb 0 state.variables zero-le }
sample k2 = record { item = Constant 0; kind = refl; narrow = lit< tt; within_range = refl; in_order = λ state. refl }
sample k3 = record { item = Compound 0 1; kind = refl; narrow = lit< tt; within_range = refl; in_order = λ state. refl }
sample k4 = record { item = Formula 0 0; kind = refl; narrow = lit< tt; within_range = refl; in_order = λ state. refl }
sample k5 = record { item = Clause 0; kind = refl; narrow = tt; within_range = refl; in_order = λ state. refl }
sample k6 = record { item = Goal 0; kind = refl; narrow = tt; within_range = refl; in_order = λ state. refl }
sample k7 = record { item = End; kind = refl; narrow = tt; within_range = refl; in_order = λ state. refl }

-- What the relation says, by the reader's tests.

module _ (form : Form) (rs : List Record) where
  pub beginning-reads : Beginning form rs ↔ Reads form start rs
  beginning-reads = (
    λ b. (reads form start rs b.0 (complete-owed form _ b.1)).0,
    λ r. let c = completion form (reach start rs) in (c.0, start-complete form _ (owes form start rs c.0 r c.1)),
  )

  module _ (r : Reads form start rs) where
    pub complete-whole : Complete form rs ↔ (whole (reach start rs) ≡ true)
    complete-whole = (
      λ c. stepped form (reach start rs) [] (reads form start rs [] (complete-owed form _ (subst (Complete form) (inv (append-nil rs)) c))).1,
      λ w. subst (Complete form) (append-nil rs) (start-complete form _ (owes form start rs [] r (owed form (reach start rs) [] w))),
    )

    pub kind-allowed : (k : ℕ) → KindAllowed form rs k ↔ (allowed form (reach start rs) k ≡ true)
    kind-allowed k = (allows, allowing)
      where
        allows : KindAllowed form rs k → allowed form (reach start rs) k ≡ true
        allows a =
            let x = a.like in
            let more = a.begins.0 in
            let c = subst (Complete form) (append_assoc rs (x ∷ []) more) a.begins.1 in
            let o = (reads form start rs (x ∷ more) (complete-owed form _ c)).1 in
            subst (λ (n : ℕ). allowed form (reach start rs) n ≡ true) a.same (stepped form (reach start rs) (x ∷ more) o).0.kind

        allowing : allowed form (reach start rs) k ≡ true → KindAllowed form rs k
        allowing e =
            let state = reach start rs in
            let x = sample (allowed-kinded form state k (allowed-is form state k e)) in
            let c = completion form (after state x.item) in
            let fits : MayStand form state x.item = record { kind = rw x.kind e; narrow = x.narrow; within_range = x.within_range; in_order = x.in_order state } in
            let o = owes form start rs (x.item ∷ c.0) r (owed form state (x.item ∷ c.0) (fits, c.1)) in
            record { like = x.item; same = x.kind; begins = (c.0, subst (Complete form) (inv (append_assoc rs (x.item ∷ []) c.0)) (start-complete form _ o)) }

    -- "a byte after the end"
    pub nothing-after : Complete form rs → (k : ℕ) → KindAllowed form rs k → ⊥
    unfolding allowed
    nothing-after c k a =
        let h = whole_is (reach start rs) (complete-whole.0 c) in
        let e : allowed form (reach start rs) k ≡ false = simp (h.0, h.1, h.2) in
        let q = (kind-allowed k).0 a in
        cc
