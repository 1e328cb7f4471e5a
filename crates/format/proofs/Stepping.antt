-- What is owed, one record at a time: `stepped` and `owed`.
use Prim.Native.Nat.{ℕ, suc, ◌+◌, ◌-◌, ◌≤◌, ◌<◌}
use native.Mathlib.Omega.{arith}
use borrow.Author.Tests.{leb-true, le-leb, lt-ltb, ltb-false}
use mathlib.Core.Path.{◌≡◌, refl, sym as inv, subst}
use mathlib.Core.Bool.{Bool, true, false}
use mathlib.Core.List.{List, [], ◌∷◌, ◌++◌, append-nil}
use lib.ListN.{length}
use lib.Dec.{leb, ltb}
use Rattle.terms.specs.Node.{constant, compound, var, sym, Expr}
use Rattle.terms.specs.When.{◌⇒◌∣◌}
use Rattle.search.specs.Next as Next
use Rattle.words.specs.Flat.{flat}
use Rattle.format.specs.declared.State.{State}
use Rattle.format.specs.declared.Form.{Form}
use Rattle.format.specs.declared.Form.TheVariants.{Book, Query}
use Rattle.format.specs.declared.Record.{Record}
use Rattle.format.specs.declared.Record.TheVariants.{Variable, Constant, Compound, Formula, Clause, Goal, End}
use Rattle.format.specs.Reading.{opens, allowed, in_range, is_in_order, next_unused, after, whole}
use Rattle.format.specs.Format.{record_kind, node_records, Terms, terms_none, terms_var, terms_constant, terms_compound, IsFormula, formula, AreFormulas, book_records}
use Rattle.format.specs.Faulty.{FormedClauses, Formed}
use Rattle.format.proofs.Tests.{and_both}
use Rattle.format.proofs.Items.{Allowed, as_term, as_formula, as_clause, as_end, as_goal, allowed-is}
use Rattle.format.proofs.Numbering.{Ordered, ordered}
use Rattle.format.proofs.Owed.{MayStand, Follows, Owed, Stepped, FormulasOwed, formulas-owed, owed-term, owed-formula, owed-between, clause-complete, end-complete, goal-complete}

-- Where a record may stand.

module _ (form : Form) (state : State) (k : ℕ) where
  pub for-term : Allowed form state k → k ≤ 3 → 0 < state.terms
  for-term (as_term t p q) h = t
  for-term (as_formula t m q) h = absurd (omega arith)
  for-term (as_clause t m c f q) h = absurd (omega arith)
  for-term (as_end t m c f q) h = absurd (omega arith)
  for-term (as_goal t m c f q) h = absurd (omega arith)

  pub for-formula : Allowed form state k → k ≡ 4 → (state.terms ≡ 0) × (0 < state.formulas)
  for-formula (as_term t p q) h = absurd (omega arith)
  for-formula (as_formula t m q) h = (t, m)
  for-formula (as_clause t m c f q) h = absurd (omega arith)
  for-formula (as_end t m c f q) h = absurd (omega arith)
  for-formula (as_goal t m c f q) h = absurd (omega arith)

  pub for-book : Allowed form state k → 5 ≤ k → (k ≡ 6 → ⊥) → (state.terms ≡ 0) × (state.formulas ≡ 0) × (state.closed ≡ false) × (form ≡ Book)
  for-book (as_term t p q) h d = absurd (omega arith)
  for-book (as_formula t m q) h d = absurd (omega arith)
  for-book (as_clause t m c f q) h d = (t, m, c, f)
  for-book (as_end t m c f q) h d = (t, m, c, f)
  for-book (as_goal t m c f q) h d = absurd (d q)

  pub for-query : Allowed form state k → k ≡ 6 → (state.terms ≡ 0) × (state.formulas ≡ 0) × (state.closed ≡ false) × (form ≡ Query)
  for-query (as_term t p q) h = absurd (omega arith)
  for-query (as_formula t m q) h = absurd (omega arith)
  for-query (as_clause t m c f q) h = absurd (omega arith)
  for-query (as_end t m c f q) h = absurd (omega arith)
  for-query (as_goal t m c f q) h = (t, m, c, f)

whole_by : (state : State) (a b : Bool) → ltb 0 state.terms ≡ a → ltb 0 state.formulas ≡ b → (a ⇒ false ∣ b ⇒ false ∣ state.closed) ≡ true →
    (state.terms ≡ 0) × (state.formulas ≡ 0) × (state.closed ≡ true)
whole_by state true b p q x = absurd (cc)
whole_by state false true p q x = absurd (cc)
whole_by state false false p q x = (omega (arith, ltb-false 0 state.terms p), omega (arith, ltb-false 0 state.formulas q), x)

pub whole_is : (state : State) → whole state ≡ true → (state.terms ≡ 0) × (state.formulas ≡ 0) × (state.closed ≡ true)
unfolding whole
whole_is state x = whole_by state _ _ refl refl x

-- From a record that fits, and what is owed then.

owed-one : (form : Form) (state : State) (r : Record) (rs : List Record) → Allowed form state (record_kind r) → MayStand form state r → Owed form (after state r) rs → Owed form state (r ∷ rs)
unfolding after in_range is_in_order
owed-one form state (Variable v) rs a f o =
    let q : state.terms ≡ suc (state.terms - 1) = omega (arith, for-term form state 1 a (omega arith)) in
    owed-term form state rs (var v) (state.terms - 1) (next_unused state.variables v) o (rw q (terms_var f.narrow o.terms)) (leb-true v state.variables f.in_order, o.ordered)
owed-one form state (Constant c) rs a f o =
    let q : state.terms ≡ suc (state.terms - 1) = omega (arith, for-term form state 2 a (omega arith)) in
    owed-term form state rs (sym (constant c)) (state.terms - 1) state.variables o (rw q (terms_constant f.narrow o.terms)) o.ordered
owed-one form state (Compound c n) rs a f o =
    let q : state.terms ≡ suc (state.terms - 1) = omega (arith, for-term form state 3 a (omega arith)) in
    let z = and_both (leb 1 n) (leb n 8) f.within_range in
    owed-term form state rs (sym (compound c n)) (state.terms - 1 + n) state.variables o
    (rw q (terms_compound f.narrow (leb-true 1 n z.0) (leb-true n 8 z.1) o.terms))
    o.ordered
owed-one form state (Formula p n) rs a f o =
    let h = for-formula form state 4 a refl in
    owed-formula form state rs p n h.0 h.1 f.narrow (leb-true n 8 f.within_range) o
owed-one form state (Clause n) rs a f o =
    let h = for-book form state 5 a (omega arith) (λ z. omega arith) in
    let o' : Owed Book (after state (Clause n)) rs = rw h.3 at o in
    let g : FormulasOwed Book state.closed (n + 1) rs = formulas-owed o' in
    rw h.3 (owed-between Book state (Clause n ∷ rs) h.0 h.1 h.2 (clause-complete n rs (leb-true n 16 f.within_range) (rw h.2 at g)))
owed-one form state (Goal n) rs a f o =
    let h = for-query form state 6 a refl in
    let o' : Owed Query (after state (Goal n)) rs = rw h.3 at o in
    rw h.3 (owed-between Query state (Goal n ∷ rs) h.0 h.1 h.2 (goal-complete n rs (leb-true n 512 f.within_range) (formulas-owed o')))
owed-one form state End rs a f o =
    let h = for-book form state 7 a (omega arith) (λ z. omega arith) in
    let o' : Owed Book (after state End) rs = rw h.3 at o in
    rw h.3 (owed-between Book state (End ∷ rs) h.0 h.1 h.2 (end-complete rs (formulas-owed o')))

pub owed : (form : Form) (state : State) (items : List Record) → Stepped form state items → Owed form state items
owed form state [] w =
    let h = whole_is state w in
    record { e = []; fs = []; tail = []; split = refl; terms = rw h.0 terms_none; formulas = tt; count = inv h.1; ordered = tt; follows = rw h.2 refl }
owed form state (r ∷ rs) s = owed-one form state r rs (allowed-is form state (record_kind r) s.0.kind) s.0 s.1

-- And back.

allow_term : (form : Form) (state : State) (k : ℕ) → 0 < state.terms → 1 ≤ k → k ≤ 3 → allowed form state k ≡ true
unfolding allowed
allow_term form state k t p q = simp (lt-ltb 0 state.terms t, le-leb 1 k p, le-leb k 3 q)

allow_formula : (form : Form) (state : State) → state.terms ≡ 0 → 0 < state.formulas → allowed form state 4 ≡ true
unfolding allowed
allow_formula form state t m = simp (t, lt-ltb 0 state.formulas m)

allow_open : (form : Form) (state : State) (k : ℕ) → state.terms ≡ 0 → state.formulas ≡ 0 → state.closed ≡ false → opens form k ≡ true → allowed form state k ≡ true
unfolding allowed
allow_open form state k t m c o = simp (t, m, c, o)

module _ (state : State) (t : state.terms ≡ 0) (m : state.formulas ≡ 0) where
  module _ (c : state.closed ≡ false) where
    stepped-book : (b : Next.Book) → FormedClauses b → Stepped Book state (book_records b)
    unfolding after in_range is_in_order
    stepped-book [] g =
        (record { kind = allow_open Book state 7 t m c refl; narrow = tt; within_range = refl; in_order = refl }, record { e = []; fs = []; tail = []; split = refl; terms = terms_none; formulas = tt; count = refl; ordered = tt; follows = refl })
    stepped-book (r ∷ b) g =
        let few = g.0.few in (
          record { kind = allow_open Book state 5 t m c refl; narrow = tt; within_range = le-leb (length r.body) 16 (omega arith); in_order = refl },
          record {
            e = [];
            fs = r.head ∷ r.body;
            tail = book_records b;
            split = refl;
            terms = terms_none;
            formulas = g.0.formulas;
            count = omega arith;
            ordered = ordered _ g.0.numbered;
            follows = rw c (b, g.1, refl);
          },
        )

    stepped-goal : (g : Next.Goal) → Formed 512 g → Stepped Query state (Goal (length g) ∷ node_records (flat g))
    unfolding after in_range is_in_order
    stepped-goal g f = (
      record { kind = allow_open Query state 6 t m c refl; narrow = tt; within_range = le-leb (length g) 512 f.few; in_order = refl },
      record { e = []; fs = g; tail = []; split = inv (append-nil _); terms = terms_none; formulas = f.formulas; count = refl; ordered = ordered g f.numbered; follows = refl },
    )

  stepped-follows : (form : Form) (closed : Bool) (tail : List Record) → state.closed ≡ closed → Follows form closed tail → Stepped form state tail
  unfolding whole
  stepped-follows form true tail c f = subst (Stepped form state) (inv f) (simp (t, m, c))
  stepped-follows Book false tail c f = subst (Stepped Book state) (inv f.2) (stepped-book c f.0 f.1)
  stepped-follows Query false tail c f = subst (Stepped Query state) (inv f.2) (stepped-goal c f.0 f.1)

module _ (form : Form) (state : State) (tail : List Record) (follows : Follows form state.closed tail) where
  stepped-formula : {f : Expr} → IsFormula f → (fs : List Expr) → AreFormulas fs → state.terms ≡ 0 → length fs + 1 ≡ state.formulas → Ordered state.variables (f ++ flat fs) →
      Stepped form state (node_records (f ++ flat fs) ++ tail)
  unfolding after in_range is_in_order
  stepped-formula (formula {p = p} {a = a} {e = e} w q ts) fs g t l o = (
    record { kind = allow_formula form state t (omega arith); narrow = w; within_range = le-leb a 8 q; in_order = refl },
    record { e = e; fs = fs; tail = tail; split = refl; terms = ts; formulas = g; count = omega arith; ordered = o; follows = follows },
  )

  stepped-formulas : (fs : List Expr) → AreFormulas fs → state.terms ≡ 0 → length fs ≡ state.formulas → Ordered state.variables (flat fs) →
      Stepped form state (node_records (flat fs) ++ tail)
  stepped-formulas [] g t l o = stepped-follows state t (inv l) form state.closed tail refl follows
  stepped-formulas (f ∷ fs) g t l o = stepped-formula g.0 fs g.1 t (omega arith) o

  stepped-terms : {n : ℕ} {e : Expr} → Terms n e → state.terms ≡ n → (fs : List Expr) → AreFormulas fs → length fs ≡ state.formulas → Ordered state.variables (e ++ flat fs) →
      Stepped form state (node_records (e ++ flat fs) ++ tail)
  unfolding after in_range is_in_order
  stepped-terms terms_none t fs g l o = stepped-formulas fs g t l o
  stepped-terms (terms_var {n = n} {v = v} {e = e} w ts) t fs g l o =
      let q : state.terms - 1 ≡ n = omega arith in (
        record { kind = allow_term form state 1 (omega arith) (omega arith) (omega arith); narrow = w; within_range = refl; in_order = le-leb v state.variables o.0 },
        record { e = e; fs = fs; tail = tail; split = refl; terms = rw q ts; formulas = g; count = l; ordered = o.1; follows = follows },
      )
  stepped-terms (terms_constant {n = n} {e = e} w ts) t fs g l o =
      let q : state.terms - 1 ≡ n = omega arith in (
        record { kind = allow_term form state 2 (omega arith) (omega arith) (omega arith); narrow = w; within_range = refl; in_order = refl },
        record { e = e; fs = fs; tail = tail; split = refl; terms = rw q ts; formulas = g; count = l; ordered = o; follows = follows },
      )
  stepped-terms (terms_compound {n = n} {a = a} {e = e} w h k ts) t fs g l o =
      let q : state.terms - 1 ≡ n = omega arith in (
        record { kind = allow_term form state 3 (omega arith) (omega arith) (omega arith); narrow = w; within_range = simp (le-leb 1 a h, le-leb a 8 k); in_order = refl },
        record { e = e; fs = fs; tail = tail; split = refl; terms = rw q ts; formulas = g; count = l; ordered = o; follows = follows },
      )

pub stepped : (form : Form) (state : State) (items : List Record) → Owed form state items → Stepped form state items
stepped form state items o = subst (Stepped form state) (inv o.split) (stepped-terms form state o.tail o.follows o.terms refl o.fs o.formulas o.count o.ordered)
