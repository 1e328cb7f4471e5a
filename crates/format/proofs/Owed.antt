-- What is still to come in a state, whatever the sizes: the terms owed, the formulas owed, and what follows. One record at a time, both ways.
use Prim.Native.Nat.{ℕ, ◌+◌, ◌-◌, ◌≤◌, ◌<◌}
use native.Mathlib.Omega.{arith}
use mathlib.Core.Path.{◌≡◌, refl, sym as inv, ap, subst, ◌∙◌}
use mathlib.Core.Bool.{Bool, true, false}
use mathlib.Core.List.{List, [], ◌∷◌, ◌++◌, append-nil}
use lib.ListN.{length}
use Rattle.terms.specs.Node.{predicate, Node, sym, Expr}
use Rattle.words.specs.Flat.{flat}
use Rattle.format.specs.declared.State.{State}
use Rattle.format.specs.declared.Form.{Form}
use Rattle.format.specs.declared.Form.TheVariants.{Book, Query}
use Rattle.format.specs.declared.Record.{Record}
use Rattle.format.specs.declared.Record.TheVariants.{Formula, Clause, Goal, End}
use Rattle.format.specs.Reading.{allowed, in_range, is_in_order, after_node, between, after, whole, start}
use Rattle.format.specs.Format.{record_kind, node_record, node_records, Terms, terms_none, terms_var, terms_constant, terms_compound, formula, AreFormulas}
use Rattle.format.specs.Faulty.{Complete}
use Rattle.format.proofs.Items.{NarrowRecord}
use Rattle.format.proofs.Numbering.{Ordered, numbered}

-- a record that may stand next, but for its size
pub record MayStand (form : Form) (state : State) (r : Record) : Type 0 where
  pub kind : allowed form state (record_kind r) ≡ true
  pub narrow : NarrowRecord r
  pub within_range : in_range r ≡ true
  pub in_order : is_in_order state r ≡ true

-- what follows the clause or the goal that is being read
abbrev pub Follows : Form → Bool → List Record → Type 0
Follows form true tail = tail ≡ []
Follows form false tail = Complete form tail

pub record Owed (form : Form) (state : State) (items : List Record) : Type 0 where
  pub e : Expr
  pub fs : List Expr
  pub tail : List Record
  pub split : items ≡ node_records (e ++ flat fs) ++ tail
  pub terms : Terms state.terms e
  pub formulas : AreFormulas fs
  pub count : length fs ≡ state.formulas
  pub ordered : Ordered state.variables (e ++ flat fs)
  pub follows : Follows form state.closed tail

-- one record, and then what is owed; or nothing is
abbrev pub Stepped : Form → State → List Record → Type 0
Stepped form state [] = whole state ≡ true
Stepped form state (r ∷ rs) = MayStand form state r × Owed form (after state r) rs

-- Before a clause or a goal, nothing is owed.

pub no-terms : {n : ℕ} {e : Expr} → n ≡ 0 → Terms n e → e ≡ []
no-terms z terms_none = refl
no-terms z (terms_var n t) = absurd (omega arith)
no-terms z (terms_constant n t) = absurd (omega arith)
no-terms z (terms_compound n p q t) = absurd (omega arith)

no-formulas : (fs : List Expr) → length fs ≡ 0 → fs ≡ []
no-formulas [] z = refl
no-formulas (f ∷ fs) z = absurd (omega arith)

-- formulas, and what follows them
pub record FormulasOwed (form : Form) (closed : Bool) (formulas : ℕ) (items : List Record) : Type 0 where
  pub fs : List Expr
  pub tail : List Record
  pub split : items ≡ node_records (flat fs) ++ tail
  pub are : AreFormulas fs
  pub count : length fs ≡ formulas
  pub ordered : Ordered 0 (flat fs)
  pub follows : Follows form closed tail

pub formulas-owed : {form : Form} {closed : Bool} {m n : ℕ} {items : List Record} → Owed form (between m n closed) items → FormulasOwed form closed m items
formulas-owed o =
    let z = no-terms refl o.terms in
    record { fs = o.fs; tail = o.tail; split = rw z at o.split; are = o.formulas; count = o.count; ordered = rw z at o.ordered; follows = o.follows }

pub start-complete : (form : Form) (items : List Record) → Owed form start items → Complete form items
start-complete form items o =
    let f = formulas-owed o in
    let z = no-formulas f.fs f.count in
    subst (Complete form) (inv (rw z at f.split)) f.follows

-- A record, and then what is owed.

module _ (form : Form) (state : State) (rs : List Record) where
  -- the node of a term
  pub owed-term : (x : Node) (terms variables : ℕ) (o : Owed form (after_node state terms state.formulas variables) rs) →
      Terms state.terms (x ∷ o.e) → Ordered state.variables (x ∷ (o.e ++ flat o.fs)) → Owed form state (node_record x ∷ rs)
  owed-term x terms variables o t d =
      record {
        e = x ∷ o.e;
        fs = o.fs;
        tail = o.tail;
        split = ap (λ (l : List Record). node_record x ∷ l) o.split;
        terms = t;
        formulas = o.formulas;
        count = o.count;
        ordered = d;
        follows = o.follows;
      }

  pub owed-formula : (p a : ℕ) → state.terms ≡ 0 → 0 < state.formulas → p < 65536 → a ≤ 8 → Owed form (after_node state a (state.formulas - 1) state.variables) rs →
      Owed form state (Formula p a ∷ rs)
  owed-formula p a t m w q o =
      let count = o.count in
      record {
        e = [];
        fs = (sym (predicate p a) ∷ o.e) ∷ o.fs;
        tail = o.tail;
        split = ap (λ (l : List Record). Formula p a ∷ l) o.split;
        terms = rw t terms_none;
        formulas = (formula w q o.terms, o.formulas);
        count = omega arith;
        ordered = o.ordered;
        follows = o.follows;
      }

  pub owed-between : (t : state.terms ≡ 0) (m : state.formulas ≡ 0) (c : state.closed ≡ false) → Complete form rs → Owed form state rs
  owed-between t m c f =
      record { e = []; fs = []; tail = rs; split = refl; terms = rw t terms_none; formulas = tt; count = inv m; ordered = tt; follows = rw c f }

-- a clause, the end of a book, a goal
pub clause-complete : (n : ℕ) (rs : List Record) → n ≤ 16 → FormulasOwed Book false (n + 1) rs → Complete Book (Clause n ∷ rs)
clause-complete n rs h f = by f.fs f.count f.are f.ordered f.split
  where
    by : (fs : List Expr) → length fs ≡ n + 1 → AreFormulas fs → Ordered 0 (flat fs) → rs ≡ node_records (flat fs) ++ f.tail → Complete Book (Clause n ∷ rs)
    by [] l a o s = absurd (omega arith)
    by (head ∷ body) l a o s =
        let more = f.follows in
        let q : n ≡ length body = omega arith in (
          record { head = head; body = body } ∷ more.0,
          (record { few = omega arith; formulas = a; numbered = numbered (head ∷ body) o }, more.1),
          (λ i. Clause (q i) ∷ s i) ∙ ap (λ (l : List Record). Clause (length body) ∷ (node_records (flat (head ∷ body)) ++ l)) more.2,
        )

pub end-complete : (rs : List Record) → FormulasOwed Book true 0 rs → Complete Book (End ∷ rs)
end-complete rs f =
    let z = no-formulas f.fs f.count in
    let q : rs ≡ f.tail = rw z at f.split in
    ([], tt, ap (λ (l : List Record). End ∷ l) (q ∙ f.follows))

pub goal-complete : (n : ℕ) (rs : List Record) → n ≤ 512 → FormulasOwed Query true n rs → Complete Query (Goal n ∷ rs)
goal-complete n rs h f =
    let count = f.count in
    let q : rs ≡ node_records (flat f.fs) = f.split ∙ ap (λ (l : List Record). node_records (flat f.fs) ++ l) f.follows ∙ append-nil _ in
    (f.fs, record { few = omega arith; formulas = f.are; numbered = numbered f.fs f.ordered }, λ i. Goal (inv count i) ∷ q i)
