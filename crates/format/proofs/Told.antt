-- What the reader's state tells of the records read: how many clauses, and the nodes since the last clause or goal record.
use Prim.Native.Nat.{ℕ, suc, ◌+◌, ◌≤◌, ◌<◌}
use native.Mathlib.Omega.{arith}
use borrow.Author.Tests.{leb-true, eqb-true, eqb-false}
use mathlib.Core.Path.{◌≡◌, refl, sym as inv, ap, subst, ◌∙◌}
use mathlib.Core.Bool.{true, false}
use mathlib.Core.Logic.{◌↔◌, inl, inr}
use mathlib.Core.List.{List, [], ◌∷◌, ◌++◌, append-nil, append_assoc}
use lib.ListN.{length, length-append}
use lib.Dec.{eqb}
use Rattle.terms.specs.Cases.{cases}
use Rattle.terms.specs.Node.{constant, compound, predicate, Symbol, Node, var, sym, Expr}
use Rattle.terms.specs.Subst.{In}
use Rattle.terms.specs.SubstLaws.{in_left, in_right, in-append}
use Rattle.format.specs.declared.State.{State}
use Rattle.format.specs.declared.Form.{Form}
use Rattle.format.specs.declared.Form.TheVariants.{Book}
use Rattle.format.specs.declared.Record.{Record}
use Rattle.format.specs.declared.Record.TheVariants.{Variable, Constant, Compound, Formula, Clause, Goal, End}
use Rattle.format.specs.Reading.{is_in_order, next_unused, after_node, after, start}
use Rattle.format.specs.Format.{node_record, node_records}
use Rattle.format.specs.Faulty.{EndsIn, in_clause, in_goal, clause_count}
use Rattle.format.proofs.Items.{allowed-is}
use Rattle.format.proofs.Numbering.{unused-same, unused-other}
use Rattle.format.proofs.Owed.{MayStand}
use Rattle.format.proofs.Stepping.{for-term, for-formula, for-query}
use Rattle.format.proofs.Beginnings.{reach, Reads}

-- the nodes since the last record that is no node, behind those of e if there is none
abbrev pub since : Expr → List Record → Expr
since e [] = e
since e (Variable v ∷ rs) = since (e ++ (var v ∷ [])) rs
since e (Constant c ∷ rs) = since (e ++ (sym (constant c) ∷ [])) rs
since e (Compound f n ∷ rs) = since (e ++ (sym (compound f n) ∷ [])) rs
since e (Formula p n ∷ rs) = since (e ++ (sym (predicate p n) ∷ [])) rs
since e (Clause n ∷ rs) = since [] rs
since e (Goal n ∷ rs) = since [] rs
since e (End ∷ rs) = since [] rs

since-append : (e : Expr) (a b : List Record) → since e (a ++ b) ≡ since (since e a) b
since-append e [] b = refl
since-append e (Variable v ∷ a) b = since-append _ a b
since-append e (Constant c ∷ a) b = since-append _ a b
since-append e (Compound f n ∷ a) b = since-append _ a b
since-append e (Formula p n ∷ a) b = since-append _ a b
since-append e (Clause n ∷ a) b = since-append _ a b
since-append e (Goal n ∷ a) b = since-append _ a b
since-append e (End ∷ a) b = since-append _ a b

since-node : (d : Expr) (x : Node) (rs : List Record) → since d (node_record x ∷ rs) ≡ since (d ++ (x ∷ [])) rs
since-node d (var v) rs = refl
since-node d (sym (constant c)) rs = refl
since-node d (sym (compound f n)) rs = refl
since-node d (sym (predicate p n)) rs = refl

since-nodes : (d e : Expr) → since d (node_records e) ≡ d ++ e
since-nodes d [] = inv (append-nil d)
since-nodes d (x ∷ e) = since-node d x (node_records e) ∙ since-nodes (d ++ (x ∷ [])) e ∙ append_assoc d (x ∷ []) e

pub ends-since : {rs : List Record} {e : Expr} → EndsIn rs e → e ≡ since [] rs
ends-since {e = e} (in_clause before n q) = inv (ap (since []) q ∙ since-append [] before (Clause n ∷ node_records e) ∙ since-nodes [] e)
ends-since {e = e} (in_goal before n q) = inv (ap (since []) q ∙ since-append [] before (Goal n ∷ node_records e) ∙ since-nodes [] e)

records-append : (a b : Expr) → node_records (a ++ b) ≡ node_records a ++ node_records b
records-append [] b = refl
records-append (x ∷ a) b = ap (λ (l : List Record). node_record x ∷ l) (records-append a b)

-- one node more
longer : (before : List Record) (r : Record) (e : Expr) (x : Node) (rs : List Record) → rs ≡ before ++ r ∷ node_records e →
    rs ++ node_record x ∷ [] ≡ before ++ r ∷ node_records (e ++ (x ∷ []))
longer before r e x rs q =
    ap (λ (l : List Record). l ++ node_record x ∷ []) q
    ∙ append_assoc before (r ∷ node_records e) (node_record x ∷ [])
    ∙ ap (λ (l : List Record). before ++ r ∷ l) (inv (records-append e (x ∷ [])))

ends-longer : {rs : List Record} {e : Expr} (x : Node) → EndsIn rs e → EndsIn (rs ++ node_record x ∷ []) (e ++ (x ∷ []))
ends-longer {rs} {e} x (in_clause before n q) = in_clause before n (longer before (Clause n) e x rs q)
ends-longer {rs} {e} x (in_goal before n q) = in_goal before n (longer before (Goal n) e x rs q)

clauses-append : (a b : List Record) → clause_count (a ++ b) ≡ clause_count a + clause_count b
clauses-append [] b = omega arith
clauses-append (Variable v ∷ a) b = clauses-append a b
clauses-append (Constant c ∷ a) b = clauses-append a b
clauses-append (Compound f n ∷ a) b = clauses-append a b
clauses-append (Formula p n ∷ a) b = clauses-append a b
clauses-append (Clause n ∷ a) b = omega (arith, clauses-append a b)
clauses-append (Goal n ∷ a) b = clauses-append a b
clauses-append (End ∷ a) b = clauses-append a b

node-clauses : (x : Node) → clause_count (node_record x ∷ []) ≡ 0
node-clauses (var v) = refl
node-clauses (sym (constant c)) = refl
node-clauses (sym (compound f n)) = refl
node-clauses (sym (predicate p n)) = refl

-- the variables of e are the numbers below n
abbrev pub Used : Expr → ℕ → Type 0
Used e n = (v : ℕ) → In v e ↔ (v < n)

used-symbol : (e : Expr) (n : ℕ) (s : Symbol) → Used e n → Used (e ++ (sym s ∷ [])) n
used-symbol e n s u v =
    (λ i. elim (in-append v e (sym s ∷ []) i) [ inl j ↦ (u v).0 j | inr j ↦ absurd j ], λ h. in_left v e (sym s ∷ []) ((u v).1 h))

used-variable : (e : Expr) (n w : ℕ) → w ≤ n → Used e n → Used (e ++ (var w ∷ [])) (next_unused n w)
used-variable e n w h u v = cases (eqb w n) new old
  where
    there : (m : ℕ) → n ≤ m → w < m → In v (e ++ (var w ∷ [])) → v < m
    there m p q i = elim (in-append v e (var w ∷ []) i) [ inl j ↦ omega (arith, (u v).0 j) | inr j ↦ elim j [ inl z ↦ omega arith | inr z ↦ absurd z ] ]

    new : eqb w n ≡ true → In v (e ++ (var w ∷ [])) ↔ (v < next_unused n w)
    new p =
        let q = eqb-true w n p in
        rw (unused-same n w q) (
          there (suc n) (omega arith) (omega arith),
          λ l. cases (eqb v w) (λ z. in_right v e (var w ∷ []) (inl (eqb-true v w z))) (λ z. in_left v e (var w ∷ []) ((u v).1 (omega (arith, eqb-false v w z)))),
        )

    old : eqb w n ≡ false → In v (e ++ (var w ∷ [])) ↔ (v < next_unused n w)
    old p =
        let q = eqb-false w n p in
        rw (unused-other n w q) (there n (omega arith) (omega arith), λ l. in_left v e (var w ∷ []) ((u v).1 l))

pub record Told (form : Form) (rs : List Record) (state : State) : Type 0 where
  pub clauses : form ≡ Book → state.clauses ≡ clause_count rs
  pub nodes : state.nodes ≡ length (since [] rs)
  pub variables : Used (since [] rs) state.variables
  pub inside : 0 < state.terms + state.formulas → EndsIn rs (since [] rs)

told-node : (form : Form) (rs : List Record) (state : State) (x : Node) (t m n : ℕ) → Told form rs state → 0 < state.terms + state.formulas → Used (since [] rs ++ (x ∷ [])) n →
    Told form (rs ++ node_record x ∷ []) (after_node state t m n)
told-node form rs state x t m n k h u =
    let q : since [] (rs ++ node_record x ∷ []) ≡ since [] rs ++ (x ∷ []) = since-append [] rs (node_record x ∷ []) ∙ since-node (since [] rs) x [] in
    record {
      clauses = λ b. omega (arith, k.clauses b, clauses-append rs (node_record x ∷ []), node-clauses x);
      nodes = rw q (omega (arith, k.nodes, length-append (since [] rs) (x ∷ [])));
      variables = rw q u;
      inside = λ z. rw q (ends-longer x (k.inside h));
    }

-- a record that is no node
told-opened : (form : Form) (rs : List Record) (state : State) (r : Record) → since [] (rs ++ r ∷ []) ≡ [] → state.nodes ≡ 0 → state.variables ≡ 0 →
    (form ≡ Book → state.clauses ≡ clause_count (rs ++ r ∷ [])) → (0 < state.terms + state.formulas → EndsIn (rs ++ r ∷ []) []) → Told form (rs ++ r ∷ []) state
told-opened form rs state r q n u c i = record { clauses = c; nodes = rw q n; variables = rw (q, u) (λ v. (λ (z : ⊥). absurd z, λ (h : v < 0). absurd (omega arith))); inside = rw q i }

pub told-next : (form : Form) (rs : List Record) (state : State) (r : Record) → Told form rs state → MayStand form state r → Told form (rs ++ r ∷ []) (after state r)
unfolding after is_in_order
told-next form rs state (Variable v) k f =
    told-node form rs state (var v) _ _ _ k
    (omega (arith, for-term form state 1 (allowed-is form state 1 f.kind) (omega arith)))
    (used-variable (since [] rs) state.variables v (leb-true v state.variables f.in_order) k.variables)
told-next form rs state (Constant c) k f =
    told-node form rs state (sym (constant c)) _ _ _ k
    (omega (arith, for-term form state 2 (allowed-is form state 2 f.kind) (omega arith)))
    (used-symbol (since [] rs) state.variables (constant c) k.variables)
told-next form rs state (Compound c n) k f =
    told-node form rs state (sym (compound c n)) _ _ _ k
    (omega (arith, for-term form state 3 (allowed-is form state 3 f.kind) (omega arith)))
    (used-symbol (since [] rs) state.variables (compound c n) k.variables)
told-next form rs state (Formula p n) k f =
    told-node form rs state (sym (predicate p n)) _ _ _ k
    (omega (arith, (for-formula form state 4 (allowed-is form state 4 f.kind) refl).1))
    (used-symbol (since [] rs) state.variables (predicate p n) k.variables)
told-next form rs state (Clause n) k f =
    told-opened form rs (after state (Clause n)) (Clause n) (since-append [] rs (Clause n ∷ [])) refl refl
    (λ b. omega (arith, k.clauses b, clauses-append rs (Clause n ∷ [])))
    (λ h. in_clause rs n refl)
told-next form rs state (Goal n) k f =
    told-opened form rs (after state (Goal n)) (Goal n) (since-append [] rs (Goal n ∷ [])) refl refl
    (λ b. let q = (for-query form state 6 (allowed-is form state 6 f.kind) refl).3 in absurd (cc))
    (λ h. in_goal rs n refl)
told-next form rs state End k f =
    told-opened form rs (after state End) End (since-append [] rs (End ∷ [])) refl refl
    (λ b. omega (arith, k.clauses b, clauses-append rs (End ∷ [])))
    (λ (h : 0 < 0). absurd (omega arith))

told-all : (form : Form) (rs more : List Record) (state : State) → Told form rs state → Reads form state more → Told form (rs ++ more) (reach state more)
told-all form rs [] state k r = rw append-nil k
told-all form rs (x ∷ more) state k r =
    subst (λ (l : List Record). Told form l (reach (after state x) more)) (append_assoc rs (x ∷ []) more)
    (told-all form (rs ++ x ∷ []) more (after state x) (told-next form rs state x k r.0) r.1)

pub told-start : (form : Form) → Told form [] start
told-start form = record { clauses = λ b. refl; nodes = refl; variables = λ v. (λ (z : ⊥). absurd z, λ (h : v < 0). absurd (omega arith)); inside = λ (h : 0 < 0). absurd (omega arith) }

pub told : (form : Form) (rs : List Record) → Reads form start rs → Told form rs (reach start rs)
told form rs r = told-all form [] rs start (told-start form) r
