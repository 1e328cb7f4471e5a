-- Books and goals that keep their sizes are those whose records all do.
use Prim.Native.Nat.{ℕ, ◌+◌, ◌-◌, ◌≤◌, ◌<◌, zero-le}
use native.Mathlib.Omega.{arith}
use borrow.Author.Tests.{ltb-true, lt-ltb}
use mathlib.Core.Path.{◌≡◌, refl, sym as inv, ap, subst, ◌∙◌}
use mathlib.Core.Logic.{◌↔◌}
use mathlib.Core.List.{List, [], ◌∷◌, ◌++◌, append-nil}
use lib.ListN.{length}
use lib.Dec.{ltb}
use Rattle.terms.specs.Node.{constant, compound, predicate, Node, var, sym, Expr}
use Rattle.search.specs.Next as Next
use Rattle.search.specs.Room.{nodes}
use Rattle.words.specs.Flat.{flat, flat-size}
use Rattle.format.specs.declared.State.{State}
use Rattle.format.specs.declared.Form.{Form}
use Rattle.format.specs.declared.Form.TheVariants.{Book, Query}
use Rattle.format.specs.declared.Record.{Record}
use Rattle.format.specs.declared.Record.TheVariants.{Clause, Goal}
use Rattle.format.specs.Reading.{node_limit, variable_limit, is_in_size, after, start}
use Rattle.format.specs.Format.{node_record, node_records, Below, book_records, GoodClause, GoodClauses, goal_records, GoodGoal}
use Rattle.format.specs.Faulty.{Formed, FormedClauses}
use Rattle.format.proofs.Tests.{and_both}
use Rattle.format.proofs.Beginnings.{reach, reach-append}
use Rattle.format.proofs.Sizes.{Sized}

-- Good is formed, and within the sizes.

pub clause_iff : (c : Next.Clause) → GoodClause c ↔ (Formed 17 (c.head ∷ c.body) × (nodes (c.head ∷ c.body) ≤ 256) × Below 64 (flat (c.head ∷ c.body)))
clause_iff c = (
  λ g. let few = g.few in (record { few = omega arith; formulas = g.formulas; numbered = g.fitting.numbered }, g.fitting.size, g.fitting.below),
  λ x. let few = x.0.few in record { few = omega arith; formulas = x.0.formulas; fitting = record { size = x.1; below = x.2; numbered = x.0.numbered } },
)

pub goal_iff : (g : Next.Goal) → GoodGoal g ↔ (Formed 512 g × (nodes g ≤ 4096) × Below 65536 (flat g))
goal_iff g = (
  λ x. (record { few = x.few; formulas = x.formulas; numbered = x.fitting.numbered }, x.fitting.size, x.fitting.below),
  λ x. record { few = x.0.few; formulas = x.0.formulas; fitting = record { size = x.1; below = x.2; numbered = x.0.numbered } },
)

-- Nodes

-- what a node changes
record Counts (state next : State) (n : ℕ) : Type 0 where
  nodes : next.nodes ≡ state.nodes + n
  clauses : next.clauses ≡ state.clauses

counts-node : (state : State) (x : Node) → Counts state (after state (node_record x)) 1
unfolding after
counts-node state (var v) = record { nodes = refl; clauses = refl }
counts-node state (sym (constant c)) = record { nodes = refl; clauses = refl }
counts-node state (sym (compound f n)) = record { nodes = refl; clauses = refl }
counts-node state (sym (predicate p n)) = record { nodes = refl; clauses = refl }

counts-nodes : (state : State) (e : Expr) → Counts state (reach state (node_records e)) (length e)
counts-nodes state [] = record { nodes = omega arith; clauses = refl }
counts-nodes state (x ∷ e) =
    let a = counts-node state x in
    let b = counts-nodes (after state (node_record x)) e in
    record { nodes = omega (arith, a.nodes, b.nodes); clauses = b.clauses ∙ a.clauses }

-- nodes that keep the sizes, and then other records that do
record NodesSized (form : Form) (state : State) (e : Expr) (tail : List Record) : Type 0 where
  size : length e ≤ node_limit form - state.nodes
  below : Below (variable_limit form) e
  later : Sized form (reach state (node_records e)) tail

module _ (form : Form) (tail : List Record) where
  nodes-more : (state : State) (x : Node) (e : Expr) → state.nodes < node_limit form → Below (variable_limit form) (x ∷ []) → NodesSized form (after state (node_record x)) e tail → NodesSized form state (x ∷ e) tail
  nodes-more state x e l b k = record { size = omega (arith, k.size, (counts-node state x).nodes); below = together x b; later = k.later }
    where
      together : (y : Node) → Below (variable_limit form) (y ∷ []) → Below (variable_limit form) (y ∷ e)
      together (var v) b = (b.0, k.below)
      together (sym s) b = k.below

  nodes-sized : (state : State) (e : Expr) → Sized form state (node_records e ++ tail) → NodesSized form state e tail
  unfolding is_in_size
  nodes-sized state [] s = record { size = zero-le; below = tt; later = s }
  nodes-sized state (var v ∷ e) s =
      let z = and_both (ltb state.nodes (node_limit form)) (ltb v (variable_limit form)) s.0 in
      nodes-more state (var v) e (ltb-true state.nodes (node_limit form) z.0) (ltb-true v (variable_limit form) z.1, tt) (nodes-sized (after state (node_record (var v))) e s.1)
  nodes-sized state (sym (constant c) ∷ e) s = nodes-more state (sym (constant c)) e (ltb-true state.nodes (node_limit form) s.0) tt (nodes-sized _ e s.1)
  nodes-sized state (sym (compound f n) ∷ e) s = nodes-more state (sym (compound f n)) e (ltb-true state.nodes (node_limit form) s.0) tt (nodes-sized _ e s.1)
  nodes-sized state (sym (predicate p n) ∷ e) s = nodes-more state (sym (predicate p n)) e (ltb-true state.nodes (node_limit form) s.0) tt (nodes-sized _ e s.1)

  nodes-less : (state : State) (x : Node) (e : Expr) → Below (variable_limit form) e → NodesSized form state (x ∷ e) tail → NodesSized form (after state (node_record x)) e tail
  nodes-less state x e b k = record { size = omega (arith, k.size, (counts-node state x).nodes); below = b; later = k.later }

  nodes-back : (state : State) (e : Expr) → NodesSized form state e tail → Sized form state (node_records e ++ tail)
  unfolding is_in_size
  nodes-back state [] k = k.later
  nodes-back state (var v ∷ e) k =
      (simp (lt-ltb state.nodes (node_limit form) (omega (arith, k.size)), lt-ltb v (variable_limit form) k.below.0), nodes-back (after state (node_record (var v))) e (nodes-less state (var v) e k.below.1 k))
  nodes-back state (sym (constant c) ∷ e) k = (lt-ltb state.nodes (node_limit form) (omega (arith, k.size)), nodes-back _ e (nodes-less state (sym (constant c)) e k.below k))
  nodes-back state (sym (compound f n) ∷ e) k = (lt-ltb state.nodes (node_limit form) (omega (arith, k.size)), nodes-back _ e (nodes-less state (sym (compound f n)) e k.below k))
  nodes-back state (sym (predicate p n) ∷ e) k = (lt-ltb state.nodes (node_limit form) (omega (arith, k.size)), nodes-back _ e (nodes-less state (sym (predicate p n)) e k.below k))

-- Books

-- good clauses, from a state on, and how many they are
pub record GoodFrom (state : State) (b : Next.Book) : Type 0 where
  pub good : GoodClauses b
  pub few : length b ≤ 512 - state.clauses
  pub count : (reach state (book_records b)).clauses ≡ state.clauses + length b

pub clauses-held : (b : Next.Book) (state : State) → FormedClauses b → Sized Book state (book_records b) → GoodFrom state b
unfolding is_in_size after
clauses-held [] state f s = record { good = tt; few = zero-le; count = omega arith }
clauses-held (c ∷ b) state f s =
    let g = c.head ∷ c.body in
    let opened = after state (Clause (length c.body)) in
    let k = nodes-sized Book (book_records b) opened (flat g) s.1 in
    let h = clauses-held b (reach opened (node_records (flat g))) f.1 k.later in
    let q = counts-nodes opened (flat g) in
    let l = ltb-true state.clauses 512 s.0 in
    let r : reach state (book_records (c ∷ b)) ≡ reach (reach opened (node_records (flat g))) (book_records b) = reach-append opened (node_records (flat g)) (book_records b) in
    record {
      good = ((clause_iff c).1 (f.0, omega (arith, k.size, flat-size g), k.below), h.good);
      few = omega (arith, h.few, q.clauses);
      count = ap (λ (x : State). x.clauses) r ∙ omega (arith, h.count, q.clauses);
    }

pub clauses-formed : (b : Next.Book) → GoodClauses b → FormedClauses b
clauses-formed [] g = tt
clauses-formed (c ∷ b) g = (((clause_iff c).0 g.0).0, clauses-formed b g.1)

pub clauses-sized : (b : Next.Book) (state : State) → GoodClauses b → length b ≤ 512 - state.clauses → Sized Book state (book_records b)
unfolding is_in_size after
clauses-sized [] state g l = (refl, tt)
clauses-sized (c ∷ b) state g l =
    let f = c.head ∷ c.body in
    let opened = after state (Clause (length c.body)) in
    let q = counts-nodes opened (flat f) in
    let fit = g.0.fitting in (
      lt-ltb state.clauses 512 (omega arith),
      nodes-back Book (book_records b) opened (flat f)
          (record { size = omega (arith, fit.size, flat-size f); below = fit.below; later = clauses-sized b (reach opened (node_records (flat f))) g.1 (omega (arith, q.clauses)) }),
    )

-- Goals

pub goal_nodes : (g : Next.Goal) → (reach start (goal_records g)).nodes ≡ nodes g
unfolding after
goal_nodes g = omega (arith, (counts-nodes (after start (Goal (length g))) (flat g)).nodes, flat-size g)

pub goal-held : (g : Next.Goal) → Formed 512 g → Sized Query start (goal_records g) → GoodGoal g
unfolding after
goal-held g f s =
    let opened = after start (Goal (length g)) in
    let k = nodes-sized Query [] opened (flat g) (subst (Sized Query opened) (inv (append-nil (node_records (flat g)))) s.1) in
    (goal_iff g).1 (f, omega (arith, k.size, flat-size g), k.below)

pub goal-sized : (g : Next.Goal) → GoodGoal g → Sized Query start (goal_records g)
unfolding is_in_size after
goal-sized g good =
    let opened = after start (Goal (length g)) in
    let fit = good.fitting in
    (refl, subst (Sized Query opened) (append-nil (node_records (flat g))) (nodes-back Query [] opened (flat g) (record { size = omega (arith, fit.size, flat-size g); below = fit.below; later = tt })))
