-- A size is passed, and a number above the next unused one, just where the reader finds it so.
use Prim.Native.Nat.{ℕ, ◌+◌, ◌≤◌, ◌<◌}
use native.Mathlib.Omega.{arith}
use borrow.Author.Tests.{lt-leb, leb-false, le-ltb, ltb-false}
use mathlib.Core.Path.{◌≡◌, refl, sym as inv, ap, subst}
use mathlib.Core.Logic.{◌↔◌}
use mathlib.Core.Bool.{Bool, true, false, ◌&&◌}
use mathlib.Core.List.{List, [], ◌∷◌, ◌++◌, append-nil, append_assoc}
use lib.ListN.{length}
use lib.Dec.{ltb}
use Rattle.terms.specs.Cases.{cases}
use Rattle.terms.specs.Node.{constant, compound, predicate, Node, var, sym}
use Rattle.format.specs.declared.State.{State}
use Rattle.format.specs.declared.Form.{Form}
use Rattle.format.specs.declared.Form.TheVariants.{Book, Query}
use Rattle.format.specs.declared.Record.{Record}
use Rattle.format.specs.declared.Record.TheVariants.{Variable, Constant, Compound, Formula, Clause, Goal, End}
use Rattle.format.specs.Reading.{node_limit, variable_limit, allowed, is_in_size, is_in_order, after, start}
use Rattle.format.specs.Format.{record_kind, node_record}
use Rattle.format.specs.Faulty.{pair, SizePassed, clause_passed, node_passed, variable_passed, NextUnused, NumberAbove, WithinSizes}
use Rattle.format.proofs.Items.{NarrowRecord, Allowed, allowed-is}
use Rattle.format.proofs.Stepping.{for-term, for-formula, for-book}
use Rattle.format.proofs.Beginnings.{reach, Reads, reads-front}
use Rattle.format.proofs.Told.{since, ends-since, Told, told-start, told-next, told}

node-limit : (form : Form) → node_limit form ≡ pair form 256 4096
node-limit Book = refl
node-limit Query = refl

no_and : (a b : Bool) → b ≡ false → (a && b) ≡ false
no_and true b e = e
no_and false b e = refl

module _ (form : Form) (rs : List Record) (state : State) (k : Told form rs state) where
  -- Sizes.

  too_many : (x : Node) → node_limit form ≤ state.nodes → is_in_size form state (node_record x) ≡ false
  unfolding is_in_size
  too_many (var v) h = simp (le-ltb state.nodes (node_limit form) h)
  too_many (sym (constant c)) h = le-ltb state.nodes (node_limit form) h
  too_many (sym (compound f n)) h = le-ltb state.nodes (node_limit form) h
  too_many (sym (predicate p n)) h = le-ltb state.nodes (node_limit form) h

  passed-size : (r : Record) → SizePassed form rs r → is_in_size form state r ≡ false
  unfolding is_in_size
  passed-size r (clause_passed n b q h) = rw q (le-ltb state.clauses 512 (omega (arith, k.clauses b)))
  passed-size r (node_passed x e q i h) = rw q (too_many x (omega (arith, node-limit form, k.nodes, ap length (ends-since i))))
  passed-size r (variable_passed v b q h) = rw (q, b) (no_and (ltb state.nodes 256) (ltb v 64) (le-ltb v 64 h))

  many : (x : Node) → 0 < state.terms + state.formulas → ltb state.nodes (node_limit form) ≡ false → SizePassed form rs (node_record x)
  many x i e = node_passed x (since [] rs) refl (k.inside i) (omega (arith, node-limit form, k.nodes, ltb-false state.nodes (node_limit form) e))

  high : (f : Form) (v : ℕ) → form ≡ f → v < 65536 → variable_limit f ≤ v → SizePassed form rs (Variable v)
  high Book v e n h = variable_passed v e refl h
  high Query v e n h = absurd (omega arith)

  size_passed : (r : Record) → Allowed form state (record_kind r) → NarrowRecord r → is_in_size form state r ≡ false → SizePassed form rs r
  unfolding is_in_size
  size_passed (Variable v) a n e =
      cases (ltb state.nodes (node_limit form))
      (λ t. high form v refl n (ltb-false v (variable_limit form) (simp t at e)))
      (λ t. many (var v) (omega (arith, for-term form state 1 a (omega arith))) t)
  size_passed (Constant c) a n e = many (sym (constant c)) (omega (arith, for-term form state 2 a (omega arith))) e
  size_passed (Compound f m) a n e = many (sym (compound f m)) (omega (arith, for-term form state 3 a (omega arith))) e
  size_passed (Formula p m) a n e = many (sym (predicate p m)) (omega (arith, (for-formula form state 4 a refl).1)) e
  size_passed (Clause m) a n e =
      let b = (for-book form state 5 a (omega arith) (λ z. omega arith)).3 in
      clause_passed m b refl (omega (arith, k.clauses b, ltb-false state.clauses 512 e))
  size_passed (Goal m) a n e = absurd (cc)
  size_passed End a n e = absurd (cc)

  pub size_iff : (r : Record) → allowed form state (record_kind r) ≡ true → NarrowRecord r → SizePassed form rs r ↔ (is_in_size form state r ≡ false)
  size_iff r a n = (passed-size r, size_passed r (allowed-is form state (record_kind r) a) n)

  -- Variable numbers.

  unused : (n : ℕ) → NextUnused (since [] rs) n → n ≡ state.variables
  unused n u =
      let least : state.variables < n → ⊥ = λ h. omega (arith, (k.variables state.variables).0 (u.used state.variables h)) in
      let most : n < state.variables → ⊥ = λ h. u.unused ((k.variables n).1 h) in
      omega arith

  above : (r : Record) → NumberAbove rs r → is_in_order state r ≡ false
  unfolding is_in_order
  above r a =
      let u : NextUnused (since [] rs) a.next = subst (λ e. NextUnused e a.next) (ends-since a.since) a.unused in
      rw a.is (lt-leb a.number state.variables (omega (arith, unused a.next u, a.above)))

  not-in_order : (r : Record) → Allowed form state (record_kind r) → is_in_order state r ≡ false → NumberAbove rs r
  unfolding is_in_order
  not-in_order (Variable v) a e =
      record {
        nodes = since [] rs;
        next = state.variables;
        number = v;
        is = refl;
        since = k.inside (omega (arith, for-term form state 1 a (omega arith)));
        unused = record { unused = λ i. omega (arith, (k.variables state.variables).0 i); used = λ w h. (k.variables w).1 h };
        above = leb-false v state.variables e;
      }
  not-in_order (Constant c) a e = absurd (cc)
  not-in_order (Compound f n) a e = absurd (cc)
  not-in_order (Formula p n) a e = absurd (cc)
  not-in_order (Clause n) a e = absurd (cc)
  not-in_order (Goal n) a e = absurd (cc)
  not-in_order End a e = absurd (cc)

  pub number_iff : (r : Record) → allowed form state (record_kind r) ≡ true → NumberAbove rs r ↔ (is_in_order state r ≡ false)
  number_iff r a = (above r, not-in_order r (allowed-is form state (record_kind r) a))

-- Sizes all along.

abbrev pub Sized : Form → State → List Record → Type 0
Sized form state [] = Unit
Sized form state (r ∷ rs) = (is_in_size form state r ≡ true) × Sized form (after state r) rs

module _ (form : Form) where
  sized-all : (rs more : List Record) (state : State) → Told form rs state → Reads form state more →
      ((a : List Record) (r : Record) (b : List Record) → more ≡ a ++ r ∷ b → SizePassed form (rs ++ a) r → ⊥) → Sized form state more
  sized-all rs [] state k f no_size = tt
  sized-all rs (x ∷ more) state k f no_size = (
    cases (is_in_size form state x) (λ e. e)
        (λ e. absurd (no_size [] x more refl (subst (λ (l : List Record). SizePassed form l x) (inv (append-nil rs)) ((size_iff form rs state k x f.0.kind f.0.narrow).1 e)))),
    sized-all (rs ++ x ∷ []) more (after state x) (told-next form rs state x k f.0) f.1
        (λ a r b q p. no_size (x ∷ a) r b (ap (λ (l : List Record). x ∷ l) q) (subst (λ (l : List Record). SizePassed form l r) (append_assoc rs (x ∷ []) a) p)),
  )

  pub sized-back : (state : State) (a b : List Record) → Sized form state a → Sized form (reach state a) b → Sized form state (a ++ b)
  sized-back state [] b r q = q
  sized-back state (x ∷ a) b r q = (r.0, sized-back (after state x) a b r.1 q)

  sized-at : (state : State) (a : List Record) (r : Record) (b : List Record) → Sized form state (a ++ r ∷ b) → is_in_size form (reach state a) r ≡ true
  sized-at state [] r b s = s.0
  sized-at state (x ∷ a) r b s = sized-at (after state x) a r b s.1

  pub sizes_iff : (rs : List Record) → Reads form start rs → WithinSizes form rs ↔ Sized form start rs
  sizes_iff rs f = (sized-all [] rs start (told-start form) f, keeps)
    where
      keeps : Sized form start rs → WithinSizes form rs
      keeps s a r b q p =
          let g = reads-front form start a (r ∷ b) (subst (Reads form start) q f) in
          let t = sized-at start a r b (subst (Sized form start) q s) in
          let u = (size_iff form a (reach start a) (told form a g.0) r g.1.0.kind g.1.0.narrow).0 p in
          cc
