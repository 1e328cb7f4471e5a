-- A good flat query by its good flat book: its path stays flat and keeps the symbols of the two, and its run without limits closes.
use Prim.Native.Nat.{ℕ, ◌+◌, ◌*◌, ◌^◌, ◌≤◌}
use native.Mathlib.Nat.{zero-add}
use mathlib.Core.Path.{◌≡◌, refl, sym as inv, ap, subst, ◌∙◌}
use mathlib.Core.Logic.{inl, inr}
use mathlib.Core.Option.{some}
use mathlib.Core.List.{List, [], ◌∷◌, ◌++◌, map}
use lib.ListN.{length}
use lib.Dec.{eqb}
use Rattle.terms.specs.Node.{Symbol, constant, compound, predicate, arity, var, sym, Expr}
use Rattle.terms.specs.Row.{Row, row_end, row_var, row_sym}
use Rattle.terms.specs.Substitution.{Symbols}
use Rattle.loops.proofs.Finite.{Listed}
use Rattle.search.specs.Next as Next
use Rattle.search.specs.Run.{run, goal_at, Roomy}
use Rattle.words.specs.Flat.{flat}
use Rattle.flat.specs.Flat.{ConstantOf, Flat, FlatGoal, IsFlatBook}
use Rattle.flat.specs.FlatLaws.{path-flat}
use Rattle.flat.proofs.Formulas.{listed-left, listed-right, listed-map}
use Rattle.flat.specs.Formulas.{formulas}
use Rattle.flat.proofs.Bound.{formulas-few}
use Rattle.flat.proofs.Theorem.{leftmost}
use Rattle.flat.proofs.Closing as Closing
use Rattle.flat.proofs.Closing.{Settled}
use Rattle.format.specs.declared.Form.TheVariants.{Book}
use Rattle.format.specs.Format.{Terms, terms_none, terms_var, terms_constant, terms_compound, IsFormula, formula, AreFormulas, GoodClauses, GoodBook, GoodGoal, Bytes}
use Rattle.format.specs.Arities.{Use, use_of, node_uses, goal_uses, book_uses}
use Rattle.format.specs.Decode.{book_of, goal_of}
use Rattle.format.proofs.Decoding.{book_of-image, goal_of-image}
use Rattle.format.proofs.Meaning.{one_none}
use Rattle.flatness.proofs.Plain.{PlainNodes, PlainGoal, PlainBook}
use Rattle.flatness.specs.Counts.{distinct, same_use, node_constants, constants_in}
use Rattle.flatness.proofs.CountLaws.{distinct-use, distinct-number}
use Rattle.flatness.specs.Profile.{query_flat}
use Rattle.flatness.proofs.Refusals.{flat-good_iff, query-flat-book, query-flat-good_iff}

abbrev pub symbol_of : Use → Symbol
symbol_of u = predicate u.number u.arity

-- the distinct predicates and the distinct constants of the two
abbrev pub predicates_of : Next.Book → Next.Goal → List Symbol
predicates_of P q = map symbol_of (distinct same_use (book_uses P ++ goal_uses q))

abbrev pub constants_of : Next.Book → Next.Goal → List ℕ
constants_of P q = distinct eqb (constants_in P ++ node_constants (flat q))

-- nodes of two rows

uses-of-two : (a b : Expr) → node_uses (a ++ b) ≡ node_uses a ++ node_uses b
uses-of-two [] b = refl
uses-of-two (var v ∷ a) b = uses-of-two a b
uses-of-two (sym (constant c) ∷ a) b = uses-of-two a b
uses-of-two (sym (compound f n) ∷ a) b = uses-of-two a b
uses-of-two (sym (predicate p n) ∷ a) b = ap (λ (l : List Use). use_of p n ∷ l) (uses-of-two a b)

constants-of-two : (a b : Expr) → node_constants (a ++ b) ≡ node_constants a ++ node_constants b
constants-of-two [] b = refl
constants-of-two (var v ∷ a) b = constants-of-two a b
constants-of-two (sym (constant c) ∷ a) b = ap (λ (l : List ℕ). c ∷ l) (constants-of-two a b)
constants-of-two (sym (compound f n) ∷ a) b = constants-of-two a b
constants-of-two (sym (predicate p n) ∷ a) b = constants-of-two a b

plain-of-two : (a b : Expr) → PlainNodes (a ++ b) → PlainNodes a × PlainNodes b
plain-of-two [] b p = (tt, p)
plain-of-two (var v ∷ a) b p = plain-of-two a b p
plain-of-two (sym (constant c) ∷ a) b p = plain-of-two a b p
plain-of-two (sym (compound f n) ∷ a) b p = absurd p
plain-of-two (sym (predicate q n) ∷ a) b p = plain-of-two a b p

-- among the symbols of two lists
module _ (ps : List Symbol) (cs : List ℕ) where
  abbrev Predicates : List Use → Type 0
  Predicates us = (u : Use) → Listed u us → Listed (symbol_of u) ps

  abbrev Constants : List ℕ → Type 0
  Constants l = (c : ℕ) → Listed c l → Listed c cs

  terms-flat : {n : ℕ} (e : Expr) → Terms n e → PlainNodes e → Constants (node_constants e) → Row n e × Symbols (ConstantOf cs) e
  terms-flat [] terms_none p k = (row_end, tt)
  terms-flat (var v ∷ e) (terms_var l t) p k = let (r, s) = terms-flat e t p k in (row_var r, s)
  terms-flat (sym (constant c) ∷ e) (terms_constant {n = n} l t) p k = let (r, s) = terms-flat e t p (λ d i. k d (inr i)) in (row_sym {n = n} {s = constant c} {e = e} (rw zero-add r), (k c (inl refl), s))
  terms-flat (sym (compound f a) ∷ e) (terms_compound l x y t) p k = absurd p
  terms-flat {n = n} (sym (predicate _ _) ∷ e) x9 p k = elim x9 [ ]

  formula-flat : {f : Expr} → IsFormula f → PlainNodes f → Predicates (node_uses f) → Constants (node_constants f) → Flat ps cs f
  formula-flat (formula {p = p} {a = a} {e = e} l h t) x u k = let (r, s) = terms-flat e t x k in Flat.flat (u (use_of p a) (inl refl)) r s

  goal-flat : (g : Next.Goal) → AreFormulas g → PlainGoal g → Predicates (goal_uses g) → Constants (node_constants (flat g)) → FlatGoal ps cs g
  goal-flat [] a p u k = tt
  goal-flat (f ∷ g) a p u k =
      let x = plain-of-two f (flat g) p in
      let us = inv (uses-of-two f (flat g)) in
      let ks = inv (constants-of-two f (flat g)) in (
        formula-flat a.0 x.0 (λ v i. u v (subst (Listed v) us (listed-left v (node_uses f) (node_uses (flat g)) i))) (λ c i. k c (subst (Listed c) ks (listed-left c (node_constants f) (node_constants (flat g)) i))),
        goal-flat g a.1 x.1 (λ v i. u v (subst (Listed v) us (listed-right v (node_uses f) (node_uses (flat g)) i))) (λ c i. k c (subst (Listed c) ks (listed-right c (node_constants f) (node_constants (flat g)) i))),
      )

  book-flat : (b : Next.Book) → GoodClauses b → PlainBook b → Predicates (book_uses b) → Constants (constants_in b) → IsFlatBook ps cs b
  book-flat [] g p u k = tt
  book-flat (c ∷ b) g p u k =
      let h = c.head ∷ c.body in (
        goal-flat h g.0.formulas p.0 (λ v i. u v (listed-left v (goal_uses h) (book_uses b) i)) (λ x i. k x (listed-left x (node_constants (flat h)) (constants_in b) i)),
        book-flat b g.1 p.1 (λ v i. u v (listed-right v (goal_uses h) (book_uses b) i)) (λ x i. k x (listed-right x (node_constants (flat h)) (constants_in b) i)),
      )

among-predicates : (u : Use) (us : List Use) → Listed u us → Listed (symbol_of u) (map symbol_of (distinct same_use us))
among-predicates u us i = listed-map symbol_of u (distinct same_use us) ((distinct-use u us).1 i)

-- and each of them is one of a use
predicate-used : (s : Symbol) (us : List Use) → Listed s (map symbol_of us) → (u : Use) × Listed u us × (s ≡ symbol_of u)
predicate-used s (u ∷ us) (inl e) = (u, inl refl, e)
predicate-used s (u ∷ us) (inr i) = let (v, j, e) = predicate-used s us i in (v, inr j, e)
predicate-used s [] x' = elim x' [ ]

-- Of a good book and a good query without compound terms

module _ (P : Next.Book) (good_book : GoodBook P) (plain_book : PlainBook P) (q : Next.Goal) (good_query : GoodGoal q) (plain_query : PlainGoal q) where
  pub flat_book : IsFlatBook (predicates_of P q) (constants_of P q) P
  flat_book = book-flat (predicates_of P q) (constants_of P q) P good_book.clauses plain_book
      (λ u i. among-predicates u (book_uses P ++ goal_uses q) (listed-left u (book_uses P) (goal_uses q) i)) (λ c i. (distinct-number c (constants_in P ++ node_constants (flat q))).1 (listed-left c (constants_in P) (node_constants (flat q)) i))

  pub flat-query : FlatGoal (predicates_of P q) (constants_of P q) q
  flat-query = goal-flat (predicates_of P q) (constants_of P q) q good_query.formulas plain_query
      (λ u i. among-predicates u (book_uses P ++ goal_uses q) (listed-right u (book_uses P) (goal_uses q) i)) (λ c i. (distinct-number c (constants_in P ++ node_constants (flat q))).1 (listed-right c (constants_in P) (node_constants (flat q)) i))

  -- every goal of the path is flat, of the symbols of the two
  pub path-stays : (t : ℕ) (g : Next.Goal) → goal_at P q t ≡ some g → FlatGoal (predicates_of P q) (constants_of P q) g
  path-stays t g e = path-flat (predicates_of P q) (constants_of P q) P flat_book q flat-query t g e

  -- what stands leftmost is one of so many formulas at most, by the counts of distinct predicates and constants of the two and the largest arity
  pub leftmost-few : (most : ℕ) → ((u : Use) → Listed u (book_uses P ++ goal_uses q) → u.arity ≤ most) →
      (l : List Expr) × (length l ≤ length (predicates_of P q) * (most + length (constants_of P q)) ^ most) × ((t : ℕ) (f : Expr) (g : Next.Goal) → goal_at P q t ≡ some (f ∷ g) → Listed f l)
  leftmost-few most low = (
    formulas (predicates_of P q) (constants_of P q),
    formulas-few most (constants_of P q) (predicates_of P q) (λ s i.
        let (u, j, e) = predicate-used s (distinct same_use (book_uses P ++ goal_uses q)) i in
        subst (λ (x : Symbol). arity x ≤ most) (inv e) (low u ((distinct-use u (book_uses P ++ goal_uses q)).0 j))),
    λ t f g e. leftmost (predicates_of P q) (constants_of P q) P flat_book q flat-query good_query.fitting.numbered f t g e,
  )

  -- so many steps are enough, without limits
  pub enough : ℕ
  enough = Closing.enough (predicates_of P q) (constants_of P q) P flat_book q flat-query good_query.fitting.numbered

  pub run-closes : (budget : ℕ) → enough ≤ budget → Roomy P q enough → Settled (run P budget q).code
  unfolding enough
  run-closes budget l room = Closing.flat-run-closes (predicates_of P q) (constants_of P q) P flat_book q flat-query good_query.fitting.numbered budget l room

  pub never_spent : (budget : ℕ) → enough ≤ budget → (run P budget q).code ≡ 23 → ⊥
  unfolding enough
  never_spent budget l e = Closing.flat_never_spent (predicates_of P q) (constants_of P q) P flat_book q flat-query good_query.fitting.numbered budget l e

-- Of bytes that the flat check of a query takes

pub record FlatPair (P : Next.Book) (q : Next.Goal) : Type 0 where
  pub good_book : GoodBook P
  pub plain_book : PlainBook P
  pub good_query : GoodGoal q
  pub plain_query : PlainGoal q

pub pair_of : (book query : List ℕ) → Bytes book → Bytes query → (query_flat book query).code ≡ 0 → FlatPair (book_of book) (goal_of query)
pair_of book query book-bytes query-bytes z =
    let y = query-flat-book book query z in
    let (b, gb, ob, pb, eb) = (flat-good_iff Book [] one_none book book-bytes).0 y in
    let (g, gg, og, pg, eg) = (query-flat-good_iff book query book-bytes y query-bytes).0 z in
    let sb : b ≡ book_of book = inv (book_of-image b gb) ∙ ap book_of eb in
    let sg : g ≡ goal_of query = inv (goal_of-image g gg) ∙ ap goal_of eg in
    record { good_book = subst GoodBook sb gb; plain_book = subst PlainBook sb pb; good_query = subst GoodGoal sg gg; plain_query = subst PlainGoal sg pg }
