-- The symbols that stand in a book: each has its name among the names of the text, and renumbering goes by them alone.
use Rattle.std.specs.Prelude.{ℕ, ◌≡◌, refl, true, false}
use Rattle.std.proofs.Common.{sym as inv, ap, ap₂, ◌∙◌, inl, inr, arith}
use mathlib.Core.List.{List, [], ◌∷◌, ◌++◌, head-eq_of_cons-eq, tail-eq_of_cons-eq}
use Rattle.terms.specs.Cases.{cases}
use Rattle.terms.specs.Node.{constant, compound, predicate, Node, var, sym, Expr}
use Rattle.search.specs.Next as Next
use Rattle.words.specs.Flat.{flat}
use Rattle.format.specs.Format.{GoodClauses}
use Rattle.grammar.specs.Names.{Sort, Constant, Compound, Predicate, symbol_for, same_name, place, within, grow, is_sort, names_after, text_spots, names}
use Rattle.grammar.specs.NameLaws.{same_true}
use Rattle.grammar.specs.GrowLaws.{within-after, within_grown, is-sort_self}
use Rattle.printing.specs.Named.{Naming, named_rules}
use Rattle.printing.specs.NamedLaws.{spots, spots-append, formulas_spotted}
use Rattle.printing.specs.Renumbered.{Renumbering, renumber_node, renumber, renumber_goal, renumber_clause, renumber_book, Uses, book_nodes, OneToOne}
use Rattle.printing.proofs.RenumberLaws.{places}

pub uses-left : (k : Sort) (n : ℕ) (d e : Expr) → Uses k n d → Uses k n (d ++ e)
uses-left k n [] e u = absurd u
uses-left k n (x ∷ d) e (inl p) = inl p
uses-left k n (x ∷ d) e (inr u) = inr (uses-left k n d e u)

pub uses-right : (k : Sort) (n : ℕ) (d e : Expr) → Uses k n e → Uses k n (d ++ e)
uses-right k n [] e u = u
uses-right k n (x ∷ d) e u = inr (uses-right k n d e u)

-- The names of the printed text

book-spots : (name : Naming) (b : Next.Book) → GoodClauses b → text_spots (named_rules name b) ≡ spots name (book_nodes b)
book-spots name [] h = refl
book-spots name (c ∷ b) h =
    ap₂ ◌++◌ (formulas_spotted name (c.head ∷ c.body) h.0.formulas) (book-spots name b h.1)
    ∙ inv (spots-append name (flat (c.head ∷ c.body)) (book_nodes b))

pub names_are : (name : Naming) (b : Next.Book) → GoodClauses b → (k : Sort) → names (named_rules name b) k ≡ names_after k [] (spots name (book_nodes b))
names_are name b h k = ap (names_after k []) (book-spots name b h)

-- what a symbol makes of the names seen
pub spot-names : (k : Sort) (name : Naming) (seen : List (List ℕ)) (j : Sort) (n a : ℕ) (e : Expr) → names_after k seen (spots name (sym (symbol_for j n a) ∷ e)) ≡
    names_after k (elim (is_sort k j) [ true ↦ grow seen (name j n) | false ↦ seen ]) (spots name e)
spot-names k name seen Constant n a e = cases (is_sort k Constant) (λ t. rw t) (λ t. rw t)
spot-names k name seen Compound n a e = cases (is_sort k Compound) (λ t. rw t) (λ t. rw t)
spot-names k name seen Predicate n a e = cases (is_sort k Predicate) (λ t. rw t) (λ t. rw t)

-- any node
more-names : (k : Sort) (name : Naming) (seen : List (List ℕ)) (x : Node) (e : Expr) → (more : List (List ℕ)) × (names_after k seen (spots name (x ∷ e)) ≡ names_after k more (spots name e))
more-names k name seen (var v) e = (seen, refl)
more-names k name seen (sym (constant c)) e = (_, refl)
more-names k name seen (sym (compound f n)) e = (_, refl)
more-names k name seen (sym (predicate p n)) e = (_, refl)

pub used-named : (k : Sort) (name : Naming) (n : ℕ) (seen : List (List ℕ)) (e : Expr) → Uses k n e → within (name k n) (names_after k seen (spots name e)) ≡ true
used-named k name n seen [] u = absurd u
used-named k name n seen (x ∷ e) (inl (a, p)) =
    rw p (ap (within (name k n)) (spot-names k name seen k n a e) ∙ rw (is-sort_self k) (within-after k (name k n) (grow seen (name k n)) (spots name e) (within_grown (name k n) seen)))
used-named k name n seen (x ∷ e) (inr u) =
    let m = more-names k name seen x e in
    ap (within (name k n)) m.1 ∙ used-named k name n m.0 e u

-- names that are there have places of their own
place-one : (v w : List ℕ) (l : List (List ℕ)) → within v l ≡ true → within w l ≡ true → place v l ≡ place w l → v ≡ w
place-one v w [] p q e = let z : ◌≡◌ {A = ℕ} 0 1 = cc in absurd (omega arith)
place-one v w (u ∷ l) p q e =
    cases (same_name v u)
    (λ s. cases (same_name w u) (λ t. same_true v u s ∙ inv (same_true w u t)) (λ t. let z : 0 ≡ _ = rw (s, t) at e in absurd (omega arith)))
    (λ s. cases (same_name w u) (λ t. let z : _ ≡ 0 = rw (s, t) at e in absurd (omega arith)) (λ t. place-one v w l (rw s at p) (rw t at q) (let z = rw (s, t) at e in omega arith)))

-- "a name shared by two symbols of one sort" is in no list that is printed with
abbrev pub Distinct : Naming → Expr → Type 0
Distinct name e = (k : Sort) (m n : ℕ) → Uses k m e → Uses k n e → name k m ≡ name k n → m ≡ n

pub places-one : (name : Naming) (b : Next.Book) → GoodClauses b → Distinct name (book_nodes b) → OneToOne (places name (names (named_rules name b))) (book_nodes b)
places-one name b h d k m n u v e =
    let l = names_after k [] (spots name (book_nodes b)) in
    let q : place (name k m) l ≡ place (name k n) l = rw (names_are name b h k) at e in
    d k m n u v (place-one (name k m) (name k n) l (used-named k name m [] (book_nodes b) u) (used-named k name n [] (book_nodes b) v) q)

-- Numbers that stay

abbrev clause_from : Expr → Next.Goal → Next.Clause
clause_from f g = record { head = f; body = g }

module _ (ρ : Renumbering) where
  abbrev Stay : Expr → Type 0
  Stay e = (k : Sort) (n : ℕ) → Uses k n e → ρ k n ≡ n

  stay-node : (x : Node) → ((k : Sort) (n a : ℕ) → x ≡ sym (symbol_for k n a) → ρ k n ≡ n) → renumber_node ρ x ≡ x
  stay-node (var v) h = refl
  stay-node (sym (constant c)) h = rw (h Constant c 0 refl)
  stay-node (sym (compound f n)) h = rw (h Compound f n refl)
  stay-node (sym (predicate p n)) h = rw (h Predicate p n refl)

  stays : (e : Expr) → Stay e → renumber ρ e ≡ e
  stays [] h = refl
  stays (x ∷ e) h = ap₂ (λ (y : Node) (r : Expr). y ∷ r) (stay-node x (λ k n a p. h k n (inl (a, p)))) (stays e (λ k n u. h k n (inr u)))

  stays-goal : (g : Next.Goal) → Stay (flat g) → renumber_goal ρ g ≡ g
  stays-goal [] h = refl
  stays-goal (f ∷ g) h =
      ap₂ (λ (y : Expr) (r : Next.Goal). y ∷ r) (stays f (λ k n u. h k n (uses-left k n f (flat g) u))) (stays-goal g (λ k n u. h k n (uses-right k n f (flat g) u)))

  stays-clause : (c : Next.Clause) → Stay (flat (c.head ∷ c.body)) → renumber_clause ρ c ≡ c
  stays-clause c h =
      let p = stays-goal (c.head ∷ c.body) h in
      ap₂ clause_from (head-eq_of_cons-eq p) (tail-eq_of_cons-eq p)

  pub stays-book : (b : Next.Book) → Stay (book_nodes b) → renumber_book ρ b ≡ b
  stays-book [] h = refl
  stays-book (c ∷ b) h =
      let e = flat (c.head ∷ c.body) in
      ap₂ (λ (y : Next.Clause) (r : Next.Book). y ∷ r) (stays-clause c (λ k n u. h k n (uses-left k n e (book_nodes b) u))) (stays-book b (λ k n u. h k n (uses-right k n e (book_nodes b) u)))
