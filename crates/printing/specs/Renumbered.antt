-- "the same book up to a one-to-one renumbering of symbols" (document 02, C-14), sort by sort.
use Rattle.std.specs.Prelude.{ℕ, ◌≡◌, ◌⊎◌, [], ◌∷◌, ◌++◌}
use Rattle.terms.specs.Node.{constant, compound, predicate, Node, var, sym, Expr}
use Rattle.search.specs.Next as Next
use Rattle.words.specs.Flat.{flat}
use Rattle.grammar.specs.Names.{Sort, Constant, Compound, Predicate, symbol_for}

abbrev pub Renumbering : Type 0
Renumbering = Sort → ℕ → ℕ

module _ (ρ : Renumbering) where
  abbrev pub renumber_node : Node → Node
  renumber_node (var v) = var v
  renumber_node (sym (constant c)) = sym (constant (ρ Constant c))
  renumber_node (sym (compound f n)) = sym (compound (ρ Compound f) n)
  renumber_node (sym (predicate p n)) = sym (predicate (ρ Predicate p) n)

  abbrev pub renumber : Expr → Expr
  renumber [] = []
  renumber (x ∷ e) = renumber_node x ∷ renumber e

  abbrev pub renumber_goal : Next.Goal → Next.Goal
  renumber_goal [] = []
  renumber_goal (f ∷ g) = renumber f ∷ renumber_goal g

  abbrev pub renumber_clause : Next.Clause → Next.Clause
  renumber_clause c = record { head = renumber c.head; body = renumber_goal c.body }

  abbrev pub renumber_book : Next.Book → Next.Book
  renumber_book [] = []
  renumber_book (c ∷ b) = renumber_clause c ∷ renumber_book b

-- the symbol of this sort and number stands in e, with some arity
abbrev pub Uses : Sort → ℕ → Expr → Type 0
Uses k n [] = ⊥
Uses k n (x ∷ e) = ((a : ℕ) × (x ≡ sym (symbol_for k n a))) ⊎ Uses k n e

abbrev pub book_nodes : Next.Book → Expr
book_nodes [] = []
book_nodes (c ∷ b) = flat (c.head ∷ c.body) ++ book_nodes b

-- no two symbols of one sort, of those that stand in e, get one number
abbrev pub OneToOne : Renumbering → Expr → Type 0
OneToOne ρ e = (k : Sort) (m n : ℕ) → Uses k m e → Uses k n e → ρ k m ≡ ρ k n → m ≡ n
