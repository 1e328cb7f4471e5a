-- How many distinct predicates and constants a book has (document 02, C-20): a predicate is a number with an arity, in heads and bodies; a constant is a number.
use Rattle.std.specs.Prelude.{ℕ, ◌≡◌, ◌↔◌, Bool, false, ◌&&◌, ◌||◌, List, [], ◌∷◌, ◌++◌, length, eqb}
use Rattle.terms.specs.Node.{constant, compound, predicate, var, sym, Expr}
use Rattle.terms.specs.When.{◌⇒◌∣◌}
use Rattle.loops.proofs.Finite.{Listed}
use Rattle.search.specs.Next as Next
use Rattle.words.specs.Flat.{flat}
use Rattle.format.specs.Arities.{Use, book_uses}

-- What "how many distinct" means

-- no two of the list are the same
abbrev pub Apart : {A : Type 0} → List A → Type 0
Apart [] = Unit {0}
Apart (x ∷ xs) = (Listed x xs → ⊥) × Apart xs

-- n distinct things stand in the list: some list without repeats has just the same members, and n of them
pub record Count {A : Type 0} (xs : List A) (n : ℕ) : Type 0 where
  pub list : List A
  pub apart : Apart list
  pub members : (x : A) → Listed x list ↔ Listed x xs
  pub count : length list ≡ n

-- The numbers, computed

module _ {A : Type 0} (same : A → A → Bool) where
  abbrev pub among : A → List A → Bool
  among x [] = false
  among x (y ∷ ys) = same x y || among x ys

  -- each at its last appearance
  abbrev pub distinct : List A → List A
  distinct [] = []
  distinct (x ∷ xs) = among x xs ⇒ distinct xs ∣ x ∷ distinct xs

abbrev pub same_use : Use → Use → Bool
same_use u v = eqb u.number v.number && eqb u.arity v.arity

abbrev pub node_constants : Expr → List ℕ
node_constants [] = []
node_constants (var v ∷ e) = node_constants e
node_constants (sym (constant c) ∷ e) = c ∷ node_constants e
node_constants (sym (compound f n) ∷ e) = node_constants e
node_constants (sym (predicate p n) ∷ e) = node_constants e

abbrev pub constants_in : Next.Book → List ℕ
constants_in [] = []
constants_in (c ∷ b) = node_constants (flat (c.head ∷ c.body)) ++ constants_in b

unfoldable pub book_predicates : Next.Book → ℕ
book_predicates b = length (distinct same_use (book_uses b))

unfoldable pub book_constants : Next.Book → ℕ
book_constants b = length (distinct eqb (constants_in b))
