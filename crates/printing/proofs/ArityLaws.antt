-- Renumbered one to one, a book's predicates keep one arity each (document 02, C-18).
use Rattle.std.specs.Prelude.{ℕ, ◌≡◌, refl, List, [], ◌∷◌, ◌++◌}
use Rattle.std.proofs.Common.{sym as inv, ap, ap₂, ◌∙◌, subst, inl, inr}
use Rattle.terms.specs.Node.{constant, compound, predicate, var, sym, Expr}
use Rattle.search.specs.Next as Next
use Rattle.words.specs.Flat.{flat}
use Rattle.format.specs.Arities.{Use, use_of, node_uses, book_uses, Used, OneArity}
use Rattle.grammar.specs.Names.{Predicate}
use Rattle.printing.specs.Renumbered.{Renumbering, renumber, renumber_book, Uses, book_nodes, OneToOne}
use Rattle.printing.specs.ImageLaws.{renumber-append, flat-renumber}

pub uses-append : (d e : Expr) → node_uses (d ++ e) ≡ node_uses d ++ node_uses e
uses-append [] e = refl
uses-append (var v ∷ d) e = uses-append d e
uses-append (sym (constant c) ∷ d) e = uses-append d e
uses-append (sym (compound f n) ∷ d) e = uses-append d e
uses-append (sym (predicate p n) ∷ d) e = ap (λ (l : List Use). use_of p n ∷ l) (uses-append d e)

nodes-used : (b : Next.Book) → node_uses (book_nodes b) ≡ book_uses b
nodes-used [] = refl
nodes-used (c ∷ b) =
    let e = flat (c.head ∷ c.body) in
    uses-append e (book_nodes b) ∙ ap (λ (l : List Use). node_uses e ++ l) (nodes-used b)

module _ (ρ : Renumbering) where
  -- what a number's use was before
  record Before (e : Expr) (p n : ℕ) : Type 0 where
    number : ℕ
    used : Used number n (node_uses e)
    stands : Uses Predicate number e
    is : ρ Predicate number ≡ p

  before : (e : Expr) (p n : ℕ) → Used p n (node_uses (renumber ρ e)) → Before e p n
  before [] p n u = absurd u
  before (var v ∷ e) p n u = let b = before e p n u in record { number = b.number; used = b.used; stands = inr b.stands; is = b.is }
  before (sym (constant c) ∷ e) p n u = let b = before e p n u in record { number = b.number; used = b.used; stands = inr b.stands; is = b.is }
  before (sym (compound f a) ∷ e) p n u = let b = before e p n u in record { number = b.number; used = b.used; stands = inr b.stands; is = b.is }
  before (sym (predicate q a) ∷ e) p n (inl u) = record { number = q; used = inl (refl, u.1); stands = inl (a, refl); is = u.0 }
  before (sym (predicate q a) ∷ e) p n (inr u) = let b = before e p n u in record { number = b.number; used = inr b.used; stands = inr b.stands; is = b.is }

  nodes-one : (e : Expr) → OneToOne ρ e → OneArity (node_uses e) → OneArity (node_uses (renumber ρ e))
  nodes-one e i o p n m u v =
      let a = before e p n u in
      let b = before e p m v in
      o b.number n m (subst (λ (x : ℕ). Used x n (node_uses e)) (i Predicate a.number b.number a.stands b.stands (a.is ∙ inv b.is)) a.used) b.used

  nodes-renumber : (b : Next.Book) → book_nodes (renumber_book ρ b) ≡ renumber ρ (book_nodes b)
  nodes-renumber [] = refl
  nodes-renumber (c ∷ b) =
      ap₂ (λ (d e : Expr). d ++ e) (flat-renumber ρ (c.head ∷ c.body)) (nodes-renumber b) ∙ inv (renumber-append ρ (flat (c.head ∷ c.body)) (book_nodes b))

  pub renumbered-one : (b : Next.Book) → OneToOne ρ (book_nodes b) → OneArity (book_uses b) → OneArity (book_uses (renumber_book ρ b))
  renumbered-one b i o =
      subst OneArity (ap node_uses (inv (nodes-renumber b)) ∙ nodes-used (renumber_book ρ b)) (nodes-one (book_nodes b) i (subst OneArity (inv (nodes-used b)) o))
