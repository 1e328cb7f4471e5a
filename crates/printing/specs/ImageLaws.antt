-- A renumbered book has an image of the same length.
use Rattle.std.specs.Prelude.{ℕ, suc, ◌≡◌, refl, List, [], ◌∷◌, ◌++◌, length}
use Rattle.std.proofs.Common.{sym as inv, ap, ◌∙◌, append_assoc, arith, length-append}
use Rattle.terms.specs.Node.{constant, compound, predicate, Node, var, sym, Expr}
use Rattle.search.specs.Next as Next
use Rattle.words.specs.Flat.{flat}
use Rattle.format.specs.declared.Record.{Record}
use Rattle.format.specs.Format.{node_record, node_records, encode_record, encode, clause_records, book_records, encode_book}
use Rattle.printing.specs.Renumbered.{Renumbering, renumber_node, renumber, renumber_goal, renumber_clause, renumber_book}

-- how many bytes records have
abbrev long : List Record → ℕ
long rs = length (encode rs)

encode-append : (a b : List Record) → encode (a ++ b) ≡ encode a ++ encode b
encode-append [] b = refl
encode-append (r ∷ a) b = ap (λ (l : List ℕ). encode_record r ++ l) (encode-append a b) ∙ inv (append_assoc (encode_record r) (encode a) (encode b))

module _ (ρ : Renumbering) where
  pub renumber-append : (d e : Expr) → renumber ρ (d ++ e) ≡ renumber ρ d ++ renumber ρ e
  renumber-append [] e = refl
  renumber-append (x ∷ d) e = ap (λ (l : Expr). renumber_node ρ x ∷ l) (renumber-append d e)

  pub flat-renumber : (g : Next.Goal) → flat (renumber_goal ρ g) ≡ renumber ρ (flat g)
  flat-renumber [] = refl
  flat-renumber (f ∷ g) = ap (λ (l : Expr). renumber ρ f ++ l) (flat-renumber g) ∙ inv (renumber-append f (flat g))

  goal-length : (g : Next.Goal) → length (renumber_goal ρ g) ≡ length g
  goal-length [] = refl
  goal-length (f ∷ g) = ap suc (goal-length g)

  node-long : (x : Node) → length (encode_record (node_record (renumber_node ρ x))) ≡ length (encode_record (node_record x))
  node-long (var v) = refl
  node-long (sym (constant c)) = refl
  node-long (sym (compound f n)) = refl
  node-long (sym (predicate p n)) = refl

  nodes-long : (e : Expr) → long (node_records (renumber ρ e)) ≡ long (node_records e)
  nodes-long [] = refl
  nodes-long (x ∷ e) =
      omega (arith, node-long x, nodes-long e, length-append (encode_record (node_record (renumber_node ρ x))) (encode (node_records (renumber ρ e))), length-append (encode_record (node_record x)) (encode (node_records e)))

  clause-long : (c : Next.Clause) → long (clause_records (renumber_clause ρ c)) ≡ long (clause_records c)
  clause-long c =
      omega (arith, ap (λ (e : Expr). long (node_records e)) (flat-renumber (c.head ∷ c.body)), nodes-long (flat (c.head ∷ c.body)))

  pub book-long : (b : Next.Book) → length (encode_book (renumber_book ρ b)) ≡ length (encode_book b)
  book-long [] = refl
  book-long (c ∷ b) =
      let r = clause_records (renumber_clause ρ c) in
      let s = clause_records c in
      omega (arith, clause-long c, book-long b, ap length (encode-append r (book_records (renumber_book ρ b))), ap length (encode-append s (book_records b)), length-append (encode r) (encode_book (renumber_book ρ b)), length-append (encode s) (encode_book b))
