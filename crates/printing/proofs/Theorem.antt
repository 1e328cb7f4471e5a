-- What is printed is read again (document 02, C-14): "Reading the text gives the same book if its symbols are already numbered as C-13 would; otherwise the same
-- book up to a one-to-one renumbering of symbols."
use Rattle.std.specs.Prelude.{ℕ, ◌≤◌, ◌<◌, ◌≡◌, refl, List, [], length}
use Rattle.std.proofs.Common.{sym as inv, ap, ◌∙◌, subst, inl, inr, arith}
use Rattle.search.specs.Next as Next
use Rattle.format.specs.Format.{GoodBook, encode_book}
use Rattle.grammar.specs.Syntax.{Rule}
use Rattle.grammar.specs.Names.{Sort, place, text_spots, names, book, name_list}
use Rattle.grammar.specs.Reading.{Sized, Reading, reading-one}
use Rattle.printing.proofs.SpacingLaws.{text-writes}
use Rattle.printing.specs.Named.{Naming, named_rules, printed}
use Rattle.printing.specs.Renumbered.{Renumbering, renumber_book, Uses, book_nodes, OneToOne}
use Rattle.printing.proofs.RenumberLaws.{places, book-numbered}
use Rattle.printing.proofs.UseLaws.{names_are, Distinct, places-one, stays-book}
use Rattle.printing.proofs.OrderLaws.{Coded, book-coded, used_low, all-used, same_names, place-stays}
use Rattle.printing.proofs.SizeLaws.{rules-small, rules-right, rules-length}
use Rattle.printing.specs.Fit.{AllFit}
use Rattle.printing.specs.ImageLaws.{book-long}

-- a good book, whose symbols have names of C-13's form, no two of one sort the same
module _ (name : Naming) (b : Next.Book) (good : GoodBook b) (fit : AllFit name (book_nodes b)) (distinct : Distinct name (book_nodes b)) where
  abbrev rules : List Rule
  rules = named_rules name b

  -- by the places of their names among those of the text
  abbrev pub renumbering : Renumbering
  renumbering = places name (names rules)

  pub read-renumbered : book rules ≡ renumber_book renumbering b
  read-renumbered = book-numbered name (names rules) b good.clauses

  sized : Sized rules
  sized =
      record {
        few = omega (arith, rules-length name b, good.few);
        rules = rules-small name b good.clauses fit;
        bytes = omega (arith, ap (λ (c : Next.Book). length (encode_book c)) read-renumbered, book-long renumbering b, good.short);
      }

  pub printed-reads : length (printed name b) ≤ 65536 → Reading (printed name b) (book rules) (name_list rules)
  printed-reads short =
      record { rules = rules; writes = text-writes rules (rules-right name b good.clauses fit); sized = sized; short = short; book_is = refl; list_is = refl }

  -- whatever is read from the printed text is the book, renumbered one to one
  pub printed-back : {c : Next.Book} {list : List ℕ} → Reading (printed name b) c list → (c ≡ renumber_book renumbering b) × OneToOne renumbering (book_nodes b)
  printed-back r = ((reading-one r (printed-reads r.short)).0 ∙ read-renumbered, places-one name b good.clauses distinct)

  -- "already numbered as C-13 would": as the book of some text's rules
  module _ (cs : List Rule) (is : b ≡ book cs) where
    coded : Coded (names cs) (text_spots cs) (book_nodes b)
    coded = subst (λ (c : Next.Book). Coded (names cs) (text_spots cs) (book_nodes c)) (inv is) (book-coded (names cs) cs)

    pub low-one : (k : Sort) (v w : ℕ) → v < length (names cs k) → w < length (names cs k) → name k v ≡ name k w → v ≡ w
    low-one k v w p q e = distinct k v w (used v p) (used w q) e
      where
        used : (n : ℕ) → n < length (names cs k) → Uses k n (book_nodes b)
        used n l = elim (all-used k (names cs) n [] coded refl l) [ inl h ↦ absurd (none h) | inr u ↦ u ]
          where
            none : n < 0 → ⊥
            none h = omega arith

    number-stays : (k : Sort) (n : ℕ) → Uses k n (book_nodes b) → renumbering k n ≡ n
    number-stays k n u =
        ap (place (name k n)) (names_are name b good.clauses k ∙ same_names k (names cs) name (low-one k) [] coded refl)
        ∙ place-stays k (names cs) name (low-one k) n (used_low k (names cs) n [] coded refl u)

    pub printed-same : {c : Next.Book} {list : List ℕ} → Reading (printed name b) c list → c ≡ b
    printed-same r = (printed-back r).0 ∙ stays-book renumbering b number-stays
