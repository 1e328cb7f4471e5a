-- What a list gives is what it is read as.
use Rattle.std.specs.Prelude.{ℕ, ◌≡◌, true, length, leb}
use Rattle.std.proofs.Math.Path.{sym as inv, ap}
use Rattle.std.proofs.Common.{◌∙◌, arith, le-leb}
use mathlib.Core.List.{List}
use Rattle.grammar.specs.Names.{Sort, Constant, Compound, Predicate, same_name, list_of}
use Rattle.grammar.specs.NameLaws.{same_refl}
use Rattle.grammar.specs.Query.{Given}
use Rattle.namelist.specs.List.{IsList}
use Rattle.namelist.specs.Meaning.{list_is, entries-are}
use Rattle.namelist.specs.Table.{table_entries, table-list}
use Rattle.questions.specs.Given.{Gives, given_from, gives, names_of, names_table, lists-same}

module _ (s : List ℕ) (g : Given) (h : Gives s g) where
  pub listed : IsList s (table_entries g)
  listed = rw h.is (table-list 61439 g h.good (omega arith))

  pub given_is : (k : Sort) → given_from s k ≡ g k
  given_is k = ap (names_of k) (entries-are s (table_entries g) listed) ∙ names_table g k

  few-is : (k : Sort) → leb (length (given_from s k)) 61439 ≡ true
  few-is k = le-leb (length (given_from s k)) 61439 (rw (given_is k) (h.good.few k))

  pub gives-is : gives s ≡ true
  unfolding gives
  gives-is =
      let q : list_of (given_from s) ≡ s = lists-same (given_from s) g given_is ∙ inv h.is in
      rw (list_is s (table_entries g) listed, ap (λ (z : List ℕ). same_name z s) q ∙ same_refl s, few-is Constant, few-is Compound, few-is Predicate)
