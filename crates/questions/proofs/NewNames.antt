-- The names of a query behind those of the list: they are in C-13's form, and the list's names keep their numbers.
use Rattle.std.specs.Prelude.{ℕ, ◌≡◌, refl, List, [], ◌∷◌, ◌++◌}
use Rattle.std.proofs.Common.{sym as inv, ap, ◌∙◌, append_assoc, append-nil, arith}
use Rattle.terms.specs.Cases.{cases}
use Rattle.grammar.specs.Syntax.{Formula}
use Rattle.grammar.specs.Names.{Sort, Spot, variable_spot, symbol_spot, formulas_spots, within, grow, is_sort, names_after}
use Rattle.grammar.specs.NameLaws.{names-few}
use Rattle.grammar.specs.Query.{Given, names_with, SizedQuery}
use Rattle.namelist.specs.Table.{GoodTable}
use Rattle.namelist.specs.Growing.{AllSpots, fit-after, none_after}

pub with_good : (given : Given) (fs : List Formula) → GoodTable 61439 given → AllSpots (formulas_spots fs) → SizedQuery fs → GoodTable 65535 (names_with given fs)
with_good given fs g h s =
    record {
      few = λ k. omega (arith, names-few k (given k) (formulas_spots fs), g.few k, s.nodes);
      fit = λ k. fit-after k (given k) (formulas_spots fs) (g.fit k) h;
      apart = λ k. none_after k (given k) (formulas_spots fs) (g.apart k);
    }

-- The list's names stand first, and so have their numbers

record Begins (l m : List (List ℕ)) : Type 0 where
  more : List (List ℕ)
  is : m ≡ l ++ more

grow-begins : (l : List (List ℕ)) (w : List ℕ) → Begins l (grow l w)
grow-begins l w = cases (within w l) (λ e. rw e (record { more = []; is = inv (append-nil l) })) (λ e. rw e (record { more = w ∷ []; is = refl }))

begins-on : (l m n : List (List ℕ)) → Begins l m → Begins m n → Begins l n
begins-on l m n p q = record { more = p.more ++ q.more; is = q.is ∙ ap (λ (z : List (List ℕ)). z ++ q.more) p.is ∙ append_assoc l p.more q.more }

pub names-begin : (k : Sort) (seen : List (List ℕ)) (e : List Spot) → (more : List (List ℕ)) × (names_after k seen e ≡ seen ++ more)
names-begin k seen e = let b = by seen e in (b.more, b.is)
  where
    by : (seen : List (List ℕ)) (e : List Spot) → Begins seen (names_after k seen e)
    by seen [] = record { more = []; is = inv (append-nil seen) }
    by seen (variable_spot w ∷ e) = by seen e
    by seen (symbol_spot j w n ∷ e) = cases (is_sort k j) (λ t. rw t (begins-on seen (grow seen w) (names_after k (grow seen w) e) (grow-begins seen w) (by (grow seen w) e))) (λ t. rw t (by seen e))
