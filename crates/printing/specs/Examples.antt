-- P1's book (document 01) with its names, printed: "spaced as in P1, one clause a line ended by LF, variables as `V0`, `V1` and so on".
use Rattle.std.specs.Prelude.{ℕ, zero, suc, ◌≡◌, refl, List, [], ◌∷◌}
use Rattle.terms.specs.Node.{predicate, var, sym}
use Rattle.search.specs.Next as Next
use Rattle.grammar.specs.Names.{Constant, Compound, Predicate}
use Rattle.printing.specs.Named.{Naming, printed}

-- feeds and pipe
abbrev p1_names : Naming
p1_names Constant n = []
p1_names Compound n = []
p1_names Predicate zero = 102 ∷ 101 ∷ 101 ∷ 100 ∷ 115 ∷ []
p1_names Predicate (suc n) = 112 ∷ 105 ∷ 112 ∷ 101 ∷ []

-- feeds(X,Y) :- feeds(X,Z), pipe(Z,Y).
abbrev p1_book : Next.Book
p1_book =
    record {
      head = sym (predicate 0 2) ∷ var 0 ∷ var 1 ∷ [];
      body = (sym (predicate 0 2) ∷ var 0 ∷ var 2 ∷ []) ∷ (sym (predicate 1 2) ∷ var 2 ∷ var 1 ∷ []) ∷ [];
    }
    ∷ []

-- feeds(V0,V1) :- feeds(V0,V2), pipe(V2,V1).
abbrev p1_text : List ℕ
p1_text =
    102 ∷ 101 ∷ 101 ∷ 100 ∷ 115 ∷ 40 ∷ 86 ∷ 48 ∷ 44 ∷ 86 ∷ 49 ∷ 41 ∷ 32 ∷ 58 ∷ 45 ∷ 32
    ∷ 102 ∷ 101 ∷ 101 ∷ 100 ∷ 115 ∷ 40 ∷ 86 ∷ 48 ∷ 44 ∷ 86 ∷ 50 ∷ 41 ∷ 44 ∷ 32
    ∷ 112 ∷ 105 ∷ 112 ∷ 101 ∷ 40 ∷ 86 ∷ 50 ∷ 44 ∷ 86 ∷ 49 ∷ 41 ∷ 46 ∷ 10 ∷ []

pub p1-printed : printed p1_names p1_book ≡ p1_text
p1-printed = refl
