-- The figure of a clause, and the words in which the figures of a book's clauses are kept.
use Rattle.std.specs.Prelude.{ℕ, ◌+◌, ◌*◌, ◌-◌, ◌/◌, ◌%◌, ◌≤◌, ◌≡◌, ◌⊎◌, List, [], ◌∷◌, length, get_or, take, drop, eqb, ltb, Option, Some, None, IfSome}
use Rattle.terms.specs.When.{◌⇒◌∣◌}
use Rattle.terms.specs.Node.{Expr}
use Rattle.search.specs.Next.{Clause, Goal}
use Rattle.words.specs.Held.{ClauseIn}
use Rattle.bounds.specs.Tally.{Thrifts}
use Rattle.bounds.specs.declared.clauses.Thrift.{Thrift}
use Rattle.figures.specs.declared.Figure.{Figure}

abbrev pub first_of : Goal → Expr
first_of [] = []
first_of (f ∷ g) = f

-- so many nodes the first formula of the body has
abbrev pub Leads : List ℕ → ℕ → ℕ → ℕ → Type 0
Leads clause head bodies n = (c : Clause) → ClauseIn clause head bodies c → n ≡ length (first_of c.body)

pub record FigureOf (clause : List ℕ) (head bodies : ℕ) (r : Figure) : Type 0 where
  pub thrift : IfSome r.thrift (Thrifts clause head (head + r.first))
  pub leads : Leads clause head bodies r.first
  pub short : r.first ≤ 255

-- the figure that two words say; there is no thrift where the first is 65535
abbrev pub figure_in : ℕ → ℕ → Figure
figure_in a b = record { thrift = eqb a 65535 ⇒ None ∣ Some (record { fresh = a; whole = ltb 32767 b; names = b % 128 }); first = b / 128 % 256 }

-- the words of the clause number i are its figure, or it is not known yet
abbrev pub Slot : List ℕ → ℕ → ℕ → List ℕ → ℕ → Type 0
Slot clause head bodies figures i = (get_or figures (2 * i + 1) 0 ≡ 0) ⊎ FigureOf clause head bodies (figure_in (get_or figures (2 * i) 0) (get_or figures (2 * i + 1) 0))

-- the figure r is its, and the words of other clauses are as they were
pub record KeptAt (clause : List ℕ) (head bodies : ℕ) (figures : List ℕ) (i : ℕ) (figures' : List ℕ) (r : Figure) : Type 0 where
  pub figure : FigureOf clause head bodies r
  pub here : Slot clause head bodies figures' i
  pub fresh : (j : ℕ) → (j ≡ i → ⊥) → get_or figures' (2 * j) 0 ≡ get_or figures (2 * j) 0
  pub rest : (j : ℕ) → (j ≡ i → ⊥) → get_or figures' (2 * j + 1) 0 ≡ get_or figures (2 * j + 1) 0

-- where the clause number i starts, as the shelf says
abbrev pub start_at : List ℕ → ℕ → ℕ
start_at shelf i = get_or shelf (4 * i + 256) 0

abbrev pub SlotAt : List ℕ → List ℕ → List ℕ → ℕ → Type 0
SlotAt book shelf figures i =
    Slot (take (start_at shelf (i + 1) - start_at shelf i) (drop (start_at shelf i) book)) (get_or shelf (4 * i + 257) 0 - start_at shelf i) (get_or shelf (4 * i + 258) 0) figures i

-- the figures of a book's clauses
pub record Figured (book shelf figures : List ℕ) : Type 0 where
  pub each : (i : ℕ) → SlotAt book shelf figures i
