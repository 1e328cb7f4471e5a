-- One trial on the heap, and how it is left.
use Rattle.std.specs.Prelude.{ℕ, suc, ◌+◌, ◌-◌, ◌<◌, ◌≤◌, ◌≡◌, List, ◌∷◌, ◌++◌, map, length, get_or, take, drop}
use Rattle.terms.specs.Subst.{Subst, Unifies, MostGeneral}
use Rattle.terms.specs.Node.{Expr}
use Rattle.search.specs.Next.{Clause, Book, Goal, Meets}
use Rattle.words.specs.Held.{RowIn, starts}
use Rattle.picking.specs.Laying.{moved}
use Rattle.picking.specs.Picking.{Picked}
use Rattle.heap.specs.Heap.{rows, Made, Solved}
use Rattle.matching.specs.Binding.{Trailed}
use Rattle.matching.specs.TrialLaws.{Free}
use Rattle.trials.specs.declared.Attempt.{Attempt}
use Rattle.trials.specs.declared.Attempt.TheVariants.{Fits, Clash, Tired}
use Rattle.std.specs.declared.option.Option.{Option}
use Rattle.std.specs.declared.option.Option.TheVariants.{None, Some}
use Rattle.trials.specs.declared.Found.{Found}

-- where the trail stands in the slice of tables: numbering leaves it alone
abbrev pub trail : List ℕ → List ℕ
trail tables = take 8448 (drop 16512 tables)

-- all that is bound of the goal's variables is on the trail
pub record Undoable (cells tables : List ℕ) (count : ℕ) : Type 0 where
  pub before : List ℕ
  pub free : Free before
  pub trailed : Trailed before cells (trail tables) 8192 count
  pub few : count ≤ 8448

-- what is bound is a most general unifier of the rows at 0 and q
pub record Fitted (heap : List ℕ) (q : ℕ) (cells tables : List ℕ) (count : ℕ) : Type 0 where
  pub made : Made heap cells
  pub undoable : Undoable cells tables count
  pub unifier : Subst
  pub solved : Solved heap cells unifier
  pub general : MostGeneral unifier (rows heap 1 0) (rows heap 1 q)

-- the rows at 0 and q are made equal, or can't be, or nothing is known
abbrev pub Attempted : List ℕ → ℕ → List ℕ → List ℕ → Attempt → Type 0
Attempted heap q cells tables (Fits count) = Fitted heap q cells tables count
Attempted heap q cells tables Clash = Free cells × ((τ : Subst) → ¬ Unifies τ (rows heap 1 0) (rows heap 1 q))
Attempted heap q cells tables Tired = Free cells

-- the first n words hold the goal of f and g with its answer a, and f is the first m of them
pub record Fronted (words : List ℕ) (n m : ℕ) (f : Expr) (g a : Goal) : Type 0 where
  pub goal : ℕ
  pub formulas : ℕ
  pub row : RowIn (take n words) goal formulas (f ∷ g) a
  pub first : m ≡ length f
  pub within : n ≤ length words

-- of n clauses, the words of the one number i
abbrev pub clause_words : List ℕ → List ℕ → ℕ → ℕ → List ℕ
clause_words book shelf n i = take (get_or (starts n shelf) (suc i) 0 - get_or (starts n shelf) i 0) (drop (get_or (starts n shelf) i 0) book)

-- the heap: a row, and behind it a clause, whose variables are moved past the row's
abbrev pub laid : List ℕ → List ℕ → List ℕ
laid row clause = row ++ map (moved 8192) clause

-- the first words hold row and clause, and what is bound is a most general unifier of the row's first formula and the clause's head
pub record HeldTrial (row clause words cells tables : List ℕ) (n count : ℕ) : Type 0 where
  pub front : take (n + length clause) words ≡ laid row clause
  pub fitted : Fitted (laid row clause) n cells tables count

-- the head of c and the formula f, tried
abbrev pub Tested : Expr → Clause → List ℕ → List ℕ → List ℕ → List ℕ → List ℕ → ℕ → Attempt → Type 0
Tested f c row clause words cells tables n (Fits count) = Meets f c × HeldTrial row clause words cells tables n count
Tested f c row clause words cells tables n Clash = (Meets f c → ⊥) × Free cells
Tested f c row clause words cells tables n Tired = Free cells

-- the first clause that fits, and its trial; or nothing is known
abbrev pub Sought : Book → Expr → List ℕ → List ℕ → List ℕ → List ℕ → List ℕ → List ℕ → ℕ → Option Found → Type 0
Sought P f book shelf row words cells tables n (Some r) = Picked f P 0 r.clause × (r.clause < length P) × HeldTrial row (clause_words book shelf (length P) r.clause) words cells tables n r.count
Sought P f book shelf row words cells tables n None = Free cells
