-- No compound term (document 02, C-20: "constants and variables only"), of records, and of books and goals.
use Rattle.std.specs.Prelude.{List, [], ◌∷◌}
use Rattle.terms.specs.Node.{constant, compound, predicate, var, sym, Expr}
use Rattle.search.specs.Next as Next
use Rattle.words.specs.Flat.{flat}
use Rattle.format.specs.declared.Record.{Record}
use Rattle.format.specs.declared.Record.TheVariants.{Variable, Constant, Compound, Formula, Clause, Goal, End}

abbrev pub NotCompound : Record → Type 0
NotCompound (Variable v) = Unit {0}
NotCompound (Constant c) = Unit {0}
NotCompound (Compound f n) = ⊥
NotCompound (Formula p n) = Unit {0}
NotCompound (Clause n) = Unit {0}
NotCompound (Goal n) = Unit {0}
NotCompound End = Unit {0}

abbrev pub PlainRecords : List Record → Type 0
PlainRecords [] = Unit {0}
PlainRecords (r ∷ rs) = NotCompound r × PlainRecords rs

abbrev pub PlainNodes : Expr → Type 0
PlainNodes [] = Unit {0}
PlainNodes (var v ∷ e) = PlainNodes e
PlainNodes (sym (constant c) ∷ e) = PlainNodes e
PlainNodes (sym (compound f n) ∷ e) = ⊥
PlainNodes (sym (predicate p n) ∷ e) = PlainNodes e

abbrev pub PlainGoal : Next.Goal → Type 0
PlainGoal g = PlainNodes (flat g)

abbrev pub PlainBook : Next.Book → Type 0
PlainBook [] = Unit {0}
PlainBook (c ∷ b) = PlainGoal (c.head ∷ c.body) × PlainBook b
