-- What the printer's parts do.
use Rattle.std.specs.Prelude.{ℕ, ◌≡◌, Bool, true, false, List, [], ◌∷◌, length, drop}
use Rattle.terms.specs.When.{◌⇒◌∣◌}
use Rattle.format.specs.Decode.{records_from}
use Rattle.format.specs.declared.Record.TheVariants.{Variable, Constant, Compound, Formula, Clause, Goal, End}
use Rattle.grammar.specs.Names as Names
use Rattle.namelist.specs.List.{Entry, naming}
use Rattle.namelist.specs.NamingLaws.{some}
use Rattle.format.specs.declared.Record.{Record}
use Rattle.printing.specs.Named.{Naming}
use Rattle.printouts.specs.declared.Turn.TheVariants.{Start}
use Rattle.printouts.specs.Walk.{owed_after, turn_after, piece, walked}
use Rattle.printouts.specs.Laying.{Lays}
use Rattle.printouts.specs.declared.Printout.{Printout}
use Rattle.printouts.specs.Is.{Is}
use Rattle.terms.specs.Node.{Expr}
use Rattle.format.specs.declared.Check.{Check}
use Rattle.namelist.specs.ListLaws.{Stands}
use Rattle.namelist.specs.Bytes.{is_list, entries_of}
use Rattle.namelist.specs.NamingLaws.{all_named}
use Rattle.pen.specs.declared.Pen.{Pen}
use Rattle.pen.specs.Parts.{Room}

pub record Wrote (name : Naming) (area area' stack stack' : List ℕ) (pen pen' : Pen) (r : Record) : Type 0 where
  pub text : Lays area area' pen.at pen'.at (piece name pen.turn (drop pen.top stack) r)
  pub owed : drop pen'.top stack' ≡ owed_after (drop pen.top stack) r
  pub turn : pen'.turn ≡ turn_after pen.turn r
  pub room : Room stack' pen'.top

-- the records of an image
abbrev pub items : List ℕ → List Record
items s = records_from (length s) s 0

-- whether the symbols of records have names
abbrev pub record_named : List Entry → Record → Bool
record_named l (Variable v) = true
record_named l (Constant c) = some (naming l Names.Constant c)
record_named l (Compound f n) = some (naming l Names.Compound f)
record_named l (Formula p n) = some (naming l Names.Predicate p)
record_named l (Clause n) = true
record_named l (Goal n) = true
record_named l End = true

abbrev pub records_named : List Entry → List Record → Bool
records_named l [] = true
records_named l (r ∷ rs) = record_named l r ⇒ records_named l rs ∣ false

-- the answer to names, and what stands in them then
pub record Checked (names : List ℕ) (t : Bool) : Type 0 where
  pub answer : t ≡ is_list names
  pub stands : t ≡ true → Stands names 0 (entries_of names)

-- what is printed is that of the image: its check is good, and its nodes and its text are those of its records
pub record Suited (image : List ℕ) (found : Check) (e : Expr) (text : Naming → List ℕ) : Type 0 where
  pub good : found.code ≡ 0
  pub named : (l : List Entry) → records_named l (items image) ≡ all_named l e
  pub texts : (name : Naming) → walked name Start [] (items image) ≡ text name

pub record PrintsImage (image names area area' : List ℕ) (r : Printout) : Type 0 where
  pub is : (found : Check) (e : Expr) (text : Naming → List ℕ) → Suited image found e text → Is found e text names area r area'
