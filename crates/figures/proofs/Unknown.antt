-- What is not known meets each definition, and two words say any thrift whose first is not the number for none.
use Rattle.std.specs.Prelude.{ℕ, ◌+◌, ◌*◌, ◌≤◌, ◌≡◌, refl, true, false, List, eqb, Some, None, IfSome, Option}
use Rattle.std.proofs.Common.{arith, lt-ltb, le-ltb, eqb-true}
use Rattle.std.proofs.lemmas.Bool.{false_from_ne_true}
use Rattle.words.specs.Word.{Fits}
use Rattle.heap.specs.Walking.{Lone}
use Rattle.bounds.specs.Tally.{Took, Thrifts}
use Rattle.bounds.specs.declared.clauses.Taken.{Taken}
use Rattle.bounds.specs.declared.clauses.Thrift.{Thrift}
use Rattle.figures.specs.Figures.{FigureOf, figure_in}
use Rattle.figures.specs.FigureLaws.{first_back, names-back, first-whole-back, names-whole-back, thrift-small}
use Rattle.figures.specs.declared.Figure.{Figure}

-- how many names what is known tells, and 64, as many as a clause may have, where nothing is known; the number that is written of fresh variables, and 65,535 for none
abbrev pub names_of : Option Thrift → ℕ
names_of (Some t) = t.names
names_of None = 64

abbrev pub names_taken : Option Taken → ℕ
names_taken (Some t) = t.names
names_taken None = 64

abbrev pub fresh_of : Option Thrift → ℕ
fresh_of (Some t) = t.fresh
fresh_of None = 65535

-- of a clause, known or not
pub thrift_names : (clause : List ℕ) (head first : ℕ) (o : Option Thrift) → Fits 64 clause → IfSome o (Thrifts clause head first) → (names_of o ≤ 64) × Fits (names_of o) clause
thrift_names clause head first (Some t) fits x = (x.few, x.names)
thrift_names clause head first None fits x = (omega arith, fits)

-- of a clause
pub thrift_lavish : (clause : List ℕ) (head first : ℕ) → Fits 64 clause → IfSome {T = Thrift} None (Thrifts clause head first) × ((names_of None ≤ 64) × Fits (names_of None) clause)
thrift_lavish clause head first fits = (tt, thrift_names clause head first None fits tt)

-- of words that are taken
pub take-over : (on counts counts' : List ℕ) (t : Taken) → IfSome {T = Taken} None (Took on counts t counts') × (names_taken None ≡ 64)
take-over on counts counts' t = (tt, refl)

-- of a row that stands for more than one node
pub lone-none : (heap cells : List ℕ) (p : ℕ) → IfSome {T = ℕ} None (Lone heap cells p)
lone-none heap cells p = tt

-- of a figure
pub figure-few : {clause : List ℕ} {head bodies : ℕ} {r : Figure} → FigureOf clause head bodies r → fresh_of r.thrift ≤ 65535
figure-few {clause} {head} {bodies} {r} x = few r.thrift (thrift-small clause head (head + r.first) r.thrift x.thrift)
  where
    few : (o : Option Thrift) → IfSome o (λ t. (t.fresh ≤ 256) × (t.names ≤ 64)) → fresh_of o ≤ 65535
    few (Some t) y = omega (arith, y.0)
    few None y = omega arith

-- a figure with any thrift but one that is written as none
module _ (f : ℕ) (t : Thrift) (lf : f ≤ 255) (some : t.fresh ≡ 65535 → ⊥) (ln : t.names ≤ 64) where
  abbrev figure : Figure
  figure = record { thrift = Some t; first = f }

  told : eqb t.fresh 65535 ≡ false
  told = false_from_ne_true (eqb t.fresh 65535) (λ e. some (eqb-true t.fresh 65535 e))

  pub pack_whole : t.whole ≡ true → figure_in t.fresh (32768 + (f * 128 + t.names)) ≡ figure
  pack_whole e = rw (told, lt-ltb 32767 (32768 + (f * 128 + t.names)) (omega arith), first-whole-back f t.names lf ln, names-whole-back f t.names lf ln, ← e) refl

  pub pack_part : t.whole ≡ false → figure_in t.fresh (f * 128 + t.names) ≡ figure
  pack_part e = rw (told, le-ltb 32767 (f * 128 + t.names) (omega (arith, lf, ln)), first_back f t.names lf ln, names-back f t.names lf ln, ← e) refl
