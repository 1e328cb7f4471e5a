use Prim.Native.Nat.{ℕ, ◌+◌, ◌%◌, ◌<◌, ◌≤◌}
use native.Mathlib.Omega.{arith}
use mathlib.Core.Path.{◌≡◌, refl, ◌∙◌}
use mathlib.Core.List.{List}
use lib.ListN.{length, get_or, set, length-set}
use lib.Seq.{drop-set-lt}
use Rattle.words.specs.Word.{kind_of}
use Rattle.words.specs.Columns.{CELLS}
use Rattle.numbering.specs.Naming.{NAMES, table, back, spare, Listed, NamedAt}
use Rattle.numbering.proofs.Cells.{table-length, back-length, table-stored, back-stored}
use Rattle.numbering.proofs.Names.{in_table, name_new, name-old, name-plain}
use borrow.Author.Rules.{rules}
use Rattle.numbering.proofs.name.Goals as goal

new_in : (words rows : List ℕ) (count i u r x : ℕ) → length rows ≡ CELLS → i < length words → count < NAMES → u ≡ get_or words i 0 → kind_of u ≡ 1 → u % 65536 < NAMES → Listed (table rows) (back rows) (u % 65536) count r → count ≤ r → x ≡ 16777216 + r
    → (z : List ℕ) → z ≡ set (set rows (u % 65536) count) (8256 + count) (u % 65536) → NamedAt words (table rows) (back rows) count i (set words i x) (table z) (back z) (count + 1)
new_in words rows count i u r x lr h small e k l f q ex z ez =
    rw (ez, table-stored rows (u % 65536) count l, back-stored rows (u % 65536) count l)
    (name_new words (table rows) (back rows) count i h small u e x r k (omega (arith, table-length rows (omega arith))) (omega (arith, back-length rows)) f q ex)

-- what stands behind the tables stays
spared : (rows : List ℕ) (v count x : ℕ) → v < NAMES → count < NAMES → spare (set (set rows v count) (8256 + count) x) ≡ spare rows
spared rows v count x l h = drop-set-lt 16512 (set rows v count) (8256 + count) x (omega arith) ∙ drop-set-lt 16512 rows v count (omega arith)

pub listed-t-requires : goal.listed-t-requires
listed-t-requires c = (in_table c.args.words.now c.args.i NAMES _ _ c.word-u.ensures c.if-kind-eq1.true refl c.requires.2, search rules)

pub overflow_cast-words : goal.overflow_cast-words
overflow_cast-words c = record { fits = omega (arith, c.listed-t.ensures.low, c.requires.1) }

pub overflow_add-words : goal.overflow_add-words
overflow_add-words c = record { fits = omega (arith, c.listed-t.ensures.low, c.requires.1) }

pub returns-then-t-count : goal.returns-then-t-count
returns-then-t-count c = record { named = name-old _ _ _ _ _ c.requires.0 c.requires.1 _ c.word-u.ensures _ _ c.if-kind-eq1.true c.listed-t.ensures c.if-t-count.true refl; spare = refl }

pub bounds-rows-v : goal.bounds-rows-v
bounds-rows-v c = omega (arith, in_table c.args.words.now c.args.i NAMES _ _ c.word-u.ensures c.if-kind-eq1.true refl c.requires.2)

pub bounds-rows-count : goal.bounds-rows-count
bounds-rows-count c = omega (arith, length-set c.args.rows.now (c.word-u.result % 65536) c.args.count, c.requires.1)

pub returns-then-kind-eq1 : goal.returns-then-kind-eq1
returns-then-kind-eq1 c = record { named = new_in _ _ _ _ _ _ _ (search rules) c.requires.0 c.requires.1 c.word-u.ensures c.if-kind-eq1.true (in_table c.args.words.now c.args.i NAMES _ _ c.word-u.ensures c.if-kind-eq1.true refl c.requires.2) c.listed-t.ensures c.if-t-count.false refl _ refl; spare = spared c.args.rows.now _ _ _ (in_table c.args.words.now c.args.i NAMES _ _ c.word-u.ensures c.if-kind-eq1.true refl c.requires.2) c.requires.1 }

pub returns : goal.returns
returns c = record { named = name-plain c.args.words.now _ _ _ _ c.requires.0 c.requires.1 _ c.word-u.ensures _ c.if-kind-eq1.false c.requires.2; spare = refl }
