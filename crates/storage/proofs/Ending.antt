-- Where the search for a formula's end stands: so many terms are still owed.
use Prim.Native.Nat.{ℕ, suc, ◌+◌, ◌-◌, ◌≤◌, ◌<◌}
use native.Mathlib.Omega.{arith}
use mathlib.Core.Path.{◌≡◌, refl, ap, ◌∙◌}
use native.Mathlib.Nat.{zero-add}
use mathlib.Core.List.{List, [], ◌∷◌, ◌++◌, append-nil}
use lib.ListN.{length, get_or, drop, length-append, length-drop}
use Rattle.terms.specs.Node.{Node, var, sym, Expr}
use Rattle.terms.specs.Row.{Row, row_end, row_var, row_sym}
use Rattle.terms.specs.RowLaws.{row-long, row_unique}
use Rattle.words.specs.Word.{places, word, words_of, arity_of, AllNarrow}
use Rattle.words.specs.PackLaws.{words-length, word-arity}
use Rattle.storage.specs.Storage.{FormulaAt}
use Rattle.format.proofs.Encoded.{head_of}

-- of the formula of m nodes at `from`, the nodes of `rest` are left
record Left (words : List ℕ) (from m terms end : ℕ) : Type 0 where
  rest : Expr
  row : Row terms rest
  narrow : AllNarrow rest
  later : List ℕ
  here : drop end words ≡ words_of rest ++ later
  same : end + length rest ≡ from + m

left-within : {words : List ℕ} {from m terms end : ℕ} → Left words from m terms end → terms + end ≤ from + m
left-within l = omega (arith, row-long l.row, l.same)

left-next : {words : List ℕ} {from m terms end a : ℕ} → 0 < terms → a ≡ arity_of (get_or words end 0) → Left words from m terms end → Left words from m (terms - 1 + a) (end + 1)
left-next {words} {from} {m} {terms} {end} {a} h q l = go l.rest l.row h l.narrow l.here l.same
  where
    -- one-owed the node x, whose arguments are owed besides what was owed before
    one-owed : (k : ℕ) (x : Node) (e : Expr) → Row (places x + k) e → AllNarrow (x ∷ e) → drop end words ≡ words_of (x ∷ e) ++ l.later → end + suc (length e) ≡ from + m →
        Left words from m (suc k - 1 + a) (end + 1)
    one-owed k x e r n d s =
        let f = head_of words end (word x) (words_of e ++ l.later) d in
        let z : a ≡ places x = q ∙ ap arity_of f.here ∙ word-arity x n.0 in
        let t : suc k - 1 + a ≡ places x + k = omega arith in
        record { rest = e; row = rw t r; narrow = n.1; later = l.later; here = f.later; same = omega arith }

    go : {k : ℕ} (e : Expr) → Row k e → 0 < k → AllNarrow e → drop end words ≡ words_of e ++ l.later → end + length e ≡ from + m → Left words from m (k - 1 + a) (end + 1)
    go [] row_end o n d s = absurd (omega arith)
    go (var v ∷ e) (row_var {n = k} r) o n d s = one-owed k (var v) e (rw zero-add r) n d s
    go (sym y ∷ e) (row_sym {n = k} r) o n d s = one-owed k (sym y) e r n d s

formula-within : {words : List ℕ} {from : ℕ} {f : Expr} → FormulaAt words from f → from + length f ≤ length words
formula-within {words} {from} {f} w =
    omega (arith, row-long w.row, ap length w.here, length-drop from words, length-append (words_of f) w.later, words-length f)

-- whatever formula is there
pub record Ending (words : List ℕ) (from terms end : ℕ) : Type 0 where
  some : (f : Expr) × FormulaAt words from f
  all : (f : Expr) → FormulaAt words from f → Left words from (length f) terms end
  pub within : terms + end ≤ length words

module _ {words : List ℕ} {from : ℕ} where
  ending : {terms end : ℕ} → (f : Expr) × FormulaAt words from f → ((f : Expr) → FormulaAt words from f → Left words from (length f) terms end) → Ending words from terms end
  ending p l = record { some = p; all = l; within = omega (arith, left-within (l p.0 p.1), formula-within p.1) }

  pub ending-start : (f : Expr) × FormulaAt words from f → Ending words from 1 from
  ending-start p = ending p (λ f w. record { rest = f; row = w.row; narrow = w.narrow; later = w.later; here = w.here; same = refl })

  module _ {terms end : ℕ} (e : Ending words from terms end) where
    pub ending-next : {a : ℕ} → 0 < terms → a ≡ arity_of (get_or words end 0) → Ending words from (terms - 1 + a) (end + 1)
    ending-next h q = ending e.some (λ f w. left-next h q (e.all f w))

    pub ending-end : terms ≤ 0 → (f : Expr) → FormulaAt words from f → end ≡ from + length f
    ending-end h f w =
        let l = e.all f w in
        let z : terms ≡ 0 = omega arith in
        let r : Row 0 l.rest = rw z at l.row in
        let n = (row_unique r row_end [] l.rest (append-nil l.rest)).0 in
        omega (arith, l.same, ap length n)
