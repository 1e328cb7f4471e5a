-- For each public function: no two outcomes satisfy its contract.
use Rattle.std.specs.Prelude.{ℕ, ◌+◌, ◌≡◌, List, ◌++◌, length, drop}
use Rattle.std.proofs.Common.{sym, ap, ◌∙◌}
use Rattle.terms.specs.Node.{Expr}
use Rattle.search.specs.Next as Next
use Rattle.format.specs.Format.{encode_goal}
use Rattle.format.specs.Words.{book_heads}
use Rattle.storage.specs.Storage.{Written, Loaded, Stored, FormulaAt, Writable}

-- how many formulas a query has: `count_formulas`
pub count_once : (g : Next.Goal) (r r' : ℕ) → r ≡ length g → r' ≡ length g → r ≡ r'
count_once g r r' p q = p ∙ sym q

-- what is written at the front of an area, and how much: `load_goal`, and `write_goal` below
pub written_once : {new before a a' : List ℕ} {r r' : ℕ} → Written new before a r → Written new before a' r' → (a ≡ a') × (r ≡ r')
written_once {new} {before} w w' =
    let e = w.count ∙ sym w'.count in
    (w.holds ∙ ap (λ k. new ++ drop k before) e ∙ sym w'.holds, e)

pub load_book_once : {b : Next.Book} {words starts bodies w w' s s' m m' : List ℕ} {r r' : ℕ} → Loaded b words w starts s bodies m r → Loaded b words w' starts s' bodies m' r' →
    (w ≡ w') × (s ≡ s') × (m ≡ m') × (r ≡ r')
load_book_once l l' =
    let e = l.clauses ∙ sym l'.clauses in
    (l.nodes ∙ sym l'.nodes, l.places ∙ rw e (sym l'.places), l.formulas ∙ rw e (sym l'.formulas), e)

-- the rest say: for each book, formula or goal that the storage holds; and there is one

pub place-heads_once : {words starts h h' : List ℕ} {clauses : ℕ} (heads : List ℕ) → (b : Next.Book) × Stored b words starts clauses →
    ((b : Next.Book) → Stored b words starts clauses → h ≡ book_heads 0 b ++ drop clauses heads) → ((b : Next.Book) → Stored b words starts clauses → h' ≡ book_heads 0 b ++ drop clauses heads) → h ≡ h'
place-heads_once heads b p q = p b.0 b.1 ∙ sym (q b.0 b.1)

pub formula-end_once : {words : List ℕ} {from r r' : ℕ} → (f : Expr) × FormulaAt words from f →
    ((f : Expr) → FormulaAt words from f → r ≡ from + length f) → ((f : Expr) → FormulaAt words from f → r' ≡ from + length f) → r ≡ r'
formula-end_once f p q = p f.0 f.1 ∙ sym (q f.0 f.1)

pub write_goal_once : {words before a a' : List ℕ} {formulas r r' : ℕ} → (g : Next.Goal) × Writable words formulas g →
    ((g : Next.Goal) → Writable words formulas g → Written (encode_goal g) before a r) → ((g : Next.Goal) → Writable words formulas g → Written (encode_goal g) before a' r') → (a ≡ a') × (r ≡ r')
write_goal_once g p q = written_once (p g.0 g.1) (q g.0 g.1)
