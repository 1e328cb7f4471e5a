-- What is computed of an image is what it is the image of; so an image is that of one book, or of one goal, only.
use Prim.Native.Nat.{ℕ, zero, suc, ◌+◌, ◌-◌, ◌≤◌}
use native.Mathlib.Omega.{arith}
use borrow.Author.Tests.{lt-ltb, le-ltb}
use mathlib.Core.Path.{◌≡◌, refl, sym as inv, ap, ap₂, subst, ◌∙◌}
use mathlib.Core.List.{List, [], ◌∷◌, ◌++◌, append-nil}
use lib.ListN.{length, drop, length-drop}
use Rattle.terms.specs.Node.{constant, compound, predicate, var, sym, Expr}
use Rattle.terms.specs.RowLaws.{first-row, rest-row}
use Rattle.search.specs.Next as Next
use Rattle.words.specs.Flat.{flat}
use Rattle.format.specs.declared.Check.{Check}
use Rattle.format.specs.declared.Form.TheVariants.{Query}
use Rattle.format.specs.declared.Record.{Record}
use Rattle.format.specs.Reading.{body_length, verdict, met, book_verdict, query_verdict}
use Rattle.format.specs.Arities.{book_uses, goal_uses, OneArity, Suits, Memory, nothing_met, recall}
use Rattle.format.specs.Format.{record_kind, encode, node_records, AreFormulas, book_records, GoodClauses, GoodBook, encode_book, goal_records, GoodGoal, encode_goal, Bytes}
use Rattle.format.specs.Decode.{records_from, nodes_of, formulas_of, clause_of, clauses_of, formulas_after, book_of, goal_of}
use Rattle.format.proofs.Encoded.{encoded}
use Rattle.format.proofs.Meaning.{book_good, book-met, query-verdict, query-book, query-read, query_good}
use Rattle.format.proofs.Premises.{formula-row}

-- the records of an image
pub records-back : (s : List ℕ) (rs : List Record) (k at : ℕ) → length s - at ≤ k → drop at s ≡ encode rs → records_from k s at ≡ rs
records-back s [] zero at f e = refl
records-back s [] (suc k) at f e = simp (le-ltb at (length s) (omega (arith, length-drop at s, ap length e)))
records-back s (r ∷ rs) zero at f e = absurd (omega (arith, (encoded s at r (encode rs) e).body))
records-back s (r ∷ rs) (suc k) at f e =
    let b = encoded s at r (encode rs) e in
    let body = b.body in
    simp (lt-ltb at (length s) (omega arith), b.kind, b.item, records-back s rs k (at + 1 + body_length (record_kind r)) (omega arith) b.later)

records-of : (rs : List Record) → records_from (length (encode rs)) (encode rs) 0 ≡ rs
records-of rs = records-back (encode rs) rs (length (encode rs)) 0 (omega arith) refl

-- no node stands in front
abbrev Opens : List Record → Type 0
Opens rs = nodes_of rs ≡ []

module _ (rs : List Record) (opens : Opens rs) where
  nodes-back : (e : Expr) → nodes_of (node_records e ++ rs) ≡ e
  nodes-back [] = opens
  nodes-back (var v ∷ e) = ap (λ l. var v ∷ l) (nodes-back e)
  nodes-back (sym (constant c) ∷ e) = ap (λ l. sym (constant c) ∷ l) (nodes-back e)
  nodes-back (sym (compound f n) ∷ e) = ap (λ l. sym (compound f n) ∷ l) (nodes-back e)
  nodes-back (sym (predicate p n) ∷ e) = ap (λ l. sym (predicate p n) ∷ l) (nodes-back e)

clauses-after : (rs : List Record) (e : Expr) → clauses_of (node_records e ++ rs) ≡ clauses_of rs
clauses-after rs [] = refl
clauses-after rs (var v ∷ e) = clauses-after rs e
clauses-after rs (sym (constant c) ∷ e) = clauses-after rs e
clauses-after rs (sym (compound f n) ∷ e) = clauses-after rs e
clauses-after rs (sym (predicate p n) ∷ e) = clauses-after rs e

formulas-back : (g : Next.Goal) → AreFormulas g → formulas_of (length g) (flat g) ≡ g
formulas-back [] p = refl
formulas-back (f ∷ g) p =
    let r = formula-row p.0 in
    ap₂ ◌∷◌ (first-row r (flat g)) (ap (formulas_of (length g)) (rest-row r (flat g)) ∙ formulas-back g p.1)

book-opens : (b : Next.Book) → Opens (book_records b)
book-opens [] = refl
book-opens (c ∷ b) = refl

clauses-back : (b : Next.Book) → GoodClauses b → clauses_of (book_records b) ≡ b
clauses-back [] good = refl
clauses-back (c ∷ b) good =
    let g = c.head ∷ c.body in
    let e = ap (formulas_of (length g)) (nodes-back (book_records b) (book-opens b) (flat g)) ∙ formulas-back g good.0.formulas in
    ap₂ ◌∷◌ (ap clause_of e) (clauses-after (book_records b) (flat g) ∙ clauses-back b good.1)

pub book_of-image : (b : Next.Book) → GoodBook b → book_of (encode_book b) ≡ b
unfolding book_of
book_of-image b good = ap clauses_of (records-of (book_records b)) ∙ clauses-back b good.clauses

pub goal_of-image : (g : Next.Goal) → GoodGoal g → goal_of (encode_goal g) ≡ g
unfolding goal_of
goal_of-image g good =
    ap formulas_after (records-of (goal_records g))
    ∙ ap (formulas_of (length g)) (ap nodes_of (inv (append-nil (node_records (flat g)))) ∙ nodes-back [] refl (flat g)) ∙ formulas-back g good.formulas

pub book-one : (b b' : Next.Book) → GoodBook b → GoodBook b' → encode_book b ≡ encode_book b' → b ≡ b'
book-one b b' p q e = inv (book_of-image b p) ∙ ap book_of e ∙ book_of-image b' q

pub goal-one : (g g' : Next.Goal) → GoodGoal g → GoodGoal g' → encode_goal g ≡ encode_goal g' → g ≡ g'
goal-one g g' p q e = inv (goal_of-image g p) ∙ ap goal_of e ∙ goal_of-image g' q

-- of bytes that a check finds good: they are the image of what is computed of them
pub book_of-good : (s : List ℕ) → Bytes s → (book_verdict s).code ≡ 0 → GoodBook (book_of s) × (encode_book (book_of s) ≡ s)
book_of-good s bytes z =
    let q = (book_good s bytes).0 z in
    let e : book_of s ≡ q.0 = ap book_of (inv q.3) ∙ book_of-image q.0 q.1 in
    (subst GoodBook (inv e) q.1, ap encode_book e ∙ q.3)

pub book_of-one : (s : List ℕ) → Bytes s → (book_verdict s).code ≡ 0 → OneArity (book_uses (book_of s))
book_of-one s bytes z =
    let q = (book_good s bytes).0 z in
    subst (λ (b : Next.Book). OneArity (book_uses b)) (inv (ap book_of (inv q.3) ∙ book_of-image q.0 q.1)) q.2

-- what a good book leaves remembered
pub met-is : (s : List ℕ) → Bytes s → (book_verdict s).code ≡ 0 → met s ≡ recall nothing_met (book_uses (book_of s))
met-is s bytes z =
    let q = book_of-good s bytes z in
    subst (λ (l : List ℕ). met l ≡ recall nothing_met (book_uses (book_of s))) q.1 (book-met (book_of s) q.0 (book_of-one s bytes z))

pub goal_of-good : (book s : List ℕ) → Bytes s → (query_verdict book s).code ≡ 0 → GoodGoal (goal_of s) × (encode_goal (goal_of s) ≡ s)
goal_of-good book s bytes z =
    let q = query-read book s bytes z in
    let e : goal_of s ≡ q.0 = ap goal_of (inv q.3) ∙ goal_of-image q.0 q.1 in
    (subst GoodGoal (inv e) q.1, ap encode_goal e ∙ q.3)

-- and the goal suits the book
pub goal_of-suits : (book s : List ℕ) → Bytes book → Bytes s → (query_verdict book s).code ≡ 0 → Suits (book_of book) (goal_of s)
goal_of-suits book s book-bytes bytes z =
    let b = query-book book s z in
    let us = book_uses (book_of book) in
    let v : (verdict Query (recall nothing_met us) s).code ≡ 0 = ap (λ (m : Memory). (verdict Query m s).code) (inv (met-is book book-bytes b)) ∙ inv (ap (λ (c : Check). c.code) (query-verdict book s b)) ∙ z in
    let q = (query_good us (book_of-one book book-bytes b) s bytes).0 v in
    subst (λ (g : Next.Goal). OneArity (us ++ goal_uses g)) (inv (ap goal_of (inv q.3) ∙ goal_of-image q.0 q.1)) q.2
