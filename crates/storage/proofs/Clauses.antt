-- Each clause of a stored book is found_from by its number.
use Prim.Native.Nat.{ℕ, zero, suc, ◌+◌, ◌-◌, ◌≤◌, ◌<◌}
use native.Mathlib.Omega.{arith}
use native.Mathlib.Numerals.{add-one}
use mathlib.Core.Path.{◌≡◌, refl, sym as inv, ap, ◌∙◌}
use mathlib.Core.List.{List, [], ◌∷◌, ◌++◌, append_assoc}
use lib.ListN.{length, get_or, take, drop, length-append, length-drop}
use lib.Seq.{take_at}
use Rattle.terms.specs.RowLaws.{row-long}
use Rattle.search.specs.Next as Next
use Rattle.search.specs.Room.{nodes}
use Rattle.words.specs.Flat.{flat, flat-size}
use Rattle.words.specs.Word.{words_of}
use Rattle.words.specs.PackLaws.{words-length, words_append}
use Rattle.format.specs.Format.{GoodClause, GoodClauses, GoodBook}
use Rattle.format.specs.Words.{goal_words, book_words, book_starts, book_heads, book_bodies}
use Rattle.storage.specs.Storage.{Loaded, Stored, FormulaAt, ClauseAt}
use Rattle.format.proofs.Premises.{formula-row}
use Rattle.storage.proofs.Image.{formula-narrow}
use Rattle.storage.proofs.Filling.{drop_past}

abbrev pub nothing : Next.Clause
nothing = record { head = []; body = [] }

-- the clause number k
abbrev pub clause_at : Next.Book → ℕ → Next.Clause
clause_at b k = get_or b k nothing

-- what `load_book` leaves is the book, stored
pub loaded-stored : {b : Next.Book} {words words' starts starts' bodies bodies' : List ℕ} {r : ℕ} → GoodBook b → Loaded b words words' starts starts' bodies bodies' r → Stored b words' starts' r
loaded-stored {b} {words} {starts = starts} {r = r} good l = record {
  good = good;
  count = l.clauses;
  later_words = drop (length (book_words b)) words;
  later_starts = drop (r + 1) starts;
  holds = l.nodes;
  places = l.places;
}

pub good-clause : (b : Next.Book) → GoodClauses b → (k : ℕ) → k < length b → GoodClause (clause_at b k)
good-clause [] good k h = absurd (omega arith)
good-clause (c ∷ b) good zero h = good.0
good-clause (c ∷ b) good (suc k) h = good-clause b good.1 k (omega arith)

-- The first clause of some words, and those behind it

pub first-words : (c : Next.Clause) (b : Next.Book) (words : List ℕ) (n : ℕ) (later : List ℕ) → drop n words ≡ book_words (c ∷ b) ++ later →
    drop n words ≡ goal_words (c.head ∷ c.body) ++ (book_words b ++ later)
first-words c b words n later e = e ∙ append_assoc (goal_words (c.head ∷ c.body)) (book_words b) later

pub goal_long : (g : Next.Goal) → length (goal_words g) ≡ nodes g
goal_long g = words-length (flat g) ∙ flat-size g

pub later_words : (c : Next.Clause) (b : Next.Book) (words : List ℕ) (n : ℕ) (later : List ℕ) → drop n words ≡ book_words (c ∷ b) ++ later →
    drop (n + nodes (c.head ∷ c.body)) words ≡ book_words b ++ later
later_words c b words n later e =
    let g = c.head ∷ c.body in
    drop_past words n (goal_words g) (book_words b ++ later) (first-words c b words n later e) (ap (λ k. n + k) (inv (goal_long g)))

first-within : (c : Next.Clause) (words : List ℕ) (n : ℕ) (later : List ℕ) → GoodClause c → drop n words ≡ goal_words (c.head ∷ c.body) ++ later → n + nodes (c.head ∷ c.body) ≤ length words
first-within c words n later good e =
    let g = c.head ∷ c.body in
    omega (arith, row-long (formula-row good.formulas.0), ap length e, length-drop n words, length-append (goal_words g) later, goal_long g)

from-head : (c : Next.Clause) (words : List ℕ) (n : ℕ) (later : List ℕ) → drop n words ≡ goal_words (c.head ∷ c.body) ++ later → drop n words ≡ words_of c.head ++ (goal_words c.body ++ later)
from-head c words n later e = e ∙ ap (λ l. l ++ later) (words_append c.head (flat c.body)) ∙ append_assoc (words_of c.head) (goal_words c.body) later

head_at : (c : Next.Clause) (words : List ℕ) (n : ℕ) (later : List ℕ) → GoodClause c → drop n words ≡ goal_words (c.head ∷ c.body) ++ later → FormulaAt words n c.head
head_at c words n later good e =
    let f = good.formulas.0 in
    record { row = formula-row f; narrow = formula-narrow f; later = goal_words c.body ++ later; here = from-head c words n later e }

pub head_first : (c : Next.Clause) (b : Next.Book) (words : List ℕ) (n : ℕ) (later : List ℕ) → GoodClause c → drop n words ≡ book_words (c ∷ b) ++ later → FormulaAt words n c.head
head_first c b words n later good e = head_at c words n (book_words b ++ later) good (first-words c b words n later e)

-- By number

starts_first : (n : ℕ) (b : Next.Book) (l : List ℕ) → get_or (book_starts n b ++ l) 0 0 ≡ n
starts_first n [] l = refl
starts_first n (c ∷ b) l = refl

module _ (words ls lh lb : List ℕ) where
  found_from : (b : Next.Book) (n : ℕ) (later : List ℕ) → GoodClauses b → drop n words ≡ book_words b ++ later → (k : ℕ) → k < length b →
      ClauseAt (clause_at b k) words (get_or (book_starts n b ++ ls) k 0) (get_or (book_starts n b ++ ls) (suc k) 0) (get_or (book_heads n b ++ lh) k 0) (get_or (book_bodies b ++ lb) k 0)
  found_from [] n later good e k h = absurd (omega arith)
  found_from (c ∷ b) n later good e zero h =
      let f = first-words c b words n later e in
      rw (starts_first (n + nodes (c.head ∷ c.body)) b ls)
      (record { later = book_words b ++ later; here = f; end = refl; within = first-within c words n (book_words b ++ later) good.0 f; head_end = refl; formulas = refl })
  found_from (c ∷ b) n later good e (suc k) h = found_from b (n + nodes (c.head ∷ c.body)) later good.1 (later_words c b words n later e) k (omega arith)

pub stored-clause : {b : Next.Book} {words starts heads bodies : List ℕ} {clauses : ℕ} (lh lb : List ℕ) → Stored b words starts clauses → heads ≡ book_heads 0 b ++ lh → bodies ≡ book_bodies b ++ lb →
    (k : ℕ) → k < clauses → ClauseAt (clause_at b k) words (get_or starts k 0) (get_or starts (k + 1) 0) (get_or heads k 0) (get_or bodies k 0)
stored-clause {b} {words} lh lb s p q k h =
    rw (s.places, p, q, add-one k) (found_from words s.later_starts lh lb b 0 s.later_words s.good.clauses s.holds k (omega (arith, s.count)))

-- A clause's words

pub clause_words : {c : Next.Clause} {words : List ℕ} {s e h m : ℕ} → ClauseAt c words s e h m → take (e - s) (drop s words) ≡ goal_words (c.head ∷ c.body)
clause_words {c} {words} {s} {e} a = ap (take (e - s)) a.here ∙ take_at (goal_words (c.head ∷ c.body)) a.later (e - s) (omega (arith, goal_long (c.head ∷ c.body), a.end))
