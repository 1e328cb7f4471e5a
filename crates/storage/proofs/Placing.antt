-- Where the placing of a book's heads stands between two clauses.
use Prim.Native.Nat.{ℕ, suc, ◌+◌, ◌≤◌, ◌<◌, zero-le}
use native.Mathlib.Omega.{arith}
use mathlib.Core.Path.{◌≡◌, refl, ap, ◌∙◌}
use mathlib.Core.List.{List, [], ◌∷◌, ◌++◌}
use lib.ListN.{length, get_or, drop, set, length-append, length-set}
use Rattle.terms.specs.Node.{Expr}
use Rattle.search.specs.Next as Next
use Rattle.search.specs.Room.{nodes}
use Rattle.format.specs.Format.{GoodClauses}
use Rattle.format.specs.Words.{goal_words, book_words, book_starts, book_heads}
use Rattle.storage.specs.Storage.{Stored, FormulaAt}
use Rattle.format.proofs.Encoded.{head_of}
use Rattle.storage.proofs.Clauses.{goal_long, head_first, later_words}
use Rattle.format.proofs.Lengths.{words-few}
use Rattle.storage.proofs.Filling.{Filling, filling-start, filling-room, filling-done, filling-next}

heads-length : (n : ℕ) (b : Next.Book) → length (book_heads n b) ≡ length b
heads-length n [] = refl
heads-length n (c ∷ b) = ap suc (heads-length (n + nodes (c.head ∷ c.body)) b)

-- of the book's clauses, those of `rest` are still to come, and their words start at n
record Rest (all words starts before heads : List ℕ) (clauses k n : ℕ) (rest : Next.Book) : Type 0 where
  good : GoodClauses rest
  later : List ℕ
  later' : List ℕ
  here : drop n words ≡ book_words rest ++ later
  places : drop k starts ≡ book_starts n rest ++ later'
  fill : Filling all before heads k (book_heads n rest)
  left : k + length rest ≡ clauses
  few : n + length (book_words rest) ≤ 10922

-- the next clause, c
record Turn (all words starts before heads : List ℕ) (clauses k : ℕ) : Type 0 where
  start : k < length starts
  room : k < length heads
  head : Expr
  at : FormulaAt words (get_or starts k 0) head
  small : get_or starts k 0 + length head ≤ 10922
  n : ℕ
  rest : Next.Book
  next : Rest all words starts before (set heads k (get_or starts k 0 + length head)) clauses (k + 1) n rest

turn : {all words starts before heads : List ℕ} {clauses k n : ℕ} (rest : Next.Book) → Rest all words starts before heads clauses k n rest → k < clauses → Turn all words starts before heads clauses k
turn [] r h = absurd (omega (arith, r.left))
turn {words = words} {starts = starts} {k = k} {n = n} (c ∷ b) r h =
    let g = c.head ∷ c.body in
    let s = head_of starts k n _ r.places in
    let few = r.few in
    let l = length-append (goal_words g) (book_words b) in
    let long = goal_long g in
    record {
      start = s.within;
      room = filling-room r.fill;
      head = c.head;
      at = rw s.here (head_first c b words n r.later r.good.0 r.here);
      small = rw s.here (omega arith);
      n = n + nodes g;
      rest = b;
      next = rw s.here (record {
        good = r.good.1;
        later = r.later;
        later' = r.later';
        here = later_words c b words n r.later r.here;
        places = s.later;
        fill = filling-next r.fill;
        left = omega (arith, r.left);
        few = omega arith;
      });
    }

-- whatever book is there
pub record Placing (words starts before heads : List ℕ) (clauses k : ℕ) : Type 0 where
  some : (b : Next.Book) × Stored b words starts clauses
  all : (b : Next.Book) → Stored b words starts clauses → (n : ℕ) × (rest : Next.Book) × Rest (book_heads 0 b) words starts before heads clauses k n rest
  pub within : k ≤ clauses
  pub kept : length heads ≡ length before

module _ {words starts before : List ℕ} {clauses : ℕ} where
  stored-rest : (b : Next.Book) → Stored b words starts clauses → clauses ≤ length before → Rest (book_heads 0 b) words starts before before clauses 0 0 b
  stored-rest b s h = record {
    good = s.good.clauses;
    later = s.later_words;
    later' = s.later_starts;
    here = s.holds;
    places = s.places;
    fill = filling-start (omega (arith, heads-length 0 b, s.count));
    left = omega (arith, s.count);
    few = omega (arith, words-few b, s.good.short);
  }

  pub placing-start : (b : Next.Book) × Stored b words starts clauses → clauses ≤ length before → Placing words starts before before clauses 0
  placing-start p h = record { some = p; all = λ b s. (0, b, stored-rest b s h); within = zero-le; kept = refl }

  module _ {heads : List ℕ} {k : ℕ} (p : Placing words starts before heads clauses k) where
    module _ (h : k < clauses) where
      turn_of : (b : Next.Book) → Stored b words starts clauses → Turn (book_heads 0 b) words starts before heads clauses k
      turn_of b s = let r = p.all b s in turn r.1 r.2 h

      here : Turn (book_heads 0 p.some.0) words starts before heads clauses k
      here = turn_of p.some.0 p.some.1

      pub start-there : k < length starts
      start-there = here.start

      pub head-room : k < length heads
      head-room = here.room

      pub head-there : {from : ℕ} → from ≡ get_or starts k 0 → (f : Expr) × FormulaAt words from f
      head-there e = rw e (here.head, here.at)

      module _ {from r : ℕ} (e : from ≡ get_or starts k 0) (q : (f : Expr) → FormulaAt words from f → r ≡ from + length f) where
        end_of : (b : Next.Book) (s : Stored b words starts clauses) → r ≡ get_or starts k 0 + length (turn_of b s).head
        end_of b s = let t = turn_of b s in rw e at (q t.head (rw e t.at))

        pub head_small : r < 65536
        head_small = omega (arith, end_of p.some.0 p.some.1, (turn_of p.some.0 p.some.1).small)

        pub placing-next : Placing words starts before (set heads k r) clauses (k + 1)
        placing-next = record {
          some = p.some;
          all = λ b s. let t = turn_of b s in (t.n, t.rest, rw (end_of b s) t.next);
          within = omega arith;
          kept = length-set heads k r ∙ p.kept;
        }

    pub placing-end : clauses ≤ k → (b : Next.Book) → Stored b words starts clauses → heads ≡ book_heads 0 b ++ drop clauses before
    placing-end h b s = let r = p.all b s in go r.1 r.2
      where
        go : {n : ℕ} (rest : Next.Book) → Rest (book_heads 0 b) words starts before heads clauses k n rest → heads ≡ book_heads 0 b ++ drop clauses before
        go [] r = let e : clauses ≡ k = omega (arith, r.left, p.within) in rw e (filling-done r.fill).holds
        go (c ∷ rest) r = absurd (omega (arith, r.left))

pub ruleset placing = (start-there, head-room, head-there, head_small, placing-next, placing-end)
