-- Where the loading of a book stands between two records.
use Prim.Native.Nat.{ℕ, ◌+◌, ◌*◌, ◌≤◌, ◌<◌}
use native.Mathlib.Omega.{arith}
use native.Mathlib.Nat.{add-zero}
use mathlib.Core.Path.{◌≡◌, sym as inv, ap, ◌∙◌}
use mathlib.Core.List.{List, [], ◌∷◌, ◌++◌}
use lib.ListN.{length, get_or, drop, set}
use native.Mathlib.Decide.{dec_lt}
use Rattle.terms.specs.Node.{Expr}
use Rattle.search.specs.Next as Next
use Rattle.words.specs.Flat.{flat, flat-size}
use Rattle.words.specs.Word.{words_of}
use Rattle.format.specs.declared.Record.TheVariants.{Clause, End}
use Rattle.format.specs.Reading.{body_length, record_at, book_verdict}
use Rattle.format.specs.Format.{encode, node_record, node_records, book_records, Bytes}
use Rattle.format.specs.Decode.{book_of}
use Rattle.format.specs.Words.{word_of, record_word, book_words, book_starts, book_bodies}
use Rattle.storage.specs.Storage.{Loaded, NodeAt}
use Rattle.format.proofs.Lengths.{starts-length, bodies-length, words-few}
use Rattle.format.proofs.Decoding.{book_of-good}
use Rattle.storage.proofs.Filling.{Filling, filling-start, filling-length, filling-room, filling-done, filling-next}
use Rattle.storage.proofs.Loading.{front, node-high, node_at}

-- What is left

-- of the book's clauses, those of b are still to come, after the nodes of e, which are what is left of the clause before them
record Ahead (book before words before' starts before'' bodies : List ℕ) (n k at : ℕ) (e : Expr) (b : Next.Book) : Type 0 where
  image : drop at book ≡ encode (node_records e ++ book_records b)
  nodes : Filling (book_words (book_of book)) before words n (words_of e ++ book_words b)
  places : Filling (book_starts 0 (book_of book)) before' starts k (book_starts (n + length e) b)
  formulas : Filling (book_bodies (book_of book)) before'' bodies k (book_bodies b)
  few : n + length (words_of e ++ book_words b) ≤ 10922
  some : k + length b ≤ 512

-- a record is there: a node, a clause or the end
ahead-here : {book before words before' starts before'' bodies : List ℕ} {n k at : ℕ} (e : Expr) (b : Next.Book) → Ahead book before words before' starts before'' bodies n k at e b → at < length book
ahead-here {book = book} {at = at} [] [] a = (front book at End [] a.image).here
ahead-here {book = book} {at = at} [] (c ∷ b) a = (front book at (Clause (length c.body)) (node_records (flat (c.head ∷ c.body)) ++ book_records b) a.image).here
ahead-here {book = book} {at = at} (x ∷ e) b a = (front book at (node_record x) (node_records e ++ book_records b) a.image).here

pub record BookLoading (book before words before' starts before'' bodies : List ℕ) (n k at : ℕ) : Type 0 where
  e : Expr
  b : Next.Book
  ahead : Ahead book before words before' starts before'' bodies n k at e b
  pub here : at < length book
  pub few : n ≤ 10922
  pub some : k ≤ 512
  pub kept : length words ≡ length before
  pub kept' : length starts ≡ length before'
  pub kept'' : length bodies ≡ length before''

ahead_loading : {book before words before' starts before'' bodies : List ℕ} {n k at : ℕ} {e : Expr} {b : Next.Book} → Ahead book before words before' starts before'' bodies n k at e b →
    BookLoading book before words before' starts before'' bodies n k at
ahead_loading {e = e} {b = b} a = record {
  e = e;
  b = b;
  ahead = a;
  here = ahead-here e b a;
  few = omega (arith, a.few);
  some = omega (arith, a.some);
  kept = filling-length a.nodes;
  kept' = filling-length a.places;
  kept'' = filling-length a.formulas;
}

pub book-start : (book before before' before'' : List ℕ) → Bytes book → (book_verdict book).code ≡ 0 → length book ≤ 3 * length before + 2 → 513 ≤ length before' → 512 ≤ length before'' →
    BookLoading book before before before' before' before'' before'' 0 0 0
book-start book before before' before'' bytes z h h' h'' =
    let q = book_of-good book bytes z in
    let b = book_of book in
    let few = words-few b in
    let short = q.0.short in
    let long = ap length q.1 in
    let some = q.0.few in
    ahead_loading {e = []} {b = b} record {
      image = inv q.1;
      nodes = filling-start (omega arith);
      places = filling-start (omega (arith, starts-length 0 b));
      formulas = filling-start (omega (arith, bodies-length b));
      few = omega arith;
      some = omega arith;
    }

-- a clause's record: its number of formulas stands behind the kind byte
clause-second : (s : List ℕ) (at : ℕ) {n : ℕ} → get_or s at 0 ≡ 5 → record_at s at (get_or s at 0) ≡ Clause n → get_or s (at + 1) 0 ≡ n
unfolding record_at
clause-second s at {n} k i = let j : Clause (get_or s (at + 1) 0) ≡ Clause n = rw k at i in cc

-- its words start where those before it end
opened : {all before starts : List ℕ} {k : ℕ} (n : ℕ) (c : Next.Clause) (b : Next.Book) → Filling all before starts k (book_starts (n + 0) (c ∷ b)) →
    Filling all before (set starts k n) (k + 1) (book_starts (n + length (flat (c.head ∷ c.body))) b)
opened n c b f = rw (flat-size (c.head ∷ c.body)) (filling-next (rw add-zero at f))

module _ {book before words before' starts before'' bodies : List ℕ} {n k at : ℕ} (l : BookLoading book before words before' starts before'' bodies n k at) where
  abbrev Here : Expr → Next.Book → Type 0
  Here e b = Ahead book before words before' starts before'' bodies n k at e b

  record BookNode : Type 0 where
    here : NodeAt book at
    room : n < length words
    next : BookLoading book before (set words n (word_of (record_at book at (get_or book at 0)))) before' starts before'' bodies (n + 1) k (at + 1 + body_length (get_or book at 0))

  book-node : get_or book at 0 ≤ 4 → BookNode
  book-node q = go l.e l.b l.ahead
    where
      go : (e : Expr) (b : Next.Book) → Here e b → BookNode
      go [] [] a = absurd (omega (arith, (front book at End [] a.image).kind))
      go [] (c ∷ b) a = absurd (omega (arith, (front book at (Clause (length c.body)) (node_records (flat (c.head ∷ c.body)) ++ book_records b) a.image).kind))
      go (x ∷ e) b a =
          let f = front book at (node_record x) (node_records e ++ book_records b) a.image in
          let more : n + length (x ∷ e) ≡ n + 1 + length e = omega arith in
          let m = a.few in
          record {
            here = node_at x f;
            room = filling-room a.nodes;
            next = ahead_loading {e = e} {b = b} record {
              image = f.later;
              nodes = rw (f.item, record_word x) (filling-next a.nodes);
              places = rw more at a.places;
              formulas = a.formulas;
              few = omega arith;
              some = a.some;
            };
          }

  record BookClause : Type 0 where
    body : at + body_length (get_or book at 0) < length book
    room : k < length starts
    room' : k < length bodies
    second : at + 1 < length book
    next : BookLoading book before words before' (set starts k n) before'' (set bodies k (get_or book (at + 1) 0)) n (k + 1) (at + 1 + body_length (get_or book at 0))

  book-clause : 4 < get_or book at 0 → get_or book at 0 < 7 → BookClause
  unfolding body_length record_at
  book-clause q q' = go l.e l.b l.ahead
    where
      go : (e : Expr) (b : Next.Book) → Here e b → BookClause
      go [] [] a = absurd (omega (arith, (front book at End [] a.image).kind))
      go (x ∷ e) b a = absurd (omega (arith, node-high x (front book at (node_record x) (node_records e ++ book_records b) a.image)))
      go [] (c ∷ b) a =
          let f = front book at (Clause (length c.body)) (node_records (flat (c.head ∷ c.body)) ++ book_records b) a.image in
          let k' = f.kind in
          let h = f.body in
          let m = a.few in
          let o = a.some in
          let p = opened n c b a.places in
          record {
            body = f.body;
            room = filling-room a.places;
            room' = filling-room a.formulas;
            second = rw f.kind at h;
            next = ahead_loading {e = flat (c.head ∷ c.body)} {b = b} record {
              image = f.later;
              nodes = a.nodes;
              places = p;
              formulas = rw (clause-second book at f.kind f.item) (filling-next a.formulas);
              few = m;
              some = omega arith;
            };
          }

  pub book-body : get_or book at 0 < 7 → at + body_length (get_or book at 0) < length book
  book-body q = elim (dec_lt 4 (get_or book at 0)) [ yes h ↦ (book-clause h q).body | no h ↦ (book-node (omega arith)).here.body ]

  pub book-at : get_or book at 0 ≤ 4 → NodeAt book at
  book-at q = (book-node q).here

  pub book-room : get_or book at 0 ≤ 4 → n < length words
  book-room q = (book-node q).room

  module _ (q : 4 < get_or book at 0) (q' : get_or book at 0 < 7) where
    pub clause-room : k < length starts
    clause-room = (book-clause q q').room

    pub clause-room' : k < length bodies
    clause-room' = (book-clause q q').room'

    pub clause-body : at + 1 < length book
    clause-body = (book-clause q q').second

  -- after either branch
  pub book-next : {words' starts' bodies' : List ℕ} {n' k' w a : ℕ} → a ≡ at + 1 + body_length (get_or book at 0) → get_or book at 0 ≤ 4 → w ≡ word_of (record_at book at (get_or book at 0)) →
      words' ≡ set words n w → starts' ≡ starts → bodies' ≡ bodies → n' ≡ n + 1 → k' ≡ k → BookLoading book before words' before' starts' before'' bodies' n' k' a
  book-next p q e p₁ p₂ p₃ p₄ p₅ = rw (p, p₁, p₂, p₃, p₄, p₅, e) (book-node q).next

  pub clause-next : {words' starts' bodies' : List ℕ} {n' k' x a : ℕ} → a ≡ at + 1 + body_length (get_or book at 0) → 4 < get_or book at 0 → get_or book at 0 < 7 → x ≡ get_or book (at + 1) 0 →
      words' ≡ words → starts' ≡ set starts k n → bodies' ≡ set bodies k x → n' ≡ n → k' ≡ k + 1 →
      BookLoading book before words' before' starts' before'' bodies' n' k' a
  clause-next p q q' e p₁ p₂ p₃ p₄ p₅ = rw (p, p₁, p₂, p₃, p₄, p₅, e) (book-clause q q').next

  record BookEnd : Type 0 where
    room : k < length starts
    done : Loaded (book_of book) before words before' (set starts k n) before'' bodies k

  book-finish : 7 ≤ get_or book at 0 → BookEnd
  book-finish q = go l.e l.b l.ahead
    where
      go : (e : Expr) (b : Next.Book) → Here e b → BookEnd
      go (x ∷ e) b a = absurd (omega (arith, node-high x (front book at (node_record x) (node_records e ++ book_records b) a.image)))
      go [] (c ∷ b) a = absurd (omega (arith, (front book at (Clause (length c.body)) (node_records (flat (c.head ∷ c.body)) ++ book_records b) a.image).kind))
      go [] [] a =
          let w = filling-done a.nodes in
          let f = filling-done a.formulas in
          record {
            room = filling-room a.places;
            done = record {
              clauses = f.count ∙ bodies-length (book_of book);
              nodes = rw (← w.count) w.holds;
              places = (filling-done (filling-next (rw add-zero at a.places))).holds;
              formulas = f.holds;
            };
          }

  pub book-room' : 7 ≤ get_or book at 0 → k < length starts
  book-room' q = (book-finish q).room

  pub book-end : {starts' : List ℕ} → 7 ≤ get_or book at 0 → starts' ≡ set starts k n → Loaded (book_of book) before words before' starts' before'' bodies k
  book-end q e = rw e (book-finish q).done

pub ruleset book-loading = (book-body, book-at, book-room, clause-room, clause-room', clause-body, book-next, clause-next, book-room', book-end)
