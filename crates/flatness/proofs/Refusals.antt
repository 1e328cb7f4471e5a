-- What a flat check's answer means: another code than 0, with a place, just where its input is faulty there with that code, and 0 just where its input is the image of a
-- good book, or a good goal, without a compound term.
use Prim.Native.Nat.{ℕ, ◌≤◌}
use native.Mathlib.Omega.{arith}
use native.Mathlib.Decide.{ℕ_discrete}
use borrow.Author.Tests.{eq-eqb, ne_eqb, eqb-true, eqb-false}
use mathlib.Core.Path.{◌≡◌, sym as inv, ap, subst, ◌∙◌}
use mathlib.Core.Logic.{◌↔◌, ◌⊎◌, inl, inr}
use mathlib.Core.List.{List, [], ◌∷◌, ◌++◌}
use lib.ListN.{length}
use lib.Dec.{eqb}
use Rattle.terms.specs.Node.{constant, compound, predicate, var, sym, Expr}
use Rattle.terms.specs.Cases.{cases}
use Rattle.search.specs.Next as Next
use Rattle.words.specs.Flat.{flat}
use Rattle.format.specs.declared.Check.{Check}
use Rattle.format.specs.declared.Form.{Form}
use Rattle.format.specs.declared.Form.TheVariants.{Book, Query}
use Rattle.format.specs.declared.Record.{Record}
use Rattle.format.specs.Reading.{verdict, book_verdict, query_verdict}
use Rattle.format.specs.Format.{encode, node_records, book_records, goal_records, Bytes}
use Rattle.format.specs.Arities.{Use, book_uses, OneArity, Memory, nothing_met, recall}
use Rattle.format.specs.Decode.{book_of}
use Rattle.format.specs.Faulty.{pair}
use Rattle.format.proofs.Failing.{fails-code}
use Rattle.format.proofs.Meaning.{one_none, query-verdict}
use Rattle.format.proofs.Refusals.{good_iff, good-records}
use Rattle.format.proofs.Decoding.{records-back, book_of-one, met-is}
use Rattle.flatness.proofs.Plain.{PlainRecords, PlainNodes, PlainGoal, PlainBook}
use Rattle.flatness.proofs.Faulty.{FlatFaulty, too_long, of_compound, of_record, FlatGood}
use Rattle.flatness.specs.Profile.{flat_verdict, book_flat, query_flat}
use Rattle.flatness.proofs.Answers.{Taken, flat-plain, flat-answer, flat-refuses}

-- a flat check after uses us answers a code, not 0, and a place
abbrev pub FlatRefuses : Form → List Use → List ℕ → ℕ → ℕ → Type 0
FlatRefuses form us s code place = (code ≡ 0 → ⊥) × ((flat_verdict form (recall nothing_met us) s).code ≡ code) × ((flat_verdict form (recall nothing_met us) s).place ≡ place)

not_0 : (form : Form) (a b : ℕ) {code : ℕ} → 1 ≤ a → 1 ≤ b → code ≡ pair form a b → code ≡ 0 → ⊥
not_0 Book a b l k e z = omega arith
not_0 Query a b l k e z = omega arith

faulty-code : {form : Form} {us : List Use} {s : List ℕ} {code place : ℕ} → FlatFaulty form us s code place → code ≡ 0 → ⊥
faulty-code {form} (too_long l c p) = not_0 form 5 15 (omega arith) (omega arith) c
faulty-code {form} (of_compound l g p c e) = not_0 form 8 18 (omega arith) (omega arith) e
faulty-code (of_record l g p c x) = fails-code x

-- Records without a compound term, and books and goals

plain-records-append : (a b : List Record) → PlainRecords (a ++ b) ↔ (PlainRecords a × PlainRecords b)
plain-records-append [] b = (λ p. (tt, p), λ p. p.1)
plain-records-append (r ∷ a) b =
    let q = plain-records-append a b in
    (λ p. ((p.0, (q.0 p.1).0), (q.0 p.1).1), λ p. (p.0.0, q.1 (p.0.1, p.1)))

nodes-plain : (e : Expr) → PlainRecords (node_records e) ↔ PlainNodes e
nodes-plain [] = (λ p. tt, λ p. tt)
nodes-plain (var v ∷ e) = (λ p. (nodes-plain e).0 p.1, λ p. (tt, (nodes-plain e).1 p))
nodes-plain (sym (constant c) ∷ e) = (λ p. (nodes-plain e).0 p.1, λ p. (tt, (nodes-plain e).1 p))
nodes-plain (sym (compound f n) ∷ e) = (λ p. p.0, λ p. absurd p)
nodes-plain (sym (predicate q n) ∷ e) = (λ p. (nodes-plain e).0 p.1, λ p. (tt, (nodes-plain e).1 p))

goal-plain : (g : Next.Goal) → PlainRecords (goal_records g) ↔ PlainGoal g
goal-plain g = (λ p. (nodes-plain (flat g)).0 p.1, λ p. (tt, (nodes-plain (flat g)).1 p))

book-plain : (b : Next.Book) → PlainRecords (book_records b) ↔ PlainBook b
book-plain [] = (λ p. tt, λ p. (tt, tt))
book-plain (c ∷ b) =
    let n = nodes-plain (flat (c.head ∷ c.body)) in
    let a = plain-records-append (node_records (flat (c.head ∷ c.body))) (book_records b) in
    (λ p. (n.0 (a.0 p.1).0, (book-plain b).0 (a.0 p.1).1), λ p. (tt, a.1 (n.1 p.0, (book-plain b).1 p.1)))

-- an image has one row of records
pub one-row : (s : List ℕ) (a b : List Record) → s ≡ encode a → s ≡ encode b → a ≡ b
one-row s a b e f = inv (records-back s a (length s) 0 (omega arith) e) ∙ records-back s b (length s) 0 (omega arith) f

module _ (form : Form) (us : List Use) (one : OneArity us) (s : List ℕ) (bytes : Bytes s) where
  pub flat-refused_iff : (code place : ℕ) → FlatRefuses form us s code place ↔ FlatFaulty form us s code place
  flat-refused_iff code place = (
    λ a. elim (flat-answer form us one s bytes) [
      | inl t ↦ absurd (a.0 (inv a.1 ∙ ap (λ (c : Check). c.code) t.same ∙ t.good))
      | inr f ↦ rw (← a.1, ← a.2) f.0
    ],
    λ f. let e = flat-refuses form us one s bytes code place f in (faulty-code f, ap (λ (c : Check). c.code) e, ap (λ (c : Check). c.place) e),
  )

  pub flat-one-fault : (code place code' place' : ℕ) → FlatFaulty form us s code place → FlatFaulty form us s code' place' → (code ≡ code') × (place ≡ place')
  flat-one-fault code place code' place' f f' =
      let e = (flat-refused_iff code place).1 f in
      let e' = (flat-refused_iff code' place').1 f' in
      (inv e.1 ∙ e'.1, inv e.2 ∙ e'.2)

  -- "Codes 1 to 19 refuse the input .. and give .. every count 0."
  pub flat-refused-count : ((flat_verdict form (recall nothing_met us) s).code ≡ 0 → ⊥) → (flat_verdict form (recall nothing_met us) s).count ≡ 0
  flat-refused-count n = elim (flat-answer form us one s bytes) [ inl t ↦ absurd (n (ap (λ (c : Check). c.code) t.same ∙ t.good)) | inr f ↦ f.1 ]

  -- code 0 is the plain check's, with its count
  pub flat-taken : (flat_verdict form (recall nothing_met us) s).code ≡ 0 → Taken form us s
  flat-taken z = elim (flat-answer form us one s bytes) [ inl t ↦ t | inr f ↦ absurd (faulty-code f.0 z) ]

  taken-plain : (verdict form (recall nothing_met us) s).code ≡ 0 → (rs : List Record) → s ≡ encode rs → PlainRecords rs → (flat_verdict form (recall nothing_met us) s).code ≡ 0
  taken-plain z rs e p = ap (λ (c : Check). c.code) (flat-plain form us one s bytes ((good-records form us one s bytes).0 z).5 z rs e p) ∙ z

-- a flat check answers 0 just where its input is good and has no compound term
pub flat-good_iff : (form : Form) (us : List Use) → OneArity us → (s : List ℕ) → Bytes s → ((flat_verdict form (recall nothing_met us) s).code ≡ 0) ↔ FlatGood form us s
flat-good_iff Book us one s bytes = (
  λ z.
      let t = flat-taken Book us one s bytes z in
      let (b, g, o, e) = (good_iff Book us one s bytes).0 t.good in
      (b, g, o, (book-plain b).0 (subst PlainRecords (one-row s t.records (book_records b) t.image (inv e)) t.plain), e),
  λ (b, g, o, p, e). taken-plain Book us one s bytes ((good_iff Book us one s bytes).1 (b, g, o, e)) (book_records b) (inv e) ((book-plain b).1 p),
)
flat-good_iff Query us one s bytes = (
  λ z.
      let t = flat-taken Query us one s bytes z in
      let (b, g, o, e) = (good_iff Query us one s bytes).0 t.good in
      (b, g, o, (goal-plain b).0 (subst PlainRecords (one-row s t.records (goal_records b) t.image (inv e)) t.plain), e),
  λ (b, g, o, p, e). taken-plain Query us one s bytes ((good_iff Query us one s bytes).1 (b, g, o, e)) (goal_records b) (inv e) ((goal-plain b).1 p),
)

pub flat-good_or_faulty : (form : Form) (us : List Use) → OneArity us → (s : List ℕ) → Bytes s → FlatGood form us s ⊎ ((code : ℕ) × (place : ℕ) × FlatFaulty form us s code place)
flat-good_or_faulty form us one s bytes = elim (flat-answer form us one s bytes) [
  | inl t ↦ inl ((flat-good_iff form us one s bytes).0 (ap (λ (c : Check). c.code) t.same ∙ t.good))
  | inr f ↦ inr ((flat_verdict form (recall nothing_met us) s).code, (flat_verdict form (recall nothing_met us) s).place, f.0)
]

-- A query, by the bytes of its book

pub book-flat-good : (book : List ℕ) → Bytes book → (book_flat book).code ≡ 0 → (book_verdict book).code ≡ 0
book-flat-good book bytes z = (flat-taken Book [] one_none book bytes z).good

pub query-flat-book : (book s : List ℕ) → (query_flat book s).code ≡ 0 → (book_flat book).code ≡ 0
unfolding query_flat
query-flat-book book s z = cases (eqb (book_flat book).code 0) (eqb-true (book_flat book).code 0) (λ e. absurd (eqb-false (book_flat book).code 0 e (simp e at z)))

pub query-flat-refused : (book s : List ℕ) → ((book_flat book).code ≡ 0 → ⊥) → query_flat book s ≡ book_flat book
unfolding query_flat
query-flat-refused book s n = simp (ne_eqb (book_flat book).code 0 n)

module _ (book s : List ℕ) (book-bytes : Bytes book) (good : (book_flat book).code ≡ 0) where
  -- the flat check of the query after the uses of its book
  pub query-flat-after : query_flat book s ≡ flat_verdict Query (recall nothing_met (book_uses (book_of book))) s
  unfolding query_flat
  query-flat-after = simp (eq-eqb (book_flat book).code 0 good) (ap (λ (m : Memory). flat_verdict Query m s) (met-is book book-bytes (book-flat-good book book-bytes good)))

  pub query-flat-refused_iff : Bytes s → (code place : ℕ) → ((code ≡ 0 → ⊥) × ((query_flat book s).code ≡ code) × ((query_flat book s).place ≡ place)) ↔ FlatFaulty Query (book_uses (book_of book)) s code place
  query-flat-refused_iff bytes code place =
      rw query-flat-after (flat-refused_iff Query (book_uses (book_of book)) (book_of-one book book-bytes (book-flat-good book book-bytes good)) s bytes code place)

  pub query-flat-good_iff : Bytes s → ((query_flat book s).code ≡ 0) ↔ FlatGood Query (book_uses (book_of book)) s
  query-flat-good_iff bytes = rw query-flat-after (flat-good_iff Query (book_uses (book_of book)) (book_of-one book book-bytes (book-flat-good book book-bytes good)) s bytes)

  -- a good flat query is a good one, with its nodes as the count
  pub query-flat-is : Bytes s → (query_flat book s).code ≡ 0 → query_flat book s ≡ query_verdict book s
  query-flat-is bytes z =
      let v = book-flat-good book book-bytes good in
      let us = book_uses (book_of book) in
      let t = flat-taken Query us (book_of-one book book-bytes v) s bytes (inv (ap (λ (c : Check). c.code) query-flat-after) ∙ z) in
      query-flat-after ∙ t.same ∙ inv (query-verdict book s v ∙ ap (λ (m : Memory). verdict Query m s) (met-is book book-bytes v))

-- "Codes 1 to 19 refuse the input .. and give .. every count 0."
pub query-flat-count : (book s : List ℕ) → Bytes book → Bytes s → ((query_flat book s).code ≡ 0 → ⊥) → (query_flat book s).count ≡ 0
query-flat-count book s book-bytes bytes n = elim (ℕ_discrete (book_flat book).code 0) [
  | yes z ↦ (
      let e = query-flat-after book s book-bytes z in
      let one = book_of-one book book-bytes (book-flat-good book book-bytes z) in
      ap (λ (c : Check). c.count) e ∙ flat-refused-count Query (book_uses (book_of book)) one s bytes (λ w. n (ap (λ (c : Check). c.code) e ∙ w)))
  | no m ↦ ap (λ (c : Check). c.count) (query-flat-refused book s m) ∙ flat-refused-count Book [] one_none book book-bytes m
]
