-- A check answers 0 just where its input is the image of a good book that keeps one arity, or of a good goal that keeps one with its book.
use Prim.Native.Nat.{ℕ, ◌≤◌}
use native.Mathlib.Omega.{arith}
use borrow.Author.Tests.{eq-eqb, eqb-true, eqb-false}
use mathlib.Core.Path.{◌≡◌, refl, sym, ap, subst, ◌∙◌}
use mathlib.Core.Logic.{◌↔◌}
use mathlib.Core.List.{List, [], ◌++◌, append-nil}
use lib.ListN.{length}
use lib.Dec.{eqb}
use Rattle.terms.specs.Cases.{cases}
use Rattle.search.specs.Next as Next
use Rattle.search.specs.Room.{nodes}
use Rattle.words.specs.Flat.{flat, flat-size}
use Rattle.format.specs.declared.Check.{Check}
use Rattle.format.specs.declared.Form.{Form}
use Rattle.format.specs.declared.Form.TheVariants.{Book, Query}
use Rattle.format.specs.declared.Record.{Record}
use Rattle.format.specs.Reading.{count_of, start, verdict, met, book_verdict, query_verdict}
use Rattle.format.specs.Format.{encode, book_records, goal_records, GoodBook, encode_book, GoodGoal, encode_goal, Bytes}
use Rattle.format.specs.Arities.{Use, book_uses, goal_uses, uses_of, OneArity, Suits, Memory, nothing_met, recall}
use Rattle.format.specs.ArityLaws.{one_left, goal-uses, book-uses}
use Rattle.format.specs.Faulty.{pair, Complete}
use Rattle.format.proofs.Lengths.{nodes-short}
use Rattle.format.proofs.Beginnings.{reach, beginning-reads, complete-whole}
use Rattle.format.proofs.Sizes.{Sized}
use Rattle.format.proofs.GoodSizes.{goal_iff, clauses-held, clauses-formed, clauses-sized, goal_nodes, goal-held, goal-sized}
use Rattle.format.proofs.Keeping.{Kept, kept_iff, remember-uses}
use Rattle.format.proofs.Answers.{accepted-by, accepts, accepts_met}

abbrev pub good : ℕ → Check
good n = record { code = 0; place = 0; count = n }

-- no use at all keeps one arity
pub one_none : OneArity []
one_none p n m x y = absurd x

module _ (us : List Use) (one : OneArity us) where
  one-items : (rs : List Record) → Kept (recall nothing_met us) rs → OneArity (us ++ uses_of rs)
  one-items rs k = (kept_iff us rs one).0 k

-- A book

pub book-read : (us : List Use) → OneArity us → (s : List ℕ) → Bytes s → (verdict Book (recall nothing_met us) s).code ≡ 0 →
    (b : Next.Book) × GoodBook b × OneArity (us ++ book_uses b) × (encode_book b ≡ s) × (verdict Book (recall nothing_met us) s ≡ good (length b))
book-read us one s bytes z =
    let a = accepted-by Book (recall nothing_met us) s bytes z in
    let c = (complete-whole Book a.items a.reads).1 a.finished in
    let e = c.2 in
    let h = clauses-held c.0 start c.1 (subst (Sized Book start) e a.sized) in
    let i : encode_book c.0 ≡ s = sym (a.image ∙ ap encode e) in
    let n : count_of Book (reach start a.items) ≡ length c.0 = ap (λ rs. count_of Book (reach start rs)) e ∙ h.count ∙ omega arith in
    let o = subst (λ (l : List Use). OneArity (us ++ l)) (ap uses_of e ∙ book-uses c.0) (one-items us one a.items a.kept) in
    (c.0, record { few = h.few; clauses = h.good; short = rw i a.short }, o, i, a.count ∙ ap good n)

-- and the other way round
pub answers-good : (form : Form) (us : List Use) (rs : List Record) (n : ℕ) → OneArity (us ++ uses_of rs) → Complete form rs → Sized form start rs → length (encode rs) ≤ pair form 32768 16387 →
    count_of form (reach start rs) ≡ n → verdict form (recall nothing_met us) (encode rs) ≡ good n
answers-good form us rs n o c z l e =
    let f = (beginning-reads form rs).0 ([], subst (Complete form) (sym (append-nil rs)) c) in
    let k = (kept_iff us rs (one_left us (uses_of rs) o)).1 o in
    accepts form (recall nothing_met us) (encode rs) rs refl l f z k ((complete-whole form rs f).0 c) ∙ ap good e

module _ (us : List Use) (b : Next.Book) (g : GoodBook b) (o : OneArity (us ++ book_uses b)) where
  formed : Complete Book (book_records b)
  formed = (b, clauses-formed b g.clauses, refl)

  sized : Sized Book start (book_records b)
  sized = clauses-sized b start g.clauses g.few

  one-records : OneArity (us ++ uses_of (book_records b))
  one-records = subst (λ (l : List Use). OneArity (us ++ l)) (sym (book-uses b)) o

  written_after : verdict Book (recall nothing_met us) (encode_book b) ≡ good (length b)
  written_after =
      let n : count_of Book (reach start (book_records b)) ≡ length b = (clauses-held b start (clauses-formed b g.clauses) sized).count ∙ omega arith in
      answers-good Book us (book_records b) (length b) one-records formed sized g.short n

pub book-after : (us : List Use) → OneArity us → (s : List ℕ) → Bytes s → ((verdict Book (recall nothing_met us) s).code ≡ 0) ↔ ((b : Next.Book) × GoodBook b × OneArity (us ++ book_uses b) × (encode_book b ≡ s))
book-after us one s bytes = (
  λ z. let r = book-read us one s bytes z in (r.0, r.1, r.2, r.3),
  λ x. ap (λ (l : List ℕ). (verdict Book (recall nothing_met us) l).code) (sym x.3) ∙ ap (λ (c : Check). c.code) (written_after us x.0 x.1 x.2),
)

-- A check's answer, by what its input is.
pub book_good : (s : List ℕ) → Bytes s → ((book_verdict s).code ≡ 0) ↔ ((b : Next.Book) × GoodBook b × OneArity (book_uses b) × (encode_book b ≡ s))
book_good s bytes = book-after [] one_none s bytes

module _ (b : Next.Book) (g : GoodBook b) (o : OneArity (book_uses b)) where
  pub book-written : book_verdict (encode_book b) ≡ good (length b)
  book-written = written_after [] b g o

  -- what a good book leaves remembered is what it uses
  pub book-met : met (encode_book b) ≡ recall nothing_met (book_uses b)
  book-met =
      let rs = book_records b in
      let f = (beginning-reads Book rs).0 ([], subst (Complete Book) (sym (append-nil rs)) (formed [] b g o)) in
      accepts_met Book nothing_met (encode_book b) rs refl f (sized [] b g o) ((kept_iff [] rs one_none).1 (one-records [] b g o)) ∙ remember-uses nothing_met rs ∙ ap (recall nothing_met) (book-uses b)

-- A query

-- its check, where its book is good
pub query-verdict : (book s : List ℕ) → (book_verdict book).code ≡ 0 → query_verdict book s ≡ verdict Query (met book) s
unfolding query_verdict
query-verdict book s z = simp (eq-eqb (book_verdict book).code 0 z)

pub query-book : (book s : List ℕ) → (query_verdict book s).code ≡ 0 → (book_verdict book).code ≡ 0
unfolding query_verdict
query-book book s z = cases (eqb (book_verdict book).code 0) (eqb-true (book_verdict book).code 0) (λ e. absurd (eqb-false (book_verdict book).code 0 e (simp e at z)))

-- whatever is remembered
pub query-taken : (m : Memory) (s : List ℕ) → Bytes s → (verdict Query m s).code ≡ 0 →
    (g : Next.Goal) × GoodGoal g × Kept m (goal_records g) × (encode_goal g ≡ s) × (verdict Query m s ≡ good (nodes g))
query-taken m s bytes z =
    let a = accepted-by Query m s bytes z in
    let c = (complete-whole Query a.items a.reads).1 a.finished in
    let e = c.2 in
    let n : count_of Query (reach start a.items) ≡ nodes c.0 = ap (λ rs. count_of Query (reach start rs)) e ∙ goal_nodes c.0 in
    (c.0, goal-held c.0 c.1 (subst (Sized Query start) e a.sized), subst (Kept m) e a.kept, sym (a.image ∙ ap encode e), a.count ∙ ap good n)

pub query-read : (book s : List ℕ) → Bytes s → (query_verdict book s).code ≡ 0 → (g : Next.Goal) × GoodGoal g × Kept (met book) (goal_records g) × (encode_goal g ≡ s) × (query_verdict book s ≡ good (nodes g))
query-read book s bytes z =
    let e = query-verdict book s (query-book book s z) in
    let r = query-taken (met book) s bytes (sym (ap (λ (c : Check). c.code) e) ∙ z) in
    (r.0, r.1, r.2, r.3, e ∙ r.4)

pub goal-written : (us : List Use) (g : Next.Goal) → GoodGoal g → OneArity (us ++ goal_uses g) → verdict Query (recall nothing_met us) (encode_goal g) ≡ good (nodes g)
goal-written us g good o =
    answers-good Query us (goal_records g) (nodes g) (subst (λ (l : List Use). OneArity (us ++ l)) (sym (goal-uses g)) o) (g, ((goal_iff g).0 good).0, refl) (goal-sized g good)
    (omega (arith, nodes-short (flat g), good.fitting.size, flat-size g))
    (goal_nodes g)

-- a goal that suits a good book
pub query-written : (b : Next.Book) → GoodBook b → (g : Next.Goal) → GoodGoal g → Suits b g → query_verdict (encode_book b) (encode_goal g) ≡ good (nodes g)
query-written b book g good o =
    let one = one_left (book_uses b) (goal_uses g) o in
    query-verdict (encode_book b) (encode_goal g) (ap (λ (c : Check). c.code) (book-written b book one))
    ∙ ap (λ (m : Memory). verdict Query m (encode_goal g)) (book-met b book one)
    ∙ goal-written (book_uses b) g good o

-- after uses that keep one arity
pub query_good : (us : List Use) → OneArity us → (s : List ℕ) → Bytes s → ((verdict Query (recall nothing_met us) s).code ≡ 0) ↔ ((g : Next.Goal) × GoodGoal g × OneArity (us ++ goal_uses g) × (encode_goal g ≡ s))
query_good us one s bytes = (
  λ z. let r = query-taken (recall nothing_met us) s bytes z in (r.0, r.1, subst (λ (l : List Use). OneArity (us ++ l)) (goal-uses r.0) (one-items us one (goal_records r.0) r.2), r.3),
  λ x. ap (λ (l : List ℕ). (verdict Query (recall nothing_met us) l).code) (sym x.3) ∙ ap (λ (c : Check). c.code) (goal-written us x.0 x.1 x.2),
)
