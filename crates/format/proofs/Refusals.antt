-- What a refusal means, for books and queries: a check answers a code other than 0, with a place, just where its input is faulty there with that code.
use Prim.Native.Nat.{ℕ, ◌≤◌}
use native.Mathlib.Decide.{ℕ_discrete}
use mathlib.Core.Path.{◌≡◌, refl, sym, ap, subst, ◌∙◌}
use mathlib.Core.Logic.{◌↔◌, ◌⊎◌, inl, inr}
use mathlib.Core.List.{List, [], ◌++◌, append-nil}
use lib.ListN.{length}
use Rattle.format.specs.declared.Check.{Check}
use Rattle.format.specs.declared.Form.{Form}
use Rattle.format.specs.declared.Form.TheVariants.{Book, Query}
use Rattle.format.specs.declared.Record.{Record}
use Rattle.format.specs.Reading.{count_of, start, verdict, book_verdict, query_verdict}
use Rattle.format.specs.Format.{encode, Bytes}
use Rattle.format.specs.Arities.{Use, book_uses, uses_of, OneArity, Memory, nothing_met, recall}
use Rattle.format.specs.Decode.{book_of}
use Rattle.format.specs.Faulty.{pair, Complete, WithinSizes, GoodUpTo, Faulty, Good}
use Rattle.format.proofs.Beginnings.{reach, beginning-reads, complete-whole}
use Rattle.format.proofs.Sizes.{sizes_iff}
use Rattle.format.proofs.Keeping.{kept_iff}
use Rattle.format.proofs.Answers.{faulty-code, accepted-by, answer, refuses}
use Rattle.format.proofs.Meaning.{answers-good, book-after, query_good, query-verdict}
use Rattle.format.proofs.Decoding.{book_of-one, met-is}

-- a check after uses us answers a code, not 0, and a place
abbrev pub Refuses : Form → List Use → List ℕ → ℕ → ℕ → Type 0
Refuses form us s code place = (code ≡ 0 → ⊥) × ((verdict form (recall nothing_met us) s).code ≡ code) × ((verdict form (recall nothing_met us) s).place ≡ place)

-- "A missing record has the input's length as place."
pub missing-place : (form : Form) (us : List Use) (s : List ℕ) (place : ℕ) (g : GoodUpTo form us s place) → g.rest ≡ [] → place ≡ length s
missing-place form us s place g e = g.offset ∙ sym (ap length (g.bytes ∙ ap (λ (l : List ℕ). encode g.before ++ l) e ∙ append-nil (encode g.before)))

-- a book is read after no uses, a query after those of a good book: they keep one arity
module _ (form : Form) (us : List Use) (one : OneArity us) (s : List ℕ) (bytes : Bytes s) where
  abbrev check : Check
  check = verdict form (recall nothing_met us) s

  found-fault : (check.code ≡ 0 → ⊥) → Faulty form us s check.code check.place × (check.count ≡ 0)
  found-fault n = elim (answer form us one s bytes) [ inl a ↦ absurd (n (ap (λ (c : Check). c.code) a.count)) | inr f ↦ f ]

  pub refused_iff : (code place : ℕ) → Refuses form us s code place ↔ Faulty form us s code place
  refused_iff code place = (
    λ a. rw (← a.1, ← a.2) (found-fault (λ z. a.0 (sym a.1 ∙ z))).0,
    λ f. let e = refuses form us one s bytes code place f in (faulty-code form us s code place f, ap (λ (c : Check). c.code) e, ap (λ (c : Check). c.place) e),
  )

  -- "Codes 1 to 19 refuse the input .. and give .. every count 0."
  pub refused-count : (check.code ≡ 0 → ⊥) → check.count ≡ 0
  refused-count n = (found-fault n).1

  pub one-fault : (code place code' place' : ℕ) → Faulty form us s code place → Faulty form us s code' place' → (code ≡ code') × (place ≡ place')
  one-fault code place code' place' f f' =
      let e = (refused_iff code place).1 f in
      let e' = (refused_iff code' place').1 f' in
      (sym e.1 ∙ e'.1, sym e.2 ∙ e'.2)

  -- a good input is one whose records are all there, with no size passed and no number used with two arities
  pub good-records : (check.code ≡ 0) ↔ ((rs : List Record) × (s ≡ encode rs) × Complete form rs × WithinSizes form rs × OneArity (us ++ uses_of rs) × (length s ≤ pair form 32768 16387))
  good-records = (
    λ z.
        let a = accepted-by form (recall nothing_met us) s bytes z in
        (a.items, a.image, (complete-whole form a.items a.reads).1 a.finished, (sizes_iff form a.items a.reads).1 a.sized, (kept_iff us a.items one).0 a.kept, a.short),
    λ x.
        let rs = x.0 in
        let e = x.1 in
        let f = (beginning-reads form rs).0 ([], subst (Complete form) (sym (append-nil rs)) x.2) in
        let l = subst (λ (y : List ℕ). length y ≤ pair form 32768 16387) e x.5 in
        let a = answers-good form us rs (count_of form (reach start rs)) x.4 x.2 ((sizes_iff form rs f).0 x.3) l refl in
        ap (λ (y : List ℕ). (verdict form (recall nothing_met us) y).code) e ∙ ap (λ (c : Check). c.code) a,
  )

-- a check answers 0 just where its input is good
pub good_iff : (form : Form) (us : List Use) → OneArity us → (s : List ℕ) → Bytes s → ((verdict form (recall nothing_met us) s).code ≡ 0) ↔ Good form us s
good_iff Book us one s bytes = book-after us one s bytes
good_iff Query us one s bytes = query_good us one s bytes

module _ (form : Form) (us : List Use) (one : OneArity us) (s : List ℕ) (bytes : Bytes s) where
  pub good_or_faulty : Good form us s ⊎ ((code : ℕ) × (place : ℕ) × Faulty form us s code place)
  good_or_faulty =
      elim (ℕ_discrete (verdict form (recall nothing_met us) s).code 0) [
        | yes z ↦ inl ((good_iff form us one s bytes).0 z)
        | no n ↦ inr ((verdict form (recall nothing_met us) s).code, (verdict form (recall nothing_met us) s).place, (found-fault form us one s bytes n).0)
      ]

  pub not-good_and_faulty : (code place : ℕ) → Good form us s → Faulty form us s code place → ⊥
  not-good_and_faulty code place g f =
      let e = (refused_iff form us one s bytes code place).1 f in
      e.0 (sym e.1 ∙ (good_iff form us one s bytes).1 g)

-- The query's check takes the bytes of its book: "against its book or against itself".
module _ (book s : List ℕ) (book-bytes : Bytes book) (good : (book_verdict book).code ≡ 0) where
  -- it is that of the query after the uses of the book
  pub query-after : query_verdict book s ≡ verdict Query (recall nothing_met (book_uses (book_of book))) s
  query-after = query-verdict book s good ∙ ap (λ (m : Memory). verdict Query m s) (met-is book book-bytes good)

  pub query-refused_iff : Bytes s → (code place : ℕ) → ((code ≡ 0 → ⊥) × ((query_verdict book s).code ≡ code) × ((query_verdict book s).place ≡ place)) ↔ Faulty Query (book_uses (book_of book)) s code place
  query-refused_iff bytes code place =
      rw query-after (refused_iff Query (book_uses (book_of book)) (book_of-one book book-bytes good) s bytes code place)
