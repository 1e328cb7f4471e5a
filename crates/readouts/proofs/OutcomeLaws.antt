-- What is computed is what the document says, and there is no other outcome.
use Rattle.std.specs.Prelude.{ℕ, ◌≤◌, ◌<◌, ◌≡◌, ◌⊎◌, true, false, List, length, leb, Option, Some, None}
use Rattle.std.proofs.Math.Path.{refl}
use Rattle.std.proofs.Common.{sym as inv, subst, inl, inr, arith, leb-true, leb-false, le-leb}
use Rattle.std.proofs.lemmas.Bool.{lt-leb}
use Rattle.terms.specs.Cases.{cases}
use Rattle.search.specs.Next as Next
use Rattle.format.specs.Format.{encode_book}
use Rattle.format.specs.Arities.{book_uses, OneArity}
use Rattle.grammar.specs.Syntax.{Rule}
use Rattle.grammar.specs.Names.{book, name_list}
use Rattle.grammar.specs.Reading.{Reading}
use Rattle.reading.specs.Reader as Reader
use Rattle.reading.proofs.ReadingLaws.{reading-sound, reading-complete}
use Rattle.reading.proofs.RefusalLaws.{refusal_iff}
use Rattle.readouts.specs.declared.ReadText.{ReadText}
use Rattle.readouts.specs.Place.{FormulaAt, formula_place}
use Rattle.readouts.proofs.PlaceLaws.{place_is}
use Rattle.readouts.proofs.ThereLaws.{formula-there}
use Rattle.readouts.specs.Clash.{Clashes, arities, Means}
use Rattle.readouts.proofs.ClashLaws.{arities_mean, arities-only, clash-low, book-uses-count}
use Rattle.readouts.specs.Outcome.{refusal, done, filled, Reads, refuses, two_arities, no_room, reads, room, read_answer, read_book, names_read}
use Rattle.readouts.specs.Is.{Is}

module _ (text books lists : List ℕ) where
  -- The answer, case by case

  pub is-refused : (code place : ℕ) → Reader.reading text ≡ Reader.refused code place → Is text books lists (refusal code place) books lists
  unfolding read_answer read_book names_read
  is-refused code place e = record { answer = rw e refl; book_is = rw e refl; names_are = rw e refl }

  module _ (cs : List Rule) (e : Reader.reading text ≡ Reader.read cs) where
    pub is-two : (k : ℕ) → arities (book_uses (book cs)) ≡ Some k → Is text books lists (refusal 7 (formula_place text k)) books lists
    unfolding read_answer read_book names_read
    is-two k a = record { answer = rw (e, a) refl; book_is = rw (e, a) refl; names_are = rw (e, a) refl }

    module _ (a : arities (book_uses (book cs)) ≡ None) where
      pub is-no-room : room text books lists cs ≡ false → Is text books lists (refusal 43 0) books lists
      unfolding read_answer read_book names_read
      is-no-room r = record { answer = rw (e, a, r) refl; book_is = rw (e, a, r) refl; names_are = rw (e, a, r) refl }

      pub is_read : room text books lists cs ≡ true → Is text books lists (done (length (encode_book (book cs))) (length (name_list cs))) (filled (encode_book (book cs)) books) (filled (name_list cs) lists)
      unfolding read_answer read_book names_read
      is_read r = record { answer = rw (e, a, r) refl; book_is = rw (e, a, r) refl; names_are = rw (e, a, r) refl }

  -- Room

  module _ (cs : List Rule) where
    abbrev b : ℕ
    b = length (encode_book (book cs))

    abbrev n : ℕ
    n = length (name_list cs)

    room-means : room text books lists cs ≡ true → (b ≤ length books) × (n ≤ length lists)
    room-means r =
        cases (leb b (length books)) (λ h. (leb-true b (length books) h, leb-true n (length lists) (rw h at r)))
        (λ h. let z : ◌≡◌ {A = ℕ} 0 1 = cc (rw h at r) in absurd (omega arith))

    full-means : room text books lists cs ≡ false → (length books < b) ⊎ (length lists < n)
    full-means r = cases (leb b (length books)) (λ h. inr (leb-false n (length lists) (rw h at r))) (λ h. inl (leb-false b (length books) h))

    pub room-is : b ≤ length books → n ≤ length lists → room text books lists cs ≡ true
    room-is h k = rw (le-leb b (length books) h, le-leb n (length lists) k) refl

    pub full_is : (length books < b) ⊎ (length lists < n) → room text books lists cs ≡ false
    full_is (inl h) = rw (lt-leb b (length books) h) refl
    full_is (inr h) = cases (leb b (length books)) (λ g. rw (g, lt-leb n (length lists) h) refl) (λ g. rw g refl)

  -- It is an outcome as told

  given : {p : ReadText} {c l : List ℕ} → Is text books lists p c l → Reads text books lists p c l → Reads text books lists (read_answer text books lists) (read_book text books lists) (names_read text books lists)
  given {p} {c} {l} i h =
      subst (λ (x : List ℕ). Reads text books lists (read_answer text books lists) (read_book text books lists) x) i.names_are
      (subst (λ (x : List ℕ). Reads text books lists (read_answer text books lists) x l) i.book_is (subst (λ (x : ReadText). Reads text books lists x c l) i.answer h))

  own-reading : (cs : List Rule) → Reader.reading text ≡ Reader.read cs → Reading text (book cs) (name_list cs)
  own-reading cs e = let s = reading-sound text cs e in record { rules = cs; writes = s.writes; sized = s.sized; short = s.short; book_is = refl; list_is = refl }

  told-read : (cs : List Rule) → Reader.reading text ≡ Reader.read cs → (a : Option ℕ) → arities (book_uses (book cs)) ≡ a → Means (book_uses (book cs)) a →
      Reads text books lists (read_answer text books lists) (read_book text books lists) (names_read text books lists)
  told-read cs e (Some k) q m =
      given (is-two cs e k q) (two_arities (own-reading cs e) m (formula-there text cs k (reading-sound text cs e).writes (omega (arith, clash-low m, book-uses-count cs))))
  told-read cs e None q m =
      cases (room text books lists cs) (λ r. let f = room-means cs r in given (is_read cs e q r) (reads (own-reading cs e) m f.0 f.1))
      (λ r. given (is-no-room cs e q r) (no_room (own-reading cs e) m (full-means cs r)))

  told : (o : Reader.Outcome) → Reader.reading text ≡ o → Reads text books lists (read_answer text books lists) (read_book text books lists) (names_read text books lists)
  told (Reader.refused code place) e = given (is-refused code place e) (refuses ((refusal_iff text code place).0 e))
  told (Reader.read cs) e = told-read cs e (arities (book_uses (book cs))) refl (arities_mean (book_uses (book cs)))

  pub outcome-reads : Reads text books lists (read_answer text books lists) (read_book text books lists) (names_read text books lists)
  outcome-reads = told (Reader.reading text) refl

  -- and the only one

  module _ {c : Next.Book} {list : List ℕ} (r : Reading text c list) where
    read_as : Reader.reading text ≡ Reader.read r.rules
    read_as = reading-complete text r.rules (record { writes = r.writes; sized = r.sized; short = r.short })

    one_arity : OneArity (book_uses c) → arities (book_uses (book r.rules)) ≡ None
    one_arity o = arities-only (book_uses (book r.rules)) None (subst (λ (x : Next.Book). OneArity (book_uses x)) r.book_is o)

    once_two : (k at : ℕ) → Clashes (book_uses c) k → FormulaAt text k at → Is text books lists (refusal 7 at) books lists
    once_two k at d f =
        subst (λ (i : ℕ). Is text books lists (refusal 7 i) books lists) (inv (place_is f))
        (is-two r.rules read_as k (arities-only (book_uses (book r.rules)) (Some k) (subst (λ (x : Next.Book). Clashes (book_uses x) k) r.book_is d)))

    once_full : OneArity (book_uses c) → (length books < length (encode_book c)) ⊎ (length lists < length list) → Is text books lists (refusal 43 0) books lists
    once_full o h =
        is-no-room r.rules read_as (one_arity o)
        (full_is r.rules
        (subst (λ (x : List ℕ). (length books < length (encode_book (book r.rules))) ⊎ (length lists < length x)) r.list_is
        (subst (λ (x : Next.Book). (length books < length (encode_book x)) ⊎ (length lists < length list)) r.book_is h)))

    once_read : OneArity (book_uses c) → length (encode_book c) ≤ length books → length list ≤ length lists → Is text books lists (done (length (encode_book c)) (length list)) (filled (encode_book c) books) (filled list lists)
    once_read o h k =
        subst (λ (x : List ℕ). Is text books lists (done (length (encode_book c)) (length x)) (filled (encode_book c) books) (filled x lists)) (inv r.list_is)
        (subst (λ (x : Next.Book). Is text books lists (done (length (encode_book x)) (length (name_list r.rules))) (filled (encode_book x) books) (filled (name_list r.rules) lists)) (inv r.book_is)
        (is_read r.rules read_as (one_arity o)
        (room-is r.rules (subst (λ (x : Next.Book). length (encode_book x) ≤ length books) r.book_is h) (subst (λ (x : List ℕ). length x ≤ length lists) r.list_is k))))

  pub read_once : {p : ReadText} {c l : List ℕ} → Reads text books lists p c l → Is text books lists p c l
  read_once (refuses {code} {place} f) = is-refused code place ((refusal_iff text code place).1 f)
  read_once (two_arities {k = k} {at = at} r d f) = once_two r k at d f
  read_once (no_room r o h) = once_full r o h
  read_once (reads r o h k) = once_read r o h k
