-- From what the pass over a text ends with to what is answered.
use Rattle.std.specs.Prelude.{Option, Some, None}
use Prim.Native.Nat.{ℕ, suc, ◌+◌, ◌-◌, ◌≤◌, ◌<◌}
use mathlib.Core.Path.{◌≡◌, refl, sym as inv, ap, ap₂, ◌∙◌, subst}
use mathlib.Core.Logic.{inl, inr}
use mathlib.Core.List.{List, [], ◌∷◌, ◌++◌}
use native.Mathlib.Omega.{arith}
use borrow.Author.Tests.{lt-ltb, le-ltb}
use lib.ListN.{length, set, take, drop, replicate, length-replicate, length-set}
use lib.Seq.{take-suc-set, take-length}
use lib.Dec.{ltb}
use Rattle.terms.specs.Cases.{cases}
use Rattle.search.specs.Next as Next
use Rattle.format.specs.Format.{GoodBook, encode_book}
use Rattle.format.specs.Decode.{book_of}
use Rattle.format.specs.Arities.{book_uses, Memory}
use Rattle.format.proofs.Decoding.{book_of-image}
use Rattle.grammar.specs.Names.{book, names, name_list}
use Rattle.grammar.specs.GoodLaws.{sized-good}
use Rattle.grammar.specs.Syntax.{Rule}
use Rattle.reading.specs.Part.{formulas, between, state, rules_of}
use Rattle.reading.specs.Reader as Reader
use Rattle.reading.specs.Reader.{Outcome, fitting, reading}
use Rattle.reading.proofs.ReadingLaws.{reading-sound}
use Rattle.reading.proofs.Refusal.{refusal}
use Rattle.nametable.specs.Table.{word}
use Rattle.symbols.specs.Sections.{Holds}
use Rattle.drafts.specs.declared.Draft.{Draft}
use Rattle.drafts.specs.declared.Kind.{Kind}
use Rattle.drafts.specs.declared.Kind.TheVariants.{Constant, Compound, Predicate}
use Rattle.drafts.specs.Drafted.{sort_of_kind, section_of}
use Rattle.std.specs.Prelude.{Result, Ok, Err}
use Rattle.pieces.specs.declared.Refusal.{Refusal}
use Rattle.pieces.specs.Refusal.{number}
use Rattle.reader.specs.Kept.{Kept}
use Rattle.reader.specs.Walking.{whole, Rules, Ends, Empty}
use Rattle.reader.specs.Book.{tables-are}
use Rattle.reader.specs.Outcome.{HoldsBook, ends-refused, ends-long, ends_read}
use Rattle.reader.specs.Start.{Zeros, fresh-empty}
use Rattle.records.proofs.Tables.{zeros-met}
use Rattle.storage.specs.Storage.{Written}
use Rattle.readouts.specs.declared.ReadText.{ReadText}
use Rattle.readouts.specs.Place.{formula_place}
use Rattle.readouts.specs.Clash.{arities}
use Rattle.readouts.specs.Outcome as Outcome
use Rattle.readouts.specs.Outcome.{done, filled}
use Rattle.readouts.proofs.OutcomeLaws.{is-refused, is-two, is-no-room, is_read, room-is, full_is}
use Rattle.readouts.specs.Is.{Is}
use Rattle.readouts.proofs.Good.{refusal-low}
use Rattle.texts.specs.Finished.{Came, Named, Finished, KeptOne, list_bytes, list_size}
use Rattle.texts.proofs.Names.{section_heard, section_within, list-named, list-long}

answers : {text books lists books' lists' : List ℕ} {p r : ReadText} → r ≡ p → Is text books lists p books' lists' → Is text books lists r books' lists'
answers {text} {books} {lists} {books'} {lists'} e i = subst (λ (x : ReadText). Is text books lists x books' lists') (inv e) i

-- The storage at the start

zeros : (k : ℕ) → Zeros (replicate {A = ℕ} k 0)
zeros k i = ap (λ (m : Memory). m i) (zeros-met k)

pub fresh : (text : List ℕ) → Empty text (replicate {A = ℕ} 33800 0) (replicate {A = ℕ} 256 0) (replicate {A = ℕ} 28160 0) (replicate {A = ℕ} 28160 0) (replicate {A = ℕ} 12288 0) (replicate {A = ℕ} 28160 0)
fresh text =
    fresh-empty text (replicate {A = ℕ} 33800 0) (replicate {A = ℕ} 256 0) (replicate {A = ℕ} 28160 0) (replicate {A = ℕ} 28160 0) (replicate {A = ℕ} 12288 0) (replicate {A = ℕ} 28160 0)
    (record {
      out_long = length-replicate {A = ℕ} 33800 0;
      opens_long = length-replicate {A = ℕ} 256 0;
      starts_long = length-replicate {A = ℕ} 28160 0;
      lens_long = length-replicate {A = ℕ} 28160 0;
      heads_long = length-replicate {A = ℕ} 12288 0;
      nexts_long = length-replicate {A = ℕ} 28160 0;
      heads_zero = zeros 12288;
    })

-- Refusals

pub too_long : (text books lists : List ℕ) (r : ReadText) → 65536 < length text → r ≡ Outcome.refusal 40 0 → Is text books lists r books lists
unfolding reading
too_long text books lists r h e = answers e (is-refused text books lists 40 0 (rw (lt-ltb 65536 (length text) h) refl))

module _ (text out starts lens : List ℕ) (e : Result Draft Refusal) (k : Refusal) (c : Came text out starts lens e) (q : e ≡ Err k) where
  refused_as : reading text ≡ Reader.refused (number k.code) k.place
  refused_as = ends-refused k c.short (subst (Ends text out c.opens starts lens c.heads c.nexts) q c.ends)

  pub refused-place : k.place ≤ 65536
  refused-place = omega (arith, refusal-low (refusal text (number k.code) k.place refused_as), c.short)

  pub refused-is : (books lists : List ℕ) (code : ℕ) (r : ReadText) → code ≡ number k.code → r ≡ Outcome.refusal code k.place → Is text books lists r books lists
  refused-is books lists code r p f = answers (f ∙ ap (λ (n : ℕ). Outcome.refusal n k.place) p) (is-refused text books lists (number k.code) k.place refused_as)

pub came-read : (text out starts lens : List ℕ) (e : Result Draft Refusal) (b : Draft) → e ≡ Ok b → Came text out starts lens e → Came text out starts lens (Ok b)
came-read text out starts lens e b q c = subst (Came text out starts lens) q c

module _ (text out starts lens : List ℕ) (b : Draft) (c : Came text out starts lens (Ok b)) where
  pub long-is : (books lists : List ℕ) (r : ReadText) → 32769 < b.from → r ≡ Outcome.refusal 5 (length text) → Is text books lists r books lists
  long-is books lists r h f = answers f (is-refused text books lists 5 (length text) (ends-long c.short c.ends h))

  module _ (low : b.from ≤ 32769) where
    abbrev rs : Rules text out c.opens starts lens c.heads c.nexts b
    rs = c.ends.ends_with

    abbrev held : HoldsBook text out b
    held = ends_read c.short c.ends low

    abbrev kept : Kept text out c.opens starts lens c.heads c.nexts b (state rs.rules (formulas []) between)
    kept = rs.sofar.kept low

    fitting-rules : (o : Outcome) (cs ds : List Rule) → o ≡ Reader.read cs → fitting (length text) o ≡ Reader.read ds → cs ≡ ds
    fitting-rules o cs ds q f =
        let g : fitting (length text) (Reader.read cs) ≡ Reader.read ds = rw q at f in
        cases (ltb 32768 (length (encode_book (book cs))))
        (λ t. let z : ◌≡◌ {A = ℕ} 0 1 = cc (rw t at g) in absurd (omega arith))
        (λ t. cc (rw t at g))

    same-rules : rules_of rs.rules [] ≡ held.rules
    unfolding reading
    same-rules = fitting-rules (whole text) (rules_of rs.rules []) held.rules rs.reads (rw (le-ltb 65536 (length text) c.short) at held.reads)

    none_open : b.len ≡ 0
    none_open = kept.built.weighed

    pub end-inside : b.from - 2 < length out
    end-inside = omega (arith, kept.built.drafted.long, low)

    pub end-start : 2 ≤ b.from
    end-start = omega (arith, held.behind)

    section : (k : Kind) → Holds text starts lens c.heads c.nexts (section_of b k) (names held.rules (sort_of_kind k))
    section k =
        subst (Holds text starts lens c.heads c.nexts (section_of b k)) (tables-are rs.rules (sort_of_kind k) ∙ ap (λ (cs : List Rule). names cs (sort_of_kind k)) same-rules) (kept.built.drafted.tables k)

    constants_few : b.constants ≤ 11264
    constants_few = omega (arith, kept.built.drafted.constants_few, none_open, low)

    compounds_few : b.compounds ≤ 8448
    compounds_few = omega (arith, kept.built.drafted.compounds_few, none_open, low)

    predicates_few : b.predicates ≤ 8448
    predicates_few = omega (arith, kept.built.drafted.predicates_few, none_open, low)

    named : Named text starts lens b
    named =
        record {
          constants_few = constants_few;
          compounds_few = compounds_few;
          predicates_few = predicates_few;
          starts_long = (section Predicate).starts_room;
          lens_long = (section Predicate).lens_room;
          constants = section_within (section Constant) constants_few;
          compounds = section_within (section Compound) compounds_few;
          predicates = section_within (section Predicate) predicates_few;
        }

    image_is : take (b.from - 2 + 1 - 0) (drop 0 (set out (b.from - 2) 7)) ≡ encode_book (book held.rules)
    image_is =
        let end = b.from - 2 in
        ap (λ (i : ℕ). take i (set out end 7)) (let z : end + 1 - 0 ≡ suc end = omega arith in z)
        ∙ take-suc-set out end 7 end-inside
        ∙ ap (λ (i : ℕ). take i out ++ (7 ∷ [])) (let s : end ≡ held.start = omega (arith, held.behind) in s)
        ∙ held.book_is

    pub stop-inside : b.from - 2 + 1 ≤ length (set out (b.from - 2) 7)
    stop-inside = omega (arith, length-set out (b.from - 2) 7, end-inside)

    pub came-finished : Finished text starts lens (take (b.from - 2 + 1 - 0) (drop 0 (set out (b.from - 2) 7))) b
    came-finished =
        record {
          rules = held.rules;
          reads = held.reads;
          image_is = image_is;
          named = named;
          list_is = list-named held.rules _ _ _ (section_heard (section Constant) constants_few) (section_heard (section Compound) compounds_few) (section_heard (section Predicate) predicates_few);
          short = c.short;
        }

-- A book that is read

module _ (text starts lens image : List ℕ) (b : Draft) (f : Finished text starts lens image b) where
  book_good : GoodBook (book f.rules)
  book_good = sized-good f.rules (reading-sound text f.rules f.reads).sized

  same-book : book_of image ≡ book f.rules
  same-book = ap book_of f.image_is ∙ book_of-image (book f.rules) book_good

  pub finished-good : GoodBook (book_of image)
  finished-good = subst GoodBook (inv same-book) book_good

  pub finished-image : encode_book (book_of image) ≡ image
  finished-image = ap encode_book same-book ∙ inv f.image_is

  pub finished-one : (a : Option ℕ) → a ≡ arities (book_uses (book_of image)) → a ≡ None → KeptOne text starts lens image b
  finished-one a e q = record { finished = f; one = ap (λ (x : Next.Book). arities (book_uses x)) (inv same-book) ∙ inv e ∙ q }

  pub finished-two : (books lists : List ℕ) (a : Option ℕ) (k place : ℕ) (r : ReadText) → a ≡ arities (book_uses (book_of image)) → a ≡ Some k → place ≡ formula_place text k → r ≡ Outcome.refusal 7 place →
      Is text books lists r books lists
  finished-two books lists a k place r e q p s =
      answers (s ∙ ap (Outcome.refusal 7) p)
      (is-two text books lists f.rules f.reads k (ap (λ (x : Next.Book). arities (book_uses x)) (inv same-book) ∙ inv e ∙ q))

pub image-low : (text starts lens image : List ℕ) (b : Draft) → KeptOne text starts lens image b → length image ≤ 32768
image-low text starts lens image b o = omega (arith, ap length o.finished.image_is, (book_good text starts lens image b o.finished).short)

module _ (text books lists starts lens image : List ℕ) (b : Draft) (o : KeptOne text starts lens image b) (size : ℕ) (size_is : size ≡ list_size lens b) where
  abbrev cs : List Rule
  cs = o.finished.rules

  image-long : length image ≡ length (encode_book (book cs))
  image-long = ap length o.finished.image_is

  names_long : size ≡ length (name_list cs)
  names_long = size_is ∙ inv (list-long text starts lens b o.finished.named) ∙ ap length o.finished.list_is

  pub no-room-book : (r : ReadText) → length books < length image → r ≡ Outcome.refusal 43 0 → Is text books lists r books lists
  no-room-book r h e = answers e (is-no-room text books lists cs o.finished.reads o.one (full_is text books lists cs (inl (omega (arith, h, image-long)))))

  pub no-room-names : (r : ReadText) → length lists < size → r ≡ Outcome.refusal 43 0 → Is text books lists r books lists
  no-room-names r h e = answers e (is-no-room text books lists cs o.finished.reads o.one (full_is text books lists cs (inr (omega (arith, h, names_long)))))

  pub given : (books' lists' : List ℕ) (m n : ℕ) (r : ReadText) → length image ≤ length books → size ≤ length lists → Written (word image 0 (length image)) books books' m → Written (list_bytes text starts lens b) lists lists' n →
      r ≡ done (length image) size → Is text books lists r books' lists'
  given books' lists' m n r h k u v e =
      let i =
      is_read text books lists cs o.finished.reads o.one
      (room-is text books lists cs (subst (λ (x : ℕ). x ≤ length books) image-long h) (subst (λ (x : ℕ). x ≤ length lists) names_long k)) in
      let book_is : books' ≡ filled (encode_book (book cs)) books =
      u.holds ∙ ap (λ (x : ℕ). word image 0 (length image) ++ drop x books) u.count ∙ ap (λ (x : List ℕ). x ++ drop (length x) books) (take-length image ∙ o.finished.image_is) in
      let names_are : lists' ≡ filled (name_list cs) lists =
      v.holds ∙ ap (λ (x : ℕ). list_bytes text starts lens b ++ drop x lists) v.count ∙ ap (λ (x : List ℕ). x ++ drop (length x) lists) o.finished.list_is in
      record {
        answer = e ∙ ap₂ done image-long names_long ∙ i.answer;
        book_is = book_is ∙ i.book_is;
        names_are = names_are ∙ i.names_are;
      }
