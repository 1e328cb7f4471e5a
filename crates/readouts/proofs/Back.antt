-- Printing and reading together (document 02, C-14), over the two entries' contracts: what printing a book leaves, reading answers with the same book, renumbered one to one, and with
-- nothing else but 43; and a book that was read, printed and read again is as it was, with its names.
use Rattle.std.specs.Prelude.{ℕ, ◌≤◌, ◌<◌, ◌≡◌, refl, ◌⊎◌, List, length, take}
use Rattle.std.proofs.Common.{sym as inv, ap, ◌∙◌, subst, inl, inr}
use Rattle.terms.specs.Node.{Expr}
use Rattle.search.specs.Next as Next
use Rattle.format.specs.declared.Check.{Check}
use Rattle.format.specs.Format.{Bytes, encode_book}
use Rattle.format.specs.Reading.{book_verdict}
use Rattle.format.specs.Decode.{book_of}
use Rattle.format.specs.Arities.{book_uses, OneArity}
use Rattle.format.proofs.Decoding.{book_of-good, book_of-one, book_of-image}
use Rattle.grammar.specs.Syntax.{Rule}
use Rattle.grammar.specs.Names.{names, book}
use Rattle.grammar.specs.Reading.{Reading}
use Rattle.grammar.specs.GoodLaws.{reading-good}
use Rattle.printing.specs.Named.{Naming, printed}
use Rattle.printing.specs.Renumbered.{Renumbering, renumber_book, book_nodes, OneToOne}
use Rattle.printing.specs.ImageLaws.{book-long}
use Rattle.printing.proofs.ArityLaws.{renumbered-one}
use Rattle.namelist.specs.List.{Entry, IsList}
use Rattle.namelist.specs.Meaning.{entries-one}
use Rattle.namelist.specs.NamingLaws.{AllNamed, Named}
use Rattle.printouts.specs.declared.Printout.{Printout}
use Rattle.printouts.specs.Outcome.{Prints, not_good, no_list, no_name, no_room, prints, print_answer, print_area}
use Rattle.printouts.proofs.OutcomeLaws.{outcome-prints}
use Rattle.namelist.specs.Table.{table_entries}
use Rattle.printouts.proofs.Again as Printed
use Rattle.printouts.proofs.Again.{text_of}
use Rattle.readouts.specs.Outcome as Outcome
use Rattle.readouts.specs.Outcome.{refusal, done, filled, reads, read_answer, read_book, names_read}
use Rattle.readouts.proofs.OutcomeLaws.{read_once}
use Rattle.readouts.specs.Is.{Is}
use Rattle.readouts.proofs.Good.{Out, read_out, read-checked, read_names}

-- reading the text gives this book and these names where there is room for them, and 43 where there is none
pub record Gives (text : List ℕ) (b : Next.Book) (list : List ℕ) : Type 0 where
  pub given : (books lists : List ℕ) → length (encode_book b) ≤ length books → length list ≤ length lists →
      Is text books lists (done (length (encode_book b)) (length list)) (filled (encode_book b) books) (filled list lists)
  pub full : (books lists : List ℕ) → (length books < length (encode_book b)) ⊎ (length lists < length list) → Is text books lists (refusal 43 0) books lists

gives : {text : List ℕ} {b : Next.Book} {list : List ℕ} → Reading text b list → OneArity (book_uses b) → Gives text b list
gives {text} r o = record { given = λ books lists h k. read_once text books lists (reads r o h k); full = λ books lists h. read_once text books lists (Outcome.no_room r o h) }

module _ (bytes names area : List ℕ) (book-bytes : Bytes bytes) (names-bytes : Bytes names) (zero-code : (print_answer bytes names area).code ≡ 0) where
  abbrev b : Next.Book
  b = book_of bytes

  abbrev text : List ℕ
  text = text_of bytes names area book-bytes names-bytes zero-code

  one_arity : {c : Next.Book} {list : List ℕ} → Reading text c list → OneArity (book_uses c)
  one_arity r =
      let q = Printed.read-renumbered bytes names area book-bytes names-bytes zero-code r in
      subst (λ (c : Next.Book). OneArity (book_uses c)) (inv q.1) (renumbered-one q.0 b q.2 (book_of-one bytes book-bytes (Printed.checked bytes names area book-bytes names-bytes zero-code)))

  -- "otherwise the same book up to a one-to-one renumbering of symbols"
  pub record Renumbered : Type 0 where
    pub renumbering : Renumbering
    pub one_to_one : OneToOne renumbering (book_nodes b)
    pub list : List ℕ
    pub gives : Gives text (renumber_book renumbering b) list
    -- an area as long as the book has room for it
    pub as_long : length (encode_book (renumber_book renumbering b)) ≡ length bytes
    -- "the same book if its symbols are already numbered as C-13 would"
    pub same : (cs : List Rule) → b ≡ book cs → renumber_book renumbering b ≡ b

  renumbered : {c : Next.Book} {list : List ℕ} → Reading text c list → Renumbered
  renumbered {c} {list} r =
      let q = Printed.read-renumbered bytes names area book-bytes names-bytes zero-code r in
      record {
        renumbering = q.0;
        one_to_one = q.2;
        list = list;
        gives = subst (λ (d : Next.Book). Gives text d list) q.1 (gives r (one_arity r));
        as_long = book-long q.0 b ∙ ap length (book_of-good bytes book-bytes (Printed.checked bytes names area book-bytes names-bytes zero-code)).1;
        same = λ cs is. inv q.1 ∙ Printed.read_same bytes names area book-bytes names-bytes zero-code cs is r;
      }

  pub printed-then-read : Renumbered
  printed-then-read = renumbered (Printed.is_read bytes names area book-bytes names-bytes zero-code)

-- where the book is good and the list names all its symbols, 46 is the only refusal
names-all : {found : Check} {e : Expr} {text : Naming → List ℕ} {names area : List ℕ} {p : Printout} {s : List ℕ} → Prints found e text names area p s → found.code ≡ 0 →
    (l : List Entry) → IsList names l → AllNamed l e → (p.code ≡ 0) ⊎ (p.code ≡ 46)
names-all (not_good n) z l i a = absurd (n z)
names-all (no_list g n) z l i a = absurd (n l i)
names-all {names = n} (no_name {l = k} g h u) z l i a = absurd (u.nameless (subst (λ (m : List Entry). Named m u.sort u.number) (entries-one n l k i h) (a u.sort u.number u.used)))
names-all (no_room g h u w) z l i a = inr refl
names-all (prints g h u v w) z l i a = inl refl

-- A book that was read, and is printed with its names

module _ (text₀ books lists : List ℕ) (taken : (read_answer text₀ books lists).code ≡ 0) where
  abbrev bytes₀ : List ℕ
  bytes₀ = take (read_answer text₀ books lists).book (read_book text₀ books lists)

  abbrev names₀ : List ℕ
  names₀ = take (read_answer text₀ books lists).names (names_read text₀ books lists)

  abbrev o : Out text₀ (read_answer text₀ books lists) (read_book text₀ books lists) (names_read text₀ books lists)
  o = read_out text₀ books lists taken

  same-book : book_of bytes₀ ≡ o.book
  same-book = ap book_of o.image ∙ book_of-image o.book (reading-good o.reading)

  -- printing refuses it with no code but 46
  pub read-then-printed : (area : List ℕ) → Bytes names₀ → ((print_answer bytes₀ names₀ area).code ≡ 0) ⊎ ((print_answer bytes₀ names₀ area).code ≡ 46)
  read-then-printed area names-bytes =
      names-all (outcome-prints (book_verdict bytes₀) (book_nodes (book_of bytes₀)) (λ name. printed name (book_of bytes₀)) names₀ area names-bytes) (ap (λ (c : Check). c.code) (read-checked text₀ books lists taken))
      (table_entries (names o.reading.rules)) (read_names text₀ books lists taken)
      (subst (λ (c : Next.Book). AllNamed (table_entries (names o.reading.rules)) (book_nodes c)) (inv same-book) (Printed.read_named text₀ o.list o.book o.reading))

  module _ (area : List ℕ) (book-bytes : Bytes bytes₀) (names-bytes : Bytes names₀) (zero-code : (print_answer bytes₀ names₀ area).code ≡ 0) where
    abbrev Same : Next.Book → List ℕ → List ℕ → List ℕ → Type 0
    Same c list bytes names =
        Bytes bytes → Bytes names → (print_answer bytes names area).code ≡ 0 → Reading (take (print_answer bytes names area).bytes (print_area bytes names area)) c list → (c ≡ o.book) × (list ≡ o.list)

    as_it_was : {c : Next.Book} {list : List ℕ} → Reading (text_of bytes₀ names₀ area book-bytes names-bytes zero-code) c list → (c ≡ o.book) × (list ≡ o.list)
    as_it_was {c} {list} r =
        subst (λ (bytes : List ℕ). Same c list bytes names₀) (inv o.image)
        (subst (λ (names : List ℕ). Same c list (encode_book o.book) names) (inv o.names_are) (λ x y z q. Printed.again text₀ o.list o.book o.reading area x y z q)) book-bytes names-bytes zero-code r

    gives_same : {c : Next.Book} {list : List ℕ} → Reading (text_of bytes₀ names₀ area book-bytes names-bytes zero-code) c list → Gives (text_of bytes₀ names₀ area book-bytes names-bytes zero-code) o.book names₀
    gives_same {c} {list} r =
        let s = as_it_was r in
        subst (λ (d : Next.Book). Gives (text_of bytes₀ names₀ area book-bytes names-bytes zero-code) d names₀) s.0
        (subst (Gives (text_of bytes₀ names₀ area book-bytes names-bytes zero-code) c) (s.1 ∙ inv o.names_are) (gives r (one_arity bytes₀ names₀ area book-bytes names-bytes zero-code r)))

    -- "printing what was read and reading it again changes nothing": the same bytes and the same names
    pub read-printed-read : Gives (text_of bytes₀ names₀ area book-bytes names-bytes zero-code) o.book names₀
    read-printed-read = gives_same (Printed.is_read bytes₀ names₀ area book-bytes names-bytes zero-code)
