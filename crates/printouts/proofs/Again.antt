-- What is printed is read again (document 02, C-14), over the two contracts: the printed text is read as the book, renumbered one to one, and as the same book if its symbols are
-- already numbered as C-13 would; printing what was read and reading it again changes nothing.
use Rattle.std.specs.Prelude.{ℕ, zero, suc, ◌≤◌, ◌<◌, ◌≡◌, refl, ◌⊎◌, true, List, [], ◌∷◌, ◌++◌, length, get_or, take, drop}
use Rattle.std.proofs.Common.{sym as inv, ap, ap₂, ◌∙◌, subst, inl, inr, arith, take-suc}
use Rattle.std.proofs.Math.Decide.{dec_lt}
use Rattle.std.proofs.Math.Seq.{take-append_seam, take-length}
use Rattle.terms.specs.Node.{constant, compound, predicate, var, sym, Expr}
use Rattle.search.specs.Next as Next
use Rattle.words.specs.Flat.{flat}
use Rattle.format.specs.declared.Check.{Check}
use Rattle.format.specs.Format as Format
use Rattle.format.specs.Format.{terms_none, terms_var, terms_constant, terms_compound, formula, IsFormula, AreFormulas, GoodClauses, GoodBook, Bytes, encode_book}
use Rattle.format.specs.Reading.{book_verdict}
use Rattle.format.specs.Decode.{book_of}
use Rattle.format.proofs.Decoding.{book_of-good, book_of-image}
use Rattle.grammar.specs.Syntax.{Rule}
use Rattle.grammar.specs.Names as Names
use Rattle.grammar.specs.Names.{Sort, Constant, Compound, Predicate, symbol_for, text_spots, names, book, list_of, name_list}
use Rattle.grammar.specs.Reading.{Reading, reading-one}
use Rattle.grammar.specs.GoodLaws.{reading-good}
use Rattle.printing.specs.Named.{Naming, printed, named_rules}
use Rattle.printing.specs.Renumbered.{Renumbering, renumber_book, Uses, book_nodes, OneToOne}
use Rattle.printing.proofs.UseLaws.{names_are, Distinct}
use Rattle.printing.specs.FirstLaws.{names_below}
use Rattle.printing.specs.Fit.{AllFit}
use Rattle.printing.proofs.OrderLaws.{Coded, book-coded, all-used, used_low, same_names, symbol-same}
use Rattle.printing.proofs.Theorem.{renumbering, low-one, printed-reads, printed-back, printed-same}
use Rattle.namelist.specs.List.{Entry, IsList, naming}
use Rattle.namelist.specs.Meaning.{entries-one}
use Rattle.namelist.specs.NamingLaws.{AllNamed, some, named-means, named-fit, named-distinct}
use Rattle.namelist.specs.Table.{EachFit, table_entries, table-naming}
use Rattle.namelist.specs.SpeltLaws.{writes-right, names-fit}
use Rattle.printouts.specs.declared.Printout.{Printout}
use Rattle.printouts.specs.Outcome.{Prints, not_good, no_list, no_name, no_room, prints, print_answer, print_area, PrintsBook}
use Rattle.printouts.proofs.OutcomeLaws.{outcome-prints}
use Rattle.printouts.proofs.OwnLaws.{own-list}

-- Code 0: the text stands at the area's front

pub record Out (e : Expr) (text : Naming → List ℕ) (names area : List ℕ) (p : Printout) (s : List ℕ) : Type 0 where
  pub entries : List Entry
  pub list : IsList names entries
  pub all : AllNamed entries e
  pub short : length (text (naming entries)) ≤ 65536
  pub front : take p.bytes s ≡ text (naming entries)

pub out : {found : Check} {e : Expr} {text : Naming → List ℕ} {names area : List ℕ} {p : Printout} {s : List ℕ} → Prints found e text names area p s → p.code ≡ 0 → Out e text names area p s
out (not_good n) z = absurd (n z)
out (no_list g n) z = absurd (omega (arith, z))
out (no_name g l u) z = absurd (omega (arith, z))
out (no_room g l u w) z = absurd (omega (arith, z))
out {text} {area} (prints {l} g list all a b) z =
    record { entries = l; list = list; all = all; short = a; front = take-append_seam (text (naming l)) (drop (length (text (naming l))) area) }

pub code-good : {found : Check} {e : Expr} {text : Naming → List ℕ} {names area : List ℕ} {p : Printout} {s : List ℕ} → Prints found e text names area p s → p.code ≡ 0 → found.code ≡ 0
code-good (not_good n) z = absurd (n z)
code-good (no_list g n) z = g
code-good (no_name g l u) z = g
code-good (no_room g l u w) z = g
code-good (prints g list all a b) z = g

module _ (bytes names area : List ℕ) (book-bytes : Bytes bytes) (names-bytes : Bytes names) (zero-code : (print_answer bytes names area).code ≡ 0) where
  abbrev b : Next.Book
  b = book_of bytes

  -- "Write a good book with its name list as text"
  abbrev pub text_of : List ℕ
  text_of = take (print_answer bytes names area).bytes (print_area bytes names area)

  told : PrintsBook bytes names area (print_answer bytes names area) (print_area bytes names area)
  told = outcome-prints (book_verdict bytes) (book_nodes b) (λ name. printed name b) names area names-bytes

  pub printed-out : Out (book_nodes b) (λ name. printed name b) names area (print_answer bytes names area) (print_area bytes names area)
  printed-out = out told zero-code

  abbrev name : Naming
  name = naming printed-out.entries

  pub checked : (book_verdict bytes).code ≡ 0
  checked = code-good told zero-code

  good : GoodBook b
  good = (book_of-good bytes book-bytes checked).0

  fit : AllFit name (book_nodes b)
  fit = named-fit printed-out.entries printed-out.list.proper (book_nodes b) printed-out.all

  distinct : Distinct name (book_nodes b)
  distinct = named-distinct printed-out.entries printed-out.list.proper (book_nodes b) printed-out.all printed-out.list.apart

  -- it is read
  pub is_read : Reading text_of (book (named_rules name b)) (name_list (named_rules name b))
  is_read = subst (λ (t : List ℕ). Reading t (book (named_rules name b)) (name_list (named_rules name b))) (inv printed-out.front) (printed-reads name b good fit distinct printed-out.short)

  -- "the same book up to a one-to-one renumbering of symbols"
  pub read-renumbered : {c : Next.Book} {list : List ℕ} → Reading text_of c list →
      (ρ : Renumbering) × (c ≡ renumber_book ρ b) × OneToOne ρ (book_nodes b)
  read-renumbered {c} {list} r =
      let q = printed-back name b good fit distinct (subst (λ (t : List ℕ). Reading t c list) printed-out.front r) in
      (renumbering name b good fit distinct, q.0, q.1)

  -- "Reading the text gives the same book if its symbols are already numbered as C-13 would"
  pub read_same : (cs : List Rule) → b ≡ book cs → {c : Next.Book} {list : List ℕ} → Reading text_of c list → c ≡ b
  read_same cs is {c} {list} r = printed-same name b good fit distinct cs is (subst (λ (t : List ℕ). Reading t c list) printed-out.front r)

-- A book that was read, with its own list

pub lists-same : (g h : Sort → List (List ℕ)) → ((k : Sort) → g k ≡ h k) → list_of g ≡ list_of h
lists-same g h e =
    ap₂ (λ (x y : List ℕ). x ++ y) (ap (Names.entries Constant 0) (e Constant)) (ap₂ (λ (x y : List ℕ). x ++ y) (ap (Names.entries Compound 0) (e Compound)) (ap (Names.entries Predicate 0) (e Predicate)))

terms-low : (k : Sort) (n : ℕ) (e : Expr) → {m : ℕ} → Format.Terms m e → Uses k n e → n < 65536
terms-low k n [] terms_none u = absurd u
terms-low k n (var v ∷ e) (terms_var h t) (inl (a, p)) = let z : ◌≡◌ {A = ℕ} 0 1 = cc in absurd (omega arith)
terms-low k n (var v ∷ e) (terms_var h t) (inr u) = terms-low k n e t u
terms-low k n (sym (constant c) ∷ e) (terms_constant h t) (inl (a, p)) = omega (arith, h, (symbol-same Constant k c n 0 a p).1)
terms-low k n (sym (constant c) ∷ e) (terms_constant h t) (inr u) = terms-low k n e t u
terms-low k n (sym (compound f i) ∷ e) (terms_compound h l g t) (inl (a, p)) = omega (arith, h, (symbol-same Compound k f n i a p).1)
terms-low k n (sym (compound f i) ∷ e) (terms_compound h l g t) (inr u) = terms-low k n e t u
terms-low k n (sym (predicate _ _) ∷ e) {m = m} x8 u = elim x8 [ ]

uses_either : (k : Sort) (n : ℕ) (d e : Expr) → Uses k n (d ++ e) → Uses k n d ⊎ Uses k n e
uses_either k n [] e u = inr u
uses_either k n (x ∷ d) e (inl p) = inl (inl p)
uses_either k n (x ∷ d) e (inr u) = elim (uses_either k n d e u) [ inl v ↦ inl (inr v) | inr v ↦ inr v ]

formula-low : (k : Sort) (n : ℕ) (e : Expr) → IsFormula e → Uses k n e → n < 65536
formula-low k n (sym (predicate p i) ∷ e) (formula h l t) (inl (a, q)) = omega (arith, h, (symbol-same Predicate k p n i a q).1)
formula-low k n (sym (predicate p i) ∷ e) (formula h l t) (inr u) = terms-low k n e t u
formula-low k n [] x'' _ = elim x'' [ ]
formula-low k n (var _ ∷ e) x7 _ = elim x7 [ ]
formula-low k n (sym (constant _) ∷ e) x11 _ = elim x11 [ ]
formula-low k n (sym (compound _ _) ∷ e) x13 _ = elim x13 [ ]

formulas-low : (k : Sort) (n : ℕ) (g : Next.Goal) → AreFormulas g → Uses k n (flat g) → n < 65536
formulas-low k n [] h u = absurd u
formulas-low k n (f ∷ g) h u = elim (uses_either k n f (flat g) u) [ inl v ↦ formula-low k n f h.0 v | inr v ↦ formulas-low k n g h.1 v ]

-- numbers in a good book are of two bytes
used-two : (k : Sort) (n : ℕ) (b : Next.Book) → GoodClauses b → Uses k n (book_nodes b) → n < 65536
used-two k n [] h u = absurd u
used-two k n (c ∷ b) h u =
    elim (uses_either k n (flat (c.head ∷ c.body)) (book_nodes b) u) [ inl v ↦ formulas-low k n (c.head ∷ c.body) h.0.formulas v | inr v ↦ used-two k n b h.1 v ]

fit-some : (l : List (List ℕ)) (n : ℕ) → EachFit l → n < length l → some (get_or l n []) ≡ true
fit-some [] n f h = absurd (omega arith)
fit-some ([] ∷ l) zero f h = absurd f.0.spelt
fit-some ((c ∷ w) ∷ l) zero f h = refl
fit-some (w ∷ l) (suc n) f h = fit-some l n f.1 (omega arith)

below-is : (f : ℕ → List ℕ) (l : List (List ℕ)) (m : ℕ) → m ≤ length l → ((n : ℕ) → n < length l → f n ≡ get_or l n []) → names_below f m ≡ take m l
below-is f l zero h e = refl
below-is f l (suc m) h e =
    ap₂ (λ (x : List (List ℕ)) (w : List ℕ). x ++ (w ∷ [])) (below-is f l m (omega arith) e) (e m (omega arith)) ∙ inv (take-suc l m [] (omega arith))

module _ (text₀ list₀ : List ℕ) (b : Next.Book) (r : Reading text₀ b list₀) where
  abbrev cs : List Rule
  cs = r.rules

  abbrev read_good : GoodBook b
  read_good = reading-good r

  numbered : Coded (names cs) (text_spots cs) (book_nodes b)
  numbered = subst (λ (c : Next.Book). Coded (names cs) (text_spots cs) (book_nodes c)) (inv r.book_is) (book-coded (names cs) cs)

  few : (k : Sort) → length (names cs k) ≤ 65536
  few k = elim (dec_lt 65536 (length (names cs k))) [ yes p ↦ absurd (over (all-used k (names cs) 65536 [] numbered refl p)) | no p ↦ omega arith ]
    where
      over : (65536 < 0) ⊎ Uses k 65536 (book_nodes b) → ⊥
      over (inl h) = omega arith
      over (inr u) = omega (arith, used-two k 65536 b read_good.clauses u)

  each-fit : (k : Sort) → EachFit (names cs k)
  each-fit k = names-fit cs k (writes-right cs r.writes) r.sized.rules

  -- its list is a name list
  pub read-list : IsList list₀ (table_entries (names cs))
  read-list = subst (λ (s : List ℕ). IsList s (table_entries (names cs))) (inv r.list_is) (own-list cs few each-fit)

  -- and names all its symbols: printing refuses neither with 45 nor with 44
  pub read_named : AllNamed (table_entries (names cs)) (book_nodes b)
  read_named k n u =
      let l = used_low k (names cs) n [] numbered refl u in
      record { called = _; within = named-means (table_entries (names cs)) k n (ap some (table-naming (names cs) k n) ∙ fit-some (names cs k) n (each-fit k) l) }

  module _ (area : List ℕ) (book-bytes : Bytes (encode_book b)) (names-bytes : Bytes list₀) (zero-code : (print_answer (encode_book b) list₀ area).code ≡ 0) where
    abbrev o : Out (book_nodes (book_of (encode_book b))) (λ name. printed name (book_of (encode_book b))) list₀ area (print_answer (encode_book b) list₀ area) (print_area (encode_book b) list₀ area)
    o = printed-out (encode_book b) list₀ area book-bytes names-bytes zero-code

    same-book : book_of (encode_book b) ≡ b
    same-book = book_of-image b read_good

    same-name-of : (k : Sort) (n : ℕ) → n < length (names cs k) → naming o.entries k n ≡ get_or (names cs k) n []
    same-name-of k n h = ap (λ (l : List Entry). naming l k n) (entries-one list₀ o.entries (table_entries (names cs)) o.list read-list) ∙ table-naming (names cs) k n

    names-again : (k : Sort) → names (named_rules (naming o.entries) b) k ≡ names cs k
    names-again k =
        let name = naming o.entries in
        let all = subst (AllNamed o.entries) (ap book_nodes same-book) o.all in
        let fit = named-fit o.entries o.list.proper (book_nodes b) all in
        let distinct = named-distinct o.entries o.list.proper (book_nodes b) all o.list.apart in
        names_are name b read_good.clauses k
        ∙ same_names k (names cs) name (low-one name b read_good fit distinct cs r.book_is k) [] numbered refl
        ∙ below-is (name k) (names cs k) (length (names cs k)) (omega arith) (same-name-of k)
        ∙ take-length (names cs k)

    -- "printing what was read and reading it again changes nothing"
    pub again : {c : Next.Book} {list : List ℕ} → Reading (text_of (encode_book b) list₀ area book-bytes names-bytes zero-code) c list → (c ≡ b) × (list ≡ list₀)
    again {c} {list} q = (
      read_same (encode_book b) list₀ area book-bytes names-bytes zero-code cs (same-book ∙ r.book_is) q ∙ same-book,
      (reading-one q (is_read (encode_book b) list₀ area book-bytes names-bytes zero-code)).1
          ∙ ap (λ (d : Next.Book). name_list (named_rules (naming o.entries) d)) same-book
          ∙ lists-same (names (named_rules (naming o.entries) b)) (names cs) names-again
          ∙ inv r.list_is,
    )
