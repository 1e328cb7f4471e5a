-- The text record by record is the text by trees.
use Rattle.std.specs.Prelude.{ℕ, zero, suc, ◌+◌, ◌≤◌, ◌≡◌, refl, List, [], ◌∷◌, ◌++◌, length}
use Rattle.std.proofs.Common.{sym as inv, ap, ◌∙◌, append_assoc, arith, lt-ltb, length-append}
use Rattle.terms.specs.Node.{constant, compound, predicate, var, sym, Expr}
use Rattle.search.specs.Next as Next
use Rattle.words.specs.Flat.{flat, flat-size}
use Rattle.format.specs.Format as Format
use Rattle.format.specs.Format.{terms_none, terms_var, terms_constant, terms_compound, formula, IsFormula, AreFormulas, GoodClause, GoodClauses, GoodBook, GoodGoal, node_record, node_records, book_records, goal_records}
use Rattle.format.specs.declared.Record.{Record}
use Rattle.grammar.specs.Token as Token
use Rattle.grammar.specs.Token.{Piece, token, variable, opening, bytes}
use Rattle.grammar.specs.Syntax.{Terms, none, variable_then, name_then, Turn, first, later}
use Rattle.grammar.specs.Names as Names
use Rattle.grammar.specs.Names.{count}
use Rattle.printing.specs.Spacing.{arguments_laid, formula_laid, sign_laid, body_laid, laid, more_laid}
use Rattle.printing.specs.Named.{Naming, variable_name, first_terms, later_terms, named_terms, named_formula, named_formulas, named_rules, printed, printed_goal}
use Rattle.printing.specs.NamedLaws.{terms-count}
use Rattle.printouts.specs.declared.Turn as Place
use Rattle.printouts.specs.declared.Turn.TheVariants as T
use Rattle.printouts.specs.Walk.{sign, ending, next_turn, begun, closings, left, walked}

-- The text that is owed

-- behind a term
abbrev owing : List ℕ → Terms → List Piece → List Piece
owing [] ts r = r
owing (n ∷ o) ts r = arguments_laid later (first_terms n ts) (owing o (later_terms n ts) r)

-- before a term, its bracket or comma written
abbrev begins : List ℕ → Terms → List Piece → List Piece
begins o none r = r
begins o (variable_then w ts) r = token (variable w) ∷ owing (begun o) ts r
begins o (name_then w own ts) r = token (Token.name w) ∷ arguments_laid first own (owing (begun o) ts r)

abbrev goes : List ℕ → Terms → List Piece → List Piece
goes [] ts r = r
goes (n ∷ o) ts r = begins (n ∷ o) ts r

abbrev total : List ℕ → ℕ
total [] = 0
total (n ∷ o) = n + total o

-- an argument of the innermost symbol is still to come
abbrev Live : List ℕ → Type 0
Live [] = Unit {0}
Live (n ∷ o) = 1 ≤ n

left-live : (o : List ℕ) → Live (left o)
left-live [] = tt
left-live (zero ∷ o) = left-live o
left-live (suc n ∷ o) = omega arith

left-total : (o : List ℕ) → total (left o) ≡ total o
left-total [] = refl
left-total (zero ∷ o) = left-total o ∙ (let q : total o ≡ 0 + total o = omega arith in q)
left-total (suc n ∷ o) = refl

left-short : (o : List ℕ) → length (left o) ≤ length o
left-short [] = omega arith
left-short (zero ∷ o) = omega (arith, left-short o)
left-short (suc n ∷ o) = omega arith

closed : (o : List ℕ) (ts : Terms) (r : List Piece) → count ts ≡ total o → bytes (owing o ts r) ≡ closings o ++ bytes (goes (left o) ts r)
closed [] ts r c = refl
closed (zero ∷ o) ts r c = ap (λ (l : List ℕ). 41 ∷ l) (closed o ts r (c ∙ (let q : 0 + total o ≡ total o = omega arith in q)))
closed (suc n ∷ o) none r c = absurd (omega arith)
closed (suc n ∷ o) (variable_then w ts) r c = refl
closed (suc n ∷ o) (name_then w own ts) r c = refl

-- a symbol's arguments, behind its bracket
opens : (n : ℕ) (o : List ℕ) (ts : Terms) (r : List Piece) → 1 ≤ n → 1 ≤ count ts →
    arguments_laid first (first_terms n ts) (owing o (later_terms n ts) r) ≡ token opening ∷ begins (n ∷ o) ts r
opens zero o ts r l c = absurd (omega arith)
opens (suc n) o none r l c = absurd (omega arith)
opens (suc n) o (variable_then w ts) r l c = refl
opens (suc n) o (name_then w own ts) r l c = refl

first-all : (n : ℕ) (ts : Terms) → count ts ≡ n → first_terms n ts ≡ ts
first-all zero none c = refl
first-all zero (variable_then w ts) c = absurd (omega arith)
first-all zero (name_then w own ts) c = absurd (omega arith)
first-all (suc n) none c = absurd (omega arith)
first-all (suc n) (variable_then w ts) c = ap (variable_then w) (first-all n ts (omega arith))
first-all (suc n) (name_then w own ts) c = ap (name_then w own) (first-all n ts (omega arith))

no-terms : {n : ℕ} (e : Expr) → Format.Terms n e → n ≡ 0 → e ≡ []
no-terms [] terms_none z = refl
no-terms (var v ∷ e) (terms_var h q) z = absurd (omega (arith, z))
no-terms (sym (constant c) ∷ e) (terms_constant h q) z = absurd (omega (arith, z))
no-terms (sym (compound f a) ∷ e) (terms_compound h p g q) z = absurd (omega (arith, z))
no-terms {n = n} (sym (predicate _ _) ∷ e) x8 z = elim x8 [ ]

-- Terms

module _ (name : Naming) (turn : Place.Turn) (r : List Piece) (rs : List Record) (rest : walked name turn [] rs ≡ bytes r) where
  terms-walked : (o : List ℕ) (e : Expr) → {m : ℕ} → Format.Terms m e → total o ≡ m → Live o → length o + length e ≤ 4096 →
      walked name turn o (node_records e ++ rs) ≡ bytes (goes o (named_terms name e) r)
  terms-walked [] [] terms_none t l s = rest
  terms-walked (n ∷ o) [] terms_none t l s = absurd (omega (arith, l, t))
  terms-walked [] (var v ∷ e) (terms_var h q) t l s = absurd (omega (arith, t))
  terms-walked (zero ∷ o) (var v ∷ e) (terms_var h q) t l s = absurd (omega (arith, l))
  terms-walked (suc n ∷ o) (var v ∷ e) (terms_var h q) t l s =
      append_assoc (variable_name v) (closings (n ∷ o)) _
      ∙ ap (λ (x : List ℕ). variable_name v ++ x)
      (ap (λ (x : List ℕ). closings (n ∷ o) ++ x) (terms-walked (left (n ∷ o)) e q (left-total (n ∷ o) ∙ (omega arith)) (left-live (n ∷ o)) (omega (arith, left-short (n ∷ o))))
      ∙ inv (closed (n ∷ o) (named_terms name e) r (terms-count name e q ∙ (omega arith))))
  terms-walked [] (sym (constant c) ∷ e) (terms_constant h q) t l s = absurd (omega (arith, t))
  terms-walked (zero ∷ o) (sym (constant c) ∷ e) (terms_constant h q) t l s = absurd (omega (arith, l))
  terms-walked (suc n ∷ o) (sym (constant c) ∷ e) (terms_constant h q) t l s =
      append_assoc (name Names.Constant c) (closings (n ∷ o)) _
      ∙ ap (λ (x : List ℕ). name Names.Constant c ++ x)
      (ap (λ (x : List ℕ). closings (n ∷ o) ++ x) (terms-walked (left (n ∷ o)) e q (left-total (n ∷ o) ∙ (omega arith)) (left-live (n ∷ o)) (omega (arith, left-short (n ∷ o))))
      ∙ inv (closed (n ∷ o) (named_terms name e) r (terms-count name e q ∙ (omega arith))))
  terms-walked [] (sym (compound f a) ∷ e) (terms_compound h p g q) t l s = absurd (omega (arith, t))
  terms-walked (zero ∷ o) (sym (compound f a) ∷ e) (terms_compound h p g q) t l s = absurd (omega (arith, l))
  terms-walked (suc n ∷ o) (sym (compound f a) ∷ e) (terms_compound h p g q) t l s =
      rw (lt-ltb (length (n ∷ o)) 4096 (omega arith))
      (append_assoc (name Names.Compound f) (40 ∷ []) _
      ∙ ap (λ (x : List ℕ). name Names.Compound f ++ x)
      (ap (λ (x : List ℕ). 40 ∷ x) (terms-walked (a ∷ n ∷ o) e q (omega arith) p (omega arith))
      ∙ inv (ap bytes (opens a (n ∷ o) (named_terms name e) r p (omega (arith, terms-count name e q))))))
  terms-walked [] (sym (predicate _ _) ∷ e) x18 t l s = elim x18 [ ]
  terms-walked (zero ∷ o) (sym (predicate _ _) ∷ e) x17 t l s = elim x17 [ ]
  terms-walked (suc n ∷ o) (sym (predicate _ _) ∷ e) x18 t l s = elim x18 [ ]

  -- a formula, which the sign of its turn stands before
  formula-walked : (e : Expr) → IsFormula e → length e ≤ 4096 → (before : Place.Turn) → (turn ≡ next_turn before) →
      walked name before [] (node_records e ++ rs) ≡ sign before ++ bytes (formula_laid (named_formula name e) r)
  formula-walked (sym (predicate p zero) ∷ []) (formula h l terms_none) s before t =
      append_assoc (sign before) (name Names.Predicate p ++ []) _
      ∙ ap (λ (x : List ℕ). sign before ++ x) (append_assoc (name Names.Predicate p) [] _ ∙ ap (λ (x : List ℕ). name Names.Predicate p ++ x) (ap (λ (k : Place.Turn). walked name k [] rs) (inv t) ∙ rest))
  formula-walked (sym (predicate p zero) ∷ (x ∷ e)) (formula h l q) s before t = absurd (omega (arith, ap length (no-terms (x ∷ e) q refl)))
  formula-walked (sym (predicate p (suc a)) ∷ e) (formula h l q) s before t =
      append_assoc (sign before) (name Names.Predicate p ++ (40 ∷ [])) _
      ∙ ap (λ (x : List ℕ). sign before ++ x)
      (append_assoc (name Names.Predicate p) (40 ∷ []) _
      ∙ ap (λ (x : List ℕ). name Names.Predicate p ++ x)
      (ap (λ (k : Place.Turn). 40 ∷ walked name k (suc a ∷ []) (node_records e ++ rs)) (inv t)
      ∙ ap (λ (x : List ℕ). 40 ∷ x) (terms-walked (suc a ∷ []) e q (omega arith) (omega arith) (omega arith))
      ∙ inv (ap bytes (whole (named_terms name e) (terms-count name e q)))))
    where
      whole : (ts : Terms) → count ts ≡ suc a → arguments_laid first ts r ≡ token opening ∷ begins (suc a ∷ []) ts r
      whole none c = absurd (omega arith)
      whole (variable_then w ts) c =
          ap (λ (x : Terms). token opening ∷ token (variable w) ∷ arguments_laid later x r) (inv (first-all a ts (omega arith)))
      whole (name_then w own ts) c =
          ap (λ (x : Terms). token opening ∷ token (Token.name w) ∷ arguments_laid first own (arguments_laid later x r)) (inv (first-all a ts (omega arith)))
  formula-walked [] x3 s before t = elim x3 [ ]
  formula-walked (var _ ∷ e) x9 s before t = elim x9 [ ]
  formula-walked (sym (constant _) ∷ e) x14 s before t = elim x14 [ ]
  formula-walked (sym (compound _ _) ∷ e) x16 s before t = elim x16 [ ]

records-append : (d e : Expr) → node_records (d ++ e) ≡ node_records d ++ node_records e
records-append [] e = refl
records-append (x ∷ d) e = ap (λ (l : List Record). node_record x ∷ l) (records-append d e)

records-behind : (d e : Expr) (rs : List Record) → node_records (d ++ e) ++ rs ≡ node_records d ++ (node_records e ++ rs)
records-behind d e rs = ap (λ (l : List Record). l ++ rs) (records-append d e) ∙ append_assoc (node_records d) (node_records e) rs

-- Bodies, goals and books

abbrev turn_of : Turn → Place.Turn
turn_of first = T.First
turn_of later = T.Later

signed : (k : Turn) (r : List Piece) → bytes (sign_laid k r) ≡ sign (turn_of k) ++ bytes r
signed first r = refl
signed later r = refl

next-turn : (k : Turn) → T.Later ≡ next_turn (turn_of k)
next-turn first = refl
next-turn later = refl

module _ (name : Naming) where
  body-walked : (k : Turn) (g : Next.Goal) (r : List Piece) (rs : List Record) → AreFormulas g → length (flat g) ≤ 4096 → ((j : Turn) → walked name (turn_of j) [] rs ≡ 46 ∷ 10 ∷ bytes r) →
      walked name (turn_of k) [] (node_records (flat g) ++ rs) ≡ bytes (body_laid k (named_formulas name g) r)
  body-walked k [] r rs h s rest = rest k
  body-walked k (f ∷ g) r rs h s rest =
      ap (walked name (turn_of k) []) (records-behind f (flat g) rs)
      ∙ formula-walked name T.Later (body_laid later (named_formulas name g) r) (node_records (flat g) ++ rs)
      (body-walked later g r rs h.1 (omega (arith, length-append f (flat g))) rest) f h.0 (omega (arith, length-append f (flat g))) (turn_of k) (next-turn k)
      ∙ inv (signed k (formula_laid (named_formula name f) (body_laid later (named_formulas name g) r)))

  ended : (rs : List Record) (s : List ℕ) → ((turn : Place.Turn) → walked name turn [] rs ≡ ending turn ++ s) → (j : Turn) → walked name (turn_of j) [] rs ≡ 46 ∷ 10 ∷ s
  ended rs s h first = h T.First
  ended rs s h later = h T.Later

  book-walked : (b : Next.Book) → GoodClauses b → (turn : Place.Turn) → walked name turn [] (book_records b) ≡ ending turn ++ printed name b
  book-walked [] h turn = refl
  book-walked (c ∷ b) h turn =
      let g = c.head ∷ c.body in
      let n = length-append c.head (flat c.body) in
      let m = flat-size g in
      ap (λ (x : List ℕ). ending turn ++ x)
      (ap (walked name T.Head []) (records-behind c.head (flat c.body) (book_records b))
      ∙ formula-walked name T.First (body_laid first (named_formulas name c.body) (laid (named_rules name b))) (node_records (flat c.body) ++ book_records b)
      (body-walked first c.body (laid (named_rules name b)) (book_records b) h.0.formulas.1 (omega (arith, n, m, h.0.fitting.size)) (ended (book_records b) (printed name b) (book-walked b h.1)))
      c.head h.0.formulas.0 (omega (arith, n, m, h.0.fitting.size)) T.Head refl)

  -- the text of a good book
  pub walked-is : (b : Next.Book) → GoodBook b → walked name T.Start [] (book_records b) ≡ printed name b
  walked-is b good = book-walked b good.clauses T.Start

  more-walked : (g : Next.Goal) → AreFormulas g → length (flat g) ≤ 4096 → walked name T.Later [] (node_records (flat g)) ≡ bytes (more_laid (named_formulas name g))
  more-walked [] h s = refl
  more-walked (f ∷ g) h s =
      ap (walked name T.Later []) (records-append f (flat g))
      ∙ formula-walked name T.Later (more_laid (named_formulas name g)) (node_records (flat g)) (more-walked g h.1 (omega (arith, length-append f (flat g)))) f h.0 (omega (arith, length-append f (flat g))) T.Later refl

  -- and of a goal, whatever numbers its variables have
  pub goal-walked : (g : Next.Goal) → AreFormulas g → length (flat g) ≤ 4096 → walked name T.Start [] (goal_records g) ≡ printed_goal name g
  goal-walked [] h s = refl
  goal-walked (f ∷ g) h s =
      ap (walked name T.Goal []) (records-append f (flat g))
      ∙ formula-walked name T.Later (more_laid (named_formulas name g)) (node_records (flat g)) (more-walked g h.1 (omega (arith, length-append f (flat g)))) f h.0 (omega (arith, length-append f (flat g))) T.Goal refl
