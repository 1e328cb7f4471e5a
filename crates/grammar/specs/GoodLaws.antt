-- A book, or a goal, that is read from a text is good (format, Format), so that a book's check answers 0.
use Rattle.std.specs.Prelude.{ℕ, zero, suc, ◌+◌, ◌≤◌, ◌<◌, ◌≡◌, refl, List, [], ◌∷◌, map, length}
use Rattle.std.proofs.Common.{ap, ◌∙◌, arith, length-append}
use Rattle.terms.specs.Node.{sym, Expr}
use Rattle.search.specs.Next as Next
use Rattle.words.specs.Flat.{flat, flat-size}
use Rattle.words.specs.Word.{words_of}
use Rattle.words.specs.PackLaws.{words-length}
use Rattle.format.specs.Words.{book_words}
use Rattle.format.specs.Reading.{book_verdict}
use Rattle.format.specs.Format as Format
use Rattle.format.specs.Arities.{book_uses, OneArity}
use Rattle.format.specs.Format.{terms_none, terms_var, terms_constant, terms_compound, formula, IsFormula, AreFormulas, Fitting, GoodClause, GoodClauses, GoodBook, GoodGoal, encode_book}
use Rattle.format.proofs.Lengths.{words-few}
use Rattle.format.proofs.Numbering as Numbering
use Rattle.format.proofs.Meaning.{good, book-written}
use Rattle.grammar.specs.Syntax.{Terms, none, variable_then, name_then, Formula, Rule}
use Rattle.grammar.specs.Names.{Sort, Constant, Compound, Predicate, Spot, count, called, spots_then, formula_spots, formulas_spots, rule_spots, text_spots}
use Rattle.grammar.specs.Names.{place, variable_number, with_variable, variables_after, symbol_for, numbered, numbered_all, clause, names, book}
use Rattle.grammar.specs.NameLaws.{place-low, variable-low, with_one_more, variables-few, names-few, numbered-length, flat-numbered, numbered_below, numbered-ordered}
use Rattle.grammar.specs.Query.{Given, names_with, goal, SizedQuery}
use Rattle.grammar.specs.Reading.{Small, SmallFormula, SmallFormulas, SmallRule, SmallRules, Sized, Reading}

-- Every symbol's number is below 65,536

clause-spots : (table : Sort → List (List ℕ)) (c : Rule) → length (flat ((clause table c).head ∷ (clause table c).body)) ≡ length (rule_spots c)
clause-spots table c = ap length (flat-numbered table [] (c.head ∷ c.body)) ∙ numbered-length table [] (rule_spots c)

book-spots : (table : Sort → List (List ℕ)) (cs : List Rule) → length (book_words (map (clause table) cs)) ≡ length (text_spots cs)
book-spots table [] = refl
book-spots table (c ∷ cs) =
    let e = flat ((clause table c).head ∷ (clause table c).body) in
    omega (arith, length-append (words_of e) (book_words (map (clause table) cs)), words-length e, clause-spots table c, book-spots table cs, length-append (rule_spots c) (text_spots cs))

names-low : (cs : List Rule) → length (encode_book (book cs)) ≤ 32768 → (k : Sort) → length (names cs k) < 65536
names-low cs h k = omega (arith, words-few (book cs), book-spots (names cs) cs, names-few k [] (text_spots cs))

-- Formulas

module _ (table : Sort → List (List ℕ)) (low : (k : Sort) → length (table k) < 65536) (most : ℕ) (bound : most < 65536) where
  number_low : (k : Sort) (w : List ℕ) → place w (table k) < 65536
  number_low k w = omega (arith, place-low w (table k), low k)

  symbol-good : (a m : ℕ) (w : List ℕ) (e : Expr) → a ≤ 8 → Format.Terms (m + a) e → Format.Terms (suc m) (sym (symbol_for (called a) (place w (table (called a))) a) ∷ e)
  symbol-good zero m w e h t = terms_constant (number_low Constant w) (rw (let q : m + 0 ≡ m = omega arith in q) at t)
  symbol-good (suc a) m w e h t = terms_compound (number_low Compound w) (let q : 1 ≤ suc a = omega arith in q) h t

  -- what is numbered in at most so many spots, those seen counted
  abbrev Good : ℕ → List Spot → Type 0
  Good n r = (seen : List (List ℕ)) → length seen + length r ≤ most → Format.Terms n (numbered table seen r)

  terms-good : (ts : Terms) (n : ℕ) (r : List Spot) → Small ts → Good n r → Good (n + count ts) (spots_then ts r)
  terms-good none n r s g seen h = rw (let q : n + 0 ≡ n = omega arith in q) (g seen h)
  terms-good (variable_then w ts) n r s g seen h =
      rw (let q : n + suc (count ts) ≡ suc (n + count ts) = omega arith in q)
      (terms_var (let q : variable_number seen w < 65536 = omega (arith, variable-low seen w, with_one_more seen w) in q) (terms-good ts n r s g (with_variable seen w) (omega (arith, with_one_more seen w))))
  terms-good (name_then w own ts) n r s g seen h =
      rw (let q : n + suc (count ts) ≡ suc (n + count ts) = omega arith in q)
      (symbol-good (count own) (n + count ts) w _ s.1
      (terms-good own (n + count ts) (spots_then ts r) s.2 (terms-good ts n r s.3 g) seen (omega arith)))

  formula-good : (f : Formula) → SmallFormula f → (seen : List (List ℕ)) → length seen + length (formula_spots f) ≤ most → IsFormula (numbered table seen (formula_spots f))
  formula-good f s seen h =
      formula (number_low Predicate f.symbol) s.few
      (rw (let q : 0 + count f.arguments ≡ count f.arguments = omega arith in q) at (terms-good f.arguments 0 [] s.small (λ seen h. terms_none) seen (omega arith)))

  formulas-good : (fs : List Formula) → SmallFormulas fs → (seen : List (List ℕ)) → length seen + length (formulas_spots fs) ≤ most → AreFormulas (numbered_all table seen fs)
  formulas-good [] s seen h = tt
  formulas-good (f ∷ fs) s seen h =
      let l = length-append (formula_spots f) (formulas_spots fs) in (
        formula-good f s.0 seen (omega arith),
        formulas-good fs s.1 (variables_after seen (formula_spots f)) (omega (arith, variables-few seen (formula_spots f))),
      )

formulas-length : (table : Sort → List (List ℕ)) (seen : List (List ℕ)) (fs : List Formula) → length (numbered_all table seen fs) ≡ length fs
formulas-length table seen [] = refl
formulas-length table seen (f ∷ fs) = ap suc (formulas-length table (variables_after seen (formula_spots f)) fs)

-- so many nodes and variables at most, numbered by first appearance
formulas-fitting : (table : Sort → List (List ℕ)) (fs : List Formula) (most variables : ℕ) → length (formulas_spots fs) ≤ most → length (variables_after [] (formulas_spots fs)) ≤ variables →
    Fitting most variables (numbered_all table [] fs)
formulas-fitting table fs most variables h k =
    let e = flat-numbered table [] fs in
    record {
      size = omega (arith, flat-size (numbered_all table [] fs), ap length e, numbered-length table [] (formulas_spots fs), h);
      below = rw e (numbered_below table variables [] (formulas_spots fs) k);
      numbered = Numbering.numbered (numbered_all table [] fs) (rw e (numbered-ordered table [] (formulas_spots fs)));
    }

-- Books

module _ (table : Sort → List (List ℕ)) (low : (k : Sort) → length (table k) < 65536) where
  rule-good : (c : Rule) → SmallRule c → GoodClause (clause table c)
  rule-good c s =
      record {
        few = rw (formulas-length table (variables_after [] (formula_spots c.head)) c.body) s.few;
        formulas = formulas-good table low 256 (omega arith) (c.head ∷ c.body) s.formulas [] (omega (arith, s.nodes));
        fitting = formulas-fitting table (c.head ∷ c.body) 256 64 s.nodes s.variables;
      }

  rules-good : (cs : List Rule) → SmallRules cs → GoodClauses (map (clause table) cs)
  rules-good [] s = tt
  rules-good (c ∷ cs) s = (rule-good c s.0, rules-good cs s.1)

book-length : (table : Sort → List (List ℕ)) (cs : List Rule) → length (map (clause table) cs) ≡ length cs
book-length table [] = refl
book-length table (c ∷ cs) = ap suc (book-length table cs)

pub sized-good : (cs : List Rule) → Sized cs → GoodBook (book cs)
sized-good cs s =
    record { few = rw (book-length (names cs) cs) s.few; clauses = rules-good (names cs) (names-low cs s.bytes) cs s.rules; short = s.bytes }

pub reading-good : {text list : List ℕ} {b : Next.Book} → Reading text b list → GoodBook b
reading-good r = rw r.book_is (sized-good r.rules r.sized)

-- its check answers 0, where it keeps one arity: a text that does not is for the reader's code 7 (document 02, C-18)
pub reading-checked : {text list : List ℕ} {b : Next.Book} → Reading text b list → OneArity (book_uses b) → book_verdict (encode_book b) ≡ good (length b)
reading-checked {b = b} r one = book-written b (reading-good r) one

-- Queries: a goal that is read is good, where the numbers of the list's names and of the new ones fit into two bytes

pub query_good : (given : Given) (fs : List Formula) → SizedQuery fs → ((k : Sort) → length (given k) ≤ 61439) → GoodGoal (goal given fs)
query_good given fs s low =
    let table = names_with given fs in
    let fits : (k : Sort) → length (table k) < 65536 = λ k. omega (arith, names-few k (given k) (formulas_spots fs), low k, s.nodes) in
    record {
      few = rw (formulas-length table [] fs) s.few;
      formulas = formulas-good table fits 4096 (omega arith) fs s.formulas [] (omega (arith, s.nodes));
      fitting = formulas-fitting table fs 4096 65536 s.nodes (omega (arith, variables-few [] (formulas_spots fs), s.nodes));
    }
