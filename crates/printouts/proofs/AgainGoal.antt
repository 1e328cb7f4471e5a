-- A goal that is printed is read again (document 02, C-14) as it was, against the names that it was printed with; an answer as it was but for the numbers of its variables.
use Rattle.std.specs.Prelude.{ℕ, zero, suc, ◌≤◌, ◌<◌, ◌≡◌, refl, true, List, [], ◌∷◌, length, get_or, take}
use Rattle.std.proofs.Common.{sym as inv, ap, ap₂, ◌∙◌, subst, inl, inr, append-nil, arith}
use Rattle.terms.specs.Cases.{cases}
use Rattle.terms.specs.Node.{constant, compound, predicate, var, sym, Expr}
use Rattle.terms.specs.Number.{number, number_all}
use Rattle.terms.specs.Number as Number
use Rattle.search.specs.Next as Next
use Rattle.search.specs.Room.{nodes}
use Rattle.words.specs.Flat.{flat, flat-size, flat-number}
use Rattle.format.specs.declared.Check.{Check}
use Rattle.format.specs.Format.{AreFormulas, Bytes}
use Rattle.format.specs.Reading.{query_verdict}
use Rattle.format.specs.Decode.{goal_of}
use Rattle.format.proofs.Decoding.{goal_of-good}
use Rattle.grammar.specs.Syntax.{Formula}
use Rattle.grammar.specs.Names.{Sort, Constant, Compound, Predicate, symbol_for, same_name, place, within, is_sort, names_after, list_of}
use Rattle.grammar.specs.NameLaws.{same_refl, same_true}
use Rattle.grammar.specs.Query.{Given, names_with, goal, ReadingQuery, query-one}
use Rattle.printing.specs.Named.{Naming, named_formulas, printed_goal}
use Rattle.printing.specs.NamedLaws.{spots, formulas_spotted}
use Rattle.printing.specs.Renumbered.{Renumbering, renumber_goal, Uses}
use Rattle.printing.proofs.RenumberLaws.{places, goal-numbered}
use Rattle.printing.proofs.UseLaws.{spot-names, stays-book}
use Rattle.printing.proofs.OrderLaws.{same-sort, symbol-same}
use Rattle.printing.proofs.SpacingLaws.{goal-asks}
use Rattle.printing.proofs.SizeLaws.{formulas-right, formulas-small, formulas-length, spots-length}
use Rattle.printing.specs.Fit.{AllFit}
use Rattle.namelist.specs.List.{Entry, IsList, naming}
use Rattle.namelist.specs.NamingLaws.{AllNamed, some, named-means, named-is, named-fit, named-distinct}
use Rattle.printouts.specs.declared.Printout.{Printout}
use Rattle.printouts.specs.Outcome.{Prints, outcome, outcome_area, goal_answer, goal_area}
use Rattle.printouts.proofs.OutcomeLaws.{outcome-prints}
use Rattle.printouts.specs.Answer.{answer_verdict, found_answer, found_area}
use Rattle.printouts.proofs.AnswerLaws.{GoodFound, found-good}
use Rattle.printouts.proofs.Again.{Out, out, code-good, lists-same}

-- The names of a table

-- each symbol of e is called by a name of the table that stands first at its number
pub record Known (given : Given) (name : Naming) (e : Expr) : Type 0 where
  pub there : (k : Sort) (n : ℕ) → Uses k n e → within (name k n) (given k) ≡ true
  pub at : (k : Sort) (n : ℕ) → Uses k n e → place (name k n) (given k) ≡ n

module _ (name : Naming) (k : Sort) (seen : List (List ℕ)) where
  symbol-stays : (j : Sort) (n a : ℕ) (e : Expr) → ((m : ℕ) → Uses k m (sym (symbol_for j n a) ∷ e) → within (name k m) seen ≡ true) → names_after k seen (spots name e) ≡ seen →
      names_after k seen (spots name (sym (symbol_for j n a) ∷ e)) ≡ seen
  symbol-stays j n a e h rest =
      spot-names k name seen j n a e
      ∙ cases (is_sort k j)
      (λ t.
      let s = same-sort k j t in
      let w : within (name j n) seen ≡ true = ap (λ (i : Sort). within (name i n) seen) s ∙ h n (inl (a, ap (λ (i : Sort). sym (symbol_for i n a)) s)) in
      rw (t, w) rest)
      (λ t. rw t rest)

  -- so no name is new
  names-stay : (e : Expr) → ((n : ℕ) → Uses k n e → within (name k n) seen ≡ true) → names_after k seen (spots name e) ≡ seen
  names-stay [] h = refl
  names-stay (var v ∷ e) h = names-stay e (λ n u. h n (inr u))
  names-stay (sym (constant c) ∷ e) h = symbol-stays Constant c 0 e h (names-stay e (λ n u. h n (inr u)))
  names-stay (sym (compound f a) ∷ e) h = symbol-stays Compound f a e h (names-stay e (λ n u. h n (inr u)))
  names-stay (sym (predicate p a) ∷ e) h = symbol-stays Predicate p a e h (names-stay e (λ n u. h n (inr u)))

-- Numbers that stay

abbrev goal_in : Next.Book → Next.Goal
goal_in [] = []
goal_in (c ∷ b) = c.head ∷ c.body

stays-goal : (ρ : Renumbering) (g : Next.Goal) → ((k : Sort) (n : ℕ) → Uses k n (flat g) → ρ k n ≡ n) → renumber_goal ρ g ≡ g
stays-goal ρ [] h = refl
stays-goal ρ (f ∷ g) h = ap goal_in (stays-book ρ (record { head = f; body = g } ∷ []) (λ k n u. h k n (subst (Uses k n) (append-nil (flat (f ∷ g))) u)))

-- Numbering variables leaves the symbols

uses-number : (k : Sort) (n : ℕ) (seen : List ℕ) (e : Expr) → Uses k n (number seen e) → Uses k n e
uses-number k n seen [] u = u
uses-number k n seen (var v ∷ e) (inl (a, p)) = let z : ◌≡◌ {A = ℕ} 0 1 = cc in absurd (omega arith)
uses-number k n seen (var v ∷ e) (inr u) = inr (uses-number k n (Number.grow seen v) e u)
uses-number k n seen (sym y ∷ e) (inl p) = inl p
uses-number k n seen (sym y ∷ e) (inr u) = inr (uses-number k n seen e u)

-- Formulas within a goal's sizes, whatever numbers their variables have

module _ (given : Given) (name : Naming) (g : Next.Goal) (formulas : AreFormulas g) (few : length g ≤ 512) (size : nodes g ≤ 4096) (fit : AllFit name (flat g)) (known : Known given name (flat g)) where
  abbrev fs : List Formula
  fs = named_formulas name g

  given_stays : (k : Sort) → names_with given fs k ≡ given k
  given_stays k = ap (names_after k (given k)) (formulas_spotted name g formulas) ∙ names-stay name k (given k) (flat g) (known.there k)

  goal-back : goal given fs ≡ number_all [] g
  goal-back =
      goal-numbered name (names_with given fs) [] g tt formulas
      ∙ stays-goal (places name (names_with given fs)) (number_all [] g)
      (λ k n u. ap (place (name k n)) (given_stays k) ∙ known.at k n (uses-number k n [] (flat g) (subst (Uses k n) (flat-number [] g) u)))

  goal-reads : length (printed_goal name g) ≤ 65536 → ReadingQuery given (printed_goal name g) (number_all [] g) (list_of given)
  goal-reads short =
      record {
        formulas = fs;
        asks = goal-asks fs (formulas-right name g formulas fit);
        sized = record {
          few = omega (arith, formulas-length name g, few);
          formulas = formulas-small name g formulas fit;
          nodes = omega (arith, ap length (formulas_spotted name g formulas), spots-length name (flat g), flat-size g, size);
        };
        short = short;
        goal_is = inv goal-back;
        list_is = inv (lists-same (names_with given fs) given given_stays);
      }

-- Names by their numbers

some-low : (l : List (List ℕ)) (n : ℕ) → some (get_or l n []) ≡ true → n < length l
some-low [] n e = let z : ◌≡◌ {A = ℕ} 0 1 = cc in absurd (omega arith)
some-low (w ∷ l) zero e = omega arith
some-low (w ∷ l) (suc n) e = omega (arith, some-low l n e)

-- a name stands first at its number, if none before it is the same
first-at : (l : List (List ℕ)) (n : ℕ) → n < length l → ((i : ℕ) → i < n → get_or l i [] ≡ get_or l n [] → ⊥) → (within (get_or l n []) l ≡ true) × (place (get_or l n []) l ≡ n)
first-at [] n h d = absurd (omega arith)
first-at (w ∷ l) zero h d = (rw (same_refl w) refl, rw (same_refl w) refl)
first-at (w ∷ l) (suc n) h d =
    let r = first-at l n (omega arith) (λ i q e. d (suc i) (omega arith) e) in
    cases (same_name (get_or l n []) w) (λ t. absurd (d 0 (omega arith) (inv (same_true (get_or l n []) w t)))) (λ t. (rw t r.0, rw t (ap suc r.1)))

-- the table gives the list's names by their numbers
abbrev pub Tells : List Entry → Given → Type 0
Tells l given = (k : Sort) (n : ℕ) → naming l k n ≡ get_or (given k) n []

module _ (given : Given) (names : List ℕ) (l : List Entry) (list : IsList names l) (tells : Tells l given) where
  -- names that are there are those of one number
  once : (k : Sort) (m n : ℕ) → some (naming l k m) ≡ true → some (naming l k n) ≡ true → naming l k m ≡ naming l k n → m ≡ n
  once k m n p q = named-distinct l list.proper two all list.apart k m n (inl (0, refl)) (inr (inl (0, refl)))
    where
      two : Expr
      two = sym (symbol_for k m 0) ∷ sym (symbol_for k n 0) ∷ []

      all : AllNamed l two
      all j i (inl (a, e)) = let s = symbol-same k j m i 0 a e in record { called = naming l j i; within = named-means l j i (ap₂ (λ (x : Sort) (y : ℕ). some (naming l x y)) (inv s.0) (inv s.1) ∙ p) }
      all j i (inr (inl (a, e))) = let s = symbol-same k j n i 0 a e in record { called = naming l j i; within = named-means l j i (ap₂ (λ (x : Sort) (y : ℕ). some (naming l x y)) (inv s.0) (inv s.1) ∙ q) }
      all j i (inr (inr u)) = absurd u

  known_by : (e : Expr) → AllNamed l e → (k : Sort) (n : ℕ) → Uses k n e → (within (naming l k n) (given k) ≡ true) × (place (naming l k n) (given k) ≡ n)
  known_by e all k n u =
      let p = named-is l k n list.proper (all k n u) in
      let r = first-at (given k) n (some-low (given k) n (ap some (inv (tells k n)) ∙ p)) (λ i h q.
      let s = tells k i ∙ q ∙ inv (tells k n) in
      let z = once k i n (ap some s ∙ p) p s in omega (arith, z, h)) in
      (ap (λ (w : List ℕ). within w (given k)) (tells k n) ∙ r.0, ap (λ (w : List ℕ). place w (given k)) (tells k n) ∙ r.1)

  pub known : (e : Expr) → AllNamed l e → Known given (naming l) e
  known e all = record { there = λ k n u. (known_by e all k n u).0; at = λ k n u. (known_by e all k n u).1 }

-- What is left by printing with code 0, of a goal or an answer

module _ (found : Check) (bytes names area : List ℕ) (names-bytes : Bytes names) (good : found.code ≡ 0 → GoodFound bytes) where
  abbrev g : Next.Goal
  g = goal_of bytes

  abbrev p : Printout
  p = outcome found (flat g) (λ name. printed_goal name g) names area

  abbrev text : List ℕ
  text = take p.bytes (outcome_area found (flat g) (λ name. printed_goal name g) names area)

  module _ (zero-code : p.code ≡ 0) where
    told : Prints found (flat g) (λ name. printed_goal name g) names area p (outcome_area found (flat g) (λ name. printed_goal name g) names area)
    told = outcome-prints found (flat g) (λ name. printed_goal name g) names area names-bytes

    pub zero-found : found.code ≡ 0
    zero-found = code-good told zero-code

    pub goal-out : Out (flat g) (λ name. printed_goal name g) names area p (outcome_area found (flat g) (λ name. printed_goal name g) names area)
    goal-out = out told zero-code

    -- it is read against the names that it was printed with, its variables numbered by first appearance and with no name that is new
    pub is_read : (given : Given) → Tells goal-out.entries given → ReadingQuery given text (number_all [] g) (list_of given)
    is_read given tells =
        let q = good zero-found in
        subst (λ (t : List ℕ). ReadingQuery given t (number_all [] g) (list_of given)) (inv goal-out.front)
        (goal-reads given (naming goal-out.entries) g q.formulas q.few q.size (named-fit goal-out.entries goal-out.list.proper (flat g) goal-out.all)
        (known given names goal-out.entries goal-out.list tells (flat g) goal-out.all) goal-out.short)

-- A goal: it has these numbers
module _ (book bytes names area : List ℕ) (goal-bytes : Bytes bytes) (names-bytes : Bytes names) where
  pub goal-good : (query_verdict book bytes).code ≡ 0 → GoodFound bytes
  goal-good z = let q = goal_of-good book bytes goal-bytes z in record { few = q.0.few; formulas = q.0.formulas; size = q.0.fitting.size; image = q.1 }

  abbrev pub goal_text_of : List ℕ
  goal_text_of = take (goal_answer book bytes names area).bytes (goal_area book bytes names area)

  module _ (zero-code : (goal_answer book bytes names area).code ≡ 0) where
    pub goal-checked : (query_verdict book bytes).code ≡ 0
    goal-checked = zero-found (query_verdict book bytes) bytes names area names-bytes goal-good zero-code

    module _ (given : Given) (tells : Tells (goal-out (query_verdict book bytes) bytes names area names-bytes goal-good zero-code).entries given) where
      -- it is read as the same goal
      pub goal-is-read : ReadingQuery given goal_text_of (goal_of bytes) (list_of given)
      goal-is-read =
          subst (λ (g : Next.Goal). ReadingQuery given goal_text_of g (list_of given)) (goal_of-good book bytes goal-bytes goal-checked).0.fitting.numbered
          (is_read (query_verdict book bytes) bytes names area names-bytes goal-good zero-code given tells)

      -- and as nothing else
      pub goal-read-same : {g : Next.Goal} {list : List ℕ} → ReadingQuery given goal_text_of g list → (g ≡ goal_of bytes) × (list ≡ list_of given)
      goal-read-same r = query-one r goal-is-read

-- An answer: its variables are numbered afresh, in the order in which they appear
module _ (book bytes names area : List ℕ) (found-bytes : Bytes bytes) (names-bytes : Bytes names) where
  abbrev pub found_text_of : List ℕ
  found_text_of = take (found_answer book bytes names area).bytes (found_area book bytes names area)

  module _ (zero-code : (found_answer book bytes names area).code ≡ 0) where
    pub found-checked : (answer_verdict book bytes).code ≡ 0
    found-checked = zero-found (answer_verdict book bytes) bytes names area names-bytes (found-good book bytes found-bytes) zero-code

    pub found-is-read : (given : Given) → Tells (goal-out (answer_verdict book bytes) bytes names area names-bytes (found-good book bytes found-bytes) zero-code).entries given →
        ReadingQuery given found_text_of (number_all [] (goal_of bytes)) (list_of given)
    found-is-read = is_read (answer_verdict book bytes) bytes names area names-bytes (found-good book bytes found-bytes) zero-code
