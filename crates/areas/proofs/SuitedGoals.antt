-- One predicate, one arity (document 02, C-18) along the path: the formulas of every goal come from the book and the query, so a query that suits its book leads to
-- goals that suit it. So where the book has no clause for a formula's predicate and arity (code 26), it has none for the predicate number.
use Rattle.std.specs.Prelude.{ℕ, zero, suc, ◌-◌, ◌≡◌, refl, ◌⊎◌, [], ◌∷◌, ◌++◌}
use Rattle.std.proofs.Common.{arith, sym as inv, ap, subst, ◌∙◌, inl, inr}
use Rattle.std.proofs.Math.Option.{some, some-injective, none-ne-some}
use Rattle.terms.specs.Node.{Symbol, constant, compound, predicate, var, sym, Expr}
use Rattle.terms.specs.Row.{Every}
use Rattle.terms.specs.Substitution.{Symbols}
use Rattle.search.specs.Next.{Clause, Book, Goal, First, Resolved, Next}
use Rattle.search.specs.Step.{next}
use Rattle.search.specs.Run.{goal_at}
use Rattle.search.proofs.NextLaws.{resolved-every}
use Rattle.search.proofs.NextTheorem.{next_iff}
use Rattle.search.proofs.PathLaws.{path-holds, step-goal}
use Rattle.search.specs.Known.{symbol_for, Known}
use Rattle.words.specs.Flat.{flat}
use Rattle.format.specs.Format.{GoodClauses, GoodBook, GoodGoal}
use Rattle.format.specs.Arities.{node_uses, goal_uses, book_uses, Used, Suits, nothing_met, recall}
use Rattle.format.specs.ArityLaws.{used-left, used-right, used-append, remembered}
use Rattle.format.proofs.Premises.{book-clauses}
use Rattle.areas.proofs.SymbolLaws.{symbols-append, symbols-behind, symbols-rename, symbols-apply}
use Rattle.areas.proofs.GoodGoals.{TermSymbol, AllTabled, formulas-tabled, tabled-rename, tabled-formulas, unifier-tabled, first-tabled, next-tabled}

-- Arities by a function of the predicate number.
module _ (arity_in : ℕ → ℕ) where
  abbrev Fits : Symbol → Type 0
  Fits (constant c) = Unit
  Fits (compound f n) = Unit
  Fits (predicate p n) = n ≡ arity_in p

  symbols-fit : (e : Expr) → ((p n : ℕ) → Used p n (node_uses e) → n ≡ arity_in p) → Symbols Fits e
  symbols-fit [] h = tt
  symbols-fit (var v ∷ e) h = symbols-fit e h
  symbols-fit (sym (constant c) ∷ e) h = (tt, symbols-fit e h)
  symbols-fit (sym (compound f n) ∷ e) h = (tt, symbols-fit e h)
  symbols-fit (sym (predicate p n) ∷ e) h = (h p n (inl (refl, refl)), symbols-fit e (λ q m x. h q m (inr x)))

  uses-fit : (e : Expr) → Symbols Fits e → (p n : ℕ) → Used p n (node_uses e) → n ≡ arity_in p
  uses-fit (var v ∷ e) s p n x = uses-fit e s p n x
  uses-fit (sym (constant c) ∷ e) s p n x = uses-fit e s.1 p n x
  uses-fit (sym (compound f m) ∷ e) s p n x = uses-fit e s.1 p n x
  uses-fit (sym (predicate q m) ∷ e) s p n (inl x) = inv x.1 ∙ s.0 ∙ ap arity_in x.0
  uses-fit (sym (predicate q m) ∷ e) s p n (inr x) = uses-fit e s.1 p n x
  uses-fit [] s p n x = elim x [ ]

  -- a goal's formulas all fit
  abbrev AllFit : Goal → Type 0
  AllFit g = Every (Symbols Fits) g

  symbols-front : (a b : Expr) → Symbols Fits (a ++ b) → Symbols Fits a
  symbols-front [] b s = tt
  symbols-front (var v ∷ a) b s = symbols-front a b s
  symbols-front (sym r ∷ a) b s = (s.0, symbols-front a b s.1)

  all_fit : (g : Goal) → Symbols Fits (flat g) → AllFit g
  all_fit [] s = tt
  all_fit (f ∷ g) s = (symbols-front f (flat g) s, all_fit g (symbols-behind Fits f (flat g) s))

  flat-fits : (g : Goal) → AllFit g → Symbols Fits (flat g)
  flat-fits [] s = tt
  flat-fits (f ∷ g) s = symbols-append Fits f (flat g) s.0 (flat-fits g s.1)

  -- no predicate stands in a term
  terms-fit : (e : Expr) → Symbols TermSymbol e → Symbols Fits e
  terms-fit [] s = tt
  terms-fit (var v ∷ e) s = terms-fit e s
  terms-fit (sym (constant c) ∷ e) s = (tt, terms-fit e s.1)
  terms-fit (sym (compound f n) ∷ e) s = (tt, terms-fit e s.1)
  terms-fit (sym (predicate p n) ∷ e) s = absurd s.0

  abbrev BookFits : Book → Type 0
  BookFits [] = Unit
  BookFits (c ∷ P) = AllFit (c.head ∷ c.body) × BookFits P

  resolved-fits : (f : Expr) (g : Goal) (c : Clause) (h : Goal) → AllTabled (f ∷ g) → AllTabled (c.head ∷ c.body) → AllFit g → AllFit c.body → Resolved f g c h → AllFit h
  resolved-fits f g c h tabled clause rest body t =
      let terms = unifier-tabled (tabled-rename t.goal_names f tabled.0) (tabled-rename t.clause_names c.head clause.0) t.unifier t.general in
      resolved-every (Symbols Fits) (symbols-rename Fits) f g c h body rest t (symbols-apply Fits t.unifier (λ v. terms-fit (t.unifier v) (terms v)))

  first_fits : (P : Book) (f : Expr) (k : ℕ) (c : Clause) → BookFits P → First f P k c → AllFit (c.head ∷ c.body)
  first_fits (d ∷ P) f zero c b p = subst (λ e. AllFit (e.head ∷ e.body)) p.0 b.0
  first_fits (d ∷ P) f (suc k) c b p = first_fits P f k c b.1 p.1
  first_fits [] f k c b p = elim p [ ]

  next_fits : (P : Book) → GoodClauses P → BookFits P → (g : Goal) → AllTabled g → AllFit g → (k : ℕ) (h : Goal) → Next P g k h → AllFit h
  next_fits P good b (f ∷ g) t a k h n = resolved-fits f g n.0 h t (first-tabled P f k n.0 good n.1) a.1 (first_fits P f k n.0 b n.1).1 n.2
  next_fits P good b [] t a k h n = elim n [ ]

  module _ (P : Book) (good_book : GoodBook P) (fits : BookFits P) (q : Goal) (good_query : GoodGoal q) (asks : AllFit q) where
    path-fits : (t : ℕ) (g : Goal) → goal_at P q t ≡ some g → AllTabled g × AllFit g
    path-fits =
        path-holds (λ g. AllTabled g × AllFit g) P
        (λ g h p e.
        let s = step-goal (next P g) h e in
        let n = (next_iff P (book-clauses P good_book) g (tabled-formulas g p.0) s.0 h).1 s.1 in
        (next-tabled P good_book.clauses g p.0 s.0 h n, next_fits P good_book.clauses fits g p.0 p.1 s.0 h n))
        q (formulas-tabled q good_query.formulas, asks)

  book-fit : (P : Book) → ((p n : ℕ) → Used p n (book_uses P) → n ≡ arity_in p) → BookFits P
  book-fit [] h = tt
  book-fit (c ∷ P) h =
      let g = c.head ∷ c.body in
      (all_fit g (symbols-fit (flat g) (λ p n x. h p n (used-left p n (goal_uses g) (book_uses P) x))), book-fit P (λ p n x. h p n (used-right p n (goal_uses g) (book_uses P) x)))

-- The theorems, of a good book and a good query that suits it.
module _ (P : Book) (good_book : GoodBook P) (q : Goal) (good_query : GoodGoal q) (suits : Suits P q) where
  -- the arity that each number has
  known_arity : ℕ → ℕ
  known_arity p = recall nothing_met (book_uses P ++ goal_uses q) p - 1

  used-arity : (p n : ℕ) → Used p n (book_uses P ++ goal_uses q) → n ≡ known_arity p
  unfolding known_arity
  used-arity p n x = omega (arith, remembered (book_uses P ++ goal_uses q) suits p n x)

  in-book : (p n : ℕ) → Used p n (book_uses P) → n ≡ known_arity p
  in-book p n x = used-arity p n (used-left p n (book_uses P) (goal_uses q) x)

  -- every goal of the path suits the book
  pub path-suits : (t : ℕ) (g : Goal) → goal_at P q t ≡ some g → Suits P g
  path-suits t g e =
      let asks = all_fit known_arity q (symbols-fit known_arity (flat q) (λ p n x. used-arity p n (used-right p n (book_uses P) (goal_uses q) x))) in
      let fits = (path-fits known_arity P good_book (book-fit known_arity P in-book) q good_query asks t g e).1 in
      let one : (p n : ℕ) → Used p n (book_uses P ++ goal_uses g) → n ≡ known_arity p = λ p n x.
      elim (used-append p n (book_uses P) (goal_uses g) x) [ inl y ↦ in-book p n y | inr y ↦ uses-fit known_arity (flat g) (flat-fits known_arity g fits) p n y ] in
      λ p n m x y. one p n x ∙ inv (one p m y)

-- Code 26

-- some clause of the book has a head of the predicate number p, of whatever arity
abbrev pub KnownNumber : Book → ℕ → Type 0
KnownNumber [] p = ⊥
KnownNumber (c ∷ P) p = ((n : ℕ) × (symbol_for c.head ≡ some (predicate p n))) ⊎ KnownNumber P p

-- a formula that begins with a predicate uses it
begins : (p n : ℕ) (f : Expr) (e : Expr) → symbol_for f ≡ some (predicate p n) → Used p n (node_uses (f ++ e))
begins p n [] e s = absurd (none-ne-some (predicate p n) s)
begins p n (var v ∷ f) e s = absurd (none-ne-some (predicate p n) s)
begins p n (sym r ∷ f) e s = subst (λ (x : Symbol). Used p n (node_uses (sym x ∷ (f ++ e)))) (inv (some-injective r (predicate p n) s)) (inl (refl, refl))

-- a head of the number has the arity that the book uses, and so the formula's
same_head : (P : Book) (f : Expr) (p n : ℕ) → symbol_for f ≡ some (predicate p n) → ((m : ℕ) → Used p m (book_uses P) → m ≡ n) → KnownNumber P p → Known P f
same_head (c ∷ P) f p n s h (inl k) =
    let here = begins p k.0 c.head (flat c.body) k.1 in
    let same = h k.0 (used-left p k.0 (goal_uses (c.head ∷ c.body)) (book_uses P) here) in
    inl (record { predicate = predicate p n; formula = s; head = k.1 ∙ ap (λ m. some (predicate p m)) same })
same_head (c ∷ P) f p n s h (inr k) = inr (same_head P f p n s (λ m x. h m (used-right p m (goal_uses (c.head ∷ c.body)) (book_uses P) x)) k)
same_head [] f p n s h x3 = elim x3 [ ]

-- where a goal suits the book, a formula whose predicate and arity the book does not know has a number that it does not know
pub unknown-number : (P : Book) (f : Expr) (g : Goal) → Suits P (f ∷ g) → (Known P f → ⊥) → (p n : ℕ) → symbol_for f ≡ some (predicate p n) → KnownNumber P p → ⊥
unknown-number P f g suits none p n s k =
    none (same_head P f p n s (λ m x. suits p m n (used-left p m (book_uses P) (goal_uses (f ∷ g)) x) (used-right p n (book_uses P) (goal_uses (f ∷ g)) (begins p n f (flat g) s))) k)
