-- What is named and numbered again by the places of its names is renumbered by these places; its variables are numbered by first appearance.
use Rattle.std.specs.Prelude.{ℕ, ◌≤◌, ◌<◌, ◌≡◌, refl, List, [], ◌∷◌, ◌++◌, map, eqb, length}
use Rattle.std.proofs.Common.{ap, ap₂, ◌∙◌, arith, eqb-true}
use Rattle.terms.specs.Node.{constant, compound, predicate, var, sym, Expr}
use Rattle.terms.specs.Number.{grow, seen_after, number, number_all}
use Rattle.search.specs.Next as Next
use Rattle.format.specs.Reading.{next_unused}
use Rattle.format.specs.Format.{Below, AreFormulas, GoodClause, GoodClauses}
use Rattle.terms.specs.Cases.{cases}
use Rattle.format.proofs.Numbering.{Ordered, unused-same, unused-other}
use Rattle.std.proofs.lemmas.Bool.{eqb-false}
use Rattle.grammar.specs.Names.{Sort, place, variables_after, numbered, numbered_all, clause}
use Rattle.printing.specs.Named.{Naming, variable_name, named_formulas, named_rule, named_rules}
use Rattle.printing.specs.NamedLaws.{spots, formula_spotted}
use Rattle.printing.specs.DigitLaws.{name-one}
use Rattle.printing.proofs.VariableLaws.{Low, LowIn, formula-low, called, grow-called, grow-low, number-called, seen-called, seen_low}
use Rattle.printing.specs.FirstLaws.{names_below, below_length, Follows, follows}
use Rattle.printing.specs.Renumbered.{Renumbering, renumber, renumber_goal, renumber_clause, renumber_book}

-- the first m variables, by their names
abbrev pub variables : ℕ → List (List ℕ)
variables m = names_below variable_name m

seen-variable : (m v : ℕ) (l : v < 100000) → m ≤ 100000 → v ≤ m → Follows variable_name (λ n. n < 100000) name-one v l m
seen-variable m v l k h = follows variable_name (λ n. n < 100000) name-one v l m (λ n q. omega arith) h

next_low : (most m v : ℕ) → v < most → m ≤ most → next_unused m v ≤ most
next_low most m v l k =
    cases (eqb v m) (λ t. let e = eqb-true v m t in rw (unused-same m v e) (omega arith)) (λ t. rw (unused-other m v (eqb-false v m t)) k)

-- how many variables are seen behind e, after m
abbrev seen_behind : ℕ → Expr → ℕ
seen_behind m [] = m
seen_behind m (var v ∷ e) = seen_behind (next_unused m v) e
seen_behind m (sym s ∷ e) = seen_behind m e

ordered-front : (m : ℕ) (d e : Expr) → Ordered m (d ++ e) → Ordered m d
ordered-front m [] e o = tt
ordered-front m (var v ∷ d) e o = (o.0, ordered-front (next_unused m v) d e o.1)
ordered-front m (sym s ∷ d) e o = ordered-front m d e o

ordered-back : (m : ℕ) (d e : Expr) → Ordered m (d ++ e) → Ordered (seen_behind m d) e
ordered-back m [] e o = o
ordered-back m (var v ∷ d) e o = ordered-back (next_unused m v) d e o.1
ordered-back m (sym s ∷ d) e o = ordered-back m d e o

behind-low : (most m : ℕ) (e : Expr) → Below most e → m ≤ most → seen_behind m e ≤ most
behind-low most m [] b k = k
behind-low most m (var v ∷ e) b k = behind-low most (next_unused m v) e b.1 (next_low most m v b.0 k)
behind-low most m (sym s ∷ e) b k = behind-low most m e b k

below-front : (n : ℕ) (d e : Expr) → Below n (d ++ e) → Below n d
below-front n [] e b = tt
below-front n (var v ∷ d) e b = (b.0, below-front n d e b.1)
below-front n (sym s ∷ d) e b = below-front n d e b

below-back : (n : ℕ) (d e : Expr) → Below n (d ++ e) → Below n e
below-back n [] e b = b
below-back n (var v ∷ d) e b = below-back n d e b.1
below-back n (sym s ∷ d) e b = below-back n d e b

module _ (name : Naming) (table : Sort → List (List ℕ)) where
  abbrev pub places : Renumbering
  places k n = place (name k n) (table k)

  module _ (most : ℕ) (low : most ≤ 100000) where
    named-seen : (m : ℕ) (e : Expr) → m ≤ most → Ordered m e → Below most e → variables_after (variables m) (spots name e) ≡ variables (seen_behind m e)
    named-seen m [] k o b = refl
    named-seen m (var v ∷ e) k o b =
        let s = seen-variable m v (omega (arith, b.0)) (omega arith) o.0 in
        ap (λ (l : List (List ℕ)). variables_after l (spots name e)) s.seen ∙ named-seen (next_unused m v) e (next_low most m v b.0 k) o.1 b.1
    named-seen m (sym (constant c) ∷ e) k o b = named-seen m e k o b
    named-seen m (sym (compound f n) ∷ e) k o b = named-seen m e k o b
    named-seen m (sym (predicate p n) ∷ e) k o b = named-seen m e k o b

    -- not more variables than there may be numbers
    pub variables-low : (e : Expr) → Ordered 0 e → Below most e → length (variables_after [] (spots name e)) ≤ most
    variables-low e o b = omega (arith, ap length (named-seen 0 e (omega arith) o b), below_length variable_name (seen_behind 0 e), behind-low most 0 e b (omega arith))

  named-numbered : (l : List ℕ) (e : Expr) → Low l → LowIn e → numbered table (called l) (spots name e) ≡ renumber places (number l e)
  named-numbered l [] k h = refl
  named-numbered l (var v ∷ e) k h =
      ap₂ (λ (n : ℕ) (x : Expr). var n ∷ x) (number-called v h.0 l k)
      (ap (λ (s : List (List ℕ)). numbered table s (spots name e)) (grow-called v h.0 l k) ∙ named-numbered (grow l v) e (grow-low v h.0 l k) h.1)
  named-numbered l (sym (constant c) ∷ e) k h = rw (named-numbered l e k h)
  named-numbered l (sym (compound f n) ∷ e) k h = rw (named-numbered l e k h)
  named-numbered l (sym (predicate p n) ∷ e) k h = rw (named-numbered l e k h)

  -- variables numbered by first appearance (document 01, "Records")
  pub goal-numbered : (l : List ℕ) (g : Next.Goal) → Low l → AreFormulas g → numbered_all table (called l) (named_formulas name g) ≡ renumber_goal places (number_all l g)
  goal-numbered l [] k h = refl
  goal-numbered l (f ∷ g) k h =
      let s = formula_spotted name f h.0 in
      let low = formula-low f h.0 in
      ap₂ (λ (e : Expr) (r : Next.Goal). e ∷ r) (ap (numbered table (called l)) s ∙ named-numbered l f k low)
      (ap (λ (r : List (List ℕ)). numbered_all table r (named_formulas name g)) (ap (variables_after (called l)) s ∙ seen-called name l f k low)
      ∙ goal-numbered (seen_after l f) g (seen_low l f k low) h.1)

  clause-numbered : (c : Next.Clause) → GoodClause c → clause table (named_rule name c) ≡ renumber_clause places c
  clause-numbered c good = of-goal (goal-numbered [] (c.head ∷ c.body) tt good.formulas ∙ ap (renumber_goal places) good.fitting.numbered)
    where
      of-goal : numbered_all table [] (named_formulas name (c.head ∷ c.body)) ≡ renumber_goal places (c.head ∷ c.body) → clause table (named_rule name c) ≡ renumber_clause places c
      of-goal e = cc

  -- a good book that is named, and numbered by any table of names
  pub book-numbered : (b : Next.Book) → GoodClauses b → map (clause table) (named_rules name b) ≡ renumber_book places b
  book-numbered [] h = refl
  book-numbered (c ∷ b) h = ap₂ ◌∷◌ (clause-numbered c h.0) (book-numbered b h.1)
