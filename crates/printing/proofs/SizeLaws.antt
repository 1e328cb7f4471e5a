-- What is named keeps the sizes of the book and the spelling of its names; renumbering keeps the length of its image.
use Rattle.std.specs.Prelude.{ℕ, zero, suc, ◌≤◌, ◌≡◌, refl, List, [], ◌∷◌, length}
use Rattle.std.proofs.Common.{ap, inl, inr, arith}
use Rattle.terms.specs.Node.{constant, compound, predicate, var, sym, Expr}
use Rattle.search.specs.Next as Next
use Rattle.words.specs.Flat.{flat, flat-size}
use Rattle.format.specs.Format as Format
use Rattle.format.specs.Format.{terms_none, terms_var, terms_constant, terms_compound, formula, IsFormula, AreFormulas, GoodClause, GoodClauses, node_record, node_records, encode_record, encode, clause_records, book_records, encode_book}
use Rattle.format.proofs.Numbering.{ordered}
use Rattle.grammar.specs.Syntax.{Terms, none, variable_then, name_then}
use Rattle.grammar.specs.Names.{Constant, Compound, Predicate, count, rule_spots, variables_after}
use Rattle.grammar.specs.Reading.{Small, SmallFormula, SmallFormulas, SmallRule, SmallRules}
use Rattle.printing.proofs.SpacingLaws.{Right, RightFormula, RightFormulas, RightRules}
use Rattle.printing.specs.Named.{Naming, variable_name, first_terms, later_terms, named_terms, named_formula, named_formulas, named_rule, named_rules}
use Rattle.printing.specs.NamedLaws.{spots, first_count, terms-count, formulas_spotted}
use Rattle.printing.specs.DigitLaws.{name-right}
use Rattle.printing.specs.Renumbered.{book_nodes}
use Rattle.printing.proofs.RenumberLaws.{variables-low}
use Rattle.printing.proofs.UseLaws.{uses-left, uses-right}
use Rattle.printing.specs.Fit.{Fit, AllFit}

-- terms that are small and spelt rightly
pub record Proper (ts : Terms) : Type 0 where
  pub right : Right ts
  pub small : Small ts

proper-none : Proper none
proper-none = record { right = tt; small = tt }

with_variable : (v : ℕ) (ts : Terms) → Proper ts → Proper (variable_then (variable_name v) ts)
with_variable v ts p = record { right = (name-right v, p.right); small = p.small }

with_name : (w : List ℕ) (own ts : Terms) → Fit w → count own ≤ 8 → Proper own → Proper ts → Proper (name_then w own ts)
with_name w own ts f n p q = record { right = (f.spelt, p.right, q.right); small = (f.short, n, p.small, q.small) }

first-proper : (n : ℕ) (ts : Terms) → Proper ts → Proper (first_terms n ts)
first-proper zero ts p = proper-none
first-proper (suc n) none p = proper-none
first-proper (suc n) (variable_then w ts) p =
    let q = first-proper n ts (record { right = p.right.1; small = p.small }) in
    record { right = (p.right.0, q.right); small = q.small }
first-proper (suc n) (name_then w own ts) p =
    let q = first-proper n ts (record { right = p.right.2; small = p.small.3 }) in
    record { right = (p.right.0, p.right.1, q.right); small = (p.small.0, p.small.1, p.small.2, q.small) }

later-proper : (n : ℕ) (ts : Terms) → Proper ts → Proper (later_terms n ts)
later-proper zero ts p = p
later-proper (suc n) none p = proper-none
later-proper (suc n) (variable_then w ts) p = later-proper n ts (record { right = p.right.1; small = p.small })
later-proper (suc n) (name_then w own ts) p = later-proper n ts (record { right = p.right.2; small = p.small.3 })

module _ (name : Naming) where
  terms-proper : {n : ℕ} (e : Expr) → Format.Terms n e → AllFit name e → Proper (named_terms name e)
  terms-proper e terms_none f = proper-none
  terms-proper (var v ∷ e) (terms_var h t) f = with_variable v (named_terms name e) (terms-proper e t (λ k n u. f k n (inr u)))
  terms-proper (sym (constant c) ∷ e) (terms_constant h t) f =
      with_name (name Constant c) none (named_terms name e) (f Constant c (inl (0, refl))) (omega arith) proper-none (terms-proper e t (λ k n u. f k n (inr u)))
  terms-proper (sym (compound g a) ∷ e) (terms_compound h l m t) f =
      let ts = named_terms name e in
      let p = terms-proper e t (λ k n u. f k n (inr u)) in
      with_name (name Compound g) (first_terms a ts) (later_terms a ts) (f Compound g (inl (a, refl)))
      (omega (arith, first_count a ts (omega (arith, terms-count name e t)))) (first-proper a ts p) (later-proper a ts p)

  pub record ProperFormula (e : Expr) : Type 0 where
    pub right : RightFormula (named_formula name e)
    pub small : SmallFormula (named_formula name e)

  formula-proper : (e : Expr) → IsFormula e → AllFit name e → ProperFormula e
  formula-proper (sym (predicate p a) ∷ e) (formula h l t) f =
      let q = terms-proper e t (λ k n u. f k n (inr u)) in
      let w = f Predicate p (inl (a, refl)) in
      record {
        right = record { symbol = w.spelt; arguments = q.right };
        small = record { short = w.short; few = omega (arith, terms-count name e t); small = q.small };
      }
  formula-proper [] x'' f = elim x'' [ ]
  formula-proper (var _ ∷ e) x7 f = elim x7 [ ]
  formula-proper (sym (constant _) ∷ e) x11 f = elim x11 [ ]
  formula-proper (sym (compound _ _) ∷ e) x13 f = elim x13 [ ]

  pub formulas-right : (g : Next.Goal) → AreFormulas g → AllFit name (flat g) → RightFormulas (named_formulas name g)
  formulas-right [] h f = tt
  formulas-right (e ∷ g) h f = ((formula-proper e h.0 (λ k n u. f k n (uses-left k n e (flat g) u))).right, formulas-right g h.1 (λ k n u. f k n (uses-right k n e (flat g) u)))

  pub formulas-small : (g : Next.Goal) → AreFormulas g → AllFit name (flat g) → SmallFormulas (named_formulas name g)
  formulas-small [] h f = tt
  formulas-small (e ∷ g) h f = ((formula-proper e h.0 (λ k n u. f k n (uses-left k n e (flat g) u))).small, formulas-small g h.1 (λ k n u. f k n (uses-right k n e (flat g) u)))

  pub formulas-length : (g : Next.Goal) → length (named_formulas name g) ≡ length g
  formulas-length [] = refl
  formulas-length (e ∷ g) = ap suc (formulas-length g)

  pub spots-length : (e : Expr) → length (spots name e) ≡ length e
  spots-length [] = refl
  spots-length (x ∷ e) = ap suc (spots-length e)

  rule-small : (c : Next.Clause) → GoodClause c → AllFit name (flat (c.head ∷ c.body)) → SmallRule (named_rule name c)
  rule-small c good f =
      let g = c.head ∷ c.body in
      let s : rule_spots (named_rule name c) ≡ spots name (flat g) = formulas_spotted name g good.formulas in
      record {
        few = omega (arith, formulas-length c.body, good.few);
        formulas = formulas-small g good.formulas f;
        nodes = omega (arith, ap length s, spots-length (flat g), flat-size g, good.fitting.size);
        variables = omega (arith, ap (λ l. length (variables_after [] l)) s, variables-low name (λ k. []) 64 (omega arith) (flat g) (ordered g good.fitting.numbered) good.fitting.below);
      }

  pub rules-small : (b : Next.Book) → GoodClauses b → AllFit name (book_nodes b) → SmallRules (named_rules name b)
  rules-small [] h f = tt
  rules-small (c ∷ b) h f =
      let e = flat (c.head ∷ c.body) in
      (rule-small c h.0 (λ k n u. f k n (uses-left k n e (book_nodes b) u)), rules-small b h.1 (λ k n u. f k n (uses-right k n e (book_nodes b) u)))

  pub rules-right : (b : Next.Book) → GoodClauses b → AllFit name (book_nodes b) → RightRules (named_rules name b)
  rules-right [] h f = tt
  rules-right (c ∷ b) h f =
      let e = flat (c.head ∷ c.body) in
      (formulas-right (c.head ∷ c.body) h.0.formulas (λ k n u. f k n (uses-left k n e (book_nodes b) u)), rules-right b h.1 (λ k n u. f k n (uses-right k n e (book_nodes b) u)))

  pub rules-length : (b : Next.Book) → length (named_rules name b) ≡ length b
  rules-length [] = refl
  rules-length (c ∷ b) = ap suc (rules-length b)
