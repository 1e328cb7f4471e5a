-- The spots of what is named are the nodes, each with its name.
use Rattle.std.specs.Prelude.{ℕ, zero, suc, ◌+◌, ◌≤◌, ◌≡◌, refl, List, [], ◌∷◌, ◌++◌}
use Rattle.std.proofs.Common.{sym as inv, ap, ◌∙◌, arith}
use Rattle.terms.specs.Node.{constant, compound, predicate, Node, var, sym, Expr}
use Rattle.search.specs.Next as Next
use Rattle.words.specs.Flat.{flat}
use Rattle.format.specs.Format as Format
use Rattle.format.specs.Format.{terms_none, terms_var, terms_constant, terms_compound, formula, IsFormula, AreFormulas}
use Rattle.grammar.specs.Syntax.{Terms, none, variable_then, name_then}
use Rattle.grammar.specs.Names.{Constant, Compound, Predicate, Spot, variable_spot, symbol_spot, count, called, spots_then, formula_spots, formulas_spots}
use Rattle.printing.specs.Named.{Naming, variable_name, first_terms, later_terms, named_terms, named_formula, named_formulas}

abbrev pub spot : Naming → Node → Spot
spot name (var v) = variable_spot (variable_name v)
spot name (sym (constant c)) = symbol_spot Constant (name Constant c) 0
spot name (sym (compound f n)) = symbol_spot Compound (name Compound f) n
spot name (sym (predicate p n)) = symbol_spot Predicate (name Predicate p) n

abbrev pub spots : Naming → Expr → List Spot
spots name [] = []
spots name (x ∷ e) = spot name x ∷ spots name e

pub spots-append : (name : Naming) (d e : Expr) → spots name (d ++ e) ≡ spots name d ++ spots name e
spots-append name [] e = refl
spots-append name (x ∷ d) e = ap (λ (l : List Spot). spot name x ∷ l) (spots-append name d e)

-- A row of terms cut in two

pub first_count : (n : ℕ) (ts : Terms) → n ≤ count ts → count (first_terms n ts) ≡ n
first_count zero ts h = refl
first_count (suc n) none h = absurd (omega arith)
first_count (suc n) (variable_then w ts) h = ap suc (first_count n ts (omega arith))
first_count (suc n) (name_then w own ts) h = ap suc (first_count n ts (omega arith))

later-count : (n m : ℕ) (ts : Terms) → count ts ≡ m + n → count (later_terms n ts) ≡ m
later-count zero m ts h = omega arith
later-count (suc n) m none h = absurd (omega arith)
later-count (suc n) m (variable_then w ts) h = later-count n m ts (omega arith)
later-count (suc n) m (name_then w own ts) h = later-count n m ts (omega arith)

cut-spots : (n : ℕ) (ts : Terms) (r : List Spot) → spots_then (first_terms n ts) (spots_then (later_terms n ts) r) ≡ spots_then ts r
cut-spots zero ts r = refl
cut-spots (suc n) none r = refl
cut-spots (suc n) (variable_then w ts) r = ap (λ (l : List Spot). variable_spot w ∷ l) (cut-spots n ts r)
cut-spots (suc n) (name_then w own ts) r = ap (λ (l : List Spot). symbol_spot (called (count own)) w (count own) ∷ spots_then own l) (cut-spots n ts r)

module _ (name : Naming) where
  pub terms-count : {n : ℕ} (e : Expr) → Format.Terms n e → count (named_terms name e) ≡ n
  terms-count e terms_none = refl
  terms-count (var v ∷ e) (terms_var h t) = ap suc (terms-count e t)
  terms-count (sym (constant c) ∷ e) (terms_constant h t) = ap suc (terms-count e t)
  terms-count (sym (compound f a) ∷ e) (terms_compound {n = m} h l k t) = ap suc (later-count a m (named_terms name e) (terms-count e t))

  -- a compound has some argument
  called-some : (a : ℕ) → 1 ≤ a → called a ≡ Compound
  called-some zero h = absurd (omega arith)
  called-some (suc a) h = refl

  pub terms-spots : {n : ℕ} (e : Expr) → Format.Terms n e → spots_then (named_terms name e) [] ≡ spots name e
  terms-spots e terms_none = refl
  terms-spots (var v ∷ e) (terms_var h t) = ap (λ (l : List Spot). variable_spot (variable_name v) ∷ l) (terms-spots e t)
  terms-spots (sym (constant c) ∷ e) (terms_constant h t) = ap (λ (l : List Spot). symbol_spot Constant (name Constant c) 0 ∷ l) (terms-spots e t)
  terms-spots (sym (compound f a) ∷ e) (terms_compound {n = m} h l k t) =
      let ts = named_terms name e in
      let n : count (first_terms a ts) ≡ a = first_count a ts (omega (arith, terms-count e t)) in
      rw (n, called-some a l)
      (ap (λ (l : List Spot). symbol_spot Compound (name Compound f) a ∷ l) (cut-spots a ts [] ∙ terms-spots e t))

  pub formula_spotted : (e : Expr) → IsFormula e → formula_spots (named_formula name e) ≡ spots name e
  formula_spotted (sym (predicate p a) ∷ e) (formula h k t) =
      rw (terms-count e t) (ap (λ (l : List Spot). symbol_spot Predicate (name Predicate p) a ∷ l) (terms-spots e t))
  formula_spotted [] x' = elim x' [ ]
  formula_spotted (var _ ∷ e) x5 = elim x5 [ ]
  formula_spotted (sym (constant _) ∷ e) x8 = elim x8 [ ]
  formula_spotted (sym (compound _ _) ∷ e) x10 = elim x10 [ ]

  pub formulas_spotted : (g : Next.Goal) → AreFormulas g → formulas_spots (named_formulas name g) ≡ spots name (flat g)
  formulas_spotted [] h = refl
  formulas_spotted (f ∷ g) h =
      ap (λ (l : List Spot). l ++ formulas_spots (named_formulas name g)) (formula_spotted f h.0)
      ∙ ap (λ (l : List Spot). spots name f ++ l) (formulas_spotted g h.1)
      ∙ inv (spots-append name f (flat g))
