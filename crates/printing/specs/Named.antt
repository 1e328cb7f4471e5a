-- A book, or a goal, with names in the place of its numbers: the rules that are printed (document 02, C-14).
use Rattle.std.specs.Prelude.{ℕ, zero, suc, ◌+◌, ◌/◌, ◌%◌, List, [], ◌∷◌, ◌++◌, ltb}
use Rattle.terms.specs.When.{◌⇒◌∣◌}
use Rattle.terms.specs.Node.{constant, compound, predicate, var, sym, Expr}
use Rattle.search.specs.Next as Next
use Rattle.grammar.specs.Syntax.{Terms, none, variable_then, name_then, Formula, Rule}
use Rattle.grammar.specs.Names.{Sort, Constant, Compound, Predicate}
use Rattle.printing.specs.Spacing.{text, goal_text}

-- what each symbol is called, by its sort and its number
abbrev pub Naming : Type 0
Naming = Sort → ℕ → List ℕ

-- a number below 100,000 in decimal, at most k digits
abbrev pub digits : ℕ → ℕ → List ℕ
digits zero n = []
digits (suc k) n = ltb n 10 ⇒ (48 + n) ∷ [] ∣ digits k (n / 10) ++ ((48 + n % 10) ∷ [])

-- "variables as `V0`, `V1` and so on"
abbrev pub variable_name : ℕ → List ℕ
variable_name v = 86 ∷ digits 5 v

-- the first n terms of a row, and those behind them
abbrev pub first_terms : ℕ → Terms → Terms
first_terms zero ts = none
first_terms (suc n) none = none
first_terms (suc n) (variable_then w ts) = variable_then w (first_terms n ts)
first_terms (suc n) (name_then w own ts) = name_then w own (first_terms n ts)

abbrev pub later_terms : ℕ → Terms → Terms
later_terms zero ts = ts
later_terms (suc n) none = none
later_terms (suc n) (variable_then w ts) = later_terms n ts
later_terms (suc n) (name_then w own ts) = later_terms n ts

-- for what is no formula: good books and goals have none
abbrev no_formula : Formula
no_formula = record { symbol = []; arguments = none }

module _ (name : Naming) where
  -- a row of terms: "Compound terms .. are followed by their arguments", as many of the terms behind them as their arity
  abbrev pub named_terms : Expr → Terms
  named_terms [] = none
  named_terms (var v ∷ e) = variable_then (variable_name v) (named_terms e)
  named_terms (sym (constant c) ∷ e) = name_then (name Constant c) none (named_terms e)
  named_terms (sym (compound f n) ∷ e) = name_then (name Compound f) (first_terms n (named_terms e)) (later_terms n (named_terms e))
  named_terms (sym (predicate p n) ∷ e) = none

  -- a formula, which begins with its predicate
  abbrev pub named_formula : Expr → Formula
  named_formula [] = no_formula
  named_formula (var v ∷ e) = no_formula
  named_formula (sym (constant c) ∷ e) = no_formula
  named_formula (sym (compound f n) ∷ e) = no_formula
  named_formula (sym (predicate p n) ∷ e) = record { symbol = name Predicate p; arguments = named_terms e }

  abbrev pub named_formulas : Next.Goal → List Formula
  named_formulas [] = []
  named_formulas (f ∷ g) = named_formula f ∷ named_formulas g

  abbrev pub named_rule : Next.Clause → Rule
  named_rule c = record { head = named_formula c.head; body = named_formulas c.body }

  abbrev pub named_rules : Next.Book → List Rule
  named_rules [] = []
  named_rules (c ∷ b) = named_rule c ∷ named_rules b

  -- "Write a good book with its name list as text"
  abbrev pub printed : Next.Book → List ℕ
  printed b = text (named_rules b)

  abbrev pub printed_goal : Next.Goal → List ℕ
  printed_goal g = goal_text (named_formulas g)
