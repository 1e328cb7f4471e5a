-- Sizes of what is read in part, and of the rules that it becomes.
use Rattle.std.specs.Prelude.{ℕ, suc, ◌+◌, ◌≤◌, ◌≡◌, refl, List, [], ◌∷◌, length}
use Rattle.std.proofs.Common.{ap, ◌∙◌, arith, length-append}
use Rattle.grammar.specs.Syntax.{Terms, none, variable_then, name_then, Formula, Rule}
use Rattle.grammar.specs.Names.{Spot, count, spots_then, formula_spots, formulas_spots, rule_spots, with_variable, variables_after}
use Rattle.grammar.specs.NameLaws.{variables-append}
use Rattle.grammar.specs.Reading.{Small, SmallFormulas, SmallRule, SmallRules}
use Rattle.reading.specs.Part.{Done, none_yet, and_variable, and_name, Part, formulas, inside, terms_of, put, rule_of, rules_of}
use Rattle.reading.specs.Reader.{terms_nodes, done_nodes, formulas_nodes, nodes, terms_variables, done_variables, formulas_variables, variables, size}

-- Nodes and variables of trees are those of their spots

pub nodes-spots : (ts : Terms) (r : List Spot) → length (spots_then ts r) ≡ terms_nodes ts + length r
nodes-spots none r = omega arith
nodes-spots (variable_then w ts) r = omega (arith, nodes-spots ts r)
nodes-spots (name_then w own ts) r = omega (arith, nodes-spots own (spots_then ts r), nodes-spots ts r)

pub variables-spots : (ts : Terms) (r : List Spot) (seen : List (List ℕ)) → variables_after seen (spots_then ts r) ≡ variables_after (terms_variables seen ts) r
variables-spots none r seen = refl
variables-spots (variable_then w ts) r seen = variables-spots ts r (with_variable seen w)
variables-spots (name_then w own ts) r seen = variables-spots own (spots_then ts r) seen ∙ variables-spots ts r (terms_variables seen own)

pub formula-nodes : (f : Formula) (gs : List Formula) → length (formulas_spots (f ∷ gs)) ≡ suc (terms_nodes f.arguments + length (formulas_spots gs))
formula-nodes f gs = omega (arith, length-append (formula_spots f) (formulas_spots gs), nodes-spots f.arguments [])

pub formula-variables : (f : Formula) (gs : List Formula) (seen : List (List ℕ)) →
    variables_after seen (formulas_spots (f ∷ gs)) ≡ variables_after (terms_variables seen f.arguments) (formulas_spots gs)
formula-variables f gs seen =
    variables-append seen (formula_spots f) (formulas_spots gs) ∙ ap (λ (l : List (List ℕ)). variables_after l (formulas_spots gs)) (variables-spots f.arguments [] seen)

-- Arguments that are done

pub done-nodes-of : (d : Done) (ts : Terms) → terms_nodes (terms_of d ts) ≡ done_nodes d + terms_nodes ts
done-nodes-of none_yet ts = omega arith
done-nodes-of (and_variable d w) ts = omega (arith, done-nodes-of d (variable_then w ts))
done-nodes-of (and_name d w own) ts = omega (arith, done-nodes-of d (name_then w own ts))

pub done-variables-of : (d : Done) (ts : Terms) (seen : List (List ℕ)) → terms_variables seen (terms_of d ts) ≡ terms_variables (done_variables seen d) ts
done-variables-of none_yet ts seen = refl
done-variables-of (and_variable d w) ts seen = done-variables-of d (variable_then w ts) seen
done-variables-of (and_name d w own) ts seen = done-variables-of d (name_then w own ts) seen

pub size_of : (d : Done) (ts : Terms) → count (terms_of d ts) ≡ size d + count ts
size_of none_yet ts = omega arith
size_of (and_variable d w) ts = omega (arith, size_of d (variable_then w ts))
size_of (and_name d w own) ts = omega (arith, size_of d (name_then w own ts))

abbrev pub SmallDone : Done → Type 0
SmallDone none_yet = Unit {0}
SmallDone (and_variable d w) = SmallDone d
SmallDone (and_name d w own) = SmallDone d × (length w ≤ 32) × (count own ≤ 8) × Small own

pub small_of : (d : Done) (ts : Terms) → SmallDone d → Small ts → Small (terms_of d ts)
small_of none_yet ts p q = q
small_of (and_variable d w) ts p q = small_of d (variable_then w ts) p q
small_of (and_name d w own) ts p q = small_of d (name_then w own ts) p.0 (p.1, p.2, p.3, q)

-- One formula or argument more

pub put-nodes : (p : Part) (w : List ℕ) (own : Terms) → nodes (put p w own) ≡ suc (nodes p + terms_nodes own)
put-nodes (formulas fs) w own = refl
put-nodes (inside p v d) w own = omega arith

pub put-variables : (p : Part) (w : List ℕ) (own : Terms) → variables (put p w own) ≡ terms_variables (variables p) own
put-variables (formulas fs) w own = refl
put-variables (inside p v d) w own = refl

-- A rule of its formulas

pub rule-nodes : (f : Formula) (fs gs : List Formula) → length (rule_spots (rule_of f fs gs)) ≡ formulas_nodes (f ∷ fs) + length (formulas_spots gs)
rule-nodes f [] gs = omega (arith, formula-nodes f gs)
rule-nodes f (h ∷ fs) gs = omega (arith, rule-nodes h fs (f ∷ gs), formula-nodes f gs)

pub rule-variables : (f : Formula) (fs gs : List Formula) →
    variables_after [] (rule_spots (rule_of f fs gs)) ≡ variables_after (formulas_variables (f ∷ fs)) (formulas_spots gs)
rule-variables f [] gs = formula-variables f gs []
rule-variables f (h ∷ fs) gs = rule-variables h fs (f ∷ gs) ∙ formula-variables f gs (formulas_variables (h ∷ fs))

rule-body : (f : Formula) (fs gs : List Formula) → length (rule_of f fs gs).body ≡ length fs + length gs
rule-body f [] gs = omega arith
rule-body f (h ∷ fs) gs = omega (arith, rule-body h fs (f ∷ gs))

rule-formulas : (f : Formula) (fs gs : List Formula) → SmallFormulas (f ∷ fs) → SmallFormulas gs → SmallFormulas ((rule_of f fs gs).head ∷ (rule_of f fs gs).body)
rule-formulas f [] gs p q = (p.0, q)
rule-formulas f (h ∷ fs) gs p q = rule-formulas h fs (f ∷ gs) p.1 (p.0, q)

pub rule-small : (f : Formula) (fs : List Formula) → SmallFormulas (f ∷ fs) → length (f ∷ fs) ≤ 17 → formulas_nodes (f ∷ fs) ≤ 256 → length (formulas_variables (f ∷ fs)) ≤ 64 →
    SmallRule (rule_of f fs [])
rule-small f fs s few nodes variables =
    record {
      few = omega (arith, few, rule-body f fs []);
      formulas = rule-formulas f fs [] s tt;
      nodes = omega (arith, nodes, rule-nodes f fs []);
      variables = rw (rule-variables f fs []) variables;
    }

pub rules-small : (cs ds : List Rule) → SmallRules cs → SmallRules ds → SmallRules (rules_of cs ds)
rules-small [] ds p q = q
rules-small (c ∷ cs) ds p q = rules-small cs (c ∷ ds) p.1 (p.0, q)

pub rules-count : (cs ds : List Rule) → length (rules_of cs ds) ≡ length cs + length ds
rules-count [] ds = omega arith
rules-count (c ∷ cs) ds = omega (arith, rules-count cs (c ∷ ds))
