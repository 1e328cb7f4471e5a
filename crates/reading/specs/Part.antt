-- A rule that is read in part: what has been read of it, and the tokens that may stand next.
use Rattle.std.specs.Prelude.{ℕ, Bool, true, false, List, [], ◌∷◌}
use Rattle.terms.specs.When.{◌⇒◌∣◌}
use Rattle.grammar.specs.Token.{Token, name, variable, opening, closing, comma, arrow, stop}
use Rattle.grammar.specs.Syntax.{Terms, none, variable_then, name_then, Formula, Rule}

-- arguments, the last one outermost
pub data Done : Type 0 where
  none_yet : Done
  and_variable : Done → List ℕ → Done
  and_name : Done → List ℕ → Terms → Done

-- formulas of a rule, the last one first; or, inside what holds it, a bracket behind a name with the arguments that are done
pub data Part : Type 0 where
  formulas : List Formula → Part
  inside : Part → List ℕ → Done → Part

-- between two rules; before a formula or an argument that must come; behind a name, whose bracket may follow; behind a formula or an argument
pub data Mode : Type 0 where
  between : Mode
  expects : Mode
  named : List ℕ → Mode
  complete : Mode

-- rules that are read, the last one first; what is read of the next one
pub record State : Type 0 where
  pub rules : List Rule
  pub part : Part
  pub mode : Mode

abbrev pub state : List Rule → Part → Mode → State
state cs p m = record { rules = cs; part = p; mode = m }

abbrev pub start : State
start = state [] (formulas []) between

-- Arguments, formulas and rules that are done

abbrev pub terms_of : Done → Terms → Terms
terms_of none_yet ts = ts
terms_of (and_variable d w) ts = terms_of d (variable_then w ts)
terms_of (and_name d w own) ts = terms_of d (name_then w own ts)

abbrev pub formula_of : List ℕ → Terms → Formula
formula_of w own = record { symbol = w; arguments = own }

-- one more formula, or one more argument
abbrev pub put : Part → List ℕ → Terms → Part
put (formulas fs) w own = formulas (formula_of w own ∷ fs)
put (inside p v d) w own = inside p v (and_name d w own)

-- the rule of its formulas, the last one first; those of gs come behind them
abbrev pub rule_of : Formula → List Formula → List Formula → Rule
rule_of f [] gs = record { head = f; body = gs }
rule_of f (h ∷ fs) gs = rule_of h fs (f ∷ gs)

abbrev pub rules_of : List Rule → List Rule → List Rule
rules_of [] ds = ds
rules_of (c ∷ cs) ds = rules_of cs (c ∷ ds)

-- Tokens

pub data Taken : Type 0 where
  taken : State → Taken
  wrong : Taken

abbrev pub on_word : Token → (List ℕ → Taken) → (List ℕ → Taken) → Taken
on_word (name w) f g = f w
on_word (variable w) f g = g w
on_word opening f g = wrong
on_word closing f g = wrong
on_word comma f g = wrong
on_word arrow f g = wrong
on_word stop f g = wrong

abbrev pub is_opening : Token → Bool
is_opening (name w) = false
is_opening (variable w) = false
is_opening opening = true
is_opening closing = false
is_opening comma = false
is_opening arrow = false
is_opening stop = false

-- a variable may stand for an argument, and not for a formula
abbrev pub variable_in : List Rule → Part → List ℕ → Taken
variable_in cs (formulas fs) w = wrong
variable_in cs (inside p v d) w = taken (state cs (inside p v (and_variable d w)) complete)

abbrev pub filled : Done → Bool
filled none_yet = false
filled (and_variable d w) = true
filled (and_name d w own) = true

-- a comma stands behind an argument, and behind a formula of the body
abbrev pub comma_may : Part → Bool
comma_may (formulas []) = false
comma_may (formulas (h ∷ [])) = false
comma_may (formulas (f ∷ g ∷ fs)) = true
comma_may (inside p v d) = filled d

-- `:-` stands behind the head
abbrev pub arrow_may : Part → Bool
arrow_may (formulas []) = false
arrow_may (formulas (h ∷ [])) = true
arrow_may (formulas (f ∷ g ∷ fs)) = false
arrow_may (inside p v d) = false

abbrev pub closed : List Rule → Part → Taken
closed cs (formulas fs) = wrong
closed cs (inside p v d) = filled d ⇒ taken (state cs (put p v (terms_of d none)) complete) ∣ wrong

abbrev pub stopped : List Rule → Part → Taken
stopped cs (formulas []) = wrong
stopped cs (formulas (f ∷ fs)) = taken (state (rule_of f fs [] ∷ cs) (formulas []) between)
stopped cs (inside p v d) = wrong

-- what may stand behind a formula or an argument
abbrev pub behind : List Rule → Part → Token → Taken
behind cs p (name w) = wrong
behind cs p (variable w) = wrong
behind cs p opening = wrong
behind cs p closing = closed cs p
behind cs p comma = comma_may p ⇒ taken (state cs p expects) ∣ wrong
behind cs p arrow = arrow_may p ⇒ taken (state cs p expects) ∣ wrong
behind cs p stop = stopped cs p

abbrev pub next : List Rule → Part → Mode → Token → Taken
next cs p between t = on_word t (λ w. taken (state cs p (named w))) (λ w. wrong)
next cs p expects t = on_word t (λ w. taken (state cs p (named w))) (variable_in cs p)
next cs p (named w) t = is_opening t ⇒ taken (state cs (inside p w none_yet) expects) ∣ behind cs (put p w none) t
next cs p complete t = behind cs p t

-- a blank, or a comment: no bracket may follow a name behind it
abbrev pub settled : Part → Mode → Part
settled p between = p
settled p expects = p
settled p (named w) = put p w none
settled p complete = p

abbrev pub settled_mode : Mode → Mode
settled_mode between = between
settled_mode expects = expects
settled_mode (named w) = complete
settled_mode complete = complete

abbrev pub settle : State → State
settle s = state s.rules (settled s.part s.mode) (settled_mode s.mode)
