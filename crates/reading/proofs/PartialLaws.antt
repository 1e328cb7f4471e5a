-- What is read in part is read again from its tokens, where it keeps to the sizes.
use Rattle.std.specs.Prelude.{ℕ, ◌≤◌, ◌≡◌, refl, List, [], ◌∷◌, length}
use Rattle.std.proofs.Common.{arith}
use Rattle.grammar.specs.Token.{Token, name, variable}
use Rattle.grammar.specs.Syntax.{Formula, Rule, first, before, arguments_then, formula_then}
use Rattle.grammar.specs.NameLaws.{with_more}
use Rattle.grammar.specs.Reading.{SmallFormula, SmallFormulas, SmallRules}
use Rattle.reading.specs.Part.{Done, none_yet, and_variable, and_name, Part, formulas, inside, Mode, between, expects, named, complete, State, state, start}
use Rattle.reading.specs.Reader.{formulas_nodes, nodes, done_variables, formulas_variables, variables, size}
use Rattle.reading.specs.PrintLaws.{turn, done_then, sign_then, formulas_then, before_next, rule_then, rules_then}
use Rattle.reading.specs.SizeLaws.{SmallDone, formula-nodes, formula-variables}
use Rattle.reading.proofs.LimitLaws.{Passes}
use Rattle.reading.specs.Limits.{SmallPart}
use Rattle.reading.specs.RunLaws.{Runs, run_step, Shut}
use Rattle.reading.proofs.CompleteLaws.{opened, Coming, sign-taken, name-between, name_expected, variable_expected, arguments-run, formula-run, joint, joint-taken, rule-run, terms_more}

-- Arguments that are done

-- what follows them begins with no bracket, where there are some
abbrev pub Follows : Done → List Token → Type 0
Follows none_yet y = Unit {0}
Follows (and_variable d w) y = Shut y
Follows (and_name d w own) y = Shut y

sign-follows : (d : Done) (y : List Token) → Follows d (before (turn d) ∷ y)
sign-follows none_yet y = tt
sign-follows (and_variable d w) y = refl
sign-follows (and_name d w own) y = refl

pub done-run : (d : Done) (cs : List Rule) (q : Part) (v : List ℕ) (y : List Token) (e : State) → SmallDone d → size d ≤ 8 → length cs ≤ 511 → nodes (inside q v d) ≤ 256 →
    length (variables (inside q v d)) ≤ 64 → Follows d y → Runs (opened (turn d) cs q v d) y e → Runs (state cs q (named v)) (done_then d y) e
done-run none_yet cs q v y e s z l n k f r = r
done-run (and_variable d w) cs q v y e s z l n k f r =
    done-run d cs q v (before (turn d) ∷ variable w ∷ y) e s (omega arith) l (omega arith) (omega (arith, with_more (variables (inside q v d)) w)) (sign-follows d (variable w ∷ y))
    (run_step (sign-taken cs q v d) (run_step (variable_expected cs q v w d (record { room = omega arith; nodes = omega arith; rules = l }) k) r))
done-run (and_name d w own) cs q v y e s z l n k f r =
    done-run d cs q v (before (turn d) ∷ name w ∷ arguments_then first own y) e s.0 (omega arith) l (omega arith) (omega (arith, terms_more own (variables (inside q v d))))
    (sign-follows d (name w ∷ arguments_then first own y))
    (run_step (sign-taken cs q v d)
    (run_step (name_expected cs (inside q v d) w (record { room = omega arith; nodes = omega arith; rules = l }) s.1)
    (arguments-run own cs (inside q v d) w none_yet y e (record { rules = l; few = omega (arith, s.2); small = s.3; fits = omega arith; known = k }) f r)))

-- Formulas

-- the formulas keep to the sizes, and one more comes behind them
formula-coming : (cs : List Rule) (fs : List Formula) (f : Formula) → SmallFormula f → length (f ∷ fs) ≤ 17 → formulas_nodes (f ∷ fs) ≤ 256 → length (formulas_variables (f ∷ fs)) ≤ 64 →
    length cs ≤ 511 → Coming cs fs (f ∷ [])
formula-coming cs fs f s few n k l =
    record {
      rules = l;
      few = omega (arith, few);
      small = (s, tt);
      fits = omega (arith, n, formula-nodes f []);
      known = rw (formula-variables f [] (formulas_variables fs)) k;
    }

joint-then : (f : Formula) (fs : List Formula) (x : List Token) → sign_then (f ∷ fs) x ≡ joint fs ∷ x
joint-then f [] x = refl
joint-then f (g ∷ fs) x = refl

joint-shut : (fs : List Formula) (x : List Token) → Shut (joint fs ∷ x)
joint-shut [] x = refl
joint-shut (f ∷ fs) x = refl

pub formulas-run : (fs : List Formula) (f : Formula) (cs : List Rule) (x : List Token) (e : State) → SmallFormulas (f ∷ fs) → length (f ∷ fs) ≤ 17 → formulas_nodes (f ∷ fs) ≤ 256 →
    length (formulas_variables (f ∷ fs)) ≤ 64 → length cs ≤ 511 → Shut x → Runs (state cs (formulas (f ∷ fs)) complete) x e → Runs (state cs (formulas []) between) (formulas_then (f ∷ fs) x) e
formulas-run [] f cs x e s few n k l h r =
    run_step (name-between cs (formulas []) f.symbol (record { room = omega arith; nodes = omega arith; rules = l }) s.0.short)
    (formula-run cs [] f [] x e (formula-coming cs [] f s.0 few n k l) h r)
formulas-run (g ∷ fs) f cs x e s few n k l h r =
    rw (joint-then g fs (formula_then f x))
    (formulas-run fs g cs (joint fs ∷ formula_then f x) e s.1 (omega arith) (omega arith) (omega (arith, terms_more f.arguments (formulas_variables (g ∷ fs)))) l
    (joint-shut fs (formula_then f x))
    (run_step (joint-taken cs g fs)
    (run_step (name_expected cs (formulas (g ∷ fs)) f.symbol (record { room = omega arith; nodes = omega arith; rules = l }) s.0.short)
    (formula-run cs (g ∷ fs) f [] x e (formula-coming cs (g ∷ fs) f s.0 few n k l) h r))))

-- Where the next formula or argument begins

abbrev pub waiting : Part → Mode
waiting (formulas []) = between
waiting (formulas (f ∷ fs)) = expects
waiting (inside p v d) = expects

pub name_waited : (p : Part) (cs : List Rule) (w : List ℕ) (y : List Token) (e : State) → Passes cs p → length w ≤ 32 → Runs (state cs p (named w)) y e → Runs (state cs p (waiting p)) (name w ∷ y) e
name_waited (formulas []) cs w y e h l r = run_step (name-between cs (formulas []) w h l) r
name_waited (formulas (f ∷ fs)) cs w y e h l r = run_step (name_expected cs (formulas (f ∷ fs)) w h l) r
name_waited (inside p v d) cs w y e h l r = run_step (name_expected cs (inside p v d) w h l) r

pub variables-grow : (d : Done) (seen : List (List ℕ)) → length seen ≤ length (done_variables seen d)
variables-grow none_yet seen = omega arith
variables-grow (and_variable d w) seen = omega (arith, variables-grow d seen, with_more (done_variables seen d) w)
variables-grow (and_name d w own) seen = omega (arith, variables-grow d seen, terms_more own (done_variables seen d))

pub part-run : (p : Part) (cs : List Rule) (x : List Token) (e : State) → SmallPart p → nodes p ≤ 256 → length (variables p) ≤ 64 → length cs ≤ 511 → Runs (state cs p (waiting p)) x e →
    Runs (state cs (formulas []) between) (before_next p x) e
part-run (formulas []) cs x e s n k l r = r
part-run (formulas (f ∷ fs)) cs x e s n k l r =
    rw (joint-then f fs x) (formulas-run fs f cs (joint fs ∷ x) e s.0 s.1 n k l (joint-shut fs x) (run_step (joint-taken cs f fs) r))
part-run (inside p v d) cs x e s n k l r =
    part-run p cs (name v ∷ done_then d (before (turn d) ∷ x)) e s.0 (omega arith) (omega (arith, variables-grow d (variables p))) l
    (name_waited p cs v (done_then d (before (turn d) ∷ x)) e (record { room = s.1; nodes = omega arith; rules = l }) s.2
    (done-run d cs p v (before (turn d) ∷ x) e s.3 s.4 l n k (sign-follows d x) (run_step (sign-taken cs p v d) r)))

pub rules-run : (cs : List Rule) (x : List Token) (e : State) → SmallRules cs → length cs ≤ 512 → Runs (state cs (formulas []) between) x e → Runs start (rules_then cs x) e
rules-run [] x e s l r = r
rules-run (c ∷ cs) x e s l r = rules-run cs (rule_then c x) e s.1 (omega arith) (rule-run cs c x e (omega arith) s.0 r)

-- what stands before a formula or an argument of a rule is read so far
pub waiting-run : (cs : List Rule) (p : Part) (x : List Token) (e : State) → SmallRules cs → length cs ≤ 511 → SmallPart p → nodes p ≤ 256 → length (variables p) ≤ 64 →
    Runs (state cs p (waiting p)) x e → Runs start (rules_then cs (before_next p x)) e
waiting-run cs p x e s l t n k r = rules-run cs (before_next p x) e s (omega arith) (part-run p cs x e t n k l r)
