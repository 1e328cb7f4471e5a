-- The tokens of rules that keep to the sizes are taken, and the rules come back.
use Rattle.std.specs.Prelude.{ℕ, ◌+◌, ◌≤◌, ◌≡◌, refl, false, List, [], ◌∷◌, length}
use Rattle.std.proofs.Common.{sym as inv, arith}
use Rattle.std.proofs.lemmas.Bool.{lt-leb}
use Rattle.grammar.specs.Token.{Token, name, variable, comma, arrow}
use Rattle.grammar.specs.Syntax.{Terms, none, variable_then, name_then, Formula, Rule, Turn, first, later, before, arguments_then, formula_then, body_then, written}
use Rattle.grammar.specs.Names.{count, formulas_spots, with_variable, variables_after}
use Rattle.grammar.specs.NameLaws.{variables-more, with_more}
use Rattle.grammar.specs.Reading.{Small, SmallFormulas, SmallRule, SmallRules}
use Rattle.reading.specs.Part.{Done, none_yet, and_variable, and_name, Part, formulas, inside, between, expects, named, complete, State, state}
use Rattle.reading.specs.Part.{terms_of, put, rule_of, rules_of, is_opening}
use Rattle.reading.specs.Reader.{terms_nodes, formulas_nodes, nodes, terms_variables, formulas_variables, variables, size, full, crowded, going, judge_token}
use Rattle.reading.specs.PrintLaws.{turn}
use Rattle.reading.specs.SizeLaws.{formula-nodes, formula-variables}
use Rattle.reading.proofs.LimitLaws.{Passes}
use Rattle.reading.specs.Limits.{Room}
use Rattle.reading.specs.RunLaws.{Runs, run_end, run_step, Shut, unsettle_runs}

-- Words that pass the tests

room-full : (p : Part) → Room p → full p ≡ false
room-full (formulas fs) h = lt-leb 17 (length fs) (omega arith)
room-full (inside p v d) h = lt-leb 8 (size d) (omega arith)

uncrowded : (cs : List Rule) (p : Part) → Passes cs p → crowded cs p ≡ false
uncrowded cs p h = rw (lt-leb 256 (nodes p) (omega (arith, h.nodes)), lt-leb 512 (length cs) (omega (arith, h.rules)))

pub name-between : (cs : List Rule) (p : Part) (w : List ℕ) → Passes cs p → length w ≤ 32 → (at : ℕ) → judge_token (state cs p between) at (name w) ≡ going (state cs p (named w))
name-between cs p w h l at = rw (room-full p h.room, uncrowded cs p h, lt-leb 33 (length w) (omega arith))

pub name_expected : (cs : List Rule) (p : Part) (w : List ℕ) → Passes cs p → length w ≤ 32 → (at : ℕ) → judge_token (state cs p expects) at (name w) ≡ going (state cs p (named w))
name_expected cs p w h l at = rw (room-full p h.room, uncrowded cs p h, lt-leb 33 (length w) (omega arith))

pub variable_expected : (cs : List Rule) (p : Part) (v w : List ℕ) (d : Done) → Passes cs (inside p v d) → length (with_variable (variables (inside p v d)) w) ≤ 64 → (at : ℕ) →
    judge_token (state cs (inside p v d) expects) at (variable w) ≡ going (state cs (inside p v (and_variable d w)) complete)
variable_expected cs p v w d h l at =
    rw (room-full (inside p v d) h.room, uncrowded cs (inside p v d) h, lt-leb 65 (length (with_variable (variables (inside p v d)) w)) (omega arith))

-- Arguments

-- behind a name whose bracket may follow, or behind an argument
abbrev pub opened : Turn → List Rule → Part → List ℕ → Done → State
opened first cs q w d = state cs q (named w)
opened later cs q w d = state cs (inside q w d) complete

pub sign-taken : (cs : List Rule) (q : Part) (w : List ℕ) (d : Done) (at : ℕ) → judge_token (opened (turn d) cs q w d) at (before (turn d)) ≡ going (state cs (inside q w d) expects)
sign-taken cs q w none_yet at = refl
sign-taken cs q w (and_variable d v) at = refl
sign-taken cs q w (and_name d v own) at = refl

pub later-shut : (ts : Terms) (r : List Token) → Shut (arguments_then later ts r)
later-shut none r = refl
later-shut (variable_then w ts) r = refl
later-shut (name_then w own ts) r = refl

pub terms_more : (ts : Terms) (seen : List (List ℕ)) → length seen ≤ length (terms_variables seen ts)
terms_more none seen = omega arith
terms_more (variable_then w ts) seen = omega (arith, with_more seen w, terms_more ts (with_variable seen w))
terms_more (name_then w own ts) seen = omega (arith, terms_more own seen, terms_more ts (terms_variables seen own))

-- the arguments to come fit behind those that are done
pub record Fitting (cs : List Rule) (q : Part) (w : List ℕ) (d : Done) (ts : Terms) : Type 0 where
  pub rules : length cs ≤ 511
  pub few : size d + count ts ≤ 8
  pub small : Small ts
  pub fits : nodes (inside q w d) + terms_nodes ts ≤ 256
  pub known : length (terms_variables (variables (inside q w d)) ts) ≤ 64

none-run : (cs : List Rule) (q : Part) (w : List ℕ) (d : Done) (r : List Token) (e : State) → Shut r → Runs (state cs (put q w (terms_of d none)) complete) r e →
    Runs (opened (turn d) cs q w d) (arguments_then (turn d) none r) e
none-run cs q w none_yet r e h c = unsettle_runs (state cs q (named w)) h c
none-run cs q w (and_variable d v) r e h c = run_step (λ at. refl) c
none-run cs q w (and_name d v own) r e h c = run_step (λ at. refl) c

pub arguments-run : (ts : Terms) (cs : List Rule) (q : Part) (w : List ℕ) (d : Done) (r : List Token) (e : State) → Fitting cs q w d ts → Shut r →
    Runs (state cs (put q w (terms_of d ts)) complete) r e → Runs (opened (turn d) cs q w d) (arguments_then (turn d) ts r) e
arguments-run none cs q w d r e f h c = none-run cs q w d r e h c
arguments-run (variable_then v ts) cs q w d r e f h c =
    let p : Passes cs (inside q w d) = record { room = omega (arith, f.few); nodes = omega (arith, f.fits); rules = f.rules } in
    let l : length (with_variable (variables (inside q w d)) v) ≤ 64 = omega (arith, f.known, terms_more ts (with_variable (variables (inside q w d)) v)) in
    let g : Fitting cs q w (and_variable d v) ts = record { rules = f.rules; few = omega (arith, f.few); small = f.small; fits = omega (arith, f.fits); known = f.known } in
    run_step (sign-taken cs q w d) (run_step (variable_expected cs q w v d p l) (arguments-run ts cs q w (and_variable d v) r e g h c))
arguments-run (name_then v own ts) cs q w d r e f h c =
    let s = f.small in
    let p : Passes cs (inside q w d) = record { room = omega (arith, f.few); nodes = omega (arith, f.fits); rules = f.rules } in
    let g : Fitting cs q w (and_name d v own) ts = record { rules = f.rules; few = omega (arith, f.few); small = s.3; fits = omega (arith, f.fits); known = f.known } in
    let i : Fitting cs (inside q w d) v none_yet own =
    record {
      rules = f.rules;
      few = omega (arith, s.1);
      small = s.2;
      fits = omega (arith, f.fits);
      known = omega (arith, f.known, terms_more ts (terms_variables (variables (inside q w d)) own));
    } in
    run_step (sign-taken cs q w d)
    (run_step (name_expected cs (inside q w d) v p s.0)
    (arguments-run own cs (inside q w d) v none_yet (arguments_then later ts r) e i (later-shut ts r) (arguments-run ts cs q w (and_name d v own) r e g h c)))

-- Formulas and rules

-- these formulas fit behind those that are read
pub record Coming (cs : List Rule) (fs gs : List Formula) : Type 0 where
  pub rules : length cs ≤ 511
  pub few : length fs + length gs ≤ 17
  pub small : SmallFormulas gs
  pub fits : formulas_nodes fs + length (formulas_spots gs) ≤ 256
  pub known : length (variables_after (formulas_variables fs) (formulas_spots gs)) ≤ 64

coming-on : (cs : List Rule) (fs : List Formula) (g : Formula) (gs : List Formula) → Coming cs fs (g ∷ gs) → Coming cs (g ∷ fs) gs
coming-on cs fs g gs c =
    record {
      rules = c.rules;
      few = omega (arith, c.few);
      small = c.small.1;
      fits = omega (arith, c.fits, formula-nodes g gs);
      known = rw (inv (formula-variables g gs (formulas_variables fs))) c.known;
    }

coming-passes : (cs : List Rule) (fs : List Formula) (g : Formula) (gs : List Formula) → Coming cs fs (g ∷ gs) → Passes cs (formulas fs)
coming-passes cs fs g gs c = record { room = omega (arith, c.few); nodes = omega (arith, c.fits, formula-nodes g gs); rules = c.rules }

pub formula-run : (cs : List Rule) (fs : List Formula) (g : Formula) (gs : List Formula) (r : List Token) (e : State) → Coming cs fs (g ∷ gs) → Shut r →
    Runs (state cs (formulas (g ∷ fs)) complete) r e → Runs (state cs (formulas fs) (named g.symbol)) (arguments_then first g.arguments r) e
formula-run cs fs g gs r e c h t =
    let d = coming-on cs fs g gs c in
    let f : Fitting cs (formulas fs) g.symbol none_yet g.arguments =
    record {
      rules = c.rules;
      few = omega (arith, c.small.0.few);
      small = c.small.0.small;
      fits = omega (arith, d.fits);
      known = omega (arith, d.known, variables-more (formulas_variables (g ∷ fs)) (formulas_spots gs));
    } in
    arguments-run g.arguments cs (formulas fs) g.symbol none_yet r e f h t

-- what stands before the next formula of a body
abbrev pub joint : List Formula → Token
joint [] = arrow
joint (f ∷ fs) = comma

pub joint-taken : (cs : List Rule) (f : Formula) (fs : List Formula) (at : ℕ) → judge_token (state cs (formulas (f ∷ fs)) complete) at (joint fs) ≡ going (state cs (formulas (f ∷ fs)) expects)
joint-taken cs f [] at = refl
joint-taken cs f (h ∷ fs) at = refl

pub body-shut : (sign : Token) (gs : List Formula) (r : List Token) → is_opening sign ≡ false → Shut (body_then sign gs r)
body-shut sign [] r h = refl
body-shut sign (g ∷ gs) r h = h

body_run : (gs : List Formula) (cs : List Rule) (f : Formula) (fs : List Formula) (r : List Token) (e : State) → Coming cs (f ∷ fs) gs →
    Runs (state (rule_of f fs gs ∷ cs) (formulas []) between) r e → Runs (state cs (formulas (f ∷ fs)) complete) (body_then (joint fs) gs r) e
body_run [] cs f fs r e c t = run_step (λ at. refl) t
body_run (g ∷ gs) cs f fs r e c t =
    run_step (joint-taken cs f fs)
    (run_step (name_expected cs (formulas (f ∷ fs)) g.symbol (coming-passes cs (f ∷ fs) g gs c) c.small.0.short)
    (formula-run cs (f ∷ fs) g gs (body_then comma gs r) e c (body-shut comma gs r refl) (body_run gs cs g (f ∷ fs) r e (coming-on cs (f ∷ fs) g gs c) t)))

pub rule-run : (cs : List Rule) (c : Rule) (r : List Token) (e : State) → length cs ≤ 511 → SmallRule c → Runs (state (c ∷ cs) (formulas []) between) r e →
    Runs (state cs (formulas []) between) (formula_then c.head (body_then arrow c.body r)) e
rule-run cs c r e l s t =
    let k : Coming cs [] (c.head ∷ c.body) = record { rules = l; few = omega (arith, s.few); small = s.formulas; fits = omega (arith, s.nodes); known = s.variables } in
    run_step (name-between cs (formulas []) c.head.symbol (coming-passes cs [] c.head c.body k) s.formulas.0.short)
    (formula-run cs [] c.head c.body (body_then arrow c.body r) e k (body-shut arrow c.body r refl)
    (body_run c.body cs c.head [] r e (coming-on cs [] c.head c.body k) t))

-- the end of a run, and the rules in the order of the text
pub record Ends (cs ds : List Rule) : Type 0 where
  pub end : State
  pub run : Runs (state cs (formulas []) between) (written ds) end
  pub over : end.mode ≡ between
  pub all : rules_of end.rules [] ≡ rules_of cs ds

pub text-run : (ds cs : List Rule) → SmallRules ds → length cs + length ds ≤ 512 → Ends cs ds
text-run [] cs s l = record { end = state cs (formulas []) between; run = run_end; over = refl; all = refl }
text-run (d ∷ ds) cs s l =
    let t = text-run ds (d ∷ cs) s.1 (omega arith) in
    record { end = t.end; run = rule-run cs d (written ds) t.end (omega arith) s.0 t.run; over = t.over; all = t.all }
