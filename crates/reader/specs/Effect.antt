-- What a token does to the rules that are read and to the one that is read in part, where no name waits for its bracket.
use Rattle.std.specs.Prelude.{ℕ, zero, suc, ◌≤◌, ◌≡◌, refl, Bool, true, false, List, [], ◌∷◌}
use Rattle.std.proofs.Common.{ap, subst, arith}
use Rattle.terms.specs.Cases.{cases}
use Rattle.grammar.specs.Token.{Token, name, variable, opening, closing, comma, arrow, stop}
use Rattle.grammar.specs.Syntax.{none, Formula, Rule}
use Rattle.reading.specs.Part.{Done, and_variable, Part, formulas, inside, Mode, between, expects, named, complete, State, state, Taken, taken, wrong, filled, comma_may, arrow_may, rule_of, terms_of, put, next, settle}
use Rattle.reading.specs.Reader.{nodes, limit, long, going, judge_taken, judge_token}
use Rattle.reading.proofs.LimitLaws.{variable-passes}

abbrev pub Stays : Token → Type 0
Stays (name w) = Unit {0}
Stays (variable w) = ⊥
Stays opening = ⊥
Stays closing = ⊥
Stays comma = Unit {0}
Stays arrow = Unit {0}
Stays stop = ⊥

pub data Effect : Token → State → State → Type 0 where
  stays : {t : Token} {cs : List Rule} {p : Part} {m m' : Mode} → Stays t → Effect t (state cs p m) (state cs p m')
  argues : {cs : List Rule} {q : Part} {u w : List ℕ} {d : Done} {m m' : Mode} → nodes (inside q u d) ≤ 255 → Effect (variable w) (state cs (inside q u d) m) (state cs (inside q u (and_variable d w)) m')
  closes : {cs : List Rule} {q : Part} {u : List ℕ} {d : Done} {m m' : Mode} → filled d ≡ true → Effect closing (state cs (inside q u d) m) (state cs (put q u (terms_of d none)) m')
  stops : {cs : List Rule} {f : Formula} {fs : List Formula} {m m' : Mode} → Effect stop (state cs (formulas (f ∷ fs)) m) (state (rule_of f fs [] ∷ cs) (formulas []) m')

going-taken : (n : Taken) (k : ℕ) (l : Bool) (at : ℕ) (s : State) → judge_taken n k l at ≡ going s → (n ≡ taken s) × (k ≡ 0)
going-taken wrong k l at s e = let z : ◌≡◌ {A = ℕ} 0 1 = cc in absurd (omega arith)
going-taken (taken x) zero false at s e = let q : x ≡ s = cc in (ap taken q, refl)
going-taken (taken x) zero true at s e = let z : ◌≡◌ {A = ℕ} 0 1 = cc in absurd (omega arith)
going-taken (taken x) (suc k) l at s e = let z : ◌≡◌ {A = ℕ} 0 1 = cc in absurd (omega arith)

never : {A : Type 0} {s : State} → wrong ≡ taken s → A
never e = let z : ◌≡◌ {A = ℕ} 0 1 = cc in absurd (omega arith)

told : {t : Token} {s x y : State} → taken x ≡ taken y → Effect t s x → Effect t s y
told {t} {s} {x} {y} e f = let q : x ≡ y = cc in subst (Effect t s) q f

effect-next : (cs : List Rule) (p : Part) (m : Mode) (t : Token) (s : State) → settle (state cs p m) ≡ state cs p m → next cs p m t ≡ taken s → limit cs p t ≡ 0 → Effect t (state cs p m) s
effect-next cs p between (name w) s z e l = told e (stays tt)
effect-next cs p between (variable w) s z e l = never e
effect-next cs p between opening s z e l = never e
effect-next cs p between closing s z e l = never e
effect-next cs p between comma s z e l = never e
effect-next cs p between arrow s z e l = never e
effect-next cs p between stop s z e l = never e
effect-next cs p expects (name w) s z e l = told e (stays tt)
effect-next cs (formulas fs) expects (variable w) s z e l = never e
effect-next cs (inside q u d) expects (variable w) s z e l = told e (argues (variable-passes cs (inside q u d) w l).0.nodes)
effect-next cs p expects opening s z e l = never e
effect-next cs p expects closing s z e l = never e
effect-next cs p expects comma s z e l = never e
effect-next cs p expects arrow s z e l = never e
effect-next cs p expects stop s z e l = never e
effect-next cs p (named w) t s z e l = let q = ap (λ (x : State). x.mode) z in let y : ◌≡◌ {A = ℕ} 0 1 = cc in absurd (omega arith)
effect-next cs p complete (name w) s z e l = never e
effect-next cs p complete (variable w) s z e l = never e
effect-next cs p complete opening s z e l = never e
effect-next cs (formulas fs) complete closing s z e l = never e
effect-next cs (inside q u d) complete closing s z e l = cases (filled d) (λ f. told (rw f at e) (closes f)) (λ f. never (rw f at e))
effect-next cs p complete comma s z e l = cases (comma_may p) (λ f. told (rw f at e) (stays tt)) (λ f. never (rw f at e))
effect-next cs p complete arrow s z e l = cases (arrow_may p) (λ f. told (rw f at e) (stays tt)) (λ f. never (rw f at e))
effect-next cs (formulas []) complete stop s z e l = never e
effect-next cs (formulas (f ∷ fs)) complete stop s z e l = told e stops
effect-next cs (inside q u d) complete stop s z e l = never e

pub effect : (s s' : State) (t : Token) (at : ℕ) → settle s ≡ s → judge_token s at t ≡ going s' → Effect t s s'
effect s s' t at z e =
    let g = going-taken (next s.rules s.part s.mode t) (limit s.rules s.part t) (long t) at s' e in
    effect-next s.rules s.part s.mode t s' z g.0 g.1
