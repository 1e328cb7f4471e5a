-- What the tokens that are taken mean: they are those of a goal, and the tokens of each goal are taken.
use Rattle.std.specs.Prelude.{ℕ, ◌≡◌, refl, List, [], ◌∷◌, ◌++◌}
use Rattle.std.proofs.Common.{sym as inv, ap, ◌∙◌, append-nil, arith}
use Rattle.terms.specs.Cases.{cases}
use Rattle.grammar.specs.Token.{Token, name, variable, opening, closing, comma, arrow, stop}
use Rattle.grammar.specs.Syntax.{Terms, none, variable_then, name_then, Formula, Rule, first, arguments_then, formula_then, body_then}
use Rattle.grammar.specs.Query.{more_then, End, open_end, full_stop, asked}
use Rattle.reading.specs.Part.{none_yet, and_variable, and_name, Part, formulas, inside, Mode, between, expects, named, complete, State, state}
use Rattle.reading.specs.Part.{terms_of, put, rule_of, Taken, taken, wrong, variable_in, comma_may, arrow_may, behind, next, settle}
use Rattle.reading.specs.PrintLaws.{formulas_then, rule_then, printed, Well, Kept, kept, settle-printed}
use Rattle.reading.proofs.Stop.{and_then}
use Rattle.reading.proofs.Whole.{Filled, put-filled}
use Rattle.asking.specs.Asking.{asker, begin, sealed, seal, step, goal, unfinished, meant_whole, meant, meaning}

-- tokens one behind the other, whatever their sizes
abbrev pub goes : State → List Token → Taken
goes s [] = taken s
goes s (t ∷ ts) = and_then (step s t) (λ n. goes n ts)

-- they are taken, and mean this goal
pub record Meets (s : State) (ts : List Token) (fs : List Formula) : Type 0 where
  pub end : State
  pub goes_there : goes s ts ≡ taken end
  pub means : meaning end ≡ goal fs

not_taken : {X : Type 0} {n : State} → wrong ≡ taken n → X
not_taken e = let z : ◌≡◌ {A = ℕ} 0 1 = cc in absurd (omega arith)

not-goal : {X : Type 0} {fs : List Formula} → unfinished ≡ goal fs → X
not-goal e = let z : ◌≡◌ {A = ℕ} 0 1 = cc in absurd (omega arith)

-- What was read, written again

seal-printed : (cs : List Rule) (p : Part) (m : Mode) (r : List Token) → Well p m → printed (state cs p m) r ≡ printed (sealed cs p m) r
seal-printed cs p between r h = rw h
seal-printed cs p expects r h = refl
seal-printed cs p (named w) r h = refl
seal-printed cs p complete r h = refl

abbrev pub KeptStep : State → Token → Taken → Type 0
KeptStep s t (taken n) = (r : List Token) → printed s (t ∷ r) ≡ printed n r
KeptStep s t wrong = Unit {0}

step_kept : (s : State) (t : Token) → KeptStep s t (step s t)
step_kept s t = by (next s.rules s.part s.mode t) (kept s.rules s.part s.mode t)
  where
    by : (k : Taken) → Kept s.rules s.part s.mode t k → KeptStep s t (seal k)
    by (taken n) h = λ r. h.0 r ∙ seal-printed n.rules n.part n.mode r h.1
    by wrong h = tt

goes-printed : (s : State) (ts r : List Token) (n : State) → goes s ts ≡ taken n → printed s (ts ++ r) ≡ printed n r
goes-printed s [] r n e = let q : s ≡ n = cc in ap (λ (z : State). printed z r) q
goes-printed s (t ∷ ts) r n e = by (step s t) (step_kept s t) (λ m q. goes-printed m ts r n q) e
  where
    by : (k : Taken) → KeptStep s t k → ((m : State) → goes m ts ≡ taken n → printed m (ts ++ r) ≡ printed n r) → and_then k (λ m. goes m ts) ≡ taken n → printed s (t ∷ ts ++ r) ≡ printed n r
    by (taken m) h more e = h (ts ++ r) ∙ more m e
    by wrong h more e = not_taken e

-- One rule at most, and nothing behind it; what is complete is there

abbrev pub Fine : List Rule → Part → Mode → Type 0
Fine [] p between = p ≡ formulas (asker ∷ [])
Fine [] p expects = Unit {0}
Fine [] p (named w) = Unit {0}
Fine [] p complete = Filled p
Fine (c ∷ []) p m = (p ≡ formulas []) × (m ≡ complete)
Fine (c ∷ d ∷ cs) p m = ⊥

abbrev pub FineTaken : Taken → Type 0
FineTaken (taken s) = Fine s.rules s.part s.mode
FineTaken wrong = Unit {0}

behind-fine : (p : Part) (t : Token) → FineTaken (seal (behind [] p t))
behind-fine p (name w) = tt
behind-fine p (variable w) = tt
behind-fine p opening = tt
behind-fine (formulas fs) closing = tt
behind-fine (inside p v none_yet) closing = tt
behind-fine (inside p v (and_variable d w)) closing = put-filled p v (terms_of (and_variable d w) none)
behind-fine (inside p v (and_name d w own)) closing = put-filled p v (terms_of (and_name d w own) none)
behind-fine p comma = cases (comma_may p) (λ e. rw e tt) (λ e. rw e tt)
behind-fine p arrow = cases (arrow_may p) (λ e. rw e tt) (λ e. rw e tt)
behind-fine (formulas []) stop = tt
behind-fine (formulas (f ∷ fs)) stop = (refl, refl)
behind-fine (inside p v d) stop = tt

variable-fine : (p : Part) (w : List ℕ) → FineTaken (seal (variable_in [] p w))
variable-fine (formulas fs) w = tt
variable-fine (inside p v d) w = refl

open_fine : (p : Part) (m : Mode) (t : Token) → FineTaken (seal (next [] p m t))
open_fine p between (name w) = tt
open_fine p between (variable w) = tt
open_fine p between opening = tt
open_fine p between closing = tt
open_fine p between comma = tt
open_fine p between arrow = tt
open_fine p between stop = tt
open_fine p expects (name w) = tt
open_fine p expects (variable w) = variable-fine p w
open_fine p expects opening = tt
open_fine p expects closing = tt
open_fine p expects comma = tt
open_fine p expects arrow = tt
open_fine p expects stop = tt
open_fine p (named v) (name w) = tt
open_fine p (named v) (variable w) = tt
open_fine p (named v) opening = tt
open_fine p (named v) closing = behind-fine (put p v none) closing
open_fine p (named v) comma = behind-fine (put p v none) comma
open_fine p (named v) arrow = behind-fine (put p v none) arrow
open_fine p (named v) stop = behind-fine (put p v none) stop
open_fine p complete t = behind-fine p t

-- behind the full stop
over-wrong : (c : Rule) (t : Token) → step (state (c ∷ []) (formulas []) complete) t ≡ wrong
over-wrong c (name w) = refl
over-wrong c (variable w) = refl
over-wrong c opening = refl
over-wrong c closing = refl
over-wrong c comma = refl
over-wrong c arrow = refl
over-wrong c stop = refl

pub step-fine : (cs : List Rule) (p : Part) (m : Mode) (t : Token) → Fine cs p m → FineTaken (step (state cs p m) t)
step-fine [] p m t h = open_fine p m t
step-fine (c ∷ []) p m t h = rw (h.0, h.1) (rw (over-wrong c t) tt)
step-fine (c ∷ d ∷ cs) p m t h = absurd h

pub settle-fine : (cs : List Rule) (p : Part) (m : Mode) → Fine cs p m → Fine (settle (state cs p m)).rules (settle (state cs p m)).part (settle (state cs p m)).mode
settle-fine [] p between h = h
settle-fine [] p expects h = tt
settle-fine [] p (named w) h = put-filled p w none
settle-fine [] p complete h = h
settle-fine (c ∷ []) p m h = rw (h.0, h.1) (refl, refl)
settle-fine (c ∷ d ∷ cs) p m h = absurd h

goes-fine : (s : State) (ts : List Token) (n : State) → Fine s.rules s.part s.mode → goes s ts ≡ taken n → Fine n.rules n.part n.mode
goes-fine s [] n h e = let q : s ≡ n = cc in rw q at h
goes-fine s (t ∷ ts) n h e = by (step s t) (step-fine s.rules s.part s.mode t h) (λ m g q. goes-fine m ts n g q) e
  where
    by : (k : Taken) → FineTaken k → ((m : State) → Fine m.rules m.part m.mode → goes m ts ≡ taken n → Fine n.rules n.part n.mode) → and_then k (λ m. goes m ts) ≡ taken n →
        Fine n.rules n.part n.mode
    by (taken m) h more e = more m h e
    by wrong h more e = not_taken e

-- What is taken is a goal's

-- behind a head
abbrev rest_of : List Formula → List Token → List Token
rest_of [] r = r
rest_of (g ∷ gs) r = arrow ∷ formula_then g (more_then gs r)

abbrev goes_with : List Formula → List Formula → List Token → List Token
goes_with [] gs r = rest_of gs r
goes_with (f ∷ fs) gs r = more_then gs r

rule-rest : (f : Formula) (fs gs : List Formula) (r : List Token) → formulas_then (f ∷ fs) (goes_with fs gs r) ≡ formula_then (rule_of f fs gs).head (rest_of (rule_of f fs gs).body r)
rule-rest f [] gs r = refl
rule-rest f (h ∷ []) gs r = rule-rest h [] (f ∷ gs) r
rule-rest f (h ∷ g ∷ fs) gs r = rule-rest h (g ∷ fs) (f ∷ gs) r

formulas-rest : (f : Formula) (fs : List Formula) (r : List Token) → formulas_then (f ∷ fs) r ≡ formula_then (rule_of f fs []).head (rest_of (rule_of f fs []).body r)
formulas-rest f [] r = rule-rest f [] [] r
formulas-rest f (h ∷ fs) r = rule-rest f (h ∷ fs) [] r

body_more : (gs : List Formula) → body_then comma gs [] ≡ more_then gs (stop ∷ [])
body_more [] = refl
body_more (g ∷ gs) = ap (λ (l : List Token). comma ∷ formula_then g l) (body_more gs)

abbrev head_first : List Token → List Token
head_first ts = name (97 ∷ []) ∷ arrow ∷ ts ++ []

impossible : {X : Type 0} → ◌≡◌ {A = ℕ} 0 1 → X
impossible z = absurd (omega arith)

open_head : (w : List ℕ) (own : Terms) (body : List Formula) (ts : List Token) → head_first ts ≡ name w ∷ arguments_then first own (rest_of body []) → ts ≡ asked body open_end
open_head w none [] ts e = impossible (cc)
open_head w none (g ∷ gs) ts e = inv (append-nil ts) ∙ (cc)
open_head w (variable_then v us) body ts e = impossible (cc)
open_head w (name_then v own us) body ts e = impossible (cc)

stop-head : (w : List ℕ) (own : Terms) (body : List Formula) (ts : List Token) → head_first ts ≡ name w ∷ arguments_then first own (body_then arrow body []) → ts ≡ asked body full_stop
stop-head w none [] ts e = impossible (cc)
stop-head w none (g ∷ gs) ts e = let q : ts ++ [] ≡ formula_then g (body_then comma gs []) = cc in inv (append-nil ts) ∙ q ∙ ap (formula_then g) (body_more gs)
stop-head w (variable_then v us) body ts e = impossible (cc)
stop-head w (name_then v own us) body ts e = impossible (cc)

whole-asked : (cs : List Rule) (p : Part) (ts : List Token) (fs : List Formula) → Fine cs p complete → head_first ts ≡ printed (state cs p complete) [] → meant_whole cs p ≡ goal fs →
    (z : End) × (ts ≡ asked fs z)
whole-asked [] (formulas []) ts fs h k e = not-goal e
whole-asked [] (formulas (f ∷ gs)) ts fs h k e =
    let q : (rule_of f gs []).body ≡ fs = cc in
    (open_end, open_head (rule_of f gs []).head.symbol (rule_of f gs []).head.arguments (rule_of f gs []).body ts (k ∙ formulas-rest f gs []) ∙ ap (λ (l : List Formula). asked l open_end) q)
whole-asked [] (inside p v d) ts fs h k e = not-goal e
whole-asked (c ∷ []) p ts fs h k e =
    let q : c.body ≡ fs = cc in
    let u : printed (state (c ∷ []) p complete) [] ≡ rule_then c [] = rw h.0 in
    (full_stop, stop-head c.head.symbol c.head.arguments c.body ts (k ∙ u) ∙ ap (λ (l : List Formula). asked l full_stop) q)
whole-asked (c ∷ d ∷ cs) p ts fs h k e = absurd h

state-asked : (cs : List Rule) (p : Part) (m : Mode) (ts : List Token) (fs : List Formula) → Fine cs p m → head_first ts ≡ printed (state cs p m) [] → meant cs p m ≡ goal fs →
    (z : End) × (ts ≡ asked fs z)
state-asked [] p between ts fs h k e =
    let q : [] ≡ fs = cc in
    let u : head_first ts ≡ name (97 ∷ []) ∷ arrow ∷ [] = k ∙ rw h in
    (open_end, inv (append-nil ts) ∙ (let v : ts ++ [] ≡ [] = cc in v) ∙ ap (λ (l : List Formula). asked l open_end) q)
state-asked (c ∷ []) p between ts fs h k e = impossible (cc h.1)
state-asked (c ∷ d ∷ cs) p between ts fs h k e = absurd h
state-asked cs p expects ts fs h k e = not-goal e
state-asked cs p (named w) ts fs h k e = whole-asked cs (put p w none) ts fs (settle-fine cs p (named w) h) (k ∙ settle-printed cs p (named w) []) e
state-asked cs p complete ts fs h k e = whole-asked cs p ts fs h k e

pub meets-asked : {ts : List Token} {fs : List Formula} → Meets begin ts fs → (z : End) × (ts ≡ asked fs z)
meets-asked {ts} {fs} m =
    let n = m.end in
    state-asked n.rules n.part n.mode ts fs (goes-fine begin ts n refl m.goes_there) (goes-printed begin ts [] n m.goes_there) m.means
