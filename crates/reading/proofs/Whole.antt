-- Every state of the reader can be made whole by tokens, whatever the sizes.
use Rattle.std.specs.Prelude.{ℕ, ◌≡◌, refl, true, List, [], ◌∷◌, ◌++◌}
use Rattle.std.proofs.Common.{sym as inv, ap, ◌∙◌, true≢false, arith}
use Rattle.terms.specs.Cases.{cases}
use Rattle.grammar.specs.Token.{Token, name, variable, opening, closing, comma, arrow, stop}
use Rattle.grammar.specs.Syntax.{Terms, none, Rule}
use Rattle.reading.specs.Part.{none_yet, and_variable, and_name, Part, formulas, inside, Mode, between, expects, named, complete, State, state}
use Rattle.reading.specs.Part.{terms_of, put, Taken, taken, wrong, filled, comma_may, arrow_may, variable_in, behind, next, settled, settled_mode}
use Rattle.reading.specs.PrintLaws.{printed, Kept, kept}
use Rattle.reading.proofs.Stop.{and_then}

-- What tokens make a part whole

abbrev pub ending : Part → List Token
ending (formulas fs) = stop ∷ []
ending (inside p v d) = closing ∷ ending p

abbrev pub a : List ℕ
a = 97 ∷ []

abbrev pub completion : Part → Mode → List Token
completion p between = []
completion p expects = name a ∷ ending p
completion p (named w) = ending p
completion p complete = ending p

-- tokens one behind the other, whatever their sizes
abbrev pub goes : State → List Token → Taken
goes s [] = taken s
goes s (t ∷ ts) = and_then (next s.rules s.part s.mode t) (λ n. goes n ts)

-- they end between two rules
pub record Over (n : Taken) : Type 0 where
  pub rules : List Rule
  pub over : n ≡ taken (state rules (formulas []) between)

put-over : (cs : List Rule) (p : Part) (w : List ℕ) (own : Terms) → Over (goes (state cs (put p w own) complete) (ending p))
put-over cs (formulas fs) w own = record { rules = _; over = refl }
put-over cs (inside p v d) w own = put-over cs p v (terms_of (and_name d w own) none)

-- something is done
abbrev pub Filled : Part → Type 0
Filled (formulas []) = ⊥
Filled (formulas (f ∷ fs)) = Unit {0}
Filled (inside p v d) = filled d ≡ true

part-over : (cs : List Rule) (p : Part) → Filled p → Over (goes (state cs p complete) (ending p))
part-over cs (formulas []) h = absurd h
part-over cs (formulas (f ∷ fs)) h = record { rules = _; over = refl }
part-over cs (inside p v none_yet) h = absurd (true≢false (inv h))
part-over cs (inside p v (and_variable d w)) h = put-over cs p v (terms_of (and_variable d w) none)
part-over cs (inside p v (and_name d w own)) h = put-over cs p v (terms_of (and_name d w own) none)

-- A state that the reader comes to

abbrev pub Healthy : Part → Mode → Type 0
Healthy p between = p ≡ formulas []
Healthy p expects = Unit {0}
Healthy p (named w) = Unit {0}
Healthy p complete = Filled p

named-over : (cs : List Rule) (p : Part) (w : List ℕ) → Over (goes (state cs p (named w)) (ending p))
named-over cs (formulas fs) w = record { rules = _; over = refl }
named-over cs (inside p v d) w = put-over cs p v (terms_of (and_name d w none) none)

pub state-over : (cs : List Rule) (p : Part) (m : Mode) → Healthy p m → Over (goes (state cs p m) (completion p m))
state-over cs p between h = record { rules = cs; over = ap (λ (q : Part). taken (state cs q between)) h }
state-over cs p expects h = named-over cs p a
state-over cs p (named w) h = named-over cs p w
state-over cs p complete h = part-over cs p h

pub goes-printed : (s : State) (ts r : List Token) (n : State) → goes s ts ≡ taken n → printed s (ts ++ r) ≡ printed n r
goes-printed s [] r n e = let q : s ≡ n = cc in ap (λ (z : State). printed z r) q
goes-printed s (t ∷ ts) r n e = by (next s.rules s.part s.mode t) (kept s.rules s.part s.mode t) (λ m q. goes-printed m ts r n q) e
  where
    by : (k : Taken) → Kept s.rules s.part s.mode t k → ((m : State) → goes m ts ≡ taken n → printed m (ts ++ r) ≡ printed n r) →
        and_then k (λ m. goes m ts) ≡ taken n → printed s (t ∷ ts ++ r) ≡ printed n r
    by (taken m) h more e = h.0 (ts ++ r) ∙ more m e
    by wrong h more e = let z : ◌≡◌ {A = ℕ} 0 1 = cc in absurd (omega arith)

pub put-filled : (p : Part) (w : List ℕ) (own : Terms) → Filled (put p w own)
put-filled (formulas fs) w own = tt
put-filled (inside p v d) w own = refl

abbrev pub HealthyTaken : Taken → Type 0
HealthyTaken (taken s) = Healthy s.part s.mode
HealthyTaken wrong = Unit {0}

behind-healthy : (cs : List Rule) (p : Part) (t : Token) → HealthyTaken (behind cs p t)
behind-healthy cs p (name w) = tt
behind-healthy cs p (variable w) = tt
behind-healthy cs p opening = tt
behind-healthy cs (formulas fs) closing = tt
behind-healthy cs (inside p v none_yet) closing = tt
behind-healthy cs (inside p v (and_variable d w)) closing = put-filled p v (terms_of (and_variable d w) none)
behind-healthy cs (inside p v (and_name d w own)) closing = put-filled p v (terms_of (and_name d w own) none)
behind-healthy cs p comma = cases (comma_may p) (λ e. rw e tt) (λ e. rw e tt)
behind-healthy cs p arrow = cases (arrow_may p) (λ e. rw e tt) (λ e. rw e tt)
behind-healthy cs (formulas []) stop = tt
behind-healthy cs (formulas (f ∷ fs)) stop = refl
behind-healthy cs (inside p v d) stop = tt

variable-healthy : (cs : List Rule) (p : Part) (w : List ℕ) → HealthyTaken (variable_in cs p w)
variable-healthy cs (formulas fs) w = tt
variable-healthy cs (inside p v d) w = refl

pub next-healthy : (cs : List Rule) (p : Part) (m : Mode) (t : Token) → HealthyTaken (next cs p m t)
next-healthy cs p between (name w) = tt
next-healthy cs p between (variable w) = tt
next-healthy cs p between opening = tt
next-healthy cs p between closing = tt
next-healthy cs p between comma = tt
next-healthy cs p between arrow = tt
next-healthy cs p between stop = tt
next-healthy cs p expects (name w) = tt
next-healthy cs p expects (variable w) = variable-healthy cs p w
next-healthy cs p expects opening = tt
next-healthy cs p expects closing = tt
next-healthy cs p expects comma = tt
next-healthy cs p expects arrow = tt
next-healthy cs p expects stop = tt
next-healthy cs p (named v) (name w) = tt
next-healthy cs p (named v) (variable w) = tt
next-healthy cs p (named v) opening = tt
next-healthy cs p (named v) closing = behind-healthy cs (put p v none) closing
next-healthy cs p (named v) comma = behind-healthy cs (put p v none) comma
next-healthy cs p (named v) arrow = behind-healthy cs (put p v none) arrow
next-healthy cs p (named v) stop = behind-healthy cs (put p v none) stop
next-healthy cs p complete t = behind-healthy cs p t

pub settle-healthy : (p : Part) (m : Mode) → Healthy p m → Healthy (settled p m) (settled_mode m)
settle-healthy p between h = h
settle-healthy p expects h = tt
settle-healthy p (named w) h = put-filled p w none
settle-healthy p complete h = h
