-- What has been read in part, written again: the tokens read so far. A token that is taken goes behind them.
use Rattle.std.specs.Prelude.{ℕ, ◌≡◌, refl, List, [], ◌∷◌}
use Rattle.std.proofs.Common.{ap, ◌∙◌}
use Rattle.terms.specs.When.{◌⇒◌∣◌}
use Rattle.grammar.specs.Token.{Token, name, variable, opening, closing, comma, arrow, stop}
use Rattle.grammar.specs.Syntax.{Terms, none, variable_then, name_then, Formula, Rule, Turn, first, later, before, arguments_then, formula_then, body_then, written}
use Rattle.reading.specs.Part.{Done, none_yet, and_variable, and_name, Part, formulas, inside, Mode, between, expects, named, complete, State, state}
use Rattle.reading.specs.Part.{terms_of, put, rule_of, rules_of, Taken, taken, wrong, variable_in, comma_may, arrow_may, closed, stopped, behind, next, settled, settled_mode, settle}

abbrev pub turn : Done → Turn
turn none_yet = first
turn (and_variable d w) = later
turn (and_name d w own) = later

-- arguments that are done, without the closing bracket
abbrev pub done_then : Done → List Token → List Token
done_then none_yet r = r
done_then (and_variable d w) r = done_then d (before (turn d) ∷ variable w ∷ r)
done_then (and_name d w own) r = done_then d (before (turn d) ∷ name w ∷ arguments_then first own r)

-- what stands between these formulas and the next
abbrev pub sign_then : List Formula → List Token → List Token
sign_then [] r = r
sign_then (h ∷ []) r = arrow ∷ r
sign_then (f ∷ g ∷ fs) r = comma ∷ r

abbrev pub formulas_then : List Formula → List Token → List Token
formulas_then [] r = r
formulas_then (f ∷ fs) r = formulas_then fs (sign_then fs (formula_then f r))

-- up to where the next formula or argument begins
abbrev pub before_next : Part → List Token → List Token
before_next (formulas fs) r = formulas_then fs (sign_then fs r)
before_next (inside p v d) r = before_next p (name v ∷ done_then d (before (turn d) ∷ r))

-- up to where the last one ends
abbrev pub behind_last : Part → List Token → List Token
behind_last (formulas fs) r = formulas_then fs r
behind_last (inside p v d) r = before_next p (name v ∷ done_then d r)

abbrev pub rule_then : Rule → List Token → List Token
rule_then c r = formula_then c.head (body_then arrow c.body r)

abbrev pub rules_then : List Rule → List Token → List Token
rules_then [] r = r
rules_then (c ∷ cs) r = rules_then cs (rule_then c r)

abbrev pub part_then : Part → Mode → List Token → List Token
part_then p between r = before_next p r
part_then p expects r = before_next p r
part_then p (named w) r = before_next p (name w ∷ r)
part_then p complete r = behind_last p r

abbrev pub printed : State → List Token → List Token
printed s r = rules_then s.rules (part_then s.part s.mode r)

-- What is done

put_then : (p : Part) (w : List ℕ) (own : Terms) (r : List Token) → before_next p (name w ∷ arguments_then first own r) ≡ behind_last (put p w own) r
put_then (formulas fs) w own r = refl
put_then (inside p v d) w own r = refl

terms-of-then : (d : Done) (ts : Terms) (r : List Token) → done_then d (arguments_then (turn d) ts r) ≡ arguments_then first (terms_of d ts) r
terms-of-then none_yet ts r = refl
terms-of-then (and_variable d w) ts r = terms-of-then d (variable_then w ts) r
terms-of-then (and_name d w own) ts r = terms-of-then d (name_then w own ts) r

-- a body that goes on behind these formulas
abbrev goes_on_with : List Formula → List Formula → List Token → List Token
goes_on_with [] gs r = body_then arrow gs r
goes_on_with (f ∷ fs) gs r = body_then comma gs r

rule-of-then : (f : Formula) (fs gs : List Formula) (r : List Token) → formulas_then (f ∷ fs) (goes_on_with fs gs r) ≡ rule_then (rule_of f fs gs) r
rule-of-then f [] gs r = refl
rule-of-then f (h ∷ []) gs r = rule-of-then h [] (f ∷ gs) r
rule-of-then f (h ∷ g ∷ fs) gs r = rule-of-then h (g ∷ fs) (f ∷ gs) r

stop-then : (f : Formula) (fs : List Formula) (r : List Token) → formulas_then (f ∷ fs) (stop ∷ r) ≡ rule_then (rule_of f fs []) r
stop-then f [] r = rule-of-then f [] [] r
stop-then f (h ∷ fs) r = rule-of-then f (h ∷ fs) [] r

pub rules-of-then : (cs ds : List Rule) → rules_then cs (written ds) ≡ written (rules_of cs ds)
rules-of-then [] ds = refl
rules-of-then (c ∷ cs) ds = rules-of-then cs (c ∷ ds)

-- Tokens

-- nothing is read of a rule between two
abbrev pub Well : Part → Mode → Type 0
Well p between = p ≡ formulas []
Well p expects = Unit {0}
Well p (named w) = Unit {0}
Well p complete = Unit {0}

-- a token that is taken goes behind what was read before
abbrev pub Kept : List Rule → Part → Mode → Token → Taken → Type 0
Kept cs p m t (taken s) = ((r : List Token) → printed (state cs p m) (t ∷ r) ≡ printed s r) × Well s.part s.mode
Kept cs p m t wrong = Unit {0}

closing-kept : (cs : List Rule) (p : Part) → Kept cs p complete closing (closed cs p)
closing-kept cs (formulas fs) = tt
closing-kept cs (inside p v none_yet) = tt
closing-kept cs (inside p v (and_variable d w)) =
    (λ r. ap (λ (l : List Token). rules_then cs (before_next p (name v ∷ l))) (terms-of-then (and_variable d w) none r) ∙ ap (rules_then cs) (put_then p v (terms_of (and_variable d w) none) r), tt)
closing-kept cs (inside p v (and_name d w own)) =
    (λ r. ap (λ (l : List Token). rules_then cs (before_next p (name v ∷ l))) (terms-of-then (and_name d w own) none r) ∙ ap (rules_then cs) (put_then p v (terms_of (and_name d w own) none) r), tt)

comma-kept : (cs : List Rule) (p : Part) → Kept cs p complete comma (comma_may p ⇒ taken (state cs p expects) ∣ wrong)
comma-kept cs (formulas []) = tt
comma-kept cs (formulas (h ∷ [])) = tt
comma-kept cs (formulas (f ∷ g ∷ fs)) = (λ r. refl, tt)
comma-kept cs (inside p v none_yet) = tt
comma-kept cs (inside p v (and_variable d w)) = (λ r. refl, tt)
comma-kept cs (inside p v (and_name d w own)) = (λ r. refl, tt)

arrow-kept : (cs : List Rule) (p : Part) → Kept cs p complete arrow (arrow_may p ⇒ taken (state cs p expects) ∣ wrong)
arrow-kept cs (formulas []) = tt
arrow-kept cs (formulas (h ∷ [])) = (λ r. refl, tt)
arrow-kept cs (formulas (f ∷ g ∷ fs)) = tt
arrow-kept cs (inside p v d) = tt

stop-kept : (cs : List Rule) (p : Part) → Kept cs p complete stop (stopped cs p)
stop-kept cs (formulas []) = tt
stop-kept cs (formulas (f ∷ fs)) = (λ r. ap (rules_then cs) (stop-then f fs r), refl)
stop-kept cs (inside p v d) = tt

behind-kept : (cs : List Rule) (p : Part) (t : Token) → Kept cs p complete t (behind cs p t)
behind-kept cs p (name w) = tt
behind-kept cs p (variable w) = tt
behind-kept cs p opening = tt
behind-kept cs p closing = closing-kept cs p
behind-kept cs p comma = comma-kept cs p
behind-kept cs p arrow = arrow-kept cs p
behind-kept cs p stop = stop-kept cs p

-- behind a name that stands alone
named-kept : (cs : List Rule) (p : Part) (w : List ℕ) (t : Token) (n : Taken) → Kept cs (put p w none) complete t n → Kept cs p (named w) t n
named-kept cs p w t (taken s) h = (λ r. ap (rules_then cs) (put_then p w none (t ∷ r)) ∙ h.0 r, h.1)
named-kept cs p w t wrong h = tt

alone-kept : (cs : List Rule) (p : Part) (v : List ℕ) (t : Token) → Kept cs p (named v) t (behind cs (put p v none) t)
alone-kept cs p v t = named-kept cs p v t (behind cs (put p v none) t) (behind-kept cs (put p v none) t)

variable-kept : (cs : List Rule) (p : Part) (w : List ℕ) → Kept cs p expects (variable w) (variable_in cs p w)
variable-kept cs (formulas fs) w = tt
variable-kept cs (inside p v d) w = (λ r. refl, tt)

pub kept : (cs : List Rule) (p : Part) (m : Mode) (t : Token) → Kept cs p m t (next cs p m t)
kept cs p between (name w) = (λ r. refl, tt)
kept cs p between (variable w) = tt
kept cs p between opening = tt
kept cs p between closing = tt
kept cs p between comma = tt
kept cs p between arrow = tt
kept cs p between stop = tt
kept cs p expects (name w) = (λ r. refl, tt)
kept cs p expects (variable w) = variable-kept cs p w
kept cs p expects opening = tt
kept cs p expects closing = tt
kept cs p expects comma = tt
kept cs p expects arrow = tt
kept cs p expects stop = tt
kept cs p (named v) (name w) = tt
kept cs p (named v) (variable w) = tt
kept cs p (named v) opening = (λ r. refl, tt)
kept cs p (named v) closing = alone-kept cs p v closing
kept cs p (named v) comma = alone-kept cs p v comma
kept cs p (named v) arrow = alone-kept cs p v arrow
kept cs p (named v) stop = alone-kept cs p v stop
kept cs p complete t = behind-kept cs p t

-- a blank changes nothing of it
pub settle-printed : (cs : List Rule) (p : Part) (m : Mode) (r : List Token) → printed (state cs p m) r ≡ printed (settle (state cs p m)) r
settle-printed cs p between r = refl
settle-printed cs p expects r = refl
settle-printed cs p (named w) r = ap (rules_then cs) (put_then p w none r)
settle-printed cs p complete r = refl

pub settle-well : (p : Part) (m : Mode) → Well p m → Well (settled p m) (settled_mode m)
settle-well p between h = h
settle-well p expects h = h
settle-well p (named w) h = tt
settle-well p complete h = h
