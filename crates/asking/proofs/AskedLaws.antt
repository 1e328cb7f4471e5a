-- The tokens of each goal are taken, and mean it.
use Rattle.std.specs.Prelude.{ℕ, ◌≡◌, refl, true, false, List, [], ◌∷◌}
use Rattle.std.proofs.Common.{ap, ◌∙◌, arith}
use Rattle.terms.specs.Cases.{cases}
use Rattle.grammar.specs.Token.{Token, name, variable, opening, closing, comma, arrow, stop}
use Rattle.grammar.specs.Syntax.{Terms, none, variable_then, name_then, Formula, first, later, before, arguments_then}
use Rattle.grammar.specs.Query.{more_then, End, open_end, full_stop, ends_with, asked}
use Rattle.reading.specs.Part.{Done, none_yet, and_variable, and_name, Part, formulas, inside, Mode, between, expects, named, complete, State, state}
use Rattle.reading.specs.Part.{terms_of, put, rule_of, Taken, taken, wrong, is_opening, settle}
use Rattle.reading.specs.PrintLaws.{turn}
use Rattle.reading.proofs.CompleteLaws.{opened}
use Rattle.reading.proofs.Stop.{and_then}
use Rattle.asking.specs.Asking.{asker, begin, step, Meant, meaning}
use Rattle.asking.proofs.MeaningLaws.{goes, Meets}

-- A blank changes nothing but that no bracket may follow

pub settle-meaning : (s : State) → meaning (settle s) ≡ meaning s
settle-meaning s = by s.mode
  where
    by : (m : Mode) → meaning (settle (state s.rules s.part m)) ≡ meaning (state s.rules s.part m)
    by between = refl
    by expects = refl
    by (named w) = refl
    by complete = refl

pub settle_step : (s : State) (t : Token) → is_opening t ≡ false → step (settle s) t ≡ step s t
settle_step s t h = by s.mode
  where
    by : (m : Mode) → step (settle (state s.rules s.part m)) t ≡ step (state s.rules s.part m) t
    by between = refl
    by expects = refl
    by (named w) = rw h
    by complete = refl

pub settle-shut : (s : State) → step (settle s) opening ≡ wrong
settle-shut s = by s.mode
  where
    by : (m : Mode) → step (settle (state s.rules s.part m)) opening ≡ wrong
    by between = refl
    by expects = refl
    by (named w) = refl
    by complete = refl

opening-is : (t : Token) → is_opening t ≡ true → t ≡ opening
opening-is (name w) h = let z : ◌≡◌ {A = ℕ} 0 1 = cc in absurd (omega arith)
opening-is (variable w) h = let z : ◌≡◌ {A = ℕ} 0 1 = cc in absurd (omega arith)
opening-is opening h = refl
opening-is closing h = let z : ◌≡◌ {A = ℕ} 0 1 = cc in absurd (omega arith)
opening-is comma h = let z : ◌≡◌ {A = ℕ} 0 1 = cc in absurd (omega arith)
opening-is arrow h = let z : ◌≡◌ {A = ℕ} 0 1 = cc in absurd (omega arith)
opening-is stop h = let z : ◌≡◌ {A = ℕ} 0 1 = cc in absurd (omega arith)

-- what is taken behind a blank is no bracket, and is taken without the blank
pub settled-step : (s : State) (t : Token) (n : State) → step (settle s) t ≡ taken n → (is_opening t ≡ false) × (step s t ≡ taken n)
settled-step s t n e =
    cases (is_opening t)
    (λ h.
    let q : step (settle s) opening ≡ taken n = rw (opening-is t h) at e in
    let r : wrong ≡ taken n = rw (settle-shut s) at q in
    let z : ◌≡◌ {A = ℕ} 0 1 = cc in
    absurd (omega arith))
    (λ h. (h, rw (settle_step s t h) at e))

pub taken_of : (k : Taken) (ts : List Token) (e : State) → and_then k (λ n. goes n ts) ≡ taken e → (n : State) × (k ≡ taken n) × (goes n ts ≡ taken e)
taken_of (taken n) ts e h = (n, refl, h)
taken_of wrong ts e h = let z : ◌≡◌ {A = ℕ} 0 1 = cc in absurd (omega arith)

pub meets-step : (s : State) (t : Token) {ts : List Token} {fs : List Formula} {n : State} → step s t ≡ taken n → Meets n ts fs → Meets s (t ∷ ts) fs
meets-step s t e m = record { end = m.end; goes_there = rw e m.goes_there; means = m.means }

pub settle-meets : (s : State) (ts : List Token) {fs : List Formula} → Meets (settle s) ts fs → Meets s ts fs
settle-meets s [] m =
    let q : settle s ≡ m.end = let p = m.goes_there in cc in
    record { end = s; goes_there = refl; means = inv (settle-meaning s) ∙ ap meaning q ∙ m.means }
  where
    inv : {x y : Meant} → x ≡ y → y ≡ x
    inv e = cc
settle-meets s (t ∷ ts) m =
    let k = taken_of (step (settle s) t) ts m.end m.goes_there in
    meets-step s t (settled-step s t k.0 k.1).1 (record { end = m.end; goes_there = k.2; means = m.means })

-- Arguments

none-meets : (q : Part) (w : List ℕ) (d : Done) (r : List Token) {fs : List Formula} → Meets (state [] (put q w (terms_of d none)) complete) r fs →
    Meets (opened (turn d) [] q w d) (arguments_then (turn d) none r) fs
none-meets q w none_yet r m = settle-meets (state [] q (named w)) r m
none-meets q w (and_variable d v) r m = meets-step (state [] (inside q w (and_variable d v)) complete) closing refl m
none-meets q w (and_name d v own) r m = meets-step (state [] (inside q w (and_name d v own)) complete) closing refl m

sign-meets : (q : Part) (w : List ℕ) (d : Done) (r : List Token) {fs : List Formula} → Meets (state [] (inside q w d) expects) r fs → Meets (opened (turn d) [] q w d) (before (turn d) ∷ r) fs
sign-meets q w none_yet r m = meets-step (state [] q (named w)) opening refl m
sign-meets q w (and_variable d v) r m = meets-step (state [] (inside q w (and_variable d v)) complete) comma refl m
sign-meets q w (and_name d v own) r m = meets-step (state [] (inside q w (and_name d v own)) complete) comma refl m

arguments-meets : (ts : Terms) (q : Part) (w : List ℕ) (d : Done) (r : List Token) {fs : List Formula} → Meets (state [] (put q w (terms_of d ts)) complete) r fs →
    Meets (opened (turn d) [] q w d) (arguments_then (turn d) ts r) fs
arguments-meets none q w d r m = none-meets q w d r m
arguments-meets (variable_then v ts) q w d r m =
    sign-meets q w d (variable v ∷ arguments_then later ts r) (meets-step (state [] (inside q w d) expects) (variable v) refl (arguments-meets ts q w (and_variable d v) r m))
arguments-meets (name_then v own ts) q w d r m =
    sign-meets q w d (name v ∷ arguments_then first own (arguments_then later ts r))
    (meets-step (state [] (inside q w d) expects) (name v) refl
    (arguments-meets own (inside q w d) v none_yet (arguments_then later ts r) (arguments-meets ts q w (and_name d v own) r m)))

-- Formulas

-- these behind those, the last one first
abbrev turned : List Formula → List Formula → List Formula
turned [] fs = fs
turned (g ∷ gs) fs = turned gs (g ∷ fs)

more-meets : (gs : List Formula) (f h : Formula) (fs : List Formula) (r : List Token) {ks : List Formula} → Meets (state [] (formulas (turned gs (f ∷ h ∷ fs))) complete) r ks →
    Meets (state [] (formulas (f ∷ h ∷ fs)) complete) (more_then gs r) ks
more-meets [] f h fs r m = m
more-meets (g ∷ gs) f h fs r m =
    meets-step (state [] (formulas (f ∷ h ∷ fs)) complete) comma refl
    (meets-step (state [] (formulas (f ∷ h ∷ fs)) expects) (name g.symbol) refl
    (arguments-meets g.arguments (formulas (f ∷ h ∷ fs)) g.symbol none_yet (more_then gs r) (more-meets gs g f (h ∷ fs) r m)))

end-meets : (gs : List Formula) (f : Formula) (fs : List Formula) (z : End) → Meets (state [] (formulas (turned gs (f ∷ fs))) complete) (ends_with z) (rule_of f fs gs).body
end-meets [] f fs open_end = record { end = state [] (formulas (f ∷ fs)) complete; goes_there = refl; means = refl }
end-meets [] f fs full_stop = record { end = state (rule_of f fs [] ∷ []) (formulas []) complete; goes_there = refl; means = refl }
end-meets (g ∷ gs) f fs z = end-meets gs g (f ∷ fs) z

pub asked-meets : (fs : List Formula) (z : End) → Meets begin (asked fs z) fs
asked-meets [] z = record { end = begin; goes_there = refl; means = refl }
asked-meets (f ∷ fs) z =
    meets-step begin (name f.symbol) refl
    (arguments-meets f.arguments (formulas (asker ∷ [])) f.symbol none_yet (more_then fs (ends_with z)) (more-meets fs f asker [] (ends_with z) (end-meets fs f (asker ∷ []) z)))
