-- The tokens of a list of rules are those of no other.
use Rattle.std.specs.Prelude.{ℕ, ◌≡◌, refl, Bool, true, false, List, [], ◌∷◌}
use Rattle.std.proofs.Common.{sym as inv, ap₂, true≢false, arith}
use Rattle.grammar.specs.Token.{Token, name, variable, opening, closing, comma, arrow, stop}
use Rattle.grammar.specs.Syntax.{Terms, none, variable_then, name_then, Formula, Rule, Turn, first, later, before, arguments_then, formula_then, body_then, written}

abbrev pub is_opening : Token → Bool
is_opening (name w) = false
is_opening (variable w) = false
is_opening opening = true
is_opening closing = false
is_opening comma = false
is_opening arrow = false
is_opening stop = false

-- what stands behind a formula or a term begins with no bracket
abbrev pub Shut : List Token → Type 0
Shut [] = Unit {0}
Shut (t ∷ r) = is_opening t ≡ false

later-shut : (ts : Terms) (r : List Token) → Shut (arguments_then later ts r)
later-shut none r = refl
later-shut (variable_then w ts) r = refl
later-shut (name_then w own ts) r = refl

not_none : (k : Turn) (r s : List Token) → Shut r → arguments_then k none r ≡ before k ∷ s → ⊥
not_none first r s p e = true≢false (rw e at p)
not_none later r s p e = let z : ◌≡◌ {A = ℕ} 0 1 = cc in omega arith

-- what stands behind a name is read in one way
arguments-one : (k : Turn) (ts us : Terms) (r s : List Token) → Shut r → Shut s → arguments_then k ts r ≡ arguments_then k us s → (ts ≡ us) × (r ≡ s)
arguments-one first none none r s p q e = (refl, e)
arguments-one later none none r s p q e = (refl, cc)
arguments-one k none (variable_then v us) r s p q e = absurd (not_none k r _ p e)
arguments-one k none (name_then v own us) r s p q e = absurd (not_none k r _ p e)
arguments-one k (variable_then w ts) none r s p q e = absurd (not_none k s _ q (inv e))
arguments-one k (variable_then w ts) (variable_then v us) r s p q e =
    let h = arguments-one later ts us r s p q (cc) in
    let x : w ≡ v = cc in
    (ap₂ variable_then x h.0, h.1)
arguments-one k (variable_then w ts) (name_then v own us) r s p q e = let z : ◌≡◌ {A = ℕ} 0 1 = cc in absurd (omega arith)
arguments-one k (name_then w own ts) none r s p q e = absurd (not_none k s _ q (inv e))
arguments-one k (name_then w own ts) (variable_then v us) r s p q e = let z : ◌≡◌ {A = ℕ} 0 1 = cc in absurd (omega arith)
arguments-one k (name_then w own ts) (name_then v its us) r s p q e =
    let g = arguments-one first own its (arguments_then later ts r) (arguments_then later us s) (later-shut ts r) (later-shut us s) (cc) in
    let h = arguments-one later ts us r s p q g.1 in
    let x : w ≡ v = cc in
    (cc (x, g.0, h.0), h.1)

pub formula-one : (f g : Formula) (r s : List Token) → Shut r → Shut s → formula_then f r ≡ formula_then g s → (f ≡ g) × (r ≡ s)
formula-one f g r s p q e =
    let h = arguments-one first f.arguments g.arguments r s p q (cc) in
    let x : f.symbol ≡ g.symbol = cc in
    (λ i. record { symbol = x i; arguments = h.0 i }, h.1)

body-shut : (sign : Token) (fs : List Formula) (r : List Token) → is_opening sign ≡ false → Shut (body_then sign fs r)
body-shut sign [] r h = refl
body-shut sign (f ∷ fs) r h = h

-- a sign that is no full stop
abbrev Joins : Token → Type 0
Joins t = (is_opening t ≡ false) × (t ≡ stop → ⊥)

comma-joins : Joins comma
comma-joins = (refl, λ (e : comma ≡ stop). let z : ◌≡◌ {A = ℕ} 0 1 = cc in omega arith)

arrow-joins : Joins arrow
arrow-joins = (refl, λ (e : arrow ≡ stop). let z : ◌≡◌ {A = ℕ} 0 1 = cc in omega arith)

body-one : (sign : Token) (fs gs : List Formula) (r s : List Token) → Joins sign → body_then sign fs r ≡ body_then sign gs s → (fs ≡ gs) × (r ≡ s)
body-one sign [] [] r s j e = (refl, cc)
body-one sign [] (g ∷ gs) r s j e = absurd (j.1 (cc))
body-one sign (f ∷ fs) [] r s j e = absurd (j.1 (cc))
body-one sign (f ∷ fs) (g ∷ gs) r s j e =
    let h = formula-one f g (body_then comma fs r) (body_then comma gs s) (body-shut comma fs r refl) (body-shut comma gs s refl) (cc) in
    let t = body-one comma fs gs r s comma-joins h.1 in
    (ap₂ ◌∷◌ h.0 t.0, t.1)

rule-one : (c d : Rule) (r s : List Token) → formula_then c.head (body_then arrow c.body r) ≡ formula_then d.head (body_then arrow d.body s) → (c ≡ d) × (r ≡ s)
rule-one c d r s e =
    let h = formula-one c.head d.head _ _ (body-shut arrow c.body r refl) (body-shut arrow d.body s refl) e in
    let b = body-one arrow c.body d.body r s arrow-joins h.1 in
    (λ i. record { head = h.0 i; body = b.0 i }, b.1)

-- rules are read from their tokens in one way
pub written_one : (cs ds : List Rule) → written cs ≡ written ds → cs ≡ ds
written_one [] [] e = refl
written_one [] (d ∷ ds) e = let z : ◌≡◌ {A = ℕ} 0 1 = cc in absurd (omega arith)
written_one (c ∷ cs) [] e = let z : ◌≡◌ {A = ℕ} 0 1 = cc in absurd (omega arith)
written_one (c ∷ cs) (d ∷ ds) e =
    let h = rule-one c d (written cs) (written ds) e in
    ap₂ ◌∷◌ h.0 (written_one cs ds h.1)
