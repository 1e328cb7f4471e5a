-- The place that is computed is the one that is told.
use Rattle.std.specs.Prelude.{ℕ, zero, suc, ◌+◌, ◌-◌, ◌≤◌, ◌<◌, ◌≡◌, refl, List, [], ◌∷◌, ◌++◌, length}
use Rattle.std.proofs.Common.{sym as inv, ap, ◌∙◌, subst, append_assoc, arith, length-append}
use Rattle.grammar.specs.Token.{Token, name, variable, opening, closing, comma, arrow, stop, Piece, token, blank, comment, spelt, bytes, Stands, tokens}
use Rattle.grammar.specs.TokenLaws.{front-is, fits-stays, spelt-long}
use Rattle.grammar.specs.Front.{pieces_of}
use Rattle.grammar.specs.Syntax.{Terms, none, variable_then, name_then, Formula, Rule, Turn, first, later, arguments_then, formula_then, body_then}
use Rattle.reading.proofs.Stop.{SpacedTo}
use Rattle.reading.proofs.Viable.{first-stays}
use Rattle.readouts.specs.Place.{commas_then, leading_then, rules_then, formulas_in, FormulaAt, seek, formula_place}

-- Names outside brackets

-- tokens, before which k names outside brackets are to be passed and d brackets are open, and behind them
data Passes : ℕ → ℕ → List Token → ℕ → ℕ → Type 0 where
  passed : {k d : ℕ} → Passes k d [] k d
  outer : {k j e : ℕ} {w : List ℕ} {ts : List Token} → Passes k 0 ts j e → Passes (suc k) 0 (name w ∷ ts) j e
  inner : {k d j e : ℕ} {w : List ℕ} {ts : List Token} → Passes k (suc d) ts j e → Passes k (suc d) (name w ∷ ts) j e
  word : {k d j e : ℕ} {w : List ℕ} {ts : List Token} → Passes k d ts j e → Passes k d (variable w ∷ ts) j e
  opens : {k d j e : ℕ} {ts : List Token} → Passes k (suc d) ts j e → Passes k d (opening ∷ ts) j e
  closes : {k d j e : ℕ} {ts : List Token} → Passes k d ts j e → Passes k (suc d) (closing ∷ ts) j e
  by_comma : {k d j e : ℕ} {ts : List Token} → Passes k d ts j e → Passes k d (comma ∷ ts) j e
  by_arrow : {k d j e : ℕ} {ts : List Token} → Passes k d ts j e → Passes k d (arrow ∷ ts) j e
  by_stop : {k d j e : ℕ} {ts : List Token} → Passes k d ts j e → Passes k d (stop ∷ ts) j e

-- a bracket is open behind the first argument
abbrev deep : Turn → ℕ → ℕ
deep first d = d
deep later d = suc d

arguments-passed : {k d j e : ℕ} {r : List Token} (t : Turn) (ts : Terms) → Passes k d r j e → Passes k (deep t d) (arguments_then t ts r) j e
arguments-passed first none p = p
arguments-passed later none p = closes p
arguments-passed first (variable_then w ts) p = opens (word (arguments-passed later ts p))
arguments-passed later (variable_then w ts) p = by_comma (word (arguments-passed later ts p))
arguments-passed first (name_then w own ts) p = opens (inner (arguments-passed first own (arguments-passed later ts p)))
arguments-passed later (name_then w own ts) p = by_comma (inner (arguments-passed first own (arguments-passed later ts p)))

formula-passed : {k j e : ℕ} {r : List Token} (f : Formula) → Passes k 0 r j e → Passes (suc k) 0 (formula_then f r) j e
formula-passed f p = outer (arguments-passed first f.arguments p)

commas_passed : {k j e : ℕ} {r : List Token} (n : ℕ) (fs : List Formula) → n ≡ length fs + k → Passes k 0 r j e → Passes n 0 (commas_then fs r) j e
commas_passed {k} {j} {e} {r} n [] q p = subst (λ (i : ℕ). Passes i 0 r j e) (let z : k ≡ n = omega arith in z) p
commas_passed zero (f ∷ fs) q p = absurd (omega arith)
commas_passed (suc n) (f ∷ fs) q p = formula-passed f (by_comma (commas_passed n fs (omega arith) p))

leading-passed : {k j e : ℕ} {r : List Token} (n : ℕ) (fs : List Formula) → n ≡ length fs + k → Passes k 0 r j e → Passes n 0 (leading_then fs r) j e
leading-passed {k} {j} {e} {r} n [] q p = subst (λ (i : ℕ). Passes i 0 r j e) (let z : k ≡ n = omega arith in z) p
leading-passed zero (f ∷ fs) q p = absurd (omega arith)
leading-passed (suc n) (f ∷ fs) q p = formula-passed f (by_arrow (commas_passed n fs (omega arith) p))

abbrev Joins : Token → Type 0
Joins t = (k j e : ℕ) (r : List Token) → Passes k 0 r j e → Passes k 0 (t ∷ r) j e

body-passed : {k j e : ℕ} {r : List Token} (sign : Token) (n : ℕ) (fs : List Formula) → Joins sign → n ≡ length fs + k → Passes k 0 r j e → Passes n 0 (body_then sign fs r) j e
body-passed {k} {j} {e} {r} sign n [] s q p = subst (λ (i : ℕ). Passes i 0 (stop ∷ r) j e) (let z : k ≡ n = omega arith in z) (by_stop p)
body-passed sign zero (f ∷ fs) s q p = absurd (omega arith)
body-passed sign (suc n) (f ∷ fs) s q p = s _ _ _ _ (formula-passed f (body-passed comma n fs (λ k j e r q. by_comma q) (omega arith) p))

rules_passed : {k j e : ℕ} {r : List Token} (n : ℕ) (cs : List Rule) → n ≡ formulas_in cs + k → Passes k 0 r j e → Passes n 0 (rules_then cs r) j e
rules_passed {k} {j} {e} {r} n [] q p = subst (λ (i : ℕ). Passes i 0 r j e) (let z : k ≡ n = omega arith in z) p
rules_passed zero (c ∷ cs) q p = absurd (omega arith)
rules_passed {k} (suc n) (c ∷ cs) q p =
    formula-passed c.head (body-passed arrow n c.body (λ k j e r q. by_arrow q) (let z : n ≡ length c.body + (formulas_in cs + k) = omega arith in z) (rules_passed (formulas_in cs + k) cs refl p))

seek-past : {k d j e : ℕ} (at : ℕ) (ps qs : List Piece) → Passes k d (tokens ps) j e → seek k d at (ps ++ qs) ≡ seek j e (at + length (bytes ps)) qs
seek-past {j = j} {e = e} at [] qs passed = ap (λ (i : ℕ). seek j e i qs) (let z : at ≡ at + 0 = omega arith in z)
seek-past {j = j} {e = e} at (token (name w) ∷ ps) qs (outer p) =
    seek-past (at + length w) ps qs p ∙ ap (λ (i : ℕ). seek j e i qs) (let z : at + length w + length (bytes ps) ≡ at + length (w ++ bytes ps) = omega (arith, length-append w (bytes ps)) in z)
seek-past {j = j} {e = e} at (token (name w) ∷ ps) qs (inner p) =
    seek-past (at + length w) ps qs p ∙ ap (λ (i : ℕ). seek j e i qs) (let z : at + length w + length (bytes ps) ≡ at + length (w ++ bytes ps) = omega (arith, length-append w (bytes ps)) in z)
seek-past {j = j} {e = e} at (token (variable w) ∷ ps) qs (word p) =
    seek-past (at + length w) ps qs p ∙ ap (λ (i : ℕ). seek j e i qs) (let z : at + length w + length (bytes ps) ≡ at + length (w ++ bytes ps) = omega (arith, length-append w (bytes ps)) in z)
seek-past {j = j} {e = e} at (token opening ∷ ps) qs (opens p) = seek-past (at + 1) ps qs p ∙ ap (λ (i : ℕ). seek j e i qs) (let z : at + 1 + length (bytes ps) ≡ at + suc (length (bytes ps)) = omega arith in z)
seek-past {j = j} {e = e} at (token closing ∷ ps) qs (closes {k = k} {d = d} p) =
    ap (λ (i : ℕ). seek k i (at + 1) (ps ++ qs)) (let y : suc d - 1 ≡ d = omega arith in y)
    ∙ seek-past (at + 1) ps qs p ∙ ap (λ (i : ℕ). seek j e i qs) (let z : at + 1 + length (bytes ps) ≡ at + suc (length (bytes ps)) = omega arith in z)
seek-past {j = j} {e = e} at (token comma ∷ ps) qs (by_comma p) = seek-past (at + 1) ps qs p ∙ ap (λ (i : ℕ). seek j e i qs) (let z : at + 1 + length (bytes ps) ≡ at + suc (length (bytes ps)) = omega arith in z)
seek-past {j = j} {e = e} at (token arrow ∷ ps) qs (by_arrow p) = seek-past (at + 2) ps qs p ∙ ap (λ (i : ℕ). seek j e i qs) (let z : at + 2 + length (bytes ps) ≡ at + suc (suc (length (bytes ps))) = omega arith in z)
seek-past {j = j} {e = e} at (token stop ∷ ps) qs (by_stop p) = seek-past (at + 1) ps qs p ∙ ap (λ (i : ℕ). seek j e i qs) (let z : at + 1 + length (bytes ps) ≡ at + suc (length (bytes ps)) = omega arith in z)
seek-past {j = j} {e = e} at (blank b ∷ ps) qs p = seek-past (at + 1) ps qs p ∙ ap (λ (i : ℕ). seek j e i qs) (let z : at + 1 + length (bytes ps) ≡ at + suc (length (bytes ps)) = omega arith in z)
seek-past {j = j} {e = e} at (comment c ∷ ps) qs p =
    seek-past (at + suc (length c)) ps qs p ∙ ap (λ (i : ℕ). seek j e i qs) (let z : at + suc (length c) + length (bytes ps) ≡ at + suc (length (c ++ bytes ps)) = omega (arith, length-append c (bytes ps)) in z)

-- Pieces one behind the other

pub pieces-past : (n m : ℕ) (ps : List Piece) (left : List ℕ) → n ≡ length ps + m → SpacedTo ps left → pieces_of n (bytes ps ++ left) ≡ ps ++ pieces_of m left
pieces-past n m [] left q s = ap (λ (i : ℕ). pieces_of i left) (let z : n ≡ m = omega arith in z)
pieces-past zero m (p ∷ ps) left q s = absurd (omega arith)
pieces-past (suc n) m (p ∷ ps) left q s =
    ap (pieces_of (suc n)) (append_assoc (spelt p) (bytes ps) left)
    ∙ rw (front-is p (bytes ps ++ left) (first-stays p ps left s)) (ap (λ (qs : List Piece). p ∷ qs) (pieces-past n m ps left (omega arith) (behind ps s)))
  where
    behind : (qs : List Piece) → SpacedTo (p ∷ qs) left → SpacedTo qs left
    behind [] h = tt
    behind (x ∷ qs) h = h.1

pub pieces-few : (ps : List Piece) (left : List ℕ) → SpacedTo ps left → length ps ≤ length (bytes ps)
pieces-few [] left s = omega arith
pieces-few (p ∷ []) left s = omega (arith, spelt-long p left s, length-append (spelt p) [])
pieces-few (p ∷ q ∷ ps) left s =
    omega (arith, spelt-long p (bytes (q ∷ ps) ++ left) (fits-stays p (bytes (q ∷ ps) ++ left) s.0), length-append (spelt p) (bytes (q ∷ ps)), pieces-few (q ∷ ps) left s.1)

pub name-first : (m : ℕ) (w rest : List ℕ) → Stands (name w) rest → 0 < m → pieces_of m (w ++ rest) ≡ token (name w) ∷ pieces_of (m - 1) rest
name-first zero w rest s h = absurd (omega arith)
name-first (suc m) w rest s h = rw (front-is (token (name w)) rest s) (ap (λ (i : ℕ). token (name w) ∷ pieces_of i rest) (let z : m ≡ suc m - 1 = omega arith in z))

-- the place is the one that is computed
pub place_is : {text : List ℕ} {k at : ℕ} → FormulaAt text k at → at ≡ formula_place text k
unfolding formula_place
place_is {text} {k} {at} f =
    let ps = f.pieces in
    let left = f.symbol ++ f.rest in
    let m = length text - length ps in
    let size = length-append (bytes ps) left in
    let here = length-append f.symbol f.rest in
    let some = spelt-long (token (name f.symbol)) f.rest f.stands in
    let few = pieces-few ps left f.spaced in
    let all = ap length f.whole in
    let are : pieces_of (length text) text ≡ ps ++ (token (name f.symbol) ∷ pieces_of (m - 1) f.rest) =
    ap (pieces_of (length text)) f.whole
    ∙ pieces-past (length text) m ps left (omega arith) f.spaced
    ∙ ap (λ (qs : List Piece). ps ++ qs) (name-first m f.symbol f.rest f.stands (omega arith)) in
    let p : Passes k 0 (tokens ps) 0 0 =
    subst (λ (ts : List Token). Passes k 0 ts 0 0) (inv f.listed) (rules_passed k f.rules (inv f.count) (leading-passed (length f.own) f.own (omega arith) passed)) in
    f.place ∙ (let z : length (bytes ps) ≡ 0 + length (bytes ps) = omega arith in z) ∙ inv (seek-past 0 ps (token (name f.symbol) ∷ pieces_of (m - 1) f.rest) p) ∙ ap (seek k 0 0) (inv are)
