-- Where a formula stands in a query's text (document 02, C-18: "at that formula's first byte"), and that this is the place that is computed.
use Rattle.std.specs.Prelude.{ℕ, zero, suc, ◌+◌, ◌-◌, ◌≤◌, ◌<◌, ◌≡◌, refl, true, false, List, [], ◌∷◌, ◌++◌, length, eqb}
use Rattle.std.proofs.Common.{sym as inv, ap, ◌∙◌, subst, arith, eq-eqb, ne_eqb, length-append}
use Rattle.grammar.specs.Token.{Token, name, variable, opening, closing, comma, arrow, stop, Piece, token, blank, comment, bytes, Stands, Spaced, tokens}
use Rattle.grammar.specs.TokenLaws.{spelt-long}
use Rattle.grammar.specs.Front.{pieces_of}
use Rattle.grammar.specs.Syntax.{Terms, none, variable_then, name_then, Formula, Turn, first, later, arguments_then, formula_then}
use Rattle.grammar.specs.Query.{more_then, ends_with, Asks}
use Rattle.reading.proofs.Stop.{SpacedTo}
use Rattle.reading.proofs.Viable.{bytes-append}
use Rattle.asking.specs.Asking.{Tally, tally, none_yet, counted}
use Rattle.readouts.specs.Place.{commas_then}
use Rattle.readouts.proofs.PlaceLaws.{pieces-past, pieces-few, name-first}
use Rattle.readouts.proofs.ThereLaws.{commas_append, parted, spaced-front}
use Rattle.questions.specs.Outcome.{begins_formula, formula_in, formula_at}

-- The bytes before the place are pieces whose tokens are those of k formulas, each with its comma; and here the name of the next one begins.
pub record FormulaAt (text : List ℕ) (k at : ℕ) : Type 0 where
  pub before : List Formula
  pub count : length before ≡ k
  pub pieces : List Piece
  pub listed : tokens pieces ≡ commas_then before []
  pub symbol : List ℕ
  pub rest : List ℕ
  pub whole : text ≡ bytes pieces ++ (symbol ++ rest)
  pub spaced : SpacedTo pieces (symbol ++ rest)
  pub stands : Stands (name symbol) rest
  pub place : at ≡ length (bytes pieces)

-- The same, computed

-- tokens without a name that would begin the formula behind k others; behind them that formula may begin
data Passes (k : ℕ) : Tally → List Token → Type 0 where
  passed : {n : ℕ} → Passes k (tally k [] n) []
  by_name : {y : Tally} {w : List ℕ} {ts : List Token} → begins_formula y k ≡ false → Passes k (counted y (name w)) ts → Passes k y (name w ∷ ts)
  by_variable : {y : Tally} {w : List ℕ} {ts : List Token} → Passes k (counted y (variable w)) ts → Passes k y (variable w ∷ ts)
  by_opening : {y : Tally} {ts : List Token} → Passes k (counted y opening) ts → Passes k y (opening ∷ ts)
  by_closing : {y : Tally} {ts : List Token} → Passes k (counted y closing) ts → Passes k y (closing ∷ ts)
  by_comma : {y : Tally} {ts : List Token} → Passes k (counted y comma) ts → Passes k y (comma ∷ ts)

begins : (k : ℕ) → eqb k k ≡ true
begins k = eq-eqb k k refl

-- a name follows them: it stands where it is sought
sought : {k : ℕ} {y : Tally} (at : ℕ) (ps : List Piece) (w : List ℕ) (qs : List Piece) → Passes k y (tokens ps) → formula_in k y at (ps ++ (token (name w) ∷ qs)) ≡ at + length (bytes ps)
sought {k} at [] w qs passed = rw (begins k) (omega arith)
sought {k} {y} at (token (name v) ∷ ps) w qs (by_name b p) = rw b (sought (at + length v) ps w qs p ∙ omega (arith, length-append v (bytes ps)))
sought at (token (variable v) ∷ ps) w qs (by_variable p) = sought (at + length v) ps w qs p ∙ omega (arith, length-append v (bytes ps))
sought at (token opening ∷ ps) w qs (by_opening p) = sought (at + 1) ps w qs p ∙ omega arith
sought at (token closing ∷ ps) w qs (by_closing p) = sought (at + 1) ps w qs p ∙ omega arith
sought at (token comma ∷ ps) w qs (by_comma p) = sought (at + 1) ps w qs p ∙ omega arith
sought at (blank b ∷ ps) w qs p = sought (at + 1) ps w qs p ∙ omega arith
sought at (comment c ∷ ps) w qs p = sought (at + suc (length c)) ps w qs p ∙ omega (arith, length-append c (bytes ps))
sought {k = k} {y = y} at (token arrow ∷ ps) w qs p = elim p [ ]
sought {k = k} {y = y} at (token stop ∷ ps) w qs p = elim p [ ]

-- the open brackets before an argument, the first or a later one
abbrev open_at : Turn → ℕ → List ℕ → List ℕ
open_at first b bs = bs
open_at later b bs = b ∷ bs

inside : (k a b : ℕ) (bs : List ℕ) (n : ℕ) → begins_formula (tally a (b ∷ bs) n) k ≡ false
inside k a b bs n = let z : eqb (suc (length bs)) 0 ≡ false = ne_eqb (suc (length bs)) 0 (λ (q : suc (length bs) ≡ 0). omega arith) in rw z refl

outside : (k a n : ℕ) → a < k → begins_formula (tally a [] n) k ≡ false
outside k a n h = rw (ne_eqb a k (λ (q : a ≡ k). omega arith)) refl

arguments-passed : {k : ℕ} {r : List Token} (a : ℕ) (t : Turn) (ts : Terms) (b : ℕ) (bs : List ℕ) (n : ℕ) → ((m : ℕ) → Passes k (tally a bs m) r) → Passes k (tally a (open_at t b bs) n) (arguments_then t ts r)
arguments-passed a first none b bs n p = p n
arguments-passed a later none b bs n p = by_closing (p n)
arguments-passed a first (variable_then w ts) b bs n p = by_opening (by_variable (arguments-passed a later ts 0 bs (suc n) p))
arguments-passed a later (variable_then w ts) b bs n p = by_comma (by_variable (arguments-passed a later ts (suc b) bs (suc n) p))
arguments-passed a first (name_then w own ts) b bs n p =
    by_opening (by_name (inside _ a 0 bs n) (arguments-passed a first own 0 (0 ∷ bs) (suc n) (λ m. arguments-passed a later ts 0 bs m p)))
arguments-passed a later (name_then w own ts) b bs n p =
    by_comma (by_name (inside _ a (suc b) bs n) (arguments-passed a first own 0 (suc b ∷ bs) (suc n) (λ m. arguments-passed a later ts (suc b) bs m p)))

commas_passed : (k a : ℕ) (fs : List Formula) (n : ℕ) → a + length fs ≡ k → Passes k (tally a [] n) (commas_then fs [])
commas_passed k a [] n e = subst (λ (i : ℕ). Passes k (tally i [] n) []) (let z : k ≡ a = omega arith in z) passed
commas_passed k a (f ∷ fs) n e =
    by_name (outside k a n (omega arith))
    (arguments-passed a first f.arguments 0 [] (suc n) (λ m. by_comma (commas_passed k (suc a) fs m (omega arith))))

pub place_is : {text : List ℕ} {k at : ℕ} → FormulaAt text k at → at ≡ formula_at text k
place_is {text} {k} {at} f =
    let ps = f.pieces in
    let left = f.symbol ++ f.rest in
    let m = length text - length ps in
    let size = length-append (bytes ps) left in
    let here = length-append f.symbol f.rest in
    let some = spelt-long (token (name f.symbol)) f.rest f.stands in
    let few = pieces-few ps left f.spaced in
    let all = ap length f.whole in
    let are : pieces_of (length text) text ≡ ps ++ (token (name f.symbol) ∷ pieces_of (m - 1) f.rest) =
    ap (pieces_of (length text)) f.whole
    ∙ pieces-past (length text) m ps left (omega arith) f.spaced
    ∙ ap (λ (qs : List Piece). ps ++ qs) (name-first m f.symbol f.rest f.stands (omega arith)) in
    let p : Passes k none_yet (tokens ps) = subst (Passes k none_yet) (inv f.listed) (commas_passed k 0 f.before 0 (omega (arith, f.count))) in
    f.place ∙ (let z : length (bytes ps) ≡ 0 + length (bytes ps) = omega arith in z) ∙ inv (sought 0 ps f.symbol (pieces_of (m - 1) f.rest) p) ∙ ap (formula_in k none_yet 0) (inv are)

-- Each formula stands somewhere

record Found (f : Formula) (fs : List Formula) (r : List Token) (k : ℕ) : Type 0 where
  before : List Formula
  count : length before ≡ k
  symbol : List ℕ
  more : List Token
  splits : formula_then f (more_then fs r) ≡ commas_then before (name symbol ∷ more)

found : (f : Formula) (fs : List Formula) (r : List Token) (k : ℕ) → k ≤ length fs → Found f fs r k
found f fs r zero h = record { before = []; count = refl; symbol = f.symbol; more = arguments_then first f.arguments (more_then fs r); splits = refl }
found f [] r (suc k) h = absurd (omega arith)
found f (g ∷ fs) r (suc k) h =
    let i = found g fs r k (omega arith) in
    record { before = f ∷ i.before; count = ap suc i.count; symbol = i.symbol; more = i.more; splits = ap (λ (l : List Token). formula_then f (comma ∷ l)) i.splits }

pub formula-there : (text : List ℕ) (fs : List Formula) (k : ℕ) → Asks text fs → k < length fs → FormulaAt text k (formula_at text k)
formula-there text [] k a h = absurd (omega arith)
formula-there text (f ∷ fs) k a h =
    let i = found f fs (ends_with a.ending) k (omega arith) in
    let e : tokens a.spelt.pieces ≡ commas_then i.before [] ++ (name i.symbol ∷ i.more) =
    inv a.spelt.listed ∙ i.splits ∙ commas_append i.before [] (name i.symbol ∷ i.more) in
    let p = parted a.spelt.pieces (commas_then i.before []) (name i.symbol) i.more e in
    let s = spaced-front p.front (name i.symbol) p.back (subst Spaced p.are a.spelt.spaced) in
    let there : FormulaAt text k (length (bytes p.front)) =
    record {
      before = i.before;
      count = i.count;
      pieces = p.front;
      listed = p.listed;
      symbol = i.symbol;
      rest = bytes p.back;
      whole = a.spelt.whole ∙ ap bytes p.are ∙ bytes-append p.front (token (name i.symbol) ∷ p.back);
      spaced = s.0;
      stands = s.1;
      place = refl;
    } in
    subst (FormulaAt text k) (place_is there) there
