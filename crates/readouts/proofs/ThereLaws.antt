-- Each formula of a text that is read stands somewhere.
use Rattle.std.specs.Prelude.{ℕ, zero, suc, ◌+◌, ◌-◌, ◌<◌, ◌≡◌, refl, List, [], ◌∷◌, ◌++◌, length}
use Rattle.std.proofs.Common.{sym as inv, ap, ap₂, ◌∙◌, subst, arith}
use Rattle.std.proofs.Math.Decide.{dec_lt}
use Rattle.grammar.specs.Token.{Token, name, variable, opening, comma, arrow, Piece, token, blank, comment, bytes, Stands, Fits, Spaced, tokens}
use Rattle.grammar.specs.TokenLaws.{fits-stays}
use Rattle.grammar.specs.Syntax.{Terms, none, variable_then, name_then, Formula, Rule, Turn, first, later, arguments_then, formula_then, body_then, written}
use Rattle.grammar.specs.Reading.{Writes}
use Rattle.reading.proofs.Stop.{SpacedTo}
use Rattle.reading.proofs.Viable.{bytes-append}
use Rattle.readouts.specs.Place.{commas_then, leading_then, rules_then, formulas_in, FormulaAt, formula_place}
use Rattle.readouts.proofs.PlaceLaws.{place_is}

-- Tokens that follow

arguments-append : (t : Turn) (ts : Terms) (r s : List Token) → arguments_then t ts (r ++ s) ≡ arguments_then t ts r ++ s
arguments-append first none r s = refl
arguments-append later none r s = refl
arguments-append first (variable_then w ts) r s = ap (λ (l : List Token). opening ∷ variable w ∷ l) (arguments-append later ts r s)
arguments-append later (variable_then w ts) r s = ap (λ (l : List Token). comma ∷ variable w ∷ l) (arguments-append later ts r s)
arguments-append first (name_then w own ts) r s =
    ap (λ (l : List Token). opening ∷ name w ∷ l) (ap (arguments_then first own) (arguments-append later ts r s) ∙ arguments-append first own (arguments_then later ts r) s)
arguments-append later (name_then w own ts) r s =
    ap (λ (l : List Token). comma ∷ name w ∷ l) (ap (arguments_then first own) (arguments-append later ts r s) ∙ arguments-append first own (arguments_then later ts r) s)

formula-append : (f : Formula) (r s t : List Token) → t ≡ r ++ s → formula_then f t ≡ formula_then f r ++ s
formula-append f r s t e = ap (λ (l : List Token). name f.symbol ∷ l) (ap (arguments_then first f.arguments) e ∙ arguments-append first f.arguments r s)

pub commas_append : (fs : List Formula) (r s : List Token) → commas_then fs (r ++ s) ≡ commas_then fs r ++ s
commas_append [] r s = refl
commas_append (f ∷ fs) r s = formula-append f (comma ∷ commas_then fs r) s (comma ∷ commas_then fs (r ++ s)) (ap (λ (l : List Token). comma ∷ l) (commas_append fs r s))

leading-append : (fs : List Formula) (r s : List Token) → leading_then fs (r ++ s) ≡ leading_then fs r ++ s
leading-append [] r s = refl
leading-append (f ∷ fs) r s = formula-append f (arrow ∷ commas_then fs r) s (arrow ∷ commas_then fs (r ++ s)) (ap (λ (l : List Token). arrow ∷ l) (commas_append fs r s))

body-append : (sign : Token) (fs : List Formula) (r s : List Token) → body_then sign fs (r ++ s) ≡ body_then sign fs r ++ s
body-append sign [] r s = refl
body-append sign (f ∷ fs) r s =
    ap (λ (l : List Token). sign ∷ l) (formula-append f (body_then comma fs r) s (body_then comma fs (r ++ s)) (body-append comma fs r s))

rules-append : (cs : List Rule) (r s : List Token) → rules_then cs (r ++ s) ≡ rules_then cs r ++ s
rules-append [] r s = refl
rules-append (c ∷ cs) r s =
    formula-append c.head (body_then arrow c.body (rules_then cs r)) s (body_then arrow c.body (rules_then cs (r ++ s)))
    (ap (body_then arrow c.body) (rules-append cs r s) ∙ body-append arrow c.body (rules_then cs r) s)

-- The formula that has k before it

record Found (cs : List Rule) (k : ℕ) : Type 0 where
  rules : List Rule
  own : List Formula
  count : formulas_in rules + length own ≡ k
  symbol : List ℕ
  more : List Token
  splits : written cs ≡ rules_then rules (leading_then own (name symbol ∷ more))

-- among the formulas of a body
record Inside (sign : Token) (fs : List Formula) (r : List Token) (k : ℕ) : Type 0 where
  own : List Formula
  count : length own ≡ k
  symbol : List ℕ
  more : List Token
  splits : body_then sign fs r ≡ sign ∷ commas_then own (name symbol ∷ more)

in_body : (sign : Token) (fs : List Formula) (r : List Token) (k : ℕ) → k < length fs → Inside sign fs r k
in_body sign [] r k h = absurd (omega arith)
in_body sign (f ∷ fs) r zero h = record { own = []; count = refl; symbol = f.symbol; more = arguments_then first f.arguments (body_then comma fs r); splits = refl }
in_body sign (f ∷ fs) r (suc k) h =
    let i = in_body comma fs r k (omega arith) in
    record { own = f ∷ i.own; count = ap suc i.count; symbol = i.symbol; more = i.more; splits = ap (λ (l : List Token). sign ∷ formula_then f l) i.splits }

in-rules : (cs : List Rule) (k : ℕ) → k < formulas_in cs → Found cs k
in-rules [] k h = absurd (omega arith)
in-rules (c ∷ cs) zero h = record { rules = []; own = []; count = refl; symbol = c.head.symbol; more = arguments_then first c.head.arguments (body_then arrow c.body (written cs)); splits = refl }
in-rules (c ∷ cs) (suc k) h =
    elim (dec_lt k (length c.body)) [
      | yes l ↦
          let i = in_body arrow c.body (written cs) k l in
          record { rules = []; own = c.head ∷ i.own; count = omega (arith, i.count); symbol = i.symbol; more = i.more; splits = ap (formula_then c.head) i.splits }
      | no l ↦
          let i = in-rules cs (k - length c.body) (omega arith) in
          record {
            rules = c ∷ i.rules;
            own = i.own;
            count = omega (arith, i.count);
            symbol = i.symbol;
            more = i.more;
            splits = ap (λ (r : List Token). formula_then c.head (body_then arrow c.body r)) i.splits;
          }
    ]

-- Pieces split at a token

pub record Parted (qs : List Piece) (ts : List Token) (t : Token) : Type 0 where
  pub front : List Piece
  pub back : List Piece
  pub are : qs ≡ front ++ (token t ∷ back)
  pub listed : tokens front ≡ ts

pub parted : (qs : List Piece) (ts : List Token) (t : Token) (us : List Token) → tokens qs ≡ ts ++ (t ∷ us) → Parted qs ts t
parted [] [] t us e = let z : ◌≡◌ {A = ℕ} 0 1 = cc in absurd (omega arith)
parted [] (x ∷ ts) t us e = let z : ◌≡◌ {A = ℕ} 0 1 = cc in absurd (omega arith)
parted (token u ∷ qs) [] t us e = let p : u ≡ t = cc in record { front = []; back = qs; are = ap (λ (x : Token). token x ∷ qs) p; listed = refl }
parted (token u ∷ qs) (x ∷ ts) t us e =
    let p : u ≡ x = cc in
    let i = parted qs ts t us (cc) in
    record { front = token u ∷ i.front; back = i.back; are = ap (λ (l : List Piece). token u ∷ l) i.are; listed = ap₂ (λ (y : Token) (l : List Token). y ∷ l) p i.listed }
parted (blank b ∷ qs) ts t us e = let i = parted qs ts t us e in record { front = blank b ∷ i.front; back = i.back; are = ap (λ (l : List Piece). blank b ∷ l) i.are; listed = i.listed }
parted (comment c ∷ qs) ts t us e = let i = parted qs ts t us e in record { front = comment c ∷ i.front; back = i.back; are = ap (λ (l : List Piece). comment c ∷ l) i.are; listed = i.listed }

pub spaced-front : (ps : List Piece) (t : Token) (rs : List Piece) → Spaced (ps ++ (token t ∷ rs)) → SpacedTo ps (bytes (token t ∷ rs)) × Stands t (bytes rs)
spaced-front [] t rs s = (tt, s.0)
spaced-front (p ∷ []) t rs s = (fits-stays p (bytes (token t ∷ rs)) s.0, s.1.0)
spaced-front (p ∷ q ∷ ps) t rs s =
    let i = spaced-front (q ∷ ps) t rs s.1 in
    ((subst (Fits p) (bytes-append (q ∷ ps) (token t ∷ rs)) s.0, i.0), i.1)

-- each formula of the text stands somewhere
pub formula-there : (text : List ℕ) (cs : List Rule) (k : ℕ) → Writes text cs → k < formulas_in cs → FormulaAt text k (formula_place text k)
formula-there text cs k w h =
    let f = in-rules cs k h in
    let e : tokens w.pieces ≡ rules_then f.rules (leading_then f.own []) ++ (name f.symbol ∷ f.more) =
    inv w.listed ∙ f.splits ∙ ap (rules_then f.rules) (leading-append f.own [] (name f.symbol ∷ f.more)) ∙ rules-append f.rules (leading_then f.own []) (name f.symbol ∷ f.more) in
    let p = parted w.pieces (rules_then f.rules (leading_then f.own [])) (name f.symbol) f.more e in
    let s = spaced-front p.front (name f.symbol) p.back (subst Spaced p.are w.spaced) in
    let there : FormulaAt text k (length (bytes p.front)) =
    record {
      rules = f.rules;
      own = f.own;
      count = f.count;
      pieces = p.front;
      listed = p.listed;
      symbol = f.symbol;
      rest = bytes p.back;
      whole = w.whole ∙ ap bytes p.are ∙ bytes-append p.front (token (name f.symbol) ∷ p.back);
      spaced = s.0;
      stands = s.1;
      place = refl;
    } in
    subst (FormulaAt text k) (place_is there) there
