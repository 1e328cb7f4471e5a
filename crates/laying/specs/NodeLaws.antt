-- The bytes laid are those of the query's nodes, and the names are those of the list with the new ones behind them (grammar, Query).
use Rattle.std.specs.Prelude.{ℕ, suc, ◌/◌, ◌%◌, ◌≡◌, refl, List, [], ◌∷◌, ◌++◌, length}
use Rattle.std.proofs.Common.{sym as inv, ap, ap₂, ◌∙◌, append_assoc, append-nil}
use Rattle.terms.specs.Node.{Expr, sym}
use Rattle.format.specs.Format.{encode_record, encode, node_record, node_records, encode_goal}
use Rattle.grammar.specs.Syntax.{Terms, none, variable_then, name_then, Formula}
use Rattle.grammar.specs.Names.{Sort, Constant, Compound, Predicate, Spot, variable_spot, symbol_spot, count, called, spots_then, formula_spots, formulas_spots, place, grow, names_after, variable_number, with_variable, variables_after, symbol_for, numbered, numbered_all}
use Rattle.grammar.specs.NameLaws.{variables-append, flat-numbered}
use Rattle.grammar.specs.GrowLaws.{place_after, within_grown, is-sort_self}
use Rattle.grammar.specs.Query.{Given, names_with, goal}
use Rattle.drafts.proofs.Nodes.{place-grown, names-append}
use Rattle.laying.specs.Page.{number, header, arity, variable_bytes}
use Rattle.laying.specs.PageLaws.{spots_on, spots_all, bytes_on, formula_bytes, formulas_bytes}

pub spots-more : (ts : Terms) (r s : List Spot) → spots_then ts r ++ s ≡ spots_then ts (r ++ s)
spots-more none r s = refl
spots-more (variable_then w ts) r s = ap (λ (l : List Spot). variable_spot w ∷ l) (spots-more ts r s)
spots-more (name_then w own ts) r s =
    ap (λ (l : List Spot). symbol_spot (called (count own)) w (count own) ∷ l) (spots-more own (spots_then ts r) s ∙ ap (spots_then own) (spots-more ts r s))

symbol_record : (k : Sort) (p n : ℕ) → encode_record (node_record (sym (symbol_for k p n))) ≡ header k p ++ arity k n
symbol_record Constant p n = refl
symbol_record Compound p n = refl
symbol_record Predicate p n = refl

-- so many names in the end: those of the nodes so far, and of these
module _ (g : Given) (F : Sort → List (List ℕ)) where
  abbrev Final : List Spot → List Spot → Type 0
  Final e r = (k : Sort) → F k ≡ names_after k (g k) (e ++ r)

  final-variable : (e : List Spot) (w : List ℕ) (r : List Spot) → Final e (variable_spot w ∷ r) → Final (e ++ (variable_spot w ∷ [])) r
  final-variable e w r h k = h k ∙ inv (ap (names_after k (g k)) (append_assoc e (variable_spot w ∷ []) r))

  final-symbol : (e : List Spot) (j : Sort) (w : List ℕ) (n : ℕ) (r : List Spot) → Final e (symbol_spot j w n ∷ r) → Final (e ++ (symbol_spot j w 0 ∷ [])) r
  final-symbol e j w n r h k =
      h k
      ∙ names-append k (g k) e (symbol_spot j w n ∷ r)
      ∙ inv (names-append k (g k) e (symbol_spot j w 0 ∷ r))
      ∙ inv (ap (names_after k (g k)) (append_assoc e (symbol_spot j w 0 ∷ []) r))

  number-final : (e : List Spot) (k : Sort) (w : List ℕ) (n : ℕ) (r : List Spot) → Final e (symbol_spot k w n ∷ r) → place w (F k) ≡ number g e k w
  number-final e k w n r h =
      ap (place w) (h k ∙ names-append k (g k) e (symbol_spot k w n ∷ r))
      ∙ rw (is-sort_self k) (place_after k w (grow (names_after k (g k) e) w) r (within_grown w (names_after k (g k) e)) ∙ place-grown w (names_after k (g k) e))

  terms-final : (ts : Terms) (e r : List Spot) → Final e (spots_then ts r) → Final (spots_on e ts) r
  terms-final none e r h = h
  terms-final (variable_then w ts) e r h = terms-final ts (e ++ (variable_spot w ∷ [])) r (final-variable e w (spots_then ts r) h)
  terms-final (name_then w own ts) e r h =
      terms-final ts (spots_on (e ++ (symbol_spot (called (count own)) w 0 ∷ [])) own) r
      (terms-final own (e ++ (symbol_spot (called (count own)) w 0 ∷ [])) (spots_then ts r) (final-symbol e (called (count own)) w (count own) (spots_then own (spots_then ts r)) h))

  abbrev shown : List Spot → List Spot → List ℕ
  shown e r = encode (node_records (numbered F (variables_after [] e) r))

  seen-variable : (e : List Spot) (w : List ℕ) → variables_after [] (e ++ (variable_spot w ∷ [])) ≡ with_variable (variables_after [] e) w
  seen-variable e w = variables-append [] e (variable_spot w ∷ [])

  seen-symbol : (e : List Spot) (k : Sort) (w : List ℕ) → variables_after [] (e ++ (symbol_spot k w 0 ∷ [])) ≡ variables_after [] e
  seen-symbol e k w = variables-append [] e (symbol_spot k w 0 ∷ [])

  symbol-shown : (e : List Spot) (k : Sort) (w : List ℕ) (n : ℕ) (r : List Spot) → Final e (symbol_spot k w n ∷ r) →
      shown e (symbol_spot k w n ∷ r) ≡ (header k (number g e k w) ++ arity k n) ++ shown (e ++ (symbol_spot k w 0 ∷ [])) r
  symbol-shown e k w n r h =
      ap₂ (λ (x : List ℕ) (seen : List (List ℕ)). x ++ encode (node_records (numbered F seen r)))
      (ap (λ (p : ℕ). encode_record (node_record (sym (symbol_for k p n)))) (number-final e k w n r h) ∙ symbol_record k (number g e k w) n)
      (inv (seen-symbol e k w))

  terms-shown : (ts : Terms) (e r : List Spot) → Final e (spots_then ts r) → shown e (spots_then ts r) ≡ bytes_on g e ts ++ shown (spots_on e ts) r
  terms-shown none e r h = refl
  terms-shown (variable_then w ts) e r h =
      ap (λ (seen : List (List ℕ)). variable_bytes (variable_number (variables_after [] e) w) ++ encode (node_records (numbered F seen (spots_then ts r)))) (inv (seen-variable e w))
      ∙ ap (λ (x : List ℕ). variable_bytes (variable_number (variables_after [] e) w) ++ x) (terms-shown ts (e ++ (variable_spot w ∷ [])) r (final-variable e w (spots_then ts r) h))
  terms-shown (name_then w own ts) e r h =
      let k = called (count own) in
      let e1 = e ++ (symbol_spot k w 0 ∷ []) in
      let H = header k (number g e k w) ++ arity k (count own) in
      let q = final-symbol e k w (count own) (spots_then own (spots_then ts r)) h in
      symbol-shown e k w (count own) (spots_then own (spots_then ts r)) h
      ∙ ap (λ (x : List ℕ). H ++ x)
      (terms-shown own e1 (spots_then ts r) q
      ∙ ap (λ (x : List ℕ). bytes_on g e1 own ++ x) (terms-shown ts (spots_on e1 own) r (terms-final own e1 (spots_then ts r) q))
      ∙ inv (append_assoc (bytes_on g e1 own) (bytes_on g (spots_on e1 own) ts) (shown (spots_on (spots_on e1 own) ts) r)))
      ∙ inv (append_assoc H (bytes_on g e1 own ++ bytes_on g (spots_on e1 own) ts) (shown (spots_on (spots_on e1 own) ts) r))

  module _ (f : Formula) (fs : List Formula) (e : List Spot) (h : Final e (formulas_spots (f ∷ fs))) where
    abbrev rest : List Spot
    rest = spots_then f.arguments (formulas_spots fs)

    same-spots : formulas_spots (f ∷ fs) ≡ symbol_spot Predicate f.symbol (count f.arguments) ∷ rest
    same-spots = ap (λ (l : List Spot). symbol_spot Predicate f.symbol (count f.arguments) ∷ l) (spots-more f.arguments [] (formulas_spots fs))

    first-final : Final e (symbol_spot Predicate f.symbol (count f.arguments) ∷ rest)
    first-final k = h k ∙ ap (λ (l : List Spot). names_after k (g k) (e ++ l)) same-spots

    head-final : Final (e ++ (symbol_spot Predicate f.symbol 0 ∷ [])) rest
    head-final = final-symbol e Predicate f.symbol (count f.arguments) rest first-final

    next-final : Final (spots_on (e ++ (symbol_spot Predicate f.symbol 0 ∷ [])) f.arguments) (formulas_spots fs)
    next-final = terms-final f.arguments (e ++ (symbol_spot Predicate f.symbol 0 ∷ [])) (formulas_spots fs) head-final

    formula-shown : shown e (formulas_spots (f ∷ fs)) ≡ formula_bytes g e f ++ shown (spots_on (e ++ (symbol_spot Predicate f.symbol 0 ∷ [])) f.arguments) (formulas_spots fs)
    formula-shown =
        let H = header Predicate (number g e Predicate f.symbol) ++ (count f.arguments ∷ []) in
        let e1 = e ++ (symbol_spot Predicate f.symbol 0 ∷ []) in
        ap (shown e) same-spots
        ∙ symbol-shown e Predicate f.symbol (count f.arguments) rest first-final
        ∙ ap (λ (x : List ℕ). H ++ x) (terms-shown f.arguments e1 (formulas_spots fs) head-final)
        ∙ inv (append_assoc H (bytes_on g e1 f.arguments) (shown (spots_on e1 f.arguments) (formulas_spots fs)))

  formulas-shown : (fs : List Formula) (e : List Spot) → Final e (formulas_spots fs) → shown e (formulas_spots fs) ≡ formulas_bytes g e fs
  formulas-shown [] e h = refl
  formulas-shown (f ∷ fs) e h =
      formula-shown f fs e h
      ∙ ap (λ (x : List ℕ). formula_bytes g e f ++ x) (formulas-shown fs (spots_on (e ++ (symbol_spot Predicate f.symbol 0 ∷ [])) f.arguments) (next-final f fs e h))

  formulas-final : (fs : List Formula) (e : List Spot) → Final e (formulas_spots fs) → Final (spots_all e fs) []
  formulas-final [] e h = h
  formulas-final (f ∷ fs) e h = formulas-final fs (spots_on (e ++ (symbol_spot Predicate f.symbol 0 ∷ [])) f.arguments) (next-final f fs e h)

all-length : (T : Sort → List (List ℕ)) (seen : List (List ℕ)) (fs : List Formula) → length (numbered_all T seen fs) ≡ length fs
all-length T seen [] = refl
all-length T seen (f ∷ fs) = ap suc (all-length T (variables_after seen (formula_spots f)) fs)

-- the image of the query: how many formulas, and the nodes
pub image-laid : (g : Given) (fs : List Formula) → encode_goal (goal g fs) ≡ 6 ∷ length fs / 256 ∷ length fs % 256 ∷ formulas_bytes g [] fs
image-laid g fs =
    ap₂ (λ (n : ℕ) (e : Expr). 6 ∷ n / 256 ∷ n % 256 ∷ encode (node_records e)) (all-length (names_with g fs) [] fs) (flat-numbered (names_with g fs) [] fs)
    ∙ ap (λ (x : List ℕ). 6 ∷ length fs / 256 ∷ length fs % 256 ∷ x) (formulas-shown g (names_with g fs) fs [] (λ k. refl))

-- and its names
pub names-laid : (g : Given) (fs : List Formula) (k : Sort) → names_with g fs k ≡ names_after k (g k) (spots_all [] fs)
names-laid g fs k = formulas-final g (names_with g fs) fs [] (λ j. refl) k ∙ ap (names_after k (g k)) (append-nil (spots_all [] fs))
