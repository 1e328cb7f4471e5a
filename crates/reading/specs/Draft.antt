-- The nodes of a rule that is read in part, in the order of the text: a symbol whose bracket is open has the arity that it has so far. Each token changes them at the
-- end, or adds one to the arity of the innermost open symbol.
use Rattle.std.specs.Prelude.{ℕ, zero, suc, ◌+◌, ◌≡◌, refl, true, List, [], ◌∷◌, ◌++◌, length}
use Rattle.std.proofs.Common.{sym as inv, ap, ap₂, ◌∙◌, append_assoc, append-nil, arith, length-append}
use Rattle.grammar.specs.Syntax.{Terms, none, variable_then, name_then, Formula}
use Rattle.grammar.specs.Names.{Sort, Constant, Compound, Predicate, Spot, variable_spot, symbol_spot, count, called, spots_then, formula_spots, formulas_spots, rule_spots}
use Rattle.reading.specs.Part.{Done, none_yet, and_variable, and_name, Part, formulas, inside, filled, terms_of, formula_of, put, rule_of}
use Rattle.reading.specs.Reader.{done_nodes, formulas_nodes, nodes, size}
use Rattle.reading.specs.SizeLaws.{size_of, nodes-spots}

abbrev pub done_spots : Done → List Spot → List Spot
done_spots none_yet r = r
done_spots (and_variable d w) r = done_spots d (variable_spot w ∷ r)
done_spots (and_name d w own) r = done_spots d (symbol_spot (called (count own)) w (count own) ∷ spots_then own r)

-- of formulas, the last one first
abbrev pub formulas_drafts : List Formula → List Spot → List Spot
formulas_drafts [] r = r
formulas_drafts (f ∷ fs) r = formulas_drafts fs (formula_spots f ++ r)

-- the sort of a name that has a bracket there
abbrev pub sort_in : Part → Sort
sort_in (formulas fs) = Predicate
sort_in (inside p v d) = Compound

abbrev pub drafts : Part → List Spot → List Spot
drafts (formulas fs) r = formulas_drafts fs r
drafts (inside p v d) r = drafts p (symbol_spot (sort_in p) v (size d) ∷ done_spots d r)

-- one more argument of the spot number i
abbrev pub more : Spot → Spot
more (variable_spot w) = variable_spot w
more (symbol_spot k w n) = symbol_spot k w (suc n)

abbrev pub raise : ℕ → List Spot → List Spot
raise i [] = []
raise zero (x ∷ l) = more x ∷ l
raise (suc i) (x ∷ l) = x ∷ raise i l

-- What comes behind

spots-append : (ts : Terms) (r s : List Spot) → spots_then ts r ++ s ≡ spots_then ts (r ++ s)
spots-append none r s = refl
spots-append (variable_then w ts) r s = ap (λ (l : List Spot). variable_spot w ∷ l) (spots-append ts r s)
spots-append (name_then w own ts) r s =
    ap (λ (l : List Spot). symbol_spot (called (count own)) w (count own) ∷ l) (spots-append own (spots_then ts r) s ∙ ap (spots_then own) (spots-append ts r s))

done-append : (d : Done) (r s : List Spot) → done_spots d r ++ s ≡ done_spots d (r ++ s)
done-append none_yet r s = refl
done-append (and_variable d w) r s = done-append d (variable_spot w ∷ r) s
done-append (and_name d w own) r s =
    done-append d (symbol_spot (called (count own)) w (count own) ∷ spots_then own r) s
    ∙ ap (λ (l : List Spot). done_spots d (symbol_spot (called (count own)) w (count own) ∷ l)) (spots-append own r s)

formulas-append : (fs : List Formula) (r s : List Spot) → formulas_drafts fs r ++ s ≡ formulas_drafts fs (r ++ s)
formulas-append [] r s = refl
formulas-append (f ∷ fs) r s = formulas-append fs (formula_spots f ++ r) s ∙ ap (formulas_drafts fs) (append_assoc (formula_spots f) r s)

pub drafts-append : (p : Part) (r s : List Spot) → drafts p r ++ s ≡ drafts p (r ++ s)
drafts-append (formulas fs) r s = formulas-append fs r s
drafts-append (inside p v d) r s =
    drafts-append p (symbol_spot (sort_in p) v (size d) ∷ done_spots d r) s ∙ ap (λ (l : List Spot). drafts p (symbol_spot (sort_in p) v (size d) ∷ l)) (done-append d r s)

-- How many there are

done-count : (d : Done) (r : List Spot) → length (done_spots d r) ≡ done_nodes d + length r
done-count none_yet r = omega arith
done-count (and_variable d w) r = omega (arith, done-count d (variable_spot w ∷ r))
done-count (and_name d w own) r = omega (arith, done-count d (symbol_spot (called (count own)) w (count own) ∷ spots_then own r), nodes-spots own r)

formulas-count : (fs : List Formula) (r : List Spot) → length (formulas_drafts fs r) ≡ formulas_nodes fs + length r
formulas-count [] r = omega arith
formulas-count (f ∷ fs) r = omega (arith, formulas-count fs (formula_spots f ++ r), length-append (formula_spots f) r, nodes-spots f.arguments [])

pub drafts-count : (p : Part) (r : List Spot) → length (drafts p r) ≡ nodes p + length r
drafts-count (formulas fs) r = formulas-count fs r
drafts-count (inside p v d) r = omega (arith, drafts-count p (symbol_spot (sort_in p) v (size d) ∷ done_spots d r), done-count d r)

-- The innermost open symbol, and one more argument of it

raise-at : (a b : List Spot) (i n : ℕ) (k : Sort) (w : List ℕ) → length a ≡ i → raise i (a ++ symbol_spot k w n ∷ b) ≡ a ++ symbol_spot k w (suc n) ∷ b
raise-at [] b zero n k w h = refl
raise-at [] b (suc i) n k w h = absurd (omega arith)
raise-at (x ∷ a) b zero n k w h = absurd (omega arith)
raise-at (x ∷ a) b (suc i) n k w h = ap (λ (l : List Spot). x ∷ l) (raise-at a b i n k w (omega arith))

pub opened-raised : (p : Part) (k : Sort) (v : List ℕ) (n : ℕ) (r : List Spot) → raise (nodes p) (drafts p (symbol_spot k v n ∷ r)) ≡ drafts p (symbol_spot k v (suc n) ∷ r)
opened-raised p k v n r =
    ap (raise (nodes p)) (inv (drafts-append p [] (symbol_spot k v n ∷ r)))
    ∙ raise-at (drafts p []) r (nodes p) n k v (omega (arith, drafts-count p []))
    ∙ drafts-append p [] (symbol_spot k v (suc n) ∷ r)

-- Tokens

-- a bracket behind a name: the name is a symbol with no argument yet
pub opening-drafts : (p : Part) (w : List ℕ) → drafts (inside p w none_yet) [] ≡ drafts p [] ++ (symbol_spot (sort_in p) w 0 ∷ [])
opening-drafts p w = inv (drafts-append p [] (symbol_spot (sort_in p) w 0 ∷ []))

-- an argument that is a variable
pub variable-drafts : (p : Part) (v w : List ℕ) (d : Done) → drafts (inside p v (and_variable d w)) [] ≡ raise (nodes p) (drafts (inside p v d) []) ++ (variable_spot w ∷ [])
variable-drafts p v w d =
    ap (λ (l : List Spot). drafts p (symbol_spot (sort_in p) v (suc (size d)) ∷ l)) (inv (done-append d [] (variable_spot w ∷ [])))
    ∙ inv (drafts-append p (symbol_spot (sort_in p) v (suc (size d)) ∷ done_spots d []) (variable_spot w ∷ []))
    ∙ ap (λ (l : List Spot). l ++ (variable_spot w ∷ [])) (inv (opened-raised p (sort_in p) v (size d) (done_spots d [])))

-- a name that stands alone: a formula, or an argument that is a constant
pub formula-drafts : (fs : List Formula) (w : List ℕ) → drafts (put (formulas fs) w none) [] ≡ drafts (formulas fs) [] ++ (symbol_spot Predicate w 0 ∷ [])
formula-drafts fs w = inv (formulas-append fs [] (symbol_spot Predicate w 0 ∷ []))

pub constant-drafts : (p : Part) (v w : List ℕ) (d : Done) → drafts (put (inside p v d) w none) [] ≡ raise (nodes p) (drafts (inside p v d) []) ++ (symbol_spot Constant w 0 ∷ [])
constant-drafts p v w d =
    ap (λ (l : List Spot). drafts p (symbol_spot (sort_in p) v (suc (size d)) ∷ l)) (inv (done-append d [] (symbol_spot Constant w 0 ∷ [])))
    ∙ inv (drafts-append p (symbol_spot (sort_in p) v (suc (size d)) ∷ done_spots d []) (symbol_spot Constant w 0 ∷ []))
    ∙ ap (λ (l : List Spot). l ++ (symbol_spot Constant w 0 ∷ [])) (inv (opened-raised p (sort_in p) v (size d) (done_spots d [])))

-- a closing bracket: nothing changes behind a formula; an argument is one more of what holds it
done-terms : (d : Done) (ts : Terms) (r : List Spot) → spots_then (terms_of d ts) r ≡ done_spots d (spots_then ts r)
done-terms none_yet ts r = refl
done-terms (and_variable d w) ts r = done-terms d (variable_then w ts) r
done-terms (and_name d w own) ts r = done-terms d (name_then w own ts) r

own-count : (d : Done) → count (terms_of d none) ≡ size d
own-count d = omega (arith, size_of d none)

pub closing-formula : (fs : List Formula) (v : List ℕ) (d : Done) → drafts (put (formulas fs) v (terms_of d none)) [] ≡ drafts (inside (formulas fs) v d) []
closing-formula fs v d =
    ap (formulas_drafts fs) (append-nil (formula_spots (formula_of v (terms_of d none))) ∙ ap₂ (λ (n : ℕ) (l : List Spot). symbol_spot Predicate v n ∷ l) (own-count d) (done-terms d none []))

filled-called : (d : Done) → filled d ≡ true → called (size d) ≡ Compound
filled-called none_yet h = let z : ◌≡◌ {A = ℕ} 0 1 = cc in absurd (omega arith)
filled-called (and_variable d w) h = refl
filled-called (and_name d w own) h = refl

pub closing-argument : (p : Part) (u v : List ℕ) (e d : Done) → filled d ≡ true →
    drafts (put (inside p u e) v (terms_of d none)) [] ≡ raise (nodes p) (drafts (inside (inside p u e) v d) [])
closing-argument p u v e d h =
    ap (λ (l : List Spot). drafts p (symbol_spot (sort_in p) u (suc (size e)) ∷ done_spots e l))
    (ap₂ (λ (n : ℕ) (l : List Spot). symbol_spot (called n) v n ∷ l) (own-count d) (done-terms d none []) ∙ ap (λ (k : Sort). symbol_spot k v (size d) ∷ done_spots d []) (filled-called d h))
    ∙ inv (opened-raised p (sort_in p) u (size e) (done_spots e (symbol_spot Compound v (size d) ∷ done_spots d [])))

-- a full stop: these are the nodes of the rule
rule-drafts : (f : Formula) (fs gs : List Formula) → formulas_drafts (f ∷ fs) (formulas_spots gs) ≡ rule_spots (rule_of f fs gs)
rule-drafts f [] gs = refl
rule-drafts f (h ∷ fs) gs = rule-drafts h fs (f ∷ gs)

pub stop-drafts : (f : Formula) (fs : List Formula) → drafts (formulas (f ∷ fs)) [] ≡ rule_spots (rule_of f fs [])
stop-drafts f fs = rule-drafts f fs []
