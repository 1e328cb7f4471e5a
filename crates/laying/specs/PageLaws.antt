-- What the tokens of terms and formulas add.
use Rattle.std.specs.Prelude.{ℕ, suc, ◌+◌, ◌≤◌, ◌≡◌, refl, Bool, true, false, List, [], ◌∷◌, ◌++◌, length, set}
use Rattle.std.proofs.Common.{sym as inv, ap, ap₂, ◌∙◌, append_assoc, append-nil, arith, lt-ltb, length-append}
use Rattle.std.proofs.Math.Seq.{get_or-append_seam, set-append_seam}
use Rattle.grammar.specs.Token.{Token, name}
use Rattle.grammar.specs.Syntax.{Terms, none, variable_then, name_then, Formula, first, later, arguments_then}
use Rattle.grammar.specs.Names.{Constant, Compound, Predicate, Spot, variable_spot, symbol_spot, count, called, variable_number, variables_after}
use Rattle.grammar.specs.Reading.{Small, SmallFormulas}
use Rattle.grammar.specs.Query.{Given, more_then, ends_with, End, open_end, full_stop, asked}
use Rattle.laying.specs.Page.{Page, page, blank_page, number, header, arity, raised, bumped, named, variable_bytes, opens, run}

-- The nodes of terms and formulas behind others

abbrev pub spots_on : List Spot → Terms → List Spot
spots_on e none = e
spots_on e (variable_then w ts) = spots_on (e ++ (variable_spot w ∷ [])) ts
spots_on e (name_then w own ts) = spots_on (spots_on (e ++ (symbol_spot (called (count own)) w 0 ∷ [])) own) ts

abbrev pub spots_all : List Spot → List Formula → List Spot
spots_all e [] = e
spots_all e (f ∷ fs) = spots_all (spots_on (e ++ (symbol_spot Predicate f.symbol 0 ∷ [])) f.arguments) fs

module _ (g : Given) where
  abbrev pub bytes_on : List Spot → Terms → List ℕ
  bytes_on e none = []
  bytes_on e (variable_then w ts) = variable_bytes (variable_number (variables_after [] e) w) ++ bytes_on (e ++ (variable_spot w ∷ [])) ts
  bytes_on e (name_then w own ts) =
      (header (called (count own)) (number g e (called (count own)) w) ++ arity (called (count own)) (count own))
      ++ (bytes_on (e ++ (symbol_spot (called (count own)) w 0 ∷ [])) own ++ bytes_on (spots_on (e ++ (symbol_spot (called (count own)) w 0 ∷ [])) own) ts)

  abbrev pub formula_bytes : List Spot → Formula → List ℕ
  formula_bytes e f =
      (header Predicate (number g e Predicate f.symbol) ++ (count f.arguments ∷ [])) ++ bytes_on (e ++ (symbol_spot Predicate f.symbol 0 ∷ [])) f.arguments

  abbrev pub formulas_bytes : List Spot → List Formula → List ℕ
  formulas_bytes e [] = []
  formulas_bytes e (f ∷ fs) = formula_bytes e f ++ formulas_bytes (spots_on (e ++ (symbol_spot Predicate f.symbol 0 ∷ [])) f.arguments) fs

  -- One more argument

  raise-at : (A B : List ℕ) (c : ℕ) (ps : List ℕ) → c ≤ 254 → bumped (A ++ c ∷ B) (length A ∷ ps) ≡ A ++ (c + 1) ∷ B
  raise-at A B c ps h =
      ap (λ (x : ℕ). set (A ++ c ∷ B) (length A) (raised x)) (get_or-append_seam A c B 0)
      ∙ ap (set (A ++ c ∷ B) (length A)) (let z : raised c ≡ c + 1 = rw (lt-ltb c 255 (omega arith)) in z)
      ∙ set-append_seam A c B (c + 1)

  opens-later : (ts : Terms) (r : List Token) → opens (arguments_then later ts r) ≡ false
  opens-later none r = refl
  opens-later (variable_then w ts) r = refl
  opens-later (name_then w own ts) r = refl

  -- Arguments

  abbrev Laid : Terms → Type 0
  Laid ts =
      (A B : List ℕ) (c : ℕ) (ps : List ℕ) (e : List Spot) (m : ℕ) (r : List Token) → Small ts → c + count ts ≤ 254 →
      run g (page (A ++ c ∷ B) (length A ∷ ps) e m) (arguments_then later ts r) ≡ run g (page (A ++ (c + count ts) ∷ (B ++ bytes_on e ts)) ps (spots_on e ts) m) r

  module _ (w : List ℕ) (own ts : Terms) (A B : List ℕ) (c : ℕ) (ps : List ℕ) (e : List Spot) (m : ℕ) (r : List Token) (h : c ≤ 254) where
    abbrev e1 : List Spot
    e1 = e ++ (symbol_spot Compound w 0 ∷ [])

    abbrev R : List Token
    R = arguments_then later ts r

    abbrev M : List ℕ
    M = A ++ (c + 1) ∷ B

    abbrev N : List ℕ
    N = header Compound (number g e Compound w)

    -- a name with a bracket, and its arguments
    nested : Laid own → Laid ts → Small own → Small ts → count own ≤ 8 → c + 1 + count ts ≤ 254 → opens (arguments_then first own R) ≡ true →
        ((s : Page) → run g s (arguments_then first own R) ≡ run g s (arguments_then later own R)) →
        run g (page (A ++ c ∷ B) (length A ∷ ps) e m) (name w ∷ arguments_then first own R)
        ≡ run g (page (A ++ (c + suc (count ts)) ∷ (B ++ ((N ++ (count own ∷ [])) ++ (bytes_on e1 own ++ bytes_on (spots_on e1 own) ts)))) ps (spots_on (spots_on e1 own) ts) m) r
    nested p q small₁ small₂ few room o same =
        ap (λ (b : Bool). run g (named g (page (A ++ c ∷ B) (length A ∷ ps) e m) w b) (arguments_then first own R)) o
        ∙ ap (λ (x : List ℕ). run g (page (x ++ (N ++ (0 ∷ []))) ((length x + 3) ∷ length A ∷ ps) e1 m) (arguments_then first own R)) (raise-at A B c ps h)
        ∙ ap₂ (λ (x : List ℕ) (y : ℕ). run g (page x (y ∷ length A ∷ ps) e1 m) (arguments_then first own R)) (inv (append_assoc M N (0 ∷ []))) (inv (length-append M N))
        ∙ same (page ((M ++ N) ++ 0 ∷ []) (length (M ++ N) ∷ length A ∷ ps) e1 m)
        ∙ p (M ++ N) [] 0 (length A ∷ ps) e1 m R small₁ (omega arith)
        ∙ ap (λ (y : List ℕ). run g (page y (length A ∷ ps) (spots_on e1 own) m) R)
        (ap (λ (i : ℕ). (M ++ N) ++ i ∷ bytes_on e1 own) (let z : 0 + count own ≡ count own = omega arith in z) ∙ append_assoc M N (count own ∷ bytes_on e1 own) ∙ append_assoc A ((c + 1) ∷ B) (N ++ count own ∷ bytes_on e1 own))
        ∙ q A (B ++ (N ++ count own ∷ bytes_on e1 own)) (c + 1) ps (spots_on e1 own) m r small₂ room
        ∙ ap₂ (λ (i : ℕ) (y : List ℕ). run g (page (A ++ i ∷ y) ps (spots_on (spots_on e1 own) ts) m) r) (let z : c + 1 + count ts ≡ c + suc (count ts) = omega arith in z)
        (append_assoc B (N ++ count own ∷ bytes_on e1 own) (bytes_on (spots_on e1 own) ts))

  laid : (ts : Terms) → Laid ts
  laid none A B c ps e m r s h =
      ap₂ (λ (i : ℕ) (y : List ℕ). run g (page (A ++ i ∷ y) ps e m) r) (let z : c ≡ c + 0 = omega arith in z) (inv (append-nil B))
  laid (variable_then w ts) A B c ps e m r s h =
      let Q = variable_bytes (variable_number (variables_after [] e) w) in
      ap (λ (x : List ℕ). run g (page (x ++ Q) (length A ∷ ps) (e ++ (variable_spot w ∷ [])) m) (arguments_then later ts r)) (raise-at A B c ps (omega arith))
      ∙ ap (λ (x : List ℕ). run g (page x (length A ∷ ps) (e ++ (variable_spot w ∷ [])) m) (arguments_then later ts r)) (append_assoc A ((c + 1) ∷ B) Q)
      ∙ laid ts A (B ++ Q) (c + 1) ps (e ++ (variable_spot w ∷ [])) m r s (omega arith)
      ∙ ap₂ (λ (i : ℕ) (y : List ℕ). run g (page (A ++ i ∷ y) ps (spots_on (e ++ (variable_spot w ∷ [])) ts) m) r) (let z : c + 1 + count ts ≡ c + suc (count ts) = omega arith in z)
      (append_assoc B Q (bytes_on (e ++ (variable_spot w ∷ [])) ts))
  laid (name_then w none ts) A B c ps e m r s h =
      let Q = header Constant (number g e Constant w) in
      let e1 = e ++ (symbol_spot Constant w 0 ∷ []) in
      ap (λ (b : Bool). run g (named g (page (A ++ c ∷ B) (length A ∷ ps) e m) w b) (arguments_then later ts r)) (opens-later ts r)
      ∙ ap (λ (x : List ℕ). run g (page (x ++ Q) (length A ∷ ps) e1 m) (arguments_then later ts r)) (raise-at A B c ps (omega arith))
      ∙ ap (λ (x : List ℕ). run g (page x (length A ∷ ps) e1 m) (arguments_then later ts r)) (append_assoc A ((c + 1) ∷ B) Q)
      ∙ laid ts A (B ++ Q) (c + 1) ps e1 m r s.3 (omega arith)
      ∙ ap₂ (λ (i : ℕ) (y : List ℕ). run g (page (A ++ i ∷ y) ps (spots_on e1 ts) m) r) (let z : c + 1 + count ts ≡ c + suc (count ts) = omega arith in z) (append_assoc B Q (bytes_on e1 ts))
  laid (name_then w (variable_then v vs) ts) A B c ps e m r s h =
      nested w (variable_then v vs) ts A B c ps e m r (omega arith) (laid (variable_then v vs)) (laid ts) s.2 s.3 s.1 (omega arith) refl (λ x. refl)
  laid (name_then w (name_then v vs us) ts) A B c ps e m r s h =
      nested w (name_then v vs us) ts A B c ps e m r (omega arith) (laid (name_then v vs us)) (laid ts) s.2 s.3 s.1 (omega arith) refl (λ x. refl)

  -- Formulas

  module _ (w : List ℕ) (own : Terms) (X : List ℕ) (e : List Spot) (m : ℕ) (r : List Token) (few : count own ≤ 8) (small : Small own) where
    abbrev f1 : List Spot
    f1 = e ++ (symbol_spot Predicate w 0 ∷ [])

    abbrev P : List ℕ
    P = header Predicate (number g e Predicate w)

    headed : opens (arguments_then first own r) ≡ true → ((s : Page) → run g s (arguments_then first own r) ≡ run g s (arguments_then later own r)) →
        run g (page X [] e m) (name w ∷ arguments_then first own r) ≡ run g (page (X ++ ((P ++ (count own ∷ [])) ++ bytes_on f1 own)) [] (spots_on f1 own) (m + 1)) r
    headed o same =
        ap (λ (b : Bool). run g (named g (page X [] e m) w b) (arguments_then first own r)) o
        ∙ ap₂ (λ (x : List ℕ) (y : ℕ). run g (page x (y ∷ []) f1 (m + 1)) (arguments_then first own r)) (inv (append_assoc X P (0 ∷ []))) (inv (length-append X P))
        ∙ same (page ((X ++ P) ++ 0 ∷ []) (length (X ++ P) ∷ []) f1 (m + 1))
        ∙ laid own (X ++ P) [] 0 [] f1 (m + 1) r small (omega arith)
        ∙ ap (λ (y : List ℕ). run g (page y [] (spots_on f1 own) (m + 1)) r)
        (ap (λ (i : ℕ). (X ++ P) ++ i ∷ bytes_on f1 own) (let z : 0 + count own ≡ count own = omega arith in z) ∙ append_assoc X P (count own ∷ bytes_on f1 own))

  formula_laid : (w : List ℕ) (own : Terms) (X : List ℕ) (e : List Spot) (m : ℕ) (r : List Token) → count own ≤ 8 → Small own → opens r ≡ false →
      run g (page X [] e m) (name w ∷ arguments_then first own r)
      ≡ run g (page (X ++ ((header Predicate (number g e Predicate w) ++ (count own ∷ [])) ++ bytes_on (e ++ (symbol_spot Predicate w 0 ∷ [])) own)) [] (spots_on (e ++ (symbol_spot Predicate w 0 ∷ [])) own) (m + 1)) r
  formula_laid w none X e m r few small o = ap (λ (b : Bool). run g (named g (page X [] e m) w b) r) o
  formula_laid w (variable_then v vs) X e m r few small o = headed w (variable_then v vs) X e m r few small refl (λ x. refl)
  formula_laid w (name_then v vs us) X e m r few small o = headed w (name_then v vs us) X e m r few small refl (λ x. refl)

  opens-more : (fs : List Formula) (z : End) → opens (more_then fs (ends_with z)) ≡ false
  opens-more [] open_end = refl
  opens-more [] full_stop = refl
  opens-more (f ∷ fs) z = refl

  ended : (z : End) (s : Page) → run g s (ends_with z) ≡ s
  ended open_end s = refl
  ended full_stop s = refl

  more_laid : (fs : List Formula) (z : End) (X : List ℕ) (e : List Spot) (m : ℕ) → SmallFormulas fs →
      run g (page X [] e m) (more_then fs (ends_with z)) ≡ page (X ++ formulas_bytes e fs) [] (spots_all e fs) (m + length fs)
  more_laid [] z X e m s = ended z (page X [] e m) ∙ ap₂ (λ (x : List ℕ) (n : ℕ). page x [] e n) (inv (append-nil X)) (let y : m ≡ m + 0 = omega arith in y)
  more_laid (f ∷ fs) z X e m s =
      formula_laid f.symbol f.arguments X e m (more_then fs (ends_with z)) s.0.few s.0.small (opens-more fs z)
      ∙ more_laid fs z (X ++ formula_bytes e f) (spots_on (e ++ (symbol_spot Predicate f.symbol 0 ∷ [])) f.arguments) (m + 1) s.1
      ∙ ap₂ (λ (x : List ℕ) (n : ℕ). page x [] (spots_all e (f ∷ fs)) n)
      (append_assoc X (formula_bytes e f) (formulas_bytes (spots_on (e ++ (symbol_spot Predicate f.symbol 0 ∷ [])) f.arguments) fs))
      (let y : m + 1 + length fs ≡ m + suc (length fs) = omega arith in y)

  -- all of them
  pub asked-laid : (fs : List Formula) (z : End) → SmallFormulas fs → run g blank_page (asked fs z) ≡ page (formulas_bytes [] fs) [] (spots_all [] fs) (length fs)
  asked-laid [] z s = refl
  asked-laid (f ∷ fs) z s = more_laid (f ∷ fs) z [] [] 0 s ∙ ap (page (formulas_bytes [] (f ∷ fs)) [] (spots_all [] (f ∷ fs))) (let y : 0 + suc (length fs) ≡ suc (length fs) = omega arith in y)
