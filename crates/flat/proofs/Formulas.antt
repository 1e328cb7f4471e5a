-- How few flat formulas there are, numbered by first appearance: a finite list of them.
use Rattle.std.specs.Prelude.{ℕ, zero, suc, ◌+◌, ◌<◌, ◌≤◌, ◌≡◌, refl, true, false, length, eqb}
use Rattle.std.proofs.Common.{arith, zero-add, sym as inv, ap, subst, inl, inr, length-append}
use Rattle.std.proofs.Math.Decide.{ℕ_discrete}
use Rattle.terms.specs.Cases.{cases}
use mathlib.Core.List.{List, [], ◌∷◌, ◌++◌, map, head-eq_of_cons-eq, tail-eq_of_cons-eq}
use Rattle.terms.specs.Node.{Symbol, constant, compound, predicate, Node, var, sym, Expr}
use Rattle.terms.specs.Row.{Row, row_end, row_var, row_sym}
use Rattle.terms.specs.Subst.{In}
use Rattle.terms.specs.Substitution.{Symbols}
use Rattle.terms.specs.Number.{place, within, grow, number, canon}
use Rattle.terms.proofs.NumberLaws.{within-last}
use Rattle.loops.proofs.Finite.{Listed}
use Rattle.flat.specs.Flat.{ConstantOf, Flat, flat}
use Rattle.flat.specs.Formulas.{before, words, variables, letters, of_predicate, formulas}

-- Lists of lists.

pub listed-left : {F : Type 0} (x : F) (a b : List F) → Listed x a → Listed x (a ++ b)
listed-left x (y ∷ a) b (inl e) = inl e
listed-left x (y ∷ a) b (inr i) = inr (listed-left x a b i)
listed-left {F = F} x [] b x'' = elim x'' [ ]

pub listed-right : {F : Type 0} (x : F) (a b : List F) → Listed x b → Listed x (a ++ b)
listed-right x [] b i = i
listed-right x (y ∷ a) b i = inr (listed-right x a b i)

pub listed-map : {F G : Type 0} (h : F → G) (x : F) (a : List F) → Listed x a → Listed (h x) (map h a)
listed-map h x (y ∷ a) (inl e) = inl (ap h e)
listed-map h x (y ∷ a) (inr i) = inr (listed-map h x a i)
listed-map {F = F} {G = G} h x [] x'' = elim x'' [ ]

listed-before : (x : Node) (w : Expr) (letters : List Node) (words : List Expr) → Listed x letters → Listed w words → Listed (x ∷ w) (before letters words)
listed-before x w (y ∷ letters) words (inl e) j = listed-left (x ∷ w) (map (λ w. y ∷ w) words) (before letters words) (subst (λ z. Listed (z ∷ w) (map (λ w. y ∷ w) words)) (inv e) (listed-map (λ w. y ∷ w) w words j))
listed-before x w (y ∷ letters) words (inr i) j = listed-right (x ∷ w) (map (λ w. y ∷ w) words) (before letters words) (listed-before x w letters words i j)
listed-before x w [] words x3 j = elim x3 [ ]

listed-variable : (n v : ℕ) → v < n → Listed (var v) (variables n)
listed-variable zero v l = absurd (omega arith)
listed-variable (suc n) v l = elim (ℕ_discrete v n) [ yes e ↦ inl (ap var e) | no m ↦ inr (listed-variable n v (omega (arith, l, m))) ]

-- Arguments of a flat formula.

-- a row of n variables and constants, the variables below k, is a word of n letters
listed-word : (cs : List ℕ) (k : ℕ) {n : ℕ} (e : Expr) → Row n e → Symbols (ConstantOf cs) e → ((v : ℕ) → In v e → v < k) → Listed e (words (letters k cs) n)
listed-word cs k [] row_end s low = inl refl
listed-word cs k (var v ∷ e) (row_var {n = n} r) s low =
    listed-before (var v) e (letters k cs) (words (letters k cs) n) (listed-left (var v) (variables k) (map (λ c. sym (constant c)) cs) (listed-variable k v (low v (inl refl)))) (listed-word cs k e r s (λ w i. low w (inr i)))
listed-word cs k (sym (constant c) ∷ e) (row_sym {n = n} r) s low =
    listed-before (sym (constant c)) e (letters k cs) (words (letters k cs) n) (listed-right (sym (constant c)) (variables k) (map (λ c. sym (constant c)) cs) (listed-map (λ c. sym (constant c)) c cs s.0)) (listed-word cs k e (rw zero-add at r) s.1 low)
listed-word cs k (sym (compound f n) ∷ e) (row_sym r) s low = absurd s.0
listed-word cs k (sym (predicate p n) ∷ e) (row_sym r) s low = absurd s.0

-- Numbered by first appearance.

var-number : {v w : ℕ} → var v ≡ var w → v ≡ w
var-number e = cc

Bool-apart : false ≡ true → ⊥
Bool-apart e = let z : ◌≡◌ {A = ℕ} 0 1 = cc in absurd (omega (arith, z))

place_in : (v : ℕ) (l : List ℕ) → within v l ≡ true → place v l < length l
place_in v [] h = let z : false ≡ true = h in absurd (Bool-apart z)
place_in v (w ∷ l) h = cases (eqb v w) (λ p. rw (p, place) (omega arith)) (λ p. rw (p, place) (omega (arith, place_in v l (rw (p, within) at h))))

grown : (v : ℕ) (l : List ℕ) → (place v (grow l v) < length (grow l v)) × (length (grow l v) ≤ suc (length l))
grown v l = cases (within v l) (λ p. rw (p, grow) (place_in v l p, omega arith)) (λ p. rw (p, grow) (place_in v (l ++ (v ∷ [])) (within-last v l), omega (arith, length-append l (v ∷ []))))

-- a variable is below the variables seen before and the nodes
numbered-low : (seen : List ℕ) (e : Expr) → number seen e ≡ e → (v : ℕ) → In v e → v < length seen + length e
numbered-low seen (var w ∷ e) same v i =
    let (here, more) = grown w seen in
    let first : w ≡ place w (grow seen w) = var-number (inv (head-eq_of_cons-eq same)) in
    elim i [
      | inl z ↦ omega (arith, z, first, here, more)
      | inr j ↦ omega (arith, numbered-low (grow seen w) e (tail-eq_of_cons-eq same) v j, more)
    ]
numbered-low seen (sym s ∷ e) same v i = omega (arith, numbered-low seen e (tail-eq_of_cons-eq same) v i)
numbered-low seen [] same v i = elim i [ ]

-- a row of n variables and constants has n nodes
flat-length : (cs : List ℕ) {n : ℕ} (e : Expr) → Row n e → Symbols (ConstantOf cs) e → length e ≡ n
flat-length cs [] row_end s = refl
flat-length cs (var v ∷ e) (row_var r) s = ap suc (flat-length cs e r s)
flat-length cs (sym (constant c) ∷ e) (row_sym r) s = ap suc (flat-length cs e (rw zero-add at r) s.1)
flat-length cs (sym (compound f n) ∷ e) (row_sym r) s = absurd s.0
flat-length cs (sym (predicate p n) ∷ e) (row_sym r) s = absurd s.0

-- a flat formula that is numbered is of the list
pub listed-formula : (ps : List Symbol) (cs : List ℕ) (f : Expr) → Flat ps cs f → canon f ≡ f → Listed f (formulas ps cs)
listed-formula ps cs f (flat {p = p} {a = a} {e = e} l r s) same = of ps l
  where
    low : (v : ℕ) → In v e → v < a
    low v i = omega (arith, numbered-low [] e (tail-eq_of_cons-eq same) v i, flat-length cs e r s)

    here : Listed (sym (predicate p a) ∷ e) (of_predicate cs (predicate p a))
    here = listed-map (λ e. sym (predicate p a) ∷ e) e (words (letters a cs) a) (listed-word cs a e r s low)

    of : (ps : List Symbol) → Listed (predicate p a) ps → Listed (sym (predicate p a) ∷ e) (formulas ps cs)
    of (s ∷ ps) (inl z) = listed-left _ (of_predicate cs s) (formulas ps cs) (subst (λ x. Listed (sym (predicate p a) ∷ e) (of_predicate cs x)) z here)
    of (s ∷ ps) (inr i) = listed-right _ (of_predicate cs s) (formulas ps cs) (of ps i)
    of [] x4 = elim x4 [ ]
