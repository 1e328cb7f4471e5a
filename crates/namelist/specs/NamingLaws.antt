-- Which symbols a list names, and that it names them by names of C-13's form, one to one in each sort.
use Rattle.std.specs.Prelude.{ℕ, ◌≡◌, refl, Bool, true, false, ◌&&◌, List, [], ◌∷◌, eqb, Option, Some, None, is_some}
use Rattle.std.specs.Borrow.{Bor}
use Rattle.std.proofs.Common.{sym as inv, ap, ap₂, ◌∙◌, subst, inl, inr, eqb-true, eq-eqb}
use Rattle.terms.specs.Cases.{cases}
use Rattle.terms.specs.When.{◌⇒◌∣◌}
use Rattle.terms.specs.Node.{constant, compound, predicate, Node, var, sym, Expr}
use Rattle.grammar.specs.Names.{Sort, Constant, Compound, Predicate, symbol_for, is_sort}
use Rattle.grammar.specs.GrowLaws.{is-sort_self}
use Rattle.printing.specs.Renumbered.{Uses}
use Rattle.printing.proofs.UseLaws.{Distinct}
use Rattle.printing.proofs.OrderLaws.{same-sort}
use Rattle.printing.specs.Fit.{Fit, AllFit}
use Rattle.namelist.specs.List.{Entry, ToEach, Along, Proper, Apart, In, naming}
use Rattle.namelist.specs.Tests.{no_test, passed, behind}

abbrev pub entry : Sort → ℕ → List ℕ → Entry
entry k n w = record { sort = k; number = n; name = w }

-- the symbol of this sort and number has a name in the list
pub record Named (l : List Entry) (k : Sort) (n : ℕ) : Type 0 where
  pub called : List ℕ
  pub within : In (entry k n called) l

-- each symbol that stands in e has one
abbrev pub AllNamed : List Entry → Expr → Type 0
AllNamed l e = (k : Sort) (n : ℕ) → Uses k n e → Named l k n

-- the same, computed: no name is empty
abbrev pub some : List ℕ → Bool
some [] = false
some (b ∷ w) = true

-- what is found of the name of a symbol: nothing where it has none, which no name is
abbrev pub GivesName : Option (Bor (List ℕ)) → List ℕ → Type 0
GivesName None w = w ≡ []
GivesName (Some r) w = (r.now ≡ w) × (some w ≡ true)

pub gives-some : (r : Option (Bor (List ℕ))) (w : List ℕ) → GivesName r w → is_some r ≡ some w
gives-some None w h = ap some (inv h)
gives-some (Some r) w h = inv h.1

abbrev pub node_named : List Entry → Node → Bool
node_named l (var v) = true
node_named l (sym (constant c)) = some (naming l Constant c)
node_named l (sym (compound f n)) = some (naming l Compound f)
node_named l (sym (predicate p n)) = some (naming l Predicate p)

abbrev pub all_named : List Entry → Expr → Bool
all_named l [] = true
all_named l (x ∷ e) = node_named l x ⇒ all_named l e ∣ false

-- One entry for a symbol

matched : (x : Entry) (k : Sort) (n : ℕ) → (is_sort k x.sort && eqb n x.number) ≡ true → (x.sort ≡ k) × (x.number ≡ n)
matched x k n e =
    cases (is_sort k x.sort) (λ t. (same-sort k x.sort t, inv (eqb-true n x.number (rw t at e)))) (λ t. no_test (rw t at e))

matches : (k : Sort) (n : ℕ) → (is_sort k k && eqb n n) ≡ true
matches k n = rw (is-sort_self k) (eq-eqb n n refl)

abbrev same_entry : (x : Entry) (k : Sort) (n : ℕ) → x.sort ≡ k → x.number ≡ n → entry k n x.name ≡ x
same_entry x k n p q = ap₂ (λ (j : Sort) (m : ℕ). entry j m x.name) (inv p) (inv q)

pub fit-some : (w : List ℕ) → Fit w → some w ≡ true
fit-some [] f = absurd f.spelt
fit-some (b ∷ w) f = refl

pub named-means : (l : List Entry) (k : Sort) (n : ℕ) → some (naming l k n) ≡ true → In (entry k n (naming l k n)) l
named-means [] k n e = no_test e
named-means (x ∷ l) k n e =
    cases (is_sort k x.sort && eqb n x.number) (λ t. rw t (let p = matched x k n t in inl (same_entry x k n p.0 p.1)))
    (λ t. let s : naming (x ∷ l) k n ≡ naming l k n = rw t refl in inr (subst (λ (w : List ℕ). In (entry k n w) l) (inv s) (named-means l k n (rw t at e))))

pub named-is : (l : List Entry) (k : Sort) (n : ℕ) → ToEach Proper l → Named l k n → some (naming l k n) ≡ true
named-is l k n p m = go l p m.called m.within
  where
    go : (l : List Entry) → ToEach Proper l → (w : List ℕ) → In (entry k n w) l → some (naming l k n) ≡ true
    go [] p w i = absurd i
    go (x ∷ l) p w (inl e) =
        rw (subst (λ (y : Entry). (is_sort k y.sort && eqb n y.number) ≡ true) e (matches k n)) (fit-some x.name p.0.fit)
    go (x ∷ l) p w (inr i) = cases (is_sort k x.sort && eqb n x.number) (λ t. rw t (fit-some x.name p.0.fit)) (λ t. rw t (go l p.1 w i))

-- Names of the list

in-each : (R : Entry → Type 0) (x : Entry) (l : List Entry) → ToEach R l → In x l → R x
in-each R x [] h i = absurd i
in-each R x (y ∷ l) h (inl e) = subst R (inv e) h.0
in-each R x (y ∷ l) h (inr i) = in-each R x l h.1 i

in-apart : (x y : Entry) (l : List Entry) → Along Apart l → In x l → In y l → x.sort ≡ y.sort → x.name ≡ y.name → x ≡ y
in-apart x y [] h i j p q = absurd i
in-apart x y (z ∷ l) h (inl e) (inl f) p q = e ∙ inv f
in-apart x y (z ∷ l) h (inl e) (inr j) p q = absurd (in-each (Apart z) y l h.0 j (ap (λ (v : Entry). v.sort) (inv e) ∙ p) (ap (λ (v : Entry). v.name) (inv e) ∙ q))
in-apart x y (z ∷ l) h (inr i) (inl f) p q = absurd (in-each (Apart z) x l h.0 i (ap (λ (v : Entry). v.sort) (inv f) ∙ inv p) (ap (λ (v : Entry). v.name) (inv f) ∙ inv q))
in-apart x y (z ∷ l) h (inr i) (inr j) p q = in-apart x y l h.1 i j p q

module _ (l : List Entry) (proper : ToEach Proper l) (e : Expr) (all : AllNamed l e) where
  found : (k : Sort) (n : ℕ) → Uses k n e → In (entry k n (naming l k n)) l
  found k n u = named-means l k n (named-is l k n proper (all k n u))

  pub named-fit : AllFit (naming l) e
  named-fit k n u = (in-each Proper (entry k n (naming l k n)) l proper (found k n u)).fit

  pub named-distinct : Along Apart l → Distinct (naming l) e
  named-distinct apart k m n u v q =
      ap (λ (x : Entry). x.number) (in-apart (entry k m (naming l k m)) (entry k n (naming l k n)) l apart (found k m u) (found k n v) refl q)

-- All symbols

symbol-named : (l : List Entry) (k : Sort) (n a : ℕ) → node_named l (sym (symbol_for k n a)) ≡ some (naming l k n)
symbol-named l Constant n a = refl
symbol-named l Compound n a = refl
symbol-named l Predicate n a = refl

pub all-named-means : (l : List Entry) (e : Expr) → all_named l e ≡ true → AllNamed l e
all-named-means l [] h k n u = absurd u
all-named-means l (x ∷ e) h k n (inl (a, p)) =
    record { called = naming l k n; within = named-means l k n (inv (symbol-named l k n a) ∙ ap (node_named l) (inv p) ∙ passed (node_named l x) _ h) }
all-named-means l (x ∷ e) h k n (inr u) = all-named-means l e (behind (node_named l x) _ h) k n u

node-is : (l : List Entry) (x : Node) → ToEach Proper l → ((k : Sort) (n a : ℕ) → x ≡ sym (symbol_for k n a) → Named l k n) → node_named l x ≡ true
node-is l (var v) p h = refl
node-is l (sym (constant c)) p h = named-is l Constant c p (h Constant c 0 refl)
node-is l (sym (compound f n)) p h = named-is l Compound f p (h Compound f n refl)
node-is l (sym (predicate q n)) p h = named-is l Predicate q p (h Predicate q n refl)

pub all-named-is : (l : List Entry) (e : Expr) → ToEach Proper l → AllNamed l e → all_named l e ≡ true
all-named-is l [] p h = refl
all-named-is l (x ∷ e) p h = rw (node-is l x p (λ k n a q. h k n (inl (a, q)))) (all-named-is l e p (λ k n u. h k n (inr u)))

-- "a used symbol has no name"
pub record Unnamed (l : List Entry) (e : Expr) : Type 0 where
  pub sort : Sort
  pub number : ℕ
  pub used : Uses sort number e
  pub nameless : Named l sort number → ⊥

unnamed-symbol : (l : List Entry) (k : Sort) (n a : ℕ) (e : Expr) → ToEach Proper l → some (naming l k n) ≡ false → Unnamed l (sym (symbol_for k n a) ∷ e)
unnamed-symbol l k n a e p h = record { sort = k; number = n; used = inl (a, refl); nameless = λ m. no_test (inv h ∙ named-is l k n p m) }

unnamed-node : (l : List Entry) (x : Node) (e : Expr) → ToEach Proper l → node_named l x ≡ false → Unnamed l (x ∷ e)
unnamed-node l (var v) e p h = no_test (inv h)
unnamed-node l (sym (constant c)) e p h = unnamed-symbol l Constant c 0 e p h
unnamed-node l (sym (compound f n)) e p h = unnamed-symbol l Compound f n e p h
unnamed-node l (sym (predicate q n)) e p h = unnamed-symbol l Predicate q n e p h

pub unnamed : (l : List Entry) (e : Expr) → ToEach Proper l → all_named l e ≡ false → Unnamed l e
unnamed l [] p h = no_test (inv h)
unnamed l (x ∷ e) p h =
    cases (node_named l x)
    (λ t. let u = unnamed l e p (rw t at h) in record { sort = u.sort; number = u.number; used = inr u.used; nameless = u.nameless })
    (λ t. unnamed-node l x e p t)

pub unnamed-is : (l : List Entry) (e : Expr) → Unnamed l e → all_named l e ≡ false
unnamed-is l e u = cases (all_named l e) (λ t. absurd (u.nameless (all-named-means l e t u.sort u.number u.used))) (λ t. t)
