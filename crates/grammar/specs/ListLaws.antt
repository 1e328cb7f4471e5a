-- A name list in C-13's form is that of one table of names only.
use Rattle.std.specs.Prelude.{ℕ, suc, ◌≡◌, refl, List, [], ◌∷◌, ◌++◌, length}
use Rattle.std.proofs.Common.{sym as inv, ap₂, ◌∙◌, append_assoc, append-nil, arith}
use Rattle.grammar.specs.Names.{Sort, Constant, Compound, Predicate, kind, entries, list_of}
use Rattle.grammar.specs.Query.{Given}

-- two lists in one, split where the first ends
parted : (v w x y : List ℕ) → length v ≡ length w → v ++ x ≡ w ++ y → (v ≡ w) × (x ≡ y)
parted [] [] x y l e = (refl, e)
parted [] (b ∷ w) x y l e = absurd (omega arith)
parted (a ∷ v) [] x y l e = absurd (omega arith)
parted (a ∷ v) (b ∷ w) x y l e =
    let p = parted v w x y (omega arith) (cc) in
    let q : a ≡ b = cc in
    (ap₂ ◌∷◌ q p.0, p.1)

-- what follows is no entry of this sort
abbrev Other : Sort → List ℕ → Type 0
Other k [] = Unit {0}
Other k (b ∷ s) = b ≡ kind k → ⊥

entry_other : (k : Sort) (x s : List ℕ) → Other k x → x ≡ kind k ∷ s → ⊥
entry_other k [] s h e = let z : ◌≡◌ {A = ℕ} 0 1 = cc in omega arith
entry_other k (b ∷ x) s h e = h (cc)

entries-one : (k : Sort) (n : ℕ) (l m : List (List ℕ)) (x y : List ℕ) → Other k x → Other k y → entries k n l ++ x ≡ entries k n m ++ y → (l ≡ m) × (x ≡ y)
entries-one k n [] [] x y p q e = (refl, e)
entries-one k n [] (w ∷ m) x y p q e = absurd (entry_other k x _ p e)
entries-one k n (v ∷ l) [] x y p q e = absurd (entry_other k y _ q (inv e))
entries-one k n (v ∷ l) (w ∷ m) x y p q e =
    let len : length v ≡ length w = cc in
    let rest : (v ++ entries k (suc n) l) ++ x ≡ (w ++ entries k (suc n) m) ++ y = cc in
    let h =
    parted v w (entries k (suc n) l ++ x) (entries k (suc n) m ++ y) len
    (inv (append_assoc v (entries k (suc n) l) x) ∙ rest ∙ append_assoc w (entries k (suc n) m) y) in
    let t = entries-one k (suc n) l m x y p q h.1 in
    (ap₂ ◌∷◌ h.0 t.0, t.1)

-- entries of another kind, or none, are no entries of this one
entries-other : (k j : Sort) (l : List (List ℕ)) → (kind j ≡ kind k → ⊥) → Other k (entries j 0 l)
entries-other k j [] d = tt
entries-other k j (w ∷ l) d = d

others : (k i j : Sort) (l m : List (List ℕ)) → (kind i ≡ kind k → ⊥) → (kind j ≡ kind k → ⊥) → Other k (entries i 0 l ++ entries j 0 m)
others k i j [] m c d = entries-other k j m d
others k i j (w ∷ l) m c d = c

constants-one : (g h : Given) → list_of g ≡ list_of h →
    (g Constant ≡ h Constant) × (entries Compound 0 (g Compound) ++ entries Predicate 0 (g Predicate) ≡ entries Compound 0 (h Compound) ++ entries Predicate 0 (h Predicate))
constants-one g h e =
    entries-one Constant 0 (g Constant) (h Constant) (entries Compound 0 (g Compound) ++ entries Predicate 0 (g Predicate)) (entries Compound 0 (h Compound) ++ entries Predicate 0 (h Predicate))
    (others Constant Compound Predicate (g Compound) (g Predicate) (λ (d : 3 ≡ 2). omega arith) (λ (d : 4 ≡ 2). omega arith))
    (others Constant Compound Predicate (h Compound) (h Predicate) (λ (d : 3 ≡ 2). omega arith) (λ (d : 4 ≡ 2). omega arith))
    e

compounds-one : (g h : Given) → list_of g ≡ list_of h → (g Compound ≡ h Compound) × (entries Predicate 0 (g Predicate) ≡ entries Predicate 0 (h Predicate))
compounds-one g h e =
    entries-one Compound 0 (g Compound) (h Compound) (entries Predicate 0 (g Predicate)) (entries Predicate 0 (h Predicate))
    (entries-other Compound Predicate (g Predicate) (λ (d : 4 ≡ 3). omega arith))
    (entries-other Compound Predicate (h Predicate) (λ (d : 4 ≡ 3). omega arith))
    (constants-one g h e).1

-- the list tells the names of each sort, and their numbers
pub list-one : (g h : Given) → list_of g ≡ list_of h → (k : Sort) → g k ≡ h k
list-one g h e Constant = (constants-one g h e).0
list-one g h e Compound = (compounds-one g h e).0
list-one g h e Predicate =
    (entries-one Predicate 0 (g Predicate) (h Predicate) [] [] tt tt (append-nil (entries Predicate 0 (g Predicate)) ∙ (compounds-one g h e).1 ∙ inv (append-nil (entries Predicate 0 (h Predicate))))).0
