-- The counts behind the open brackets.
use Prim.Native.Nat.{ℕ, suc, ◌+◌, ◌-◌, ◌≤◌, ◌<◌}
use mathlib.Core.Path.{◌≡◌, refl, ap, subst, ◌∙◌}
use mathlib.Core.List.{List, [], ◌∷◌}
use native.Mathlib.Omega.{arith}
use lib.ListN.{length, get_or, set}
use lib.Dec.{leb}
use borrow.Author.Tests.{le-leb}
use lib.Seq.{get_or-set_same, get_or-set_other}
use Rattle.grammar.specs.Syntax.{Terms}
use Rattle.reading.specs.Part.{Done, none_yet, and_variable, and_name, Part, formulas, inside, filled, comma_may, put}
use Rattle.reading.specs.Reader.{size, full, nodes}
use Rattle.stages.specs.Stage.{Deep, root, level, root_count, raised, grown}

pub depth-nodes : {counts : List ℕ} (p : Part) (k : ℕ) → Deep counts p k → k ≤ nodes p
depth-nodes (formulas fs) k root = omega arith
depth-nodes (inside p v d) k (level {k = j} h t) = omega (arith, depth-nodes p j h)

pub top-is : {counts : List ℕ} (p : Part) (v : List ℕ) (d : Done) (k : ℕ) → Deep counts (inside p v d) k → get_or counts (k - 1) 0 ≡ size d
top-is {counts} p v d k (level {k = j} h t) = let e : suc j - 1 ≡ j = omega arith in ap (λ (i : ℕ). get_or counts i 0) e ∙ t

pub below-is : {counts : List ℕ} (p : Part) (v : List ℕ) (d : Done) (k : ℕ) → Deep counts (inside p v d) k → Deep counts p (k - 1)
below-is {counts} p v d k (level {k = j} h t) = let e : j ≡ suc j - 1 = omega arith in subst (Deep counts p) e h

pub deep-set : {counts : List ℕ} (p : Part) (k j x : ℕ) → k ≤ j → Deep counts p k → Deep (set counts j x) p k
deep-set (formulas fs) k j x l root = root
deep-set {counts} (inside p v d) k j x l (level {k = i} h t) =
    level (deep-set p i j x (omega arith) h) (get_or-set_other counts j i x 0 (λ (q : i ≡ j). omega arith) ∙ t)

-- no bracket is open
pub rooted : {counts : List ℕ} (p : Part) (k : ℕ) → Deep counts p k → k ≡ 0 → (R : Part → Type 0) → ((fs : List _) → R (formulas fs)) → R p
rooted (formulas fs) k root z R f = f fs
rooted (inside p v d) k (level h t) z R f = absurd (omega arith)

-- one is
pub nested : {counts : List ℕ} (p : Part) (k : ℕ) → Deep counts p k → (k ≡ 0 → ⊥) → (R : Part → Type 0) → ((q : Part) (v : List ℕ) (d : Done) → Deep counts (inside q v d) k → R (inside q v d)) → R p
nested (formulas fs) k root z R f = absurd (z refl)
nested (inside p v d) k (level h t) z R f = f p v d (level h t)

pub full-root : {counts : List ℕ} (p : Part) (k n : ℕ) → Deep counts p k → k ≡ 0 → n ≡ root_count p → leb 17 n ≡ full p
full-root (formulas fs) k n root z e = ap (leb 17) e
full-root (inside p v d) k n (level h t) z e = absurd (omega arith)

pub full-top : {counts : List ℕ} (p : Part) (k n : ℕ) → Deep counts p k → (k ≡ 0 → ⊥) → n ≡ get_or counts (k - 1) 0 → leb 8 n ≡ full p
full-top (formulas fs) k n root z e = absurd (z refl)
full-top (inside p v d) k n (level h t) z e = ap (leb 8) (e ∙ top-is p v d k (level h t))

filled_is : (d : Done) → leb 1 (size d) ≡ filled d
filled_is none_yet = refl
filled_is (and_variable d w) = le-leb 1 (suc (size d)) (omega arith)
filled_is (and_name d w own) = le-leb 1 (suc (size d)) (omega arith)

pub comma-root : {counts : List ℕ} (p : Part) (k n : ℕ) → Deep counts p k → k ≡ 0 → n ≡ root_count p → leb 2 n ≡ comma_may p
comma-root (formulas []) k n root z e = ap (leb 2) e
comma-root (formulas (f ∷ [])) k n root z e = ap (leb 2) e
comma-root (formulas (f ∷ g ∷ fs)) k n root z e = le-leb 2 n (omega (arith, e))
comma-root (inside p v d) k n (level h t) z e = absurd (omega arith)

pub comma-top : {counts : List ℕ} (p : Part) (k n : ℕ) → Deep counts p k → (k ≡ 0 → ⊥) → n ≡ get_or counts (k - 1) 0 → leb 1 n ≡ comma_may p
comma-top (formulas fs) k n root z e = absurd (z refl)
comma-top (inside p v d) k n (level h t) z e = ap (leb 1) (e ∙ top-is p v d k (level h t)) ∙ filled_is d

-- One more

pub put-deep : {counts : List ℕ} (p : Part) (k : ℕ) (w : List ℕ) (own : Terms) → Deep counts p k → k ≤ length counts → Deep (raised k counts) (put p w own) k
put-deep (formulas fs) k w own root l = root
put-deep {counts} (inside p v d) k w own (level {k = j} h t) l =
    level {d = and_name d w own} (deep-set p j j (get_or counts j 0 + 1) (omega arith) h) (get_or-set_same counts j (get_or counts j 0 + 1) 0 (omega arith) ∙ omega (arith, t))

pub put_count : {counts : List ℕ} (p : Part) (k n : ℕ) (w : List ℕ) (own : Terms) → Deep counts p k → n ≡ root_count p → grown k n ≡ root_count (put p w own)
put_count (formulas fs) k n w own root e = omega (arith, e)
put_count (inside p v d) k n w own (level h t) e = e

pub variable-deep : {counts : List ℕ} (p : Part) (v w : List ℕ) (d : Done) (k : ℕ) → Deep counts (inside p v d) k → k ≤ length counts → Deep (raised k counts) (inside p v (and_variable d w)) k
variable-deep {counts} p v w d k (level {k = j} h t) l =
    level {d = and_variable d w} (deep-set p j j (get_or counts j 0 + 1) (omega arith) h) (get_or-set_same counts j (get_or counts j 0 + 1) 0 (omega arith) ∙ omega (arith, t))

pub variable-count : {counts : List ℕ} (p : Part) (v : List ℕ) (d : Done) (k n : ℕ) → Deep counts (inside p v d) k → grown k n ≡ n
variable-count p v d k n (level h t) = refl

pub opened-deep : {counts : List ℕ} (p : Part) (w : List ℕ) (k : ℕ) → Deep counts p k → k < length counts → Deep (set counts k 0) (inside p w none_yet) (k + 1)
opened-deep {counts} p w k h l =
    let e : suc k ≡ k + 1 = omega arith in
    subst (Deep (set counts k 0) (inside p w none_yet)) e (level (deep-set p k k 0 (omega arith) h) (get_or-set_same counts k 0 0 l))
