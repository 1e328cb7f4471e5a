-- No name is shared just if the entries are apart.
use Rattle.std.specs.Prelude.{ℕ, ◌≡◌, refl, true, ◌&&◌, List, [], ◌∷◌}
use Rattle.std.proofs.Common.{sym as inv, ap₂, ◌∙◌}
use Rattle.terms.specs.Cases.{cases}
use Rattle.grammar.specs.Names.{Sort, same_name, is_sort}
use Rattle.grammar.specs.NameLaws.{same_true, same_refl}
use Rattle.grammar.specs.GrowLaws.{is-sort_self}
use Rattle.printing.proofs.OrderLaws.{same-sort}
use Rattle.namelist.specs.List.{Entry, ToEach, Along, Apart}
use Rattle.namelist.specs.Bytes.{shares, unshared, all_unshared}
use Rattle.namelist.specs.Tests.{no_test, failed, unfailed, passed, behind}

shares-true : (x y : Entry) → shares x y ≡ true → (x.sort ≡ y.sort) × (x.name ≡ y.name)
shares-true x y e = cases (is_sort x.sort y.sort) (λ t. (inv (same-sort x.sort y.sort t), same_true x.name y.name (rw t at e))) (λ t. no_test (rw t at e))

shares-same : (x y : Entry) → x.sort ≡ y.sort → x.name ≡ y.name → shares x y ≡ true
shares-same x y p q =
    ap₂ (λ (k : Sort) (w : List ℕ). is_sort k y.sort && same_name w y.name) p q
    ∙ rw (is-sort_self y.sort) (same_refl y.name)

unshared-means : (x : Entry) (l : List Entry) → unshared x l ≡ true → ToEach (Apart x) l
unshared-means x [] e = tt
unshared-means x (y ∷ l) e =
    (λ p q. no_test (inv (failed (shares x y) _ e) ∙ shares-same x y p q), unshared-means x l (unfailed (shares x y) _ e))

unshared-is : (x : Entry) (l : List Entry) → ToEach (Apart x) l → unshared x l ≡ true
unshared-is x [] h = refl
unshared-is x (y ∷ l) h = cases (shares x y) (λ t. let p = shares-true x y t in absurd (h.0 p.0 p.1)) (λ t. rw t (unshared-is x l h.1))

pub all-means : (l : List Entry) → all_unshared l ≡ true → Along Apart l
all-means [] e = tt
all-means (x ∷ l) e = (unshared-means x l (passed (unshared x l) _ e), all-means l (behind (unshared x l) _ e))

pub all-is : (l : List Entry) → Along Apart l → all_unshared l ≡ true
all-is [] h = refl
all-is (x ∷ l) h = rw (unshared-is x l h.0) (all-is l h.1)
