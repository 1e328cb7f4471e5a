-- The names that a list gives, by their numbers; and whether bytes are such a list.
use Rattle.std.specs.Prelude.{ℕ, suc, ◌≤◌, ◌≡◌, refl, Bool, true, false, ◌&&◌, length, leb}
use Rattle.std.proofs.Math.Path.{sym as inv, ap}
use Rattle.std.proofs.Common.{ap₂, ◌∙◌, true≢false, leb-true}
use mathlib.Core.List.{List, [], ◌∷◌, ◌++◌, append-nil}
use Rattle.terms.specs.When.{◌⇒◌∣◌}
use Rattle.terms.specs.Cases.{cases}
use Rattle.format.specs.Format.{Bytes}
use Rattle.grammar.specs.Names.{Sort, Constant, Compound, Predicate, same_name, within, is_sort, entries, list_of}
use Rattle.grammar.specs.NameLaws.{same_true}
use Rattle.grammar.specs.GrowLaws.{is-sort_self}
use Rattle.grammar.specs.ListLaws.{list-one}
use Rattle.grammar.specs.Query.{Given}
use Rattle.namelist.specs.List.{Entry, ToEach, Along, Proper, Apart}
use Rattle.namelist.specs.Bytes.{entries_of, is_list}
use Rattle.namelist.specs.Meaning.{list-means}
use Rattle.namelist.specs.Table.{EachFit, NoneTwice, GoodTable, entries_on, table_entries}

-- "a list in C-13's form": as its reader writes it, numbers from 0 and none left out. So few that 4,096 more of a sort have numbers of two bytes.
pub record Gives (s : List ℕ) (g : Given) : Type 0 where
  pub is : s ≡ list_of g
  pub good : GoodTable 61439 g

-- a list gives one table of names
pub gives_one : {s : List ℕ} {g h : Given} → Gives s g → Gives s h → (k : Sort) → g k ≡ h k
gives_one {s} {g} {h} p q = list-one g h (inv p.is ∙ q.is)

-- The same, computed

abbrev pub names_of : Sort → List Entry → List (List ℕ)
names_of k [] = []
names_of k (x ∷ l) = is_sort k x.sort ⇒ x.name ∷ names_of k l ∣ names_of k l

abbrev pub given_from : List ℕ → Given
given_from s k = names_of k (entries_of s)

abbrev pub few : Given → Bool
few g = leb (length (g Constant)) 61439 && (leb (length (g Compound)) 61439 && leb (length (g Predicate)) 61439)

unfoldable pub gives : List ℕ → Bool
gives s = is_list s && (same_name (list_of (given_from s)) s && few (given_from s))

-- The two together

both : (a b : Bool) → (a && b) ≡ true → (a ≡ true) × (b ≡ true)
both true b e = (refl, e)
both false b e = absurd (true≢false (inv e))

names-fit : (k : Sort) (l : List Entry) → ToEach Proper l → EachFit (names_of k l)
names-fit k [] h = tt
names-fit k (x ∷ l) h = cases (is_sort k x.sort) (λ e. rw e (h.0.fit, names-fit k l h.1)) (λ e. rw e (names-fit k l h.1))

same-sort : (k j : Sort) → is_sort k j ≡ true → k ≡ j
same-sort Constant Constant e = refl
same-sort Constant Compound e = absurd (true≢false (inv e))
same-sort Constant Predicate e = absurd (true≢false (inv e))
same-sort Compound Constant e = absurd (true≢false (inv e))
same-sort Compound Compound e = refl
same-sort Compound Predicate e = absurd (true≢false (inv e))
same-sort Predicate Constant e = absurd (true≢false (inv e))
same-sort Predicate Compound e = absurd (true≢false (inv e))
same-sort Predicate Predicate e = refl

names-outside : (k : Sort) (x : Entry) (l : List Entry) → k ≡ x.sort → ToEach (Apart x) l → within x.name (names_of k l) ≡ false
names-outside k x [] e h = refl
names-outside k x (y ∷ l) e h =
    cases (is_sort k y.sort)
    (λ p.
    rw p
    (cases (same_name x.name y.name) (λ q. absurd (h.0 (inv e ∙ same-sort k y.sort p) (same_true x.name y.name q))) (λ q. rw q (names-outside k x l e h.1))))
    (λ p. rw p (names-outside k x l e h.1))

names-distinct : (k : Sort) (l : List Entry) → Along Apart l → NoneTwice (names_of k l)
names-distinct k [] h = tt
names-distinct k (x ∷ l) h =
    cases (is_sort k x.sort) (λ e. rw e (names-outside k x l (same-sort k x.sort e) h.0, names-distinct k l h.1)) (λ e. rw e (names-distinct k l h.1))

few-of : (g : Given) → few g ≡ true → (k : Sort) → length (g k) ≤ 61439
few-of g e =
    let a = both (leb (length (g Constant)) 61439) (leb (length (g Compound)) 61439 && leb (length (g Predicate)) 61439) e in
    let b = both (leb (length (g Compound)) 61439) (leb (length (g Predicate)) 61439) a.1 in
    by (leb-true (length (g Constant)) 61439 a.0) (leb-true (length (g Compound)) 61439 b.0) (leb-true (length (g Predicate)) 61439 b.1)
  where
    by : length (g Constant) ≤ 61439 → length (g Compound) ≤ 61439 → length (g Predicate) ≤ 61439 → (k : Sort) → length (g k) ≤ 61439
    by p q r Constant = p
    by p q r Compound = q
    by p q r Predicate = r

pub gives-means : (s : List ℕ) → Bytes s → gives s ≡ true → Gives s (given_from s)
unfolding gives
gives-means s bytes e =
    let a = both (is_list s) _ e in
    let b = both (same_name (list_of (given_from s)) s) _ a.1 in
    let l = list-means s bytes a.0 in
    record {
      is = inv (same_true (list_of (given_from s)) s b.0);
      good = record { few = few-of (given_from s) b.1; fit = λ k. names-fit k (entries_of s) l.proper; apart = λ k. names-distinct k (entries_of s) l.apart };
    }

names-append : (k : Sort) (a b : List Entry) → names_of k (a ++ b) ≡ names_of k a ++ names_of k b
names-append k [] b = refl
names-append k (x ∷ a) b = cases (is_sort k x.sort) (λ e. rw e (ap (λ (z : List (List ℕ)). x.name ∷ z) (names-append k a b))) (λ e. rw e (names-append k a b))

names-own : (k : Sort) (n : ℕ) (l : List (List ℕ)) → names_of k (entries_on k n l) ≡ l
names-own k n [] = refl
names-own k n (w ∷ l) = rw (is-sort_self k) (ap (λ (z : List (List ℕ)). w ∷ z) (names-own k (suc n) l))

names-other : (k j : Sort) (n : ℕ) (l : List (List ℕ)) → is_sort k j ≡ false → names_of k (entries_on j n l) ≡ []
names-other k j n [] e = refl
names-other k j n (w ∷ l) e = rw e (names-other k j (suc n) l e)

three : (k : Sort) (a b c : List Entry) → names_of k (a ++ (b ++ c)) ≡ names_of k a ++ (names_of k b ++ names_of k c)
three k a b c = names-append k a (b ++ c) ∙ ap (λ (z : List (List ℕ)). names_of k a ++ z) (names-append k b c)

pub names_table : (g : Given) (k : Sort) → names_of k (table_entries g) ≡ g k
names_table g Constant =
    three Constant (entries_on Constant 0 (g Constant)) (entries_on Compound 0 (g Compound)) (entries_on Predicate 0 (g Predicate))
    ∙ ap₂ ◌++◌ (names-own Constant 0 (g Constant)) (ap₂ ◌++◌ (names-other Constant Compound 0 (g Compound) refl) (names-other Constant Predicate 0 (g Predicate) refl))
    ∙ append-nil (g Constant)
names_table g Compound =
    three Compound (entries_on Constant 0 (g Constant)) (entries_on Compound 0 (g Compound)) (entries_on Predicate 0 (g Predicate))
    ∙ ap₂ ◌++◌ (names-other Compound Constant 0 (g Constant) refl) (ap₂ ◌++◌ (names-own Compound 0 (g Compound)) (names-other Compound Predicate 0 (g Predicate) refl) ∙ append-nil (g Compound))
names_table g Predicate =
    three Predicate (entries_on Constant 0 (g Constant)) (entries_on Compound 0 (g Compound)) (entries_on Predicate 0 (g Predicate))
    ∙ ap₂ ◌++◌ (names-other Predicate Constant 0 (g Constant) refl) (ap₂ ◌++◌ (names-other Predicate Compound 0 (g Compound) refl) (names-own Predicate 0 (g Predicate)))

pub lists-same : (g h : Given) → ((k : Sort) → g k ≡ h k) → list_of g ≡ list_of h
lists-same g h e = ap₂ ◌++◌ (ap (entries Constant 0) (e Constant)) (ap₂ ◌++◌ (ap (entries Compound 0) (e Compound)) (ap (entries Predicate 0) (e Predicate)))
