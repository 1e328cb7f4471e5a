-- Names numbered as they come, by the names seen so far, have the numbers that they have among all names of the text.
use Rattle.std.specs.Prelude.{ℕ, suc, ◌≡◌, refl, true, List, [], ◌∷◌, ◌++◌}
use Rattle.std.proofs.Common.{sym as inv, ap, ap₂, ◌∙◌, arith}
use Rattle.terms.specs.Node.{var, sym, Expr}
use Rattle.terms.specs.When.{◌⇒◌∣◌}
use Rattle.terms.specs.Cases.{cases}
use Rattle.grammar.specs.NameLaws.{same_refl}
use Rattle.grammar.specs.Names.{Sort, Constant, Compound, Predicate, Spot, variable_spot, symbol_spot, same_name, place, within, grow, is_sort, names_after, variable_number, with_variable, symbol_for, numbered}

-- a name that is there keeps its place when others come behind it
place-stays : (w : List ℕ) (l m : List (List ℕ)) → within w l ≡ true → place w (l ++ m) ≡ place w l
place-stays w [] m h = let z : ◌≡◌ {A = ℕ} 0 1 = cc in absurd (omega arith)
place-stays w (v ∷ l) m h = cases (same_name w v) (λ t. rw t) (λ t. rw t (ap suc (place-stays w l m (rw t at h))))

within-stays : (w : List ℕ) (l m : List (List ℕ)) → within w l ≡ true → within w (l ++ m) ≡ true
within-stays w [] m h = let z : ◌≡◌ {A = ℕ} 0 1 = cc in absurd (omega arith)
within-stays w (v ∷ l) m h = cases (same_name w v) (λ t. rw t) (λ t. rw t (within-stays w l m (rw t at h)))

place-grow : (w v : List ℕ) (l : List (List ℕ)) → within w l ≡ true → place w (grow l v) ≡ place w l
place-grow w v l h = cases (within v l) (λ t. rw t) (λ t. rw t (place-stays w l (v ∷ []) h))

within-grow : (w v : List ℕ) (l : List (List ℕ)) → within w l ≡ true → within w (grow l v) ≡ true
within-grow w v l h = cases (within v l) (λ t. rw t h) (λ t. rw t (within-stays w l (v ∷ []) h))

pub place_after : (k : Sort) (w : List ℕ) (seen : List (List ℕ)) (e : List Spot) → within w seen ≡ true → place w (names_after k seen e) ≡ place w seen
place_after k w seen [] h = refl
place_after k w seen (variable_spot v ∷ e) h = place_after k w seen e h
place_after k w seen (symbol_spot j v n ∷ e) h =
    cases (is_sort k j) (λ t. rw t (place_after k w (grow seen v) e (within-grow w v seen h) ∙ place-grow w v seen h)) (λ t. rw t (place_after k w seen e h))

pub within-after : (k : Sort) (w : List ℕ) (seen : List (List ℕ)) (e : List Spot) → within w seen ≡ true → within w (names_after k seen e) ≡ true
within-after k w seen [] h = h
within-after k w seen (variable_spot v ∷ e) h = within-after k w seen e h
within-after k w seen (symbol_spot j v n ∷ e) h =
    cases (is_sort k j) (λ t. rw t (within-after k w (grow seen v) e (within-grow w v seen h))) (λ t. rw t (within-after k w seen e h))

within-last : (w : List ℕ) (l : List (List ℕ)) → within w (l ++ (w ∷ [])) ≡ true
within-last w [] = rw (same_refl w)
within-last w (v ∷ l) = cases (same_name w v) (λ t. rw t) (λ t. rw t (within-last w l))

pub within_grown : (w : List ℕ) (l : List (List ℕ)) → within w (grow l w) ≡ true
within_grown w l = cases (within w l) (λ t. rw t t) (λ t. rw t (within-last w l))

pub is-sort_self : (k : Sort) → is_sort k k ≡ true
is-sort_self Constant = refl
is-sort_self Compound = refl
is-sort_self Predicate = refl

-- the names of each sort after one more symbol
abbrev pub with_symbol : (Sort → List (List ℕ)) → Sort → List ℕ → Sort → List (List ℕ)
with_symbol tables j w k = is_sort k j ⇒ grow (tables k) w ∣ tables k

-- spots numbered by the tables as they grow
abbrev pub numbered_on : (Sort → List (List ℕ)) → List (List ℕ) → List Spot → Expr
numbered_on tables seen [] = []
numbered_on tables seen (variable_spot w ∷ e) = var (variable_number seen w) ∷ numbered_on tables (with_variable seen w) e
numbered_on tables seen (symbol_spot k w n ∷ e) = sym (symbol_for k (place w (grow (tables k) w)) n) ∷ numbered_on (with_symbol tables k w) seen e

place-final : (tables : Sort → List (List ℕ)) (k : Sort) (w : List ℕ) (n : ℕ) (e : List Spot) →
    place w (grow (tables k) w) ≡ place w (names_after k (tables k) (symbol_spot k w n ∷ e))
place-final tables k w n e = rw (is-sort_self k) (inv (place_after k w (grow (tables k) w) e (within_grown w (tables k))))

pub numbered-grows : (tables : Sort → List (List ℕ)) (seen : List (List ℕ)) (e : List Spot) → numbered_on tables seen e ≡ numbered (λ k. names_after k (tables k) e) seen e
numbered-grows tables seen [] = refl
numbered-grows tables seen (variable_spot w ∷ e) = ap (λ (x : Expr). var (variable_number seen w) ∷ x) (numbered-grows tables (with_variable seen w) e)
numbered-grows tables seen (symbol_spot k w n ∷ e) =
    ap₂ (λ (p : ℕ) (x : Expr). sym (symbol_for k p n) ∷ x) (place-final tables k w n e) (numbered-grows (with_symbol tables k w) seen e)
