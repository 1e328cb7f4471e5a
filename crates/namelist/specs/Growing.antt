-- Names by first appearance: those that come in keep a table good (document 02, C-13).
use Rattle.std.specs.Prelude.{ℕ, ◌≡◌, refl, false, List, [], ◌∷◌, ◌++◌}
use Rattle.std.proofs.Common.{sym as inv, true≢false}
use Rattle.terms.specs.Cases.{cases}
use Rattle.grammar.specs.Names.{Sort, Spot, variable_spot, symbol_spot, same_name, within, grow, is_sort, names_after}
use Rattle.grammar.specs.NameLaws.{same_true}
use Rattle.printing.specs.Fit.{Fit}
use Rattle.namelist.specs.Table.{EachFit, NoneTwice, other_name}

abbrev pub AllSpots : List Spot → Type 0
AllSpots [] = Unit {0}
AllSpots (variable_spot w ∷ e) = AllSpots e
AllSpots (symbol_spot k w n ∷ e) = Fit w × AllSpots e

-- of C-13's form

fit-last : (l : List (List ℕ)) (w : List ℕ) → EachFit l → Fit w → EachFit (l ++ (w ∷ []))
fit-last [] w h f = (f, tt)
fit-last (v ∷ l) w h f = (h.0, fit-last l w h.1 f)

fit-grow : (l : List (List ℕ)) (w : List ℕ) → EachFit l → Fit w → EachFit (grow l w)
fit-grow l w h f = cases (within w l) (λ t. rw t h) (λ t. rw t (fit-last l w h f))

pub fit-after : (k : Sort) (seen : List (List ℕ)) (e : List Spot) → EachFit seen → AllSpots e → EachFit (names_after k seen e)
fit-after k seen [] h s = h
fit-after k seen (variable_spot w ∷ e) h s = fit-after k seen e h s
fit-after k seen (symbol_spot j w n ∷ e) h s =
    cases (is_sort k j) (λ t. rw t (fit-after k (grow seen w) e (fit-grow seen w h s.0) s.1)) (λ t. rw t (fit-after k seen e h s.1))

-- each once

last-outside : (v w : List ℕ) (l : List (List ℕ)) → within v l ≡ false → (v ≡ w → ⊥) → within v (l ++ (w ∷ [])) ≡ false
last-outside v w [] h d = cases (same_name v w) (λ t. absurd (d (same_true v w t))) (λ t. rw t)
last-outside v w (u ∷ l) h d = cases (same_name v u) (λ t. absurd (true≢false (rw t at h))) (λ t. rw t (last-outside v w l (rw t at h) d))

none_last : (l : List (List ℕ)) (w : List ℕ) → NoneTwice l → within w l ≡ false → NoneTwice (l ++ (w ∷ []))
none_last [] w h o = (refl, tt)
none_last (v ∷ l) w h o = let q = other_name w v l o in (last-outside v w l h.0 (λ e. q.0 (inv e)), none_last l w h.1 q.1)

none-grow : (l : List (List ℕ)) (w : List ℕ) → NoneTwice l → NoneTwice (grow l w)
none-grow l w h = cases (within w l) (λ t. rw t h) (λ t. rw t (none_last l w h t))

pub none_after : (k : Sort) (seen : List (List ℕ)) (e : List Spot) → NoneTwice seen → NoneTwice (names_after k seen e)
none_after k seen [] h = h
none_after k seen (variable_spot w ∷ e) h = none_after k seen e h
none_after k seen (symbol_spot j w n ∷ e) h =
    cases (is_sort k j) (λ t. rw t (none_after k (grow seen w) e (none-grow seen w h))) (λ t. rw t (none_after k seen e h))
