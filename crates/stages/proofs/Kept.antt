-- Variables by first appearance, one by one.
use Prim.Native.Nat.{ℕ, zero, suc, ◌+◌, ◌≤◌, ◌<◌}
use mathlib.Core.Path.{◌≡◌, refl, sym as inv, ap, ap₂, subst, ◌∙◌}
use mathlib.Core.Bool.{Bool, true, false}
use mathlib.Core.List.{List, [], ◌∷◌, ◌++◌}
use native.Mathlib.Omega.{arith}
use native.Mathlib.Decide.{dec_lt}
use lib.ListN.{length, get_or, set, drop, length-append, length-set, length-drop}
use lib.Dec.{eqb}
use lib.Seq.{get_or-set_same, get_or-set_other, length-take-le}
use Rattle.std.specs.Prelude.{Option, Some, None}
use Rattle.std.specs.Option.{unwrap_or}
use Rattle.terms.specs.Cases.{cases}
use Rattle.grammar.specs.Names.{same_name, place, within, lone, variable_number, with_variable}
use Rattle.grammar.specs.NameLaws.{same_true, place-within, place-outside}
use Rattle.nametable.specs.Table.{word, IsPlace}
use Rattle.stages.specs.Variables.{Variables}

-- The first that is the same

pub place-first : (w : List ℕ) (names : List (List ℕ)) (i : ℕ) → i < length names → ((j : ℕ) → j < i → same_name w (get_or names j []) ≡ false) → same_name w (get_or names i []) ≡ true → i ≡ place w names
place-first w [] i l f t = absurd (omega arith)
place-first w (v ∷ names) zero l f t = rw t refl
place-first w (v ∷ names) (suc i) l f t =
    rw (f 0 (omega arith)) (ap suc (place-first w names i (omega arith) (λ j (k : j < i). f (suc j) (omega arith)) t))

pub place_none : (w : List ℕ) (names : List (List ℕ)) → ((j : ℕ) → j < length names → same_name w (get_or names j []) ≡ false) → length names ≡ place w names
place_none w [] f = refl
place_none w (v ∷ names) f = rw (f 0 (omega arith)) (ap suc (place_none w names (λ j (k : j < length names). f (suc j) (omega arith))))

-- One name more

get_d_front : (l m : List (List ℕ)) (i : ℕ) → i < length l → get_or (l ++ m) i [] ≡ get_or l i []
get_d_front [] m i h = absurd (omega arith)
get_d_front (x ∷ l) m zero h = refl
get_d_front (x ∷ l) m (suc i) h = get_d_front l m i (omega arith)

get_d_last : (l : List (List ℕ)) (w : List ℕ) (i : ℕ) → i ≡ length l → get_or (l ++ (w ∷ [])) i [] ≡ w
get_d_last [] w zero h = refl
get_d_last [] w (suc i) h = absurd (omega arith)
get_d_last (x ∷ l) w zero h = absurd (omega arith)
get_d_last (x ∷ l) w (suc i) h = get_d_last l w i (omega arith)

-- a variable that is there
pub kept-known : (text vars : List ℕ) (names : List (List ℕ)) (w : List ℕ) (n v : ℕ) → Variables text vars names n → v ≡ variable_number names w → v < n → with_variable names w ≡ names
kept-known text vars names w n v h e l =
    cases (lone w) (λ t. let q : variable_number names w ≡ length names = rw t refl in absurd (omega (arith, h.count, q)))
    (λ t. let q : variable_number names w ≡ place w names = rw t refl in
    cases (within w names) (λ i. rw (t, i) refl) (λ i. absurd (omega (arith, h.count, q, place-outside w names i))))

-- a new one stands behind the others
pub kept_new : (text vars : List ℕ) (names : List (List ℕ)) (w : List ℕ) (n v : ℕ) → Variables text vars names n → v ≡ variable_number names w → (v < n → ⊥) → with_variable names w ≡ names ++ (w ∷ [])
kept_new text vars names w n v h e l =
    cases (lone w) (λ t. rw t refl)
    (λ t. let q : variable_number names w ≡ place w names = rw t refl in
    cases (within w names) (λ i. absurd (l (omega (arith, h.count, q, place-within w names i)))) (λ i. rw (t, i) refl))

module _ (vars : List ℕ) (n at len m : ℕ) (few : n < 64) (long : length vars ≡ 128) (one : m + 1 ≡ len) where
  abbrev pub put : List ℕ
  put = set (set vars n at) (64 + n) m

  start-new : get_or put n 0 ≡ at
  start-new = get_or-set_other (set vars n at) (64 + n) n m 0 (λ (q : n ≡ 64 + n). omega arith) ∙ get_or-set_same vars n at 0 (omega (arith, few, long))

  len_new : get_or put (64 + n) 0 + 1 ≡ len
  len_new = ap (λ (x : ℕ). x + 1) (get_or-set_same (set vars n at) (64 + n) m 0 (omega (arith, few, long, length-set vars n at))) ∙ one

  start-old : (i : ℕ) → i < n → get_or put i 0 ≡ get_or vars i 0
  start-old i l = get_or-set_other (set vars n at) (64 + n) i m 0 (λ (q : i ≡ 64 + n). omega arith) ∙ get_or-set_other vars n i at 0 (λ (q : i ≡ n). omega arith)

  len_old : (i : ℕ) → i < n → get_or put (64 + i) 0 ≡ get_or vars (64 + i) 0
  len_old i l = get_or-set_other (set vars n at) (64 + n) (64 + i) m 0 (λ (q : 64 + i ≡ 64 + n). omega arith) ∙ get_or-set_other vars n (64 + i) at 0 (λ (q : 64 + i ≡ n). omega (arith, few))

  pub kept_more : (text : List ℕ) (names : List (List ℕ)) → Variables text vars names n → at + len ≤ length text → Variables text put (names ++ (word text at len ∷ [])) (n + 1)
  kept_more text names h l =
      record {
        count = length-append names (word text at len ∷ []) ∙ omega (arith, h.count);
        few = omega (arith, few);
        inside = λ i (b : i < n + 1). elim (dec_lt i n) [ yes p ↦ omega (arith, start-old i p, len_old i p, h.inside i p) | no p ↦ last-inside i b p ];
        named = λ i (b : i < n + 1). elim (dec_lt i n) [ yes p ↦ old-named i p | no p ↦ last-named i b p ];
      }
    where
      at_n : (i : ℕ) → i < n + 1 → (i < n → ⊥) → i ≡ n
      at_n i b p = omega (arith, b, p)

      last-inside : (i : ℕ) → i < n + 1 → (i < n → ⊥) → get_or put i 0 + (get_or put (64 + i) 0 + 1) ≤ length text
      last-inside i b p = subst (λ (k : ℕ). get_or put k 0 + (get_or put (64 + k) 0 + 1) ≤ length text) (inv (at_n i b p)) (omega (arith, start-new, len_new, l))

      old-named : (i : ℕ) → i < n → word text (get_or put i 0) (get_or put (64 + i) 0 + 1) ≡ get_or (names ++ (word text at len ∷ [])) i []
      old-named i p = rw (start-old i p, len_old i p) (h.named i p ∙ inv (get_d_front names (word text at len ∷ []) i (omega (arith, h.count, p))))

      last-named : (i : ℕ) → i < n + 1 → (i < n → ⊥) → word text (get_or put i 0) (get_or put (64 + i) 0 + 1) ≡ get_or (names ++ (word text at len ∷ [])) i []
      last-named i b p =
          subst (λ (k : ℕ). word text (get_or put k 0) (get_or put (64 + k) 0 + 1) ≡ get_or (names ++ (word text at len ∷ [])) k []) (inv (at_n i b p))
          (rw (start-new, len_new) (inv (get_d_last names (word text at len) n (inv h.count))))

-- Words

pub lone-other : (w : List ℕ) → (length w ≡ 1 → ⊥) → false ≡ lone w
lone-other [] z = refl
lone-other (a ∷ []) z = absurd (z refl)
lone-other (a ∷ b ∷ w) z = cases (eqb a 95) (λ t. rw t refl) (λ t. rw t refl)

pub lone-at : (text : List ℕ) (at len : ℕ) → at + len ≤ length text → len ≡ 1 → eqb (get_or text at 0) 95 ≡ lone (word text at len)
lone-at text at len l e = subst (λ (k : ℕ). eqb (get_or text at 0) 95 ≡ lone (word text at k)) (inv e) (there text at (omega (arith, l, e)))
  where
    there : (text : List ℕ) (at : ℕ) → at + 1 ≤ length text → eqb (get_or text at 0) 95 ≡ lone (word text at 1)
    there [] at l = absurd (omega arith)
    there (x ∷ text) zero l = cases (eqb x 95) (λ t. rw t refl) (λ t. rw t refl)
    there (x ∷ text) (suc at) l = there text at (omega arith)

pub other-long : (v w : List ℕ) (m n : ℕ) → length v ≡ m → length w ≡ n → (m ≡ n → ⊥) → false ≡ same_name v w
other-long v w m n e f z = cases (same_name v w) (λ t. absurd (z (inv e ∙ ap length (same_true v w t) ∙ f))) (λ t. inv t)

pub word-long : (text : List ℕ) (at len : ℕ) → at + len ≤ length text → length (word text at len) ≡ len
word-long text at len l = length-take-le len (drop at text) (omega (arith, length-drop at text))

pub found-more : (w : List ℕ) (names : List (List ℕ)) (i : ℕ) → ((j : ℕ) → j < i → same_name w (get_or names j []) ≡ false) → same_name w (get_or names i []) ≡ false → (j : ℕ) → j < i + 1 → same_name w (get_or names j []) ≡ false
found-more w names i f t j l = elim (dec_lt j i) [ yes h ↦ f j h | no h ↦ let e : j ≡ i = omega arith in rw e t ]

pub number-lone : (names : List (List ℕ)) (w : List ℕ) (n : ℕ) → length names ≡ n → lone w ≡ true → n ≡ variable_number names w
number-lone names w n e t = rw t (inv e)

-- what is found, or the count where it is new
pub unwrapped : {r : ℕ} (f : Option ℕ) (place n : ℕ) → r ≡ unwrap_or f n → IsPlace f place n → r ≡ place
unwrapped (Some i) place n e p = e ∙ p.0
unwrapped None place n e p = e ∙ p

pub number-found : (names : List (List ℕ)) (w : List ℕ) (r : ℕ) → r ≡ place w names → lone w ≡ false → r ≡ variable_number names w
number-found names w r e t = rw t e

pub same-there : (text : List ℕ) (at len b start m : ℕ) (r : Bool) → r ≡ same_name (word text at len) (word text b len) → b ≡ start → len ≡ m → r ≡ same_name (word text at len) (word text start m)
same-there text at len b start m r e f g = e ∙ ap₂ (λ (x y : ℕ). same_name (word text at len) (word text x y)) f g
