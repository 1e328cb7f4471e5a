-- The search along a chain finds the name, or shows that it is new.
use Prim.Native.Nat.{ℕ, zero, suc, ◌-◌, ◌≤◌, ◌<◌}
use mathlib.Core.Path.{◌≡◌, refl, sym as inv, ap, ◌∙◌}
use mathlib.Core.Bool.{Bool, true, false}
use mathlib.Core.List.{List, [], ◌∷◌}
use native.Mathlib.Omega.{arith}
use native.Mathlib.Decide.{dec_lt}
use borrow.Author.Tests.{eqb-true, eqb-false}
use lib.Dec.{eqb}
use lib.ListN.{length, get_or}
use Rattle.terms.specs.Cases.{cases}
use Rattle.grammar.specs.NameLaws.{same_true, same_refl}
use Rattle.grammar.specs.Names.{same_name, place}
use Rattle.nametable.specs.Table.{word, hash, latest, Entries, Table}

-- The last name of a hash

module _ (names : List (List ℕ)) (h : ℕ) where
  latest-low : (m : ℕ) → latest names m h ≤ m
  latest-low zero = omega arith
  latest-low (suc m) = cases (eqb (hash (get_or names m [])) h) (λ e. rw e (omega arith)) (λ e. rw e (omega (arith, latest-low m)))

  latest-past : (m j : ℕ) → latest names m h ≤ j → j < m → hash (get_or names j []) ≡ h → ⊥
  latest-past zero j l k e = omega arith
  latest-past (suc m) j l k e =
      cases (eqb (hash (get_or names m [])) h) (λ t. let q : suc m ≤ j = rw t at l in omega arith)
      (λ t.
      let q : latest names m h ≤ j = rw t at l in
      elim (dec_lt j m) [
        | yes d ↦ latest-past m j q d e
        | no d ↦ eqb-false (hash (get_or names m [])) h t (ap (λ (i : ℕ). hash (get_or names i [])) (let p : m ≡ j = omega arith in p) ∙ e)
      ])

  latest-hash : (m : ℕ) → 0 < latest names m h → hash (get_or names (latest names m h - 1) []) ≡ h
  latest-hash zero l = absurd (omega arith)
  latest-hash (suc m) l =
      cases (eqb (hash (get_or names m [])) h)
      (λ t. rw t (ap (λ (i : ℕ). hash (get_or names i [])) (let p : suc m - 1 ≡ m = omega arith in p) ∙ eqb-true (hash (get_or names m [])) h t))
      (λ t. rw t (latest-hash m (rw t at l)))

-- The search

-- e is where the chain goes on, counted from 1, or 0; no name from there on is w
pub record Searching (names : List (List ℕ)) (n : ℕ) (w : List ℕ) (e : ℕ) : Type 0 where
  pub below : e ≤ n
  pub none : (j : ℕ) → e ≤ j → j < n → get_or names j [] ≡ w → ⊥
  pub chain : 0 < e → hash (get_or names (e - 1) []) ≡ hash w

along : (names : List (List ℕ)) (n m : ℕ) (w : List ℕ) (e : ℕ) → m ≤ n → ((j : ℕ) → m ≤ j → j < n → get_or names j [] ≡ w → ⊥) → e ≡ latest names m (hash w) → Searching names n w e
along names n m w e h past q =
    rw q
    (let z : Searching names n w (latest names m (hash w)) =
    record {
      below = omega (arith, latest-low names (hash w) m);
      none = λ j l k d. elim (dec_lt j m) [ yes b ↦ latest-past names (hash w) m j l b (ap hash d) | no b ↦ past j (omega arith) k d ];
      chain = latest-hash names (hash w) m;
    } in
    z)

module _ {text starts lens heads nexts : List ℕ} {names : List (List ℕ)} {n : ℕ} (t : Table text starts lens heads nexts names n) (w : List ℕ) where
  pub search-start : (h e : ℕ) → h ≡ hash w → h < 4096 → e ≡ get_or heads h 0 → Searching names n w e
  search-start h e p l q = along names n n w e (omega arith) (λ j a b d. omega arith) (q ∙ t.chains.begins h l ∙ ap (latest names n) p)

  -- the name before the chain's place is another
  pub search-step : (e e' : ℕ) → Searching names n w e → 0 < e → (get_or names (e - 1) [] ≡ w → ⊥) → e' ≡ get_or nexts (e - 1) 0 → Searching names n w e'
  search-step e e' s l d q =
      along names n (e - 1) w e' (omega (arith, s.below))
      (λ j a b p. elim (dec_lt j e) [ yes c ↦ d (ap (λ (i : ℕ). get_or names i []) (let z : e - 1 ≡ j = omega arith in z) ∙ p) | no c ↦ s.none j (omega arith) b p ])
      (q ∙ t.chains.goes_on (e - 1) (omega (arith, s.below)) ∙ ap (latest names (e - 1)) (s.chain l))

  -- the chain goes down
  pub search-less : (e e' : ℕ) → Searching names n w e → 0 < e → e' ≡ get_or nexts (e - 1) 0 → e' < e
  search-less e e' s l q =
      omega (arith, q, t.chains.goes_on (e - 1) (omega (arith, s.below)), latest-low names (hash (get_or names (e - 1) [])) (e - 1))

place_is : (w : List ℕ) (l : List (List ℕ)) (i : ℕ) → i < length l → get_or l i [] ≡ w → ((j : ℕ) → j < i → get_or l j [] ≡ w → ⊥) → place w l ≡ i
place_is w [] i h e d = absurd (omega arith)
place_is w (v ∷ l) zero h e d = rw (ap (λ (u : List ℕ). same_name w u) e ∙ same_refl w)
place_is w (v ∷ l) (suc i) h e d =
    cases (same_name w v) (λ t. absurd (d 0 (omega arith) (inv (same_true w v t))))
    (λ t. rw t (ap suc (place_is w l i (omega arith) e (λ j k q. d (suc j) (omega arith) q))))

place_none : (w : List ℕ) (l : List (List ℕ)) → ((j : ℕ) → j < length l → get_or l j [] ≡ w → ⊥) → place w l ≡ length l
place_none w [] d = refl
place_none w (v ∷ l) d =
    cases (same_name w v) (λ t. absurd (d 0 (omega arith) (inv (same_true w v t))))
    (λ t. rw t (ap suc (place_none w l (λ j k q. d (suc j) (omega arith) q))))

module _ {text starts lens : List ℕ} {names : List (List ℕ)} {n : ℕ} (t : Entries text starts lens names n) (w : List ℕ) where
  pub search-found : (i : ℕ) → i < n → get_or names i [] ≡ w → i ≡ place w names
  search-found i l e = inv (place_is w names i (omega (arith, t.count)) e (λ j k q. t.distinct j i k l (q ∙ inv e)))

  pub search-ended : (e : ℕ) → Searching names n w e → e ≤ 0 → n ≡ place w names
  search-ended e s l = inv t.count ∙ inv (place_none w names (λ j k q. s.none j (omega arith) (omega (arith, t.count)) q))

-- what a comparison with a name of the table says
module _ {text starts lens : List ℕ} {names : List (List ℕ)} {n : ℕ} (t : Entries text starts lens names n) (at len i : ℕ) (b : Bool)
    (q : b ≡ same_name (word text (get_or starts i 0) (get_or lens i 0)) (word text at len)) (l : i < n) where
  pub is_that : b ≡ true → get_or names i [] ≡ word text at len
  is_that e = inv (t.named i l) ∙ same_true (word text (get_or starts i 0) (get_or lens i 0)) (word text at len) (inv q ∙ e)

  pub is-other : b ≡ false → get_or names i [] ≡ word text at len → ⊥
  is-other e d =
      let r : same_name (word text (get_or starts i 0) (get_or lens i 0)) (word text at len) ≡ true =
      ap (λ (v : List ℕ). same_name v (word text at len)) (t.named i l ∙ d) ∙ same_refl (word text at len) in
      let z : ◌≡◌ {A = ℕ} 0 1 = cc in
      omega arith
