-- A table with one name more.
use Prim.Native.Nat.{ℕ, zero, suc, ◌+◌, ◌≤◌, ◌<◌}
use mathlib.Core.Path.{◌≡◌, refl, sym as inv, ap, ap₂, ◌∙◌}
use mathlib.Core.Logic.{◌⊎◌, inl, inr}
use mathlib.Core.List.{List, [], ◌∷◌, ◌++◌}
use native.Mathlib.Omega.{arith}
use native.Mathlib.Decide.{dec_lt, ℕ_discrete}
use borrow.Author.Tests.{eq-eqb, ne_eqb}
use lib.Dec.{eqb}
use lib.ListN.{length, get_or, set, length-append, get_or-append}
use lib.Seq.{get_or-set_same, get_or-set_other, get_or_at}
use Rattle.terms.specs.When.{◌⇒◌∣◌}
use Rattle.terms.specs.Cases.{cases}
use Rattle.grammar.specs.NameLaws.{same_refl}
use Rattle.grammar.specs.Names.{same_name, place}
use Rattle.nametable.specs.Table.{word, hash, latest, Entries, Chains}

place-before : (w : List ℕ) (l : List (List ℕ)) (i : ℕ) → i < length l → get_or l i [] ≡ w → place w l ≤ i
place-before w [] i h e = absurd (omega arith)
place-before w (v ∷ l) zero h e = rw (ap (λ (u : List ℕ). same_name w u) e ∙ same_refl w) (omega arith)
place-before w (v ∷ l) (suc i) h e = cases (same_name w v) (λ t. rw t (omega arith)) (λ t. rw t (omega (arith, place-before w l i (omega arith) e)))

module _ (names : List (List ℕ)) (w : List ℕ) where
  kept : (i : ℕ) → i < length names → get_or (names ++ (w ∷ [])) i [] ≡ get_or names i []
  kept i h = get_or-append names (w ∷ []) [] i h

  added : (i : ℕ) → length names ≡ i → get_or (names ++ (w ∷ [])) i [] ≡ w
  added i h = get_or_at names w [] [] i h

  latest-stays : (h m : ℕ) → m ≤ length names → latest (names ++ (w ∷ [])) m h ≡ latest names m h
  latest-stays h zero l = refl
  latest-stays h (suc m) l = ap₂ (λ (v : List ℕ) (k : ℕ). eqb (hash v) h ⇒ suc m ∣ k) (kept m l) (latest-stays h m (omega arith))

-- one place behind n others
under : (n i : ℕ) → i < n + 1 → (i < n) ⊎ (i ≡ n)
under n i h = elim (dec_lt i n) [ yes l ↦ inl l | no l ↦ inr (omega arith) ]

module _ (text starts lens : List ℕ) (names : List (List ℕ)) (n at len : ℕ) (t : Entries text starts lens names n) (rs : n < length starts) (rl : n < length lens)
    (fits : at + len ≤ length text) (new : n ≡ place (word text at len) names) where
  abbrev w : List ℕ
  w = word text at len

  one_inside : (i : ℕ) → (i < n) ⊎ (i ≡ n) → get_or (set starts n at) i 0 + get_or (set lens n len) i 0 ≤ length text
  one_inside i (inl l) = rw (get_or-set_other starts n i at 0 (λ (q : i ≡ n). omega arith), get_or-set_other lens n i len 0 (λ (q : i ≡ n). omega arith)) (t.inside i l)
  one_inside i (inr e) = rw (e, get_or-set_same starts n at 0 rs, get_or-set_same lens n len 0 rl) fits

  one-named : (i : ℕ) → (i < n) ⊎ (i ≡ n) → word text (get_or (set starts n at) i 0) (get_or (set lens n len) i 0) ≡ get_or (names ++ (w ∷ [])) i []
  one-named i (inl l) =
      rw (get_or-set_other starts n i at 0 (λ (q : i ≡ n). omega arith), get_or-set_other lens n i len 0 (λ (q : i ≡ n). omega arith))
      (t.named i l ∙ inv (kept names w i (omega (arith, t.count))))
  one-named i (inr e) = rw (e, get_or-set_same starts n at 0 rs, get_or-set_same lens n len 0 rl) (inv (added names w n t.count))

  one-distinct : (i j : ℕ) → i < j → (j < n) ⊎ (j ≡ n) → get_or (names ++ (w ∷ [])) i [] ≡ get_or (names ++ (w ∷ [])) j [] → ⊥
  one-distinct i j l (inl h) d = t.distinct i j l h (inv (kept names w i (omega (arith, t.count))) ∙ d ∙ kept names w j (omega (arith, t.count)))
  one-distinct i j l (inr h) d =
      let q : get_or names i [] ≡ w = inv (kept names w i (omega (arith, t.count))) ∙ d ∙ added names w j (t.count ∙ inv h) in
      omega (arith, new, place-before w names i (omega (arith, t.count)) q)

  pub one_entry : Entries text (set starts n at) (set lens n len) (names ++ (w ∷ [])) (n + 1)
  one_entry =
      record {
        count = omega (arith, length-append names (w ∷ []), t.count);
        inside = λ i l. one_inside i (under n i l);
        named = λ i l. one-named i (under n i l);
        distinct = λ i j l k. one-distinct i j l (under n j k);
      }

module _ (heads nexts : List ℕ) (names : List (List ℕ)) (n h : ℕ) (w : List ℕ) (count : length names ≡ n) (c : Chains heads nexts names n) (rh : length heads ≡ 4096)
    (rn : n < length nexts) (is : h ≡ hash w) (low : h < 4096) where
  last_of : (k : ℕ) → latest (names ++ (w ∷ [])) (suc n) k ≡ (eqb (hash w) k ⇒ suc n ∣ latest names n k)
  last_of k = ap₂ (λ (v : List ℕ) (m : ℕ). eqb (hash v) k ⇒ suc n ∣ m) (added names w n count) (latest-stays names w k n (omega arith))

  one-begins : (k : ℕ) → k < 4096 → get_or (set heads h (n + 1)) k 0 ≡ latest (names ++ (w ∷ [])) (n + 1) k
  one-begins k l =
      rw (let q : n + 1 ≡ suc n = omega arith in q)
      (elim (ℕ_discrete k h) [
        | yes e ↦ rw e (get_or-set_same heads h (suc n) 0 (omega arith) ∙ inv (last_of h ∙ rw (eq-eqb (hash w) h (inv is))))
        | no e ↦ get_or-set_other heads h k (suc n) 0 e ∙ c.begins k l ∙ inv (last_of k ∙ rw (ne_eqb (hash w) k (λ d. e (inv d ∙ inv is))))
      ])

  one-goes : (i : ℕ) → (i < n) ⊎ (i ≡ n) → get_or (set nexts n (get_or heads h 0)) i 0 ≡ latest (names ++ (w ∷ [])) i (hash (get_or (names ++ (w ∷ [])) i []))
  one-goes i (inl l) =
      get_or-set_other nexts n i (get_or heads h 0) 0 (λ (q : i ≡ n). omega arith)
      ∙ c.goes_on i l
      ∙ inv (latest-stays names w (hash (get_or (names ++ (w ∷ [])) i [])) i (omega arith) ∙ ap (λ (v : List ℕ). latest names i (hash v)) (kept names w i (omega arith)))
  one-goes i (inr e) =
      rw e
      (get_or-set_same nexts n (get_or heads h 0) 0 rn
      ∙ c.begins h low
      ∙ ap (latest names n) is
      ∙ inv (latest-stays names w (hash (get_or (names ++ (w ∷ [])) n [])) n (omega arith) ∙ ap (λ (v : List ℕ). latest names n (hash v)) (added names w n count)))

  pub one-chain : Chains (set heads h (n + 1)) (set nexts n (get_or heads h 0)) (names ++ (w ∷ [])) (n + 1)
  one-chain = record { begins = one-begins; goes_on = λ i l. one-goes i (under n i l) }
