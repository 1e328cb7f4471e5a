-- A book that is numbered as C-13 would: its printed text gives its symbols the numbers that they have.
use Rattle.std.specs.Prelude.{ℕ, suc, ◌≤◌, ◌<◌, ◌≡◌, refl, ◌⊎◌, true, false, List, [], ◌∷◌, ◌++◌, map, ltb, length}
use Rattle.std.proofs.Common.{sym as inv, ap, ◌∙◌, subst, inl, inr, arith, length-append, ltb-true, ltb-false}
use Rattle.terms.specs.Cases.{cases}
use Rattle.terms.specs.When.{◌⇒◌∣◌}
use Rattle.terms.specs.Node.{var, sym, Expr}
use Rattle.format.specs.Reading.{next_unused}
use Rattle.format.proofs.Numbering.{unused-same, unused-other}
use Rattle.grammar.specs.Syntax.{Rule}
use Rattle.grammar.specs.Names.{Sort, Constant, Compound, Predicate, Spot, variable_spot, symbol_spot, place, within, grow, is_sort, names_after, with_variable, numbered, symbol_for, clause, rule_spots, text_spots}
use Rattle.grammar.specs.NameLaws.{same_refl, place-within, flat-numbered}
use Rattle.grammar.specs.GrowLaws.{place_after, within-after, within_grown, is-sort_self}
use Rattle.printing.specs.Named.{Naming}
use Rattle.printing.specs.NamedLaws.{spots}
use Rattle.printing.specs.FirstLaws.{place-back, names_below, is_below, follows}
use Rattle.printing.specs.Renumbered.{Uses, book_nodes}
use Rattle.printing.proofs.UseLaws.{spot-names}

-- e has the spots' symbols, numbered by a table of names; its variables are any
pub data Coded (table : Sort → List (List ℕ)) : List Spot → Expr → Type 0 where
  coded_none : Coded table [] []
  coded_variable : {w : List ℕ} {v : ℕ} {e₀ : List Spot} {e : Expr} → Coded table e₀ e → Coded table (variable_spot w ∷ e₀) (var v ∷ e)
  coded_symbol : {j : Sort} {w : List ℕ} {a : ℕ} {e₀ : List Spot} {e : Expr} → Coded table e₀ e → Coded table (symbol_spot j w a ∷ e₀) (sym (symbol_for j (place w (table j)) a) ∷ e)

module _ (table : Sort → List (List ℕ)) where
  coded-append : {d₀ e₀ : List Spot} {d e : Expr} → Coded table d₀ d → Coded table e₀ e → Coded table (d₀ ++ e₀) (d ++ e)
  coded-append coded_none q = q
  coded-append (coded_variable p) q = coded_variable (coded-append p q)
  coded-append (coded_symbol p) q = coded_symbol (coded-append p q)

  numbered-coded : (seen : List (List ℕ)) (e₀ : List Spot) → Coded table e₀ (numbered table seen e₀)
  numbered-coded seen [] = coded_none
  numbered-coded seen (variable_spot w ∷ e₀) = coded_variable (numbered-coded (with_variable seen w) e₀)
  numbered-coded seen (symbol_spot j w a ∷ e₀) = coded_symbol (numbered-coded seen e₀)

  pub book-coded : (cs : List Rule) → Coded table (text_spots cs) (book_nodes (map (clause table) cs))
  book-coded [] = coded_none
  book-coded (c ∷ cs) =
      coded-append (subst (Coded table (rule_spots c)) (inv (flat-numbered table [] (c.head ∷ c.body))) (numbered-coded [] (rule_spots c))) (book-coded cs)

-- One sort

pub same-sort : (k j : Sort) → is_sort k j ≡ true → j ≡ k
same-sort Constant Constant e = refl
same-sort Constant Compound e = let z : ◌≡◌ {A = ℕ} 0 1 = cc in absurd (omega arith)
same-sort Constant Predicate e = let z : ◌≡◌ {A = ℕ} 0 1 = cc in absurd (omega arith)
same-sort Compound Constant e = let z : ◌≡◌ {A = ℕ} 0 1 = cc in absurd (omega arith)
same-sort Compound Compound e = refl
same-sort Compound Predicate e = let z : ◌≡◌ {A = ℕ} 0 1 = cc in absurd (omega arith)
same-sort Predicate Constant e = let z : ◌≡◌ {A = ℕ} 0 1 = cc in absurd (omega arith)
same-sort Predicate Compound e = let z : ◌≡◌ {A = ℕ} 0 1 = cc in absurd (omega arith)
same-sort Predicate Predicate e = refl

-- a name's place among those seen and itself
pub record Grown (seen : List (List ℕ)) (w : List ℕ) : Type 0 where
  pub low : place w (grow seen w) ≤ length seen
  pub next : length (grow seen w) ≡ next_unused (length seen) (place w (grow seen w))

place-new : (w : List ℕ) (l : List (List ℕ)) → within w l ≡ false → place w (l ++ (w ∷ [])) ≡ length l
place-new w l o = place-back w l (w ∷ []) o ∙ rw (same_refl w) (omega arith)

grown : (seen : List (List ℕ)) (w : List ℕ) → Grown seen w
grown seen w = cases (within w seen) old new
  where
    old : within w seen ≡ true → Grown seen w
    old t =
        let l = place-within w seen t in
        record { low = rw t (omega arith); next = rw t (inv (unused-other (length seen) (place w seen) (λ (e : place w seen ≡ length seen). omega arith))) }

    new : within w seen ≡ false → Grown seen w
    new t =
        let p = place-new w seen t in
        record {
          low = rw t (omega arith);
          next = rw t (let n : length (seen ++ (w ∷ [])) ≡ suc (length seen) = omega (arith, length-append seen (w ∷ [])) in n ∙ inv (unused-same (length seen) (place w (seen ++ (w ∷ []))) p));
        }

grow-more : (l : List (List ℕ)) (v : List ℕ) → length l ≤ length (grow l v)
grow-more l v = cases (within v l) (λ t. rw t (omega arith)) (λ t. rw t (omega (arith, length-append l (v ∷ []))))

names_more : (k : Sort) (seen : List (List ℕ)) (e : List Spot) → length seen ≤ length (names_after k seen e)
names_more k seen [] = omega arith
names_more k seen (variable_spot w ∷ e) = names_more k seen e
names_more k seen (symbol_spot j w n ∷ e) =
    cases (is_sort k j)
    (λ t. rw t (omega (arith, grow-more seen w, names_more k (grow seen w) e)))
    (λ t. rw t (names_more k seen e))

pub symbol-same : (j k : Sort) (m n a b : ℕ) → sym (symbol_for j m a) ≡ sym (symbol_for k n b) → (j ≡ k) × (m ≡ n)
symbol-same Constant Constant m n a b e = (refl, cc)
symbol-same Constant Compound m n a b e = let z : ◌≡◌ {A = ℕ} 0 1 = cc in absurd (omega arith)
symbol-same Constant Predicate m n a b e = let z : ◌≡◌ {A = ℕ} 0 1 = cc in absurd (omega arith)
symbol-same Compound Constant m n a b e = let z : ◌≡◌ {A = ℕ} 0 1 = cc in absurd (omega arith)
symbol-same Compound Compound m n a b e = (refl, cc)
symbol-same Compound Predicate m n a b e = let z : ◌≡◌ {A = ℕ} 0 1 = cc in absurd (omega arith)
symbol-same Predicate Constant m n a b e = let z : ◌≡◌ {A = ℕ} 0 1 = cc in absurd (omega arith)
symbol-same Predicate Compound m n a b e = let z : ◌≡◌ {A = ℕ} 0 1 = cc in absurd (omega arith)
symbol-same Predicate Predicate m n a b e = (refl, cc)

module _ (k : Sort) (table : Sort → List (List ℕ)) where
  -- what one more symbol of the sort comes to
  record Taken (seen : List (List ℕ)) (w : List ℕ) : Type 0 where
    at : place w (table k) ≡ place w (grow seen w)
    low : place w (table k) < length (table k)

  taken : (seen : List (List ℕ)) (w : List ℕ) (e₀ : List Spot) → table k ≡ names_after k (grow seen w) e₀ → Taken seen w
  taken seen w e₀ t =
      let i = within_grown w seen in
      record {
        at = ap (place w) t ∙ place_after k w (grow seen w) e₀ i;
        low = place-within w (table k) (ap (within w) t ∙ within-after k w (grow seen w) e₀ i);
      }

  -- each symbol of the sort that is used has a number of the table
  pub used_low : (n : ℕ) (seen : List (List ℕ)) {e₀ : List Spot} {e : Expr} → Coded table e₀ e → table k ≡ names_after k seen e₀ → Uses k n e → n < length (table k)
  used_low n seen coded_none t u = absurd u
  used_low n seen (coded_variable c) t (inl (a, p)) = let z : ◌≡◌ {A = ℕ} 0 1 = cc in absurd (omega arith)
  used_low n seen (coded_variable c) t (inr u) = used_low n seen c t u
  used_low n seen (coded_symbol {j} {w} {a} {e₀} c) t (inl (b, p)) =
      let s = symbol-same j k (place w (table j)) n a b p in
      let q : place w (table k) ≡ n = rw s.0 at s.1 in
      let i : is_sort k j ≡ true = rw s.0 (is-sort_self k) in
      omega (arith, (taken seen w e₀ (rw i at t)).low)
  used_low n seen (coded_symbol {j} {w} {a} {e₀} c) t (inr u) = used_low n (is_sort k j ⇒ grow seen w ∣ seen) c t u

  -- and each number of the table is used
  pub all-used : (n : ℕ) (seen : List (List ℕ)) {e₀ : List Spot} {e : Expr} → Coded table e₀ e → table k ≡ names_after k seen e₀ → n < length (table k) → (n < length seen) ⊎ Uses k n e
  all-used n seen coded_none t l = inl (omega (arith, ap length t))
  all-used n seen (coded_variable c) t l = elim (all-used n seen c t l) [ inl h ↦ inl h | inr u ↦ inr (inr u) ]
  all-used n seen (coded_symbol {j} {w} {a} {e₀} {e} c) t l = go (all-used n (is_sort k j ⇒ grow seen w ∣ seen) c t l)
    where
      X : Type 0
      X = (n < length seen) ⊎ Uses k n (sym (symbol_for j (place w (table j)) a) ∷ e)

      new : is_sort k j ≡ true → n < length (grow seen w) → X
      new i h =
          cases (within w seen) (λ f. inl (rw f at h))
          (λ f.
          cases (ltb n (length seen)) (λ q. inl (ltb-true n (length seen) q))
          (λ q.
          let y : place w (table k) ≡ place w (seen ++ (w ∷ [])) = rw f at (taken seen w e₀ (rw i at t)).at in
          let l : n < length (seen ++ (w ∷ [])) = rw f at h in
          let r : place w (table k) ≡ n = omega (arith, y, l, place-new w seen f, ltb-false n (length seen) q, length-append seen (w ∷ [])) in
          inr (inl (a, ap (λ (s : Sort). sym (symbol_for s (place w (table s)) a)) (same-sort k j i) ∙ ap (λ (m : ℕ). sym (symbol_for k m a)) r))))

      go : (n < length (is_sort k j ⇒ grow seen w ∣ seen)) ⊎ Uses k n e → X
      go (inr u) = inr (inr u)
      go (inl h) = cases (is_sort k j) (λ i. new i (rw i at h)) (λ i. inl (rw i at h))

  -- named one to one, they have the places that are their numbers
  module _ (name : Naming) (one : (v w : ℕ) → v < length (table k) → w < length (table k) → name k v ≡ name k w → v ≡ w) where
    pub same_names : (seen : List (List ℕ)) {e₀ : List Spot} {e : Expr} → Coded table e₀ e → table k ≡ names_after k seen e₀ →
        names_after k (names_below (name k) (length seen)) (spots name e) ≡ names_below (name k) (length (table k))
    same_names seen coded_none t = ap (λ (l : List (List ℕ)). names_below (name k) (length l)) (inv t)
    same_names seen (coded_variable c) t = same_names seen c t
    same_names seen (coded_symbol {j} {w} {a} {e₀} {e} c) t =
        spot-names k name (names_below (name k) (length seen)) j (place w (table j)) a e
        ∙ cases (is_sort k j) (λ i. rw i (ap (λ (l : List (List ℕ)). names_after k l (spots name e)) (step i) ∙ same_names (grow seen w) c (rw i at t))) (λ i. rw i (same_names seen c (rw i at t)))
      where
        step : is_sort k j ≡ true → grow (names_below (name k) (length seen)) (name j (place w (table j))) ≡ names_below (name k) (length (grow seen w))
        step i =
            let y = taken seen w e₀ (rw i at t) in
            let g = grown seen w in
            let m = names_more k (grow seen w) e₀ in
            let n : length (table k) ≡ length (names_after k (grow seen w) e₀) = ap length (rw i at t) in
            let f = follows (name k) (λ v. v < length (table k)) one (place w (table k)) y.low (length seen) (λ v l. omega (arith, grow-more seen w)) (omega (arith, y.at, g.low)) in
            ap (λ (s : Sort). grow (names_below (name k) (length seen)) (name s (place w (table s)))) (same-sort k j i)
            ∙ f.seen ∙ ap (names_below (name k)) (ap (next_unused (length seen)) y.at ∙ inv g.next)

    pub place-stays : (n : ℕ) → n < length (table k) → place (name k n) (names_below (name k) (length (table k))) ≡ n
    place-stays n l = (is_below (name k) (λ v. v < length (table k)) one n l (length (table k)) (λ v q. q) l).at
