-- The query's words, and again behind them: a row whose answer is the query.
use Prim.Native.Nat.{ℕ, suc, ◌+◌, ◌≤◌, ◌<◌}
use native.Mathlib.Omega.{arith}
use mathlib.Core.Path.{◌≡◌, refl, sym as inv, ap, ap₂, ◌∙◌, subst}
use mathlib.Core.List.{List, ◌∷◌, ◌++◌, append_assoc}
use lib.ListN.{length, get_or, set, take, drop, length-append, take-append-drop}
use lib.Seq.{take-suc, drop-cons, append_snoc, set_at, get_or-take, drop_at, take_at, length-take-le}
use Rattle.search.specs.Next.{Goal}
use Rattle.words.specs.Held.{FormulasIn, GoalIn, RowIn}
use Rattle.words.specs.WordLaws.{fits_more}

-- none yet
pub repeat_none : (r : List ℕ) (n : ℕ) → r ≡ take n r ++ (take 0 r ++ drop (n + 0) r)
repeat_none r n = let e : n ≡ n + 0 = omega arith in inv (take-append-drop n r) ∙ ap (λ k. take n r ++ drop k r) e

-- one word more
module _ (r x : List ℕ) (n i : ℕ) (room : n + n ≤ length r) (l : i < n) (e : x ≡ take n r ++ (take i r ++ drop (n + i) r)) where
  same : get_or x i 0 ≡ get_or r i 0
  same = inv (get_or-take n x i 0 l) ∙ ap (λ t. get_or t i 0) (ap (take n) e ∙ take_at (take n r) (take i r ++ drop (n + i) r) n (length-take-le n r (omega arith))) ∙ get_or-take n r i 0 l

  before : length (take n r ++ take i r) ≡ n + i
  before = omega (arith, length-append (take n r) (take i r), length-take-le n r (omega arith), length-take-le i r (omega arith))

  one : suc i ≡ i + 1
  one = omega arith

  next : suc (n + i) ≡ n + (i + 1)
  next = omega arith

  pub repeat_more : set x (n + i) (get_or x i 0) ≡ take n r ++ (take (i + 1) r ++ drop (n + (i + 1)) r)
  repeat_more =
      ap (set x (n + i)) same
      ∙ ap (λ t. set t (n + i) (get_or r i 0)) (e ∙ inv (append_assoc (take n r) (take i r) (drop (n + i) r)) ∙ ap (λ t. (take n r ++ take i r) ++ t) (drop-cons r (n + i) 0 (omega arith)))
      ∙ set_at (take n r ++ take i r) (get_or r (n + i) 0) (drop (suc (n + i)) r) (get_or r i 0) (n + i) before
      ∙ append_assoc (take n r) (take i r) (get_or r i 0 ∷ drop (suc (n + i)) r)
      ∙ ap (λ t. take n r ++ t) (inv (append_snoc (take i r) (get_or r i 0) (drop (suc (n + i)) r)) ∙ ap₂ (λ t k. t ++ drop k r) (inv (take-suc r i 0 (omega arith)) ∙ ap (λ k. take k r) one) next)

-- all of them
pub repeated : (r x : List ℕ) (n : ℕ) → n + n ≤ length r → x ≡ take n r ++ (take n r ++ drop (n + n) r) → take (n + n) x ≡ take n r ++ take n r
repeated r x n room e =
    ap (take (n + n)) (e ∙ inv (append_assoc (take n r) (take n r) (drop (n + n) r)))
    ∙ take_at (take n r ++ take n r) (drop (n + n) r) (n + n) (omega (arith, length-append (take n r) (take n r), length-take-le n r (omega arith)))

-- a goal is an answer too
as_answer : {w : List ℕ} {n : ℕ} {g : Goal} → GoalIn w n g → FormulasIn 8192 w (length g) g
as_answer {w} h = record { formulas = h.formulas; atoms = h.atoms; is = h.is; count = refl; few = omega (arith, h.few, h.count); fit = fits_more 4096 8192 w (omega arith) h.fit; size = h.size }

-- the row
pub opened_twice : (r x : List ℕ) (n m : ℕ) (q : Goal) → n ≤ length r → take (n + n) x ≡ take n r ++ take n r → GoalIn (take n r) m q → RowIn (take (n + n) x) n m q q
opened_twice r x n m q l e h =
    let long = length-take-le n r l in
    subst (λ w. RowIn w n m q q) (inv e) (record {
      goal = subst (λ w. GoalIn w m q) (inv (take_at (take n r) (take n r) n long)) h;
      answer = subst (λ w. FormulasIn 8192 w (length q) q) (inv (drop_at (take n r) (take n r) n long)) (as_answer h);
      within = omega (arith, length-append (take n r) (take n r), long);
    })
