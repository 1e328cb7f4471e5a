-- Along a list: up to a number, and from a clause to the next.
use Prim.Native.Nat.{ℕ, suc, ◌%◌, ◌≤◌, ◌<◌}
use native.Mathlib.Omega.{arith}
use native.Mathlib.Decide.{ℕ_discrete, dec_lt}
use mathlib.Core.Path.{◌≡◌, sym as inv, ap, ◌∙◌}
use mathlib.Core.List.{List}
use lib.ListN.{length, get_or}
use Rattle.search.specs.Next.{Book}
use Rattle.words.specs.Columns.{every}
use Rattle.words.specs.Held.{starts, key, BookOn}
use Rattle.words.specs.Linked.{Nearest}
use Rattle.words.specs.Lists.{head_word, OnList, Found}

-- on the list h, and from `from` on nothing of it is passed
pub record Approaching (n : ℕ) (keys : ℕ → ℕ) (h from i : ℕ) : Type 0 where
  pub here : i < n → keys i ≡ h
  pub none : (m : ℕ) → from ≤ m → m < i → m < n → keys m ≡ h → ⊥

module _ {n : ℕ} {keys : ℕ → ℕ} {h from i : ℕ} where
  pub approach : Nearest n keys h 0 i → Approaching n keys h from i
  approach p = record { here = p.here; none = λ m a. p.none m (omega arith) }

  module _ (p : Approaching n keys h from i) where
    pub nearer : i < from → i < n → {j : ℕ} → Nearest n keys (keys i) (suc i) j → Approaching n keys h from j
    nearer a l q = record { here = λ b. q.here b ∙ p.here l; none = λ m b c d e. q.none m (omega arith) c d (e ∙ inv (p.here l)) }

    pub arrived : from ≤ i → Nearest n keys h from i
    arrived a = record { low = a; here = p.here; none = p.none }

-- on the list of u, and no head from `from` on that is passed begins with u
pub record Going (book shelf : List ℕ) (P : Book) (u from i : ℕ) : Type 0 where
  pub low : from ≤ i
  pub here : i < length P → key book (starts (length P) shelf) i ≡ u % 256
  pub other : (j : ℕ) → from ≤ j → j < i → j < length P → head_word book shelf (length P) j ≡ u → ⊥

module _ {book shelf : List ℕ} {P : Book} {u from i : ℕ} where
  pub going : OnList book shelf P (u % 256) from i → Going book shelf P u from i
  going p = record { low = p.low; here = p.here; other = λ j a b c e. p.none j a b c (ap (λ w. w % 256) e) }

  module _ (p : Going book shelf P u from i) where
    pub going_on : i < length P → (head_word book shelf (length P) i ≡ u → ⊥) → {r : ℕ} → OnList book shelf P (key book (starts (length P) shelf) i) (suc i) r → Going book shelf P u from r
    going_on l d q = record {
      low = omega (arith, p.low, q.low);
      here = λ b. q.here b ∙ p.here l;
      other = λ j a b c e. elim (ℕ_discrete j i) [
        | yes y ↦ d (inv (ap (head_word book shelf (length P)) y) ∙ e)
        | no y ↦ elim (dec_lt j i) [ yes z ↦ p.other j a z c e | no z ↦ q.none j (omega arith) b c (ap (λ w. w % 256) e ∙ inv (p.here l)) ]
      ];
    }

    pub found : i < length P → head_word book shelf (length P) i ≡ u → Found book shelf P u from i
    found l e = record { low = p.low; high = omega arith; here = λ _. e; other = λ j a b. p.other j a b (omega arith) }

    pub none_found : from ≤ length P → length P ≤ i → (all : ℕ) → all ≡ length P → Found book shelf P u from all
    none_found a l all e = rw e (record { low = a; high = omega arith; here = λ b. absurd (omega arith); other = λ j b c. p.other j b (omega arith) c })

-- the word at the start that was read
module _ {book shelf : List ℕ} {P : Book} (o : BookOn book shelf P) (i s : ℕ) (l : i < length P) (es : (n : ℕ) → i < n → s ≡ get_or (every 4 256 n shelf) i 0) where
  pub start-inside : s < length book
  start-inside = let d = o.held.placed i l in omega (arith, es (suc (length P)) (omega (arith, l)), d.begins, d.ends, d.within)

  pub head_read : {w : ℕ} → w ≡ get_or book s 0 → head_word book shelf (length P) i ≡ w
  head_read e = inv (e ∙ ap (λ x. get_or book x 0) (es (suc (length P)) (omega (arith, l))))
