-- Lists by key (document 02, C-22): for each key the first number that has it, and for each number the next one with the same key.
use Prim.Native.Nat.{ℕ, zero, suc, ◌+◌, ◌≤◌, ◌<◌}
use Rattle.std.proofs.Common.{arith, sym as inv, ap, ◌∙◌, subst}
use Rattle.std.proofs.Math.Decide.{ℕ_discrete, dec_lt}
use Rattle.std.specs.Prelude.{◌≡◌, List, [], ◌∷◌, eqb, ltb}
use Rattle.std.proofs.Math.Path.{refl}
use borrow.Author.Tests.{lt-ltb, le-ltb, eq-eqb, ne_eqb}
use Rattle.terms.specs.When.{◌⇒◌∣◌}

-- of the numbers below n, j is the first from i on whose key is h; where there is none, j is past them
pub record Nearest (n : ℕ) (key : ℕ → ℕ) (h i j : ℕ) : Type 0 where
  pub low : i ≤ j
  pub here : j < n → key j ≡ h
  pub none : (m : ℕ) → i ≤ m → m < j → m < n → key m ≡ h → ⊥

-- the lists of the numbers from i on that are below n: where each starts, and what follows each number
pub record Linked (n i : ℕ) (key first next : ℕ → ℕ) : Type 0 where
  pub start : (h : ℕ) → h < 256 → Nearest n key h i (first h)
  pub more : (j : ℕ) → i ≤ j → j < n → Nearest n key (key j) (suc j) (next j)

-- What is met along a list is the numbers with its key, in order, and none is left out.

-- at most k numbers, from j on
unfoldable pub along : ℕ → ℕ → (ℕ → ℕ) → ℕ → List ℕ
along zero n next j = []
along (suc k) n next j = ltb j n ⇒ j ∷ along k n next (next j) ∣ []

-- of i, .., i + k - 1 those whose key is h
unfoldable pub having : ℕ → (ℕ → ℕ) → ℕ → ℕ → List ℕ
having zero key h i = []
having (suc k) key h i = eqb (key i) h ⇒ i ∷ having k key h (suc i) ∣ having k key h (suc i)

module _ {n : ℕ} {key : ℕ → ℕ} {h i j : ℕ} (p : Nearest n key h i j) (l : i < n) where
  is-here : key i ≡ h → j ≡ i
  is-here e = elim (dec_lt i j) [ yes q ↦ absurd (p.none i (omega arith) q l e) | no q ↦ omega (arith, p.low) ]

  later : (key i ≡ h → ⊥) → Nearest n key h (suc i) j
  later d = record {
    low = elim (ℕ_discrete i j) [ yes e ↦ absurd (d (ap key e ∙ p.here (omega arith))) | no q ↦ omega (arith, p.low) ];
    here = p.here;
    none = λ m a b. p.none m (omega arith) b;
  }

module _ {n : ℕ} {key first next : ℕ → ℕ} (l : Linked n 0 key first next) where
  -- from any number on
  pub list_is : (k fuel h i j : ℕ) → i + k ≡ n → k ≤ fuel → Nearest n key h i j → along fuel n next j ≡ having k key h i
  unfolding along having
  list_is zero zero h i j e q p = refl
  list_is zero (suc fuel) h i j e q p = rw (le-ltb j n (omega (arith, p.low))) refl
  list_is (suc k) zero h i j e q p = absurd (omega arith)
  list_is (suc k) (suc fuel) h i j e q p = elim (ℕ_discrete (key i) h) [
    | yes d ↦
        let s = is-here p (omega arith) d in
        rw (s, lt-ltb i n (omega arith), eq-eqb (key i) h d) (ap (λ t. i ∷ t)
        (list_is k fuel h (suc i) (next i) (omega arith) (omega arith) (subst (λ x. Nearest n key x (suc i) (next i)) d (l.more i (omega arith) (omega arith)))))
    | no d ↦ rw (ne_eqb (key i) h d) (list_is k (suc fuel) h (suc i) j (omega arith) (omega arith) (later p (omega arith) d))
  ]

  pub whole-list : (h : ℕ) → h < 256 → along n n next (first h) ≡ having n key h 0
  whole-list h b = list_is n n h 0 (first h) (omega arith) (omega arith) (l.start h b)

-- Fewer numbers, and other names for the same.

fewer : {n m : ℕ} {key : ℕ → ℕ} {h i j : ℕ} → m ≤ n → Nearest n key h i j → Nearest m key h i j
fewer e p = record { low = p.low; here = λ l. p.here (omega arith); none = λ x a b l. p.none x a b (omega arith) }

same_keys : {n : ℕ} {key key' : ℕ → ℕ} {h h' i j j' : ℕ} → ((x : ℕ) → x < n → key' x ≡ key x) → h' ≡ h → j' ≡ j → Nearest n key h i j → Nearest n key' h' i j'
same_keys {n} {key} {key'} k e f p = rw (e, f) (record { low = p.low; here = λ l. k _ l ∙ p.here l; none = λ x a b l d. p.none x a b l (inv (k x l) ∙ d) })

-- the lists of the first m numbers
pub cut-lists : {n m : ℕ} {key key' first first' next next' : ℕ → ℕ} → m ≤ n → ((x : ℕ) → x < m → key' x ≡ key x) → ((h : ℕ) → h < 256 → first' h ≡ first h) → ((x : ℕ) → x < m → next' x ≡ next x)
    → Linked n 0 key first next → Linked m 0 key' first' next'
cut-lists e k f g l = record {
  start = λ h b. same_keys k refl (f h b) (fewer e (l.start h b));
  more = λ j a b. same_keys k (k j b) (g j b) (fewer e (l.more j a (omega arith)));
}

-- no numbers yet
pub no-lists : {n : ℕ} {key first next : ℕ → ℕ} → ((h : ℕ) → h < 256 → first h ≡ n) → Linked n n key first next
no-lists f = record {
  start = λ h b. rw (f h b) (record { low = omega arith; here = λ l. absurd (omega arith); none = λ m a l. absurd (omega arith) });
  more = λ j a b. absurd (omega arith);
}

-- one number more, put before those of its key
module _ {n i : ℕ} {key first next first' next' : ℕ → ℕ} (l : Linked n (suc i) key first next) (b : i < n) (here : first' (key i) ≡ i) (others : (h : ℕ) → h < 256 → (h ≡ key i → ⊥) → first' h ≡ first h)
    (link : next' i ≡ first (key i)) (links : (j : ℕ) → (j ≡ i → ⊥) → next' j ≡ next j) (small : key i < 256) where
  earlier : (h j : ℕ) → Nearest n key h (suc i) j → (h ≡ key i → ⊥) → Nearest n key h i j
  earlier h j p d = record {
    low = omega (arith, p.low);
    here = p.here;
    none = λ m a q r e. elim (ℕ_discrete m i) [ yes y ↦ d (inv e ∙ ap key y) | no y ↦ p.none m (omega arith) q r e ];
  }

  pub one_more : Linked n i key first' next'
  one_more = record {
    start = λ h c. elim (ℕ_discrete h (key i)) [
      | yes e ↦ rw (e, here) (record { low = omega arith; here = λ _. refl; none = λ m a q. absurd (omega arith) })
      | no d ↦ rw (others h c d) (earlier h (first h) (l.start h c) d)
    ];
    more = λ j a c. elim (ℕ_discrete j i) [
      | yes e ↦ rw (e, link) (l.start (key i) small)
      | no d ↦ rw (links j d) (l.more j (omega arith) c)
    ];
  }
