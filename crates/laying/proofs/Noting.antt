-- One word more in the table.
use Prim.Native.Nat.{ℕ, zero, suc, ◌+◌, ◌-◌, ◌≤◌, ◌<◌}
use mathlib.Core.Path.{◌≡◌, refl, sym as inv, ap, ap₂, subst, ◌∙◌}
use mathlib.Core.Bool.{true, false}
use mathlib.Core.List.{List, [], ◌∷◌, ◌++◌, append_assoc}
use native.Mathlib.Omega.{arith}
use native.Mathlib.Decide.{dec_lt}
use lib.ListN.{length, get_or, set, length-append, length-set}
use lib.Seq.{get_or-set_same, get_or-set_other}
use Rattle.terms.specs.When.{◌⇒◌∣◌}
use Rattle.terms.specs.Cases.{cases}
use Rattle.grammar.specs.Names.{Spot}
use Rattle.grammar.specs.Query.{Given}
use Rattle.nametable.specs.Table.{word}
use Rattle.known.specs.declared.Known.{Known}
use Rattle.laying.specs.declared.Kind.{Kind}
use Rattle.laying.specs.declared.Draft.{Draft}
use Rattle.laying.specs.declared.Word.{Word}
use Rattle.laying.specs.Words.{base_of, own_of, given_of, with_one, list_of, words_of, spot_of, number_of, word_of, Words, Kept, Notes, Noted}
use Rattle.laying.proofs.Sorts.{same_kind, kind-same, words-known, words-new, own-more, apart, base-low, one-stays}

get_d_front : (l m : List (List ℕ)) (i : ℕ) → i < length l → get_or (l ++ m) i [] ≡ get_or l i []
get_d_front [] m i h = absurd (omega arith)
get_d_front (x ∷ l) m zero h = refl
get_d_front (x ∷ l) m (suc i) h = get_d_front l m i (omega arith)

get_d_last : (l : List (List ℕ)) (w : List ℕ) (i : ℕ) → i ≡ length l → get_or (l ++ (w ∷ [])) i [] ≡ w
get_d_last [] w zero h = refl
get_d_last [] w (suc i) h = absurd (omega arith)
get_d_last (x ∷ l) w zero h = absurd (omega arith)
get_d_last (x ∷ l) w (suc i) h = get_d_last l w i (omega arith)

module _ (text table : List ℕ) (i at m : ℕ) (low : i < 16384) (long : length table ≡ 32768) where
  abbrev pub put : List ℕ
  put = set (set table i at) (16384 + i) m

  start-new : get_or put i 0 ≡ at
  start-new = get_or-set_other (set table i at) (16384 + i) i m 0 (λ (q : i ≡ 16384 + i). omega arith) ∙ get_or-set_same table i at 0 (omega arith)

  rest-new : get_or put (16384 + i) 0 ≡ m
  rest-new = get_or-set_same (set table i at) (16384 + i) m 0 (omega (arith, length-set table i at))

  start-old : (j : ℕ) → j < 16384 → (j ≡ i → ⊥) → get_or put j 0 ≡ get_or table j 0
  start-old j l n = get_or-set_other (set table i at) (16384 + i) j m 0 (λ (q : j ≡ 16384 + i). omega arith) ∙ get_or-set_other table i j at 0 n

  rest-old : (j : ℕ) → (j ≡ i → ⊥) → get_or put (16384 + j) 0 ≡ get_or table (16384 + j) 0
  rest-old j n = get_or-set_other (set table i at) (16384 + i) (16384 + j) m 0 (λ (q : 16384 + j ≡ 16384 + i). n (omega arith)) ∙ get_or-set_other table i (16384 + j) at 0 (λ (q : 16384 + j ≡ i). omega arith)

  -- words that stand elsewhere stay
  pub words-stay : (from : ℕ) (names : List (List ℕ)) (n : ℕ) → from + n ≤ 16384 → ((j : ℕ) → j < n → from + j ≡ i → ⊥) → Words text table from names n → Words text put from names n
  words-stay from names n f d h =
      record {
        count = h.count;
        inside = λ j l. rw (start-old (from + j) (omega (arith, l)) (d j l), rest-old (from + j) (d j l)) (h.inside j l);
        spelt = λ j l. rw (start-old (from + j) (omega (arith, l)) (d j l), rest-old (from + j) (d j l)) (h.spelt j l);
      }

  -- and one more stands behind them
  pub words_more : (from : ℕ) (names : List (List ℕ)) (n len : ℕ) → i ≡ from + n → m + 1 ≡ len → at + len ≤ length text → Words text table from names n → Words text put from (names ++ (word text at len ∷ [])) (n + 1)
  words_more from names n len e one fit h =
      record {
        count = length-append names (word text at len ∷ []) ∙ omega (arith, h.count);
        inside = λ j (b : j < n + 1). elim (dec_lt j n) [ yes p ↦ old-inside j p | no p ↦ last-inside j b p ];
        spelt = λ j (b : j < n + 1). elim (dec_lt j n) [ yes p ↦ old-spelt j p | no p ↦ last-spelt j b p ];
      }
    where
      other : (j : ℕ) → j < n → from + j ≡ i → ⊥
      other j p q = omega (arith, p, q, e)

      old-inside : (j : ℕ) → j < n → get_or put (from + j) 0 + (get_or put (16384 + (from + j)) 0 + 1) ≤ length text
      old-inside j p = rw (start-old (from + j) (omega (arith, e, p)) (other j p), rest-old (from + j) (other j p)) (h.inside j p)

      old-spelt : (j : ℕ) → j < n → word text (get_or put (from + j) 0) (get_or put (16384 + (from + j)) 0 + 1) ≡ get_or (names ++ (word text at len ∷ [])) j []
      old-spelt j p =
          rw (start-old (from + j) (omega (arith, e, p)) (other j p), rest-old (from + j) (other j p)) (h.spelt j p ∙ inv (get_d_front names (word text at len ∷ []) j (omega (arith, h.count, p))))

      here : (j : ℕ) → j < n + 1 → (j < n → ⊥) → from + j ≡ i
      here j b p = omega (arith, b, p, e)

      last-inside : (j : ℕ) → j < n + 1 → (j < n → ⊥) → get_or put (from + j) 0 + (get_or put (16384 + (from + j)) 0 + 1) ≤ length text
      last-inside j b p = subst (λ (k : ℕ). get_or put k 0 + (get_or put (16384 + k) 0 + 1) ≤ length text) (inv (here j b p)) (omega (arith, start-new, rest-new, one, fit))

      last-spelt : (j : ℕ) → j < n + 1 → (j < n → ⊥) → word text (get_or put (from + j) 0) (get_or put (16384 + (from + j)) 0 + 1) ≡ get_or (names ++ (word text at len ∷ [])) j []
      last-spelt j b p =
          subst (λ (k : ℕ). word text (get_or put k 0) (get_or put (16384 + k) 0 + 1) ≡ get_or (names ++ (word text at len ∷ [])) j []) (inv (here j b p))
          (ap₂ (word text) start-new (ap (λ (x : ℕ). x + 1) rest-new ∙ one) ∙ inv (get_d_last names (word text at len) j (omega (arith, b, p, h.count))))

module _ (table : List ℕ) (g : Known) (d : Draft) (w : Word) (n : ℕ) where
  pub note_known : (own gave : ℕ) → own ≡ own_of d w.kind → gave ≡ given_of g w.kind → n < gave + own → Noted table table g d w n d
  note_known own gave oe ge l =
      record {
        keeps = λ base text e h f c q. known base text e h c q;
        len_stays = refl;
        depth_stays = refl;
        formulas_stay = refl;
        grows = λ k. omega arith;
      }
    where
      known : (base : Given) (text : List ℕ) (e : List Spot) → Kept base text table d e → given_of g w.kind ≡ length (list_of base w.kind) →
          n ≡ number_of base e w.kind (word_of text w) → Kept base text table d (e ++ (spot_of w.kind (word_of text w) ∷ []))
      known base text e h c q =
          let k = w.kind in
          let z : length (list_of base k ++ h.own k) ≡ length (words_of base e k) = ap length (h.whole k) in
          let y = length-append (list_of base k) (h.own k) in
          let x = (h.words k).count in
          let stays = words-known base e (word_of text w) k (omega arith) in
          record { long = h.long; few = h.few; own = h.own; words = h.words; whole = λ j. h.whole j ∙ inv (stays j) }

  module _ (own gave base i m : ℕ) (pre : Notes table g d w) (oe : own ≡ own_of d w.kind) (ge : gave ≡ given_of g w.kind) (be : base ≡ base_of w.kind) (se : i ≡ base + own) (me : m ≡ w.len - 1) (no : gave + own ≤ n) where
    ie : i ≡ base_of w.kind + own
    ie = se ∙ ap (λ (x : ℕ). x + own) be

    low : i < 16384
    low = let z = base-low w.kind in omega (arith, pre.room)

    more : (base : Given) (text : List ℕ) (e : List Spot) → Kept base text table d e → w.at + w.len ≤ length text → given_of g w.kind ≡ length (list_of base w.kind) →
        n ≡ number_of base e w.kind (word_of text w) → Kept base text (put text table i w.at m low pre.long) (with_one d w.kind) (e ++ (spot_of w.kind (word_of text w) ∷ []))
    more base text e h f c q =
        let j = w.kind in
        let z : length (list_of base j ++ h.own j) ≡ length (words_of base e j) = ap length (h.whole j) in
        let y = length-append (list_of base j) (h.own j) in
        let x = (h.words j).count in
        let grown = words-new base e (word_of text w) j (λ (l : number_of base e j (word_of text w) < length (words_of base e j)). omega arith) in
        record {
          long = length-set (set table i w.at) (16384 + i) m ∙ length-set table i w.at ∙ pre.long;
          few = λ k. each-few k (h.few k) (own-more d j k);
          own = λ k. same_kind k j ⇒ h.own k ++ (word_of text w ∷ []) ∣ h.own k;
          words = λ k. cases (same_kind k j) (λ t. rw t (same k (h.words k) t)) (λ t. rw t (other k (h.words k) (h.few k) t));
          whole = λ k. cases (same_kind k j) (λ t. rw t (inv (append_assoc (list_of base k) (h.own k) (word_of text w ∷ [])) ∙ ap (λ (l : List (List ℕ)). l ++ (word_of text w ∷ [])) (h.whole k) ∙ inv (rw t at (grown k)))) (λ t. rw t (h.whole k ∙ inv (rw t at (grown k))));
        }
      where
        each-few : (k : Kind) → own_of d k ≤ 4096 → own_of (with_one d w.kind) k ≡ (same_kind k w.kind ⇒ own_of d k + 1 ∣ own_of d k) → own_of (with_one d w.kind) k ≤ 4096
        each-few k a b =
            cases (same_kind k w.kind)
            (λ t. let u : own_of (with_one d w.kind) k ≡ own_of d k + 1 = b ∙ rw t in let v = ap (own_of d) (kind-same k w.kind t) in omega (arith, pre.room))
            (λ t. let u : own_of (with_one d w.kind) k ≡ own_of d k = b ∙ rw t in omega arith)

        same : (k : Kind) → Words text table (base_of k) (h.own k) (own_of d k) → same_kind k w.kind ≡ true →
            Words text (put text table i w.at m low pre.long) (base_of k) (h.own k ++ (word_of text w ∷ [])) (own_of (with_one d w.kind) k)
        same k a t =
            let u : own_of (with_one d w.kind) k ≡ own_of d k + 1 = own-more d w.kind k ∙ rw t in
            let s = kind-same k w.kind t in
            let p : i ≡ base_of k + own_of d k = ie ∙ ap₂ (λ (a b : ℕ). a + b) (ap base_of (inv s)) (oe ∙ ap (own_of d) (inv s)) in
            rw u (words_more text table i w.at m low pre.long (base_of k) (h.own k) (own_of d k) w.len p (omega (arith, me, pre.some)) f a)

        other : (k : Kind) → Words text table (base_of k) (h.own k) (own_of d k) → own_of d k ≤ 4096 → same_kind k w.kind ≡ false →
            Words text (put text table i w.at m low pre.long) (base_of k) (h.own k) (own_of (with_one d w.kind) k)
        other k a b t =
            let u : own_of (with_one d w.kind) k ≡ own_of d k = own-more d w.kind k ∙ rw t in
            rw u
            (words-stay text table i w.at m low pre.long (base_of k) (h.own k) (own_of d k) (let z = base-low k in omega arith)
            (λ j (l : j < own_of d k) (q : base_of k + j ≡ i). apart k w.kind t j (own_of d w.kind) (omega arith) pre.room (q ∙ ie ∙ ap (λ (x : ℕ). base_of w.kind + x) oe)) a)

    pub note_new : (table' : List ℕ) (r : Draft) → table' ≡ set (set table i w.at) (16384 + i) m → r ≡ with_one d w.kind → Noted table table' g d w n r
    note_new table' r t q =
        rw (t, q)
        (record {
          keeps = more;
          len_stays = (one-stays d w.kind).0;
          depth_stays = (one-stays d w.kind).1;
          formulas_stay = (one-stays d w.kind).2;
          grows = λ k. cases (same_kind k w.kind) (λ t. let u : own_of (with_one d w.kind) k ≡ own_of d k + 1 = own-more d w.kind k ∙ rw t in omega arith) (λ t. let u : own_of (with_one d w.kind) k ≡ own_of d k = own-more d w.kind k ∙ rw t in omega arith);
        })

pub ruleset noting = (note_known, note_new)
