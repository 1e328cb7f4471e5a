-- What the reader refuses is the first fault of the text.
use Rattle.std.specs.Prelude.{ℕ, suc, ◌+◌, ◌≤◌, ◌<◌, ◌≡◌, refl, List, [], ◌∷◌, ◌++◌, length, take}
use Rattle.std.proofs.Common.{sym as inv, ap, ◌∙◌, true≢false, inl, inr, arith, length-append, take_at}
use Rattle.std.proofs.Math.Decide.{dec_lt}
use Rattle.grammar.specs.Token.{Token, name, variable, opening, closing, comma, arrow, stop, Piece, token, spelling, spelt, bytes, Stands, tokens}
use Rattle.grammar.specs.TokenLaws.{front-is, spelt-long, token-long}
use Rattle.grammar.specs.Front.{front, front_of}
use Rattle.grammar.specs.FrontLaws.{Half, shown}
use Rattle.reading.specs.Part.{State, Taken, taken}
use Rattle.reading.proofs.Stop.{SpacedTo, and_then}
use Rattle.reading.proofs.Viable.{bytes-append, first-stays}
use Rattle.reading.proofs.Refusal.{Begins, long-means}
use Rattle.reading.proofs.RefusalLaws.{snoc_bytes, snoc_spaced, no-half, same_left}
use Rattle.reading.proofs.AloneLaws.{found_front, shared-on, spaced-rest}
use Rattle.asking.specs.Asking.{begin, step, Tally, none_yet, limit, refused}
use Rattle.asking.proofs.Gone.{behind_pieces, tallied, Final, early, strange, misplaced, half_misplaced, half, long_name, too_many, Gone}
use Rattle.asking.proofs.Viable.{viable-here}
use Rattle.asking.proofs.Unexpected.{Unexpected, unexpected-one, viable-before}
use Rattle.asking.proofs.UnexpectedLaws.{behind-append, strange-means, misplaced-means, half-misplaced-means, half-means, early-means}
use Rattle.asking.proofs.Refusal.{StandsAt, unexpected_byte, longest_name, out_of_range, nodes_passed, Ahead, First}
use Rattle.asking.proofs.FaultLaws.{full-true, begins-limit, Coded, by_range, by_nodes, by_none, coded, Wordy, long_word, full_word, many_word, full-limit, many-limit, Faulty, of_byte, of_word, faulty, not_earlier}

-- Two beginnings of one length have the same pieces

same-pieces : (ps qs : List Piece) (x y : List ℕ) → SpacedTo ps x → SpacedTo qs y → bytes ps ++ x ≡ bytes qs ++ y → length (bytes ps) ≡ length (bytes qs) → ps ≡ qs
same-pieces [] [] x y s u e l = refl
same-pieces [] (q ∷ qs) x y s u e l = absurd (omega (arith, l, length-append (spelt q) (bytes qs), spelt-long q (bytes qs ++ y) (first-stays q qs y u)))
same-pieces (p ∷ ps) [] x y s u e l = absurd (omega (arith, l, length-append (spelt p) (bytes ps), spelt-long p (bytes ps ++ x) (first-stays p ps x s)))
same-pieces (p ∷ ps) (q ∷ qs) x y s u e l =
    let f : front p (bytes ps ++ x) ≡ front q (bytes qs ++ y) = inv (found_front p ps x s) ∙ ap front_of e ∙ found_front q qs y u in
    let g : p ≡ q = cc in
    let d : bytes ps ++ x ≡ bytes qs ++ y = cc in
    let n : length (spelt p) ≡ length (spelt q) = ap (λ (z : Piece). length (spelt z)) g in
    let m = same-pieces ps qs x y (spaced-rest p ps x s) (spaced-rest q qs y u) d (omega (arith, l, n, length-append (spelt p) (bytes ps), length-append (spelt q) (bytes qs))) in
    cc

same-there : {text : List ℕ} {a b : ℕ} {ts us : List Token} {t u : Token} → StandsAt text a ts t → StandsAt text b us u → a ≡ b → (ts ≡ us) × (t ≡ u)
same-there {text} {t = t} {u} p q e =
    let n : length (bytes p.pieces) ≡ length (bytes q.pieces) = omega (arith, e, p.place, q.place) in
    let m = same-pieces p.pieces q.pieces (spelling t ++ p.rest) (spelling u ++ q.rest) p.spaced q.spaced (inv p.whole ∙ q.whole) n in
    let l = same_left text (bytes p.pieces) (bytes q.pieces) (spelling t ++ p.rest) (spelling u ++ q.rest) p.whole q.whole n in
    let f : front (token t) p.rest ≡ front (token u) q.rest = inv (front-is (token t) p.rest p.stands) ∙ ap front_of l ∙ front-is (token u) q.rest q.stands in
    (p.behind ∙ ap tokens m ∙ inv q.behind, cc)

-- a later token stands behind the whole of an earlier one
later-behind : {text : List ℕ} {a b : ℕ} {ts us : List Token} {t u : Token} → StandsAt text a ts t → StandsAt text b us u → a < b → a + length (spelling t) ≤ b
later-behind {t = t} {u} p q l =
    let m = shared-on p.pieces q.pieces (spelling t ++ p.rest) (spelling u ++ q.rest) t p.rest p.spaced q.spaced (inv p.whole ∙ q.whole) refl p.stands (omega (arith, l, p.place, q.place)) in
    omega
    (arith, p.place, q.place, ap (λ (z : List Piece). length (bytes z)) m.1, ap length (bytes-append p.pieces (token t ∷ m.0)), length-append (bytes p.pieces) (bytes (token t ∷ m.0)), length-append (spelling t) (bytes m.0))

-- Where faults stand

wordy-begins : (ts : List Token) (t : Token) (at c i : ℕ) → Wordy ts t at c i → Begins t
wordy-begins ts t at c i (long_word e l) = rw e tt
wordy-begins ts t at c i (full_word b h) = b
wordy-begins ts t at c i (many_word b h) = b

wordy-place : (ts : List Token) (t : Token) (at c i : ℕ) → Wordy ts t at c i → at ≤ i
wordy-place ts t at c i (long_word e l) = omega arith
wordy-place ts t at c i (full_word b h) = omega arith
wordy-place ts t at c i (many_word b h) = omega arith

-- 41 comes before any other fault at its place
near : (d i j : ℕ) → i ≤ j → Ahead 41 i d j
near d i j l = elim (dec_lt i j) [ yes h ↦ inl h | no h ↦ inr (omega arith, omega arith) ]

-- a token with a code of its own begins an argument or a formula
limit-begins : (y : Tally) (t : Token) (c : ℕ) → limit y t ≡ suc c → Begins t
limit-begins y (name w) c e = tt
limit-begins y (variable w) c e = tt
limit-begins y opening c e = absurd (omega (arith, e))
limit-begins y closing c e = absurd (omega (arith, e))
limit-begins y comma c e = absurd (omega (arith, e))
limit-begins y arrow c e = absurd (omega (arith, e))
limit-begins y stop c e = absurd (omega (arith, e))

module _ (text : List ℕ) {c i : ℕ} (g : Gone begin none_yet 0 text (refused c i)) where
  abbrev here : ℕ
  here = length (bytes g.pieces)

  abbrev before : List Token
  before = tokens g.pieces

  -- no word's fault stands earlier
  not-before : {at d j : ℕ} {ts : List Token} {t : Token} → StandsAt text at ts t → Wordy ts t at d j → here ≤ at
  not-before {at} {d} {j} s w = elim (dec_lt at here) [ yes h ↦ absurd (not_earlier s g.pieces g.left g.whole g.spaced g.within h d j w) | no h ↦ omega arith ]

  -- 41 at the place
  byte_first : Unexpected text here → First text 41 here
  byte_first u = record { there = unexpected_byte u; ahead = λ d j f. by d j (faulty d j f) }
    where
      by : (d j : ℕ) → Faulty text d j → Ahead 41 here d j
      by d j (of_byte e v) = near d here j (omega (arith, unexpected-one here j u v))
      by d j (of_word at ts t s w) = near d here j (omega (arith, not-before s w, wordy-place ts t at d j w))

  -- 41 at the second byte of half a token
  second-first : (h : Token) → Half h g.left → Unexpected text (here + 1) → First text 41 (here + 1)
  second-first h x u = record { there = unexpected_byte u; ahead = λ d j f. by d j (faulty d j f) }
    where
      beyond : {at d j : ℕ} {ts : List Token} {t : Token} → StandsAt text at ts t → Wordy ts t at d j → here < at
      beyond {at} {d} {j} {ts} {t} s w =
          elim (dec_lt here at) [
            | yes k ↦ k
            | no k ↦
                absurd
                (no-half h t g.left s.rest x
                (same_left text (bytes g.pieces) (bytes s.pieces) g.left (spelling t ++ s.rest) g.whole s.whole (let q : here ≡ length (bytes s.pieces) = omega (arith, k, not-before s w, s.place) in q))
                (wordy-begins ts t at d j w) s.stands)
          ]

      by : (d j : ℕ) → Faulty text d j → Ahead 41 (here + 1) d j
      by d j (of_byte e v) = near d (here + 1) j (omega (arith, unexpected-one (here + 1) j u v))
      by d j (of_word at ts t s w) = near d (here + 1) j (omega (arith, beyond s w, wordy-place ts t at d j w))

  module _ (t : Token) (r : List ℕ) (n : State) (f : front_of g.left ≡ front (token t) r) (tk : step g.to t ≡ taken n) (b : Begins t) where
    left_is : g.left ≡ spelling t ++ r
    left_is = (rw f at (shown g.left)).0

    stands-r : Stands t r
    stands-r = (rw f at (shown g.left)).1

    abbrev stands_here : StandsAt text here before t
    stands_here =
        record {
          pieces = g.pieces;
          rest = r;
          whole = g.whole ∙ ap (λ (l : List ℕ). bytes g.pieces ++ l) left_is;
          spaced = rw left_is at g.spaced;
          stands = stands-r;
          place = refl;
          behind = refl;
        }

    abbrev with_token : List Piece
    with_token = g.pieces ++ token t ∷ []

    whole-on : text ≡ bytes with_token ++ r
    whole-on = stands_here.whole ∙ inv (snoc_bytes g.pieces t r)

    length-on : length (bytes with_token) ≡ here + length (spelling t)
    length-on = omega (arith, ap length (bytes-append g.pieces (token t ∷ [])), length-append (bytes g.pieces) (spelling t ++ []), length-append (spelling t) [])

    -- a text can go on with the token, so that no byte before its end is unexpected
    byte_behind : {j : ℕ} → Unexpected text j → here + length (spelling t) ≤ j
    byte_behind {j} u =
        let reach : behind_pieces begin with_token ≡ taken n = behind-append g.pieces (token t ∷ []) begin g.to g.reaches ∙ ap (λ (k : Taken). and_then k (λ m. taken m)) tk in
        let v = viable-here with_token r n (snoc_spaced g.pieces t r b stands-r stands_here.spaced) reach in
        let k : take (length (bytes with_token)) text ≡ bytes with_token = ap (take (length (bytes with_token))) whole-on ∙ take_at (bytes with_token) r (length (bytes with_token)) refl in
        omega (arith, length-on, viable-before j (length (bytes with_token)) u (rw k v) (omega (arith, ap length whole-on, length-append (bytes with_token) r)))

    name-first : (w : List ℕ) → t ≡ name w → 33 ≤ length w → limit (tallied none_yet before) t ≡ 0 → First text 42 (here + 32)
    name-first w e l m = record { there = longest_name (rw e at stands_here) l; ahead = λ d j p. by d j (faulty d j p) }
      where
        size : 33 ≤ length (spelling t)
        size = rw e l

        same : (us : List Token) (u : Token) (at d j : ℕ) → at ≡ here → (us ≡ before) × (u ≡ t) → Wordy us u at d j → Ahead 42 (here + 32) d j
        same us u at d j a q (long_word h k) = inr (omega (arith, a), omega arith)
        same us u at d j a q (full_word h k) = absurd (omega (arith, rw (q.0, q.1) at (full-limit us u h k), m))
        same us u at d j a q (many_word h k) = absurd (many-limit before t b (rw q.0 at k) m)

        by : (d j : ℕ) → Faulty text d j → Ahead 42 (here + 32) d j
        by d j (of_byte h v) = inl (omega (arith, size, byte_behind v))
        by d j (of_word at us u s w) =
            elim (dec_lt here at) [
              | yes k ↦ inl (omega (arith, size, later-behind stands_here s k, wordy-place us u at d j w))
              | no k ↦ let a : at ≡ here = omega (arith, k, not-before s w) in same us u at d j a (same-there s stands_here a) w
            ]

    code-first : (d : ℕ) → Coded (tallied none_yet before) d → limit (tallied none_yet before) t ≡ d → (k : ℕ) → d ≡ suc k → First text d here
    code-first d (by_range h) m k e = record { there = out_of_range stands_here b h; ahead = λ d j p. by d j (faulty d j p) }
      where
        same : (us : List Token) (u : Token) (at d j : ℕ) → at ≡ here → Wordy us u at d j → Ahead 14 here d j
        same us u at d j a (long_word h k) = inl (omega (arith, a))
        same us u at d j a (full_word h k) = inr (inv a, omega arith)
        same us u at d j a (many_word h k) = inr (inv a, omega arith)

        by : (d j : ℕ) → Faulty text d j → Ahead 14 here d j
        by d j (of_byte h v) = inl (omega (arith, token-long t r stands-r, byte_behind v))
        by d j (of_word at us u s w) =
            elim (dec_lt here at) [ yes k ↦ inl (omega (arith, k, wordy-place us u at d j w)) | no k ↦ let a : at ≡ here = omega (arith, k, not-before s w) in same us u at d j a w ]
    code-first d (by_nodes h l) m k e = record { there = nodes_passed stands_here b l; ahead = λ d j p. by d j (faulty d j p) }
      where
        same : (us : List Token) (u : Token) (at d j : ℕ) → at ≡ here → us ≡ before → Wordy us u at d j → Ahead 15 here d j
        same us u at d j a q (long_word x y) = inl (omega (arith, a))
        same us u at d j a q (full_word x y) = absurd (true≢false (inv (full-true (tallied none_yet before).outside (tallied none_yet before).brackets (rw q at y)) ∙ h))
        same us u at d j a q (many_word x y) = inr (inv a, omega arith)

        by : (d j : ℕ) → Faulty text d j → Ahead 15 here d j
        by d j (of_byte h v) = inl (omega (arith, token-long t r stands-r, byte_behind v))
        by d j (of_word at us u s w) =
            elim (dec_lt here at) [
              | yes k ↦ inl (omega (arith, k, wordy-place us u at d j w))
              | no k ↦ let a : at ≡ here = omega (arith, k, not-before s w) in same us u at d j a (same-there s stands_here a).0 w
            ]
    code-first d by_none m k e = absurd (omega (arith, e))

  pub first-there : (n : State) (y : Tally) (at : ℕ) (left : List ℕ) (d j : ℕ) → Final n y at left (refused d j) → n ≡ g.to → y ≡ tallied none_yet before → at ≡ here → left ≡ g.left → First text d j
  first-there n y at left d j (early l m) p q a e =
      rw a (byte_first (early-means text g.left g.pieces g.to g.whole g.spaced g.reaches (inv e ∙ l) (rw p at m)))
  first-there n y at left d j (strange {b} {x} l m) p q a e =
      rw a (byte_first (strange-means text g.left g.pieces g.to g.whole g.spaced g.reaches b x (inv e ∙ l) m))
  first-there n y at left d j (misplaced {b} {x} {r} {t} l f w) p q a e =
      rw a (byte_first (misplaced-means text g.left g.pieces g.to g.whole g.spaced g.reaches b x r t (inv e ∙ l) f (rw p at w)))
  first-there n y at left d j (half_misplaced {b} {x} {t} l f w) p q a e =
      rw a (byte_first (half-misplaced-means text g.left g.pieces g.to g.whole g.spaced g.reaches b x t (inv e ∙ l) f (rw p at w)))
  first-there n y at left d j (half {b} {x} {t} {n = m} l f w) p q a e =
      let k : g.left ≡ b ∷ x = inv e ∙ l in
      rw a
      (second-first t (rw k (rw f at (shown (b ∷ x)))) (half-means text g.left g.pieces g.to g.whole g.spaced g.reaches b x t m k f (rw p at w)))
  first-there n y at left d j (long_name {t} {r} {n = m} f w k l) p q a e =
      let v = long-means t l in
      rw a (name-first t r m (ap front_of (inv e) ∙ f) (rw p at w) (rw v.1 tt) v.0 v.1 v.2 (rw q at k))
  first-there n y at left d j (too_many {t} {r} {n = m} {c = k} f w l) p q a e =
      let b = limit-begins y t k l in
      let h : limit (tallied none_yet before) t ≡ suc k = rw q at l in
      rw a
      (code-first t r m (ap front_of (inv e) ∙ f) (rw p at w) b (suc k) (rw (inv (begins-limit (tallied none_yet before) t b) ∙ h) at (coded (tallied none_yet before))) h k refl)

pub refused-first : (text : List ℕ) (c i : ℕ) → Gone begin none_yet 0 text (refused c i) → First text c i
refused-first text c i g =
    first-there text g g.to (tallied none_yet (tokens g.pieces)) (0 + length (bytes g.pieces)) g.left c i g.final refl refl
    (let q : 0 + length (bytes g.pieces) ≡ length (bytes g.pieces) = omega arith in q) refl
