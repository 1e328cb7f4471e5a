-- The reader refuses just where the relation of the refusal holds.
use Rattle.std.specs.Prelude.{ℕ, suc, ◌+◌, ◌≤◌, ◌<◌, ◌≡◌, refl, true, ◌⊎◌, ◌↔◌, List, [], ◌∷◌, ◌++◌, length, take, drop}
use Rattle.std.proofs.Common.{sym as inv, ap, ◌∙◌, true≢false, inl, inr, append_assoc, append-nil, arith, lt-ltb, le-ltb, length-append, take_at, drop_at}
use Rattle.std.proofs.Math.Decide.{dec_lt}
use Rattle.grammar.specs.Byte.{small, capital, starts_variable}
use Rattle.grammar.specs.ByteLaws.{small-not-bracket, variable-not-bracket}
use Rattle.grammar.specs.Token.{Token, name, variable, opening, closing, comma, arrow, stop, Piece, token, blank, comment, spelling, bytes, Stands, Fits, tokens}
use Rattle.grammar.specs.TokenLaws.{Stays, token-long}
use Rattle.grammar.specs.FrontLaws.{Half}
use Rattle.grammar.specs.Syntax.{Rule}
use Rattle.grammar.specs.Reading.{SmallRules, Writes}
use Rattle.grammar.specs.Names.{book}
use Rattle.format.specs.Format.{encode_book}
use Rattle.reading.specs.Part.{State, start, taken}
use Rattle.reading.specs.Reader.{limit, long, bad, judge_taken, Outcome, read, refused, reading}
use Rattle.reading.specs.PrintLaws.{kept}
use Rattle.reading.proofs.Stop.{SpacedTo}
use Rattle.reading.proofs.Viable.{Viable, Came, viable-here, bytes-append, tokens_append, step-healthy}
use Rattle.reading.proofs.Unexpected.{Unexpected, too_early, no_further}
use Rattle.reading.proofs.FirstLaws.{viable-take, viable-whole, unexpected-one}
use Rattle.reading.proofs.ReadingLaws.{reading-sound, walk-read}
use Rattle.reading.proofs.Refusal.{Before, Reached, Begins, Refusal, long_text, unexpected_byte, unexpected_second, longest_name, out_of_range, size_passed, long_book, refusal}
use Rattle.reading.proofs.RefusedLaws.{judged, run-there, word-refused, range-bad, size-bad, name-bad}
use Rattle.reading.proofs.AloneLaws.{not_earlier}

-- A token that may stand at a place begins some text there

word_fits : (p : Piece) (t : Token) (rest : List ℕ) → Begins t → Stands t rest → Stays p (spelling t ++ rest) → Fits p (spelling t ++ rest)
word_fits (token u) t rest b s h = h
word_fits (comment c) t rest b s h = h
word_fits (blank c) (name []) rest b s h = absurd s.0
word_fits (blank c) (name (a ∷ w)) rest b s h = (h, small-not-bracket a s.0.0)
word_fits (blank c) (variable []) rest b s h = absurd s.0
word_fits (blank c) (variable (a ∷ w)) rest b s h = (h, variable-not-bracket a s.0.0)
word_fits (blank c) opening rest b s h = absurd b
word_fits (blank c) closing rest b s h = absurd b
word_fits (blank c) comma rest b s h = absurd b
word_fits (blank c) arrow rest b s h = absurd b
word_fits (blank c) stop rest b s h = absurd b

pub snoc_bytes : (ps : List Piece) (t : Token) (rest : List ℕ) → bytes (ps ++ token t ∷ []) ++ rest ≡ bytes ps ++ (spelling t ++ rest)
snoc_bytes ps t rest =
    ap (λ (l : List ℕ). l ++ rest) (bytes-append ps (token t ∷ []) ∙ ap (λ (l : List ℕ). bytes ps ++ l) (append-nil (spelling t))) ∙ append_assoc (bytes ps) (spelling t) rest

pub snoc_spaced : (ps : List Piece) (t : Token) (rest : List ℕ) → Begins t → Stands t rest → SpacedTo ps (spelling t ++ rest) → SpacedTo (ps ++ token t ∷ []) rest
snoc_spaced [] t rest b s h = s
snoc_spaced (p ∷ []) t rest b s h = (rw (append-nil (spelling t)) (word_fits p t rest b s h), s)
snoc_spaced (p ∷ q ∷ ps) t rest b s h = (rw (snoc_bytes (q ∷ ps) t rest) h.0, snoc_spaced (q ∷ ps) t rest b s h.1)

module _ {text : List ℕ} {at : ℕ} {s : State} {t : Token} (r : Reached text at s t) (b : Begins t) where
  whole-there : text ≡ bytes r.before.pieces ++ (spelling t ++ r.rest)
  whole-there = r.before.whole ∙ ap (λ (l : List ℕ). bytes r.before.pieces ++ l) r.token_there

  came-on : Came start (r.before.pieces ++ token t ∷ []) r.goes
  came-on =
      record {
        healthy = step-healthy s r.goes t r.takes;
        makes =
            λ x.
            ap (λ (l : List Token). l ++ x) (tokens_append r.before.pieces (token t ∷ []))
            ∙ append_assoc (tokens r.before.pieces) (t ∷ []) x
            ∙ r.before.makes (t ∷ x)
            ∙ (rw r.takes at (kept s.rules s.part s.mode t)).0 x;
      }

  pub long-enough : at < length text
  long-enough =
      omega (arith, ap length whole-there, length-append (bytes r.before.pieces) (spelling t ++ r.rest), length-append (spelling t) r.rest, token-long t r.rest r.stands, r.before.place)

  pub first-viable : Viable (take (suc at) text)
  first-viable =
      let ps = r.before.pieces ++ token t ∷ [] in
      let w : text ≡ bytes ps ++ r.rest = whole-there ∙ inv (snoc_bytes r.before.pieces t r.rest) in
      let v = viable-here ps r.rest r.goes (snoc_spaced r.before.pieces t r.rest b r.stands (rw r.token_there at r.before.spaced)) came-on in
      let n : suc at ≤ length (bytes ps) =
      omega (arith, ap length (bytes-append r.before.pieces (token t ∷ [])), length-append (bytes r.before.pieces) (spelling t ++ []), length-append (spelling t) [], token-long t r.rest r.stands, r.before.place) in
      viable-take text (suc at) (length (bytes ps)) n (rw (ap (take (length (bytes ps))) w ∙ take_at (bytes ps) r.rest (length (bytes ps)) refl) v)

-- An unexpected byte leaves no other refusal

not-read : {text : List ℕ} {i : ℕ} (cs : List Rule) → Unexpected text i → Writes text cs → ⊥
not-read cs (too_early e v d) w = d cs w
not-read {text} {i} cs (no_further l v d) w = d (viable-whole text (suc i) l (record { rest = []; rules = cs; writes = rw (append-nil text) w }))

-- the unexpected byte stands at the place, or is the second of a half token there
abbrev Near : {text : List ℕ} {at : ℕ} {s : State} → Before text at s → ℕ → Type 0
Near {at = at} f i = (i ≡ at) ⊎ ((i ≡ at + 1) × (h : Token) × Half h f.left)

half_byte : (h : Token) (left : List ℕ) → Half h left → (x : List ℕ) × ((left ≡ 58 ∷ x) ⊎ (left ≡ 46 ∷ x))
half_byte (name v) left x = absurd x
half_byte (variable v) left x = absurd x
half_byte opening left x = absurd x
half_byte closing left x = absurd x
half_byte comma left x = absurd x
half_byte arrow left x = (x.0, inl x.1)
half_byte stop left x = (x.0, inr x.1)

abbrev Letter : ℕ → Type 0
Letter a = (small a ≡ true) ⊎ (starts_variable a ≡ true)

word_byte : (t : Token) (rest : List ℕ) → Begins t → Stands t rest → (a : ℕ) × (y : List ℕ) × (spelling t ++ rest ≡ a ∷ y) × Letter a
word_byte (name []) rest b s = absurd s.0
word_byte (name (a ∷ w)) rest b s = (a, w ++ rest, refl, inl s.0.0)
word_byte (variable []) rest b s = absurd s.0
word_byte (variable (a ∷ w)) rest b s = (a, w ++ rest, refl, inr s.0.0)
word_byte opening rest b s = absurd b
word_byte closing rest b s = absurd b
word_byte comma rest b s = absurd b
word_byte arrow rest b s = absurd b
word_byte stop rest b s = absurd b

colon_no_letter : Letter 58 → ⊥
unfolding small capital starts_variable
colon_no_letter (inl e) = true≢false (inv e)
colon_no_letter (inr e) = true≢false (inv e)

stop-no-letter : Letter 46 → ⊥
unfolding small capital starts_variable
stop-no-letter (inl e) = true≢false (inv e)
stop-no-letter (inr e) = true≢false (inv e)

letter_at : (a b : ℕ) (x y : List ℕ) → b ∷ x ≡ a ∷ y → Letter a → Letter b
letter_at a b x y e l = let q : a ≡ b = cc in rw q at l

pub no-half : (h t : Token) (left rest : List ℕ) → Half h left → left ≡ spelling t ++ rest → Begins t → Stands t rest → ⊥
no-half h t left rest x e b s = by (half_byte h left x).1
  where
    w : (a : ℕ) × (y : List ℕ) × (spelling t ++ rest ≡ a ∷ y) × Letter a
    w = word_byte t rest b s

    by : (left ≡ 58 ∷ (half_byte h left x).0) ⊎ (left ≡ 46 ∷ (half_byte h left x).0) → ⊥
    by (inl q) = colon_no_letter (letter_at w.0 58 _ w.1 (inv q ∙ e ∙ w.2) w.3)
    by (inr q) = stop-no-letter (letter_at w.0 46 _ w.1 (inv q ∙ e ∙ w.2) w.3)

-- two beginnings of one length leave the same
pub same_left : (text x y left right : List ℕ) → text ≡ x ++ left → text ≡ y ++ right → length x ≡ length y → left ≡ right
same_left text x y left right e f l = inv (drop_at x left (length x) refl) ∙ ap (drop (length x)) (inv e ∙ f) ∙ drop_at y right (length x) (inv l)

module _ {text : List ℕ} {at : ℕ} {s : State} (f : Before text at s) (i : ℕ) (u : Unexpected text i) (near : Near f i) where
  -- a name or a variable at this place, or behind it
  later-clash : {j : ℕ} {s' : State} {t : Token} → Reached text j s' t → Begins t → at ≤ j → ⊥
  later-clash {j} {s'} {t} r b l = by near
    where
      beyond : i ≤ j → ⊥
      beyond h = past u
        where
          past : Unexpected text i → ⊥
          past (too_early e v d) = omega (arith, e, h, long-enough r b)
          past (no_further k v d) = d (viable-take text (suc i) (suc j) (omega arith) (first-viable r b))

      by : Near f i → ⊥
      by (inl e) = beyond (omega arith)
      by (inr e) =
          elim (dec_lt j i) [
            | yes k ↦
                no-half e.1 t f.left r.rest e.2
                (same_left text (bytes f.pieces) (bytes r.before.pieces) f.left r.before.left f.whole r.before.whole (let q : length (bytes f.pieces) ≡ length (bytes r.before.pieces) = omega (arith, e.0, k, l, f.place, r.before.place) in q)
                ∙ r.token_there)
                b r.stands
            | no k ↦ beyond (omega arith)
          ]

  word-clash : {j : ℕ} {s' : State} {t : Token} (r : Reached text j s' t) → Begins t → (c k : ℕ) →
      ((n : State) → judge_taken (taken n) (limit s'.rules s'.part t) (long t) j ≡ bad c k) → ⊥
  word-clash {j} {s'} {t} r b c k h =
      elim (dec_lt j at) [
        | yes l ↦
            not_earlier f r.before.pieces r.before.left t r.rest j c k r.before.whole r.before.spaced r.token_there r.stands (run-there r b c k h) (judged r b c k h)
            (omega (arith, l, r.before.place))
        | no l ↦ later-clash r b (omega arith)
      ]

-- 41 is said where it stands
unexpected-said : {text : List ℕ} {at : ℕ} {s : State} (f : Before text at s) (i : ℕ) → Unexpected text i → Near f i → reading text ≡ refused 41 i
unexpected-said {text} f i u near = said (reading text) refl
  where
    other : (c k : ℕ) → Refusal text c k → reading text ≡ refused c k → reading text ≡ refused 41 i
    other c k (long_text h) e = absurd (omega (arith, h, f.short))
    other c k (unexpected_byte {at = a} g v) e = e ∙ ap (refused 41) (unexpected-one a i v u)
    other c k (unexpected_second {at = a} t g h n v) e = e ∙ ap (refused 41) (unexpected-one (a + 1) i v u)
    other c k (longest_name {at = a} {s = s} {w = w} r h d l) e = absurd (word-clash f i u near r tt 42 (a + 32) (name-bad s w a h d l))
    other c k (out_of_range {at = a} {s = s} {t = t} r b h) e = absurd (word-clash f i u near r b 4 a (range-bad s t a b h))
    other c k (size_passed {at = a} {s = s} {t = t} r b h p) e = absurd (word-clash f i u near r b 5 a (size-bad s t a b h p))
    other c k (long_book cs sh w sm few l) e = absurd (not-read cs u w)

    said : (o : Outcome) → reading text ≡ o → reading text ≡ refused 41 i
    said (read cs) e = absurd (not-read cs u (reading-sound text cs e).writes)
    said (refused c k) e = other c k (refusal text c k e) e

long-text-said : (text : List ℕ) → 65536 < length text → reading text ≡ refused 40 0
unfolding reading
long-text-said text h = rw (lt-ltb 65536 (length text) h)

long-book-said : (text : List ℕ) (cs : List Rule) → length text ≤ 65536 → Writes text cs → SmallRules cs → length cs ≤ 512 → 32768 < length (encode_book (book cs)) → reading text ≡ refused 5 (length text)
unfolding reading
long-book-said text cs h w s l k = rw (le-ltb 65536 (length text) h, walk-read text cs w s l, lt-ltb 32768 (length (encode_book (book cs))) k)

refusal-said : (text : List ℕ) (c i : ℕ) → Refusal text c i → reading text ≡ refused c i
refusal-said text c i (long_text h) = long-text-said text h
refusal-said text c i (unexpected_byte {at = a} f u) = unexpected-said f a u (inl refl)
refusal-said text c i (unexpected_second {at = a} t f h n u) = unexpected-said f (a + 1) u (inr (refl, t, h))
refusal-said text c i (longest_name {at = a} {s = s} {w = w} r h d l) = word-refused r tt 42 (a + 32) (name-bad s w a h d l)
refusal-said text c i (out_of_range {at = a} {s = s} {t = t} r b h) = word-refused r b 4 a (range-bad s t a b h)
refusal-said text c i (size_passed {at = a} {s = s} {t = t} r b h p) = word-refused r b 5 a (size-bad s t a b h p)
refusal-said text c i (long_book cs sh w sm few l) = long-book-said text cs sh w sm few l

-- a text is refused so just where the relation says it
pub refusal_iff : (text : List ℕ) (c i : ℕ) → (reading text ≡ refused c i) ↔ Refusal text c i
refusal_iff text c i = (refusal text c i, refusal-said text c i)

-- and in one way only
pub refusal-one : {text : List ℕ} (c i d j : ℕ) → Refusal text c i → Refusal text d j → (c ≡ d) × (i ≡ j)
refusal-one {text} c i d j p q = let e : refused c i ≡ refused d j = inv (refusal-said text c i p) ∙ refusal-said text d j q in (cc, cc)
