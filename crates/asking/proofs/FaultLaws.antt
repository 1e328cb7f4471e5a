-- What is read is a query of the grammar within the sizes, and such a text has no fault.
use Rattle.std.specs.Prelude.{ℕ, ◌+◌, ◌≤◌, ◌<◌, ◌≡◌, refl, true, false, List, [], ◌∷◌, ◌++◌, length, leb}
use Rattle.std.proofs.Common.{sym as inv, ap, ◌∙◌, true≢false, append-nil, arith, length-append, leb-true, le-leb}
use Rattle.terms.specs.Cases.{cases}
use Rattle.grammar.specs.Token.{Token, name, variable, opening, closing, comma, arrow, stop, Piece, token, spelling, bytes, Spaced, tokens}
use Rattle.grammar.specs.TokenLaws.{fits-stays, token-long}
use Rattle.grammar.specs.Syntax.{Formula}
use Rattle.grammar.specs.Query.{Asks, SizedQuery}
use Rattle.reading.specs.Part.{State}
use Rattle.reading.specs.Reader.{long}
use Rattle.reading.proofs.Stop.{SpacedTo}
use Rattle.reading.proofs.Viable.{tokens_append}
use Rattle.reading.proofs.UnexpectedLaws.{end-spaced}
use Rattle.reading.proofs.Refusal.{Begins}
use Rattle.reading.proofs.AloneLaws.{shared-on}
use Rattle.asking.specs.Asking.{begin, meaning, Tally, none_yet, counted, full, code, limit, read}
use Rattle.asking.proofs.MeaningLaws.{Meets, meets-asked}
use Rattle.asking.proofs.WithinLaws.{Within, within-sized, sized-within}
use Rattle.asking.proofs.Gone.{tallied, Final, finished, Gone}
use Rattle.asking.proofs.Viable.{pieces-meet}
use Rattle.asking.proofs.Unexpected.{Unexpected, not-asked}
use Rattle.asking.proofs.Refusal.{StandsAt, Full, Fault, unexpected_byte, longest_name, out_of_range, nodes_passed}
use Rattle.asking.specs.Accepted.{Accepted}

-- Tokens that keep to the sizes have no fault

pub within-there : (ts : List Token) (t : Token) (more : List Token) (y : Tally) → Within y (ts ++ t ∷ more) → (limit (tallied y ts) t ≡ 0) × (long t ≡ false)
within-there [] t more y h = (h.0, h.1)
within-there (u ∷ ts) t more y h = within-there ts t more (counted y u) h.2

pub full-true : (a : ℕ) (bs : List ℕ) → Full a bs → full a bs ≡ true
full-true a [] h = le-leb 512 a h
full-true a (b ∷ bs) h = le-leb 8 b h

pub true-full : (a : ℕ) (bs : List ℕ) → full a bs ≡ true → Full a bs
true-full a [] e = leb-true 512 a e
true-full a (b ∷ bs) e = leb-true 8 b e

pub begins-limit : (y : Tally) (t : Token) → Begins t → limit y t ≡ code y
begins-limit y (name w) b = refl
begins-limit y (variable w) b = refl
begins-limit y opening b = absurd b
begins-limit y closing b = absurd b
begins-limit y comma b = absurd b
begins-limit y arrow b = absurd b
begins-limit y stop b = absurd b

full-code : (y : Tally) → Full y.outside y.brackets → code y ≡ 14
full-code y h = rw (full-true y.outside y.brackets h)

-- no code but these
pub data Coded (y : Tally) : ℕ → Type 0 where
  by_range : Full y.outside y.brackets → Coded y 14
  by_nodes : full y.outside y.brackets ≡ false → 4096 ≤ y.words → Coded y 15
  by_none : Coded y 0

pub coded : (y : Tally) → Coded y (code y)
coded y =
    cases (full y.outside y.brackets) (λ h. rw h (by_range (true-full y.outside y.brackets h)))
    (λ h. cases (leb 4096 y.words) (λ k. rw (h, k) (by_nodes h (leb-true 4096 y.words k))) (λ k. rw (h, k) by_none))

many-code : (y : Tally) → 4096 ≤ y.words → code y ≡ 0 → ⊥
many-code y h e = cases (full y.outside y.brackets) (λ f. let z : 14 ≡ 0 = rw f at e in omega arith) (λ f. let z : 15 ≡ 0 = rw (f, le-leb 4096 y.words h) at e in omega arith)

-- a fault of a word
pub data Wordy (ts : List Token) (t : Token) (at : ℕ) : ℕ → ℕ → Type 0 where
  long_word : {w : List ℕ} → t ≡ name w → 33 ≤ length w → Wordy ts t at 42 (at + 32)
  full_word : Begins t → Full (tallied none_yet ts).outside (tallied none_yet ts).brackets → Wordy ts t at 14 at
  many_word : Begins t → 4096 ≤ (tallied none_yet ts).words → Wordy ts t at 15 at

pub full-limit : (ts : List Token) (t : Token) → Begins t → Full (tallied none_yet ts).outside (tallied none_yet ts).brackets → limit (tallied none_yet ts) t ≡ 14
full-limit ts t b h = begins-limit (tallied none_yet ts) t b ∙ full-code (tallied none_yet ts) h

pub many-limit : (ts : List Token) (t : Token) → Begins t → 4096 ≤ (tallied none_yet ts).words → limit (tallied none_yet ts) t ≡ 0 → ⊥
many-limit ts t b h e = many-code (tallied none_yet ts) h (inv (begins-limit (tallied none_yet ts) t b) ∙ e)

wordy-not : (ts : List Token) (t : Token) (at c i : ℕ) → Wordy ts t at c i → limit (tallied none_yet ts) t ≡ 0 → long t ≡ false → ⊥
wordy-not ts t at c i (long_word {w} e l) m n = true≢false (inv (le-leb 33 (length w) l) ∙ rw e at n)
wordy-not ts t at c i (full_word b h) m n = omega (arith, full-limit ts t b h, m)
wordy-not ts t at c i (many_word b h) m n = many-limit ts t b h m

-- each fault is of a word, or an unexpected byte
pub data Faulty (text : List ℕ) (c i : ℕ) : Type 0 where
  of_byte : c ≡ 41 → Unexpected text i → Faulty text c i
  of_word : (at : ℕ) (ts : List Token) (t : Token) → StandsAt text at ts t → Wordy ts t at c i → Faulty text c i

pub faulty : {text : List ℕ} (c i : ℕ) → Fault text c i → Faulty text c i
faulty c i (unexpected_byte u) = of_byte refl u
faulty c i (longest_name {at} {ts} {w} s l) = of_word at ts (name w) s (long_word refl l)
faulty c i (out_of_range {at} {ts} {t} s b h) = of_word at ts t s (full_word b h)
faulty c i (nodes_passed {at} {ts} {t} s b h) = of_word at ts t s (many_word b h)

-- a word that stands before the end of pieces which keep to the sizes
pub not_earlier : {text : List ℕ} {at : ℕ} {ts : List Token} {t : Token} (s : StandsAt text at ts t) (qs : List Piece) (y : List ℕ) → text ≡ bytes qs ++ y → SpacedTo qs y → Within none_yet (tokens qs) →
    at < length (bytes qs) → (c i : ℕ) → Wordy ts t at c i → ⊥
not_earlier {at = at} {ts} {t} s qs y w sp k l c i f =
    let m = shared-on s.pieces qs (spelling t ++ s.rest) y t s.rest s.spaced sp (inv s.whole ∙ w) refl s.stands (omega (arith, l, s.place)) in
    let q : tokens qs ≡ ts ++ t ∷ tokens m.0 = ap tokens m.1 ∙ tokens_append s.pieces (token t ∷ m.0) ∙ ap (λ (z : List Token). z ++ t ∷ tokens m.0) (inv s.behind) in
    let h = within-there ts t (tokens m.0) none_yet (rw q at k) in
    wordy-not ts t at c i f h.0 h.1

-- What is read

spaced-end : (qs : List Piece) → Spaced qs → SpacedTo qs []
spaced-end [] h = tt
spaced-end (p ∷ []) h = fits-stays p [] h.0
spaced-end (p ∷ q ∷ qs) h = (rw (append-nil (bytes (q ∷ qs))) h.0, spaced-end (q ∷ qs) h.1)

pub stands-inside : {text : List ℕ} {at : ℕ} {ts : List Token} {t : Token} → StandsAt text at ts t → at < length text
stands-inside {t = t} s =
    omega (arith, ap length s.whole, length-append (bytes s.pieces) (spelling t ++ s.rest), length-append (spelling t) s.rest, token-long t s.rest s.stands, s.place)

pub no_fault : {text : List ℕ} (fs : List Formula) → Asks text fs → SizedQuery fs → (c i : ℕ) → Fault text c i → ⊥
no_fault {text} fs a z c i f = by (faulty c i f)
  where
    by : Faulty text c i → ⊥
    by (of_byte e u) = not-asked fs u a
    by (of_word at ts t s w) =
        not_earlier s a.spelt.pieces [] (a.spelt.whole ∙ inv (append-nil (bytes a.spelt.pieces))) (spaced-end a.spelt.pieces a.spelt.spaced)
        (rw a.spelt.listed at (sized-within fs a.ending z)) (omega (arith, ap length a.spelt.whole, stands-inside s)) c i w

pub read-accepted : (text : List ℕ) (fs : List Formula) → length text ≤ 65536 → Gone begin none_yet 0 text (read fs) → Accepted text fs
read-accepted text fs short g = by g.to (tallied none_yet (tokens g.pieces)) (0 + length (bytes g.pieces)) g.left g.final refl refl
  where
    by : (n : State) (y : Tally) (at : ℕ) (left : List ℕ) → Final n y at left (read fs) → n ≡ g.to → left ≡ g.left → Accepted text fs
    by n y at left (finished e m) p q =
        let l : g.left ≡ [] = inv q ∙ e in
        let met : Meets begin (tokens g.pieces ++ []) fs =
        pieces-meet g.pieces begin g.to [] g.reaches (record { end = g.to; goes_there = refl; means = ap meaning (inv p) ∙ m }) in
        let k = meets-asked met in
        let listed : tokens g.pieces ≡ _ = inv (append-nil (tokens g.pieces)) ∙ k.1 in
        record {
          asks =
              record {
                ending = k.0;
                spelt = record {
                  pieces = g.pieces;
                  spaced = end-spaced g.pieces (rw l at g.spaced);
                  whole = g.whole ∙ ap (λ (z : List ℕ). bytes g.pieces ++ z) l ∙ append-nil (bytes g.pieces);
                  listed = inv listed;
                };
              };
          sized = within-sized fs k.0 (rw listed at g.within);
          short = short;
        }
