-- The beginnings of texts: what the reader has read begins some text of the grammar.
use Rattle.std.specs.Prelude.{ℕ, ◌<◌, ◌≡◌, refl, false, List, [], ◌∷◌, ◌++◌, map, length}
use Rattle.std.proofs.Common.{sym as inv, ap, ◌∙◌, append_assoc, append-nil, arith}
use Rattle.grammar.specs.Byte.{small, capital, digit, goes_on, is_blank, is_percent, is_line_end, is_bracket}
use Rattle.grammar.specs.Token.{Token, name, variable, opening, closing, comma, arrow, stop, Piece, token, blank, comment, spelt, bytes, after_stop, Fits, Spaced, tokens}
use Rattle.grammar.specs.TokenLaws.{Stays, spelt-long, fits-stays}
use Rattle.grammar.specs.FrontLaws.{Half}
use Rattle.grammar.specs.Syntax.{Rule, written}
use Rattle.grammar.specs.Reading.{Writes}
use Rattle.reading.specs.Part.{Part, formulas, inside, Mode, between, expects, named, complete, State, state, start, rules_of, Taken, taken, wrong, next, settle}
use Rattle.reading.specs.PrintLaws.{printed, rules-of-then, Kept, kept, settle-printed}
use Rattle.reading.proofs.Stop.{SpacedTo, and_then, behind_pieces}
use Rattle.reading.proofs.Whole.{ending, completion, goes, Over, Healthy, HealthyTaken, state-over, goes-printed, next-healthy, settle-healthy}

-- some text of the grammar, of whatever sizes, begins with these bytes
pub record Viable (s : List ℕ) : Type 0 where
  pub rest : List ℕ
  pub rules : List Rule
  pub writes : Writes (s ++ rest) rules

-- Pieces

-- what was read, written again, and the state behind it
pub record Came (s : State) (ps : List Piece) (n : State) : Type 0 where
  pub healthy : Healthy n.part n.mode
  pub makes : (r : List Token) → printed s (tokens ps ++ r) ≡ printed n r

pub came : (ps : List Piece) (s n : State) → Healthy s.part s.mode → behind_pieces s ps ≡ taken n → Came s ps n
came [] s n h e = let q : s ≡ n = cc in record { healthy = rw q at h; makes = λ r. ap (λ (z : State). printed z r) q }
came (blank b ∷ ps) s n h e =
    let c = came ps (settle s) n (settle-healthy s.part s.mode h) e in
    record { healthy = c.healthy; makes = λ r. settle-printed s.rules s.part s.mode (tokens ps ++ r) ∙ c.makes r }
came (comment b ∷ ps) s n h e =
    let c = came ps (settle s) n (settle-healthy s.part s.mode h) e in
    record { healthy = c.healthy; makes = λ r. settle-printed s.rules s.part s.mode (tokens ps ++ r) ∙ c.makes r }
came (token t ∷ ps) s n h e = by (next s.rules s.part s.mode t) (kept s.rules s.part s.mode t) (next-healthy s.rules s.part s.mode t) (λ m g q. came ps m n g q) e
  where
    by : (k : Taken) → Kept s.rules s.part s.mode t k → HealthyTaken k → ((m : State) → Healthy m.part m.mode → behind_pieces m ps ≡ taken n → Came m ps n) →
        and_then k (λ m. behind_pieces m ps) ≡ taken n → Came s (token t ∷ ps) n
    by (taken m) k h more e = let c = more m h e in record { healthy = c.healthy; makes = λ r. k.0 (tokens ps ++ r) ∙ c.makes r }
    by wrong k h more e = let z : ◌≡◌ {A = ℕ} 0 1 = cc in absurd (omega arith)

-- Other bytes behind the pieces

fits_first : (p : Piece) (b : ℕ) (u v : List ℕ) → Fits p (b ∷ u) → Fits p (b ∷ v)
fits_first (token (name w)) b u v h = h
fits_first (token (variable w)) b u v h = h
fits_first (token opening) b u v h = h
fits_first (token closing) b u v h = h
fits_first (token comma) b u v h = h
fits_first (token arrow) b u v h = h
fits_first (token stop) b u v h = h
fits_first (blank c) b u v h = h
fits_first (comment c) b u v h = h

pub fits-behind : (p : Piece) (x u v : List ℕ) → 0 < length x → Fits p (x ++ u) → Fits p (x ++ v)
fits-behind p [] u v l h = absurd (omega arith)
fits-behind p (b ∷ x) u v l h = fits_first p b (x ++ u) (x ++ v) h

pub bytes-append : (ps qs : List Piece) → bytes (ps ++ qs) ≡ bytes ps ++ bytes qs
bytes-append [] qs = refl
bytes-append (p ∷ ps) qs = ap (λ (l : List ℕ). spelt p ++ l) (bytes-append ps qs) ∙ inv (append_assoc (spelt p) (bytes ps) (bytes qs))

pub tokens_append : (ps qs : List Piece) → tokens (ps ++ qs) ≡ tokens ps ++ tokens qs
tokens_append [] qs = refl
tokens_append (token t ∷ ps) qs = ap (λ (l : List Token). t ∷ l) (tokens_append ps qs)
tokens_append (blank b ∷ ps) qs = tokens_append ps qs
tokens_append (comment c ∷ ps) qs = tokens_append ps qs

pub first-stays : (q : Piece) (ps : List Piece) (left : List ℕ) → SpacedTo (q ∷ ps) left → Stays q (bytes ps ++ left)
first-stays q [] left h = h
first-stays q (p ∷ ps) left h = fits-stays q (bytes (p ∷ ps) ++ left) h.0

pub respaced : (ps : List Piece) (left : List ℕ) (qs : List Piece) → SpacedTo ps left → Spaced qs → ((p : Piece) → Stays p left → Fits p (bytes qs)) → Spaced (ps ++ qs)
respaced [] left qs s t last = t
respaced (p ∷ []) left qs s t last = (last p s, t)
respaced (p ∷ q ∷ ps) left qs s t last = (
  fits-behind p (spelt q) (bytes ps ++ left) (bytes (ps ++ qs)) (spelt-long q (bytes ps ++ left) (first-stays q ps left s.1)) (rw (append_assoc (spelt q) (bytes ps) left) at s.0),
  respaced (q ∷ ps) left qs s.1 t last,
)

-- The text of what was read and what makes it whole

made : (ps : List Piece) (n : State) (ts : List Token) → Came start ps n → Over (goes n ts) → (rest : List Piece) → tokens rest ≡ ts → Spaced (ps ++ rest) →
    (cs : List Rule) × Writes (bytes ps ++ bytes rest) cs
made ps n ts c o rest e sp =
    let r = rules_of o.rules [] in (
      r,
      record {
        pieces = ps ++ rest;
        spaced = sp;
        whole = inv (bytes-append ps rest);
        listed = inv (tokens_append ps rest ∙ ap (λ (l : List Token). tokens ps ++ l) e ∙ ends);
      },
    )
  where
    ends : tokens ps ++ ts ≡ written (rules_of o.rules [])
    ends =
        c.makes ts
        ∙ ap (printed n) (inv (append-nil ts))
        ∙ goes-printed n ts [] (state o.rules (formulas []) between) o.over
        ∙ rules-of-then o.rules []

abbrev pub whole_pieces : List Token → List Piece
whole_pieces ts = map token ts

pub tokens-whole : (ts : List Token) → tokens (whole_pieces ts) ≡ ts
tokens-whole [] = refl
tokens-whole (t ∷ ts) = ap (λ (l : List Token). t ∷ l) (tokens-whole ts)

ending-spaced : (p : Part) → Spaced (whole_pieces (ending p))
ending-spaced (formulas fs) = (tt, tt)
ending-spaced (inside p v d) = (tt, ending-spaced p)

-- an LF, then what makes the part whole
completion-spaced : (p : Part) (m : Mode) → Spaced (blank 10 ∷ whole_pieces (completion p m))
unfolding is_blank is_bracket small capital digit goes_on
completion-spaced p between = ((refl, tt), tt)
completion-spaced (formulas fs) expects = ((refl, refl), (((refl, tt), refl), ending-spaced (formulas fs)))
completion-spaced (inside p v d) expects = ((refl, refl), (((refl, tt), refl), ending-spaced (inside p v d)))
completion-spaced (formulas fs) (named w) = ((refl, refl), ending-spaced (formulas fs))
completion-spaced (inside p v d) (named w) = ((refl, refl), ending-spaced (inside p v d))
completion-spaced (formulas fs) complete = ((refl, refl), ending-spaced (formulas fs))
completion-spaced (inside p v d) complete = ((refl, refl), ending-spaced (inside p v d))

-- any piece may have an LF behind it
pub line_behind : (p : Piece) (left rest : List ℕ) → Stays p left → Fits p (10 ∷ rest)
unfolding is_blank is_percent is_line_end is_bracket small capital digit goes_on after_stop
line_behind (token (name w)) left rest h = (h.0, refl)
line_behind (token (variable w)) left rest h = (h.0, refl)
line_behind (token opening) left rest h = tt
line_behind (token closing) left rest h = tt
line_behind (token comma) left rest h = tt
line_behind (token arrow) left rest h = tt
line_behind (token stop) left rest h = refl
line_behind (blank b) left rest h = (h, refl)
line_behind (comment c) left rest h = (h.0, refl)

-- and the byte that it has, unless that is a bracket
pub same-behind : (p : Piece) (b : ℕ) (u v : List ℕ) → is_bracket b ≡ false → Stays p (b ∷ u) → Fits p (b ∷ v)
same-behind (token (name w)) b u v n h = h
same-behind (token (variable w)) b u v n h = h
same-behind (token opening) b u v n h = h
same-behind (token closing) b u v n h = h
same-behind (token comma) b u v n h = h
same-behind (token arrow) b u v n h = h
same-behind (token stop) b u v n h = h
same-behind (blank c) b u v n h = (h, n)
same-behind (comment c) b u v n h = h

-- what was read begins some text
pub viable-here : (ps : List Piece) (left : List ℕ) (n : State) → SpacedTo ps left → Came start ps n → Viable (bytes ps)
viable-here ps left n sp c =
    let rest = blank 10 ∷ whole_pieces (completion n.part n.mode) in
    let m =
    made ps n (completion n.part n.mode) c (state-over n.rules n.part n.mode c.healthy) rest (tokens-whole (completion n.part n.mode))
    (respaced ps left rest sp (completion-spaced n.part n.mode) (λ p h. line_behind p left (bytes (whole_pieces (completion n.part n.mode))) h)) in
    record { rest = bytes rest; rules = m.0; writes = m.1 }

over-step : (n m : State) (t : Token) (ts : List Token) → next n.rules n.part n.mode t ≡ taken m → Over (goes m ts) → Over (goes n (t ∷ ts))
over-step n m t ts e o = rw e o

pub step-healthy : (n m : State) (t : Token) → next n.rules n.part n.mode t ≡ taken m → Healthy m.part m.mode
step-healthy n m t e = rw e at (next-healthy n.rules n.part n.mode t)

-- and so does the first byte of a token that may stand next
half-made : (ps : List Piece) (x : List ℕ) (n m : State) (t : Token) (b : ℕ) (more : List ℕ) → spelt (token t) ≡ b ∷ more → is_bracket b ≡ false →
    ((rest : List ℕ) → Fits (token t) (10 ∷ rest)) → SpacedTo ps (b ∷ x) → Came start ps n → next n.rules n.part n.mode t ≡ taken m →
    (cs : List Rule) × Writes (bytes ps ++ bytes (token t ∷ blank 10 ∷ whole_pieces (completion m.part m.mode))) cs
half-made ps x n m t b more e nb fits sp c tk =
    made ps n (t ∷ completion m.part m.mode) c
    (over-step n m t (completion m.part m.mode) tk (state-over m.rules m.part m.mode (step-healthy n m t tk)))
    (token t ∷ blank 10 ∷ whole_pieces (completion m.part m.mode))
    (ap (λ (l : List Token). t ∷ l) (tokens-whole (completion m.part m.mode)))
    (respaced ps (b ∷ x) _ sp (fits _, completion-spaced m.part m.mode) (λ p h. rw e (same-behind p b x _ nb h)))

-- the bytes of it but the first
half-viable : (ps : List Piece) (b : ℕ) (rest : List ℕ) → (cs : List Rule) × Writes (bytes ps ++ (b ∷ rest)) cs → Viable (bytes ps ++ (b ∷ []))
half-viable ps b rest m = record { rest = rest; rules = m.0; writes = rw (append_assoc (bytes ps) (b ∷ []) rest) m.1 }

pub viable-half : (ps : List Piece) (b : ℕ) (x : List ℕ) (n m : State) (t : Token) → SpacedTo ps (b ∷ x) → Came start ps n → next n.rules n.part n.mode t ≡ taken m →
    Half t (b ∷ x) → Viable (bytes ps ++ (b ∷ []))
unfolding is_blank is_percent is_bracket after_stop
viable-half ps b x n m (name w) sp c tk h = absurd h
viable-half ps b x n m (variable w) sp c tk h = absurd h
viable-half ps b x n m opening sp c tk h = absurd h
viable-half ps b x n m closing sp c tk h = absurd h
viable-half ps b x n m comma sp c tk h = absurd h
viable-half ps b x n m arrow sp c tk h =
    let q : b ≡ 58 = cc h.1 in
    rw q (half-viable ps 58 _ (half-made ps x n m arrow 58 (45 ∷ []) refl refl (λ rest. tt) (rw q at sp) c tk))
viable-half ps b x n m stop sp c tk h =
    let q : b ≡ 46 = cc h.1 in
    rw q (half-viable ps 46 _ (half-made ps x n m stop 46 [] refl refl (λ rest. refl) (rw q at sp) c tk))
