-- The beginnings of queries: what the reader has gone through begins some query's text.
use Rattle.std.specs.Prelude.{ℕ, ◌≡◌, refl, false, List, [], ◌∷◌, ◌++◌}
use Rattle.std.proofs.Common.{sym as inv, ◌∙◌, true≢false, append_assoc, arith}
use Rattle.grammar.specs.Byte.{small, capital, digit, goes_on, is_blank, is_percent, is_bracket}
use Rattle.grammar.specs.Token.{Token, name, variable, opening, closing, comma, arrow, stop, Piece, token, blank, comment, spelt, bytes, after_stop, Fits, Spaced, tokens}
use Rattle.grammar.specs.FrontLaws.{Half}
use Rattle.grammar.specs.Syntax.{Terms, none, Formula, Rule}
use Rattle.grammar.specs.Query.{Asks}
use Rattle.reading.specs.Part.{none_yet, and_variable, and_name, Part, formulas, inside, Mode, between, expects, named, complete, State, state, terms_of, put, Taken, taken, wrong, settle}
use Rattle.reading.proofs.Stop.{SpacedTo, and_then}
use Rattle.reading.proofs.Whole.{Filled, a}
use Rattle.reading.proofs.Viable.{bytes-append, tokens_append, respaced, line_behind, same-behind, whole_pieces, tokens-whole}
use Rattle.asking.specs.Asking.{begin, step}
use Rattle.asking.proofs.MeaningLaws.{Meets, Fine, step-fine, settle-fine, meets-asked}
use Rattle.asking.proofs.AskedLaws.{meets-step, settle-meets}
use Rattle.asking.proofs.Gone.{behind_pieces}

-- some query's text, of whatever sizes, begins with these bytes
pub record Viable (s : List ℕ) : Type 0 where
  pub rest : List ℕ
  pub formulas : List Formula
  pub asks : Asks (s ++ rest) formulas

-- What tokens make a query whole

abbrev closings : Part → List Token
closings (formulas fs) = []
closings (inside p v d) = closing ∷ closings p

abbrev completion : List Rule → Part → Mode → List Token
completion (c ∷ cs) p m = []
completion [] p between = []
completion [] p expects = name a ∷ closings p
completion [] p (named w) = closings p
completion [] p complete = closings p

record Over (s : State) (ts : List Token) : Type 0 where
  formulas : List Formula
  meets : Meets s ts formulas

put-over : (p : Part) (w : List ℕ) (own : Terms) → Over (state [] (put p w own) complete) (closings p)
put-over (formulas fs) w own = record { formulas = _; meets = record { end = _; goes_there = refl; means = refl } }
put-over (inside p v d) w own =
    let o = put-over p v (terms_of (and_name d w own) none) in
    record { formulas = o.formulas; meets = meets-step (state [] (inside p v (and_name d w own)) complete) closing refl o.meets }

part-over : (p : Part) → Filled p → Over (state [] p complete) (closings p)
part-over (formulas []) h = absurd h
part-over (formulas (f ∷ fs)) h = record { formulas = _; meets = record { end = _; goes_there = refl; means = refl } }
part-over (inside p v none_yet) h = absurd (true≢false (inv h))
part-over (inside p v (and_variable d w)) h =
    let o = put-over p v (terms_of (and_variable d w) none) in
    record { formulas = o.formulas; meets = meets-step (state [] (inside p v (and_variable d w)) complete) closing refl o.meets }
part-over (inside p v (and_name d w own)) h =
    let o = put-over p v (terms_of (and_name d w own) none) in
    record { formulas = o.formulas; meets = meets-step (state [] (inside p v (and_name d w own)) complete) closing refl o.meets }

named-over : (p : Part) (w : List ℕ) → Over (state [] p (named w)) (closings p)
named-over p w = let o = put-over p w none in record { formulas = o.formulas; meets = settle-meets (state [] p (named w)) (closings p) o.meets }

state-over : (cs : List Rule) (p : Part) (m : Mode) → Fine cs p m → Over (state cs p m) (completion cs p m)
state-over [] p between h = record { formulas = []; meets = record { end = _; goes_there = refl; means = refl } }
state-over [] p expects h = let o = named-over p a in record { formulas = o.formulas; meets = meets-step (state [] p expects) (name a) refl o.meets }
state-over [] p (named w) h = named-over p w
state-over [] p complete h = part-over p h
state-over (c ∷ []) p m h = rw (h.0, h.1) (record { formulas = _; meets = record { end = _; goes_there = refl; means = refl } })
state-over (c ∷ d ∷ cs) p m h = absurd h

-- Pieces

taken-behind : (k : Taken) (ps : List Piece) (n : State) → and_then k (λ m. behind_pieces m ps) ≡ taken n → (m : State) × (k ≡ taken m) × (behind_pieces m ps ≡ taken n)
taken-behind (taken m) ps n e = (m, refl, e)
taken-behind wrong ps n e = let z : ◌≡◌ {A = ℕ} 0 1 = cc in absurd (omega arith)

pub pieces-meet : (ps : List Piece) (s n : State) (ts : List Token) {fs : List Formula} → behind_pieces s ps ≡ taken n → Meets n ts fs → Meets s (tokens ps ++ ts) fs
pieces-meet [] s n ts e m = let q : s ≡ n = cc in rw q m
pieces-meet (token t ∷ ps) s n ts e m = let k = taken-behind (step s t) ps n e in meets-step s t k.1 (pieces-meet ps k.0 n ts k.2 m)
pieces-meet (blank b ∷ ps) s n ts e m = settle-meets s (tokens ps ++ ts) (pieces-meet ps (settle s) n ts e m)
pieces-meet (comment c ∷ ps) s n ts e m = settle-meets s (tokens ps ++ ts) (pieces-meet ps (settle s) n ts e m)

pub pieces-fine : (ps : List Piece) (s n : State) → Fine s.rules s.part s.mode → behind_pieces s ps ≡ taken n → Fine n.rules n.part n.mode
pieces-fine [] s n h e = let q : s ≡ n = cc in rw q at h
pieces-fine (token t ∷ ps) s n h e =
    let k = taken-behind (step s t) ps n e in
    pieces-fine ps k.0 n (rw k.1 at (step-fine s.rules s.part s.mode t h)) k.2
pieces-fine (blank b ∷ ps) s n h e = pieces-fine ps (settle s) n (settle-fine s.rules s.part s.mode h) e
pieces-fine (comment c ∷ ps) s n h e = pieces-fine ps (settle s) n (settle-fine s.rules s.part s.mode h) e

-- the pieces that were gone through, and others that make the query whole, are a text
made : (ps rest : List Piece) (n : State) → behind_pieces begin ps ≡ taken n → Spaced (ps ++ rest) → Over n (tokens rest) → (fs : List Formula) × Asks (bytes ps ++ bytes rest) fs
made ps rest n h sp o =
    let m = pieces-meet ps begin n (tokens rest) h o.meets in
    let k = meets-asked m in (
      o.formulas,
      record { ending = k.0; spelt = record { pieces = ps ++ rest; spaced = sp; whole = inv (bytes-append ps rest); listed = inv (tokens_append ps rest ∙ k.1) } },
    )

closings-spaced : (p : Part) → Spaced (whole_pieces (closings p))
closings-spaced (formulas fs) = tt
closings-spaced (inside p v d) = (tt, closings-spaced p)

-- an LF, then what makes the part whole
line_spaced : (p : Part) → Spaced (blank 10 ∷ whole_pieces (closings p))
unfolding is_blank is_bracket
line_spaced (formulas fs) = ((refl, tt), tt)
line_spaced (inside p v d) = ((refl, refl), closings-spaced (inside p v d))

completion-spaced : (cs : List Rule) (p : Part) (m : Mode) → Spaced (blank 10 ∷ whole_pieces (completion cs p m))
unfolding is_blank is_bracket small capital digit goes_on
completion-spaced (c ∷ cs) p m = ((refl, tt), tt)
completion-spaced [] p between = ((refl, tt), tt)
completion-spaced [] (formulas fs) expects = ((refl, refl), (((refl, tt), tt), tt))
completion-spaced [] (inside p v d) expects = ((refl, refl), (((refl, tt), refl), closings-spaced (inside p v d)))
completion-spaced [] p (named w) = line_spaced p
completion-spaced [] p complete = line_spaced p

abbrev whole_behind : State → List Piece
whole_behind n = blank 10 ∷ whole_pieces (completion n.rules n.part n.mode)

over-behind : (n : State) → Fine n.rules n.part n.mode → Over n (tokens (whole_behind n))
over-behind n h = rw (tokens-whole (completion n.rules n.part n.mode)) (state-over n.rules n.part n.mode h)

-- what was gone through begins some text
pub viable-here : (ps : List Piece) (left : List ℕ) (n : State) → SpacedTo ps left → behind_pieces begin ps ≡ taken n → Viable (bytes ps)
viable-here ps left n sp h =
    let f = pieces-fine ps begin n refl h in
    let m =
    made ps (whole_behind n) n h
    (respaced ps left (whole_behind n) sp (completion-spaced n.rules n.part n.mode) (λ p g. line_behind p left (bytes (whole_pieces (completion n.rules n.part n.mode))) g))
    (over-behind n f) in
    record { rest = bytes (whole_behind n); formulas = m.0; asks = m.1 }

-- and so does the first byte of a token that may stand next
half-made : (ps : List Piece) (x : List ℕ) (n m : State) (t : Token) (b : ℕ) (more : List ℕ) → spelt (token t) ≡ b ∷ more → is_bracket b ≡ false → ((rest : List ℕ) → Fits (token t) (10 ∷ rest)) →
    SpacedTo ps (b ∷ x) → behind_pieces begin ps ≡ taken n → step n t ≡ taken m → (fs : List Formula) × Asks (bytes ps ++ bytes (token t ∷ whole_behind m)) fs
half-made ps x n m t b more e nb fits sp h tk =
    let f = pieces-fine ps begin n refl h in
    let g : Fine m.rules m.part m.mode = rw tk at (step-fine n.rules n.part n.mode t f) in
    let o = over-behind m g in
    made ps (token t ∷ whole_behind m) n h
    (respaced ps (b ∷ x) (token t ∷ whole_behind m) sp (fits _, completion-spaced m.rules m.part m.mode) (λ p k. rw e (same-behind p b x _ nb k)))
    (record { formulas = o.formulas; meets = meets-step n t tk o.meets })

-- the bytes of it but the first
half-viable : (ps : List Piece) (b : ℕ) (rest : List ℕ) → (fs : List Formula) × Asks (bytes ps ++ (b ∷ rest)) fs → Viable (bytes ps ++ (b ∷ []))
half-viable ps b rest m = record { rest = rest; formulas = m.0; asks = rw (append_assoc (bytes ps) (b ∷ []) rest) m.1 }

pub viable-half : (ps : List Piece) (b : ℕ) (x : List ℕ) (n m : State) (t : Token) → SpacedTo ps (b ∷ x) → behind_pieces begin ps ≡ taken n → step n t ≡ taken m → Half t (b ∷ x) →
    Viable (bytes ps ++ (b ∷ []))
unfolding is_blank is_percent is_bracket after_stop
viable-half ps b x n m (name w) sp c tk h = absurd h
viable-half ps b x n m (variable w) sp c tk h = absurd h
viable-half ps b x n m opening sp c tk h = absurd h
viable-half ps b x n m closing sp c tk h = absurd h
viable-half ps b x n m comma sp c tk h = absurd h
viable-half ps b x n m arrow sp c tk h =
    let q : b ≡ 58 = cc h.1 in
    rw q (half-viable ps 58 _ (half-made ps x n m arrow 58 (45 ∷ []) refl refl (λ rest. tt) (rw q at sp) c tk))
viable-half ps b x n m stop sp c tk h =
    let q : b ≡ 46 = cc h.1 in
    rw q (half-viable ps 46 _ (half-made ps x n m stop 46 [] refl refl (λ rest. refl) (rw q at sp) c tk))
