-- Where the reader says 41, the byte is unexpected.
use Rattle.std.specs.Prelude.{ℕ, suc, ◌+◌, ◌≡◌, refl, List, [], ◌∷◌, ◌++◌, length, take}
use Rattle.std.proofs.Common.{sym as inv, ap, ◌∙◌, append_assoc, append-nil, arith, length-append, take_at}
use Rattle.grammar.specs.Token.{Token, Piece, token, blank, comment, bytes, Spaced, tokens}
use Rattle.grammar.specs.TokenLaws.{fits-stays, front-is, pieces_are}
use Rattle.grammar.specs.Front.{front, broken, unexpected, Class, nothing, class, cut, front_of, pieces_of}
use Rattle.grammar.specs.FrontLaws.{shown}
use Rattle.grammar.specs.Syntax.{Formula}
use Rattle.grammar.specs.Query.{Asks}
use Rattle.reading.specs.Part.{State, Taken, taken, wrong, next, settle}
use Rattle.reading.specs.RunLaws.{Unopened, unopened, line_end_shut}
use Rattle.reading.proofs.Stop as Stop
use Rattle.reading.proofs.Stop.{SpacedTo, and_then}
use Rattle.reading.proofs.Unexpected.{parted}
use Rattle.reading.proofs.UnexpectedLaws.{clash, alike, half-alike, two_bytes, end-spaced}
use Rattle.asking.specs.Asking.{begin, seal, step, goal, unfinished, meaning}
use Rattle.asking.proofs.MeaningLaws.{Meets}
use Rattle.asking.proofs.AskedLaws.{settle-meaning, settle_step, taken_of, asked-meets}
use Rattle.asking.proofs.Gone.{behind_piece, behind_pieces}
use Rattle.asking.proofs.Viable.{Viable, viable-here, viable-half}
use Rattle.asking.proofs.Unexpected.{Unexpected, too_early, no_further}

-- Every query's text is gone through

-- no bracket comes: then a blank changes nothing
gap_meets : (s : State) (ts : List Token) {fs : List Formula} → Unopened ts → Meets s ts fs → Meets (settle s) ts fs
gap_meets s [] h m =
    let q : s ≡ m.end = let p = m.goes_there in cc in
    record { end = settle s; goes_there = refl; means = settle-meaning s ∙ ap meaning q ∙ m.means }
gap_meets s (t ∷ ts) h m = record { end = m.end; goes_there = rw (settle_step s t h) m.goes_there; means = m.means }

record Through (s : State) (ps : List Piece) (fs : List Formula) : Type 0 where
  end : State
  reaches : behind_pieces s ps ≡ taken end
  means : meaning end ≡ goal fs

through : (ps : List Piece) (s : State) {fs : List Formula} → Spaced ps → Meets s (tokens ps) fs → Through s ps fs
through [] s sp m = record { end = m.end; reaches = m.goes_there; means = m.means }
through (token t ∷ ps) s sp m =
    let k = taken_of (step s t) (tokens ps) m.end m.goes_there in
    let r = through ps k.0 sp.1 (record { end = m.end; goes_there = k.2; means = m.means }) in
    record { end = r.end; reaches = ap (λ (z : Taken). and_then z (λ n. behind_pieces n ps)) k.1 ∙ r.reaches; means = r.means }
through (blank b ∷ ps) s sp m =
    let r = through ps (settle s) sp.1 (gap_meets s (tokens ps) (unopened ps sp.1 sp.0.1) m) in
    record { end = r.end; reaches = r.reaches; means = r.means }
through (comment c ∷ ps) s sp m =
    let r = through ps (settle s) sp.1 (gap_meets s (tokens ps) (unopened ps sp.1 (line_end_shut (bytes ps) sp.0.1)) m) in
    record { end = r.end; reaches = r.reaches; means = r.means }

asks-through : {text : List ℕ} (fs : List Formula) (w : Asks text fs) → Through begin w.spelt.pieces fs
asks-through fs w = through w.spelt.pieces begin w.spelt.spaced (rw w.spelt.listed at (asked-meets fs w.ending))

-- A text that begins as this one does has a piece at the place, and it is taken there

pub behind-append : (ps qs : List Piece) (s n : State) → behind_pieces s ps ≡ taken n → behind_pieces s (ps ++ qs) ≡ behind_pieces n qs
behind-append [] qs s n e = let q : s ≡ n = cc in ap (λ (z : State). behind_pieces z qs) q
behind-append (p ∷ ps) qs s n e = by (behind_piece s p) (λ m h. behind-append ps qs m n h) e
  where
    by : (k : Taken) → ((m : State) → behind_pieces m ps ≡ taken n → behind_pieces m (ps ++ qs) ≡ behind_pieces n qs) → and_then k (λ m. behind_pieces m ps) ≡ taken n →
        and_then k (λ m. behind_pieces m (ps ++ qs)) ≡ behind_pieces n qs
    by (taken m) more e = more m e
    by wrong more e = let z : ◌≡◌ {A = ℕ} 0 1 = cc in absurd (omega arith)

record Goes_on (n : State) (b : ℕ) (y : List ℕ) : Type 0 where
  piece : Piece
  rest : List ℕ
  stands : front_of (b ∷ y) ≡ front piece rest
  takes : behind_piece n piece ≡ wrong → ⊥

going-piece : (n e : State) (ps : List Piece) (b : ℕ) (y : List ℕ) → Spaced ps → bytes ps ≡ b ∷ y → behind_pieces n ps ≡ taken e → Goes_on n b y
going-piece n e [] b y s w h = let z : ◌≡◌ {A = ℕ} 0 1 = cc in absurd (omega arith)
going-piece n e (p ∷ ps) b y s w h =
    record {
      piece = p;
      rest = bytes ps;
      stands = ap front_of (inv w) ∙ front-is p (bytes ps) (fits-stays p (bytes ps) s.0);
      takes = λ (q : behind_piece n p ≡ wrong). let r : wrong ≡ taken e = ap (λ (k : Taken). and_then k (λ m. behind_pieces m ps)) (inv q) ∙ h in let z : ◌≡◌ {A = ℕ} 0 1 = cc in omega arith;
    }

going_on : (ps : List Piece) (n : State) (b : ℕ) (x y : List ℕ) (fs : List Formula) → SpacedTo ps (b ∷ x) → behind_pieces begin ps ≡ taken n → Asks (bytes ps ++ b ∷ y) fs → Goes_on n b y
going_on ps n b x y fs s h w =
    let m = parted ps w.spelt.pieces b x y s w.spelt.spaced (inv w.spelt.whole) in
    let r = asks-through fs w in
    going-piece n r.end m.more b y m.spaced m.whole (inv (behind-append ps m.more begin n h) ∙ ap (behind_pieces begin) (inv m.joined) ∙ r.reaches)

-- What is wrong is wrong without the full stop's seal

seal-wrong : (k : Taken) → seal k ≡ wrong → k ≡ wrong
seal-wrong (taken s) e = let z : ◌≡◌ {A = ℕ} 0 1 = cc in absurd (omega arith)
seal-wrong wrong e = refl

step-wrong : (n : State) (t : Token) → step n t ≡ wrong → next n.rules n.part n.mode t ≡ wrong
step-wrong n t e = seal-wrong (next n.rules n.part n.mode t) e

wrong-behind : (n : State) (p : Piece) → Stop.behind_piece n p ≡ wrong → behind_piece n p ≡ wrong
wrong-behind n (token t) e = ap seal e
wrong-behind n (blank b) e = e
wrong-behind n (comment c) e = e

-- A text that ends early

not-whole : (text : List ℕ) (ps : List Piece) (n : State) → text ≡ bytes ps → Spaced ps → behind_pieces begin ps ≡ taken n → meaning n ≡ unfinished → (fs : List Formula) → Asks text fs → ⊥
not-whole text ps n e sp h b fs w =
    let same : ps ≡ w.spelt.pieces =
    inv (pieces_are (length text) ps sp (omega (arith, ap length e)))
    ∙ ap (pieces_of (length text)) (inv e ∙ w.spelt.whole)
    ∙ pieces_are (length text) w.spelt.pieces w.spelt.spaced (omega (arith, ap length w.spelt.whole)) in
    let r = asks-through fs w in
    let q : taken n ≡ taken r.end = inv h ∙ ap (behind_pieces begin) same ∙ r.reaches in
    let u : n ≡ r.end = cc in
    let v : unfinished ≡ goal fs = inv b ∙ ap meaning u ∙ r.means in
    let z : ◌≡◌ {A = ℕ} 0 1 = cc in
    omega arith

nothing-there : {n : State} (b : ℕ) (y : List ℕ) → Goes_on n b y → class b ≡ nothing → ⊥
nothing-there b y g k =
    let q : unexpected ≡ front g.piece g.rest = ap (λ (c : Class). cut c b y) (inv k) ∙ g.stands in
    let z : ◌≡◌ {A = ℕ} 0 1 = cc in
    omega arith

-- Where the reader stops

-- what the reader has gone through, and what is left
module _ (text left : List ℕ) (ps : List Piece) (n : State) (whole : text ≡ bytes ps ++ left) (sp : SpacedTo ps left) (h : behind_pieces begin ps ≡ taken n) where
  -- no text begins with the pieces and these bytes
  abbrev Hopeless : ℕ → List ℕ → Type 0
  Hopeless b c = (y : List ℕ) → Goes_on n b (c ++ y) → ⊥

  further : (b : ℕ) (c x : List ℕ) → left ≡ b ∷ c ++ x → Hopeless b c → Viable (bytes ps ++ (b ∷ c)) → ⊥
  further b c x e never v =
      let w = rw (append_assoc (bytes ps) (b ∷ c) v.rest) at v.asks in
      never v.rest (going_on ps n b (c ++ x) (c ++ v.rest) v.formulas (rw e at sp) h w)

  -- at the first byte that is left
  first_byte : (b : ℕ) (x : List ℕ) → left ≡ b ∷ x → Hopeless b [] → Unexpected text (length (bytes ps))
  first_byte b x e never =
      let t : text ≡ bytes ps ++ b ∷ x = whole ∙ ap (λ (l : List ℕ). bytes ps ++ l) e in
      let u : text ≡ (bytes ps ++ (b ∷ [])) ++ x = t ∙ inv (append_assoc (bytes ps) (b ∷ []) x) in
      no_further
      (omega (arith, ap length t, length-append (bytes ps) (b ∷ x)))
      (rw (ap (take (length (bytes ps))) t ∙ take_at (bytes ps) (b ∷ x) (length (bytes ps)) refl) (viable-here ps left n sp h))
      (λ v. further b [] x e never (rw (ap (take (suc (length (bytes ps)))) u ∙ take_at (bytes ps ++ (b ∷ [])) x (suc (length (bytes ps))) (omega (arith, length-append (bytes ps) (b ∷ [])))) at v))

  -- at the second
  second_byte : (b : ℕ) (x : List ℕ) → left ≡ b ∷ x → ((d : ℕ) (z : List ℕ) → x ≡ d ∷ z → Hopeless b (d ∷ [])) → (x ≡ [] → (fs : List Formula) → Asks text fs → ⊥) →
      Viable (bytes ps ++ (b ∷ [])) → Unexpected text (length (bytes ps) + 1)
  second_byte b [] e never end v =
      let t : text ≡ bytes ps ++ b ∷ [] = whole ∙ ap (λ (l : List ℕ). bytes ps ++ l) e in
      too_early (omega (arith, ap length t, length-append (bytes ps) (b ∷ []))) (rw t v) (end refl)
  second_byte b (d ∷ z) e never end v =
      let t : text ≡ (bytes ps ++ (b ∷ [])) ++ d ∷ z = whole ∙ ap (λ (l : List ℕ). bytes ps ++ l) e ∙ inv (append_assoc (bytes ps) (b ∷ []) (d ∷ z)) in
      let u : text ≡ (bytes ps ++ (b ∷ d ∷ [])) ++ z = whole ∙ ap (λ (l : List ℕ). bytes ps ++ l) e ∙ inv (append_assoc (bytes ps) (b ∷ d ∷ []) z) in
      let k : length (bytes ps ++ (b ∷ [])) ≡ length (bytes ps) + 1 = omega (arith, length-append (bytes ps) (b ∷ [])) in
      no_further
      (omega (arith, ap length t, length-append (bytes ps ++ (b ∷ [])) (d ∷ z)))
      (rw (ap (take (length (bytes ps) + 1)) t ∙ take_at (bytes ps ++ (b ∷ [])) (d ∷ z) (length (bytes ps) + 1) k) v)
      (λ v.
      further b (d ∷ []) z e (never d z refl)
      (rw (ap (take (suc (length (bytes ps) + 1))) u ∙ take_at (bytes ps ++ (b ∷ d ∷ [])) z (suc (length (bytes ps) + 1)) (omega (arith, length-append (bytes ps) (b ∷ d ∷ [])))) at v))

  pub strange-means : (b : ℕ) (x : List ℕ) → left ≡ b ∷ x → class b ≡ nothing → Unexpected text (length (bytes ps))
  strange-means b x e k = first_byte b x e (λ y g. nothing-there b y g k)

  pub misplaced-means : (b : ℕ) (x r : List ℕ) (t : Token) → left ≡ b ∷ x → front_of (b ∷ x) ≡ front (token t) r → step n t ≡ wrong → Unexpected text (length (bytes ps))
  misplaced-means b x r t e f w =
      first_byte b x e (λ y g. g.takes (wrong-behind n g.piece (alike n b x y t g.piece g.rest (step-wrong n t w) (class b) r f g.stands)))

  pub half-misplaced-means : (b : ℕ) (x : List ℕ) (t : Token) → left ≡ b ∷ x → front_of (b ∷ x) ≡ broken t → step n t ≡ wrong → Unexpected text (length (bytes ps))
  half-misplaced-means b x t e f w =
      first_byte b x e (λ y g. g.takes (wrong-behind n g.piece (half-alike n b x y t g.piece g.rest (step-wrong n t w) (class b) f g.stands)))

  pub half-means : (b : ℕ) (x : List ℕ) (t : Token) (m : State) → left ≡ b ∷ x → front_of (b ∷ x) ≡ broken t → step n t ≡ taken m → Unexpected text (length (bytes ps) + 1)
  half-means b x t m e f w =
      second_byte b x e
      (λ d z q y g. clash (inv (two_bytes (class b) b d z y t (ap (cut (class b) b) (inv q) ∙ f)) ∙ g.stands))
      (λ q fs a. clash (inv (ap (cut (class b) b) (inv q) ∙ f) ∙ (going_on ps n b x [] fs (rw e at sp) h (rw (whole ∙ ap (λ (l : List ℕ). bytes ps ++ l) (e ∙ ap (λ (l : List ℕ). b ∷ l) q)) at a)).stands))
      (viable-half ps b x n m t (rw e at sp) h w (rw f at (shown (b ∷ x))))

  pub early-means : left ≡ [] → meaning n ≡ unfinished → Unexpected text (length (bytes ps))
  early-means e b =
      let t : text ≡ bytes ps = whole ∙ ap (λ (l : List ℕ). bytes ps ++ l) e ∙ append-nil (bytes ps) in
      too_early (inv (ap length t)) (rw t (viable-here ps left n sp h)) (not-whole text ps n t (end-spaced ps (rw e at sp)) h b)
