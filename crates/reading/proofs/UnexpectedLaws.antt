-- The reader's code 41 stands at the first byte with which no text of the grammar can go on.
use Rattle.std.specs.Prelude.{ℕ, suc, ◌+◌, ◌≡◌, refl, List, [], ◌∷◌, ◌++◌, length, take, eqb}
use Rattle.std.proofs.Common.{sym as inv, ap, ◌∙◌, append_assoc, append-nil, arith, length-append, take_at}
use Rattle.terms.specs.Cases.{cases}
use Rattle.grammar.specs.Byte.{goes_on}
use Rattle.grammar.specs.Token.{Token, name, variable, opening, closing, comma, arrow, stop, Piece, token, blank, comment, bytes, after_stop, Fits, Spaced}
use Rattle.grammar.specs.TokenLaws.{Stays, pieces_are}
use Rattle.grammar.specs.Front.{front, broken, unexpected, Class, a_bracket, a_name, a_variable, a_blank, a_comment, a_closing, a_comma, a_stop, an_arrow, nothing, class, cut, front_of, stop_at, arrow_at, pieces_of, run}
use Rattle.grammar.specs.FrontLaws.{shown}
use Rattle.grammar.specs.Syntax.{Rule}
use Rattle.grammar.specs.Reading.{Writes}
use Rattle.reading.specs.Part.{Part, Mode, between, expects, named, complete, State, state, start, taken, wrong, inside, formulas, next}
use Rattle.reading.proofs.Stop.{SpacedTo, behind_piece, behind_pieces}
use Rattle.reading.proofs.Viable.{Viable, Came, came, viable-here, viable-half}
use Rattle.reading.proofs.GoesLaws.{turned, writes-goes}
use Rattle.reading.proofs.Unexpected.{Unexpected, too_early, no_further, Goes_on, going_on}

-- Whether a word is wrong does not depend on its bytes

name-alike : (cs : List Rule) (p : Part) (m : Mode) (v w : List ℕ) → next cs p m (name v) ≡ wrong → next cs p m (name w) ≡ wrong
name-alike cs p between v w e = let z : ◌≡◌ {A = ℕ} 0 1 = cc in absurd (omega arith)
name-alike cs p expects v w e = let z : ◌≡◌ {A = ℕ} 0 1 = cc in absurd (omega arith)
name-alike cs p (named u) v w e = refl
name-alike cs p complete v w e = refl

variable-alike : (cs : List Rule) (p : Part) (m : Mode) (v w : List ℕ) → next cs p m (variable v) ≡ wrong → next cs p m (variable w) ≡ wrong
variable-alike cs p between v w e = refl
variable-alike cs (formulas fs) expects v w e = refl
variable-alike cs (inside p u d) expects v w e = let z : ◌≡◌ {A = ℕ} 0 1 = cc in absurd (omega arith)
variable-alike cs p (named u) v w e = refl
variable-alike cs p complete v w e = refl

-- What one byte, or two, begin

pub clash : {X : Type 0} {t : Token} {p : Piece} {r : List ℕ} → broken t ≡ front p r → X
clash e = let z : ◌≡◌ {A = ℕ} 0 1 = cc in absurd (omega arith)

stop-only : (x : List ℕ) (p : Piece) (r : List ℕ) → stop_at x ≡ front p r → p ≡ token stop
stop-only [] p r e = cc
stop-only (d ∷ x) p r e = cases (after_stop d) (λ h. let q : front (token stop) (d ∷ x) ≡ front p r = rw h at e in cc) (λ h. clash (let q : broken stop ≡ front p r = rw h at e in q))

arrow-only : (x : List ℕ) (p : Piece) (r : List ℕ) → arrow_at x ≡ front p r → p ≡ token arrow
arrow-only [] p r e = clash e
arrow-only (d ∷ x) p r e = cases (eqb d 45) (λ h. let q : front (token arrow) x ≡ front p r = rw h at e in cc) (λ h. clash (let q : broken arrow ≡ front p r = rw h at e in q))

stop-half : (x : List ℕ) (t : Token) → stop_at x ≡ broken t → t ≡ stop
stop-half [] t e = clash (inv e)
stop-half (d ∷ x) t e = cases (after_stop d) (λ h. clash (inv (let q : front (token stop) (d ∷ x) ≡ broken t = rw h at e in q))) (λ h. let q : broken stop ≡ broken t = rw h at e in cc)

arrow-half : (x : List ℕ) (t : Token) → arrow_at x ≡ broken t → t ≡ arrow
arrow-half [] t e = cc
arrow-half (d ∷ x) t e = cases (eqb d 45) (λ h. clash (inv (let q : front (token arrow) x ≡ broken t = rw h at e in q))) (λ h. let q : broken arrow ≡ broken t = rw h at e in cc)

-- the same first byte begins what is wrong there too
module _ (n : State) (b : ℕ) (x y : List ℕ) (t : Token) (q : Piece) (r : List ℕ) (w : next n.rules n.part n.mode t ≡ wrong) where
  same-token : (u : Token) → t ≡ u → q ≡ token u → behind_piece n q ≡ wrong
  same-token u e f = ap (behind_piece n) (f ∙ ap token (inv e)) ∙ w

  pub alike : (k : Class) (l : List ℕ) → cut k b x ≡ front (token t) l → cut k b y ≡ front q r → behind_piece n q ≡ wrong
  alike a_bracket l e f = same-token opening (cc) (cc)
  alike a_name l e f =
      let g : t ≡ name (b ∷ run goes_on x) = cc in
      let h : q ≡ token (name (b ∷ run goes_on y)) = cc in
      rw h (name-alike n.rules n.part n.mode (b ∷ run goes_on x) (b ∷ run goes_on y) (rw g at w))
  alike a_variable l e f =
      let g : t ≡ variable (b ∷ run goes_on x) = cc in
      let h : q ≡ token (variable (b ∷ run goes_on y)) = cc in
      rw h (variable-alike n.rules n.part n.mode (b ∷ run goes_on x) (b ∷ run goes_on y) (rw g at w))
  alike a_blank l e f = let z : ◌≡◌ {A = ℕ} 0 1 = cc in absurd (omega arith)
  alike a_comment l e f = let z : ◌≡◌ {A = ℕ} 0 1 = cc in absurd (omega arith)
  alike a_closing l e f = same-token closing (cc) (cc)
  alike a_comma l e f = same-token comma (cc) (cc)
  alike a_stop l e f = same-token stop (let h = stop-only x (token t) l e in cc) (stop-only y q r f)
  alike an_arrow l e f = same-token arrow (let h = arrow-only x (token t) l e in cc) (arrow-only y q r f)
  alike nothing l e f = let z : ◌≡◌ {A = ℕ} 0 1 = cc in absurd (omega arith)

  pub half-alike : (k : Class) → cut k b x ≡ broken t → cut k b y ≡ front q r → behind_piece n q ≡ wrong
  half-alike a_bracket e f = clash (inv e)
  half-alike a_name e f = clash (inv e)
  half-alike a_variable e f = clash (inv e)
  half-alike a_blank e f = clash (inv e)
  half-alike a_comment e f = clash (inv e)
  half-alike a_closing e f = clash (inv e)
  half-alike a_comma e f = clash (inv e)
  half-alike a_stop e f = same-token stop (stop-half x t e) (stop-only y q r f)
  half-alike an_arrow e f = same-token arrow (arrow-half x t e) (arrow-only y q r f)
  half-alike nothing e f = let z : ◌≡◌ {A = ℕ} 0 1 = cc in absurd (omega arith)

pub two_bytes : (k : Class) (b d : ℕ) (x y : List ℕ) (t : Token) → cut k b (d ∷ x) ≡ broken t → cut k b (d ∷ y) ≡ broken t
two_bytes a_bracket b d x y t e = clash (inv e)
two_bytes a_name b d x y t e = clash (inv e)
two_bytes a_variable b d x y t e = clash (inv e)
two_bytes a_blank b d x y t e = clash (inv e)
two_bytes a_comment b d x y t e = clash (inv e)
two_bytes a_closing b d x y t e = clash (inv e)
two_bytes a_comma b d x y t e = clash (inv e)
two_bytes a_stop b d x y t e =
    cases (after_stop d) (λ h. clash (inv (let q : front (token stop) (d ∷ x) ≡ broken t = rw h at e in q))) (λ h. rw h (let q : broken stop ≡ broken t = rw h at e in q))
two_bytes an_arrow b d x y t e =
    cases (eqb d 45) (λ h. clash (inv (let q : front (token arrow) x ≡ broken t = rw h at e in q))) (λ h. rw h (let q : broken arrow ≡ broken t = rw h at e in q))
two_bytes nothing b d x y t e = e

-- A text that ends early

end_fits : (p : Piece) → Stays p [] → Fits p []
end_fits (token t) h = h
end_fits (blank b) h = (h, tt)
end_fits (comment c) h = h

pub end-spaced : (ps : List Piece) → SpacedTo ps [] → Spaced ps
end-spaced [] h = tt
end-spaced (p ∷ []) h = (end_fits p h, tt)
end-spaced (p ∷ q ∷ ps) h = (rw (append-nil (bytes (q ∷ ps))) at h.0, end-spaced (q ∷ ps) h.1)

not-whole : (text : List ℕ) (ps : List Piece) (n : State) → text ≡ bytes ps → Spaced ps → behind_pieces start ps ≡ taken n → (n.mode ≡ between → ⊥) → (cs : List Rule) → Writes text cs → ⊥
not-whole text ps n e sp h b cs w =
    let same : ps ≡ w.pieces =
    inv (pieces_are (length text) ps sp (omega (arith, ap length e)))
    ∙ ap (pieces_of (length text)) (inv e ∙ w.whole)
    ∙ pieces_are (length text) w.pieces w.spaced (omega (arith, ap length w.whole)) in
    let q : taken n ≡ taken (state (turned [] cs) (formulas []) between) = inv h ∙ ap (behind_pieces start) same ∙ writes-goes cs w in
    let r : n ≡ state (turned [] cs) (formulas []) between = cc in
    b (ap (λ (z : State). z.mode) r)

nothing-there : {n : State} (b : ℕ) (y : List ℕ) → Goes_on n b y → class b ≡ nothing → ⊥
nothing-there b y g k =
    let q : unexpected ≡ front g.piece g.rest = ap (λ (c : Class). cut c b y) (inv k) ∙ g.stands in
    let z : ◌≡◌ {A = ℕ} 0 1 = cc in
    omega arith

-- Where the reader stops

-- what the reader has gone through, and what is left
module _ (text left : List ℕ) (ps : List Piece) (n : State) (whole : text ≡ bytes ps ++ left) (sp : SpacedTo ps left) (h : behind_pieces start ps ≡ taken n) where
  begun : Came start ps n
  begun = came ps start n refl h

  -- no text begins with the pieces and these bytes
  abbrev Hopeless : ℕ → List ℕ → Type 0
  Hopeless b c = (y : List ℕ) → Goes_on n b (c ++ y) → ⊥

  further : (b : ℕ) (c x : List ℕ) → left ≡ b ∷ c ++ x → Hopeless b c → Viable (bytes ps ++ (b ∷ c)) → ⊥
  further b c x e never v =
      let w = rw (append_assoc (bytes ps) (b ∷ c) v.rest) at v.writes in
      never v.rest (going_on ps n b (c ++ x) (c ++ v.rest) v.rules (rw e at sp) h w)

  -- at the first byte that is left
  first_byte : (b : ℕ) (x : List ℕ) → left ≡ b ∷ x → Hopeless b [] → Unexpected text (length (bytes ps))
  first_byte b x e never =
      let t : text ≡ bytes ps ++ b ∷ x = whole ∙ ap (λ (l : List ℕ). bytes ps ++ l) e in
      let u : text ≡ (bytes ps ++ (b ∷ [])) ++ x = t ∙ inv (append_assoc (bytes ps) (b ∷ []) x) in
      no_further
      (omega (arith, ap length t, length-append (bytes ps) (b ∷ x)))
      (rw (ap (take (length (bytes ps))) t ∙ take_at (bytes ps) (b ∷ x) (length (bytes ps)) refl) (viable-here ps left n sp begun))
      (λ v. further b [] x e never (rw (ap (take (suc (length (bytes ps)))) u ∙ take_at (bytes ps ++ (b ∷ [])) x (suc (length (bytes ps))) (omega (arith, length-append (bytes ps) (b ∷ [])))) at v))

  -- at the second
  second_byte : (b : ℕ) (x : List ℕ) → left ≡ b ∷ x → ((d : ℕ) (z : List ℕ) → x ≡ d ∷ z → Hopeless b (d ∷ [])) → (x ≡ [] → (cs : List Rule) → Writes text cs → ⊥) →
      Viable (bytes ps ++ (b ∷ [])) → Unexpected text (length (bytes ps) + 1)
  second_byte b [] e never end v =
      let t : text ≡ bytes ps ++ b ∷ [] = whole ∙ ap (λ (l : List ℕ). bytes ps ++ l) e in
      too_early (omega (arith, ap length t, length-append (bytes ps) (b ∷ []))) (rw t v) (end refl)
  second_byte b (d ∷ z) e never end v =
      let t : text ≡ (bytes ps ++ (b ∷ [])) ++ d ∷ z = whole ∙ ap (λ (l : List ℕ). bytes ps ++ l) e ∙ inv (append_assoc (bytes ps) (b ∷ []) (d ∷ z)) in
      let u : text ≡ (bytes ps ++ (b ∷ d ∷ [])) ++ z = whole ∙ ap (λ (l : List ℕ). bytes ps ++ l) e ∙ inv (append_assoc (bytes ps) (b ∷ d ∷ []) z) in
      let k : length (bytes ps ++ (b ∷ [])) ≡ length (bytes ps) + 1 = omega (arith, length-append (bytes ps) (b ∷ [])) in
      no_further
      (omega (arith, ap length t, length-append (bytes ps ++ (b ∷ [])) (d ∷ z)))
      (rw (ap (take (length (bytes ps) + 1)) t ∙ take_at (bytes ps ++ (b ∷ [])) (d ∷ z) (length (bytes ps) + 1) k) v)
      (λ v.
      further b (d ∷ []) z e (never d z refl)
      (rw (ap (take (suc (length (bytes ps) + 1))) u ∙ take_at (bytes ps ++ (b ∷ d ∷ [])) z (suc (length (bytes ps) + 1)) (omega (arith, length-append (bytes ps) (b ∷ d ∷ [])))) at v))

  pub strange-means : (b : ℕ) (x : List ℕ) → left ≡ b ∷ x → class b ≡ nothing → Unexpected text (length (bytes ps))
  strange-means b x e k = first_byte b x e (λ y g. nothing-there b y g k)

  pub misplaced-means : (b : ℕ) (x r : List ℕ) (t : Token) → left ≡ b ∷ x → front_of (b ∷ x) ≡ front (token t) r → next n.rules n.part n.mode t ≡ wrong → Unexpected text (length (bytes ps))
  misplaced-means b x r t e f w = first_byte b x e (λ y g. g.takes (alike n b x y t g.piece g.rest w (class b) r f g.stands))

  pub half-misplaced-means : (b : ℕ) (x : List ℕ) (t : Token) → left ≡ b ∷ x → front_of (b ∷ x) ≡ broken t → next n.rules n.part n.mode t ≡ wrong → Unexpected text (length (bytes ps))
  half-misplaced-means b x t e f w = first_byte b x e (λ y g. g.takes (half-alike n b x y t g.piece g.rest w (class b) f g.stands))

  pub half-means : (b : ℕ) (x : List ℕ) (t : Token) (m : State) → left ≡ b ∷ x → front_of (b ∷ x) ≡ broken t → next n.rules n.part n.mode t ≡ taken m → Unexpected text (length (bytes ps) + 1)
  half-means b x t m e f w =
      second_byte b x e
      (λ d z q y g. clash (inv (two_bytes (class b) b d z y t (ap (cut (class b) b) (inv q) ∙ f)) ∙ g.stands))
      (λ q cs wr. clash (inv (ap (cut (class b) b) (inv q) ∙ f) ∙ (going_on ps n b x [] cs (rw e at sp) h (rw (whole ∙ ap (λ (l : List ℕ). bytes ps ++ l) (e ∙ ap (λ (l : List ℕ). b ∷ l) q)) at wr)).stands))
      (viable-half ps b x n m t (rw e at sp) begun w (rw f at (shown (b ∷ x))))

  pub early-means : left ≡ [] → (n.mode ≡ between → ⊥) → Unexpected text (length (bytes ps))
  early-means e b =
      let t : text ≡ bytes ps = whole ∙ ap (λ (l : List ℕ). bytes ps ++ l) e ∙ append-nil (bytes ps) in
      too_early (inv (ap length t)) (rw t (viable-here ps left n sp begun)) (not-whole text ps n t (end-spaced ps (rw e at sp)) h b)
