-- The few modes go as the reader's states do.
use Rattle.std.specs.Prelude.{ℕ, zero, suc, ◌+◌, ◌≡◌, refl, Bool, true, false, List, [], ◌∷◌, length}
use Rattle.std.proofs.Common.{sym as inv, ap, ◌∙◌, true≢false}
use Rattle.grammar.specs.Token.{Token, name, variable, opening, closing, comma, arrow, stop, token, blank, comment, spelt}
use Rattle.grammar.specs.Front.{Front, front, broken, unexpected, front_of}
use Rattle.grammar.specs.Syntax.{Terms, none, Rule}
use Rattle.reading.specs.Part.{Done, none_yet, and_variable, and_name, Part, formulas, inside, State, state, terms_of, put, filled, Taken, taken, wrong, settle}
use Rattle.reading.specs.Part as Part
use Rattle.reading.specs.Reader.{long, judge_taken}
use Rattle.asking.specs.Asking.{begin, step, goal, unfinished, meaning, Tally, tally, counted, limit, Outcome, read, refused, breaks, go_on, from_front, walk}
use Rattle.asking.specs.Asking as Asking
use Rattle.halfway.specs.declared.Mode.{Mode}
use Rattle.halfway.specs.declared.Mode.TheVariants.{Begin, Expects, Named, Complete, Over, Wrong}
use Rattle.halfway.specs.Machine.{settled, after, deep, may_end, Answer, told, sized, judged, half, from, ended, pass}

-- as many brackets are open, and the root has a formula
abbrev Deep : Part → List ℕ → Type 0
Deep (formulas []) bs = ⊥
Deep (formulas (f ∷ fs)) [] = Unit {0}
Deep (formulas (f ∷ fs)) (b ∷ bs) = ⊥
Deep (inside p v d) [] = ⊥
Deep (inside p v d) (b ∷ bs) = Deep p bs

-- a formula of the query, or an argument, is there
abbrev Ripe : Part → Type 0
Ripe (formulas []) = ⊥
Ripe (formulas (f ∷ [])) = ⊥
Ripe (formulas (f ∷ g ∷ fs)) = Unit {0}
Ripe (inside p v d) = filled d ≡ true

pub data Sim : State → Mode → List ℕ → Type 0 where
  begins : Sim begin Begin []
  expecting : {p : Part} {bs : List ℕ} → Deep p bs → Sim (state [] p Part.expects) Expects bs
  naming : {p : Part} {w bs : List ℕ} → Deep p bs → Sim (state [] p (Part.named w)) Named bs
  completing : {p : Part} {bs : List ℕ} → Deep p bs → Ripe p → Sim (state [] p Part.complete) Complete bs
  over : {c : Rule} → Sim (state (c ∷ []) (formulas []) Part.complete) Over []

put-deep : (p : Part) (w : List ℕ) (own : Terms) (bs : List ℕ) → Deep p bs → Deep (put p w own) bs
put-deep (formulas []) w own bs h = absurd h
put-deep (formulas (f ∷ fs)) w own [] h = tt
put-deep (formulas (f ∷ fs)) w own (b ∷ bs) h = absurd h
put-deep (inside p v d) w own [] h = absurd h
put-deep (inside p v d) w own (b ∷ bs) h = h

put-ripe : (p : Part) (w : List ℕ) (own : Terms) (bs : List ℕ) → Deep p bs → Ripe (put p w own)
put-ripe (formulas []) w own bs h = absurd h
put-ripe (formulas (f ∷ fs)) w own bs h = tt
put-ripe (inside p v d) w own bs h = refl

pub settle-sim : {s : State} {m : Mode} {bs : List ℕ} → Sim s m bs → Sim (settle s) (settled m) bs
settle-sim begins = begins
settle-sim (expecting h) = expecting h
settle-sim (naming {p} {w} {bs} h) = completing (put-deep p w none bs h) (put-ripe p w none bs h)
settle-sim (completing h r) = completing h r
settle-sim over = over

-- what a token leads to, on both sides
pub data Goes (bs : List ℕ) : Taken → Mode → Type 0 where
  both_wrong : Goes bs wrong Wrong
  both_go : {n : State} {m : Mode} → Sim n m bs → Goes bs (taken n) m

behind-closing : (p : Part) (bs : List ℕ) → Deep p bs → Ripe p → Goes (Asking.closed bs) (step (state [] p Part.complete) closing) (after Complete (deep bs) closing)
behind-closing (formulas []) bs h r = absurd h
behind-closing (formulas (f ∷ fs)) [] h r = both_wrong
behind-closing (formulas (f ∷ fs)) (b ∷ bs) h r = absurd h
behind-closing (inside p v d) [] h r = absurd h
behind-closing (inside p v none_yet) (b ∷ bs) h r = absurd (true≢false (inv r))
behind-closing (inside p v (and_variable d w)) (b ∷ bs) h r = both_go (completing (put-deep p v (terms_of (and_variable d w) none) bs h) (put-ripe p v (terms_of (and_variable d w) none) bs h))
behind-closing (inside p v (and_name d w own)) (b ∷ bs) h r = both_go (completing (put-deep p v (terms_of (and_name d w own) none) bs h) (put-ripe p v (terms_of (and_name d w own) none) bs h))

-- the brackets behind a comma
abbrev comma_brackets : List ℕ → List ℕ
comma_brackets [] = []
comma_brackets (b ∷ bs) = suc b ∷ bs

deep-comma : (p : Part) (bs : List ℕ) → Deep p bs → Deep p (comma_brackets bs)
deep-comma (formulas []) bs h = absurd h
deep-comma (formulas (f ∷ fs)) [] h = tt
deep-comma (formulas (f ∷ fs)) (b ∷ bs) h = absurd h
deep-comma (inside p v d) [] h = absurd h
deep-comma (inside p v d) (b ∷ bs) h = h

behind-comma : (p : Part) (bs : List ℕ) → Deep p bs → Ripe p → Goes (comma_brackets bs) (step (state [] p Part.complete) comma) (after Complete (deep bs) comma)
behind-comma (formulas []) bs h r = absurd h
behind-comma (formulas (f ∷ [])) bs h r = absurd r
behind-comma (formulas (f ∷ g ∷ fs)) bs h r = both_go (expecting (deep-comma (formulas (f ∷ g ∷ fs)) bs h))
behind-comma (inside p v none_yet) bs h r = absurd (true≢false (inv r))
behind-comma (inside p v (and_variable d w)) bs h r = both_go (expecting (deep-comma (inside p v (and_variable d w)) bs h))
behind-comma (inside p v (and_name d w own)) bs h r = both_go (expecting (deep-comma (inside p v (and_name d w own)) bs h))

behind-arrow : (p : Part) (bs : List ℕ) → Ripe p → Goes bs (step (state [] p Part.complete) arrow) Wrong
behind-arrow (formulas []) bs r = absurd r
behind-arrow (formulas (f ∷ [])) bs r = absurd r
behind-arrow (formulas (f ∷ g ∷ fs)) bs r = both_wrong
behind-arrow (inside p v d) bs r = both_wrong

behind-stop : (p : Part) (bs : List ℕ) → Deep p bs → Ripe p → Goes bs (step (state [] p Part.complete) stop) (after Complete (deep bs) stop)
behind-stop (formulas []) bs h r = absurd h
behind-stop (formulas (f ∷ fs)) [] h r = both_go over
behind-stop (formulas (f ∷ fs)) (b ∷ bs) h r = absurd h
behind-stop (inside p v d) [] h r = absurd h
behind-stop (inside p v d) (b ∷ bs) h r = both_wrong

-- the brackets behind a token
abbrev pub brackets_after : List ℕ → Token → List ℕ
brackets_after bs (name w) = bs
brackets_after bs (variable w) = bs
brackets_after bs opening = 0 ∷ bs
brackets_after bs closing = Asking.closed bs
brackets_after bs comma = comma_brackets bs
brackets_after bs arrow = bs
brackets_after bs stop = bs

pub counted-brackets : (y : Tally) (t : Token) → (counted y t).brackets ≡ brackets_after y.brackets t
counted-brackets y (name w) = refl
counted-brackets y (variable w) = refl
counted-brackets y opening = refl
counted-brackets y closing = refl
counted-brackets y comma = by y.brackets
  where
    by : (bs : List ℕ) → (Asking.with_comma y.outside bs y.words).brackets ≡ comma_brackets bs
    by [] = refl
    by (b ∷ bs) = refl
counted-brackets y arrow = refl
counted-brackets y stop = refl

complete-goes : (p : Part) (bs : List ℕ) (t : Token) → Deep p bs → Ripe p → Goes (brackets_after bs t) (step (state [] p Part.complete) t) (after Complete (deep bs) t)
complete-goes p bs (name w) h r = both_wrong
complete-goes p bs (variable w) h r = both_wrong
complete-goes p bs opening h r = both_wrong
complete-goes p bs closing h r = behind-closing p bs h r
complete-goes p bs comma h r = behind-comma p bs h r
complete-goes p bs arrow h r = behind-arrow p bs r
complete-goes p bs stop h r = behind-stop p bs h r

variable-goes : (p : Part) (bs w : List ℕ) → Deep p bs → Goes bs (step (state [] p Part.expects) (variable w)) (after Expects (deep bs) (variable w))
variable-goes (formulas []) bs w h = absurd h
variable-goes (formulas (f ∷ fs)) [] w h = both_wrong
variable-goes (formulas (f ∷ fs)) (b ∷ bs) w h = absurd h
variable-goes (inside p v d) [] w h = absurd h
variable-goes (inside p v d) (b ∷ bs) w h = both_go (completing h refl)

pub goes : {s : State} {m : Mode} {bs : List ℕ} (t : Token) → Sim s m bs → Goes (brackets_after bs t) (step s t) (after m (deep bs) t)
goes (name w) begins = both_go (naming tt)
goes (variable w) begins = both_wrong
goes opening begins = both_wrong
goes closing begins = both_wrong
goes comma begins = both_wrong
goes arrow begins = both_wrong
goes stop begins = both_wrong
goes (name w) (expecting h) = both_go (naming h)
goes (variable w) (expecting {p} {bs} h) = variable-goes p bs w h
goes opening (expecting h) = both_wrong
goes closing (expecting h) = both_wrong
goes comma (expecting h) = both_wrong
goes arrow (expecting h) = both_wrong
goes stop (expecting h) = both_wrong
goes (name v) (naming h) = both_wrong
goes (variable v) (naming h) = both_wrong
goes opening (naming h) = both_go (expecting h)
goes closing (naming {p} {w} {bs} h) = complete-goes (put p w none) bs closing (put-deep p w none bs h) (put-ripe p w none bs h)
goes comma (naming {p} {w} {bs} h) = complete-goes (put p w none) bs comma (put-deep p w none bs h) (put-ripe p w none bs h)
goes arrow (naming {p} {w} {bs} h) = complete-goes (put p w none) bs arrow (put-deep p w none bs h) (put-ripe p w none bs h)
goes stop (naming {p} {w} {bs} h) = complete-goes (put p w none) bs stop (put-deep p w none bs h) (put-ripe p w none bs h)
goes t (completing {p} {bs} h r) = complete-goes p bs t h r
goes (name w) over = both_wrong
goes (variable w) over = both_wrong
goes opening over = both_wrong
goes closing over = both_wrong
goes comma over = both_wrong
goes arrow over = both_wrong
goes stop over = both_wrong

-- The text's end

whole-ends : (p : Part) (bs : List ℕ) (at : ℕ) → Deep p bs → ended (may_end Complete (deep bs)) at ≡ told (Asking.ended (Asking.meant_whole [] p) at)
whole-ends (formulas []) bs at h = absurd h
whole-ends (formulas (f ∷ fs)) [] at h = refl
whole-ends (formulas (f ∷ fs)) (b ∷ bs) at h = absurd h
whole-ends (inside p v d) [] at h = absurd h
whole-ends (inside p v d) (b ∷ bs) at h = refl

named_end : (bs : List ℕ) → may_end Named (deep bs) ≡ may_end Complete (deep bs)
named_end [] = refl
named_end (b ∷ bs) = refl

pub ends : {s : State} {m : Mode} {bs : List ℕ} (at : ℕ) → Sim s m bs → ended (may_end m (deep bs)) at ≡ told (Asking.ended (meaning s) at)
ends at begins = refl
ends at (expecting h) = refl
ends at (naming {p} {w} {bs} h) = ap (λ (z : Bool). ended z at) (named_end bs) ∙ whole-ends (put p w none) bs at (put-deep p w none bs h)
ends at (completing {p} {bs} h r) = whole-ends p bs at h
ends at over = refl

-- The whole text

abbrev Passes : ℕ → Type 0
Passes k = (s : State) (m : Mode) (y : Tally) (at : ℕ) (rest : List ℕ) → Sim s m y.brackets → pass k m y at rest ≡ told (walk k s y at rest)

sized-told : (c : ℕ) (l : Bool) (at : ℕ) (n : State) (f : State → Outcome) (x : Answer) → x ≡ told (f n) → sized c l at x ≡ told (go_on (judge_taken (taken n) c l at) f)
sized-told zero false at n f x e = e
sized-told zero true at n f x e = refl
sized-told (suc c) l at n f x e = refl

judged-told : {bs : List ℕ} (k : Taken) (m : Mode) (c : ℕ) (l : Bool) (at : ℕ) (f : State → Outcome) (g : Mode → Answer) → Goes bs k m → ((n : State) (j : Mode) → Sim n j bs → g j ≡ told (f n)) →
    judged m c l at g ≡ told (go_on (judge_taken k c l at) f)
judged-told k m c l at f g both_wrong e = refl
judged-told k m c l at f g (both_go {n} begins) e = sized-told c l at n f (g Begin) (e n Begin begins)
judged-told k m c l at f g (both_go {n} (expecting h)) e = sized-told c l at n f (g Expects) (e n Expects (expecting h))
judged-told k m c l at f g (both_go {n} (naming h)) e = sized-told c l at n f (g Named) (e n Named (naming h))
judged-told k m c l at f g (both_go {n} (completing h r)) e = sized-told c l at n f (g Complete) (e n Complete (completing h r))
judged-told k m c l at f g (both_go {n} over) e = sized-told c l at n f (g Over) (e n Over over)

half-told : {bs : List ℕ} (k : Taken) (m : Mode) (at : ℕ) → Goes bs k m → half m at ≡ told (breaks k at)
half-told k m at both_wrong = refl
half-told k m at (both_go begins) = refl
half-told k m at (both_go (expecting h)) = refl
half-told k m at (both_go (naming h)) = refl
half-told k m at (both_go (completing h r)) = refl
half-told k m at (both_go over) = refl

module _ (k : ℕ) (more : Passes k) (s : State) (m : Mode) (y : Tally) (at : ℕ) (h : Sim s m y.brackets) where
  front-told : (f : Front) → from m y at f (pass k) ≡ told (from_front s y at f (walk k))
  front-told (front (token t) rest) =
      judged-told (step s t) (after m (deep y.brackets) t) (limit y t) (long t) at (λ n. walk k n (counted y t) (at + length (spelt (token t))) rest)
      (λ n. pass k n (counted y t) (at + length (spelt (token t))) rest) (goes t h)
      (λ n j q. more n j (counted y t) (at + length (spelt (token t))) rest (rw (counted-brackets y t) q))
  front-told (front (blank b) rest) = more (settle s) (settled m) y (at + 1) rest (settle-sim h)
  front-told (front (comment c) rest) = more (settle s) (settled m) y (at + length (spelt (comment c))) rest (settle-sim h)
  front-told (broken t) = half-told (step s t) (after m (deep y.brackets) t) at (goes t h)
  front-told unexpected = refl

pub passes : (k : ℕ) → Passes k
passes zero s m y at rest h = ends at h
passes (suc k) s m y at [] h = ends at h
passes (suc k) s m y at (b ∷ rest) h = front-told k (passes k) s m y at h (front_of (b ∷ rest))
