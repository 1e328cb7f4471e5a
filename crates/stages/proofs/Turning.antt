-- From tokens to the pieces of a text.
use Prim.Native.Nat.{ℕ, ◌+◌, ◌-◌, ◌≤◌, ◌<◌}
use mathlib.Core.Path.{◌≡◌, refl, sym as inv, ap, subst, ◌∙◌}
use mathlib.Core.Bool.{Bool, true, false, true≢false}
use mathlib.Core.List.{List}
use native.Mathlib.Omega.{arith}
use lib.ListN.{length}
use Rattle.grammar.specs.Token.{Token, name, variable, opening, closing, comma, arrow, stop, Piece, token, blank, comment, spelt}
use Rattle.grammar.specs.Front as Front
use Rattle.grammar.specs.Front.{front, broken, unexpected}
use Rattle.grammar.specs.Syntax.{Rule}
use Rattle.reading.specs.Part.{Part, Mode, between, expects, named, complete, State, state, Taken, taken, wrong, is_opening, next, settle}
use Rattle.reading.specs.Reader as Reader
use Rattle.reading.specs.Reader.{limit, long, going, bad, judge_taken, judge_token, judge, Outcome, refused, breaks, go_on, from_front}
use Rattle.reading.specs.RunLaws.{settle-judge}
use Rattle.pieces.specs.Found.{Inside, Shows, front_at}
use Rattle.pieces.specs.declared.Found.{Found}
use Rattle.pieces.specs.declared.Found.TheVariants as F
use Rattle.stages.specs.declared.Stage.{Stage}
use Rattle.std.specs.Prelude.{Result, Ok, Err}
use Rattle.pieces.specs.declared.Code.TheVariants.{Unexpected}
use Rattle.pieces.specs.declared.Refusal.{Refusal}
use Rattle.pieces.specs.Refusal.{number, refusal}
use Rattle.stages.specs.Stage.{Settled, Held, halved, After, is_opening_found, Turned}
use Rattle.stages.proofs.Holding.{held-settled}

-- A token

pub token-turned : (text counts vars : List ℕ) (s : State) (at : ℕ) (found : Found) (t : Token) (rest : List ℕ) (r : Result Stage Refusal) → front_at text at found ≡ front (token t) rest →
    After text counts vars (judge_token s at t) r → Turned text counts vars s at found r
token-turned text counts vars s at found t rest (Ok c) e a = record { turns = record { piece = token t; rest = rest; shown = e; after = a.0; judged = a.1; held = a.2 } }
token-turned text counts vars s at found t rest (Err k) e a =
    record { turns = λ more. ap (λ (f : Front.Front). from_front s at f more) e ∙ ap (λ (j : Reader.Judged). go_on j (λ n. more n (at + length (spelt (token t))) rest)) a }

-- A blank, or a comment

pub gap_turned : {text counts vars : List ℕ} (c : Stage) (s : State) (at : ℕ) (found : Found) (p : Piece) (rest : List ℕ) → front_at text at found ≡ front p rest → judge s at p ≡ going (settle s) →
    Held text counts vars c s → Settled c.mode → Turned text counts vars s at found (Ok c)
gap_turned {text} {counts} {vars} c s at found p rest e j h z =
    record { turns = record { piece = p; rest = rest; shown = e; after = settle s; judged = j; held = subst (Held text counts vars c) (inv (held-settled c h z)) h } }

-- Half a token

broken-off : (text counts vars : List ℕ) (n : Taken) (at : ℕ) (j : Result Stage Refusal) → After text counts vars (judge_taken n 0 false at) j → (r : Refusal) → halved j at ≡ Err r → breaks n at ≡ refused (number r.code) r.place
broken-off text counts vars (taken s) at (Ok c) a r e = let q : refusal Unexpected (at + 1) ≡ r = cc in subst (λ (x : Refusal). breaks (taken s) at ≡ refused (number x.code) x.place) q refl
broken-off text counts vars (taken s) at (Err k) a r e = let z : ◌≡◌ {A = ℕ} 0 1 = cc in absurd (omega arith)
broken-off text counts vars wrong at (Ok c) a r e = let h = a.1 in let z : ◌≡◌ {A = ℕ} 0 1 = cc in absurd (omega arith)
broken-off text counts vars wrong at (Err k) a r e = let q : refusal Unexpected at ≡ r = cc in subst (λ (x : Refusal). breaks wrong at ≡ refused (number x.code) x.place) q refl

pub half-turned : (text counts vars : List ℕ) (s : State) (at : ℕ) (found : Found) (t : Token) (j r : Result Stage Refusal) → front_at text at found ≡ broken t → limit s.rules s.part t ≡ 0 → long t ≡ false →
    After text counts vars (judge_token s at t) j → r ≡ halved j at → Turned text counts vars s at found r
half-turned text counts vars s at found t j r e l k a q = subst (Turned text counts vars s at found) (inv q) (there (halved j at) refl)
  where
    n : Taken
    n = next s.rules s.part s.mode t

    b : After text counts vars (judge_taken n 0 false at) j
    b = subst (λ (x : Bool). After text counts vars (judge_taken n 0 x at) j) k (subst (λ (x : ℕ). After text counts vars (judge_taken n x (long t) at) j) l a)

    there : (x : Result Stage Refusal) → halved j at ≡ x → Turned text counts vars s at found x
    there (Ok c) f = absurd (never j f)
      where
        never : (j : Result Stage Refusal) → halved j at ≡ Ok c → ⊥
        never (Ok d) f = let z : ◌≡◌ {A = ℕ} 0 1 = cc in omega arith
        never (Err k) f = let z : ◌≡◌ {A = ℕ} 0 1 = cc in omega arith
    there (Err k) f = record { turns = λ more. ap (λ (x : Front.Front). from_front s at x more) e ∙ broken-off text counts vars n at j b k f }

-- Before a piece that is no bracket a name stands alone

abbrev pub opening_piece : Piece → Bool
opening_piece (token t) = is_opening t
opening_piece (blank b) = false
opening_piece (comment c) = false

abbrev pub opening_front : Front.Front → Bool
opening_front (front p rest) = opening_piece p
opening_front (broken t) = is_opening t
opening_front unexpected = false

pub front-opening : (text : List ℕ) (at : ℕ) (found : Found) → opening_front (front_at text at found) ≡ is_opening_found found
front-opening text at (F.Name end) = refl
front-opening text at (F.Variable end) = refl
front-opening text at F.Space = refl
front-opening text at (F.Comment end) = refl
front-opening text at F.Opening = refl
front-opening text at F.Closing = refl
front-opening text at F.Comma = refl
front-opening text at F.Arrow = refl
front-opening text at F.Stop = refl
front-opening text at F.HalfArrow = refl
front-opening text at F.HalfStop = refl
front-opening text at F.Nothing = refl

settle_twice : (cs : List Rule) (p : Part) (m : Mode) → settle (settle (state cs p m)) ≡ settle (state cs p m)
settle_twice cs p between = refl
settle_twice cs p expects = refl
settle_twice cs p (named w) = refl
settle_twice cs p complete = refl

pub judge-settled : (s : State) (at : ℕ) (p : Piece) → opening_piece p ≡ false → judge (settle s) at p ≡ judge s at p
judge-settled s at (token t) h = settle-judge s t at h
judge-settled s at (blank b) h = ap going (settle_twice s.rules s.part s.mode)
judge-settled s at (comment c) h = ap going (settle_twice s.rules s.part s.mode)

next-settled : (cs : List Rule) (p : Part) (m : Mode) (t : Token) → is_opening t ≡ false → next cs (settle (state cs p m)).part (settle (state cs p m)).mode t ≡ next cs p m t
next-settled cs p between t h = refl
next-settled cs p expects t h = refl
next-settled cs p (named w) (name v) h = refl
next-settled cs p (named w) (variable v) h = refl
next-settled cs p (named w) opening h = absurd (true≢false h)
next-settled cs p (named w) closing h = refl
next-settled cs p (named w) comma h = refl
next-settled cs p (named w) arrow h = refl
next-settled cs p (named w) stop h = refl
next-settled cs p complete t h = refl

front-settled : (s : State) (at : ℕ) (f : Front.Front) (more : State → ℕ → List ℕ → Outcome) → opening_front f ≡ false → from_front s at f more ≡ from_front (settle s) at f more
front-settled s at (front p rest) more h = ap (λ (j : Reader.Judged). go_on j (λ n. more n (at + length (spelt p)) rest)) (inv (judge-settled s at p h))
front-settled s at (broken t) more h = ap (λ (n : Taken). breaks n at) (inv (next-settled s.rules s.part s.mode t h))
front-settled s at unexpected more h = refl

pub unsettled : (text counts vars : List ℕ) (s : State) (at : ℕ) (found : Found) (r : Result Stage Refusal) → is_opening_found found ≡ false → Turned text counts vars (settle s) at found r → Turned text counts vars s at found r
unsettled text counts vars s at found (Ok c) i x =
    let g = x.turns in
    let o : opening_piece g.piece ≡ false = ap opening_front (inv g.shown) ∙ front-opening text at found ∙ i in
    record { turns = record { piece = g.piece; rest = g.rest; shown = g.shown; after = g.after; judged = inv (judge-settled s at g.piece o) ∙ g.judged; held = g.held } }
unsettled text counts vars s at found (Err k) i x =
    record { turns = λ more. front-settled s at (front_at text at found) more (front-opening text at found ∙ i) ∙ x.turns more }

-- An opening bracket

pub is_bracket : (found : Found) → is_opening_found found ≡ true → found ≡ F.Opening
is_bracket (F.Name end) i = absurd (true≢false (inv i))
is_bracket (F.Variable end) i = absurd (true≢false (inv i))
is_bracket F.Space i = absurd (true≢false (inv i))
is_bracket (F.Comment end) i = absurd (true≢false (inv i))
is_bracket F.Opening i = refl
is_bracket F.Closing i = absurd (true≢false (inv i))
is_bracket F.Comma i = absurd (true≢false (inv i))
is_bracket F.Arrow i = absurd (true≢false (inv i))
is_bracket F.Stop i = absurd (true≢false (inv i))
is_bracket F.HalfArrow i = absurd (true≢false (inv i))
is_bracket F.HalfStop i = absurd (true≢false (inv i))
is_bracket F.Nothing i = absurd (true≢false (inv i))

-- Where the piece ends

pub inside-at : {text : List ℕ} {at : ℕ} {found g : Found} → Shows text at found → found ≡ g → Inside text at g
inside-at {text} {at} s e = subst (Inside text at) e s.inside

-- A byte that begins nothing

pub nothing-turned : (text counts vars : List ℕ) (s : State) (at : ℕ) (found : Found) (r : Refusal) → r ≡ refusal Unexpected at → front_at text at found ≡ unexpected → Turned text counts vars s at found (Err r)
nothing-turned text counts vars s at found r q e = subst (λ (x : Refusal). Turned text counts vars s at found (Err x)) (inv q) (record { turns = λ more. ap (λ (f : Front.Front). from_front s at f more) e })

pub span-inside : (at end n : ℕ) → at < end → end ≤ n → at + (end - at) ≤ n
span-inside at end n l k = omega (arith, l, k)

pub span-some : (at end : ℕ) → at < end → 0 < end - at
span-some at end l = omega (arith, l)

pub span-low : (at end n m : ℕ) → end ≤ n → n ≤ m → end - at ≤ m
span-low at end n m k l = omega (arith, k, l)
