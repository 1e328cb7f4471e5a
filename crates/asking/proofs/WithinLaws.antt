-- Tokens of which none is one too many, and no name too long, are those of a goal within the sizes.
use Rattle.std.specs.Prelude.{ℕ, suc, ◌+◌, ◌≤◌, ◌<◌, ◌≡◌, refl, Bool, true, false, List, [], ◌∷◌, length, leb}
use Rattle.std.proofs.Common.{arith, leb-false}
use Rattle.std.proofs.lemmas.Bool.{lt-leb}
use Rattle.terms.specs.When.{◌⇒◌∣◌}
use Rattle.grammar.specs.Token.{Token, name, variable}
use Rattle.grammar.specs.Syntax.{Terms, none, variable_then, name_then, Formula, Turn, first, later, before, arguments_then, formula_then}
use Rattle.grammar.specs.Names.{count, formulas_spots}
use Rattle.grammar.specs.Reading.{Small, SmallFormula, SmallFormulas}
use Rattle.grammar.specs.Query.{more_then, End, open_end, full_stop, ends_with, asked, SizedQuery}
use Rattle.reading.specs.Reader.{terms_nodes, long}
use Rattle.reading.specs.SizeLaws.{formula-nodes}
use Rattle.asking.specs.Asking.{Tally, tally, none_yet, counted, full, code, limit}

-- none of these tokens is refused for a size
abbrev pub Within : Tally → List Token → Type 0
Within y [] = Unit {0}
Within y (t ∷ ts) = (limit y t ≡ 0) × (long t ≡ false) × Within (counted y t) ts

-- The tests

abbrev Room : ℕ → List ℕ → Type 0
Room a [] = a < 512
Room a (b ∷ bs) = b < 8

full-room : (a : ℕ) (bs : List ℕ) → full a bs ≡ false → Room a bs
full-room a [] e = leb-false 512 a e
full-room a (b ∷ bs) e = leb-false 8 b e

room-full : (a : ℕ) (bs : List ℕ) → Room a bs → full a bs ≡ false
room-full a [] h = lt-leb 512 a h
room-full a (b ∷ bs) h = lt-leb 8 b h

no_code : (a b : Bool) → ◌≡◌ {A = ℕ} (a ⇒ 14 ∣ b ⇒ 15 ∣ 0) 0 → (a ≡ false) × (b ≡ false)
no_code true b e = absurd (omega arith)
no_code false true e = absurd (omega arith)
no_code false false e = (refl, refl)

code-room : (a : ℕ) (bs : List ℕ) (n : ℕ) → code (tally a bs n) ≡ 0 → Room a bs × (n < 4096)
code-room a bs n e = let k = no_code (full a bs) _ e in (full-room a bs k.0, leb-false _ n k.1)

code-none : (a b : Bool) → a ≡ false → b ≡ false → ◌≡◌ {A = ℕ} (a ⇒ 14 ∣ b ⇒ 15 ∣ 0) 0
code-none a b h k = rw (h, k)

room-code : (a : ℕ) (bs : List ℕ) (n : ℕ) → Room a bs → n < 4096 → code (tally a bs n) ≡ 0
room-code a bs n h l = code-none (full a bs) _ (room-full a bs h) (lt-leb _ n (omega arith))

long-short : (w : List ℕ) → leb 33 (length w) ≡ false → length w ≤ 32
long-short w e = omega (arith, leb-false 33 (length w) e)

short-long : (w : List ℕ) → length w ≤ 32 → leb 33 (length w) ≡ false
short-long w h = lt-leb 33 (length w) (omega arith)

-- Arguments

-- n names and variables stand before them; j are the arguments before them behind the same bracket
record Counted (a : ℕ) (bs : List ℕ) (n j : ℕ) (ts : Terms) (r : List Token) : Type 0 where
  few : j + count ts ≤ 8
  small : Small ts
  nodes : n + terms_nodes ts ≤ 4096
  rest : (m : ℕ) → n + terms_nodes ts ≡ m → Within (tally a bs m) r

abbrev opened : Turn → ℕ → ℕ → List ℕ → ℕ → Tally
opened first a b bs n = tally a bs n
opened later a b bs n = tally a (b ∷ bs) n

abbrev done : Turn → ℕ → ℕ
done first b = 0
done later b = suc b

variable-counted : {a n j : ℕ} {bs v : List ℕ} {ts : Terms} {r : List Token} → Counted a bs (suc n) (suc j) ts r → Counted a bs n j (variable_then v ts) r
variable-counted i = record { few = omega (arith, i.few); small = i.small; nodes = omega (arith, i.nodes); rest = λ m e. i.rest m (omega (arith, e)) }

name-counted : {a n j : ℕ} {bs v : List ℕ} {own ts : Terms} {r s : List Token} → length v ≤ 32 → Counted a (j ∷ bs) (suc n) 0 own s → Counted a bs (suc n + terms_nodes own) (suc j) ts r →
    Counted a bs n j (name_then v own ts) r
name-counted l o i =
    record {
      few = omega (arith, i.few);
      small = (l, omega (arith, o.few), o.small, i.small);
      nodes = omega (arith, i.nodes);
      rest = λ m e. i.rest m (omega (arith, e));
    }

none-counted : (k : Turn) (a b : ℕ) (bs : List ℕ) (n : ℕ) (r : List Token) → Within (opened k a b bs n) (arguments_then k none r) → done k b ≤ 8 → n ≤ 4096 → Counted a bs n (done k b) none r
none-counted first a b bs n r h l m = record { few = omega arith; small = tt; nodes = omega arith; rest = λ z e. rw (let q : z ≡ n = omega (arith, e) in q) h }
none-counted later a b bs n r h l m = record { few = omega (arith, l); small = tt; nodes = omega arith; rest = λ z e. rw (let q : z ≡ n = omega (arith, e) in q) h.2 }

-- behind the bracket or the comma
sign-within : (k : Turn) (a b : ℕ) (bs : List ℕ) (n : ℕ) (x : List Token) → Within (opened k a b bs n) (before k ∷ x) → Within (tally a (done k b ∷ bs) n) x
sign-within first a b bs n x h = h.2
sign-within later a b bs n x h = h.2

within-sign : (k : Turn) (a b : ℕ) (bs : List ℕ) (n : ℕ) (x : List Token) → Within (tally a (done k b ∷ bs) n) x → Within (opened k a b bs n) (before k ∷ x)
within-sign first a b bs n x h = (refl, refl, h)
within-sign later a b bs n x h = (refl, refl, h)

arguments-counted : (ts : Terms) (k : Turn) (a b : ℕ) (bs : List ℕ) (n : ℕ) (r : List Token) → Within (opened k a b bs n) (arguments_then k ts r) → done k b ≤ 8 → n ≤ 4096 →
    Counted a bs n (done k b) ts r
arguments-counted none k a b bs n r h l m = none-counted k a b bs n r h l m
arguments-counted (variable_then v ts) k a b bs n r h l m =
    let w = sign-within k a b bs n (variable v ∷ arguments_then later ts r) h in
    let p = code-room a (done k b ∷ bs) n w.0 in
    variable-counted (arguments-counted ts later a (done k b) bs (suc n) r w.2 (omega (arith, p.0)) (omega (arith, p.1)))
arguments-counted (name_then v own ts) k a b bs n r h l m =
    let w = sign-within k a b bs n (name v ∷ arguments_then first own (arguments_then later ts r)) h in
    let p = code-room a (done k b ∷ bs) n w.0 in
    let o = arguments-counted own first a 0 (done k b ∷ bs) (suc n) (arguments_then later ts r) w.2 (omega arith) (omega (arith, p.1)) in
    name-counted (long-short v w.1) o
    (arguments-counted ts later a (done k b) bs (suc n + terms_nodes own) r (o.rest (suc n + terms_nodes own) refl) (omega (arith, p.0)) o.nodes)

none_within : (k : Turn) (a b : ℕ) (bs : List ℕ) (n : ℕ) (r : List Token) → Within (tally a bs n) r → Within (opened k a b bs n) (arguments_then k none r)
none_within first a b bs n r h = h
none_within later a b bs n r h = (refl, refl, h)

arguments-within : (ts : Terms) (k : Turn) (a b : ℕ) (bs : List ℕ) (n : ℕ) (r : List Token) → Counted a bs n (done k b) ts r → Within (opened k a b bs n) (arguments_then k ts r)
arguments-within none k a b bs n r c = none_within k a b bs n r (c.rest n (omega arith))
arguments-within (variable_then v ts) k a b bs n r c =
    within-sign k a b bs n (variable v ∷ arguments_then later ts r) (
      room-code a (done k b ∷ bs) n (omega (arith, c.few)) (omega (arith, c.nodes)),
      refl,
      arguments-within ts later a (done k b) bs (suc n) r
          (record { few = omega (arith, c.few); small = c.small; nodes = omega (arith, c.nodes); rest = λ m e. c.rest m (omega (arith, e)) }),
    )
arguments-within (name_then v own ts) k a b bs n r c =
    let s = c.small in
    let i : Counted a bs (suc n + terms_nodes own) (suc (done k b)) ts r =
    record { few = omega (arith, c.few); small = s.3; nodes = omega (arith, c.nodes); rest = λ m e. c.rest m (omega (arith, e)) } in
    let o : Counted a (done k b ∷ bs) (suc n) 0 own (arguments_then later ts r) =
    record {
      few = omega (arith, s.1);
      small = s.2;
      nodes = omega (arith, c.nodes);
      rest = λ m e. rw (← e) (arguments-within ts later a (done k b) bs (suc n + terms_nodes own) r i);
    } in
    within-sign k a b bs n (name v ∷ arguments_then first own (arguments_then later ts r))
    (room-code a (done k b ∷ bs) n (omega (arith, c.few)) (omega (arith, c.nodes)), short-long v s.0, arguments-within own first a 0 (done k b ∷ bs) (suc n) (arguments_then later ts r) o)

-- Formulas

-- a formula, with a others and n names and variables before it
record Formed (a n : ℕ) (f : Formula) (r : List Token) : Type 0 where
  room : a < 512
  small : SmallFormula f
  nodes : suc (n + terms_nodes f.arguments) ≤ 4096
  rest : (m : ℕ) → suc (n + terms_nodes f.arguments) ≡ m → Within (tally a [] m) r

formula-formed : (a n : ℕ) (f : Formula) (r : List Token) → Within (tally a [] n) (formula_then f r) → Formed a n f r
formula-formed a n f r h =
    let p = code-room a [] n h.0 in
    let c = arguments-counted f.arguments first a 0 [] (suc n) r h.2 (omega arith) (omega (arith, p.1)) in
    record {
      room = p.0;
      small = record { short = long-short f.symbol h.1; few = omega (arith, c.few); small = c.small };
      nodes = omega (arith, c.nodes);
      rest = λ m e. c.rest m (omega (arith, e));
    }

formed-within : (a n : ℕ) (f : Formula) (r : List Token) → Formed a n f r → Within (tally a [] n) (formula_then f r)
formed-within a n f r c = (
  room-code a [] n c.room (omega (arith, c.nodes)),
  short-long f.symbol c.small.short,
  arguments-within f.arguments first a 0 [] (suc n) r
      (record { few = omega (arith, c.small.few); small = c.small.small; nodes = omega (arith, c.nodes); rest = λ m e. c.rest m (omega (arith, e)) }),
)

-- formulas that come behind a comma each
record More (a n : ℕ) (gs : List Formula) : Type 0 where
  few : a + length gs ≤ 511
  small : SmallFormulas gs
  nodes : n + length (formulas_spots gs) ≤ 4096

more-sized : (gs : List Formula) (a n : ℕ) (r : List Token) → Within (tally a [] n) (more_then gs r) → a ≤ 511 → n ≤ 4096 → More a n gs
more-sized [] a n r h l m = record { few = omega arith; small = tt; nodes = omega arith }
more-sized (g ∷ gs) a n r h l m =
    let f = formula-formed (suc a) n g (more_then gs r) h.2 in
    let q = suc (n + terms_nodes g.arguments) in
    let i = more-sized gs (suc a) q r (f.rest q refl) (omega (arith, f.room)) f.nodes in
    record { few = omega (arith, i.few); small = (f.small, i.small); nodes = omega (arith, i.nodes, formula-nodes g gs) }

end-within : (y : Tally) (z : End) → Within y (ends_with z)
end-within y open_end = tt
end-within y full_stop = (refl, refl, tt)

sized-more : (gs : List Formula) (a n : ℕ) (z : End) → More a n gs → Within (tally a [] n) (more_then gs (ends_with z))
sized-more [] a n z c = end-within (tally a [] n) z
sized-more (g ∷ gs) a n z c =
    let q = suc (n + terms_nodes g.arguments) in
    let i : More (suc a) q gs = record { few = omega (arith, c.few); small = c.small.1; nodes = omega (arith, c.nodes, formula-nodes g gs) } in (
      refl,
      refl,
      formed-within (suc a) n g (more_then gs (ends_with z))
          (record {
            room = omega (arith, c.few);
            small = c.small.0;
            nodes = omega (arith, c.nodes, formula-nodes g gs);
            rest = λ m e. rw (← e) (sized-more gs (suc a) q z i);
          }),
    )

pub within-sized : (fs : List Formula) (z : End) → Within none_yet (asked fs z) → SizedQuery fs
within-sized [] z h = record { few = omega arith; formulas = tt; nodes = omega arith }
within-sized (f ∷ fs) z h =
    let c = formula-formed 0 0 f (more_then fs (ends_with z)) h in
    let q = suc (0 + terms_nodes f.arguments) in
    let i = more-sized fs 0 q (ends_with z) (c.rest q refl) (omega arith) c.nodes in
    record { few = omega (arith, i.few); formulas = (c.small, i.small); nodes = omega (arith, i.nodes, formula-nodes f fs) }

pub sized-within : (fs : List Formula) (z : End) → SizedQuery fs → Within none_yet (asked fs z)
sized-within [] z s = tt
sized-within (f ∷ fs) z s =
    let q = suc (0 + terms_nodes f.arguments) in
    let i : More 0 q fs = record { few = omega (arith, s.few); small = s.formulas.1; nodes = omega (arith, s.nodes, formula-nodes f fs) } in
    formed-within 0 0 f (more_then fs (ends_with z))
    (record { room = omega arith; small = s.formulas.0; nodes = omega (arith, s.nodes, formula-nodes f fs); rest = λ m e. rw (← e) (sized-more fs 0 q z i) })
