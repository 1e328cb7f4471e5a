-- What the reader goes on with has kept to the sizes.
use Rattle.std.specs.Prelude.{ℕ, ◌≤◌, ◌≡◌, refl, Bool, true, false, ◌||◌, List, [], ◌∷◌, length, leb}
use Rattle.std.proofs.Common.{arith, leb-false}
use Rattle.terms.specs.When.{◌⇒◌∣◌}
use Rattle.terms.specs.Cases.{cases}
use Rattle.grammar.specs.Token.{Token, name, variable, opening, closing, comma, arrow, stop}
use Rattle.grammar.specs.Syntax.{Terms, none, Rule}
use Rattle.grammar.specs.Names.{count, with_variable}
use Rattle.grammar.specs.Reading.{Small}
use Rattle.reading.specs.Part.{Done, none_yet, and_variable, and_name, Part, formulas, inside, Mode, between, expects, named, complete, state}
use Rattle.reading.specs.Part.{terms_of, put, variable_in, comma_may, arrow_may, behind, next, settle}
use Rattle.reading.specs.Reader.{nodes, variables, size, full, crowded, limit, long}
use Rattle.reading.specs.SizeLaws.{done-nodes-of, done-variables-of, size_of, small_of, put-nodes, put-variables, rule-small}
use Rattle.reading.specs.Limits.{Room, SmallPart, SmallState, SmallTaken}

-- What a token that passes the tests leaves room for

pub not_full : (p : Part) → full p ≡ false → Room p
not_full (formulas fs) e = omega (arith, leb-false _ (length fs) e)
not_full (inside p v d) e = omega (arith, leb-false _ (size d) e)

neither : (a b : Bool) → (a || b) ≡ false → (a ≡ false) × (b ≡ false)
neither true b e = let z : ◌≡◌ {A = ℕ} 0 1 = cc in absurd (omega arith)
neither false b e = (refl, e)

-- of two tests in this order neither holds, where the code is 0
no_code : (a b : Bool) → ◌≡◌ {A = ℕ} (a ⇒ 4 ∣ b ⇒ 5 ∣ 0) 0 → (a ≡ false) × (b ≡ false)
no_code true b e = absurd (omega arith)
no_code false true e = absurd (omega arith)
no_code false false e = (refl, refl)

pub record Passes (cs : List Rule) (p : Part) : Type 0 where
  pub room : Room p
  pub nodes : nodes p ≤ 255
  pub rules : length cs ≤ 511

passes : (cs : List Rule) (p : Part) → full p ≡ false → crowded cs p ≡ false → Passes cs p
passes cs p f c =
    let n = neither (leb 256 (nodes p)) (leb 512 (length cs)) c in
    record { room = not_full p f; nodes = omega (arith, leb-false 256 (nodes p) n.0); rules = omega (arith, leb-false 512 (length cs) n.1) }

pub name-passes : (cs : List Rule) (p : Part) (w : List ℕ) → limit cs p (name w) ≡ 0 → Passes cs p
name-passes cs p w e = let n = no_code (full p) (crowded cs p) e in passes cs p n.0 n.1

pub variable-passes : (cs : List Rule) (p : Part) (w : List ℕ) → limit cs p (variable w) ≡ 0 → Passes cs p × (length (with_variable (variables p) w) ≤ 64)
variable-passes cs p w e =
    let n = no_code (full p) (crowded cs p || leb 65 (length (with_variable (variables p) w))) e in
    let m = neither (crowded cs p) (leb 65 (length (with_variable (variables p) w))) n.1 in
    (passes cs p n.0 m.0, omega (arith, leb-false 65 (length (with_variable (variables p) w)) m.1))

-- Tokens

put_small : (p : Part) (w : List ℕ) (own : Terms) → SmallPart p → Room p → length w ≤ 32 → count own ≤ 8 → Small own → SmallPart (put p w own)
put_small (formulas fs) w own s r a b c = ((record { short = a; few = b; small = c }, s.0), omega arith)
put_small (inside p v d) w own s r a b c = (s.0, s.1, s.2, (s.3, a, b, c), omega arith)

closing-small : (cs : List Rule) (p : Part) (v : List ℕ) (d : Done) → SmallState (state cs (inside p v d) complete) → SmallState (state cs (put p v (terms_of d none)) complete)
closing-small cs p v d s =
    let own = terms_of d none in
    let q = s.part in
    record {
      rules = s.rules;
      part = put_small p v own q.0 q.1 q.2 (omega (arith, size_of d none, q.4)) (small_of d none q.3 tt);
      count = omega (arith, put-nodes p v own, done-nodes-of d none, s.count);
      named = rw (put-variables p v own, done-variables-of d none (variables p)) s.named;
      mode = s.mode;
    }

-- the same part, in another mode
expecting : (cs : List Rule) (p : Part) → SmallState (state cs p complete) → SmallState (state cs p expects)
expecting cs p s = record { rules = s.rules; part = s.part; count = s.count; named = s.named; mode = s.mode }

behind-small : (cs : List Rule) (p : Part) (t : Token) → SmallState (state cs p complete) → SmallTaken (behind cs p t)
behind-small cs p (name w) s = tt
behind-small cs p (variable w) s = tt
behind-small cs p opening s = tt
behind-small cs (formulas fs) closing s = tt
behind-small cs (inside p v none_yet) closing s = tt
behind-small cs (inside p v (and_variable d w)) closing s = closing-small cs p v (and_variable d w) s
behind-small cs (inside p v (and_name d w own)) closing s = closing-small cs p v (and_name d w own) s
behind-small cs p comma s = cases (comma_may p) (λ e. rw e (expecting cs p s)) (λ e. rw e tt)
behind-small cs p arrow s = cases (arrow_may p) (λ e. rw e (expecting cs p s)) (λ e. rw e tt)
behind-small cs (formulas []) stop s = tt
behind-small cs (formulas (f ∷ fs)) stop s =
    record {
      rules = (rule-small f fs s.part.0 s.part.1 s.count s.named, s.rules);
      part = (tt, omega arith);
      count = omega arith;
      named = omega arith;
      mode = omega (arith, s.mode);
    }
behind-small cs (inside p v d) stop s = tt

alone-small : (cs : List Rule) (p : Part) (w : List ℕ) → SmallState (state cs p (named w)) → SmallState (state cs (put p w none) complete)
alone-small cs p w s =
    let m = s.mode in
    record {
      rules = s.rules;
      part = put_small p w none s.part m.1 m.2 (omega arith) tt;
      count = omega (arith, put-nodes p w none, m.3);
      named = rw (put-variables p w none) s.named;
      mode = m.0;
    }

name-small : (cs : List Rule) (p : Part) (m : Mode) (w : List ℕ) → SmallState (state cs p m) → Passes cs p → length w ≤ 32 → SmallState (state cs p (named w))
name-small cs p m w s q l = record { rules = s.rules; part = s.part; count = s.count; named = s.named; mode = (q.rules, q.room, l, q.nodes) }

opening-small : (cs : List Rule) (p : Part) (w : List ℕ) → SmallState (state cs p (named w)) → SmallState (state cs (inside p w none_yet) expects)
opening-small cs p w s =
    let m = s.mode in
    record { rules = s.rules; part = (s.part, m.1, m.2, tt, omega arith); count = omega (arith, m.3); named = s.named; mode = m.0 }

variable-small : (cs : List Rule) (p : Part) (w : List ℕ) → SmallState (state cs p expects) → Passes cs p → length (with_variable (variables p) w) ≤ 64 → SmallTaken (variable_in cs p w)
variable-small cs (formulas fs) w s q l = tt
variable-small cs (inside p v d) w s q l =
    let r = s.part in
    record { rules = s.rules; part = (r.0, r.1, r.2, r.3, omega (arith, q.room)); count = omega (arith, q.nodes); named = l; mode = s.mode }

pub next_small : (cs : List Rule) (p : Part) (m : Mode) (t : Token) → SmallState (state cs p m) → limit cs p t ≡ 0 → long t ≡ false → SmallTaken (next cs p m t)
next_small cs p between (name w) s e l = name-small cs p between w s (name-passes cs p w e) (omega (arith, leb-false _ (length w) l))
next_small cs p between (variable w) s e l = tt
next_small cs p between opening s e l = tt
next_small cs p between closing s e l = tt
next_small cs p between comma s e l = tt
next_small cs p between arrow s e l = tt
next_small cs p between stop s e l = tt
next_small cs p expects (name w) s e l = name-small cs p expects w s (name-passes cs p w e) (omega (arith, leb-false _ (length w) l))
next_small cs p expects (variable w) s e l = let q = variable-passes cs p w e in variable-small cs p w s q.0 q.1
next_small cs p expects opening s e l = tt
next_small cs p expects closing s e l = tt
next_small cs p expects comma s e l = tt
next_small cs p expects arrow s e l = tt
next_small cs p expects stop s e l = tt
next_small cs p (named v) (name w) s e l = tt
next_small cs p (named v) (variable w) s e l = tt
next_small cs p (named v) opening s e l = opening-small cs p v s
next_small cs p (named v) closing s e l = behind-small cs (put p v none) closing (alone-small cs p v s)
next_small cs p (named v) comma s e l = behind-small cs (put p v none) comma (alone-small cs p v s)
next_small cs p (named v) arrow s e l = behind-small cs (put p v none) arrow (alone-small cs p v s)
next_small cs p (named v) stop s e l = behind-small cs (put p v none) stop (alone-small cs p v s)
next_small cs p complete t s e l = behind-small cs p t s

pub settle-small : (cs : List Rule) (p : Part) (m : Mode) → SmallState (state cs p m) → SmallState (settle (state cs p m))
settle-small cs p between s = s
settle-small cs p expects s = s
settle-small cs p (named w) s = alone-small cs p w s
settle-small cs p complete s = s
