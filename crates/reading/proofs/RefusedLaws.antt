-- The other way round: where a refusal's relation holds, the reader refuses so.
use Rattle.std.specs.Prelude.{ℕ, zero, suc, ◌+◌, ◌≤◌, ◌<◌, ◌≡◌, refl, Bool, true, false, ◌||◌, ◌⊎◌, List, [], ◌∷◌, ◌++◌, length, leb}
use Rattle.std.proofs.Common.{sym as inv, ap, ◌∙◌, inl, inr, append-nil, arith, leb-true, le-leb, le-ltb}
use Rattle.std.proofs.lemmas.Bool.{lt-leb}
use Rattle.terms.specs.Cases.{cases}
use Rattle.grammar.specs.Token.{Token, name, variable, opening, closing, comma, arrow, stop, token, spelt, bytes, tokens}
use Rattle.grammar.specs.Names.{with_variable}
use Rattle.grammar.specs.Syntax.{Rule}
use Rattle.reading.specs.Part.{Part, formulas, inside, Mode, between, expects, named, complete, State, state, start, settle, Taken, taken, wrong, next}
use Rattle.reading.specs.Reader.{nodes, variables, size, full, crowded, limit, long, bad, judge_taken, judge_token, refused, walk, reading}
use Rattle.reading.specs.PrintLaws.{printed, rules_then, before_next}
use Rattle.reading.specs.Limits.{Room, SmallState}
use Rattle.reading.proofs.Whole.{Healthy}
use Rattle.reading.specs.RunLaws.{Runs, run_end}
use Rattle.reading.proofs.PartialLaws.{waiting, rules-run, waiting-run}
use Rattle.reading.proofs.ReachLaws.{comes, refused-there}
use Rattle.reading.proofs.Refusal.{Reached, Begins, Ninth, Passed, nodes_passed, rules_passed, variables_passed}

-- A name or a variable that may stand at a place

-- the mode is that of a place where something must come
abbrev Awaits : Mode → Type 0
Awaits between = Unit {0}
Awaits expects = Unit {0}
Awaits (named w) = ⊥
Awaits complete = ⊥

not_taken : {X : Type 0} {n : State} → wrong ≡ taken n → X
not_taken e = let z : ◌≡◌ {A = ℕ} 0 1 = cc in absurd (omega arith)

awaits : (cs : List Rule) (p : Part) (m : Mode) (t : Token) (n : State) → Begins t → next cs p m t ≡ taken n → Awaits m
awaits cs p between t n b e = tt
awaits cs p expects t n b e = tt
awaits cs p (named v) (name w) n b e = not_taken e
awaits cs p (named v) (variable w) n b e = not_taken e
awaits cs p (named v) opening n b e = absurd b
awaits cs p (named v) closing n b e = absurd b
awaits cs p (named v) comma n b e = absurd b
awaits cs p (named v) arrow n b e = absurd b
awaits cs p (named v) stop n b e = absurd b
awaits cs p complete (name w) n b e = not_taken e
awaits cs p complete (variable w) n b e = not_taken e
awaits cs p complete opening n b e = absurd b
awaits cs p complete closing n b e = absurd b
awaits cs p complete comma n b e = absurd b
awaits cs p complete arrow n b e = absurd b
awaits cs p complete stop n b e = absurd b

-- it is taken where the reader waits, too
waited : (cs : List Rule) (p : Part) (m : Mode) (t : Token) (n : State) → Begins t → next cs p m t ≡ taken n → (k : State) × (next cs p (waiting p) t ≡ taken k)
waited cs (formulas []) m (name w) n b e = (_, refl)
waited cs (formulas (f ∷ fs)) m (name w) n b e = (_, refl)
waited cs (inside p v d) m (name w) n b e = (_, refl)
waited cs (formulas fs) between (variable w) n b e = not_taken e
waited cs (formulas fs) expects (variable w) n b e = not_taken e
waited cs (formulas fs) (named v) (variable w) n b e = not_taken e
waited cs (formulas fs) complete (variable w) n b e = not_taken e
waited cs (inside p v d) m (variable w) n b e = (_, refl)
waited cs p m opening n b e = absurd b
waited cs p m closing n b e = absurd b
waited cs p m comma n b e = absurd b
waited cs p m arrow n b e = absurd b
waited cs p m stop n b e = absurd b

waiting-settled : (cs : List Rule) (p : Part) → settle (state cs p (waiting p)) ≡ state cs p (waiting p)
waiting-settled cs (formulas []) = refl
waiting-settled cs (formulas (f ∷ fs)) = refl
waiting-settled cs (inside p v d) = refl

-- The reader comes there

before-run : (cs : List Rule) (p : Part) (m : Mode) → Awaits m → Healthy p m → SmallState (state cs p m) → Runs start (printed (state cs p m) []) (state cs p (waiting p))
before-run cs p between a h s =
    let q : (z : Part) → z ≡ formulas [] → Runs start (rules_then cs (before_next z [])) (state cs z (waiting z)) =
    λ z e. rw e (rules-run cs [] (state cs (formulas []) between) s.rules s.mode run_end) in
    q p h
before-run cs p expects a h s = waiting-run cs p [] (state cs p (waiting p)) s.rules s.mode s.part s.count s.named run_end
before-run cs p (named w) a h s = absurd a
before-run cs p complete a h s = absurd a

refused-after : (k : ℕ) (s : State) (at : ℕ) (t : Token) (left rest : List ℕ) (c i : ℕ) → length left < k → left ≡ spelt (token t) ++ rest →
    ((j : ℕ) → walk (suc j) s at (spelt (token t) ++ rest) ≡ refused c i) → walk k s at left ≡ refused c i
refused-after zero s at t left rest c i l e f = absurd (omega arith)
refused-after (suc k) s at t left rest c i l e f = ap (walk (suc k) s at) e ∙ f k

module _ {text : List ℕ} {at : ℕ} {s : State} {t : Token} (r : Reached text at s t) (b : Begins t) (c i : ℕ)
    (bad-there : (n : State) → judge_taken (taken n) (limit s.rules s.part t) (long t) at ≡ bad c i) where
  abbrev pub there : State
  there = state s.rules s.part (waiting s.part)

  pub judged : judge_token there at t ≡ bad c i
  judged =
      let w = waited s.rules s.part s.mode t r.goes b r.takes in
      ap (λ (n : Taken). judge_taken n (limit s.rules s.part t) (long t) at) w.1 ∙ bad-there w.0

  pub run-there : Runs start (tokens r.before.pieces) there
  run-there =
      rw (inv (append-nil (tokens r.before.pieces)) ∙ r.before.makes [])
      (before-run s.rules s.part s.mode (awaits s.rules s.part s.mode t r.goes b r.takes) r.before.healthy r.before.small)

  walked : walk (suc (length text)) start 0 text ≡ refused c i
  walked =
      let f = r.before in
      let g =
      comes (suc (length text)) f.pieces start there 0 f.left f.spaced (waiting-settled s.rules s.part) (omega (arith, ap length f.whole)) run-there in
      ap (walk (suc (length text)) start 0) f.whole
      ∙ g.goes
      ∙ ap (λ (j : ℕ). walk g.fuel there j f.left) (let q : 0 + length (bytes f.pieces) ≡ at = omega (arith, f.place) in q)
      ∙ refused-after g.fuel there at t f.left r.rest c i g.more r.token_there (λ j. refused-there j there at t r.rest c i r.stands judged)

  pub word-refused : reading text ≡ refused c i
  unfolding reading
  word-refused = rw (le-ltb 65536 (length text) r.before.short, walked)

-- The codes

full-of : (p : Part) → Ninth p → full p ≡ true
full-of (formulas fs) h = le-leb 17 (length fs) h
full-of (inside p v d) h = le-leb 8 (size d) h

free_of : (p : Part) → Room p → full p ≡ false
free_of (formulas fs) h = lt-leb 17 (length fs) (omega arith)
free_of (inside p v d) h = lt-leb 8 (size d) (omega arith)

range-limit : (s : State) (t : Token) → Begins t → Ninth s.part → limit s.rules s.part t ≡ 4
range-limit s (name w) b h = rw (full-of s.part h)
range-limit s (variable w) b h = rw (full-of s.part h)
range-limit s opening b h = absurd b
range-limit s closing b h = absurd b
range-limit s comma b h = absurd b
range-limit s arrow b h = absurd b
range-limit s stop b h = absurd b

either_true : (a b : Bool) → b ≡ true → (a || b) ≡ true
either_true true b e = refl
either_true false b e = e

crowded-by : (s : State) → (256 ≤ nodes s.part) ⊎ (512 ≤ length s.rules) → crowded s.rules s.part ≡ true
crowded-by s (inl h) = rw (le-leb 256 (nodes s.part) h)
crowded-by s (inr h) = either_true (leb 256 (nodes s.part)) (leb 512 (length s.rules)) (le-leb 512 (length s.rules) h)

crowded-limit : (s : State) (t : Token) → Begins t → Room s.part → crowded s.rules s.part ≡ true → limit s.rules s.part t ≡ 5
crowded-limit s (name w) b h k = rw (free_of s.part h, k)
crowded-limit s (variable w) b h k = rw (free_of s.part h, k)
crowded-limit s opening b h k = absurd b
crowded-limit s closing b h k = absurd b
crowded-limit s comma b h k = absurd b
crowded-limit s arrow b h k = absurd b
crowded-limit s stop b h k = absurd b

size-limit : (s : State) (t : Token) → Begins t → Room s.part → Passed s t → limit s.rules s.part t ≡ 5
size-limit s t b h (nodes_passed k) = crowded-limit s t b h (crowded-by s (inl k))
size-limit s t b h (rules_passed k) = crowded-limit s t b h (crowded-by s (inr k))
size-limit s t b h (variables_passed {w} k) =
    rw (free_of s.part h, either_true (crowded s.rules s.part) (leb 65 (length (with_variable (variables s.part) w))) (le-leb 65 (length (with_variable (variables s.part) w)) k))

name-limit : (s : State) (w : List ℕ) → Room s.part → (Passed s (name w) → ⊥) → limit s.rules s.part (name w) ≡ 0
name-limit s w h d =
    let n : leb 256 (nodes s.part) ≡ false = cases (leb 256 (nodes s.part)) (λ e. absurd (d (nodes_passed (leb-true 256 (nodes s.part) e)))) (λ e. e) in
    let l : leb 512 (length s.rules) ≡ false = cases (leb 512 (length s.rules)) (λ e. absurd (d (rules_passed (leb-true 512 (length s.rules) e)))) (λ e. e) in
    rw (free_of s.part h, n, l)

-- what is judged of a token that may stand there

pub range-bad : (s : State) (t : Token) (at : ℕ) → Begins t → Ninth s.part → (n : State) → judge_taken (taken n) (limit s.rules s.part t) (long t) at ≡ bad 4 at
range-bad s t at b h n = rw (range-limit s t b h)

pub size-bad : (s : State) (t : Token) (at : ℕ) → Begins t → Room s.part → Passed s t → (n : State) → judge_taken (taken n) (limit s.rules s.part t) (long t) at ≡ bad 5 at
size-bad s t at b h p n = rw (size-limit s t b h p)

pub name-bad : (s : State) (w : List ℕ) (at : ℕ) → Room s.part → (Passed s (name w) → ⊥) → 33 ≤ length w → (n : State) →
    judge_taken (taken n) (limit s.rules s.part (name w)) (long (name w)) at ≡ bad 42 (at + 32)
name-bad s w at h d l n = rw (name-limit s w h d, le-leb 33 (length w) l)
