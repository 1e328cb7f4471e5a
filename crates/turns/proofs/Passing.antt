-- What a piece leads to, in numbers, is what the few modes make of it.
use Prim.Native.Nat.{ℕ, zero, suc, ◌+◌, ◌-◌, ◌≤◌, ◌<◌}
use mathlib.Core.Path.{◌≡◌, refl, sym as inv, ap, ap₂, ◌∙◌}
use mathlib.Core.Bool.{Bool, true, false, not, true≢false}
use mathlib.Core.List.{List, [], ◌∷◌}
use native.Mathlib.Omega.{arith}
use lib.ListN.{length, get_or, set, drop, length-drop}
use lib.Seq.{length-take-le}
use lib.Dec.{eqb, leb, ltb}
use borrow.Author.Tests.{ne_eqb, lt-leb, le-leb, ltb-true, ltb-false}
use Rattle.terms.specs.When.{◌⇒◌∣◌}
use Rattle.terms.specs.Cases.{cases}
use Rattle.grammar.specs.Token.{Token, name, variable, opening, closing, comma, stop, token, spelt}
use Rattle.reading.specs.Reader.{long}
use Rattle.pieces.specs.declared.Found.{Found}
use Rattle.pieces.specs.declared.Found.TheVariants as F
use Rattle.pieces.specs.Found.{part, front_at, Inside}
use Rattle.asking.specs.Asking.{Tally, tally, counted, closed, with_comma, full, code, limit}
use Rattle.halfway.specs.declared.Mode.{Mode}
use Rattle.halfway.specs.declared.Mode.TheVariants.{Begin, Expects, Named, Complete, Over, Wrong}
use Rattle.halfway.specs.declared.Stage.{Stage}
use Rattle.std.specs.Prelude.{Result, Ok, Err}
use Rattle.halfway.specs.Machine.{settled, after, deep, Answer, bad, sized, judged, half, from}
use Rattle.pieces.specs.Found.{end_of}
use Rattle.halfway.specs.Stage.{is_wrong, name_size, size_at, place_of, stage_after, counts_after, next, turned, stack, tally_of}
use Rattle.turns.proofs.Turning.{deep-stack, code-stack, stack_top}

-- what is done with a piece that is judged
abbrev pub answered : (Mode → Tally → ℕ → List ℕ → Answer) → List ℕ → ℕ → List ℕ → Result Stage (ℕ × ℕ) → Answer
answered more counts at rest (Ok d) = more d.mode (tally_of counts d) at rest
answered more counts at rest (Err r) = bad r.0 r.1

-- Tests

judged-right : (m : Mode) (c : ℕ) (l : Bool) (at : ℕ) (k : Mode → Answer) → is_wrong m ≡ false → judged m c l at k ≡ sized c l at (k m)
judged-right Begin c l at k e = refl
judged-right Expects c l at k e = refl
judged-right Named c l at k e = refl
judged-right Complete c l at k e = refl
judged-right Over c l at k e = refl
judged-right Wrong c l at k e = absurd (true≢false e)

judged-wrong : (m : Mode) (c : ℕ) (l : Bool) (at : ℕ) (k : Mode → Answer) → is_wrong m ≡ true → judged m c l at k ≡ bad 41 at
judged-wrong Begin c l at k e = absurd (true≢false (inv e))
judged-wrong Expects c l at k e = absurd (true≢false (inv e))
judged-wrong Named c l at k e = absurd (true≢false (inv e))
judged-wrong Complete c l at k e = absurd (true≢false (inv e))
judged-wrong Over c l at k e = absurd (true≢false (inv e))
judged-wrong Wrong c l at k e = refl

half-by : (m : Mode) (at : ℕ) → half m at ≡ (is_wrong m ⇒ bad 41 at ∣ bad 41 (at + 1))
half-by Begin at = refl
half-by Expects at = refl
half-by Named at = refl
half-by Complete at = refl
half-by Over at = refl
half-by Wrong at = refl

-- of a word: its code, or 42
sized-code : (c : ℕ) (l : Bool) (at : ℕ) (x : Answer) → (c ≡ 42 → ⊥) → sized c l at x ≡ (not (eqb c 0) ⇒ bad c at ∣ l ⇒ bad 42 (at + 32) ∣ x)
sized-code zero false at x n = refl
sized-code zero true at x n = refl
sized-code (suc c) l at x n = rw (ne_eqb (suc c) 0 (λ (q : suc c ≡ 0). omega arith)) refl

code-not : (y : Tally) → code y ≡ 42 → ⊥
code-not y e =
    cases (full y.outside y.brackets) (λ h. let z : 14 ≡ 42 = rw h at e in omega arith)
    (λ h. cases (leb 4096 y.words) (λ k. let z : 15 ≡ 42 = rw (h, k) at e in omega arith) (λ k. let z : 0 ≡ 42 = rw (h, k) at e in omega arith))

-- Tallies

pub counted-word : (counts : List ℕ) (c : Stage) (m : Mode) → tally c.outside (stack counts c.depth) (suc c.words) ≡ tally_of counts (stage_after c m (F.Variable 0))
counted-word counts c m = ap (tally c.outside (stack counts c.depth)) (let q : suc c.words ≡ c.words + 1 = omega arith in q)

pub counted-opening : (counts : List ℕ) (c : Stage) (m : Mode) → c.depth < length counts →
    counted (tally_of counts c) opening ≡ tally_of (counts_after counts c F.Opening) (stage_after c m F.Opening)
counted-opening counts c m h =
    ap (λ (z : List ℕ). tally c.outside z c.words)
    (inv (stack_top counts c.depth 0 h) ∙ ap (stack (set counts c.depth 0)) (let q : suc c.depth ≡ c.depth + 1 = omega arith in q))

closed-stack : (counts : List ℕ) (d : ℕ) → closed (stack counts d) ≡ stack counts (d - 1)
closed-stack counts zero = refl
closed-stack counts (suc d) = ap (stack counts) (let q : d ≡ suc d - 1 = omega arith in q)

pub counted-closing : (counts : List ℕ) (c : Stage) (m : Mode) → counted (tally_of counts c) closing ≡ tally_of (counts_after counts c F.Closing) (stage_after c m F.Closing)
counted-closing counts c m = ap (λ (z : List ℕ). tally c.outside z c.words) (closed-stack counts c.depth)

comma-by : (counts : List ℕ) (c : Stage) (m : Mode) (d : ℕ) → c.depth ≡ d → d < length counts →
    with_comma c.outside (stack counts d) c.words ≡ tally_of (counts_after counts c F.Comma) (stage_after c m F.Comma)
comma-by counts c m zero e h = rw e (ap (λ (n : ℕ). tally n [] c.words) (let q : suc c.outside ≡ c.outside + 1 = omega arith in q))
comma-by counts c m (suc d) e h =
    let z = ne_eqb (suc d) 0 (λ (q : suc d ≡ 0). omega arith) in
    let i : suc d - 1 ≡ d = omega arith in
    rw (e, z)
    (ap (λ (l : List ℕ). tally c.outside l c.words)
    (ap (λ (n : ℕ). n ∷ stack counts d) (let q : suc (get_or counts d 0) ≡ get_or counts d 0 + 1 = omega arith in q)
    ∙ inv (stack_top counts d (get_or counts d 0 + 1) (omega arith))
    ∙ ap (λ (k : ℕ). stack (set counts k (get_or counts k 0 + 1)) (suc d)) (inv i)))

pub counted-comma : (counts : List ℕ) (c : Stage) (m : Mode) → c.depth < length counts →
    counted (tally_of counts c) comma ≡ tally_of (counts_after counts c F.Comma) (stage_after c m F.Comma)
counted-comma counts c m h = comma-by counts c m c.depth refl h

-- Pieces

module _ (text counts : List ℕ) (c : Stage) (at : ℕ) (more : Mode → Tally → ℕ → List ℕ → Answer) where
  abbrev y : Tally
  y = tally_of counts c

  abbrev Law : Found → Type 0
  Law found = from c.mode y at (front_at text at found) more ≡ answered more (counts_after counts c found) (end_of at found) (drop (end_of at found) text) (turned counts c at found)

  -- a sign: no size is passed
  sign : (t : Token) (found : Found) (rest : List ℕ) (x : Answer) → limit y t ≡ 0 → long t ≡ false → after c.mode (ltb 0 c.depth) t ≡ next c found →
      more (next c found) (counted y t) (at + length (spelt (token t))) rest ≡ x →
      judged (after c.mode (deep y.brackets) t) (limit y t) (long t) at (λ n. more n (counted y t) (at + length (spelt (token t))) rest) ≡ (is_wrong (next c found) ⇒ bad 41 at ∣ x)
  sign t found rest x l g a e =
      rw (deep-stack counts c.depth, l, g, a)
      (cases (is_wrong (next c found)) (λ w. rw w (judged-wrong (next c found) 0 false at _ w)) (λ w. rw w (judged-right (next c found) 0 false at _ w ∙ e)))

  turned-sign : (found : Found) (b : Bool) (d : Stage) → answered more (counts_after counts c found) (end_of at found) (drop (end_of at found) text) (b ⇒ Err (41, at) ∣ Ok d)
      ≡ (b ⇒ bad 41 at ∣ more d.mode (tally_of (counts_after counts c found) d) (end_of at found) (drop (end_of at found) text))
  turned-sign found true d = refl
  turned-sign found false d = refl

  opening-law : c.depth < length counts → Law F.Opening
  opening-law h =
      sign opening F.Opening (drop (at + 1) text) _ refl refl refl (ap (λ (z : Tally). more (next c F.Opening) z (at + 1) (drop (at + 1) text)) (counted-opening counts c (next c F.Opening) h))
      ∙ inv (turned-sign F.Opening (is_wrong (next c F.Opening)) (stage_after c (next c F.Opening) F.Opening))

  closing-law : Law F.Closing
  closing-law =
      sign closing F.Closing (drop (at + 1) text) _ refl refl refl (ap (λ (z : Tally). more (next c F.Closing) z (at + 1) (drop (at + 1) text)) (counted-closing counts c (next c F.Closing)))
      ∙ inv (turned-sign F.Closing (is_wrong (next c F.Closing)) (stage_after c (next c F.Closing) F.Closing))

  comma-mode : (m : Mode) → m ≡ (stage_after c m F.Comma).mode
  comma-mode m = cases (eqb c.depth 0) (λ e. rw e refl) (λ e. rw e refl)

  comma-law : c.depth < length counts → Law F.Comma
  comma-law h =
      sign comma F.Comma (drop (at + 1) text) _ refl refl refl
      (ap (λ (z : Tally). more (next c F.Comma) z (at + 1) (drop (at + 1) text)) (counted-comma counts c (next c F.Comma) h)
      ∙ ap (λ (z : Mode). more z (tally_of (counts_after counts c F.Comma) (stage_after c (next c F.Comma) F.Comma)) (at + 1) (drop (at + 1) text)) (comma-mode (next c F.Comma)))
      ∙ inv (turned-sign F.Comma (is_wrong (next c F.Comma)) (stage_after c (next c F.Comma) F.Comma))

  stop-law : Law F.Stop
  stop-law = sign stop F.Stop (drop (at + 1) text) _ refl refl refl refl ∙ inv (turned-sign F.Stop (is_wrong (next c F.Stop)) (stage_after c (next c F.Stop) F.Stop))

  -- a word
  word : (t : Token) (found : Found) (rest : List ℕ) (x : Answer) (l : Bool) → limit y t ≡ code y → long t ≡ l → after c.mode (ltb 0 c.depth) t ≡ next c found →
      more (next c found) (counted y t) (at + length (spelt (token t))) rest ≡ x →
      judged (after c.mode (deep y.brackets) t) (limit y t) (long t) at (λ n. more n (counted y t) (at + length (spelt (token t))) rest)
      ≡ (is_wrong (next c found) ⇒ bad 41 at ∣ not (eqb (code y) 0) ⇒ bad (code y) at ∣ l ⇒ bad 42 (at + 32) ∣ x)
  word t found rest x l k g a e =
      rw (deep-stack counts c.depth, k, g, a)
      (cases (is_wrong (next c found)) (λ w. rw w (judged-wrong (next c found) (code y) l at _ w))
      (λ w. rw w (judged-right (next c found) (code y) l at _ w ∙ ap (sized (code y) l at) e ∙ sized-code (code y) l at x (code-not y))))

  turned-word : (found : Found) (b l : Bool) (k s : ℕ) (d : Stage) → s ≡ (not (eqb k 0) ⇒ k ∣ l ⇒ 42 ∣ 0) → (k ≡ 42 → ⊥) →
      answered more (counts_after counts c found) (end_of at found) (drop (end_of at found) text) (b ⇒ Err (41, at) ∣ false ⇒ Err (41, at + 1) ∣ not (eqb s 0) ⇒ Err (s, place_of s at) ∣ Ok d)
      ≡ (b ⇒ bad 41 at ∣ not (eqb k 0) ⇒ bad k at ∣ l ⇒ bad 42 (at + 32) ∣ more d.mode (tally_of (counts_after counts c found) d) (end_of at found) (drop (end_of at found) text))
  turned-word found true l k s d e n = refl
  turned-word found false l zero s d e n = by l e
    where
      by : (l : Bool) → s ≡ (l ⇒ 42 ∣ 0) →
          answered more (counts_after counts c found) (end_of at found) (drop (end_of at found) text) (not (eqb s 0) ⇒ Err (s, place_of s at) ∣ Ok d)
          ≡ (l ⇒ bad 42 (at + 32) ∣ more d.mode (tally_of (counts_after counts c found) d) (end_of at found) (drop (end_of at found) text))
      by true e = rw e refl
      by false e = rw e refl
  turned-word found false l (suc k) s d e n =
      let z = ne_eqb (suc k) 0 (λ (q : suc k ≡ 0). omega arith) in
      let q : s ≡ suc k = e ∙ rw z refl in
      rw (q, z, ne_eqb (suc k) 42 n) refl

  part_length : (a end : ℕ) → a ≤ end → end ≤ length text → length (part text a end) ≡ end - a
  part_length a end h l = length-take-le (end - a) (drop a text) (omega (arith, length-drop a text))

  long-by : (n end : ℕ) → n ≡ end - at → leb 33 n ≡ ltb (at + 32) end
  long-by n end e =
      cases (ltb (at + 32) end) (λ t. rw t (le-leb 33 n (omega (arith, e, ltb-true (at + 32) end t)))) (λ t. rw t (lt-leb 33 n (omega (arith, e, ltb-false (at + 32) end t))))

  own_code : (k : ℕ) → k ≡ (not (eqb k 0) ⇒ k ∣ 0)
  own_code zero = refl
  own_code (suc k) = rw (ne_eqb (suc k) 0 (λ (q : suc k ≡ 0). omega arith)) refl

  -- the tally and the place behind a word
  word_on : (t : Token) (end : ℕ) (m : Mode) → counted y t ≡ tally c.outside (stack counts c.depth) (suc c.words) → at + length (spelt (token t)) ≡ end →
      more m (counted y t) (at + length (spelt (token t))) (drop end text) ≡ more m (tally_of counts (stage_after c m (F.Variable 0))) end (drop end text)
  word_on t end m e q = ap₂ (λ (z : Tally) (i : ℕ). more m z i (drop end text)) (e ∙ counted-word counts c m) q

  name-law : (end : ℕ) → at < end → end ≤ length text → Law (F.Name end)
  name-law end h l =
      let n = part_length at end (omega arith) l in
      let t = name (part text at end) in
      word t (F.Name end) (drop end text) _ (ltb (at + 32) end) refl (long-by (length (part text at end)) end n) refl (word_on t end (next c (F.Name end)) refl (omega (arith, n)))
      ∙ inv
      (turned-word (F.Name end) (is_wrong (next c (F.Name end))) (ltb (at + 32) end) (code y) (size_at counts c at (F.Name end)) (stage_after c (next c (F.Name end)) (F.Name end))
      (ap (λ (z : ℕ). name_size z at end) (code-stack counts c)) (code-not y))

  variable-law : (end : ℕ) → at < end → end ≤ length text → Law (F.Variable end)
  variable-law end h l =
      let n = part_length at end (omega arith) l in
      let t = variable (part text at end) in
      word t (F.Variable end) (drop end text) _ false refl refl refl (word_on t end (next c (F.Variable end)) refl (omega (arith, n)))
      ∙ inv
      (turned-word (F.Variable end) (is_wrong (next c (F.Variable end))) false (code y) (size_at counts c at (F.Variable end)) (stage_after c (next c (F.Variable end)) (F.Variable end))
      (code-stack counts c ∙ own_code (code y)) (code-not y))

  settled-right : (m : Mode) → is_wrong m ≡ false → is_wrong (settled m) ≡ false
  settled-right Begin e = refl
  settled-right Expects e = refl
  settled-right Named e = refl
  settled-right Complete e = refl
  settled-right Over e = refl
  settled-right Wrong e = e

  half-law : Law F.HalfStop
  half-law =
      rw (deep-stack counts c.depth)
      (half-by (next c F.HalfStop) at ∙ cases (is_wrong (next c F.HalfStop)) (λ w. rw w refl) (λ w. rw w refl))

  comment-law : (end : ℕ) → at < end → end ≤ length text → is_wrong (settled c.mode) ≡ false → Law (F.Comment end)
  comment-law end h l r =
      rw r
      (ap (λ (i : ℕ). more (settled c.mode) y i (drop end text)) (let q : at + suc (length (part text (at + 1) end)) ≡ end = omega (arith, part_length (at + 1) end (omega arith) l) in q))

  pub law : (found : Found) → Inside text at found → c.depth < length counts → is_wrong c.mode ≡ false → Law found
  law (F.Name end) i h r = name-law end i.0 i.1
  law (F.Variable end) i h r = variable-law end i.0 i.1
  law F.Space i h r = rw (settled-right c.mode r) refl
  law (F.Comment end) i h r = comment-law end i.0 i.1 (settled-right c.mode r)
  law F.Opening i h r = opening-law h
  law F.Closing i h r = closing-law
  law F.Comma i h r = comma-law h
  law F.Arrow i h r = refl
  law F.Stop i h r = stop-law
  law F.HalfArrow i h r = refl
  law F.HalfStop i h r = half-law
  law F.Nothing i h r = refl
