-- One pass over the text.
use Prim.Native.Nat.{ℕ, zero, suc, ◌+◌, ◌-◌, ◌≤◌, ◌<◌}
use mathlib.Core.Path.{◌≡◌, refl, sym as inv, ap, ◌∙◌, subst}
use mathlib.Core.Bool.{Bool, true, false}
use mathlib.Core.List.{List, [], ◌∷◌}
use native.Mathlib.Omega.{arith}
use lib.ListN.{length, drop, length-drop}
use lib.Dec.{eqb, leb, ltb}
use borrow.Author.Tests.{eqb-true, lt-ltb, le-ltb}
use Rattle.terms.specs.When.{◌⇒◌∣◌}
use Rattle.terms.specs.Cases.{cases}
use Rattle.grammar.specs.Front.{front_of}
use Rattle.pieces.specs.declared.Found.{Found}
use Rattle.pieces.specs.declared.Found.TheVariants as F
use Rattle.pieces.specs.Found.{Inside, Shows}
use Rattle.asking.specs.Asking.{begin, none_yet, Tally, Outcome, read, refused, walk, asking}
use Rattle.halfway.specs.declared.Mode.{Mode}
use Rattle.halfway.specs.declared.Mode.TheVariants.{Begin}
use Rattle.halfway.specs.declared.Stage.{Stage}
use Rattle.std.specs.Prelude.{Result, Ok, Err, ⊤}
use Rattle.pieces.specs.declared.Code.TheVariants.{Unexpected}
use Rattle.pieces.specs.declared.Refusal.{Refusal}
use Rattle.pieces.specs.Refusal.{number, refusal}
use Rattle.halfway.specs.Machine.{deep, may_end, Answer, fine, bad, told, from, ended, pass}
use Rattle.turns.specs.MachineLaws.{begins, passes}
use Rattle.pieces.specs.Found.{end_of}
use Rattle.halfway.specs.Stage.{is_wrong, is_half, full_at, code_at, name_size, size_at, place_of, numbered, stage_after, counts_after, next, turned, Left, ends_at, start_stage, tally_of, Held}
use Rattle.turns.specs.Passing.{answer_of, LowEnd, Ends, checked, text_check}
use Rattle.turns.proofs.Turning.{deep-stack, ready}
use Rattle.turns.proofs.Holding.{held_next}
use Rattle.turns.proofs.Passing.{answered, law}

-- what the few modes say of the text
abbrev pub whole : List ℕ → Answer
whole text = pass (suc (length text)) Begin none_yet 0 text

pub record Standing (text counts : List ℕ) (c : Stage) (at : ℕ) : Type 0 where
  pub held : Held counts c at
  pub fuel : ℕ
  pub enough : length text - at < fuel
  pub left : pass fuel c.mode (tally_of counts c) at (drop at text) ≡ whole text
  pub inside : at ≤ length text
  pub short : length text ≤ 65536

-- Where a piece goes on

-- a judgement that goes on has passed the tests
record Went (counts : List ℕ) (c : Stage) (at : ℕ) (found : Found) (d : Stage) : Type 0 where
  right : is_wrong (next c found) ≡ false
  whole_token : is_half found ≡ false
  small : size_at counts c at found ≡ 0
  stage : d ≡ stage_after c (next c found) found

clash : {X : Type 0} {a : ℕ × ℕ} {d : Stage} → Err a ≡ Ok d → X
clash e = let z : ◌≡◌ {A = ℕ} 0 1 = cc in absurd (omega arith)

went : (counts : List ℕ) (c : Stage) (at : ℕ) (found : Found) (d : Stage) → turned counts c at found ≡ Ok d → Went counts c at found d
went counts c at found d e =
    cases (is_wrong (next c found)) (λ w. clash (rw w at e))
    (λ w.
    cases (is_half found) (λ h. clash (rw (w, h) at e))
    (λ h.
    cases (eqb (size_at counts c at found) 0)
    (λ s. record { right = w; whole_token = h; small = eqb-true (size_at counts c at found) 0 s; stage = let q : ◌≡◌ {A = Result Stage (ℕ × ℕ)} (Ok (stage_after c (next c found) found)) (Ok d) = rw (w, h, s) at e in cc })
    (λ s. clash (rw (w, h, s) at e))))

inside-end : (text : List ℕ) (at : ℕ) (found : Found) → Inside text at found → (at < end_of at found) × (end_of at found ≤ length text)
inside-end text at (F.Name end) i = i
inside-end text at (F.Variable end) i = i
inside-end text at F.Space i = (omega arith, i)
inside-end text at (F.Comment end) i = i
inside-end text at F.Opening i = (omega arith, i)
inside-end text at F.Closing i = (omega arith, i)
inside-end text at F.Comma i = (omega arith, i)
inside-end text at F.Arrow i = (omega arith, i)
inside-end text at F.Stop i = (omega arith, i)
inside-end text at F.HalfArrow i = (omega arith, i)
inside-end text at F.HalfStop i = (omega arith, i)
inside-end text at F.Nothing i = (omega arith, i)

-- The text from a place on

pass-front : (k : ℕ) (m : Mode) (y : Tally) (at : ℕ) (rest : List ℕ) → 0 < length rest → pass (suc k) m y at rest ≡ from m y at (front_of rest) (pass k)
pass-front k m y at [] h = absurd (omega arith)
pass-front k m y at (b ∷ rest) h = refl

pass-end : (k : ℕ) (m : Mode) (y : Tally) (at : ℕ) (rest : List ℕ) → length rest ≡ 0 → pass k m y at rest ≡ ended (may_end m (deep y.brackets)) at
pass-end zero m y at rest h = refl
pass-end (suc k) m y at [] h = refl
pass-end (suc k) m y at (b ∷ rest) h = absurd (omega arith)

-- what is said of the text, once the piece is judged
record Stepped (text counts : List ℕ) (c : Stage) (at : ℕ) (found : Found) : Type 0 where
  fuel : ℕ
  enough : length text - at < suc fuel
  says : answered (pass fuel) (counts_after counts c found) (end_of at found) (drop (end_of at found) text) (turned counts c at found) ≡ whole text

stepped : {text counts : List ℕ} {c : Stage} {at : ℕ} (found : Found) → Standing text counts c at → at < length text → Shows text at found → Stepped text counts c at found
stepped {text} {counts} {c} {at} found s l sh = by s.fuel s.enough s.left
  where
    by : (k : ℕ) → length text - at < k → pass k c.mode (tally_of counts c) at (drop at text) ≡ whole text → Stepped text counts c at found
    by zero e p = absurd (omega arith)
    by (suc k) e p =
        record {
          fuel = k;
          enough = e;
          says =
              inv (law text counts c at (pass k) found sh.inside (ready s.held (omega (arith, l, s.short))).depth s.held.right)
              ∙ ap (λ f. from c.mode (tally_of counts c) at f (pass k)) sh.says
              ∙ inv (pass-front k c.mode (tally_of counts c) at (drop at text) (omega (arith, l, length-drop at text)))
              ∙ p;
        }

pub starts : {text counts : List ℕ} (c : Stage) (at : ℕ) → c ≡ start_stage → at ≡ 0 → length text ≤ 65536 → length counts ≡ 4097 → Standing text counts c at
starts {text} {counts} c at e q l n =
    rw (e, q)
    (record {
      held = record { right = refl; long = n; roomy = omega arith; few = omega arith; outside = omega arith; low = tt };
      fuel = suc (length text);
      enough = omega arith;
      left = refl;
      inside = omega arith;
      short = l;
    })

pub again : {text counts : List ℕ} {c : Stage} {at : ℕ} (found : Found) (r : Result Stage Refusal) (d : Stage) (counts' : List ℕ) (end : ℕ) → Standing text counts c at → at < length text → Shows text at found →
    numbered r ≡ turned counts c at found → r ≡ Ok d → Left counts counts' c found r → end ≡ end_of at found → Standing text counts' d end
again {text} {counts} {c} {at} found r d counts' end s l sh e g f q =
    let t : turned counts c at found ≡ Ok d = inv e ∙ ap numbered g in
    let w = went counts c at found d t in
    let p = stepped found s l sh in
    let i = inside-end text at found sh.inside in
    let k : counts' ≡ counts_after counts c found = subst (Left counts counts' c found) g f in
    rw (k, q)
    (record {
      held = rw w.stage (held_next s.held (omega (arith, l, s.short)) text found w.right w.whole_token w.small sh.inside);
      fuel = p.fuel;
      enough = omega (arith, i.0, i.1, p.enough);
      left = ap (answered (pass p.fuel) (counts_after counts c found) (end_of at found) (drop (end_of at found) text)) (inv t) ∙ p.says;
      inside = i.1;
      short = s.short;
    })

pub nearer : {text : List ℕ} {at : ℕ} (found : Found) (end : ℕ) → at < length text → Shows text at found → end ≡ end_of at found → length text - end < length text - at
nearer {text} {at = at} found end l sh q = let i = inside-end text at found sh.inside in omega (arith, q, i.0, i.1, l)

-- Refusals

code-low : (counts : List ℕ) (c : Stage) → code_at counts c ≤ 15
code-low counts c =
    cases (full_at counts c.depth c.outside) (λ h. rw h (let q : 14 ≤ 15 = omega arith in q))
    (λ h. cases (leb 4096 c.words) (λ k. rw (h, k) (let q : 15 ≤ 15 = omega arith in q)) (λ k. rw (h, k) (let q : 0 ≤ 15 = omega arith in q)))

name_low : (k at end : ℕ) → k ≤ 15 → name_size k at end < 256
name_low k at end h =
    cases (eqb k 0) (λ e. cases (ltb (at + 32) end) (λ t. rw (e, t) (let q : 42 < 256 = omega arith in q)) (λ t. rw (e, t) (let q : 0 < 256 = omega arith in q)))
    (λ e. rw e (let q : k < 256 = omega arith in q))

size_low : (counts : List ℕ) (c : Stage) (at : ℕ) (found : Found) → size_at counts c at found < 256
size_low counts c at (F.Name end) = name_low (code_at counts c) at end (code-low counts c)
size_low counts c at (F.Variable end) = omega (arith, code-low counts c)
size_low counts c at F.Space = omega arith
size_low counts c at (F.Comment end) = omega arith
size_low counts c at F.Opening = omega arith
size_low counts c at F.Closing = omega arith
size_low counts c at F.Comma = omega arith
size_low counts c at F.Arrow = omega arith
size_low counts c at F.Stop = omega arith
size_low counts c at F.HalfArrow = omega arith
size_low counts c at F.HalfStop = omega arith
size_low counts c at F.Nothing = omega arith

place-low : (k at : ℕ) → at < 65536 → place_of k at ≤ 65600
place-low k at h = cases (eqb k 42) (λ e. rw e (let q : at + 32 ≤ 65600 = omega arith in q)) (λ e. rw e (let q : at ≤ 65600 = omega arith in q))

abbrev LowBad : Result Stage (ℕ × ℕ) → Type 0
LowBad (Ok d) = Unit {0}
LowBad (Err r) = (r.0 < 256) × (r.1 ≤ 65600)

bad-low : (counts : List ℕ) (c : Stage) (at : ℕ) (found : Found) → at < 65536 → LowBad (turned counts c at found)
bad-low counts c at found h =
    cases (is_wrong (next c found)) (λ w. rw w (let q : 41 < 256 = omega arith in q, let q : at ≤ 65600 = omega arith in q))
    (λ w.
    cases (is_half found) (λ v. rw (w, v) (let q : 41 < 256 = omega arith in q, let q : at + 1 ≤ 65600 = omega arith in q))
    (λ v. cases (eqb (size_at counts c at found) 0) (λ z. rw (w, v, z) tt) (λ z. rw (w, v, z) (size_low counts c at found, place-low (size_at counts c at found) at h))))

pub told-whole : (text : List ℕ) → whole text ≡ told (walk (suc (length text)) begin none_yet 0 text)
told-whole text = passes (suc (length text)) begin Begin none_yet 0 text begins

pub bad-ends : {text counts : List ℕ} {c : Stage} {at : ℕ} (found : Found) (r : Result Stage Refusal) (k : Refusal) → Standing text counts c at → at < length text → Shows text at found →
    numbered r ≡ turned counts c at found → r ≡ Err k → Ends text (Err k)
bad-ends {text} {counts} {c} {at} found r k s l sh e g =
    let t : turned counts c at found ≡ Err (number k.code, k.place) = inv e ∙ ap numbered g in
    let p = stepped found s l sh in
    record {
      answers = ap (answered (pass p.fuel) (counts_after counts c found) (end_of at found) (drop (end_of at found) text)) (inv t) ∙ p.says ∙ told-whole text;
      low = subst LowBad t (bad-low counts c at found (omega (arith, l, s.short)));
    }

end-answer : (b : Bool) (at : ℕ) → answer_of (b ⇒ Ok tt ∣ Err (refusal Unexpected at)) ≡ ended b at
end-answer true at = refl
end-answer false at = refl

end_low : (b : Bool) (at : ℕ) → at ≤ 65536 → LowEnd (b ⇒ Ok tt ∣ Err (refusal Unexpected at))
end_low true at h = tt
end_low false at h = (omega arith, omega arith)

pub walk_ends : {text counts : List ℕ} {c : Stage} {at : ℕ} (r : Result ⊤ Refusal) → Standing text counts c at → length text ≤ at → r ≡ ends_at c at → Ends text r
walk_ends {text} {counts} {c} {at} r s l e =
    rw e
    (record {
      answers =
          end-answer (may_end c.mode (ltb 0 c.depth)) at
          ∙ ap (λ (b : Bool). ended (may_end c.mode b) at) (inv (deep-stack counts c.depth))
          ∙ inv (pass-end s.fuel c.mode (tally_of counts c) at (drop at text) (length-drop at text ∙ omega (arith, l)))
          ∙ s.left
          ∙ told-whole text;
      low = end_low (may_end c.mode (ltb 0 c.depth)) at (omega (arith, s.inside, s.short));
    })

-- The answer

fine-read : (x : Outcome) → fine ≡ told x → checked 0 0 ≡ text_check x
fine-read (read fs) e = refl
fine-read (refused c i) e = let z : ◌≡◌ {A = ℕ} 0 1 = cc in absurd (omega arith)

bad-refused : (x : Outcome) {k i : ℕ} → bad k i ≡ told x → checked k i ≡ text_check x
bad-refused (read fs) e = let z : ◌≡◌ {A = ℕ} 0 1 = cc in absurd (omega arith)
bad-refused (refused c j) {k} {i} e = let p : k ≡ c = cc in let q : i ≡ j = cc in rw (p, q) refl

pub long-checked : (text : List ℕ) → 65536 < length text → checked 40 0 ≡ text_check (asking text)
unfolding asking
long-checked text h = rw (lt-ltb 65536 (length text) h) refl

pub fine-checked : (text : List ℕ) (r : Result ⊤ Refusal) → length text ≤ 65536 → r ≡ Ok tt → Ends text r → checked 0 0 ≡ text_check (asking text)
unfolding asking
fine-checked text r h e s = rw (le-ltb 65536 (length text) h) (fine-read (walk (suc (length text)) begin none_yet 0 text) (ap answer_of (inv e) ∙ s.answers))

pub refused-checked : (text : List ℕ) (r : Result ⊤ Refusal) (k : Refusal) → length text ≤ 65536 → r ≡ Err k → Ends text r → checked (number k.code) k.place ≡ text_check (asking text)
unfolding asking
refused-checked text r k h e s = rw (le-ltb 65536 (length text) h) (bad-refused (walk (suc (length text)) begin none_yet 0 text) (ap answer_of (inv e) ∙ s.answers))

pub refused-low : {text : List ℕ} (r : Result ⊤ Refusal) (k : Refusal) → r ≡ Err k → Ends text r → (number k.code < 256) × (k.place ≤ 65600)
refused-low r k e s = subst LowEnd e s.low
