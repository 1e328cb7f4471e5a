-- "The accepted texts are exactly those of a grammar written without the reader, each with one reading."
use Rattle.std.specs.Prelude.{ℕ, suc, ◌≤◌, ◌≡◌, refl, ◌↔◌, List, [], length, ltb}
use Rattle.std.proofs.Common.{sym as inv, ap, ◌∙◌, arith, ltb-false, le-ltb}
use Rattle.terms.specs.Cases.{cases}
use Rattle.format.specs.Format.{encode_book}
use Rattle.grammar.specs.Token.{tokens}
use Rattle.grammar.specs.Syntax.{Rule}
use Rattle.grammar.specs.Names.{book}
use Rattle.grammar.specs.Reading.{SmallRules, Sized, Writes}
use Rattle.reading.specs.Part.{start}
use Rattle.reading.specs.Reader.{Outcome, read, refused, walk, fitting, reading}
use Rattle.reading.specs.Limits.{SmallState}
use Rattle.reading.proofs.SoundLaws.{Found, sound}
use Rattle.reading.specs.RunLaws.{Runs, walk-runs}
use Rattle.reading.proofs.CompleteLaws.{text-run}

pub start_small : SmallState start
start_small = record { rules = tt; part = (tt, omega arith); count = omega arith; named = omega arith; mode = omega arith }

unread : {X : Type 0} {code at : ℕ} {cs : List Rule} → refused code at ≡ read cs → X
unread e = let z : ◌≡◌ {A = ℕ} 0 1 = cc in absurd (omega arith)

-- what the text, these rules, and their sizes have to be
pub record Accepted (text : List ℕ) (cs : List Rule) : Type 0 where
  pub writes : Writes text cs
  pub sized : Sized cs
  pub short : length text ≤ 65536

found-accepted : (text : List ℕ) (cs : List Rule) → length text ≤ 65536 → length (encode_book (book cs)) ≤ 32768 → Found start text cs → Accepted text cs
found-accepted text cs l b f =
    record {
      writes = record { pieces = f.pieces; spaced = f.spaced; whole = f.whole; listed = inv f.makes };
      sized = record { few = f.few; rules = f.small; bytes = b };
      short = l;
    }

fitting-read : (at : ℕ) (o : Outcome) (cs : List Rule) → fitting at o ≡ read cs → (o ≡ read cs) × (length (encode_book (book cs)) ≤ 32768)
fitting-read at (refused code i) cs e = unread e
fitting-read at (read ds) cs e =
    cases (ltb 32768 (length (encode_book (book ds)))) (λ t. unread (rw t at e))
    (λ t.
    let q : read ds ≡ read cs = rw t at e in
    let d : ds ≡ cs = cc in
    (q, rw d at (ltb-false 32768 (length (encode_book (book ds))) t)))

pub reading-sound : (text : List ℕ) (cs : List Rule) → reading text ≡ read cs → Accepted text cs
unfolding reading
reading-sound text cs e =
    cases (ltb 65536 (length text)) (λ t. unread (rw t at e))
    (λ t.
    let f = fitting-read (length text) (walk (suc (length text)) start 0 text) cs (rw t at e) in
    found-accepted text cs (ltb-false 65536 (length text) t) f.1 (sound (suc (length text)) start 0 text cs (omega arith) refl start_small f.0))

pub walk-read : (text : List ℕ) (cs : List Rule) → Writes text cs → SmallRules cs → length cs ≤ 512 → walk (suc (length text)) start 0 text ≡ read cs
walk-read text cs w s l =
    let t = text-run cs [] s (omega arith) in
    let r : Runs start (tokens w.pieces) t.end = rw w.listed at t.run in
    let o = walk-runs (suc (length text)) start 0 w.pieces t.end w.spaced (omega (arith, ap length w.whole)) r t.over in
    ap (walk (suc (length text)) start 0) w.whole ∙ o ∙ ap read t.all

pub reading-complete : (text : List ℕ) (cs : List Rule) → Accepted text cs → reading text ≡ read cs
unfolding reading
reading-complete text cs a =
    rw (le-ltb 65536 (length text) a.short, walk-read text cs a.writes a.sized.rules a.sized.few, le-ltb 32768 (length (encode_book (book cs))) a.sized.bytes)

pub reading_iff : (text : List ℕ) (cs : List Rule) → (reading text ≡ read cs) ↔ Accepted text cs
reading_iff text cs = (reading-sound text cs, reading-complete text cs)
