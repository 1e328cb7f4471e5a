-- What the pass over a text ends with is what the definition reads it as (reading, Reader).
use Rattle.std.specs.Prelude.{ℕ, ◌+◌, ◌≤◌, ◌<◌, ◌≡◌, refl, List, [], ◌∷◌, ◌++◌, length, take, Ok, Err}
use Rattle.std.proofs.Common.{sym as inv, ap, ◌∙◌, arith, length-append, length-take-le, lt-ltb, le-ltb}
use Rattle.format.specs.Format.{encode_book}
use Rattle.grammar.specs.Syntax.{Rule}
use Rattle.grammar.specs.Names.{book}
use Rattle.reading.specs.Part.{rules_of}
use Rattle.reading.specs.Reader.{read, refused, fitting, reading}
use Rattle.pieces.specs.declared.Refusal.{Refusal}
use Rattle.pieces.specs.Refusal.{number}
use Rattle.drafts.specs.declared.Draft.{Draft}
use Rattle.reader.specs.Kept.{done_bytes}
use Rattle.reader.specs.Walking.{whole, Ends}
use Rattle.reader.specs.Book.{done-book}

reading-whole : (text : List ℕ) → length text ≤ 65536 → reading text ≡ fitting (length text) (whole text)
unfolding reading
reading-whole text l = rw (le-ltb 65536 (length text) l) refl

book-length : (cs : List Rule) → length (encode_book (book (rules_of cs []))) ≡ length (done_bytes cs) + 1
book-length cs = ap length (inv (done-book cs)) ∙ length-append (done_bytes cs) (7 ∷ [])

-- a refusal is the definition's
pub ends-refused : {text out opens starts lens heads nexts : List ℕ} (r : Refusal) → length text ≤ 65536 → Ends text out opens starts lens heads nexts (Err r) → reading text ≡ refused (number r.code) r.place
ends-refused {text} r l e = reading-whole text l ∙ ap (fitting (length text)) e.ends_with

-- "at the text's length for a finished book over 32,768 bytes"
pub ends-long : {text out opens starts lens heads nexts : List ℕ} {b : Draft} → length text ≤ 65536 → Ends text out opens starts lens heads nexts (Ok b) → 32769 < b.from → reading text ≡ refused 5 (length text)
ends-long {text} l e h =
    let r = e.ends_with in
    reading-whole text l
    ∙ ap (fitting (length text)) r.reads
    ∙ rw (lt-ltb 32768 (length (encode_book (book (rules_of r.rules [])))) (omega (arith, book-length r.rules, r.sofar.grown, h))) refl

-- otherwise the text is read, and the storage holds the book without its end, and the names
pub record HoldsBook (text out : List ℕ) (b : Draft) : Type 0 where
  pub rules : List Rule
  pub reads : reading text ≡ read rules
  pub start : ℕ
  pub behind : start + 2 ≡ b.from
  pub book_is : take start out ++ (7 ∷ []) ≡ encode_book (book rules)

pub ends_read : {text out opens starts lens heads nexts : List ℕ} {b : Draft} → length text ≤ 65536 → Ends text out opens starts lens heads nexts (Ok b) → b.from ≤ 32769 → HoldsBook text out b
ends_read {text} {out} l e h =
    let r = e.ends_with in
    let k = r.sofar.kept h in
    let n : length (done_bytes r.rules) ≡ k.start =
    ap length (inv k.done) ∙ length-take-le k.start out (omega (arith, k.behind, k.built.drafted.low, k.built.drafted.long)) in
    record {
      rules = rules_of r.rules [];
      reads =
          reading-whole text l
          ∙ ap (fitting (length text)) r.reads
          ∙ rw (le-ltb 32768 (length (encode_book (book (rules_of r.rules [])))) (omega (arith, book-length r.rules, n, k.behind, h))) refl;
      start = k.start;
      behind = k.behind;
      book_is = ap (λ (x : List ℕ). x ++ (7 ∷ [])) k.done ∙ done-book r.rules;
    }
