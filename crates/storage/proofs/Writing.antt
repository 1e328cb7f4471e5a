-- Where the writing of words as records stands, each part lent from where the one before it ended.
use Prim.Native.Nat.{ℕ, ◌+◌, ◌-◌, ◌*◌, ◌/◌, ◌%◌, ◌≤◌, ◌<◌, zero-le}
use native.Mathlib.Omega.{arith}
use native.Mathlib.Numerals.{add-one}
use mathlib.Core.Path.{◌≡◌, refl, sym as inv, ap, ap₂, ◌∙◌}
use mathlib.Core.List.{List, [], ◌∷◌, ◌++◌, append-nil}
use lib.ListN.{length, get_or, take, drop, set, length-set, length-drop, drop_of_length-le}
use lib.Seq.{drop-cons, drop-set-lt, sets-eq, length-take-le}
use borrow.Rule.Slice.PartMut.{put_mid}
use mir.Val.{Fits}
use mir.Syntax.{w64}
use Rattle.search.specs.Next as Next
use Rattle.format.specs.Format.{encode_goal}
use Rattle.format.specs.Words.{word_bytes, words_bytes}
use Rattle.storage.specs.Storage.{Written, Writable}
use Rattle.storage.proofs.Image.{bytes-short, words-short, image, writable-words, writable-image}
use Rattle.storage.proofs.Filling.{Filling, filling-start, filling-length, filling-done, filling-part}

-- of the words, those from `from` on are still to be written
pub record Writing (words before area : List ℕ) (at from : ℕ) : Type 0 where
  fill : Filling (words_bytes words) before area at (words_bytes (drop from words))
  pub place : from ≤ length words
  pub short : at ≤ 4 * from
  pub few : length words ≤ 4096
  pub enough : 4 * length words ≤ length before
  pub kept : length area ≡ length before

pub writing_start : (words before : List ℕ) → (length words ≤ 4096) × (4 * length words ≤ length before) → Writing words before before 0 0
writing_start words before h = record {
  fill = filling-start (omega (arith, words-short words));
  place = zero-le;
  short = zero-le;
  few = omega arith;
  enough = omega arith;
  kept = refl;
}

module _ {words before area : List ℕ} {at from : ℕ} (w : Writing words before area at from) where
  pub writing-next : {part : List ℕ} {r : ℕ} → from < length words → Written (word_bytes (get_or words from 0)) (take (length area - at) (drop at area)) part r →
      Writing words before (put_mid at (length area - at) area part) (at + r) (from + 1)
  writing-next h n =
      let d : drop from words ≡ get_or words from 0 ∷ drop (from + 1) words = rw add-one (drop-cons words from 0 h) in
      let f = filling-part (rw d at w.fill) n in
      record {
        fill = f;
        place = omega arith;
        short = omega (arith, w.short, n.count, bytes-short (get_or words from 0));
        few = w.few;
        enough = w.enough;
        kept = filling-length f;
      }

  pub writing-fits : {part : List ℕ} {r : ℕ} → from < length words → Written (word_bytes (get_or words from 0)) (take (length area - at) (drop at area)) part r → Fits w64 (at + r)
  writing-fits h n = let x = writing-next h n in omega (arith, x.short, x.place, x.few)

  pub writing-end : length words ≤ from → Written (words_bytes words) before area at
  writing-end h = filling-done (let e : drop from words ≡ [] = drop_of_length-le words h in let f : Filling (words_bytes words) before area at [] = rw e at w.fill in f)

pub ruleset writing = (writing-next, writing-fits, writing-end)

-- A goal's words behind its header.

abbrev with_head : ℕ → ℕ → List ℕ → List ℕ
with_head high low area = set (set (set area 0 6) 1 high) 2 low

drop-headed : (high low : ℕ) (area : List ℕ) (n : ℕ) → 3 ≤ n → drop n (with_head high low area) ≡ drop n area
drop-headed high low area n q = drop-set-lt n (set (set area 0 6) 1 high) 2 low (omega arith) ∙ drop-set-lt n (set area 0 6) 1 high (omega arith) ∙ drop-set-lt n area 0 6 (omega arith)

headed-length : (high low : ℕ) (area : List ℕ) → length (with_head high low area) ≡ length area
headed-length high low area = simp length-set

abbrev head_rest : ℕ → ℕ → List ℕ → List ℕ
head_rest high low area = take (length (with_head high low area) - 3) (drop 3 (with_head high low area))

pub image-fits : {words before part : List ℕ} {formulas r : ℕ} → (g : Next.Goal) × Writable words formulas g → Written (words_bytes words) before part r → Fits w64 (3 + r)
image-fits {words} h w = omega (arith, w.count, words-short words, writable-words h.1)

module _ {words : List ℕ} {formulas : ℕ} (high low : ℕ) (area : List ℕ) (writable : (g : Next.Goal) × Writable words formulas g) (room : 16387 ≤ length area) where
  pub image-room : (length words ≤ 4096) × (4 * length words ≤ length (head_rest high low area))
  image-room =
      let a = with_head high low area in
      let few = writable-words writable.1 in
      (few, omega (arith, headed-length high low area, length-take-le (length a - 3) (drop 3 a) (omega (arith, length-drop 3 a))))

  -- what is written behind the header, whose bytes are the number's
  module _ {part : List ℕ} {r : ℕ} (is : (high ≡ formulas / 256) × (low ≡ formulas % 256)) (w : Written (words_bytes words) (head_rest high low area) part r) where
    imaged : Filling (image words formulas) (with_head high low area) (put_mid 3 (length (with_head high low area) - 3) (with_head high low area) part) (3 + r) []
    imaged =
        let few = writable-words writable.1 in
        let head : List ℕ = 6 ∷ high ∷ low ∷ [] in
        filling-part {rest = []} record {
          room = omega (arith, words-short words, headed-length high low area);
          front = head;
          long = refl;
          written = sets-eq head area 0 (omega arith) ∙ ap (λ l. head ++ l) (inv (drop-headed high low area 3 (omega arith)));
          same = ap₂ (λ h l. 6 ∷ h ∷ l ∷ (words_bytes words ++ [])) is.0 is.1 ∙ ap (λ l. 6 ∷ formulas / 256 ∷ formulas % 256 ∷ l) (append-nil (words_bytes words));
        } w

    pub image-length : length (put_mid 3 (length (with_head high low area) - 3) (with_head high low area) part) ≡ length area
    image-length = filling-length imaged ∙ headed-length high low area

    pub image-whole : (g : Next.Goal) → Writable words formulas g → Written (encode_goal g) area (put_mid 3 (length (with_head high low area) - 3) (with_head high low area) part) (3 + r)
    image-whole g h =
        let x = filling-done imaged in
        let e = writable-image h in
        record { count = x.count ∙ ap length e; holds = x.holds ∙ ap₂ ◌++◌ e (drop-headed high low area (3 + r) (omega arith)) }
