-- Entries in the bytes that list them.
use Rattle.std.specs.Prelude.{ℕ, ◌+◌, ◌*◌, ◌/◌, ◌%◌, ◌≤◌, ◌≡◌, refl, List, [], ◌∷◌, ◌++◌, length, get_or, take, drop}
use Rattle.std.proofs.Common.{sym as inv, ap, ap₂, ◌∙◌, arith, length-append, length-drop, get_or-drop, drop-drop}
use Rattle.std.proofs.Math.Seq.{take-append_seam, drop-append_seam}
use Rattle.format.specs.Reading.{number_at}
use Rattle.grammar.specs.Names.{kind}
use Rattle.namelist.specs.List.{Entry, listed, ToEach, Proper}
use Rattle.namelist.specs.Bytes.{length_at, name_at, past}

-- from this place on the bytes list these entries
pub record Stands (s : List ℕ) (at : ℕ) (l : List Entry) : Type 0 where
  pub here : drop at s ≡ listed l
  pub inside : at ≤ length s
  pub proper : ToEach Proper l

-- an entry read at its place
pub record Entered (s : List ℕ) (at : ℕ) (x : Entry) (l : List Entry) : Type 0 where
  pub room : at + 4 + length x.name ≤ length s
  pub kind_is : get_or s at 0 ≡ kind x.sort
  pub number_is : number_at s (at + 1) ≡ x.number
  pub length_is : length_at s at ≡ length x.name
  pub name_is : name_at s at ≡ x.name
  pub next : Stands s (past s at) l

parts : (n b c : ℕ) → b ≡ n / 256 → c ≡ n % 256 → b * 256 + c ≡ n
parts n b c p q = omega arith

number-parts : (s : List ℕ) (i n : ℕ) → get_or s i 0 ≡ n / 256 → get_or s (i + 1) 0 ≡ n % 256 → number_at s i ≡ n
unfolding number_at
number-parts s i n p q = parts n (get_or s i 0) (get_or s (i + 1) 0) p q

module _ (s : List ℕ) (at : ℕ) (x : Entry) (l : List Entry) (h : Stands s at (x ∷ l)) where
  byte : (i : ℕ) → get_or s (at + i) 0 ≡ get_or (listed (x ∷ l)) i 0
  byte i = inv (get_or-drop at s i 0) ∙ ap (λ (t : List ℕ). get_or t i 0) h.here

  behind : drop (at + 4) s ≡ x.name ++ listed l
  behind = inv (drop-drop 4 at s) ∙ ap (drop 4) h.here

  long : length (drop at s) ≡ 4 + (length x.name + length (listed l))
  long = ap length h.here ∙ (let z = length-append x.name (listed l) in omega arith)

  pub entered : Entered s at x l
  entered =
      let len : length_at s at ≡ length x.name = byte 3 in
      record {
        room = omega (arith, long, length-drop at s);
        kind_is = ap (λ (i : ℕ). get_or s i 0) (let z : at ≡ at + 0 = omega arith in z) ∙ byte 0;
        number_is = number-parts s (at + 1) x.number (byte 1) (ap (λ (i : ℕ). get_or s i 0) (let z : at + 1 + 1 ≡ at + 2 = omega arith in z) ∙ byte 2);
        length_is = len;
        name_is = ap₂ take len behind ∙ take-append_seam x.name (listed l);
        next =
            record {
              here = ap (λ (n : ℕ). drop (at + 4 + n) s) len ∙ inv (drop-drop (length x.name) (at + 4) s) ∙ ap (drop (length x.name)) behind ∙ drop-append_seam x.name (listed l);
              inside = omega (arith, len, long, length-drop at s);
              proper = h.proper.1;
            };
      }

-- the list's end
pub stands-end : (s : List ℕ) (at : ℕ) (l : List Entry) → Stands s at l → length s ≤ at → l ≡ []
stands-end s at [] h g = refl
stands-end s at (x ∷ l) h g = absurd (omega (arith, (entered s at x l h).room))

pub stands-more : (s : List ℕ) (at : ℕ) → Stands s at [] → length s ≤ at
stands-more s at h = omega (arith, ap length h.here, length-drop at s)
