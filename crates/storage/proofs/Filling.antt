-- Where the writing of a list at the front of an area stands.
use Prim.Native.Nat.{ℕ, ◌+◌, ◌-◌, ◌≤◌, ◌<◌}
use native.Mathlib.Omega.{arith}
use native.Mathlib.Nat.{le_of_eq}
use native.Mathlib.Numerals.{add-one}
use mathlib.Core.Path.{◌≡◌, refl, sym as inv, ap, ap₂, ◌∙◌}
use mathlib.Core.List.{List, [], ◌∷◌, ◌++◌, append_assoc, append-nil}
use lib.ListN.{length, get_or, take, drop, set, length-append, length-drop, drop_of_length-le}
use lib.Seq.{drop-cons, drop-drop, set_at, take_all, take_at, drop_at}
use borrow.Rule.Slice.PartMut.{put_mid}
use Rattle.storage.specs.Storage.{Written}

-- what stands behind a part
pub drop_past : (l : List ℕ) (from : ℕ) (front later : List ℕ) → drop from l ≡ front ++ later → {end : ℕ} → end ≡ from + length front → drop end l ≡ later
drop_past l from front later e {end} q =
    ap (λ k. drop k l) q ∙ inv (drop-drop (length front) from l) ∙ ap (drop (length front)) e ∙ drop_at front later (length front) refl

-- what was written can be read off the front
pub written-front : {new before after : List ℕ} {r : ℕ} → Written new before after r → take r after ≡ new
written-front {new} {before} {after} {r} w = ap (take r) w.holds ∙ take_at new (drop r before) r (inv w.count)

pub written_as : {new new' before after : List ℕ} {r : ℕ} → new ≡ new' → Written new before after r → Written new' before after r
written_as e w = rw e at w

pub written-room : {new before after : List ℕ} {r : ℕ} → Written new before after r → r ≤ length after
written-room {new} {before} {after} {r} w = omega (arith, w.count, ap length w.holds, length-append new (drop r before))

-- of `all`, n are written, and `rest` is to come
pub record Filling (all before area : List ℕ) (n : ℕ) (rest : List ℕ) : Type 0 where
  pub room : length all ≤ length before
  pub front : List ℕ
  pub long : length front ≡ n
  pub written : area ≡ front ++ drop n before
  pub same : front ++ rest ≡ all

pub filling-start : {all before : List ℕ} → length all ≤ length before → Filling all before before 0 all
filling-start h = record { room = h; front = []; long = refl; written = refl; same = refl }

module _ {all before area : List ℕ} {n : ℕ} where
  pub filling-length : {rest : List ℕ} → Filling all before area n rest → length area ≡ length before
  filling-length {rest} f =
      ap length f.written
      ∙ omega (arith, length-append f.front (drop n before), length-drop n before, f.long, f.room, length-append f.front rest, ap length f.same)

  -- as many are still to come as there are not yet
  pub filling-left : {rest : List ℕ} → Filling all before area n rest → n + length rest ≡ length all
  filling-left {rest} f = omega (arith, f.long, length-append f.front rest, ap length f.same)

  pub filling-room : {x : ℕ} {rest : List ℕ} → Filling all before area n (x ∷ rest) → n < length area
  filling-room f = omega (arith, filling-left f, filling-length f, f.room)

  pub filling-done : Filling all before area n [] → Written all before area n
  filling-done f =
      let e : f.front ≡ all = inv (append-nil f.front) ∙ f.same in
      record { count = inv f.long ∙ ap length e; holds = f.written ∙ ap (λ l. l ++ drop n before) e }

  -- one more
  pub filling-next : {x : ℕ} {rest : List ℕ} → Filling all before area n (x ∷ rest) → Filling all before (set area n x) (n + 1) rest
  filling-next {x} {rest} f =
      let l = filling-left f in
      let m = f.room in
      let d : drop n before ≡ get_or before n 0 ∷ drop (n + 1) before = rw add-one (drop-cons before n 0 (omega arith)) in
      record {
        room = m;
        front = f.front ++ (x ∷ []);
        long = length-append f.front (x ∷ []) ∙ ap (λ k. k + 1) f.long;
        written = ap (λ a. set a n x) (f.written ∙ ap (λ a. f.front ++ a) d) ∙ set_at f.front _ (drop (n + 1) before) x n f.long ∙ inv (append_assoc f.front (x ∷ []) (drop (n + 1) before));
        same = append_assoc f.front (x ∷ []) rest ∙ f.same;
      }

-- a part that was lent from a place to the end is the rest
part-tail : (at : ℕ) (l : List ℕ) → take (length l - at) (drop at l) ≡ drop at l
part-tail at l = take_all (length l - at) (drop at l) (le_of_eq (length-drop at l))

-- when it comes back, it stands after what was before it
put-tail : (at : ℕ) (l m : List ℕ) → put_mid at (length l - at) l m ≡ take at l ++ m
put-tail at l m =
    let e : drop (length l - at) (drop at l) ≡ [] = drop_of_length-le (drop at l) (le_of_eq (length-drop at l)) in
    ap (λ t. take at l ++ (m ++ t)) e ∙ ap (λ t. take at l ++ t) (append-nil m)

-- several more, written at the front of the rest of the area by whom it was lent to
pub filling-part : {all before area new part rest : List ℕ} {n r : ℕ} → Filling all before area n (new ++ rest) → Written new (take (length area - n) (drop n area)) part r →
    Filling all before (put_mid n (length area - n) area part) (n + r) rest
filling-part {before = before} {area = area} {new = new} {part = part} {rest = rest} {n = n} {r = r} f w =
    let front : take n area ≡ f.front = ap (take n) f.written ∙ take_at f.front (drop n before) n f.long in
    let back : drop n area ≡ drop n before = ap (drop n) f.written ∙ drop_at f.front (drop n before) n f.long in
    let more : part ≡ new ++ drop (n + r) before = w.holds ∙ ap (λ t. new ++ drop r t) (part-tail n area ∙ back) ∙ ap (λ t. new ++ t) (drop-drop r n before) in
    record {
      room = f.room;
      front = f.front ++ new;
      long = length-append f.front new ∙ ap₂ ◌+◌ f.long (inv w.count);
      written = put-tail n area part ∙ ap₂ ◌++◌ front more ∙ inv (append_assoc f.front new (drop (n + r) before));
      same = append_assoc f.front new rest ∙ f.same;
    }
