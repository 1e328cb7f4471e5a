-- What is answered for a name, known or new.
use Prim.Native.Nat.{ℕ, ◌+◌, ◌≤◌, ◌<◌}
use mathlib.Core.Path.{◌≡◌}
use mathlib.Core.Bool.{true, false}
use mathlib.Core.List.{List, [], ◌∷◌, ◌++◌}
use native.Mathlib.Omega.{arith}
use borrow.Author.Tests.{lt-ltb, le-ltb}
use lib.ListN.{length, get_or, set}
use Rattle.terms.specs.Cases.{cases}
use Rattle.grammar.specs.Names.{place, within}
use Rattle.grammar.specs.NameLaws.{place-low, place-within, place-outside}
use Rattle.nametable.specs.Table.{word, hash, Table, Room, Put, Numbered}
use Rattle.nametable.proofs.Adding.{one_entry, one-chain}

pub room-less : {starts lens heads nexts : List ℕ} (n : ℕ) → Room starts lens heads nexts (n + 1) → Room starts lens heads nexts n
room-less n r =
    record {
      starts_room = omega (arith, r.starts_room);
      lens_room = omega (arith, r.lens_room);
      heads_room = r.heads_room;
      nexts_room = omega (arith, r.nexts_room);
      few = omega (arith, r.few);
    }

known-within : (w : List ℕ) (l : List (List ℕ)) → place w l < length l → within w l ≡ true
known-within w l h = cases (within w l) (λ t. t) (λ t. absurd (omega (arith, place-outside w l t)))

new-within : (w : List ℕ) (l : List (List ℕ)) → length l ≤ place w l → within w l ≡ false
new-within w l h = cases (within w l) (λ t. absurd (omega (arith, place-within w l t))) (λ t. t)

module _ {text starts lens heads nexts : List ℕ} (names : List (List ℕ)) (n : ℕ) (t : Table text starts lens heads nexts names n) where
  pub known-number : (w : List ℕ) (r : ℕ) → r ≡ place w names → r < n → Numbered text starts lens heads nexts names n w r
  known-number w r e l =
      record { answers = e; table = rw (known-within w names (omega (arith, e, t.entries.count)), lt-ltb r n l) t }

  pub new-number : {starts' lens' heads' nexts' : List ℕ} (at len h r : ℕ) → Room starts lens heads nexts (n + 1) → at + len ≤ length text →
      Put starts starts' lens lens' heads heads' nexts nexts' n at len h → h ≡ hash (word text at len) → h < 4096 → r ≡ place (word text at len) names → n ≤ r →
      Numbered text starts' lens' heads' nexts' names n (word text at len) r
  new-number {starts'} {lens'} {heads'} {nexts'} at len h r room fits p q low e l =
      let w = word text at len in
      let k : n ≡ place w names = omega (arith, e, l, t.entries.count, place-low w names) in
      let z : Table text (set starts n at) (set lens n len) (set heads h (n + 1)) (set nexts n (get_or heads h 0)) (names ++ (w ∷ [])) (n + 1) =
      record {
        entries = one_entry text starts lens names n at len t.entries (omega (arith, room.starts_room)) (omega (arith, room.lens_room)) fits k;
        chains = one-chain heads nexts names n h w t.entries.count t.chains room.heads_room (omega (arith, room.nexts_room)) q low;
      } in
      record {
        answers = e;
        table = rw (new-within w names (omega (arith, k, t.entries.count)), le-ltb r n l, p.starts_are, p.lens_are, p.heads_are, p.nexts_are) z;
      }
