-- A table of names: where each stands first in the text, how long it is, and chains of those with the same hash.
use Rattle.std.specs.Prelude.{ℕ, zero, suc, ◌+◌, ◌*◌, ◌%◌, ◌≤◌, ◌<◌, ◌≡◌, List, [], ◌∷◌, length, get_or, set, take, drop, eqb, ltb, Option, Some, None}
use Rattle.terms.specs.When.{◌⇒◌∣◌}
use Rattle.grammar.specs.Names.{place, grow}

-- the bytes of a name in the text
abbrev pub word : List ℕ → ℕ → ℕ → List ℕ
word text at len = take len (drop at text)

-- a number below 4,096 that depends on the bytes alone
abbrev pub hash_from : ℕ → List ℕ → ℕ
hash_from h [] = h
hash_from h (b ∷ w) = hash_from ((h * 31 + b) % 4096) w

abbrev pub hash : List ℕ → ℕ
hash w = hash_from 0 w

-- the last of the first m names with this hash, counted from 1, or 0
abbrev pub latest : List (List ℕ) → ℕ → ℕ → ℕ
latest names zero h = 0
latest names (suc m) h = eqb (hash (get_or names m [])) h ⇒ suc m ∣ latest names m h

-- the places and lengths of n names
pub record Entries (text starts lens : List ℕ) (names : List (List ℕ)) (n : ℕ) : Type 0 where
  pub count : length names ≡ n
  pub inside : (i : ℕ) → i < n → get_or starts i 0 + get_or lens i 0 ≤ length text
  pub named : (i : ℕ) → i < n → word text (get_or starts i 0) (get_or lens i 0) ≡ get_or names i []
  pub distinct : (i j : ℕ) → i < j → j < n → get_or names i [] ≡ get_or names j [] → ⊥

-- the heads of the chains, and what each name's chain goes on with
pub record Chains (heads nexts : List ℕ) (names : List (List ℕ)) (n : ℕ) : Type 0 where
  pub begins : (h : ℕ) → h < 4096 → get_or heads h 0 ≡ latest names n h
  pub goes_on : (i : ℕ) → i < n → get_or nexts i 0 ≡ latest names i (hash (get_or names i []))

pub record Table (text starts lens heads nexts : List ℕ) (names : List (List ℕ)) (n : ℕ) : Type 0 where
  pub entries : Entries text starts lens names n
  pub chains : Chains heads nexts names n

-- lengths of the slices
pub record Room (starts lens heads nexts : List ℕ) (n : ℕ) : Type 0 where
  pub starts_room : n ≤ length starts
  pub lens_room : n ≤ length lens
  pub heads_room : length heads ≡ 4096
  pub nexts_room : n ≤ length nexts
  pub few : n ≤ 32768

-- what is found of a name among n: its place, or nothing where it is new
abbrev pub IsPlace : Option ℕ → ℕ → ℕ → Type 0
IsPlace (Some i) place n = (i ≡ place) × (i < n)
IsPlace None place n = n ≡ place

-- a name put behind n others
pub record Put (starts starts' lens lens' heads heads' nexts nexts' : List ℕ) (n at len h : ℕ) : Type 0 where
  pub starts_are : starts' ≡ set starts n at
  pub lens_are : lens' ≡ set lens n len
  pub heads_are : heads' ≡ set heads h (n + 1)
  pub nexts_are : nexts' ≡ set nexts n (get_or heads h 0)

-- what is answered for a name, and the table afterwards: with one name more where it was new
pub record Numbered (text starts lens heads nexts : List ℕ) (names : List (List ℕ)) (n : ℕ) (w : List ℕ) (r : ℕ) : Type 0 where
  pub answers : r ≡ place w names
  pub table : Table text starts lens heads nexts (grow names w) (ltb r n ⇒ n ∣ n + 1)
