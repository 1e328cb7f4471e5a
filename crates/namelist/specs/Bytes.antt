-- Whether bytes are a name list, entry by entry, and of which entries. What it means: Meaning.
use Rattle.std.specs.Prelude.{ℕ, zero, suc, ◌+◌, ◌*◌, Bool, true, false, ◌&&◌, List, [], ◌∷◌, length, get_or, take, drop, eqb, ltb}
use Rattle.terms.specs.When.{◌⇒◌∣◌}
use Rattle.format.specs.Reading.{number_at}
use Rattle.grammar.specs.Byte.{small, goes_on}
use Rattle.grammar.specs.Names.{Sort, Constant, Compound, Predicate, same_name, is_sort}
use Rattle.namelist.specs.List.{Entry}

-- a name of C-13's form

abbrev pub go_on : List ℕ → Bool
go_on [] = true
go_on (b ∷ w) = goes_on b ⇒ go_on w ∣ false

abbrev pub is_name : List ℕ → Bool
is_name [] = false
is_name (b ∷ w) = small b ⇒ go_on w ∣ false

-- The entry at a place

abbrev pub sort_of : ℕ → Sort
sort_of a = eqb a 2 ⇒ Constant ∣ eqb a 3 ⇒ Compound ∣ Predicate

abbrev pub length_at : List ℕ → ℕ → ℕ
length_at s at = get_or s (at + 3) 0

abbrev pub name_at : List ℕ → ℕ → List ℕ
name_at s at = take (length_at s at) (drop (at + 4) s)

abbrev pub entry_at : List ℕ → ℕ → Entry
entry_at s at = record { sort = sort_of (get_or s at 0); number = number_at s (at + 1); name = name_at s at }

-- its rank among all symbols, by kind and then number
unfoldable pub rank : ℕ → ℕ → ℕ
rank a n = a * 65536 + n

abbrev pub rank_at : List ℕ → ℕ → ℕ
rank_at s at = rank (get_or s at 0) (number_at s (at + 1))

-- where the next one stands
abbrev pub past : List ℕ → ℕ → ℕ
past s at = at + 4 + length_at s at

-- it is whole, of rank `floor` or more, and has a name of 1 to 32 bytes
unfoldable pub entry_good : List ℕ → ℕ → ℕ → Bool
entry_good s at floor =
    ltb (length s) (at + 4) ⇒ false
    ∣ ltb (get_or s at 0) 2 ⇒ false
    ∣ ltb 4 (get_or s at 0) ⇒ false
    ∣ ltb (rank_at s at) floor ⇒ false
    ∣ ltb 32 (length_at s at) ⇒ false
    ∣ ltb (length s) (past s at) ⇒ false
    ∣ is_name (name_at s at)

-- the entries from a place on are, k at most
unfoldable pub good_from : ℕ → List ℕ → ℕ → ℕ → Bool
good_from zero s at floor = false
good_from (suc k) s at floor = ltb at (length s) ⇒ (entry_good s at floor ⇒ good_from k s (past s at) (suc (rank_at s at)) ∣ false) ∣ true

unfoldable pub entries_from : ℕ → List ℕ → ℕ → List Entry
entries_from zero s at = []
entries_from (suc k) s at = ltb at (length s) ⇒ entry_at s at ∷ entries_from k s (past s at) ∣ []

-- an entry is at least one byte long
abbrev pub entries_of : List ℕ → List Entry
entries_of s = entries_from (suc (length s)) s 0

-- No name is shared

abbrev pub shares : Entry → Entry → Bool
shares x y = is_sort x.sort y.sort && same_name x.name y.name

abbrev pub unshared : Entry → List Entry → Bool
unshared x [] = true
unshared x (y ∷ l) = shares x y ⇒ false ∣ unshared x l

abbrev pub all_unshared : List Entry → Bool
all_unshared [] = true
all_unshared (x ∷ l) = unshared x l ⇒ all_unshared l ∣ false

-- the same of two entries at their places
abbrev pub shares_at : List ℕ → ℕ → ℕ → Bool
shares_at s a b = eqb (get_or s a 0) (get_or s b 0) && same_name (name_at s a) (name_at s b)

unfoldable pub is_list : List ℕ → Bool
is_list s = good_from (suc (length s)) s 0 0 ⇒ all_unshared (entries_of s) ∣ false
