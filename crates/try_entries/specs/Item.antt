-- An item of the stream, for an entry that is lent areas.
use Rattle.std.specs.Prelude.{ℕ, ◌+◌, ◌-◌, ◌*◌, Bool, false, List, length, nat_le, nat_lt, slice_index}
use Rattle.terms.specs.When.{◌⇒◌∣◌}

-- four bytes, most significant first
abbrev pub word_at : List ℕ → ℕ → ℕ
word_at s at = slice_index s at * 16777216 + slice_index s (at + 1) * 65536 + slice_index s (at + 2) * 256 + slice_index s (at + 3)

-- behind the item's 20 bytes the book does not go past its end
unfoldable pub holds_book : List ℕ → Bool
holds_book item = nat_le (word_at item 16) (length item - 20)

-- the item has its 20 bytes, the goal area's length is at most `room` and the answer area's at most `space`, and it holds the book
unfoldable pub complete : List ℕ → ℕ → ℕ → Bool
complete item room space =
    nat_lt (length item) 20 ⇒ false
    ∣ nat_lt room (word_at item 4) ⇒ false
    ∣ nat_lt space (word_at item 10) ⇒ false
    ∣ holds_book item
