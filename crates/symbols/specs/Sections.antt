-- Tables of names in parts of the same storage.
use Rattle.std.specs.Prelude.{ℕ, ◌+◌, ◌≤◌, ◌≡◌, List, length, take, drop, ltb}
use Rattle.terms.specs.When.{◌⇒◌∣◌}
use Rattle.grammar.specs.Names.{place, grow}
use Rattle.nametable.specs.Table.{Table}
use Rattle.symbols.specs.declared.Section.{Section}

-- the elements from a place on, so many of them
abbrev pub part : ℕ → ℕ → List ℕ → List ℕ
part a k l = take k (drop a l)

pub record Holds (text starts lens heads nexts : List ℕ) (c : Section) (names : List (List ℕ)) : Type 0 where
  pub table : Table text (part c.from c.room starts) (part c.from c.room lens) (part c.heads 4096 heads) (part c.from c.room nexts) names c.count
  pub starts_room : c.from + c.room ≤ length starts
  pub lens_room : c.from + c.room ≤ length lens
  pub heads_room : c.heads + 4096 ≤ length heads
  pub nexts_room : c.from + c.room ≤ length nexts
  pub few : c.room ≤ 32768
  pub short : length starts ≤ 65536

-- with one name more where it was new
abbrev pub next : Section → ℕ → Section
next c number = ltb number c.count ⇒ c ∣ record { from = c.from; room = c.room; heads = c.heads; count = c.count + 1 }

-- two parts of the storage that have nothing in common
pub data Apart (a m b n : ℕ) : Type 0 where
  before : a + m ≤ b → Apart a m b n
  behind : b + n ≤ a → Apart a m b n

-- what is answered for a name of a section, what the section holds afterwards, and that every other section holds what it held
pub record Numbers (text starts lens heads nexts starts' lens' heads' nexts' : List ℕ) (c : Section) (w : List ℕ) (r : ℕ) : Type 0 where
  pub answers : (names : List (List ℕ)) → Holds text starts lens heads nexts c names → r ≡ place w names
  pub table : (names : List (List ℕ)) → Holds text starts lens heads nexts c names → Holds text starts' lens' heads' nexts' (next c r) (grow names w)
  pub others : (d : Section) (names : List (List ℕ)) → Apart c.from c.room d.from d.room → Apart c.heads 4096 d.heads 4096 →
      Holds text starts lens heads nexts d names → Holds text starts' lens' heads' nexts' d names
