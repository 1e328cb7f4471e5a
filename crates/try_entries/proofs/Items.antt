-- When an item is complete.
use Rattle.std.proofs.Common.{◌≡◌, ℕ, ◌-◌, ◌<◌, ◌≤◌, Bool, false, leb, List, length, take, drop, refl, ◌∙◌, ap₂, arith, length-drop, length-take-le, le-ltb, lt-ltb}
use Rattle.try_entries.specs.Item.{word_at, holds_book, complete}

-- what is behind the 20 bytes
pub book-within : (item : List ℕ) → 20 ≤ length item → (r : Bool) (n : ℕ) → n ≡ word_at item 16 → r ≡ leb n (length (take (length item - 20) (drop 20 item))) → r ≡ holds_book item
unfolding holds_book
book-within item l r n e f =
    let d : length (take (length item - 20) (drop 20 item)) ≡ length item - 20 = length-take-le (length item - 20) (drop 20 item) (omega (arith, length-drop 20 item)) in
    f ∙ ap₂ leb e d

module _ (item : List ℕ) (room space : ℕ) where
  pub too_short : length item < 20 → false ≡ complete item room space
  unfolding complete
  too_short l = simp (lt-ltb _ _ l) refl

  pub goal-too_long : 20 ≤ length item → room < word_at item 4 → false ≡ complete item room space
  unfolding complete
  goal-too_long l h = simp (le-ltb _ _ l, lt-ltb _ _ h) refl

  pub answer-too_long : 20 ≤ length item → word_at item 4 ≤ room → space < word_at item 10 → false ≡ complete item room space
  unfolding complete
  answer-too_long l h k = simp (le-ltb _ _ l, le-ltb _ _ h, lt-ltb _ _ k) refl

  pub all-within : 20 ≤ length item → word_at item 4 ≤ room → word_at item 10 ≤ space → (r : Bool) → r ≡ holds_book item → r ≡ complete item room space
  unfolding complete
  all-within l h k r e = simp (le-ltb _ _ l, le-ltb _ _ h, le-ltb _ _ k) e
