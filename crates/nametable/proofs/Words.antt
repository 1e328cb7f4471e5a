-- Names of the text, gone through byte by byte.
use Prim.Native.Nat.{ℕ, suc, ◌+◌, ◌-◌, ◌≤◌, ◌<◌}
use mathlib.Core.Path.{◌≡◌, ap, ap₂, ◌∙◌}
use mathlib.Core.List.{List, [], ◌∷◌}
use native.Mathlib.Omega.{arith}
use lib.ListN.{length, get_or, take, drop}
use lib.Seq.{drop-cons}
use Rattle.nametable.specs.Table.{word, hash_from, hash}

pub word-whole : (s : List ℕ) (at len : ℕ) → word s (at + 0) (len - 0) ≡ word s at len
word-whole s at len = ap₂ (word s) (let q : at + 0 ≡ at = omega arith in q) (let q : len - 0 ≡ len = omega arith in q)

pub word_next : (s : List ℕ) (at len i : ℕ) → at + len ≤ length s → i < len → word s (at + i) (len - i) ≡ get_or s (at + i) 0 ∷ word s (at + (i + 1)) (len - (i + 1))
word_next s at len i h l =
    ap₂ take (let q : len - i ≡ suc (len - (i + 1)) = omega arith in q) (drop-cons s (at + i) 0 (omega arith))
    ∙ ap (λ (k : ℕ). get_or s (at + i) 0 ∷ word s k (len - (i + 1))) (let q : suc (at + i) ≡ at + (i + 1) = omega arith in q)

pub word_none : (s : List ℕ) (at len i : ℕ) → i ≤ len → len ≤ i → word s (at + i) (len - i) ≡ []
word_none s at len i h l = ap (λ (k : ℕ). take k (drop (at + i) s)) (let q : len - i ≡ 0 = omega arith in q)

-- The hash

pub record Hashing (w : List ℕ) (i h : ℕ) : Type 0 where
  pub small : h < 4096
  pub rest : hash_from h (drop i w) ≡ hash w
