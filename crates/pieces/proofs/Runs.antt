-- The bytes at the front that pass a test, and where they end.
use Rattle.std.proofs.Common.{ℕ, suc, ◌+◌, ◌-◌, ◌≤◌, ◌≡◌, refl, sym, ap, ◌∙◌, Bool, true, false, List, [], ◌∷◌, length, take, drop, arith, length-drop, length-take-le}
use Rattle.std.specs.Prelude.{take_while}
use Rattle.std.specs.List.{prefix_len}
use lib.Seq.{drop-drop, take-length}
use Rattle.terms.specs.Cases.{cases}
use Rattle.grammar.specs.Front.{run, past}
use Rattle.pieces.specs.Found.{Ends}

-- so many bytes at the front pass the test, and then one fails
record Cut (test : ℕ → Bool) (l : List ℕ) (n : ℕ) : Type 0 where
  inside : n ≤ length l
  passes : run test l ≡ take n l
  left : past test l ≡ drop n l

one-more : (test : ℕ → Bool) (b : ℕ) (l : List ℕ) → test b ≡ true → prefix_len test (b ∷ l) ≡ suc (prefix_len test l)
one-more test b l t = rw t (omega arith)

no_more : (test : ℕ → Bool) (b : ℕ) (l : List ℕ) → test b ≡ false → prefix_len test (b ∷ l) ≡ 0
no_more test b l t = rw t refl

cut_at : (test : ℕ → Bool) (l : List ℕ) → Cut test l (prefix_len test l)
cut_at test [] = record { inside = omega arith; passes = refl; left = refl }
cut_at test (b ∷ l) =
    let c = cut_at test l in
    cases (test b) (λ t. rw (one-more test b l t) (record { inside = omega (arith, c.inside); passes = rw t (ap (λ (x : List ℕ). b ∷ x) c.passes); left = rw t c.left }))
    (λ t. rw (no_more test b l t) (record { inside = omega arith; passes = rw t refl; left = rw t refl }))

pub ends-behind : (test : ℕ → Bool) (s : List ℕ) (at n : ℕ) → at ≤ length s → n ≡ length (take_while test (take (length s - at) (drop at s))) → Ends test s at (at + n)
ends-behind test s at n h e =
    let c = cut_at test (drop at s) in
    let all : take (length s - at) (drop at s) ≡ drop at s = ap (λ (k : ℕ). take k (drop at s)) (sym (length-drop at s)) ∙ take-length (drop at s) in
    let k : n ≡ prefix_len test (drop at s) =
    e ∙ ap (λ (l : List ℕ). length (take_while test l)) all ∙ length-take-le (prefix_len test (drop at s)) (drop at s) c.inside in
    rw k
    (record {
      onward = omega arith;
      inside = omega (arith, c.inside, h, length-drop at s);
      passes = c.passes ∙ ap (λ (i : ℕ). take i (drop at s)) (omega arith);
      left = c.left ∙ drop-drop (prefix_len test (drop at s)) at s;
    })
