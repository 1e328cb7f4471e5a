use Rattle.std.proofs.Common.{◌≡◌, ℕ, ◌-◌, ◌<◌, ◌≤◌, ◌++◌, List, length, get_or, take, drop, arith, ap, ◌∙◌}
use Rattle.std.proofs.Math.ListN.{replicate}
use Rattle.std.proofs.lemmas.List.{get_or_append_left, get_or-append_right, get_or-drop, get_or-replicate, length-take-le, length-replicate}
use Rattle.words.proofs.linking.empty.Goals as goal

-- the first n numbers of s are all v in z
module _ (n v : ℕ) (s y : List ℕ) (long : n ≤ length s) (filled : y ≡ replicate (length (take n s)) v) where
  pub front : y ≡ replicate n v
  front = filled ∙ ap (λ k. replicate k v) (length-take-le n s long)

  pub long_front : length y ≡ n
  long_front = ap length front ∙ length-replicate n v

  pub inside : (h : ℕ) → h < n → get_or (y ++ drop n s) h 0 ≡ v
  inside h l = get_or_append_left y (drop n s) 0 h (omega (arith, long_front)) ∙ (ap (λ z. get_or z h 0) front ∙ get_or-replicate n h v 0 l)

  pub behind : (x : ℕ) → n ≤ x → get_or (y ++ drop n s) x 0 ≡ get_or s x 0
  behind x l = get_or-append_right y (drop n s) n x 0 long_front l ∙ get_or-drop n s (x - n) 0 ∙ ap (λ k. get_or s k 0) (omega arith)

pub returns : goal.returns
returns c = let e = c.fill.ensures.after (λ y h. h) in (inside 256 _ _ _ c.requires.1 e, behind 256 _ _ _ c.requires.1 e)
