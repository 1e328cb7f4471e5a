-- The body, the rest of the goal and the answer, behind the formula and the head.
use Prim.Native.Nat.{ℕ, ◌+◌, ◌-◌, ◌≤◌, ◌<◌}
use native.Mathlib.Omega.{arith}
use mathlib.Core.Path.{◌≡◌, sym as inv, ap, ap₂, ◌∙◌, subst}
use mathlib.Core.List.{List, ◌++◌, map, append_assoc, map-append}
use lib.ListN.{length, get_or, take, drop, length-drop, length-append, length-map, take-append-drop}
use lib.Seq.{take_at, take-take, length-take-le, drop_at, take-add}
use Rattle.words.specs.Word.{Valid, Valids}
use Rattle.words.specs.WordLaws.{each_append, each_take, each-drop}
use Rattle.picking.specs.Laying.{moved, Appended}
use Rattle.applying.specs.Applying.{Built}

pub part-front : (m : ℕ) (l : List ℕ) → take (m - 0) (drop 0 l) ≡ take m l
part-front m l = let n : m - 0 ≡ m = omega arith in ap (λ n. take n l) n

-- a part behind a part
pub drop-take : (p r : ℕ) (z : List ℕ) → p ≤ r → r ≤ length z → take (r - p) (drop p z) ≡ drop p (take r z)
drop-take p r z h l =
    let e : p + (r - p) ≡ r = omega arith in
    inv (drop_at (take p z) (take (r - p) (drop p z)) p (length-take-le p z (omega arith))) ∙ ap (drop p) (inv (take-add p (r - p) z) ∙ ap (λ n. take n z) e)

-- what is lent from p on
pub rest-valid : (p : ℕ) (l : List ℕ) → Valids l → Valids (take (length l - p) (drop p l))
rest-valid p l v = each_take Valid (length l - p) (drop p l) (each-drop Valid p l v)

pub built : (row clause b g w₀ w₁ w₂ : List ℕ) (m k a r : ℕ) → m ≤ length row → k ≤ length clause → Appended w₀ (m + k) b 0 w₁ a → Appended w₁ a g 64 w₂ r → b ≡ drop k clause → g ≡ drop m row
    → Built w₀ row m clause k w₂ r
built row clause b g w₀ w₁ w₂ m k a r hm hk p q eb eg = record {
  end = omega (arith, p.end, q.end, ap length eb ∙ length-drop k clause, ap length eg ∙ length-drop m row);
  front = q.front ∙ ap (λ t. t ++ map (moved 64) g) p.front ∙ append_assoc (take (m + k) w₀) (map (moved 0) b) (map (moved 64) g)
      ∙ ap₂ (λ x y. take (m + k) w₀ ++ (map (moved 0) x ++ map (moved 64) y)) eb eg;
}

-- Behind the problem stand the body and the rest of the goal, and behind those, from e on, the answer: the goal is the row's first s words.
module _ (words row : List ℕ) (m s : ℕ) (clause : List ℕ) (k : ℕ) (z : List ℕ) (r : ℕ) (b : Built words row m clause k z r) (hm : m ≤ s) (hs : s ≤ length row) (hk : k ≤ length clause)
    (lw : m + k ≤ length words) (lz : r ≤ length z) where
  abbrev front : List ℕ
  front = take (m + k) words

  abbrev goal_part : List ℕ
  goal_part = map (moved 0) (drop k clause) ++ map (moved 64) (drop m (take s row))

  abbrev answer_part : List ℕ
  answer_part = map (moved 64) (drop s row)

  -- the row behind m is the goal behind m, and the answer
  rest_is : drop m row ≡ drop m (take s row) ++ drop s row
  rest_is =
      ap (drop m) (inv (take-append-drop s row)) ∙ ap (λ l. drop m (l ++ drop s row)) (inv (take-append-drop m (take s row)))
      ∙ ap (drop m) (append_assoc (take m (take s row)) (drop m (take s row)) (drop s row))
      ∙ drop_at (take m (take s row)) (drop m (take s row) ++ drop s row) m (length-take-le m (take s row) (omega (arith, length-take-le s row hs)))

  three : take r z ≡ front ++ (goal_part ++ answer_part)
  three =
      b.front ∙ ap (λ l. front ++ (map (moved 0) (drop k clause) ++ l)) (ap (map (moved 64)) rest_is ∙ map-append (moved 64) (drop m (take s row)) (drop s row))
      ∙ ap (λ l. front ++ l) (inv (append_assoc (map (moved 0) (drop k clause)) (map (moved 64) (drop m (take s row))) answer_part))

  goal-part-length : m + k + length goal_part ≡ s + length clause
  goal-part-length =
      let x : length goal_part ≡ length (drop k clause) + length (drop m (take s row)) =
      length-append (map (moved 0) (drop k clause)) (map (moved 64) (drop m (take s row))) ∙ ap₂ ◌+◌ (length-map (drop k clause) (moved 0)) (length-map (drop m (take s row)) (moved 64)) in
      omega (arith, x, length-drop k clause, length-drop m (take s row), length-take-le s row hs)

  pub end_is : r ≡ length row + length clause
  end_is = b.end

  pub problem-kept : take (m + k) z ≡ front
  problem-kept = inv (take-take (m + k) r z (omega (arith, end_is))) ∙ ap (take (m + k)) three ∙ take_at front (goal_part ++ answer_part) (m + k) (length-take-le (m + k) words lw)

  pub goal-behind : (e : ℕ) → e ≡ s + length clause → take (e - (m + k)) (drop (m + k) z) ≡ goal_part
  goal-behind e is =
      drop-take (m + k) e z (omega arith) (omega (arith, end_is)) ∙ ap (drop (m + k)) (inv (take-take e r z (omega (arith, end_is))) ∙ ap (take e) (three ∙ inv (append_assoc front goal_part answer_part))
      ∙ take_at (front ++ goal_part) answer_part e (omega (arith, length-append front goal_part, length-take-le (m + k) words lw, goal-part-length)))
      ∙ drop_at front goal_part (m + k) (length-take-le (m + k) words lw)

  pub answer-behind : (e : ℕ) → e ≡ s + length clause → take (r - e) (drop e z) ≡ answer_part
  answer-behind e is =
      drop-take e r z (omega (arith, end_is)) lz ∙ ap (drop e) (three ∙ inv (append_assoc front goal_part answer_part))
      ∙ drop_at (front ++ goal_part) answer_part e (omega (arith, length-append front goal_part, length-take-le (m + k) words lw, goal-part-length))

  pub all_of : (Q : ℕ → Type 0) → ((x : ℕ) → x < length front → Q (get_or front x 0)) → ((x : ℕ) → x < length goal_part → Q (get_or goal_part x 0)) → ((x : ℕ) → x < length answer_part → Q (get_or answer_part x 0))
      → (x : ℕ) → x < length (take r z) → Q (get_or (take r z) x 0)
  all_of Q a b c = subst (λ l. (x : ℕ) → x < length l → Q (get_or l x 0)) (inv three) (each_append Q front (goal_part ++ answer_part) a (each_append Q goal_part answer_part b c))
