-- A part of a list that is put back, and the parts beside it.
use Prim.Native.Nat.{ℕ, zero, suc, ◌+◌, ◌-◌, ◌≤◌}
use mathlib.Core.Path.{◌≡◌, refl, sym as inv, ap, ◌∙◌}
use mathlib.Core.List.{List, [], ◌∷◌, ◌++◌}
use native.Mathlib.Omega.{arith}
use lib.ListN.{length, take, drop, length-drop}
use lib.Seq.{length-take-le}
use borrow.Rule.Slice.PartMut.{put_mid, same_len_mid, drop_put}
use Rattle.symbols.specs.Sections.{part, Apart, before, behind}

-- the end of a list is not looked at
take-front : (m a : ℕ) (xs zs : List ℕ) → m ≤ a → a ≤ length xs → take m (take a xs ++ zs) ≡ take m xs
take-front zero a xs zs l h = refl
take-front (suc m) zero xs zs l h = absurd (omega arith)
take-front (suc m) (suc a) [] zs l h = absurd (omega arith)
take-front (suc m) (suc a) (x ∷ xs) zs l h = ap (λ (t : List ℕ). x ∷ t) (take-front m a xs zs (omega arith) (omega arith))

part-front : (b m a : ℕ) (xs zs : List ℕ) → b + m ≤ a → a ≤ length xs → take m (drop b (take a xs ++ zs)) ≡ take m (drop b xs)
part-front zero m a xs zs l h = take-front m a xs zs (omega arith) h
part-front (suc b) m zero xs zs l h = absurd (omega arith)
part-front (suc b) m (suc a) [] zs l h = absurd (omega arith)
part-front (suc b) m (suc a) (x ∷ xs) zs l h = part-front b m a xs zs (omega arith) (omega arith)

drop_more : (a b : ℕ) (xs : List ℕ) (c : ℕ) → a + b ≡ c → drop b (drop a xs) ≡ drop c xs
drop_more zero b xs c e = let z : b ≡ c = omega (arith, e) in ap (λ (n : ℕ). drop n xs) z
drop_more (suc a) b [] zero e = absurd (omega arith)
drop_more (suc a) zero [] (suc c) e = refl
drop_more (suc a) (suc b) [] (suc c) e = refl
drop_more (suc a) b (x ∷ xs) zero e = absurd (omega arith)
drop_more (suc a) b (x ∷ xs) (suc c) e = drop_more a b xs c (omega (arith, e))

-- the part itself
take_exact : (k : ℕ) (ys zs : List ℕ) → length ys ≡ k → take k (ys ++ zs) ≡ ys
take_exact zero [] zs e = refl
take_exact zero (y ∷ ys) zs e = absurd (omega arith)
take_exact (suc k) [] zs e = absurd (omega arith)
take_exact (suc k) (y ∷ ys) zs e = ap (λ (t : List ℕ). y ∷ t) (take_exact k ys zs (omega arith))

drop_exact : (a : ℕ) (xs zs : List ℕ) → a ≤ length xs → drop a (take a xs ++ zs) ≡ zs
drop_exact zero xs zs h = refl
drop_exact (suc a) [] zs h = absurd (omega arith)
drop_exact (suc a) (x ∷ xs) zs h = drop_exact a xs zs (omega arith)

pub put-part : (a e k : ℕ) (xs ys : List ℕ) → a + k ≡ e → e ≤ length xs → length ys ≡ k → part a k (put_mid a (e - a) xs ys) ≡ ys
put-part a e k xs ys p l h =
    ap (take k) (drop_exact a xs (ys ++ drop (e - a) (drop a xs)) (omega (arith, p, l))) ∙ take_exact k ys (drop (e - a) (drop a xs)) h

-- another one
pub put_other : (a e k b n : ℕ) (xs ys : List ℕ) → a + k ≡ e → e ≤ length xs → length ys ≡ k → Apart a k b n → part b n (put_mid a (e - a) xs ys) ≡ part b n xs
put_other a e k b n xs ys p l h (behind q) = part-front b n a xs (ys ++ drop (e - a) (drop a xs)) q (omega (arith, p, l))
put_other a e k b n xs ys p l h (before q) =
    let f : e + (b - e) ≡ b = omega (arith, p, q) in
    ap (take n)
    (inv (drop_more e (b - e) (put_mid a (e - a) xs ys) b f)
    ∙ ap (drop (b - e)) (drop_put a e xs ys (omega (arith, p)) l (omega (arith, h, p)))
    ∙ drop_more e (b - e) xs b f)

pub part_length : (a k : ℕ) (xs : List ℕ) → a + k ≤ length xs → length (part a k xs) ≡ k
part_length a k xs l = length-take-le k (drop a xs) (omega (arith, length-drop a xs))

pub put-length : (a e k : ℕ) (xs ys : List ℕ) → a + k ≡ e → e ≤ length xs → length ys ≡ k → length (put_mid a (e - a) xs ys) ≡ length xs
put-length a e k xs ys p l h =
    same_len_mid a (e - a) xs ys (h ∙ inv (ap (λ (m : ℕ). length (part a m xs)) (let z : e - a ≡ k = omega (arith, p) in z) ∙ part_length a k xs (omega (arith, p, l))))
