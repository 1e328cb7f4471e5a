use native.Mathlib.Omega.{arith}
use mathlib.Core.Path.{◌≡◌, ap, ◌∙◌}
use mathlib.Core.List.{List, [], ◌∷◌}
use Prim.Native.Nat.{ℕ, ◌/◌, ◌%◌, ◌≤◌}
use lib.ListN.{get_or, length-set}
use Rattle.storage.proofs.Image.{writable-formulas}
use Rattle.storage.proofs.Writing.{image-room, image-fits, image-length, image-whole}
use Rattle.storage.proofs.write_goal.Goals as goal

-- the two bytes of a number below 65,536
bytes_are : {s : List ℕ} {n : ℕ} → n ≤ 512 → s ≡ n / 256 % 256 ∷ n % 256 ∷ [] → (get_or s 0 0 ≡ n / 256) × (get_or s 1 0 ≡ n % 256)
bytes_are {s} {n} l e = let high : n / 256 % 256 ≡ n / 256 = omega arith in (ap (λ (z : List ℕ). get_or z 0 0) e ∙ high, ap (λ (z : List ℕ). get_or z 1 0) e)

pub overflow_cast-formulas : goal.overflow_cast-formulas
overflow_cast-formulas c = omega (arith, writable-formulas c.requires.writable.1)

pub bounds-area-1 : goal.bounds-area-1
bounds-area-1 c = simp length-set (omega arith)

pub bounds-area-2 : goal.bounds-area-2
bounds-area-2 c = simp length-set (omega arith)

pub slice_bounds-write_words-count : goal.slice_bounds-write_words-count
slice_bounds-write_words-count c = simp length-set (omega arith)

pub slice_bounds-write_words-start : goal.slice_bounds-write_words-start
slice_bounds-write_words-start c = simp length-set (omega arith)

pub write_words-requires : goal.write_words-requires
write_words-requires c = image-room _ _ c.args.area.now c.requires.writable c.requires.in_bounds

pub overflow_add-result : goal.overflow_add-result
overflow_add-result c = image-fits c.requires.writable c.write_words.ensures

pub shape_of-area : goal.shape_of-area
shape_of-area c =
    image-length _ _ c.args.area.now c.requires.writable c.requires.in_bounds (bytes_are (omega (arith, writable-formulas c.requires.writable.1)) c.to_be_bytes.ensures) c.write_words.ensures

pub returns : goal.returns
returns c =
    image-whole _ _ c.args.area.now c.requires.writable c.requires.in_bounds (bytes_are (omega (arith, writable-formulas c.requires.writable.1)) c.to_be_bytes.ensures) c.write_words.ensures
