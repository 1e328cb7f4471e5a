-- The sum that stands for an area: any one byte changes it, and each byte adds to it by its place.
use Rattle.std.specs.Prelude.{ℕ, ◌+◌, ◌*◌, ◌%◌, List, [], ◌∷◌}

abbrev pub added : ℕ → ℕ → ℕ
added sum byte = (sum * 16777619 + byte) % 2147483648

abbrev pub summed_from : ℕ → List ℕ → ℕ
summed_from sum [] = sum
summed_from sum (byte ∷ bytes) = summed_from (added sum byte) bytes

abbrev pub summed : List ℕ → ℕ
summed bytes = summed_from 1 bytes
