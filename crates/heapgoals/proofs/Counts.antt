-- Places of variables, word by word.
use Prim.Native.Nat.{ℕ, suc, ◌+◌, ◌<◌}
use native.Mathlib.Omega.{arith}
use mathlib.Core.Path.{◌≡◌, ap}
use mathlib.Core.List.{List, [], ◌∷◌, map-append}
use lib.ListN.{length, get_or, take}
use lib.Seq.{take-suc}
use Rattle.words.specs.Word.{node, nodes}
use Rattle.bounds.specs.Places.{places}
use Rattle.bounds.specs.WeighLaws.{weigh-append}

pub places-more : (words : List ℕ) (i n m : ℕ) → i < length words → n ≡ places (nodes (take i words)) → m ≡ places (node (get_or words i 0) ∷ []) → {j : ℕ} → j ≡ suc i → n + m ≡ places (nodes (take j words))
places-more words i n m l e h p =
    rw p (omega (arith, e, h, ap (λ w. places (nodes w)) (take-suc words i 0 l), ap places (map-append node (take i words) (get_or words i 0 ∷ [])), weigh-append (λ v. 1) (nodes (take i words)) (node (get_or words i 0) ∷ [])))
