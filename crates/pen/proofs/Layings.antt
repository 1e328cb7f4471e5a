-- Bytes laid one behind the other.
use Rattle.std.specs.Prelude.{Option, Some, None}
use Rattle.std.proofs.Common.{Bor}
use Prim.Native.Nat.{ℕ, zero, suc, ◌+◌, ◌-◌, ◌*◌, ◌≤◌, ◌<◌}
use mathlib.Core.Path.{◌≡◌, refl, sym as inv, ap, ◌∙◌, subst}
use mathlib.Core.List.{List, [], ◌∷◌, ◌++◌}
use native.Mathlib.Omega.{arith}
use lib.ListN.{length, get_or, set, take, drop, length-set, length-drop}
use lib.Seq.{take-suc, take_all}
use Rattle.grammar.specs.Names.{Sort}
use Rattle.printing.specs.Named.{digits, variable_name}
use Rattle.namelist.specs.List.{Entry, naming}
use Rattle.namelist.specs.ListLaws.{Stands}
use Rattle.namelist.specs.NamingLaws.{GivesName}
use Rattle.printouts.specs.Laying.{up, lay, Lays, lays-none, lays-then}

lay-length : (area : List ℕ) (at : ℕ) (w : List ℕ) → length (lay area at w) ≡ length area
lay-length area at [] = refl
lay-length area at (b ∷ w) = lay-length (set area at b) (up at) w ∙ length-set area at b

pub lays-length : (area area' : List ℕ) (at r : ℕ) (w : List ℕ) → Lays area area' at r w → length area' ≡ length area
lays-length area area' at r w l = ap length l.area_is ∙ lay-length area at w

-- Bytes one by one

pub laying-next : (area₀ area area' s : List ℕ) (at end r i : ℕ) → i < length s → Lays area₀ area at end (take i s) → Lays area area' end r (get_or s i 0 ∷ []) → Lays area₀ area' at r (take (i + 1) s)
laying-next area₀ area area' s at end r i h p q =
    subst (Lays area₀ area' at r) (inv (take-suc s i 0 h) ∙ ap (λ (k : ℕ). take k s) (let q : suc i ≡ i + 1 = omega arith in q)) (lays-then area₀ area area' at end r (take i s) (get_or s i 0 ∷ []) p q)

-- A symbol's name

pub symbol-laid : (s area area' : List ℕ) (n at r : ℕ) (k : Sort) (f : Option (Bor (List ℕ))) (b : Bor (List ℕ)) → f ≡ Some b → ((l : List Entry) → Stands s 0 l → GivesName f (naming l k n)) →
    Lays area area' at r b.now → (l : List Entry) → Stands s 0 l → Lays area area' at r (naming l k n)
symbol-laid s area area' n at r k f b e g p l h = let y : GivesName (Some b) (naming l k n) = subst (λ (x : Option (Bor (List ℕ))). GivesName x (naming l k n)) e (g l h) in subst (Lays area area' at r) y.0 p

pub symbol-none : (s area : List ℕ) (n at : ℕ) (k : Sort) (f : Option (Bor (List ℕ))) → f ≡ None → ((l : List Entry) → Stands s 0 l → GivesName f (naming l k n)) →
    (l : List Entry) → Stands s 0 l → Lays area area at at (naming l k n)
symbol-none s area n at k f e g l h = let y : GivesName None (naming l k n) = subst (λ (x : Option (Bor (List ℕ))). GivesName x (naming l k n)) e (g l h) in subst (Lays area area at at) (inv y) (lays-none area at)

-- Digits

abbrev ten : ℕ → ℕ
ten zero = 1
ten (suc k) = 10 * ten k

pub record Digits (v : ℕ) (five : List ℕ) (n i : ℕ) : Type 0 where
  pub size : length five ≡ 5
  pub inside : i ≤ 4
  pub low : n < ten (suc i)
  pub rest : digits (suc i) n ++ drop (suc i) five ≡ digits 5 v

pub variable-laid : (v start at i r : ℕ) (five a b c : List ℕ) → drop start five ≡ digits 5 v → length five ≡ 5 → Lays a b at i (86 ∷ []) → Lays b c i r (take (5 - start) (drop start five)) → Lays a c at r (variable_name v)
variable-laid v start at i r five a b c e h p q =
    lays-then a b c at i r (86 ∷ []) (digits 5 v) p (subst (Lays b c i r) (take_all (5 - start) (drop start five) (omega (arith, length-drop start five)) ∙ e) q)
