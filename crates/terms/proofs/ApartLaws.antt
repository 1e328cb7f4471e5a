-- Two renamings that are apart: any two substitutions of what was renamed are one substitution of the results.
use Rattle.std.specs.Prelude.{ℕ, ◌≡◌, List, [], ◌∷◌}
use Rattle.std.proofs.Common.{sym as inv, ap, subst}
use Rattle.std.proofs.Math.Logic.Dec.{and as dec_and}
use Rattle.terms.specs.Node.{Expr, same_number}
use Rattle.terms.specs.Row.{Row}
use Rattle.terms.specs.Subst.{InAny, either?, in?, Subst, Proper}
use Rattle.terms.specs.Rename.{Apart}
use Rattle.terms.proofs.VariantLaws.{inverse}

-- whether v is a variable of g
in_any? : (v : ℕ) (g : List Expr) → Dec (InAny v g)
in_any? v [] = no (λ i. i)
in_any? v (f ∷ g) = either? (in? v f) (in_any? v g)

-- one substitution of the results that does as a and b do
pub record Joint (α β : ℕ → ℕ) (g h : List Expr) (a b : Subst) : Type 0 where
  pub joint : Subst
  pub proper : Proper joint
  pub at_left : (v : ℕ) → InAny v g → joint (α v) ≡ a v
  pub at_right : (w : ℕ) → InAny w h → joint (β w) ≡ b w

pub join : (α β : ℕ → ℕ) (g h : List Expr) → Apart α β g h → (a b : Subst) → Proper a → Proper b → Joint α β g h a b
join α β g h apart a b pa pb = record {
  joint = λ n. pick n (ours n);
  proper = λ n. pick-proper n (ours n);
  at_left = λ v i. on-left v i (ours (α v));
  at_right = λ w j. on-right w j (ours (β w));
}
  where
    left : (τ : ℕ → ℕ) × ((v : ℕ) → InAny v g → τ (α v) ≡ v)
    left = inverse α g apart.left

    right : (τ : ℕ → ℕ) × ((w : ℕ) → InAny w h → τ (β w) ≡ w)
    right = inverse β h apart.right

    -- n comes from the left
    Ours : ℕ → Type 0
    Ours n = (α (left.0 n) ≡ n) × InAny (left.0 n) g

    ours : (n : ℕ) → Dec (Ours n)
    ours n = dec_and (same_number (α (left.0 n)) n) (in_any? (left.0 n) g)

    pick : (n : ℕ) → Dec (Ours n) → Expr
    pick n (yes o) = a (left.0 n)
    pick n (no o) = b (right.0 n)

    pick-proper : (n : ℕ) (d : Dec (Ours n)) → Row 1 (pick n d)
    pick-proper n (yes o) = pa (left.0 n)
    pick-proper n (no o) = pb (right.0 n)

    on-left : (v : ℕ) → InAny v g → (d : Dec (Ours (α v))) → pick (α v) d ≡ a v
    on-left v i (yes o) = ap a (left.1 v i)
    on-left v i (no o) = absurd (o (ap α (left.1 v i), subst (λ u. InAny u g) (inv (left.1 v i)) i))

    on-right : (w : ℕ) → InAny w h → (d : Dec (Ours (β w))) → pick (β w) d ≡ b w
    on-right w j (yes o) = absurd (apart.shared (left.0 (β w)) w o.1 j o.0)
    on-right w j (no o) = ap b (right.1 w j)
