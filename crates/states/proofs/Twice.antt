-- A numbered goal before itself is numbered: each of its variables has a place already when it comes again.
use Prim.Native.Nat.{ℕ}
use mathlib.Core.Path.{◌≡◌, refl, sym as inv, ap, ap₂, ◌∙◌}
use mathlib.Core.Logic.{inl, inr}
use mathlib.Core.Bool.{true}
use mathlib.Core.List.{List, [], ◌∷◌, ◌++◌, map}
use Rattle.terms.specs.Node.{var, sym, Expr}
use Rattle.terms.specs.Subst.{In, InAny}
use Rattle.terms.specs.Rename.{rename}
use Rattle.terms.specs.Number.{place, within, grow, seen_after, seen_all, number_all, Numbered}
use Rattle.terms.proofs.NumberLaws.{number-all-append, number-all-is-rename, in-seen-all}

module _ (seen : List ℕ) where
  nothing-new : (e : Expr) → ((v : ℕ) → In v e → within v seen ≡ true) → seen_after seen e ≡ seen
  nothing-new [] all = refl
  nothing-new (var v ∷ e) all = rw (all v (inl refl), grow) (nothing-new e (λ w i. all w (inr i)))
  nothing-new (sym s ∷ e) all = nothing-new e all

  none-new : (g : List Expr) → ((v : ℕ) → InAny v g → within v seen ≡ true) → seen_all seen g ≡ seen
  none-new [] all = refl
  none-new (f ∷ g) all = rw (nothing-new f (λ v i. all v (inl i))) (none-new g (λ v i. all v (inr i)))

pub numbered_twice : (g : List Expr) → Numbered g → Numbered (g ++ g)
numbered_twice g n =
    let seen = seen_all [] g in
    let again : number_all seen g ≡ g =
    number-all-is-rename seen g ∙ ap (λ l. map (rename (λ v. place v l)) g) (none-new seen g (in-seen-all [] g)) ∙ inv (number-all-is-rename [] g) ∙ n in
    number-all-append [] g g ∙ ap₂ ◌++◌ n again
