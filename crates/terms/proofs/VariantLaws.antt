-- Variants, renamings of each other, are just what numbers alike; and instances of each other are variants.
use Rattle.std.specs.Prelude.{ℕ, ◌≤◌, ◌≡◌, refl, ◌↔◌, length, get_or}
use Rattle.std.proofs.Common.{sym as inv, ap, ◌∙◌, inl, inr, arith, length-append}
use mathlib.Core.List.{List, [], ◌∷◌, ◌++◌, map, map-map, map-id, head-eq_of_cons-eq, tail-eq_of_cons-eq}
use Rattle.terms.specs.Node.{Node, var, sym, Expr}
use Rattle.terms.specs.Row.{Row, row_end, row_var, row_sym}
use Rattle.terms.specs.Subst.{In, InAny, Subst, Proper, apply, after, itself}
use Rattle.terms.specs.Rename.{rename, Variant, Variants, InjectiveOn}
use Rattle.terms.specs.Number.{place, seen_all, number_all, Numbered, canon}
use Rattle.terms.specs.RowLaws.{row-long}
use Rattle.terms.specs.SubstLaws.{apply-on, apply-after, map_same, map_on}
use Rattle.terms.specs.RenameLaws.{names, rename-apply, rename-rename, rename_idle}
use Rattle.terms.proofs.NumberLaws.{get_d_place, in-seen-all, number-all-is-rename, number-all_renamed}

-- A substitution by terms that is idle on an expression is idle on each of its variables.

-- a first part that is not empty, before a second that is long enough, is one node
one-node : (a b e : Expr) (x : Node) → 1 ≤ length a → length e ≤ length b → a ++ b ≡ x ∷ e → (a ≡ x ∷ []) × (b ≡ e)
one-node [] b e x la lb p = absurd (omega arith)
one-node (y ∷ []) b e x la lb p = (cc, cc)
one-node (y ∷ z ∷ a) b e x la lb p = absurd (omega (arith, simp length-append at (ap length p)))

module _ (σ : Subst) (long : (v : ℕ) → 1 ≤ length (σ v)) where
  apply-length : (e : Expr) → length e ≤ length (apply σ e)
  apply-length [] = omega arith
  apply-length (var v ∷ e) = simp length-append (omega (arith, long v, apply-length e))
  apply-length (sym s ∷ e) = omega (arith, apply-length e)

  idle_at : (e : Expr) → apply σ e ≡ e → (v : ℕ) → In v e → σ v ≡ itself v
  idle_at (var w ∷ e) p v (inl q) = rw q (one-node (σ w) (apply σ e) e (var w) (long w) (apply-length e) p).0
  idle_at (var w ∷ e) p v (inr i) = idle_at e (one-node (σ w) (apply σ e) e (var w) (long w) (apply-length e) p).1 v i
  idle_at (sym s ∷ e) p v i = idle_at e (tail-eq_of_cons-eq p) v i
  idle_at [] p v i = elim i [ ]

  idle_all : (g : List Expr) → map (apply σ) g ≡ g → (v : ℕ) → InAny v g → σ v ≡ itself v
  idle_all (f ∷ g) p v (inl i) = idle_at f (head-eq_of_cons-eq p) v i
  idle_all (f ∷ g) p v (inr i) = idle_all g (tail-eq_of_cons-eq p) v i
  idle_all [] p v x'' = elim x'' [ ]

-- Numbering takes different variables to different ones, so it is undone.

place_injective : (g : List Expr) → InjectiveOn (λ v. InAny v g) (λ v. place v (seen_all [] g))
place_injective g v w i j p =
    inv (get_d_place v (seen_all [] g) (in-seen-all [] g v i)) ∙ ap (λ n. get_or (seen_all [] g) n 0) p ∙ get_d_place w (seen_all [] g) (in-seen-all [] g w j)

pub numbering : (g : List Expr) → (ρ : ℕ → ℕ) × InjectiveOn (λ v. InAny v g) ρ × (number_all [] g ≡ map (rename ρ) g)
numbering g = (λ v. place v (seen_all [] g), place_injective g, number-all-is-rename [] g)

pub number-all_idempotent : (g : List Expr) → Numbered (number_all [] g)
number-all_idempotent g = let n = numbering g in ap (number_all []) n.2 ∙ number-all_renamed n.0 g n.1

pub canon_idempotent : (e : Expr) → canon (canon e) ≡ canon e
canon_idempotent e = head-eq_of_cons-eq (number-all_idempotent (e ∷ []))

-- the names of l for numbers
abbrev by_names : List ℕ → List Expr → List Expr
by_names l = map (rename (λ i. get_or l i 0))

by-names-number : (l : List ℕ) (g : List Expr) → by_names l (number_all [] g) ≡ map (rename (λ v. get_or l (place v (seen_all [] g)) 0)) g
by-names-number l g =
    ap (by_names l) (number-all-is-rename [] g) ∙ map-map (rename (λ i. get_or l i 0)) (rename (λ v. place v (seen_all [] g))) g
    ∙ map_same (λ e. rename-rename (λ i. get_or l i 0) (λ v. place v (seen_all [] g)) e) g

unnumber : (g : List Expr) → by_names (seen_all [] g) (number_all [] g) ≡ g
unnumber g =
    by-names-number (seen_all [] g) g
    ∙ map_on (λ v. get_or (seen_all [] g) (place v (seen_all [] g)) 0 ≡ v) (rename_idle (λ v. get_or (seen_all [] g) (place v (seen_all [] g)) 0)) g
    (λ v i. get_d_place v (seen_all [] g) (in-seen-all [] g v i))
    ∙ map-id g

-- the renaming of g to what numbers as it does
abbrev across : List Expr → List Expr → ℕ → ℕ
across g h v = get_or (seen_all [] h) (place v (seen_all [] g)) 0

renamed : (g h : List Expr) → number_all [] g ≡ number_all [] h → map (rename (across g h)) g ≡ h
renamed g h p = inv (by-names-number (seen_all [] h) g) ∙ ap (by_names (seen_all [] h)) p ∙ unnumber h

-- Goals number alike just when they are variants.

-- one renaming undoes another on the variables of what they lead back to
undone : (τ ρ : ℕ → ℕ) (g : List Expr) → map (rename τ) (map (rename ρ) g) ≡ g → (v : ℕ) → InAny v g → τ (ρ v) ≡ v
undone τ ρ g p v i = let q : names (λ w. τ (ρ w)) v ≡ itself v = idle_all (names (λ w. τ (ρ w))) (λ w. omega arith) g both v i in cc
  where
    both : map (apply (names (λ w. τ (ρ w)))) g ≡ g
    both = map_same (λ e. inv (rename-apply (λ w. τ (ρ w)) e) ∙ inv (rename-rename τ ρ e)) g ∙ inv (map-map (rename τ) (rename ρ) g) ∙ p

pub variants_injective : (g h : List Expr) (s : Variants g h) → InjectiveOn (λ v. InAny v g) s.forth
variants_injective g h s v w i j p = inv (home v i) ∙ ap s.back p ∙ home w j
  where
    home : (v : ℕ) → InAny v g → s.back (s.forth v) ≡ v
    home = undone s.back s.forth g (ap (map (rename s.back)) s.there ∙ s.home)

abbrev pub variants_flip : {g h : List Expr} → Variants g h → Variants h g
variants_flip s = record { forth = s.back; back = s.forth; there = s.home; home = s.there }

pub variants_iff : (g h : List Expr) → (number_all [] g ≡ number_all [] h) ↔ Variants g h
variants_iff g h = (
  λ p. record { forth = across g h; back = across h g; there = renamed g h p; home = renamed h g (inv p) },
  λ s. inv (number-all_renamed s.forth g (variants_injective g h s)) ∙ ap (number_all []) s.there,
)

pub variant_iff : (a b : Expr) → (canon a ≡ canon b) ↔ Variant a b
variant_iff a b = (to, from)
  where
    alone : (canon a ∷ [] ≡ canon b ∷ []) ↔ Variants (a ∷ []) (b ∷ [])
    alone = variants_iff (a ∷ []) (b ∷ [])

    to : canon a ≡ canon b → Variant a b
    to p = let s = alone.0 (ap (λ e. e ∷ []) p) in record { forth = s.forth; back = s.back; there = head-eq_of_cons-eq s.there; home = head-eq_of_cons-eq s.home }

    from : Variant a b → canon a ≡ canon b
    from s = head-eq_of_cons-eq (alone.1 (record { forth = s.forth; back = s.back; there = ap (λ e. e ∷ []) s.there; home = ap (λ e. e ∷ []) s.home }))

-- an injective renaming can be undone
pub inverse : (ρ : ℕ → ℕ) (g : List Expr) → InjectiveOn (λ v. InAny v g) ρ → (τ : ℕ → ℕ) × ((v : ℕ) → InAny v g → τ (ρ v) ≡ v)
inverse ρ g inj = (across (map (rename ρ) g) g, undone (across (map (rename ρ) g) g) ρ g (renamed (map (rename ρ) g) g (number-all_renamed ρ g inj)))

-- Instances of each other are variants.

abbrev the_var : Expr → ℕ
the_var [] = 0
the_var (var w ∷ e) = w
the_var (sym s ∷ e) = 0

-- a term that some substitution takes to a variable is one
term-var : (δ : Subst) (v : ℕ) {t : Expr} → Row 1 t → apply δ t ≡ itself v → t ≡ itself (the_var t)
term-var δ v (row_var row_end) p = refl
term-var δ v (row_sym r) p = cc

module _ (γ δ : Subst) (γ-proper : Proper γ) (δ-proper : Proper δ) where
  instance_rename : (g : List Expr) → map (apply δ) (map (apply γ) g) ≡ g → map (rename (λ v. the_var (γ v))) g ≡ map (apply γ) g
  instance_rename g p = map_on (λ v. γ v ≡ itself (the_var (γ v)))
      (λ e same. rename-apply (λ v. the_var (γ v)) e ∙ inv (apply-on γ (names (λ v. the_var (γ v))) e same)) g
      (λ v i. term-var δ v (γ-proper v) (idle_all (after δ γ) long g both v i))
    where
      long : (v : ℕ) → 1 ≤ length (apply δ (γ v))
      long v = omega (arith, row-long (γ-proper v), apply-length δ (λ w. row-long (δ-proper w)) (γ v))

      both : map (apply (after δ γ)) g ≡ g
      both = map_same (λ e. inv (apply-after δ γ e)) g ∙ inv (map-map (apply δ) (apply γ) g) ∙ p

pub instances_variants : (γ δ : Subst) → Proper γ → Proper δ → (g h : List Expr) → map (apply γ) g ≡ h → map (apply δ) h ≡ g → Variants g h
instances_variants γ δ pγ pδ g h p q = record {
  forth = λ v. the_var (γ v);
  back = λ v. the_var (δ v);
  there = instance_rename γ δ pγ pδ g (ap (map (apply δ)) p ∙ q) ∙ p;
  home = instance_rename δ γ pδ pγ h (ap (map (apply γ)) q ∙ p) ∙ q;
}

pub instances_number : (γ δ : Subst) → Proper γ → Proper δ → (g h : List Expr) → map (apply γ) g ≡ h → map (apply δ) h ≡ g → number_all [] g ≡ number_all [] h
instances_number γ δ pγ pδ g h p q = (variants_iff g h).1 (instances_variants γ δ pγ pδ g h p q)
