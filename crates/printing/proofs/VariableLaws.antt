-- Variables that are named by their numbers: numbered by the first appearance of their names, they are numbered by their own.
use Rattle.std.specs.Prelude.{ℕ, suc, ◌<◌, ◌≡◌, refl, false, List, [], ◌∷◌, ◌++◌, map, eqb, length}
use Rattle.std.proofs.Common.{sym as inv, ap, ◌∙◌, arith, eqb-true}
use Rattle.std.proofs.lemmas.Bool.{eqb-false}
use Rattle.terms.specs.Node.{constant, compound, predicate, var, sym, Expr}
use Rattle.terms.specs.Cases.{cases}
use Rattle.terms.specs.Number.{place, within, grow, seen_after}
use Rattle.terms.proofs.NumberLaws.{place-last}
use Rattle.format.specs.Format.{Terms, terms_none, terms_var, terms_constant, terms_compound, formula, IsFormula}
use Rattle.grammar.specs.Names as Names
use Rattle.grammar.specs.Names.{same_name, with_variable, variables_after}
use Rattle.grammar.specs.NameLaws.{same_refl, same_true}
use Rattle.printing.specs.Named.{Naming, variable_name}
use Rattle.printing.specs.NamedLaws.{spots}
use Rattle.printing.specs.DigitLaws.{name-one}

-- numbers of two bytes
abbrev pub Low : List ℕ → Type 0
Low [] = Unit {0}
Low (v ∷ l) = (v < 65536) × Low l

abbrev pub LowIn : Expr → Type 0
LowIn [] = Unit {0}
LowIn (var v ∷ e) = (v < 65536) × LowIn e
LowIn (sym s ∷ e) = LowIn e

terms-low : (e : Expr) {n : ℕ} → Terms n e → LowIn e
terms-low [] terms_none = tt
terms-low (var v ∷ e) (terms_var h t) = (h, terms-low e t)
terms-low (sym (constant c) ∷ e) (terms_constant h t) = terms-low e t
terms-low (sym (compound f a) ∷ e) (terms_compound h l k t) = terms-low e t
terms-low (sym (predicate _ _) ∷ e) {n = n} x7 = elim x7 [ ]

pub formula-low : (e : Expr) → IsFormula e → LowIn e
formula-low (sym (predicate p a) ∷ e) (formula h l t) = terms-low e t
formula-low [] x' = elim x' [ ]
formula-low (var _ ∷ e) x5 = elim x5 [ ]
formula-low (sym (constant _) ∷ e) x8 = elim x8 [ ]
formula-low (sym (compound _ _) ∷ e) x10 = elim x10 [ ]

abbrev pub called : List ℕ → List (List ℕ)
called = map variable_name

names_same : (v w : ℕ) → v < 65536 → w < 65536 → same_name (variable_name v) (variable_name w) ≡ eqb v w
names_same v w h k =
    cases (eqb v w) (λ e. ap (λ (x : ℕ). same_name (variable_name v) (variable_name x)) (inv (eqb-true v w e)) ∙ same_refl (variable_name v) ∙ inv e)
    (λ e.
    cases (same_name (variable_name v) (variable_name w)) (λ t. absurd (eqb-false v w e (name-one v w (omega arith) (omega arith) (same_true (variable_name v) (variable_name w) t))))
    (λ t. t ∙ inv e))

module _ (v : ℕ) (h : v < 65536) where
  place-called : (l : List ℕ) → Low l → Names.place (variable_name v) (called l) ≡ place v l
  place-called [] k = refl
  place-called (w ∷ l) k =
      let s = names_same v w h k.0 in
      cases (eqb v w) (λ e. rw (s ∙ e, place, e) refl) (λ e. rw (s ∙ e, place, e) (ap suc (place-called l k.1)))

  within-called : (l : List ℕ) → Low l → Names.within (variable_name v) (called l) ≡ within v l
  within-called [] k = refl
  within-called (w ∷ l) k =
      let s = names_same v w h k.0 in
      cases (eqb v w) (λ e. rw (s ∙ e, within, e) refl) (λ e. rw (s ∙ e, within, e) (within-called l k.1))

  called-last : (l : List ℕ) → called (l ++ (v ∷ [])) ≡ called l ++ (variable_name v ∷ [])
  called-last [] = refl
  called-last (w ∷ l) = ap (λ (r : List (List ℕ)). variable_name w ∷ r) (called-last l)

  pub grow-called : (l : List ℕ) → Low l → with_variable (called l) (variable_name v) ≡ called (grow l v)
  grow-called l k =
      let s = within-called l k in
      cases (within v l) (λ e. rw (s ∙ e, grow, e) refl) (λ e. rw (s ∙ e, grow, e) (inv (called-last l)))

  low-last : (l : List ℕ) → Low l → Low (l ++ (v ∷ []))
  low-last [] k = (h, tt)
  low-last (w ∷ l) k = (k.0, low-last l k.1)

  pub grow-low : (l : List ℕ) → Low l → Low (grow l v)
  grow-low l k = cases (within v l) (λ e. rw (grow, e) k) (λ e. rw (grow, e) (low-last l k))

  outside : (l : List ℕ) → within v l ≡ false → place v l ≡ length l
  outside [] e = refl
  outside (w ∷ l) e = cases (eqb v w) (λ t. let z : ◌≡◌ {A = ℕ} 0 1 = cc (rw (within, t) at e) in absurd (omega arith)) (λ t. rw (place, t) (ap suc (outside l (rw (within, t) at e))))

  pub number-called : (l : List ℕ) → Low l → Names.place (variable_name v) (called l) ≡ place v (grow l v)
  number-called l k = place-called l k ∙ cases (within v l) (λ e. rw (grow, e) refl) (λ e. rw (grow, e) (outside l e ∙ inv (place-last v l e)))

-- those seen behind an expression
pub seen-called : (name : Naming) (l : List ℕ) (e : Expr) → Low l → LowIn e → variables_after (called l) (spots name e) ≡ called (seen_after l e)
seen-called name l [] k h = refl
seen-called name l (var v ∷ e) k h =
    ap (λ (s : List (List ℕ)). variables_after s (spots name e)) (grow-called v h.0 l k) ∙ seen-called name (grow l v) e (grow-low v h.0 l k) h.1
seen-called name l (sym (constant c) ∷ e) k h = seen-called name l e k h
seen-called name l (sym (compound f a) ∷ e) k h = seen-called name l e k h
seen-called name l (sym (predicate p a) ∷ e) k h = seen-called name l e k h

pub seen_low : (l : List ℕ) (e : Expr) → Low l → LowIn e → Low (seen_after l e)
seen_low l [] k h = k
seen_low l (var v ∷ e) k h = seen_low (grow l v) e (grow-low v h.0 l k) h.1
seen_low l (sym s ∷ e) k h = seen_low l e k h
