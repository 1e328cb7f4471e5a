-- Whether a book knows a predicate (document 02, C-12): "Code 22 is to mean that clauses exist and none fits", and 26 that "the book has no clause for that
-- predicate and arity". It goes by heads: a predicate that stands in bodies alone is not known.
use Rattle.std.specs.Prelude.{ℕ, ◌≡◌, refl, ◌⊎◌, [], ◌∷◌}
use Rattle.std.proofs.Common.{arith, sym as inv, ap, ◌∙◌, inl, inr, ⊎_elim}
use Rattle.std.proofs.Math.Option.{Option, none, some, some-injective, none-ne-some}
use Rattle.terms.specs.Node.{Symbol, var, sym, Expr, same_symbol}
use Rattle.terms.specs.Cases.{decided}
use Rattle.search.specs.Next.{Book, Goal}

-- the symbol that an expression begins with: of a formula, its predicate with its arity
abbrev pub symbol_for : Expr → Option Symbol
symbol_for [] = none
symbol_for (var v ∷ e) = none
symbol_for (sym s ∷ e) = some s

-- f and h are of one predicate and arity
pub record Alike (f h : Expr) : Type 0 where
  pub predicate : Symbol
  pub formula : symbol_for f ≡ some predicate
  pub head : symbol_for h ≡ some predicate

-- some clause of the book has a head of the predicate and arity of f
abbrev pub Known : Book → Expr → Type 0
Known [] f = ⊥
Known (c ∷ P) f = Alike f c.head ⊎ Known P f

-- the same of a goal's leftmost formula
abbrev pub Knows : Book → Goal → Type 0
Knows P [] = ⊥
Knows P (f ∷ g) = Known P f

-- It can be computed.

unfoldable pub alike? : (f h : Expr) → Dec (Alike f h)
alike? f h = go (symbol_for f) (symbol_for h) refl refl
  where
    go : (x y : Option Symbol) → symbol_for f ≡ x → symbol_for h ≡ y → Dec (Alike f h)
    go none y p q = no (λ a. none-ne-some a.predicate (inv p ∙ a.formula))
    go (some s) none p q = no (λ a. none-ne-some a.predicate (inv q ∙ a.head))
    go (some s) (some r) p q =
        elim (same_symbol s r) [
          | yes e ↦ yes (record { predicate = s; formula = p; head = q ∙ ap some (inv e) })
          | no n ↦ no (λ a. n (some-injective s a.predicate (inv p ∙ a.formula) ∙ inv (some-injective r a.predicate (inv q ∙ a.head))))
        ]

unfoldable pub known? : (P : Book) (f : Expr) → Dec (Known P f)
known? [] f = no (λ k. k)
known? (c ∷ P) f = elim (alike? f c.head) [ yes a ↦ yes (inl a) | no n ↦ elim (known? P f) [ yes k ↦ yes (inr k) | no m ↦ no (λ k. ⊎_elim n m k) ] ]

abbrev pub knows? : (P : Book) (g : Goal) → Dec (Knows P g)
knows? P [] = no (λ k. k)
knows? P (f ∷ g) = known? P f

-- the code of a goal for which there is no next one: clauses exist and none fits, or there is none
abbrev pub stuck_by : {A : Type 0} → Dec A → ℕ
stuck_by (yes k) = 22
stuck_by (no n) = 26

unfoldable pub stuck_code : Book → Goal → ℕ
stuck_code P g = stuck_by (knows? P g)

pub stuck-known : (P : Book) (g : Goal) → Knows P g → stuck_code P g ≡ 22
unfolding stuck_code
stuck-known P g k = decided (knows? P g) (λ p e. ap stuck_by e) (λ n e. absurd (n k))

pub stuck-unknown : (P : Book) (g : Goal) → ¬ Knows P g → stuck_code P g ≡ 26
unfolding stuck_code
stuck-unknown P g n = decided (knows? P g) (λ p e. absurd (n p)) (λ m e. ap stuck_by e)

-- neither is the code of a step
pub stuck-not_25 : (P : Book) (g : Goal) → ¬ (stuck_code P g ≡ 25)
unfolding stuck_code
stuck-not_25 P g e = decided (knows? P g) (λ p d. clash 22 (ap stuck_by d) (λ (z : 22 ≡ 25). omega arith)) (λ n d. clash 26 (ap stuck_by d) (λ (z : 26 ≡ 25). omega arith))
  where
    clash : (c : ℕ) → stuck_by (knows? P g) ≡ c → (c ≡ 25 → ⊥) → ⊥
    clash c d n = n (inv d ∙ e)
