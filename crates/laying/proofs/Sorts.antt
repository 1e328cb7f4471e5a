-- The query's own words, one by one.
use Prim.Native.Nat.{ℕ, ◌+◌, ◌≤◌, ◌<◌}
use mathlib.Core.Path.{◌≡◌, refl, sym as inv, ◌∙◌}
use mathlib.Core.Bool.{Bool, true, false, true≢false}
use mathlib.Core.List.{List, [], ◌∷◌, ◌++◌}
use native.Mathlib.Omega.{arith}
use lib.ListN.{length}
use Rattle.terms.specs.When.{◌⇒◌∣◌}
use Rattle.terms.specs.Cases.{cases}
use Rattle.grammar.specs.Names as Names
use Rattle.grammar.specs.Names.{Sort, Spot, variable_spot, symbol_spot, same_name, place, within, grow, names_after, lone, variable_number, with_variable, variables_after}
use Rattle.grammar.specs.NameLaws.{place-within, place-outside, variables-append}
use Rattle.grammar.specs.Query.{Given}
use Rattle.drafts.proofs.Nodes.{names-append}
use Rattle.laying.specs.declared.Kind.{Kind}
use Rattle.laying.specs.declared.Kind.TheVariants.{Variable, Constant, Compound, Predicate}
use Rattle.laying.specs.declared.Draft.{Draft}
use Rattle.laying.specs.Words.{base_of, own_of, draft, with_one, words_of, spot_of, number_of}

-- A name that is there, and a new one

grow-known : (w : List ℕ) (l : List (List ℕ)) → place w l < length l → grow l w ≡ l
grow-known w l h = cases (within w l) (λ t. rw t refl) (λ t. absurd (omega (arith, place-outside w l t)))

grow-new : (w : List ℕ) (l : List (List ℕ)) → (place w l < length l → ⊥) → grow l w ≡ l ++ (w ∷ [])
grow-new w l h = cases (within w l) (λ t. absurd (h (place-within w l t))) (λ t. rw t refl)

with_known : (w : List ℕ) (l : List (List ℕ)) → variable_number l w < length l → with_variable l w ≡ l
with_known w l h =
    cases (lone w) (λ t. let q : variable_number l w ≡ length l = rw t refl in absurd (omega arith))
    (λ t. let q : variable_number l w ≡ place w l = rw t refl in rw t (grow-known w l (omega arith)))

with_new : (w : List ℕ) (l : List (List ℕ)) → (variable_number l w < length l → ⊥) → with_variable l w ≡ l ++ (w ∷ [])
with_new w l h =
    cases (lone w) (λ t. rw t refl)
    (λ t. let q : variable_number l w ≡ place w l = rw t refl in rw t (grow-new w l (λ (z : place w l < length l). h (omega arith))))

abbrev pub same_kind : Kind → Kind → Bool
same_kind Variable Variable = true
same_kind Variable Constant = false
same_kind Variable Compound = false
same_kind Variable Predicate = false
same_kind Constant Variable = false
same_kind Constant Constant = true
same_kind Constant Compound = false
same_kind Constant Predicate = false
same_kind Compound Variable = false
same_kind Compound Constant = false
same_kind Compound Compound = true
same_kind Compound Predicate = false
same_kind Predicate Variable = false
same_kind Predicate Constant = false
same_kind Predicate Compound = false
same_kind Predicate Predicate = true

pub kind-same : (k j : Kind) → same_kind k j ≡ true → k ≡ j
kind-same Variable Variable e = refl
kind-same Variable Constant e = absurd (true≢false (inv e))
kind-same Variable Compound e = absurd (true≢false (inv e))
kind-same Variable Predicate e = absurd (true≢false (inv e))
kind-same Constant Variable e = absurd (true≢false (inv e))
kind-same Constant Constant e = refl
kind-same Constant Compound e = absurd (true≢false (inv e))
kind-same Constant Predicate e = absurd (true≢false (inv e))
kind-same Compound Variable e = absurd (true≢false (inv e))
kind-same Compound Constant e = absurd (true≢false (inv e))
kind-same Compound Compound e = refl
kind-same Compound Predicate e = absurd (true≢false (inv e))
kind-same Predicate Variable e = absurd (true≢false (inv e))
kind-same Predicate Constant e = absurd (true≢false (inv e))
kind-same Predicate Compound e = absurd (true≢false (inv e))
kind-same Predicate Predicate e = refl

module _ (g : Given) (e : List Spot) (w : List ℕ) where
  pub words-known : (j : Kind) → number_of g e j w < length (words_of g e j) → (k : Kind) → words_of g (e ++ (spot_of j w ∷ [])) k ≡ words_of g e k
  words-known Variable h Variable = variables-append [] e (variable_spot w ∷ []) ∙ with_known w (variables_after [] e) h
  words-known Variable h Constant = names-append Names.Constant (g Names.Constant) e (variable_spot w ∷ [])
  words-known Variable h Compound = names-append Names.Compound (g Names.Compound) e (variable_spot w ∷ [])
  words-known Variable h Predicate = names-append Names.Predicate (g Names.Predicate) e (variable_spot w ∷ [])
  words-known Constant h Variable = variables-append [] e (symbol_spot Names.Constant w 0 ∷ [])
  words-known Constant h Constant = names-append Names.Constant (g Names.Constant) e (symbol_spot Names.Constant w 0 ∷ []) ∙ grow-known w (names_after Names.Constant (g Names.Constant) e) h
  words-known Constant h Compound = names-append Names.Compound (g Names.Compound) e (symbol_spot Names.Constant w 0 ∷ [])
  words-known Constant h Predicate = names-append Names.Predicate (g Names.Predicate) e (symbol_spot Names.Constant w 0 ∷ [])
  words-known Compound h Variable = variables-append [] e (symbol_spot Names.Compound w 0 ∷ [])
  words-known Compound h Constant = names-append Names.Constant (g Names.Constant) e (symbol_spot Names.Compound w 0 ∷ [])
  words-known Compound h Compound = names-append Names.Compound (g Names.Compound) e (symbol_spot Names.Compound w 0 ∷ []) ∙ grow-known w (names_after Names.Compound (g Names.Compound) e) h
  words-known Compound h Predicate = names-append Names.Predicate (g Names.Predicate) e (symbol_spot Names.Compound w 0 ∷ [])
  words-known Predicate h Variable = variables-append [] e (symbol_spot Names.Predicate w 0 ∷ [])
  words-known Predicate h Constant = names-append Names.Constant (g Names.Constant) e (symbol_spot Names.Predicate w 0 ∷ [])
  words-known Predicate h Compound = names-append Names.Compound (g Names.Compound) e (symbol_spot Names.Predicate w 0 ∷ [])
  words-known Predicate h Predicate = names-append Names.Predicate (g Names.Predicate) e (symbol_spot Names.Predicate w 0 ∷ []) ∙ grow-known w (names_after Names.Predicate (g Names.Predicate) e) h

  pub words-new : (j : Kind) → (number_of g e j w < length (words_of g e j) → ⊥) → (k : Kind) → words_of g (e ++ (spot_of j w ∷ [])) k ≡ (same_kind k j ⇒ words_of g e k ++ (w ∷ []) ∣ words_of g e k)
  words-new Variable h Variable = variables-append [] e (variable_spot w ∷ []) ∙ with_new w (variables_after [] e) h
  words-new Variable h Constant = names-append Names.Constant (g Names.Constant) e (variable_spot w ∷ [])
  words-new Variable h Compound = names-append Names.Compound (g Names.Compound) e (variable_spot w ∷ [])
  words-new Variable h Predicate = names-append Names.Predicate (g Names.Predicate) e (variable_spot w ∷ [])
  words-new Constant h Variable = variables-append [] e (symbol_spot Names.Constant w 0 ∷ [])
  words-new Constant h Constant = names-append Names.Constant (g Names.Constant) e (symbol_spot Names.Constant w 0 ∷ []) ∙ grow-new w (names_after Names.Constant (g Names.Constant) e) h
  words-new Constant h Compound = names-append Names.Compound (g Names.Compound) e (symbol_spot Names.Constant w 0 ∷ [])
  words-new Constant h Predicate = names-append Names.Predicate (g Names.Predicate) e (symbol_spot Names.Constant w 0 ∷ [])
  words-new Compound h Variable = variables-append [] e (symbol_spot Names.Compound w 0 ∷ [])
  words-new Compound h Constant = names-append Names.Constant (g Names.Constant) e (symbol_spot Names.Compound w 0 ∷ [])
  words-new Compound h Compound = names-append Names.Compound (g Names.Compound) e (symbol_spot Names.Compound w 0 ∷ []) ∙ grow-new w (names_after Names.Compound (g Names.Compound) e) h
  words-new Compound h Predicate = names-append Names.Predicate (g Names.Predicate) e (symbol_spot Names.Compound w 0 ∷ [])
  words-new Predicate h Variable = variables-append [] e (symbol_spot Names.Predicate w 0 ∷ [])
  words-new Predicate h Constant = names-append Names.Constant (g Names.Constant) e (symbol_spot Names.Predicate w 0 ∷ [])
  words-new Predicate h Compound = names-append Names.Compound (g Names.Compound) e (symbol_spot Names.Predicate w 0 ∷ [])
  words-new Predicate h Predicate = names-append Names.Predicate (g Names.Predicate) e (symbol_spot Names.Predicate w 0 ∷ []) ∙ grow-new w (names_after Names.Predicate (g Names.Predicate) e) h

pub own-more : (d : Draft) (j k : Kind) → own_of (with_one d j) k ≡ (same_kind k j ⇒ own_of d k + 1 ∣ own_of d k)
own-more d Variable Variable = refl
own-more d Variable Constant = refl
own-more d Variable Compound = refl
own-more d Variable Predicate = refl
own-more d Constant Variable = refl
own-more d Constant Constant = refl
own-more d Constant Compound = refl
own-more d Constant Predicate = refl
own-more d Compound Variable = refl
own-more d Compound Constant = refl
own-more d Compound Compound = refl
own-more d Compound Predicate = refl
own-more d Predicate Variable = refl
own-more d Predicate Constant = refl
own-more d Predicate Compound = refl
own-more d Predicate Predicate = refl

pub apart : (k j : Kind) → same_kind k j ≡ false → (i o : ℕ) → i < 4096 → o < 4096 → base_of k + i ≡ base_of j + o → ⊥
apart Variable Variable f i o a b e = true≢false f
apart Variable Constant f i o a b e = omega (arith, e)
apart Variable Compound f i o a b e = omega (arith, e)
apart Variable Predicate f i o a b e = omega (arith, e)
apart Constant Variable f i o a b e = omega (arith, e)
apart Constant Constant f i o a b e = true≢false f
apart Constant Compound f i o a b e = omega (arith, e)
apart Constant Predicate f i o a b e = omega (arith, e)
apart Compound Variable f i o a b e = omega (arith, e)
apart Compound Constant f i o a b e = omega (arith, e)
apart Compound Compound f i o a b e = true≢false f
apart Compound Predicate f i o a b e = omega (arith, e)
apart Predicate Variable f i o a b e = omega (arith, e)
apart Predicate Constant f i o a b e = omega (arith, e)
apart Predicate Compound f i o a b e = omega (arith, e)
apart Predicate Predicate f i o a b e = true≢false f

pub base-low : (k : Kind) → base_of k ≤ 12288
base-low Variable = omega arith
base-low Constant = omega arith
base-low Compound = omega arith
base-low Predicate = omega arith

pub one-stays : (d : Draft) (k : Kind) → ((with_one d k).len ≡ d.len) × ((with_one d k).depth ≡ d.depth) × ((with_one d k).formulas ≡ d.formulas)
one-stays d Variable = (refl, refl, refl)
one-stays d Constant = (refl, refl, refl)
one-stays d Compound = (refl, refl, refl)
one-stays d Predicate = (refl, refl, refl)

-- One more, by the kind

module _ (d : Draft) (k : Kind) where
  pub one-variables : k ≡ Variable → draft d.len d.depth d.formulas (d.variables + 1) d.constants d.compounds d.predicates ≡ with_one d k
  one-variables e = rw e refl

  pub one-constants : k ≡ Constant → draft d.len d.depth d.formulas d.variables (d.constants + 1) d.compounds d.predicates ≡ with_one d k
  one-constants e = rw e refl

  pub one-compounds : k ≡ Compound → draft d.len d.depth d.formulas d.variables d.constants (d.compounds + 1) d.predicates ≡ with_one d k
  one-compounds e = rw e refl

  pub one-predicates : k ≡ Predicate → draft d.len d.depth d.formulas d.variables d.constants d.compounds (d.predicates + 1) ≡ with_one d k
  one-predicates e = rw e refl

pub ruleset ones = (one-variables, one-constants, one-compounds, one-predicates)
