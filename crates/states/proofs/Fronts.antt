-- A goal that is held, and its leftmost formula beside the saved one.
use Prim.Native.Nat.{ℕ, ◌≤◌, ◌<◌}
use native.Mathlib.Omega.{arith}
use mathlib.Core.Path.{◌≡◌, refl, sym as inv, ap, ◌∙◌, subst}
use mathlib.Core.Option.{Option, none, some}
use mathlib.Core.List.{List, [], ◌∷◌}
use lib.ListN.{length, take}
use lib.Seq.{length-take-le, take-take}
use Rattle.terms.specs.Node.{Expr}
use Rattle.search.specs.Next.{Goal}
use Rattle.words.specs.Word.{Fit, Fits, nodes}
use Rattle.words.specs.Held.{GoalIn}
use Rattle.words.specs.WordLaws.{each_take}
use Rattle.words.specs.HeldLaws.{front-is, first-length, first-long}
use Rattle.words.specs.PackLaws.{same-words}
use Rattle.states.specs.States.{Kept}

pub held-empty : {w : List ℕ} {m : ℕ} (g : Goal) → GoalIn w m g → m ≡ 0 → g ≡ []
held-empty [] h e = refl
held-empty (f ∷ g) h e = let z : ◌≡◌ {A = ℕ} 0 1 = omega (arith, h.count) in absurd (omega arith)

pub held_first : {w : List ℕ} {m : ℕ} (g : Goal) → GoalIn w m g → (m ≡ 0 → ⊥) → (f : Expr) × (r : Goal) × (g ≡ f ∷ r)
held_first [] h n = absurd (n h.count)
held_first (f ∷ g) h n = (f, g, refl)

pub kept-within : (saved : List ℕ) (k : ℕ) (o : Option Expr) → Kept saved k o → k ≤ length saved
kept-within saved k none e = omega arith
kept-within saved k (some f) e = e.3

-- the first words of a goal's words
module _ (goal : List ℕ) (n m : ℕ) (f : Expr) (g : Goal) (h : GoalIn (take n goal) m (f ∷ g)) (within : n ≤ length goal) (front : ℕ) (ends : front ≡ length f) where
  pub front-within : front ≤ n
  front-within = omega (arith, first-length (take n goal) m f g h front ends, length-take-le n goal within)

  front-words : take front (take n goal) ≡ take front goal
  front-words = take-take front n goal front-within

  pub front-nodes : nodes (take front goal) ≡ f
  front-nodes = ap nodes (inv front-words) ∙ front-is (take n goal) f g h.is front ends

  pub front_fits : Fits 4096 (take front goal)
  front_fits = subst (Fits 4096) front-words (each_take (Fit 4096) front (take n goal) h.fit)

  pub front_long : 0 < front
  front_long = first-long (take n goal) m f g h front ends

  front_length : length (take front goal) ≡ front
  front_length = length-take-le front goal (omega (arith, front-within))

  -- the leftmost formula is the saved one exactly where its words are
  pub saved-same : (saved : List ℕ) (k : ℕ) (o : Option Expr) → Kept saved k o → take front goal ≡ take k saved → o ≡ some f
  saved-same saved k none e s = absurd (omega (arith, front_long, front_length, ap length (s ∙ ap (λ j. take j saved) e)))
  saved-same saved k (some a) e s = ap some (inv e.0 ∙ ap nodes (inv s) ∙ front-nodes)

  pub saved-other : (saved : List ℕ) (k : ℕ) (o : Option Expr) → Kept saved k o → ¬ (take front goal ≡ take k saved) → ¬ (o ≡ some f)
  saved-other saved k none e s p = let z : ◌≡◌ {A = ℕ} 0 1 = cc in omega arith
  saved-other saved k (some a) e s p =
      let same : a ≡ f = cc in s (same-words (take front goal) (take k saved) (λ x q. (front_fits x q).valid) (λ x q. (e.1 x q).valid) (front-nodes ∙ inv same ∙ inv e.0))
