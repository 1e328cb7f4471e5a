-- What `look` finds of the state that is held.
use Prim.Native.Nat.{ℕ, ◌≤◌}
use native.Mathlib.Omega.{arith}
use mathlib.Core.Path.{◌≡◌, refl, sym as inv, ap, ◌∙◌, subst}
use mathlib.Core.Bool.{Bool}
use mathlib.Core.List.{List, ◌∷◌}
use lib.ListN.{length, take}
use Rattle.terms.specs.Node.{Expr}
use Rattle.search.specs.Next.{Goal}
use Rattle.words.specs.Held.{GoalIn}
use Rattle.detector.specs.declared.Detector.{Detector}
use Rattle.std.specs.declared.option.Option.{Option}
use Rattle.std.specs.declared.option.Option.TheVariants.{Some, None}
use Rattle.std.specs.declared.result.Result.{Result}
use Rattle.std.specs.declared.result.Result.TheVariants.{Err}
use Rattle.states.specs.declared.Place.{Place}
use Rattle.states.specs.declared.Ended.{Ended}
use Rattle.detector.specs.Detecting.{judgement}
use Rattle.states.specs.States.{Equal, Somewhere, closed, Onward, OfSize, Looked}
use Rattle.states.proofs.Fronts.{held_first, kept-within, front-within}
use Rattle.states.proofs.Turns.{turn_of, solved-ends, judged-turn}

module _ (goal saved : List ℕ) (d : Detector) (n m w k : ℕ) where
  pub look-solved : (t : Result Place Ended) → m ≡ 0 → t ≡ Err (closed 20 d 0 n m w) → Looked goal saved d n m w k t
  look-solved t z e = subst (Looked goal saved d n m w k) (inv e) (record { turn = λ P q budget r. solved-ends r z; step = tt; sized = (refl, refl) })

  module _ (filled : m ≡ 0 → ⊥) (words : ℕ) (all : words ≡ n) where
    -- the words of the goal, as they are lent
    lent : (g : Goal) → GoalIn (take n goal) m g → GoalIn (take words goal) m g
    lent g h = subst (λ j. GoalIn (take j goal) m g) (inv all) h

    pub first-there : Somewhere goal saved d n m w k → (f : Expr) × (g : Goal) × GoalIn (take words goal) m (f ∷ g)
    first-there y =
        let x = held_first y.3.state.goal y.3.holds filled in
        (x.0, x.1, lent (x.0 ∷ x.1) (subst (GoalIn (take n goal) m) x.2 y.3.holds))

    module _ (front : ℕ) (ends : (f : Expr) (g : Goal) → GoalIn (take words goal) m (f ∷ g) → front ≡ length f) where
      pub front-there : Somewhere goal saved d n m w k → (front ≤ length goal) × (k ≤ length saved)
      front-there y =
          let x = first-there y in
          let h = subst (λ j. GoalIn (take j goal) m (x.0 ∷ x.1)) all x.2 in
          (omega (arith, front-within goal n m x.0 x.1 h y.3.within front (ends x.0 x.1 x.2), y.3.within), kept-within saved k y.3.state.saved y.3.keeps)

      turn_step : (v : Option ℕ) → Onward d.step (turn_of d n m w k front v)
      turn_step (Some span) = tt
      turn_step None = refl

      turn-size : (v : Option ℕ) → OfSize n w (turn_of d n m w k front v)
      turn-size (Some span) = (refl, refl)
      turn-size None = (refl, refl)

      pub look-judged : (same : Bool) → Equal (take front goal) (take k saved) same → (v : Option ℕ) → v ≡ judgement d m same → (d' : Detector) → d' ≡ d
          → (t : Result Place Ended) → t ≡ turn_of d' n m w k front v → Looked goal saved d n m w k t
      look-judged same s v j d' e t i =
          subst (Looked goal saved d n m w k) (inv (i ∙ ap (λ (x : Detector). turn_of x n m w k front v) e))
          (record {
            turn = λ P q budget r.
                let x = held_first r.state.goal r.holds filled in
                judged-turn r x.0 x.1 x.2 front (ends x.0 x.1 (lent (x.0 ∷ x.1) (subst (GoalIn (take n goal) m) x.2 r.holds))) same v j s;
            step = turn_step v;
            sized = turn-size v;
          })
