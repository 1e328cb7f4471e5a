-- Steps: none, with another wish, and one after another.
use Rattle.std.proofs.Common.{Option, None, Some}
use Prim.Native.Nat.{ℕ}
use native.Mathlib.Omega.{arith}
use native.Mathlib.Decide.{dec_lt}
use mathlib.Core.Path.{refl, ◌∙◌}
use mathlib.Core.List.{List}
use Rattle.positions.specs.Classes.{Agree, Label}
use Rattle.positions.specs.Steps.{State, Ready, Step, Outcome}

pub idle : (w : List ℕ) (s : State) (P : Label → Type 0) → Ready w s → ((f : Label) → Agree f s.up → P f) → Step w s P s
idle w s P r h = record {
  ready = r;
  grows = omega arith;
  left_kept = λ j l. refl;
  right_kept = λ j l. refl;
  sound = λ f g p. g;
  pair_sound = λ f g p j a b. absurd (omega arith);
  keeps = λ f g. g;
  meets = h;
  args = λ x l p e f g q i k. refl;
}

pub restated : (w : List ℕ) (s z : State) (P Q : Label → Type 0) → ((f : Label) → Agree f s.up → P f → Q f) → ((f : Label) → Agree f s.up → Q f → P f) → Step w s P z → Step w s Q z
restated w s z P Q pq qp t = record {
  ready = t.ready;
  grows = t.grows;
  left_kept = t.left_kept;
  right_kept = t.right_kept;
  sound = λ f g q. t.sound f g (qp f g q);
  pair_sound = λ f g q. t.pair_sound f g (qp f g q);
  keeps = t.keeps;
  meets = λ f g. pq f (t.keeps f g) (t.meets f g);
  args = t.args;
}

pub outcome_restated : (w : List ℕ) (s : State) (z : ℕ → State) (r : Option ℕ) (P Q : Label → Type 0) → ((f : Label) → Agree f s.up → P f → Q f) → ((f : Label) → Agree f s.up → Q f → P f) → Outcome w s P z r → Outcome w s Q z r
outcome_restated w s z None P Q pq qp o = record { known = λ f a g q. o.known f a g (qp f g q) }
outcome_restated w s z (Some t) P Q pq qp o = record { known = restated w s (z t) P Q pq qp o.known }

pub stays : (w : List ℕ) (z : ℕ → State) (t : ℕ) (P : Label → Type 0) → Ready w (z t) → ((f : Label) → Agree f (z t).up → P f) → Outcome w (z t) P z (Some t)
stays w z t P r h = record { known = idle w (z t) P r h }

pub followed : (w : List ℕ) (s m z : State) (P Q : Label → Type 0) → Step w s P m → Step w m Q z → Step w s (λ f. P f × Q f) z
followed w s m z P Q t u = record {
  ready = u.ready;
  grows = omega (arith, t.grows, u.grows);
  left_kept = λ j l. u.left_kept j (omega (arith, t.grows, l)) ∙ t.left_kept j l;
  right_kept = λ j l. u.right_kept j (omega (arith, t.grows, l)) ∙ t.right_kept j l;
  sound = λ f g p. u.sound f (t.sound f g p.0) p.1;
  pair_sound = λ f g p j a b. elim (dec_lt j m.tail) [
    | yes l ↦ rw (u.left_kept j l, u.right_kept j l) (t.pair_sound f g p.0 j a l)
    | no n ↦ u.pair_sound f (t.sound f g p.0) p.1 j (omega arith) b
  ];
  keeps = λ f g. t.keeps f (u.keeps f g);
  meets = λ f g. (t.meets f (u.keeps f g), u.meets f g);
  args = λ x l p e f g q i k.
      t.args x l p e f (u.keeps f g) (λ j a b. rw (u.left_kept j b, u.right_kept j b) at (q j a (omega (arith, b, u.grows)))) i k
      ∙ u.args x l p e f g (λ j a b. q j (omega (arith, a, t.grows)) b) i k;
}
