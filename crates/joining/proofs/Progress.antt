-- The closure's loop: what holds with `head` pairs done.
use Prim.Native.Nat.{ℕ, ◌+◌, ◌≤◌, ◌<◌}
use native.Mathlib.Omega.{arith}
use native.Mathlib.Decide.{ℕ_discrete, dec_lt}
use mathlib.Core.Path.{◌≡◌, sym, ap, ◌∙◌}
use mathlib.Core.Bool.{true, false}
use mathlib.Core.List.{List}
use lib.ListN.{length, get_or}
use Rattle.words.specs.Word.{arity_of, Plain}
use Rattle.positions.specs.Classes.{Label, Agree, picked}
use Rattle.positions.specs.Steps.{State, state, Ready, Args, Step, Fails}
use Rattle.positions.specs.Closing.{Good, Closed, Refuted, Closing}
use Rattle.positions.proofs.Slotted.{roots_le}

pub record Progress (w e up pick : List ℕ) (x y head : ℕ) (m : State) : Type 0 where
  pub ready : Ready w m
  pub sound : (f : Label) → Good w e f → Agree f up → f x ≡ f y → Agree f m.up
  pub pair_sound : (f : Label) → Good w e f → Agree f up → f x ≡ f y → (j : ℕ) → j < m.tail → f (get_or m.left j 0) ≡ f (get_or m.right j 0)
  pub keeps : (f : Label) → Agree f m.up → Agree f up
  pub meets : (f : Label) → Agree f m.up → f x ≡ f y
  pub args : (p : ℕ) → p < length w → Plain (get_or w p 0) → (f : Label) → Agree f m.up →
      ((j : ℕ) → head ≤ j → j < m.tail → Args f e (arity_of (get_or w (get_or m.left j 0) 0)) (get_or m.left j 0) (get_or m.right j 0)) →
      Args f e (arity_of (get_or w p 0)) p (picked m.up m.pick p)

-- closed classes, with room for pairs
pub waiting : (w e up pick left right : List ℕ) → Closed w e up pick → length left ≡ length w → length right ≡ length w → Ready w (state up pick left right 0)
waiting w e up pick left right c l r = record {
  grouped = c.grouped;
  left_length = l;
  right_length = r;
  count = omega (arith, roots_le up, c.grouped.up_length);
  pairs = λ j h. absurd (omega arith);
}

pub begun : (w e up pick left right : List ℕ) (x y : ℕ) (m : State) → Closed w e up pick → Step w (state up pick left right 0) (λ f. f x ≡ f y) m → Progress w e up pick x y 0 m
begun w e up pick left right x y m b t = record {
  ready = t.ready;
  sound = λ f good g h. t.sound f g h;
  pair_sound = λ f good g h j l. t.pair_sound f g h j (omega arith) l;
  keeps = t.keeps;
  meets = t.meets;
  args = λ p l n f g q i h. b.args p l n f (t.keeps f g) i h ∙ t.args p l n e f g (λ j k. q j (omega arith)) i h;
}

module _ (w e up pick : List ℕ) (x y head : ℕ) (m z : State) (a b : ℕ) (ea : a ≡ get_or m.left head 0) (eb : b ≡ get_or m.right head 0) (l : head < m.tail) (p : Progress w e up pick x y head m) where
  pub next_in : (a < length w) × (b < length w) × (get_or w a 0 ≡ get_or w b 0)
  next_in = let g = p.ready.pairs head l in (rw ea g.left_fits, rw eb g.right_in, rw (ea, eb) g.word)

  -- a good label that makes x and y equal makes the arguments of the pair equal
  wish : (f : Label) → Good w e f → Agree f up → f x ≡ f y → Args f e (arity_of (get_or w a 0)) a b
  wish f good g h =
      let q = p.ready.pairs head l in
      good.args a b next_in.0 next_in.1 (rw ea q.plain) next_in.2 (ap f ea ∙ p.pair_sound f good g h head l ∙ ap f (sym eb))

  pub turned : Step w m (λ f. Args f e (arity_of (get_or w a 0)) a b) z → Progress w e up pick x y (head + 1) z
  turned t = record {
    ready = t.ready;
    sound = λ f good g h. t.sound f (p.sound f good g h) (wish f good g h);
    pair_sound = λ f good g h j k. elim (dec_lt j m.tail) [
      | yes i ↦ rw (t.left_kept j i, t.right_kept j i) (p.pair_sound f good g h j i)
      | no n ↦ t.pair_sound f (p.sound f good g h) (wish f good g h) j (omega arith) k
    ];
    keeps = λ f g. p.keeps f (t.keeps f g);
    meets = λ f g. p.meets f (t.keeps f g);
    args = λ r k n f g q i h.
        p.args r k n f (t.keeps f g) (λ j u v. elim (ℕ_discrete j head) [
          | yes c ↦ let c1 : get_or m.left j 0 ≡ a = ap (λ i. get_or m.left i 0) c ∙ sym ea in
              let c2 : get_or m.right j 0 ≡ b = ap (λ i. get_or m.right i 0) c ∙ sym eb in
              rw (c1, c2) (t.meets f g)
          | no o ↦ rw (t.left_kept j v, t.right_kept j v) at (q j (omega arith) (omega (arith, t.grows, v)))
        ]) i h
        ∙ t.args r k n e f g (λ j u v. q j (omega arith) v) i h;
  }

  pub refuted : Fails w m (λ f. Args f e (arity_of (get_or w a 0)) a b) → Refuted w e up x y
  refuted h f good g q = h f good.apart (p.sound f good g q) (wish f good g q)

-- with no pair left, and each way to a root made short
pub ended : (w e up₀ pick₀ : List ℕ) (x y head : ℕ) (up pick left right : List ℕ) (tail : ℕ) → Closed w e up₀ pick₀ → tail ≤ head → Progress w e up₀ pick₀ x y head (state up pick left right tail)
    → Closing w e up₀ x y up pick true
ended w e up₀ pick₀ x y head up pick left right tail c l p = record {
  closed = λ o. record { grouped = p.ready.grouped; ends = c.ends; end_length = c.end_length; valid = c.valid; args = λ q k n f g. p.args q k n f g (λ j u v. absurd (omega arith)) };
  grown = λ o. record { sound = p.sound; keeps = p.keeps; meets = p.meets };
  refuted = λ o. absurd (let y : ◌≡◌ {A = ℕ} 0 1 = cc in omega arith);
}

pub never : (w e up : List ℕ) (x y : ℕ) (z pick : List ℕ) → Refuted w e up x y → Closing w e up x y z pick false
never w e up x y z pick h = record {
  closed = λ o. absurd (let y : ◌≡◌ {A = ℕ} 0 1 = cc in omega arith);
  grown = λ o. absurd (let y : ◌≡◌ {A = ℕ} 0 1 = cc in omega arith);
  refuted = λ o. h;
}
