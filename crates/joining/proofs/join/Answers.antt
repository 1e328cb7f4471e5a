use Rattle.std.proofs.Common.{Option, Some}
use Prim.Native.Nat.{ℕ, ◌<◌}
use native.Mathlib.Omega.{arith}
use mathlib.Core.Path.{◌≡◌, refl, sym, ap, ◌∙◌, subst}
use mathlib.Core.List.{List, [], ◌∷◌}
use lib.ListN.{length, get_or}
use Rattle.words.specs.Columns.{Only, after, wider, UP, PICK, LEFT, RIGHT}
use Rattle.positions.specs.Classes.{root, Agree, Label}
use Rattle.positions.specs.Steps.{Flat, State, state, Ready, Step, Outcome}
use Rattle.positions.specs.Tables.{ups, picks, lefts, rights, state_in}
use Rattle.positions.specs.RootLaws.{root_fix, root_le}
use Rattle.joining.proofs.Flats.{flat_trans, flat-ready, flat-outcome, agree-back}
use Rattle.joining.proofs.Stepping.{outcome_restated, stays}
use Rattle.joining.proofs.join.Goals as goal

-- u is up after the first way, and v after the second
module _ (w up u v pick left right : List ℕ) (tail p q a b : ℕ) (pre : Ready w (state up pick left right tail) × (p < length w) × (q < length w)) (ha : (a ≡ root up p) × Flat up u) (hb : (b ≡ root u q) × Flat u v) where
  flat : Flat up v
  flat = flat_trans up u v ha.1 hb.1

  eb : b ≡ root up q
  eb = hb.0 ∙ ha.1.same q

  ready : Ready w (state v pick left right tail)
  ready = flat-ready w up v pick left right tail flat pre.0

  fix_a : get_or v a 0 ≡ a
  fix_a = rw (ha.0 ∙ sym (flat.same p)) (root_fix v flat.down p)

  fix_b : get_or v b 0 ≡ b
  fix_b = rw (eb ∙ sym (flat.same q)) (root_fix v flat.down q)

  asked : a < b → Ready w (state v pick left right tail) × (a < b) × (b < length w) × (get_or v a 0 ≡ a) × (get_or v b 0 ≡ b)
  asked l = (ready, l, omega (arith, root_le up pre.0.grouped.down q, pre.2, eb), fix_a, fix_b)

  asked' : b < a → Ready w (state v pick left right tail) × (b < a) × (a < length w) × (get_or v b 0 ≡ b) × (get_or v a 0 ≡ a)
  asked' l = (ready, l, omega (arith, root_le up pre.0.grouped.down p, pre.1, ha.0), fix_b, fix_a)

  at_first : (f : Label) → Agree f up → f p ≡ f a
  at_first f g = g p (omega (arith, pre.0.grouped.up_length, pre.1)) ∙ ap f (sym ha.0)

  at_b : (f : Label) → Agree f up → f q ≡ f b
  at_b f g = g q (omega (arith, pre.0.grouped.up_length, pre.2)) ∙ ap f (sym eb)

  told : (z : ℕ → State) (r : Option ℕ) → Outcome w (state v pick left right tail) (λ f. f a ≡ f b) z r → Outcome w (state up pick left right tail) (λ f. f p ≡ f q) z r
  told z r o = outcome_restated w (state up pick left right tail) z r (λ f. f a ≡ f b) (λ f. f p ≡ f q)
      (λ f g e. at_first f g ∙ e ∙ sym (at_b f g)) (λ f g e. sym (at_first f g) ∙ e ∙ at_b f g) (flat-outcome w up v pick left right tail flat (λ f. f a ≡ f b) z r o)

  told' : (z : ℕ → State) (r : Option ℕ) → Outcome w (state v pick left right tail) (λ f. f b ≡ f a) z r → Outcome w (state up pick left right tail) (λ f. f p ≡ f q) z r
  told' z r o = outcome_restated w (state up pick left right tail) z r (λ f. f b ≡ f a) (λ f. f p ≡ f q)
      (λ f g e. at_first f g ∙ sym e ∙ sym (at_b f g)) (λ f g e. sym (sym (at_first f g) ∙ e ∙ at_b f g)) (flat-outcome w up v pick left right tail flat (λ f. f b ≡ f a) z r o)

  one : a ≡ b → Outcome w (state up pick left right tail) (λ f. f p ≡ f q) (state v pick left right) (Some tail)
  one e = flat-outcome w up v pick left right tail flat (λ f. f p ≡ f q) (state v pick left right) (Some tail)
      (stays w (state v pick left right) tail (λ f. f p ≡ f q) ready (λ f g. let h = agree-back up v f flat g in at_first f h ∙ ap f e ∙ sym (at_b f h)))

-- the same of rows: y is the storage after the first way, and z after the second
module _ (w rows y z : List ℕ) (tail p q a b : ℕ) (pre : Ready w (state_in w rows tail) × (p < length w) × (q < length w))
    (ha : (a ≡ root (ups w rows) p) × Flat (ups w rows) (ups w y) × Only (UP ∷ []) rows y) (hb : (b ≡ root (ups w y) q) × Flat (ups w y) (ups w z) × Only (UP ∷ []) y z) where
  only : Only (UP ∷ []) rows z
  only = after ha.2 hb.2

  changes : Only (UP ∷ PICK ∷ LEFT ∷ RIGHT ∷ []) rows z
  changes = wider (UP ∷ PICK ∷ LEFT ∷ RIGHT ∷ []) refl only

  is : state_in w z tail ≡ state (ups w z) (picks w rows) (lefts w rows) (rights w rows) tail
  is = rw (only.kept PICK (length w) refl, only.kept LEFT (length w) refl, only.kept RIGHT (length w) refl) refl

  asked_in : a < b → Ready w (state_in w z tail) × (a < b) × (b < length w) × (get_or (ups w z) a 0 ≡ a) × (get_or (ups w z) b 0 ≡ b)
  asked_in l = rw (only.kept PICK (length w) refl, only.kept LEFT (length w) refl, only.kept RIGHT (length w) refl)
      (asked w (ups w rows) (ups w y) (ups w z) (picks w rows) (lefts w rows) (rights w rows) tail p q a b pre (ha.0, ha.1) (hb.0, hb.1) l)

  asked-in' : b < a → Ready w (state_in w z tail) × (b < a) × (a < length w) × (get_or (ups w z) b 0 ≡ b) × (get_or (ups w z) a 0 ≡ a)
  asked-in' l = rw (only.kept PICK (length w) refl, only.kept LEFT (length w) refl, only.kept RIGHT (length w) refl)
      (asked' w (ups w rows) (ups w y) (ups w z) (picks w rows) (lefts w rows) (rights w rows) tail p q a b pre (ha.0, ha.1) (hb.0, hb.1) l)

  told_in : (v : ℕ → State) (r : Option ℕ) → Outcome w (state_in w z tail) (λ f. f a ≡ f b) v r → Outcome w (state_in w rows tail) (λ f. f p ≡ f q) v r
  told_in v r o = told w (ups w rows) (ups w y) (ups w z) (picks w rows) (lefts w rows) (rights w rows) tail p q a b pre (ha.0, ha.1) (hb.0, hb.1) v r (subst (λ s. Outcome w s (λ f. f a ≡ f b) v r) is o)

  told-in' : (v : ℕ → State) (r : Option ℕ) → Outcome w (state_in w z tail) (λ f. f b ≡ f a) v r → Outcome w (state_in w rows tail) (λ f. f p ≡ f q) v r
  told-in' v r o = told' w (ups w rows) (ups w y) (ups w z) (picks w rows) (lefts w rows) (rights w rows) tail p q a b pre (ha.0, ha.1) (hb.0, hb.1) v r (subst (λ s. Outcome w s (λ f. f b ≡ f a) v r) is o)

  one_in : a ≡ b → Outcome w (state_in w rows tail) (λ f. f p ≡ f q) (state_in w z) (Some tail)
  one_in e = record {
    known = subst (Step w (state_in w rows tail) (λ f. f p ≡ f q)) (sym is)
        (one w (ups w rows) (ups w y) (ups w z) (picks w rows) (lefts w rows) (rights w rows) tail p q a b pre (ha.0, ha.1) (hb.0, hb.1) e).known;
  }

pub seek-a-requires : goal.seek-a-requires
seek-a-requires c = (c.requires.0.grouped.small, c.requires.1, c.requires.0.grouped.down)

pub seek-b-requires : goal.seek-b-requires
seek-b-requires c = (c.requires.0.grouped.small, c.requires.2, c.seek-a.ensures.1.down)

pub link-requires : goal.link-requires
link-requires c = let h = asked_in _ _ _ _ _ _ _ _ _ (c.requires.0, c.requires.1, c.requires.2) c.seek-a.ensures c.seek-b.ensures c.if-a-b.true in (h.0, h.1, h.2, h.3, h.4)

pub returns-then-a-b : goal.returns-then-a-b
returns-then-a-b c = (told_in _ _ _ _ _ _ _ _ _ (c.requires.0, c.requires.1, c.requires.2) c.seek-a.ensures c.seek-b.ensures _ _ c.link.ensures.0, after (changes _ _ _ _ _ _ _ _ _ (c.requires.0, c.requires.1, c.requires.2) c.seek-a.ensures c.seek-b.ensures) c.link.ensures.1)

pub link-requires-then-b-a : goal.link-requires-then-b-a
link-requires-then-b-a c = let h = asked-in' _ _ _ _ _ _ _ _ _ (c.requires.0, c.requires.1, c.requires.2) c.seek-a.ensures c.seek-b.ensures c.if-b-a.true in (h.0, h.1, h.2, h.3, h.4)

pub returns-then-b-a : goal.returns-then-b-a
returns-then-b-a c = (told-in' _ _ _ _ _ _ _ _ _ (c.requires.0, c.requires.1, c.requires.2) c.seek-a.ensures c.seek-b.ensures _ _ c.link-then-b-a.ensures.0, after (changes _ _ _ _ _ _ _ _ _ (c.requires.0, c.requires.1, c.requires.2) c.seek-a.ensures c.seek-b.ensures) c.link-then-b-a.ensures.1)

pub returns : goal.returns
returns c = (one_in _ _ _ _ _ _ _ _ _ (c.requires.0, c.requires.1, c.requires.2) c.seek-a.ensures c.seek-b.ensures (omega (arith, c.if-b-a.false, c.if-a-b.false)), changes _ _ _ _ _ _ _ _ _ (c.requires.0, c.requires.1, c.requires.2) c.seek-a.ensures c.seek-b.ensures)
