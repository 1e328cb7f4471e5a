-- A shorter way to a root changes no class.
use Rattle.std.proofs.Common.{Option, None, Some}
use Prim.Native.Nat.{ℕ, ◌+◌, ◌<◌}
use native.Mathlib.Omega.{arith}
use native.Mathlib.Decide.{ℕ_discrete}
use mathlib.Core.Path.{◌≡◌, refl, sym, ap, ◌∙◌}
use mathlib.Core.List.{List}
use lib.ListN.{length, get_or, set, length-set}
use lib.Seq.{get_or-set_same, get_or-set_other, set-get_or}
use Rattle.positions.specs.Classes.{root, Down, Agree, Label, Grouped}
use Rattle.positions.specs.Steps.{tally, own, Flat, State, state, Ready, Outcome}
use Rattle.positions.specs.RootLaws.{strong, root_self, root-step}
use Rattle.positions.proofs.Links.{tally-set, own-other}

pub flat_refl : (up : List ℕ) → Down up → Flat up up
flat_refl up d = record { long = refl; down = d; same = λ x. refl; count = refl }

pub flat_trans : (up y z : List ℕ) → Flat up y → Flat y z → Flat up z
flat_trans up y z a b = record { long = b.long ∙ a.long; down = b.down; same = λ x. b.same x ∙ a.same x; count = b.count ∙ a.count }

module _ (up : List ℕ) (down : Down up) (p : ℕ) (inn : p < length up) (low : get_or up p 0 < p) where
  abbrev z : List ℕ
  z = set up p (get_or up (get_or up p 0) 0)

  at : get_or z p 0 ≡ get_or up (get_or up p 0) 0
  at = get_or-set_same up p (get_or up (get_or up p 0) 0) 0 inn

  off : (x : ℕ) → (x ≡ p → ⊥) → get_or z x 0 ≡ get_or up x 0
  off x n = get_or-set_other up p x (get_or up (get_or up p 0) 0) 0 n

  down-z : Down z
  down-z x = elim (ℕ_discrete x p) [
    | yes y ↦ rw (y, at) (omega (arith, down (get_or up p 0)))
    | no n ↦ rw (off x n) (down x)
  ]

  same-z : (x : ℕ) → root z x ≡ root up x
  same-z = strong (λ x. root z x ≡ root up x) (λ x ih. elim (ℕ_discrete x p) [
    | yes y ↦
        let g = get_or up (get_or up p 0) 0 in
        rw y (root-step z down-z p ∙ ap (root z) at ∙ ih (get_or up (get_or up p 0) 0) (omega (arith, down (get_or up p 0), y))
        ∙ sym (root-step up down (get_or up p 0)) ∙ sym (root-step up down p))
    | no n ↦ elim (ℕ_discrete (get_or up x 0) x) [
      | yes e ↦ root_self z down-z x (off x n ∙ e) ∙ sym (root_self up down x e)
      | no m ↦ root-step z down-z x ∙ ap (root z) (off x n) ∙ ih (get_or up x 0) (omega (arith, down x)) ∙ sym (root-step up down x)
    ]
  ])

  pub halved : Flat up (set up p (get_or up (get_or up p 0) 0))
  halved = record {
    long = length-set up p (get_or up (get_or up p 0) 0);
    down = down-z;
    same = same-z;
    count =
        let e : 0 + p ≡ p = omega arith in
        let x : tally own 0 z + own p (get_or up p 0) ≡ tally own 0 up + own p (get_or up (get_or up p 0) 0) = rw e at (tally-set own up 0 p (get_or up (get_or up p 0) 0) inn) in
        omega (arith, x, own-other p (get_or up p 0) (λ q. omega (arith, q)), own-other p (get_or up (get_or up p 0) 0) (λ q. omega (arith, q, down (get_or up p 0))));
  }

pub halved-any : (up : List ℕ) → Down up → (p : ℕ) → p < length up → Flat up (set up p (get_or up (get_or up p 0) 0))
halved-any up d p h = elim (ℕ_discrete (get_or up p 0) p) [
  | yes e ↦
      let y : set up p (get_or up (get_or up p 0) 0) ≡ up = ap (λ i. set up p (get_or up i 0)) e ∙ set-get_or up p 0 in
      rw y (flat_refl up d)
  | no n ↦ halved up d p h (omega (arith, d p))
]

pub agree-flat : (up z : List ℕ) (f : Label) → Flat up z → Agree f up → Agree f z
agree-flat up z f t g p h = g p (omega (arith, t.long, h)) ∙ ap f (sym (t.same p))

pub agree-back : (up z : List ℕ) (f : Label) → Flat up z → Agree f z → Agree f up
agree-back up z f t g p h = g p (omega (arith, t.long, h)) ∙ ap f (t.same p)

module _ (w up z pick left right : List ℕ) (tail : ℕ) (t : Flat up z) where
  pub flat-grouped : Grouped w up pick → Grouped w z pick
  flat-grouped g = record {
    small = g.small;
    up_length = t.long ∙ g.up_length;
    pick_length = g.pick_length;
    down = t.down;
    picks = λ x h. let q = g.picks x h in record {
      within = rw (t.same x) q.within;
      same = rw (t.same x) (t.same (get_or pick (root up x) 0) ∙ q.same);
      word = λ p. rw (t.same x) (q.word p);
    };
  }

  pub flat-ready : Ready w (state up pick left right tail) → Ready w (state z pick left right tail)
  flat-ready r = record { grouped = flat-grouped r.grouped; left_length = r.left_length; right_length = r.right_length; count = omega (arith, t.count, r.count); pairs = r.pairs }

  pub flat-outcome : (P : Label → Type 0) (y : ℕ → State) (r : Option ℕ) → Outcome w (state z pick left right tail) P y r → Outcome w (state up pick left right tail) P y r
  flat-outcome P y None o = record { known = λ f a g p. o.known f a (agree-flat up z f t g) p }
  flat-outcome P y (Some k) o = record {
    known = let s = o.known in record {
      ready = s.ready;
      grows = s.grows;
      left_kept = s.left_kept;
      right_kept = s.right_kept;
      sound = λ f g p. s.sound f (agree-flat up z f t g) p;
      pair_sound = λ f g p. s.pair_sound f (agree-flat up z f t g) p;
      keeps = λ f g. agree-back up z f t (s.keeps f g);
      meets = s.meets;
      args = λ x h p e f g q. rw (t.same x) at (s.args x h p e f g q);
    };
  }
