-- The first classes, a position at a time.
use Prim.Native.Nat.{ℕ, ◌+◌, ◌%◌, ◌≤◌, ◌<◌}
use native.Mathlib.Omega.{arith}
use native.Mathlib.Decide.{ℕ_discrete, dec_lt}
use mathlib.Core.Path.{◌≡◌, refl, sym, ap, ◌∙◌}
use mathlib.Core.List.{List}
use lib.ListN.{length, get_or, set, get_or-eq_default}
use lib.Dec.{eqb}
use lib.Seq.{get_or-set_same, get_or-set_other}
use borrow.Author.Count.{below_more}
use Rattle.terms.specs.Node.{Expr}
use Rattle.words.specs.Word.{kind_of, Plain, Valid}
use Rattle.positions.specs.Words.{Ends}
use Rattle.positions.specs.Classes.{root, Down, Agree, picked, Label}
use Rattle.positions.specs.Steps.{own, roots}
use Rattle.positions.specs.Closing.{Good, Closed}
use Rattle.positions.specs.Starting.{Worded, Slot, Slots}
use Rattle.positions.specs.Solving.{Sides}
use Rattle.positions.specs.Trying.{Trial}
use Rattle.positions.specs.TrialLaws.{second-in}
use Rattle.positions.specs.RootLaws.{root_self, root-step}
use Rattle.positions.proofs.Links.{tally_le, one_le}

number_word : (u : ℕ) → Valid u → kind_of u ≡ 1 → u ≡ 16777216 + u % 65536
number_word u v k = omega (arith, v.bare (omega arith))

module _ (w up pick first : List ℕ) (k p : ℕ) (ok : Worded w k) (l : p < length w) (lu : length up ≡ length w) (lp : length pick ≡ length w) (lf : length first ≡ k) (s : Slots w up pick first p) where
  ne : (x : ℕ) → x < p → x ≡ p → ⊥
  ne x h e = omega arith

  -- a position before p keeps its slot
  older : (v x : ℕ) → x < p → Slot w (set up p v) (set pick p p) first x
  older v x h =
      let t = s x h in
      let eu : get_or (set up p v) x 0 ≡ get_or up x 0 = get_or-set_other up p x v 0 (ne x h) in
      let eu2 : get_or (set up p v) (get_or up x 0) 0 ≡ get_or up (get_or up x 0) 0 = get_or-set_other up p (get_or up x 0) v 0 (ne (get_or up x 0) (omega (arith, t.low))) in
      record {
        own = get_or-set_other pick p x p 0 (ne x h) ∙ t.own;
        low = rw eu t.low;
        flat = rw (eu, eu2) t.flat;
        word = rw eu t.word;
        plain = λ q. rw eu (t.plain q);
        at = λ q. rw eu (t.at q);
      }

  hit_p : get_or (set pick p p) p 0 ≡ p
  hit_p = get_or-set_same pick p p 0 (omega arith)

  hit_u : (v : ℕ) → get_or (set up p v) p 0 ≡ v
  hit_u v = get_or-set_same up p v 0 (omega arith)

  -- no variable
  pub alone : Plain (get_or w p 0) → Slots w (set up p p) (set pick p p) first (p + 1)
  alone n = below_more (λ x. Slot w (set up p p) (set pick p p) first x) p (older p) (record {
    own = hit_p;
    low = rw (hit_u p) (omega arith);
    flat = ap (λ z. get_or (set up p p) z 0) (hit_u p);
    word = ap (λ z. get_or w z 0) (hit_u p);
    plain = λ q. hit_u p;
    at = λ q. absurd (n q);
  })

  module _ (isv : kind_of (get_or w p 0) ≡ 1) where
    -- a variable seen before
    pub known : (q : ℕ) → q ≡ get_or first (get_or w p 0 % 65536) 0 → q < p → get_or w q 0 ≡ get_or w p 0 → Slots w (set up p q) (set pick p p) first (p + 1)
    known q e h same =
        let old : get_or up q 0 ≡ q = (s q h).at (ap kind_of same ∙ isv) ∙ ap (λ z. get_or first (z % 65536) 0) same ∙ sym e in
        below_more (λ x. Slot w (set up p q) (set pick p p) first x) p (older q) (record {
          own = hit_p;
          low = rw (hit_u q) (omega arith);
          flat = rw (hit_u q) (get_or-set_other up p q q 0 (ne q h) ∙ old);
          word = rw (hit_u q) same;
          plain = λ n. absurd (n isv);
          at = λ z. hit_u q ∙ e;
        })

    -- a variable not seen before
    pub fresh : ((x : ℕ) → x < p → get_or w x 0 ≡ get_or w p 0 → ⊥) → Slots w (set up p p) (set pick p p) (set first (get_or w p 0 % 65536) p) (p + 1)
    fresh none = below_more (λ x. Slot w (set up p p) (set pick p p) (set first (get_or w p 0 % 65536) p) x) p
        (λ x h. let t = older p x h in record {
          own = t.own;
          low = t.low;
          flat = t.flat;
          word = t.word;
          plain = t.plain;
          at = λ z. t.at z ∙ sym (get_or-set_other first (get_or w p 0 % 65536) (get_or w x 0 % 65536) p 0 (λ y.
              none x h (number_word (get_or w x 0) (ok.valid x (omega arith)) z ∙ ap (λ n. 16777216 + n) y ∙ sym (number_word (get_or w p 0) (ok.valid p l) isv))));
        })
        (record {
          own = hit_p;
          low = rw (hit_u p) (omega arith);
          flat = ap (λ z. get_or (set up p p) z 0) (hit_u p);
          word = ap (λ z. get_or w z 0) (hit_u p);
          plain = λ n. hit_u p;
          at = λ z. hit_u p ∙ sym (get_or-set_same first (get_or w p 0 % 65536) p 0 (omega (arith, ok.number p l isv)));
        })

    -- where `first` has no earlier occurrence there is none
    pub unseen : (q : ℕ) → q ≡ get_or first (get_or w p 0 % 65536) 0 → (q < p → get_or w q 0 ≡ get_or w p 0 → ⊥) → (x : ℕ) → x < p → get_or w x 0 ≡ get_or w p 0 → ⊥
    unseen q e h x l same =
        let t = s x l in
        let y : get_or up x 0 ≡ q = t.at (ap kind_of same ∙ isv) ∙ ap (λ z. get_or first (z % 65536) 0) same ∙ sym e in
        h (omega (arith, t.low)) (ap (λ z. get_or w z 0) (sym y) ∙ t.word ∙ same)

pub roots_le : (up : List ℕ) → roots up ≤ length up
roots_le up = tally_le own (λ i u. one_le (eqb u i)) 0 up

module _ (w up pick first : List ℕ) (k : ℕ) (ok : Worded w k) (lu : length up ≡ length w) (lp : length pick ≡ length w) (s : Slots w up pick first (length w)) where
  pub downs : Down up
  downs p = elim (dec_lt p (length w)) [
    | yes h ↦ (s p h).low
    | no n ↦ let e : get_or up p 0 ≡ 0 = get_or-eq_default up 0 (omega arith) in omega arith
  ]

  pub flat-root : (x : ℕ) → x < length w → root up x ≡ get_or up x 0
  flat-root x h = root-step up downs x ∙ root_self up downs (get_or up x 0) (s x h).flat

  pick-root : (x : ℕ) → x < length w → picked up pick x ≡ get_or up x 0
  pick-root x h = rw (flat-root x h) (s (get_or up x 0) (omega (arith, (s x h).low))).own

  pub started : (e : List ℕ) → Ends w e → length e ≡ length w → Closed w e up pick
  started e ends le = record {
    grouped = record {
      small = ok.small;
      up_length = lu;
      pick_length = lp;
      down = downs;
      picks = λ x h. record {
        within = rw (pick-root x h) (omega (arith, (s x h).low));
        same = rw (pick-root x h, flat-root x h) (root_self up downs (get_or up x 0) (s x h).flat);
        word = λ p. rw (pick-root x h) (sym (s x h).word);
      };
    };
    ends = ends;
    end_length = le;
    valid = ok.valid;
    args = λ x h p f g i l. rw (pick-root x h ∙ (s x h).plain p) refl;
  }

  pub start-agrees : (e : List ℕ) (f : Label) → Good w e f → Agree f up
  start-agrees e f g x h =
      let l : x < length w = omega arith in
      rw (flat-root x l) (elim (ℕ_discrete (kind_of (get_or w x 0)) 1) [
        | yes v ↦ g.vars x (get_or up x 0) l (omega (arith, (s x l).low)) v (sym (s x l).word)
        | no n ↦ ap f (sym ((s x l).plain n))
      ])

  pub start-vars : (x y : ℕ) → x < length w → y < length w → kind_of (get_or w x 0) ≡ 1 → get_or w x 0 ≡ get_or w y 0 → root up x ≡ root up y
  start-vars x y h i v e =
      flat-root x h ∙ (s x h).at v ∙ ap (λ z. get_or first (z % 65536) 0) e ∙ sym ((s y i).at (ap kind_of (sym e) ∙ v)) ∙ sym (flat-root y i)

  -- no argument made equal yet
  pub trial : (e : List ℕ) (a b : Expr) → Ends w e → length e ≡ length w → Sides w a b → Trial w e up pick first (get_or e 0 0) 0
  trial e a b ends le sides = record {
    closed = started e ends le;
    second = refl;
    inside = second-in ends ok.valid sides;
    firsts = λ x h v. ap (λ z. get_or w z 0) (sym ((s x h).at v)) ∙ (s x h).word;
    vars = start-vars;
    sound = λ f g h. start-agrees e f g;
    meets = λ f g i l. absurd (omega arith);
  }
