-- Laws of the search.
use Prim.Native.Nat.{ℕ, zero, suc, ◌+◌, ◌-◌, ◌≤◌, ◌<◌}
use native.Mathlib.Omega.{arith}
use native.Mathlib.Decide.{ℕ_discrete}
use mathlib.Core.Path.{◌≡◌, sym, ap, ◌∙◌}
use mathlib.Core.List.{List}
use lib.ListN.{length, get_or, set, length-set}
use lib.Seq.{get_or-set_same, get_or-set_other}
use lib.Dec.{eqb}
use borrow.Author.Tests.{eq-eqb, ne_eqb}
use Rattle.words.specs.Word.{arity_of, Plain, Valids}
use Rattle.positions.specs.Words.{child, Ends}
use Rattle.positions.specs.Classes.{root, Agree, Label, Grouped}
use Rattle.positions.specs.Steps.{tally, one_if}
use Rattle.positions.specs.Closing.{Good}
use Rattle.positions.specs.Ranking.{under, blank, Ranked}
use Rattle.positions.specs.Diving.{Cyclic, Dive}
use Rattle.positions.specs.RootLaws.{root_self}
use Rattle.positions.proofs.Links.{tally-set}
use Rattle.cycles.proofs.Ranks.{marked, blank_le}

-- the position picked for a root
pub pick-in : (w up pick : List ℕ) → Grouped w up pick → (r : ℕ) → r < length w → get_or up r 0 ≡ r → get_or pick r 0 < length w
pick-in w up pick g r h a = rw (root_self up g.down r a) at (g.picks r h).within

pick-back : (w up pick : List ℕ) → Grouped w up pick → (r : ℕ) → r < length w → get_or up r 0 ≡ r → root up (get_or pick r 0) ≡ r
pick-back w up pick g r h a = rw (root_self up g.down r a) at (g.picks r h).same

-- a root's argument is shorter than the root
pub shorter : (w e up pick : List ℕ) → Grouped w up pick → Ends w e → Valids w → (f : Label) → Good w e f → Agree f up → (r i : ℕ) → r < length w → get_or up r 0 ≡ r →
    i < arity_of (get_or w (get_or pick r 0) 0) → length (f (root up (child e (get_or pick r 0) i))) < length (f r)
shorter w e up pick g ends v f good agree r i h a l =
    let inx : get_or pick r 0 < length w = pick-in w up pick g r h a in
    let plain : Plain (get_or w (get_or pick r 0) 0) = λ z. omega (arith, l, (v (get_or pick r 0) inx).bare (omega (arith, z))) in
    let inc : child e (get_or pick r 0) i < length w = (ends (get_or pick r 0) inx).inside i l in
    let same : f (get_or pick r 0) ≡ f r = agree (get_or pick r 0) (omega (arith, g.up_length, inx)) ∙ ap f (pick-back w up pick g r h a) in
    let kid : f (child e (get_or pick r 0) i) ≡ f (root up (child e (get_or pick r 0) i)) = agree (child e (get_or pick r 0) i) (omega (arith, g.up_length, inc)) in
    omega (arith, good.longer (get_or pick r 0) i inx plain l, ap length same, ap length kid)

pub fewer : (l : List ℕ) (i v : ℕ) → i < length l → get_or l i 0 ≡ 0 → (v ≡ 0 → ⊥) → tally blank 0 (set l i v) + 1 ≡ tally blank 0 l
fewer l i v h z n =
    let x : tally blank 0 (set l i v) + one_if (eqb (get_or l i 0) 0) ≡ tally blank 0 l + one_if (eqb v 0) = tally-set blank l 0 i v h in
    omega (arith, x, ap one_if (eq-eqb (get_or l i 0) 0 z), ap one_if (ne_eqb v 0 n))

module _ (w e up pick rank : List ℕ) (s : ℕ) (stack place : List ℕ) (top : ℕ) (d : Dive w e up pick rank s stack place top) where
  -- a root with no rank and no place goes on the stack
  module _ (k : ℕ) (hk : k < length w) (rk : get_or up k 0 ≡ k) (zk : get_or rank k 0 ≡ 0) (pk : get_or place k 0 ≡ 0)
      (less : (f : Label) → Good w e f → Agree f up → (j : ℕ) → j + 1 ≡ top → length (f k) < length (f (get_or stack j 0))) where
    pub room : top < length w
    room = omega (arith, fewer place k 1 (omega (arith, d.place_length)) pk (λ z. omega arith), d.count)

    here : get_or (set stack top k) top 0 ≡ k
    here = get_or-set_same stack top k 0 (omega (arith, d.stack_length, room))

    below : (j : ℕ) → j < top → get_or (set stack top k) j 0 ≡ get_or stack j 0
    below j h = get_or-set_other stack top j k 0 (λ z. omega (arith, h, z))

    apart : (j : ℕ) → j < top → get_or stack j 0 ≡ k → ⊥
    apart j h z = omega (arith, d.at j h, ap (λ t. get_or place t 0) z, pk)

    pub pushed : Dive w e up pick rank s (set stack top k) (set place k (top + 1)) (top + 1)
    pushed = record {
      ranked = d.ranked;
      stack_length = length-set stack top k ∙ d.stack_length;
      place_length = length-set place k (top + 1) ∙ d.place_length;
      count = omega (arith, fewer place k (top + 1) (omega (arith, d.place_length)) pk (λ z. omega arith), d.count);
      inside = λ j h. elim (ℕ_discrete j top) [ yes y ↦ rw (y, here) hk | no n ↦ rw (below j (omega arith)) (d.inside j (omega arith)) ];
      is_root = λ j h. elim (ℕ_discrete j top) [ yes y ↦ rw (y, here) rk | no n ↦ rw (below j (omega arith)) (d.is_root j (omega arith)) ];
      bare = λ j h. elim (ℕ_discrete j top) [ yes y ↦ rw (y, here) zk | no n ↦ rw (below j (omega arith)) (d.bare j (omega arith)) ];
      at = λ j h. elim (ℕ_discrete j top) [
        | yes y ↦ rw (y, here) (get_or-set_same place k (top + 1) 0 (omega (arith, d.place_length)))
        | no n ↦ let l : j < top = omega arith in rw (below j l) (get_or-set_other place k (get_or stack j 0) (top + 1) 0 (apart j l) ∙ d.at j l)
      ];
      on = λ q h p z. elim (ℕ_discrete q k) [
        | yes y ↦ (top, omega arith, here ∙ sym y)
        | no n ↦ let t = d.on q h (λ x. p (get_or-set_other place k q (top + 1) 0 n ∙ x)) z in (t.0, omega (arith, t.1), below t.0 t.1 ∙ t.2)
      ];
      falls = λ f good agree j h. elim (ℕ_discrete (j + 1) top) [
        | yes y ↦ rw (y, here, below j (omega arith)) (less f good agree j y)
        | no n ↦ rw (below (j + 1) (omega arith), below j (omega arith)) (d.falls f good agree j (omega arith))
      ];
    }

  -- the top of the stack gets its rank
  module _ (t : ℕ) (et : top ≡ t + 1) (can : (i : ℕ) → i < arity_of (get_or w (get_or pick (get_or stack t 0) 0) 0) → 0 < under e up rank (get_or pick (get_or stack t 0) 0) i) where
    differs : (j : ℕ) → j < t → get_or stack j 0 ≡ get_or stack t 0 → ⊥
    differs j h z = omega (arith, d.at j (omega arith), d.at t (omega arith), ap (λ q. get_or place q 0) z, h)

    pub popped : Dive w e up pick (set rank (get_or stack t 0) s) (s + 1) stack place t
    popped =
        let r = get_or stack t 0 in
        record {
          ranked = marked w e up pick rank s (get_or stack t 0) d.ranked (d.inside t (omega arith)) (d.bare t (omega arith)) can;
          stack_length = d.stack_length;
          place_length = d.place_length;
          count = omega (arith, d.count);
          inside = λ j h. d.inside j (omega arith);
          is_root = λ j h. d.is_root j (omega arith);
          bare = λ j h. get_or-set_other rank (get_or stack t 0) (get_or stack j 0) s 0 (differs j h) ∙ d.bare j (omega arith);
          at = λ j h. d.at j (omega arith);
          on = λ q h p z. elim (ℕ_discrete q (get_or stack t 0)) [
            | yes y ↦
                let x : get_or (set rank (get_or stack t 0) s) q 0 ≡ s = rw y (get_or-set_same rank (get_or stack t 0) s 0 (omega (arith, d.ranked.rank_length, d.inside t (omega arith)))) in
                absurd (omega (arith, d.ranked.positive, x, z))
            | no n ↦
                let u = d.on q h p (sym (get_or-set_other rank (get_or stack t 0) q s 0 n) ∙ z) in
                (u.0, elim (ℕ_discrete u.0 t) [ yes y ↦ absurd (n (sym u.2 ∙ ap (λ j. get_or stack j 0) y)) | no m ↦ omega (arith, u.1) ], u.2)
          ];
          falls = λ f good agree j h. d.falls f good agree j (omega arith);
        }

    pub keeps : (q : ℕ) → 0 < get_or rank q 0 → 0 < get_or (set rank (get_or stack t 0) s) q 0
    keeps q h = elim (ℕ_discrete q (get_or stack t 0)) [
      | yes y ↦ absurd (omega (arith, h, d.bare t (omega arith), ap (λ j. get_or rank j 0) y))
      | no n ↦ rw (get_or-set_other rank (get_or stack t 0) q s 0 n) h
    ]

    pub ranks : 0 < get_or (set rank (get_or stack t 0) s) (get_or stack t 0) 0
    ranks = rw (get_or-set_same rank (get_or stack t 0) s 0 (omega (arith, d.ranked.rank_length, d.inside t (omega arith)))) d.ranked.positive

  -- up the stack labels do not grow
  sinks : (f : Label) → Good w e f → Agree f up → (n j : ℕ) → j + n < top → length (f (get_or stack (j + n) 0)) ≤ length (f (get_or stack j 0))
  sinks f good agree zero j h = let y : j + 0 ≡ j = omega arith in rw y (omega arith)
  sinks f good agree (suc n) j h =
      let y : j + suc n ≡ j + n + 1 = omega arith in
      rw y (omega (arith, sinks f good agree n j (omega arith), d.falls f good agree (j + n) (omega arith)))

  pub cyclic : (k t : ℕ) → top ≡ t + 1 → k < length w → get_or rank k 0 ≡ 0 → (get_or place k 0 ≡ 0 → ⊥)
      → ((f : Label) → Good w e f → Agree f up → length (f k) < length (f (get_or stack t 0))) → Cyclic w e up
  cyclic k t et hk zk pk less f good agree =
      let u = d.on k hk pk zk in
      let y : u.0 + (t - u.0) ≡ t = omega (arith, u.1) in
      let s : length (f (get_or stack (u.0 + (t - u.0)) 0)) ≤ length (f (get_or stack u.0 0)) = sinks f good agree (t - u.0) u.0 (omega (arith, u.1)) in
      let s' : length (f (get_or stack t 0)) ≤ length (f (get_or stack u.0 0)) = rw y at s in
      omega (arith, less f good agree, s', ap (λ q. length (f q)) u.2)

pub none-placed : (w e up pick rank : List ℕ) (s : ℕ) (stack place : List ℕ) → Ranked w e up pick rank s → length stack ≡ length w → length place ≡ length w → ((k : ℕ) → get_or place k 0 ≡ 0) → Dive w e up pick rank s stack place 0
none-placed w e up pick rank s stack place r ls lp z = record {
  ranked = r;
  stack_length = ls;
  place_length = lp;
  count = omega (arith, blank_le place);
  inside = λ j h. absurd (omega arith);
  is_root = λ j h. absurd (omega arith);
  bare = λ j h. absurd (omega arith);
  at = λ j h. absurd (omega arith);
  on = λ k h p q. absurd (p (z k));
  falls = λ f g a j h. absurd (omega arith);
}

-- a root with no rank has no place while the stack is empty
pub unplaced : (w e up pick rank : List ℕ) (s : ℕ) (stack place : List ℕ) → Dive w e up pick rank s stack place 0 → (k : ℕ) → k < length w → get_or rank k 0 ≡ 0 → get_or place k 0 ≡ 0
unplaced w e up pick rank s stack place d k h z = elim (ℕ_discrete (get_or place k 0) 0) [
  | yes y ↦ y
  | no n ↦ let t = d.on k h n z in absurd (omega (arith, t.1))
]
