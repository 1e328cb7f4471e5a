use Rattle.std.proofs.Common.{Option, None, Some}
use Prim.Native.Nat.{ℕ, ◌+◌, ◌-◌, ◌<◌, ◌≤◌}
use native.Mathlib.Omega.{arith}
use mathlib.Core.Path.{◌≡◌, refl, sym, ap, ◌∙◌}
use mathlib.Core.List.{List, [], ◌∷◌}
use lib.ListN.{length, get_or, set}
use lib.Seq.{get_or-set_same, get_or-set_other}
use Rattle.words.specs.Word.{arity_of, Valids}
use Rattle.words.specs.Columns.{Only, Put, same, after, wider, END, UP, PICK, LEFT, RIGHT, RANK}
use Rattle.positions.specs.Words.{child}
use Rattle.positions.specs.Classes.{root, Agree, Label, Grouped}
use Rattle.positions.specs.Steps.{tally}
use Rattle.positions.specs.Closing.{Good}
use Rattle.positions.specs.Ranking.{under, blank}
use Rattle.positions.specs.Diving.{Searched, Opened, Cyclic, Dive, Diving}
use Rattle.positions.specs.Tables.{ends, ups, picks, lefts, rights, ranks, Search, Found}
use Rattle.positions.specs.RootLaws.{root_fix}
use Rattle.cycles.proofs.Dives.{pick-in, shorter, fewer, room, pushed, popped, keeps, ranks as ranks-in, cyclic, unplaced}
use borrow.Author.Rules.{rules}
use Rattle.cycles.proofs.dive.Invariants.{Held}
use Rattle.cycles.proofs.dive.Goals as goal

-- what is known of k, where it is the class of an argument with no rank, and where it is past the words
record Seen (w e up rank : List ℕ) (x k : ℕ) : Type 0 where
  full : length w ≤ k → (i : ℕ) → i < arity_of (get_or w x 0) → 0 < under e up rank x i
  lacking : k < length w → (i : ℕ) × (i < arity_of (get_or w x 0)) × (k ≡ root up (child e x i)) × (get_or rank k 0 ≡ 0)

seen : {w e up rank : List ℕ} {x : ℕ} (r : Option ℕ) → Opened w e up rank x r → (k : ℕ) → r ≡ Some k → Seen w e up rank x k
seen r o k e = let h = rw e at o.known in record { full = λ l. absurd (omega (arith, l, h.0)); lacking = λ l. h.1 }

seen-in : {w e up rank : List ℕ} {x : ℕ} (r : Option ℕ) → Opened w e up rank x r → (k : ℕ) → r ≡ Some k → k < length w
seen-in r o k e = (rw e at o.known).0

seen-all : {w e up rank : List ℕ} {x : ℕ} (r : Option ℕ) → Opened w e up rank x r → r ≡ None → Seen w e up rank x (length w)
seen-all r o e = record { full = λ l. rw e at o.known; lacking = λ l. absurd (omega (arith, l)) }

module _ (w e up pick : List ℕ) (from : ℕ) (rank : List ℕ) (stamp : ℕ) (stack place : List ℕ)
    (d₀ : Dive w e up pick rank stamp stack place 0) (hf : from < length w) (rf : get_or up from 0 ≡ from) (nf : get_or rank from 0 ≡ 0) where
  pf : get_or place from 0 ≡ 0
  pf = unplaced w e up pick rank stamp stack place d₀ from hf nf

  begin : Held w e up pick rank from rank (set stack 0 from) (set place from 1) 1 stamp
  begin =
      let d = pushed w e up pick rank stamp stack place 0 d₀ from hf rf nf pf (λ f g a j h. absurd (omega (arith, h))) in
      (d, (λ q h. h), (λ h. get_or-set_same stack 0 from 0 (omega (arith, d₀.stack_length, hf))), (λ h. absurd (omega (arith, h))))

module _ (w e up pick rank₀ : List ℕ) (from : ℕ) (rank stack place : List ℕ) (top s r x k : ℕ)
    (g : Grouped w up pick) (se : Searched w e up rank₀) (v : Valids w) (inv : Held w e up pick rank₀ from rank stack place top s) (pos : 0 < top)
    (er : r ≡ get_or stack (top - 1) 0) where
  in_r : r < length w
  in_r = rw er (inv.0.inside (top - 1) (omega arith))

  root_r : get_or up r 0 ≡ r
  root_r = rw er (inv.0.is_root (top - 1) (omega arith))

  again : Searched w e up rank
  again = record { ends = se.ends; end_length = se.end_length; up_length = se.up_length; rank_length = inv.0.ranked.rank_length; down = se.down }

  module _ (ex : x ≡ get_or pick r 0) where
    in_x : x < length w
    in_x = rw ex (pick-in w up pick g r in_r root_r)

    module _ (op : Seen w e up rank x k) where
      module _ (hk : k < length w) where
        root_k : get_or up k 0 ≡ k
        root_k = rw (op.lacking hk).2 (root_fix up se.down (child e x (op.lacking hk).0))

        less : (f : Label) → Good w e f → Agree f up → length (f k) < length (f r)
        less f good agree =
            let t = op.lacking hk in
            let l : t.0 < arity_of (get_or w (get_or pick r 0) 0) = rw ex at t.1 in
            let y : k ≡ root up (child e (get_or pick r 0) t.0) = t.2 ∙ ap (λ z. root up (child e z t.0)) ex in
            omega (arith, shorter w e up pick g se.ends v f good agree r t.0 in_r root_r l, ap (λ z. length (f z)) y)

        cycles : (z : ℕ) → z ≡ get_or place k 0 → (z ≡ 0 → ⊥) → Cyclic w e up
        cycles z ez n = cyclic w e up pick rank s stack place top inv.0 k (top - 1) (omega arith) hk (op.lacking hk).3 (λ y. n (ez ∙ y))
            (λ f good agree. omega (arith, less f good agree, ap (λ z. length (f z)) er))

        module _ (pk : get_or place k 0 ≡ 0) where
          onto : (f : Label) → Good w e f → Agree f up → (j : ℕ) → j + 1 ≡ top → length (f k) < length (f (get_or stack j 0))
          onto f good agree j h =
              let y : j ≡ top - 1 = omega (arith, h) in
              omega (arith, less f good agree, ap (λ z. length (f z)) (er ∙ ap (λ i. get_or stack i 0) (sym y)))

          free : top < length w
          free = room w e up pick rank s stack place top inv.0 k hk root_k (op.lacking hk).3 pk onto

          smaller : tally blank 0 (set place k (top + 1)) + 1 ≡ tally blank 0 place
          smaller = fewer place k (top + 1) (omega (arith, inv.0.place_length, hk)) pk (λ z. omega (arith, z))

          pushes : Held w e up pick rank₀ from rank (set stack top k) (set place k (top + 1)) (top + 1) s
          pushes = (
            pushed w e up pick rank s stack place top inv.0 k hk root_k (op.lacking hk).3 pk onto,
            inv.1,
            (λ h. get_or-set_other stack top 0 k 0 (λ z. omega (arith, z, pos)) ∙ inv.2 pos),
            (λ h. absurd (omega (arith, h))),
          )

      pops : length w ≤ k → Held w e up pick rank₀ from (set rank r s) stack place (top - 1) (s + 1)
      pops h =
          let can : (i : ℕ) → i < arity_of (get_or w (get_or pick (get_or stack (top - 1) 0) 0) 0) → 0 < under e up rank (get_or pick (get_or stack (top - 1) 0) 0) i = rw (← er, ← ex) (op.full h) in
          rw er (
            popped w e up pick rank s stack place top inv.0 (top - 1) (omega arith) can,
            (λ q l. keeps w e up pick rank s stack place top inv.0 (top - 1) (omega arith) can q (inv.1 q l)),
            (λ l. inv.2 pos),
            (λ l.
                let y : from ≡ get_or stack (top - 1) 0 = sym (inv.2 pos) ∙ ap (λ i. get_or stack i 0) (let q : 0 ≡ top - 1 = omega (arith, l) in q) in
                rw y (ranks-in w e up pick rank s stack place top inv.0 (top - 1) (omega arith) can)),
          )

finish : (w e up pick rank₀ : List ℕ) (from : ℕ) (rank stack place : List ℕ) (top s : ℕ) → length w ≤ 4352 → Held w e up pick rank₀ from rank stack place top s → top ≡ 0 → Diving w e up pick rank₀ from rank (Some s) stack place
finish w e up pick rank₀ from rank stack place top s small h z = record { known = record { dive = rw z at h.0; kept = h.1; done = λ y. h.3 z } }

-- the same of rows: z is the storage where the loop begins

begin-in : (w rows y z : List ℕ) (from stamp : ℕ) → Search w rows stamp → from < length w → get_or (ups w rows) from 0 ≡ from → get_or (ranks w rows) from 0 ≡ 0 → Put LEFT 0 from rows y → Put RIGHT from 1 y z
    → Held w (ends w z) (ups w z) (picks w z) (ranks w z) from (ranks w z) (lefts w z) (rights w z) 1 stamp
begin-in w rows y z from stamp se hf rf nf a b =
    rw (b.here (length w), b.only.kept END (length w) refl, b.only.kept UP (length w) refl, b.only.kept PICK (length w) refl, b.only.kept LEFT (length w) refl, b.only.kept RANK (length w) refl)
    (rw (a.here (length w), a.only.kept END (length w) refl, a.only.kept UP (length w) refl, a.only.kept PICK (length w) refl, a.only.kept RIGHT (length w) refl, a.only.kept RANK (length w) refl)
    (begin w (ends w rows) (ups w rows) (picks w rows) from (ranks w rows) stamp (lefts w rows) (rights w rows) se.dive hf rf nf))

module _ (w rows z : List ℕ) (o : Only (LEFT ∷ RIGHT ∷ []) rows z) where
  grouped-in : Grouped w (ups w rows) (picks w rows) → Grouped w (ups w z) (picks w z)
  grouped-in g = rw (o.kept UP (length w) refl, o.kept PICK (length w) refl) g

  searched-in : Searched w (ends w rows) (ups w rows) (ranks w rows) → Searched w (ends w z) (ups w z) (ranks w z)
  searched-in s = rw (o.kept END (length w) refl, o.kept UP (length w) refl, o.kept RANK (length w) refl) s

-- the top of the stack is r
record Top (w z rows : List ℕ) (from top s r : ℕ) : Type 0 where
  g : Grouped w (ups w z) (picks w z)
  se : Searched w (ends w z) (ups w z) (ranks w z)
  v : Valids w
  inv : Held w (ends w z) (ups w z) (picks w z) (ranks w z) from (ranks w rows) (lefts w rows) (rights w rows) top s
  o : Only (LEFT ∷ RIGHT ∷ RANK ∷ []) z rows
  pos : 0 < top
  er : r ≡ get_or (lefts w rows) (top - 1) 0

module _ {w z rows : List ℕ} {from top s r : ℕ} (t : Top w z rows from top s r) where
  in_r_in : r < length w
  in_r_in = in_r w (ends w z) (ups w z) (picks w z) (ranks w z) from (ranks w rows) (lefts w rows) (rights w rows) top s r 0 0 t.g t.se t.v t.inv t.pos t.er

  again-in : Searched w (ends w rows) (ups w rows) (ranks w rows)
  again-in = rw (t.o.kept END (length w) refl, t.o.kept UP (length w) refl) (again w (ends w z) (ups w z) (picks w z) (ranks w z) from (ranks w rows) (lefts w rows) (rights w rows) top s r 0 0 t.g t.se t.v t.inv t.pos t.er)

  module _ {x : ℕ} (ex : x ≡ get_or (picks w rows) r 0) where
    ex' : x ≡ get_or (picks w z) r 0
    ex' = ex ∙ ap (λ l. get_or l r 0) (t.o.kept PICK (length w) refl)

    in_x_in : x < length w
    in_x_in = in_x w (ends w z) (ups w z) (picks w z) (ranks w z) from (ranks w rows) (lefts w rows) (rights w rows) top s r x 0 t.g t.se t.v t.inv t.pos t.er ex'

-- and k is the class of an argument with no rank, where there is one
record Look (w z rows : List ℕ) (from top s r x k : ℕ) : Type 0 where
  at : Top w z rows from top s r
  ex : x ≡ get_or (picks w rows) r 0
  op : Seen w (ends w rows) (ups w rows) (ranks w rows) x k

module _ {w z rows : List ℕ} {from top s r x k : ℕ} (l : Look w z rows from top s r x k) where
  op' : Seen w (ends w z) (ups w z) (ranks w rows) x k
  op' = rw (l.at.o.kept END (length w) refl, l.at.o.kept UP (length w) refl) at l.op

  cycles_in : (t : ℕ) → k < length w → t ≡ get_or (rights w rows) k 0 → (t ≡ 0 → ⊥) → Cyclic w (ends w z) (ups w z)
  cycles_in t hk = let t = l.at in cycles w (ends w z) (ups w z) (picks w z) (ranks w z) from (ranks w rows) (lefts w rows) (rights w rows) top s r x k t.g t.se t.v t.inv t.pos t.er (ex' t l.ex) op' hk _

  module _ (m : ℕ) (hk : k < length w) (et : m ≡ get_or (rights w rows) k 0) (zt : m ≡ 0) where
    free_in : top < length w
    free_in = let t = l.at in free w (ends w z) (ups w z) (picks w z) (ranks w z) from (ranks w rows) (lefts w rows) (rights w rows) top s r x k t.g t.se t.v t.inv t.pos t.er (ex' t l.ex) op' hk (sym et ∙ zt)

    module _ (y q : List ℕ) (a : Put LEFT top k rows y) (b : Put RIGHT k (top + 1) y q) where
      smaller_in : tally blank 0 (rights w q) + 1 ≡ tally blank 0 (rights w rows)
      smaller_in = let t = l.at in rw (b.here (length w), a.only.kept RIGHT (length w) refl) (smaller w (ends w z) (ups w z) (picks w z) (ranks w z) from (ranks w rows) (lefts w rows) (rights w rows) top s r x k t.g t.se t.v t.inv t.pos t.er (ex' t l.ex) op' hk (sym et ∙ zt))

      pushes_in : Held w (ends w z) (ups w z) (picks w z) (ranks w z) from (ranks w q) (lefts w q) (rights w q) (top + 1) s
      pushes_in =
          let t = l.at in
          rw (b.here (length w), b.only.kept LEFT (length w) refl, b.only.kept RANK (length w) refl) (rw (a.here (length w), a.only.kept RIGHT (length w) refl, a.only.kept RANK (length w) refl) (pushes w (ends w z) (ups w z) (picks w z) (ranks w z) from (ranks w rows) (lefts w rows) (rights w rows) top s r x k t.g t.se t.v t.inv t.pos t.er (ex' t l.ex) op' hk (sym et ∙ zt)))

  pops_in : (q : List ℕ) → length w ≤ k → Put RANK r s rows q → Held w (ends w z) (ups w z) (picks w z) (ranks w z) from (ranks w q) (lefts w q) (rights w q) (top - 1) (s + 1)
  pops_in q h a = let t = l.at in rw (a.here (length w), a.only.kept LEFT (length w) refl, a.only.kept RIGHT (length w) refl) (pops w (ends w z) (ups w z) (picks w z) (ranks w z) from (ranks w rows) (lefts w rows) (rights w rows) top s r x k t.g t.se t.v t.inv t.pos t.er (ex' t l.ex) op' h)

cyclic-in : (w rows z : List ℕ) → Only (LEFT ∷ RIGHT ∷ []) rows z → Cyclic w (ends w z) (ups w z) → Cyclic w (ends w rows) (ups w rows)
cyclic-in w rows z o h = rw (← o.kept END (length w) refl, ← o.kept UP (length w) refl) h

finish-in : (w rows z q : List ℕ) (from top s : ℕ) → length w ≤ 4352 → Only (LEFT ∷ RIGHT ∷ []) rows z → Held w (ends w z) (ups w z) (picks w z) (ranks w z) from (ranks w q) (lefts w q) (rights w q) top s → top ≡ 0 → Found w rows from (Some s) q
finish-in w rows z q from top s small o h e =
    rw (← o.kept END (length w) refl, ← o.kept UP (length w) refl, ← o.kept PICK (length w) refl, ← o.kept RANK (length w) refl) (finish w (ends w z) (ups w z) (picks w z) (ranks w z) from (ranks w q) (lefts w q) (rights w q) top s small h e)

pub put-requires : goal.put-requires
put-requires c = (search rules, search rules, omega (arith, c.requires.0.grouped.small))

pub put-requires-2 : goal.put-requires-2
put-requires-2 c = (search rules, omega (arith, c.requires.0.grouped.small), search rules)

pub loop-top-init : goal.loop-top-init
loop-top-init c = (begin-in _ _ _ _ _ _ c.requires.0 c.requires.1 c.requires.2 c.requires.3 c.put.ensures c.put-2.ensures, search rules, same)

pub cell-r-requires : goal.cell-r-requires
cell-r-requires c = let under_top : 0 < c.loop-top.top → c.loop-top.top - 1 < length c.args.words.now = λ h. omega (arith, h, c.loop-top.invariant.0.0.count) in
    (search rules, omega (arith, c.requires.0.grouped.small, under_top c.loop-top-test.true))

pub cell-x-requires : goal.cell-x-requires
cell-x-requires c = let opened : Only (LEFT ∷ RIGHT ∷ []) c.args.rows.now c.put-2.new.rows = after (wider (LEFT ∷ RIGHT ∷ []) refl c.put.ensures.only) (wider (LEFT ∷ RIGHT ∷ []) refl c.put-2.ensures.only) in
    let under_top : 0 < c.loop-top.top → c.loop-top.top - 1 < length c.args.words.now = λ h. omega (arith, h, c.loop-top.invariant.0.0.count) in
    let top-at : let l = c.loop-top in Top c.args.words.now c.put-2.new.rows l.rows c.args.from l.top l.s c.cell-r.result = let o = opened in
    let p = c.requires.0 in
    record {
      g = grouped-in _ _ _ o p.grouped;
      se = searched-in _ _ _ o p.searched;
      v = p.valid;
      inv = c.loop-top.invariant.0;
      o = c.loop-top.invariant.2;
      pos = c.loop-top-test.true;
      er = c.cell-r.ensures.0 _ (under_top c.loop-top-test.true);
    } in
    (search rules, omega (arith, c.requires.0.grouped.small, in_r_in (top-at)))

pub lacking-requires : goal.lacking-requires
lacking-requires c = let opened : Only (LEFT ∷ RIGHT ∷ []) c.args.rows.now c.put-2.new.rows = after (wider (LEFT ∷ RIGHT ∷ []) refl c.put.ensures.only) (wider (LEFT ∷ RIGHT ∷ []) refl c.put-2.ensures.only) in
    let under_top : 0 < c.loop-top.top → c.loop-top.top - 1 < length c.args.words.now = λ h. omega (arith, h, c.loop-top.invariant.0.0.count) in
    let top-at : let l = c.loop-top in Top c.args.words.now c.put-2.new.rows l.rows c.args.from l.top l.s c.cell-r.result = let o = opened in
    let p = c.requires.0 in
    record {
      g = grouped-in _ _ _ o p.grouped;
      se = searched-in _ _ _ o p.searched;
      v = p.valid;
      inv = c.loop-top.invariant.0;
      o = c.loop-top.invariant.2;
      pos = c.loop-top-test.true;
      er = c.cell-r.ensures.0 _ (under_top c.loop-top-test.true);
    } in
    let picked-at : c.cell-x.result ≡ get_or (picks c.args.words.now c.loop-top.rows) c.cell-r.result 0 = c.cell-x.ensures.0 _ (in_r_in (top-at)) in
    (c.requires.0.grouped.small, again-in (top-at), in_x_in (top-at) (picked-at))

pub cell-z-requires : goal.cell-z-requires
cell-z-requires c = (search rules, omega (arith, c.requires.0.grouped.small, (seen-in _ c.lacking.ensures _ c.in-Some.is)))

pub put-requires-in-Some : goal.put-requires-in-Some
put-requires-in-Some c = let opened : Only (LEFT ∷ RIGHT ∷ []) c.args.rows.now c.put-2.new.rows = after (wider (LEFT ∷ RIGHT ∷ []) refl c.put.ensures.only) (wider (LEFT ∷ RIGHT ∷ []) refl c.put-2.ensures.only) in
    let under_top : 0 < c.loop-top.top → c.loop-top.top - 1 < length c.args.words.now = λ h. omega (arith, h, c.loop-top.invariant.0.0.count) in
    let top-at : let l = c.loop-top in Top c.args.words.now c.put-2.new.rows l.rows c.args.from l.top l.s c.cell-r.result = let o = opened in
    let p = c.requires.0 in
    record {
      g = grouped-in _ _ _ o p.grouped;
      se = searched-in _ _ _ o p.searched;
      v = p.valid;
      inv = c.loop-top.invariant.0;
      o = c.loop-top.invariant.2;
      pos = c.loop-top-test.true;
      er = c.cell-r.ensures.0 _ (under_top c.loop-top-test.true);
    } in
    let picked-at : c.cell-x.result ≡ get_or (picks c.args.words.now c.loop-top.rows) c.cell-r.result 0 = c.cell-x.ensures.0 _ (in_r_in (top-at)) in
    let look_at : let l = c.loop-top in
    Look c.args.words.now c.put-2.new.rows l.rows c.args.from l.top l.s c.cell-r.result c.cell-x.result c.in-Some.k = record { at = top-at; ex = picked-at; op = seen _ c.lacking.ensures _ c.in-Some.is } in
    (search rules, omega (arith, c.requires.0.grouped.small, free_in (look_at) _ (seen-in _ c.lacking.ensures _ c.in-Some.is) (c.cell-z.ensures.0 _ (seen-in _ c.lacking.ensures _ c.in-Some.is)) c.if-z-ne0.false), omega (arith, c.requires.0.grouped.small, (seen-in _ c.lacking.ensures _ c.in-Some.is)))

pub overflow_add-top : goal.overflow_add-top
overflow_add-top c =
    let opened : Only (LEFT ∷ RIGHT ∷ []) c.args.rows.now c.put-2.new.rows = after (wider (LEFT ∷ RIGHT ∷ []) refl c.put.ensures.only) (wider (LEFT ∷ RIGHT ∷ []) refl c.put-2.ensures.only) in
    let under_top : 0 < c.loop-top.top → c.loop-top.top - 1 < length c.args.words.now = λ h. omega (arith, h, c.loop-top.invariant.0.0.count) in
    let top-at : let l = c.loop-top in Top c.args.words.now c.put-2.new.rows l.rows c.args.from l.top l.s c.cell-r.result = let o = opened in
    let p = c.requires.0 in
    record {
      g = grouped-in _ _ _ o p.grouped;
      se = searched-in _ _ _ o p.searched;
      v = p.valid;
      inv = c.loop-top.invariant.0;
      o = c.loop-top.invariant.2;
      pos = c.loop-top-test.true;
      er = c.cell-r.ensures.0 _ (under_top c.loop-top-test.true);
    } in
    let picked-at : c.cell-x.result ≡ get_or (picks c.args.words.now c.loop-top.rows) c.cell-r.result 0 = c.cell-x.ensures.0 _ (in_r_in (top-at)) in
    let look_at : let l = c.loop-top in
    Look c.args.words.now c.put-2.new.rows l.rows c.args.from l.top l.s c.cell-r.result c.cell-x.result c.in-Some.k = record { at = top-at; ex = picked-at; op = seen _ c.lacking.ensures _ c.in-Some.is } in
    omega (arith, c.requires.0.grouped.small, free_in (look_at) _ (seen-in _ c.lacking.ensures _ c.in-Some.is) (c.cell-z.ensures.0 _ (seen-in _ c.lacking.ensures _ c.in-Some.is)) c.if-z-ne0.false)

pub put-requires-in-Some-2 : goal.put-requires-in-Some-2
put-requires-in-Some-2 c = let opened : Only (LEFT ∷ RIGHT ∷ []) c.args.rows.now c.put-2.new.rows = after (wider (LEFT ∷ RIGHT ∷ []) refl c.put.ensures.only) (wider (LEFT ∷ RIGHT ∷ []) refl c.put-2.ensures.only) in
    let under_top : 0 < c.loop-top.top → c.loop-top.top - 1 < length c.args.words.now = λ h. omega (arith, h, c.loop-top.invariant.0.0.count) in
    let top-at : let l = c.loop-top in Top c.args.words.now c.put-2.new.rows l.rows c.args.from l.top l.s c.cell-r.result = let o = opened in
    let p = c.requires.0 in
    record {
      g = grouped-in _ _ _ o p.grouped;
      se = searched-in _ _ _ o p.searched;
      v = p.valid;
      inv = c.loop-top.invariant.0;
      o = c.loop-top.invariant.2;
      pos = c.loop-top-test.true;
      er = c.cell-r.ensures.0 _ (under_top c.loop-top-test.true);
    } in
    let picked-at : c.cell-x.result ≡ get_or (picks c.args.words.now c.loop-top.rows) c.cell-r.result 0 = c.cell-x.ensures.0 _ (in_r_in (top-at)) in
    let look_at : let l = c.loop-top in
    Look c.args.words.now c.put-2.new.rows l.rows c.args.from l.top l.s c.cell-r.result c.cell-x.result c.in-Some.k = record { at = top-at; ex = picked-at; op = seen _ c.lacking.ensures _ c.in-Some.is } in
    (search rules, omega (arith, c.requires.0.grouped.small, (seen-in _ c.lacking.ensures _ c.in-Some.is)), omega (arith, c.requires.0.grouped.small, free_in (look_at) _ (seen-in _ c.lacking.ensures _ c.in-Some.is) (c.cell-z.ensures.0 _ (seen-in _ c.lacking.ensures _ c.in-Some.is)) c.if-z-ne0.false))

pub loop-top-smaller-in-Some : goal.loop-top-smaller-in-Some
loop-top-smaller-in-Some c =
    let opened : Only (LEFT ∷ RIGHT ∷ []) c.args.rows.now c.put-2.new.rows = after (wider (LEFT ∷ RIGHT ∷ []) refl c.put.ensures.only) (wider (LEFT ∷ RIGHT ∷ []) refl c.put-2.ensures.only) in
    let under_top : 0 < c.loop-top.top → c.loop-top.top - 1 < length c.args.words.now = λ h. omega (arith, h, c.loop-top.invariant.0.0.count) in
    let top-at : let l = c.loop-top in Top c.args.words.now c.put-2.new.rows l.rows c.args.from l.top l.s c.cell-r.result = let o = opened in
    let p = c.requires.0 in
    record {
      g = grouped-in _ _ _ o p.grouped;
      se = searched-in _ _ _ o p.searched;
      v = p.valid;
      inv = c.loop-top.invariant.0;
      o = c.loop-top.invariant.2;
      pos = c.loop-top-test.true;
      er = c.cell-r.ensures.0 _ (under_top c.loop-top-test.true);
    } in
    let picked-at : c.cell-x.result ≡ get_or (picks c.args.words.now c.loop-top.rows) c.cell-r.result 0 = c.cell-x.ensures.0 _ (in_r_in (top-at)) in
    let look_at : let l = c.loop-top in
    Look c.args.words.now c.put-2.new.rows l.rows c.args.from l.top l.s c.cell-r.result c.cell-x.result c.in-Some.k = record { at = top-at; ex = picked-at; op = seen _ c.lacking.ensures _ c.in-Some.is } in
    omega (arith, smaller_in (look_at) _ (seen-in _ c.lacking.ensures _ c.in-Some.is) (c.cell-z.ensures.0 _ (seen-in _ c.lacking.ensures _ c.in-Some.is)) c.if-z-ne0.false _ _ c.put-in-Some.ensures c.put-in-Some-2.ensures)

pub loop-top-preserved-in-Some : goal.loop-top-preserved-in-Some
loop-top-preserved-in-Some c =
    let opened : Only (LEFT ∷ RIGHT ∷ []) c.args.rows.now c.put-2.new.rows = after (wider (LEFT ∷ RIGHT ∷ []) refl c.put.ensures.only) (wider (LEFT ∷ RIGHT ∷ []) refl c.put-2.ensures.only) in
    let under_top : 0 < c.loop-top.top → c.loop-top.top - 1 < length c.args.words.now = λ h. omega (arith, h, c.loop-top.invariant.0.0.count) in
    let top-at : let l = c.loop-top in Top c.args.words.now c.put-2.new.rows l.rows c.args.from l.top l.s c.cell-r.result = let o = opened in
    let p = c.requires.0 in
    record {
      g = grouped-in _ _ _ o p.grouped;
      se = searched-in _ _ _ o p.searched;
      v = p.valid;
      inv = c.loop-top.invariant.0;
      o = c.loop-top.invariant.2;
      pos = c.loop-top-test.true;
      er = c.cell-r.ensures.0 _ (under_top c.loop-top-test.true);
    } in
    let picked-at : c.cell-x.result ≡ get_or (picks c.args.words.now c.loop-top.rows) c.cell-r.result 0 = c.cell-x.ensures.0 _ (in_r_in (top-at)) in
    let look_at : let l = c.loop-top in
    Look c.args.words.now c.put-2.new.rows l.rows c.args.from l.top l.s c.cell-r.result c.cell-x.result c.in-Some.k = record { at = top-at; ex = picked-at; op = seen _ c.lacking.ensures _ c.in-Some.is } in
    (pushes_in (look_at) _ (seen-in _ c.lacking.ensures _ c.in-Some.is) (c.cell-z.ensures.0 _ (seen-in _ c.lacking.ensures _ c.in-Some.is)) c.if-z-ne0.false _ _ c.put-in-Some.ensures c.put-in-Some-2.ensures, search rules, after c.loop-top.invariant.2 (after (wider (LEFT ∷ RIGHT ∷ RANK ∷ []) refl c.put-in-Some.ensures.only) (wider (LEFT ∷ RIGHT ∷ RANK ∷ []) refl c.put-in-Some-2.ensures.only)))

pub returns-then-z-ne0 : goal.returns-then-z-ne0
returns-then-z-ne0 c =
    let opened : Only (LEFT ∷ RIGHT ∷ []) c.args.rows.now c.put-2.new.rows = after (wider (LEFT ∷ RIGHT ∷ []) refl c.put.ensures.only) (wider (LEFT ∷ RIGHT ∷ []) refl c.put-2.ensures.only) in
    let under_top : 0 < c.loop-top.top → c.loop-top.top - 1 < length c.args.words.now = λ h. omega (arith, h, c.loop-top.invariant.0.0.count) in
    let top-at : let l = c.loop-top in Top c.args.words.now c.put-2.new.rows l.rows c.args.from l.top l.s c.cell-r.result = let o = opened in
    let p = c.requires.0 in
    record {
      g = grouped-in _ _ _ o p.grouped;
      se = searched-in _ _ _ o p.searched;
      v = p.valid;
      inv = c.loop-top.invariant.0;
      o = c.loop-top.invariant.2;
      pos = c.loop-top-test.true;
      er = c.cell-r.ensures.0 _ (under_top c.loop-top-test.true);
    } in
    let picked-at : c.cell-x.result ≡ get_or (picks c.args.words.now c.loop-top.rows) c.cell-r.result 0 = c.cell-x.ensures.0 _ (in_r_in (top-at)) in
    let look_at : let l = c.loop-top in
    Look c.args.words.now c.put-2.new.rows l.rows c.args.from l.top l.s c.cell-r.result c.cell-x.result c.in-Some.k = record { at = top-at; ex = picked-at; op = seen _ c.lacking.ensures _ c.in-Some.is } in
    (record { known = cyclic-in _ _ _ (opened) (cycles_in (look_at) _ (seen-in _ c.lacking.ensures _ c.in-Some.is) (c.cell-z.ensures.0 _ (seen-in _ c.lacking.ensures _ c.in-Some.is)) c.if-z-ne0.true) }, after (wider (LEFT ∷ RIGHT ∷ RANK ∷ []) refl (opened)) c.loop-top.invariant.2)

pub put-requires-in-None : goal.put-requires-in-None
put-requires-in-None c = let opened : Only (LEFT ∷ RIGHT ∷ []) c.args.rows.now c.put-2.new.rows = after (wider (LEFT ∷ RIGHT ∷ []) refl c.put.ensures.only) (wider (LEFT ∷ RIGHT ∷ []) refl c.put-2.ensures.only) in
    let under_top : 0 < c.loop-top.top → c.loop-top.top - 1 < length c.args.words.now = λ h. omega (arith, h, c.loop-top.invariant.0.0.count) in
    let top-at : let l = c.loop-top in Top c.args.words.now c.put-2.new.rows l.rows c.args.from l.top l.s c.cell-r.result = let o = opened in
    let p = c.requires.0 in
    record {
      g = grouped-in _ _ _ o p.grouped;
      se = searched-in _ _ _ o p.searched;
      v = p.valid;
      inv = c.loop-top.invariant.0;
      o = c.loop-top.invariant.2;
      pos = c.loop-top-test.true;
      er = c.cell-r.ensures.0 _ (under_top c.loop-top-test.true);
    } in
    (search rules, omega (arith, c.requires.0.grouped.small, in_r_in (top-at)), omega (arith, c.requires.0.grouped.small, c.loop-top.invariant.0.0.ranked.count))

pub overflow_add-s : goal.overflow_add-s
overflow_add-s c = omega (arith, c.requires.0.grouped.small, c.loop-top.invariant.0.0.ranked.count)

pub loop-top-smaller : goal.loop-top-smaller
loop-top-smaller c = omega (arith, ap (tally blank 0) (c.put-in-None.ensures.only.kept RIGHT (length c.args.words.now) refl))

pub loop-top-preserved : goal.loop-top-preserved
loop-top-preserved c =
    let opened : Only (LEFT ∷ RIGHT ∷ []) c.args.rows.now c.put-2.new.rows = after (wider (LEFT ∷ RIGHT ∷ []) refl c.put.ensures.only) (wider (LEFT ∷ RIGHT ∷ []) refl c.put-2.ensures.only) in
    let under_top : 0 < c.loop-top.top → c.loop-top.top - 1 < length c.args.words.now = λ h. omega (arith, h, c.loop-top.invariant.0.0.count) in
    let top-at : let l = c.loop-top in Top c.args.words.now c.put-2.new.rows l.rows c.args.from l.top l.s c.cell-r.result = let o = opened in
    let p = c.requires.0 in
    record {
      g = grouped-in _ _ _ o p.grouped;
      se = searched-in _ _ _ o p.searched;
      v = p.valid;
      inv = c.loop-top.invariant.0;
      o = c.loop-top.invariant.2;
      pos = c.loop-top-test.true;
      er = c.cell-r.ensures.0 _ (under_top c.loop-top-test.true);
    } in
    let picked-at : c.cell-x.result ≡ get_or (picks c.args.words.now c.loop-top.rows) c.cell-r.result 0 = c.cell-x.ensures.0 _ (in_r_in (top-at)) in
    let look_at : let l = c.loop-top in
    Look c.args.words.now c.put-2.new.rows l.rows c.args.from l.top l.s c.cell-r.result c.cell-x.result (length c.args.words.now) = record { at = top-at; ex = picked-at; op = seen-all _ c.lacking.ensures c.in-None.is } in
    (pops_in (look_at) _ (omega arith) c.put-in-None.ensures, search rules, after c.loop-top.invariant.2 (wider (LEFT ∷ RIGHT ∷ RANK ∷ []) refl c.put-in-None.ensures.only))

pub returns : goal.returns
returns c =
    let opened : Only (LEFT ∷ RIGHT ∷ []) c.args.rows.now c.put-2.new.rows = after (wider (LEFT ∷ RIGHT ∷ []) refl c.put.ensures.only) (wider (LEFT ∷ RIGHT ∷ []) refl c.put-2.ensures.only) in
    (finish-in _ _ _ _ _ c.loop-top.top _ c.requires.0.grouped.small (opened) c.loop-top.invariant.0 (omega (arith, c.loop-top-test.false)), after (wider (LEFT ∷ RIGHT ∷ RANK ∷ []) refl (opened)) c.loop-top.invariant.2)
