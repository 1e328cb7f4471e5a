-- A walk that is written in part.
use Rattle.std.specs.Prelude.{ℕ, suc, ◌<◌, ◌≤◌, ◌≡◌, refl, List, [], ◌∷◌, ◌++◌, length, get_or, set}
use Rattle.std.proofs.Common.{arith, sym as inv, ap, ◌∙◌, subst, append-nil, append_assoc, length-append, get_or-set_same}
use Rattle.terms.specs.Node.{Expr}
use Rattle.terms.specs.RowLaws.{row-long}
use Rattle.terms.specs.Subst.{Subst, apply}
use Rattle.terms.specs.SubstLaws.{apply-row}
use Rattle.words.specs.Word.{Fit, node}
use Rattle.words.specs.Columns.{CELLS}
use Rattle.numbering.specs.Naming.{NAMES, table, back, Table, NamedAt}
use Rattle.heap.specs.Heap.{rows, Solved}
use Rattle.heap.specs.HeapLaws.{rows_none}
use Rattle.heap.specs.Walking.{behind, ahead, Ready, Visited}
use Rattle.heap.specs.Writing.{Writes, Written}
use Rattle.heap.specs.WriteLaws.{writes-none, writes-append, writes-node}
use Rattle.heap.specs.declared.walking.Walk.{Walk}
use Rattle.heap.specs.declared.writing.Pen.{Pen}

-- after some of what the walk `from` visits the walk w is left
pub record Partway (heap cells names out : List ℕ) (pen : Pen) (from : Walk) (limit : ℕ) (levels names' out' : List ℕ) (at count : ℕ) (w : Walk) : Type 0 where
  pub ready : Ready heap levels w
  pub high : at ≤ limit
  pub few : count ≤ at
  pub levels_long : 514 ≤ length levels
  pub names_long : length names' ≡ CELLS
  pub out_long : limit ≤ length out'
  pub tabled : (seen : List ℕ) × Table seen (table names') (back names') count
  pub so_far : (θ : Subst) → Solved heap cells θ
      → (done : Expr) × (done ++ ahead heap levels θ w ≡ apply θ (rows heap from.due from.at)) × Writes names out pen done names' out' (record { at = at; count = count })

-- what the walk visits
module _ (heap cells levels : List ℕ) (w : Walk) (none : w.depth ≡ 0) (θ : Subst) where
  pub ahead-alone : ahead heap levels θ w ≡ apply θ (rows heap w.due w.at)
  ahead-alone = ap (λ n. apply θ (rows heap w.due w.at) ++ behind heap levels θ n) none ∙ append-nil (apply θ (rows heap w.due w.at))

-- it gave up
pub part_tired : {heap cells names out : List ℕ} {pen : Pen} {from : Walk} {limit : ℕ} (names' out' : List ℕ) (count : ℕ) → limit ≤ 8192 → Written heap cells names out pen from limit names' out' (record { at = 65534; count = count })
part_tired names' out' count l = record {
  fits = λ h. absurd (omega (arith, l, h));
  few = λ h. absurd (omega (arith, l, h));
  over = λ h. absurd (omega (arith, h));
  ends = λ n m. absurd (m refl);
}

module _ {heap cells names out : List ℕ} {pen : Pen} {from : Walk} {limit : ℕ} where
  pub part-start : {levels : List ℕ} → Ready heap levels from → from.depth ≡ 0 → pen.at ≤ limit → pen.count ≤ pen.at → 514 ≤ length levels → length names ≡ CELLS → limit ≤ length out
      → (seen : List ℕ) × Table seen (table names) (back names) pen.count → Partway heap cells names out pen from limit levels names out pen.at pen.count from
  part-start {levels} r z l f a b c t = record {
    ready = r;
    high = l;
    few = f;
    levels_long = a;
    names_long = b;
    out_long = c;
    tabled = t;
    so_far = λ θ s. ([], ahead-alone heap cells levels from z θ, writes-none names out pen);
  }

  module _ {levels names' out' : List ℕ} {at count : ℕ} {w : Walk} (x : Partway heap cells names out pen from limit levels names' out' at count w) where
    -- all is written
    pub part_end : w.due ≤ 0 → limit ≤ 8192 → Written heap cells names out pen from limit names' out' (record { at = at; count = count })
    part_end z small = record {
      fits = λ l θ s.
          let (done, e, p) = x.so_far θ s in
          subst (λ y. Writes names out pen y names' out' (record { at = at; count = count })) (inv (append-nil done) ∙ ap (λ y. done ++ y) (inv (nothing θ)) ∙ e) p;
      few = λ l. x.few;
      over = λ l. absurd (omega (arith, x.high, small, l));
      ends = λ n m. x.high;
    }
      where
        none : w.due ≡ 0
        none = omega (arith, z)

        nothing : (θ : Subst) → ahead heap levels θ w ≡ []
        nothing θ = ahead-alone heap cells levels w (x.ready.ended none) θ ∙ ap (λ n. apply θ (rows heap n w.at)) none ∙ ap (apply θ) (rows_none heap w.at)

    -- the limit is reached, and rows are due
    pub part-over : 0 < w.due → at ≡ limit → limit ≤ 8192 → Written heap cells names out pen from limit names' out' (record { at = 65535; count = count })
    part-over some e l = record {
      fits = λ h. absurd (omega (arith, l, h));
      few = λ h. absurd (omega (arith, l, h));
      over = λ h θ s.
          let (done, same, p) = x.so_far θ s in
          let left = row-long (apply-row θ s.solves.proper x.ready.front) in
          omega (arith, e, some, p.at, left, length-append done (ahead heap levels θ w), length-append (apply θ (rows heap w.due w.at)) (behind heap levels θ w.depth), ap length same);
      ends = λ n. absurd (n refl);
    }

    pub part-under : (at ≡ limit → ⊥) → at < limit
    part-under n = omega (arith, x.high, n)

    pub part_room : (at ≡ limit → ⊥) → at < length out'
    part_room n = omega (arith, part-under n, x.out_long)

    -- one node more
    pub part-next : {u : ℕ} {levels' : List ℕ} {w' : Walk} → Visited heap cells levels w u levels' w' → at < limit → {names'' out'' : List ℕ} {r : ℕ}
        → NamedAt (set out' at u) (table names') (back names') count at out'' (table names'') (back names'') r → length out'' ≡ length (set out' at u) → length names'' ≡ CELLS → {next : ℕ} → next ≡ suc at
        → Partway heap cells names out pen from limit levels' names'' out'' next r w'
    part-next {u} v l {names''} {out''} {r} n lo ln {next} e = record {
      ready = v.ready;
      high = omega (arith, l, e);
      few = omega (arith, x.few, n.slow, e);
      levels_long = omega (arith, x.levels_long, v.long);
      names_long = ln;
      out_long = omega (arith, x.out_long, node-written.long);
      tabled = (_, node-written.named x.tabled.0 x.tabled.1);
      so_far = λ θ s.
          let (done, same, p) = x.so_far θ s in
          (done ++ (node u ∷ []), append_assoc done (node u ∷ []) _ ∙ ap (λ y. done ++ y) (inv (v.same θ s)) ∙ same, writes-append p node-written);
    }
      where
        node-written : Writes names' out' (record { at = at; count = count }) (node u ∷ []) names'' out'' (record { at = next; count = r })
        node-written = writes-node names' out' names'' out'' at count r u (omega (arith, l, x.out_long)) lo n x.tabled e

-- the word that is put there has its place in the tables
pub put-fits : {heap cells levels levels' : List ℕ} {w w' : Walk} {u : ℕ} → Visited heap cells levels w u levels' w' → length cells ≤ NAMES → (out : List ℕ) (at : ℕ) → at < length out → Fit NAMES (get_or (set out at u) at 0)
put-fits {u = u} v l out at h = rw (get_or-set_same out at u 0 h) (record { valid = v.fit.valid; below = λ k. omega (arith, v.fit.below k, l) })
