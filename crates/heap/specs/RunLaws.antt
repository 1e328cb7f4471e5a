-- Symbols are written as they are.
use Rattle.std.specs.Prelude.{ℕ, suc, ◌+◌, ◌-◌, ◌<◌, ◌≤◌, ◌≡◌, refl, List, [], ◌∷◌, ◌++◌, length, get_or, take, set}
use Rattle.std.proofs.Common.{arith, sym as inv, ap, ◌∙◌, subst, append_assoc, length-set, take-suc-set}
use Rattle.std.proofs.lemmas.List.{map-append}
use Rattle.terms.specs.Node.{Expr}
use Rattle.terms.specs.Subst.{Subst, apply}
use Rattle.terms.specs.Number.{seen_after, number}
use Rattle.words.specs.Word.{arity_of, Plain, Valid, Valids, Fit, Fits, node, nodes}
use Rattle.words.specs.WordLaws.{node-sym, each_append, each_make}
use Rattle.numbering.specs.Naming.{table, back, Table}
use Rattle.heap.specs.Heap.{rows, Whole}
use Rattle.heap.specs.HeapLaws.{row_inside, rows_few, whole-sym, stands-symbol}
use Rattle.heap.specs.Walking.{behind, ahead, settled, settled_at}
use Rattle.heap.specs.WalkLaws.{settled-ahead, settled-ready}
use Rattle.heap.specs.Writing.{Writes, Copied}
use Rattle.heap.specs.WriteLaws.{writes-none, writes-append}
use Rattle.heap.specs.PartLaws.{Partway}
use Rattle.heap.specs.declared.walking.Walk.{Walk}
use Rattle.heap.specs.declared.writing.Pen.{Pen}
use Rattle.heap.specs.declared.writing.Run.{Run}

abbrev run : ℕ → ℕ → ℕ → Run
run at due pen = record { at = at; due = due; pen = pen }

-- One symbol.
writes-symbol : (names out : List ℕ) (at count u : ℕ) → at < length out → Valid u → Plain u → Writes names out (record { at = at; count = count }) (node u ∷ []) names (set out at u) (record { at = suc at; count = count })
writes-symbol names out at count u room valid plain =
    let (f, is) = node-sym u plain in
    record {
      at = omega arith;
      long = length-set out at u;
      grows = omega arith;
      named = λ seen t. subst (λ n. Table (seen_after seen (n ∷ [])) (table names) (back names) count) (inv is) t;
      is = λ seen t. ap nodes (take-suc-set out at u room) ∙ map-append node (take at out) (u ∷ []) ∙ ap (λ n. nodes (take at out) ++ n) (subst (λ n. n ∷ [] ≡ number seen (n ∷ [])) (inv is) refl);
      fits = λ k l x. subst (Fits k) (inv (take-suc-set out at u room)) (each_append (Fit k) (take at out) (u ∷ []) x (each_make (Fit k) u [] (record { valid = valid; below = λ z. absurd (plain z) }) (λ y h. absurd (omega arith))));
    }

pub copied_none : (heap out : List ℕ) (from : Run) (limit : ℕ) → Whole heap from.due from.at → from.pen ≤ limit → Copied heap out from limit out (run from.at from.due from.pen)
copied_none heap out from limit w l =
    record { whole = w; onward = omega arith; high = l; done = []; same = λ θ. refl; written = λ names count. writes-none names out (record { at = from.pen; count = count }) }

module _ {heap out out' : List ℕ} {from : Run} {limit at due pen : ℕ} (x : Copied heap out from limit out' (run at due pen)) (some : 0 < due) where
  abbrev d : ℕ
  d = due - 1

  row : Whole heap (suc d) at
  row = let z : due ≡ suc d = omega (arith, some) in subst (λ n. Whole heap n at) z x.whole

  pub copied-inside : at < length heap
  copied-inside = row_inside heap d at row

  pub copied-few : due ≤ length heap
  copied-few = rows_few heap due at x.whole

  module _ (valids : Valids heap) {u : ℕ} (e : u ≡ get_or heap at 0) (high : 33554432 ≤ u) where
    plain : Plain (get_or heap at 0)
    plain k = omega (arith, e, high, k)

    abbrev after : Expr
    after = rows heap (arity_of (get_or heap at 0) + d) (suc at)

    stands : (θ : Subst) → apply θ (rows heap due at) ≡ node (get_or heap at 0) ∷ apply θ after
    stands θ = let z : due ≡ suc d = omega (arith, some) in ap (λ n. apply θ (rows heap n at)) z ∙ stands-symbol heap d at copied-inside (valids at copied-inside) plain θ

    pub copied_more : (pen ≡ limit → ⊥) → limit ≤ length out → {a b c k : ℕ} → k ≡ arity_of u → a ≡ suc at → b ≡ due - 1 + k → c ≡ suc pen → Copied heap out from limit (set out' pen u) (run a b c)
    copied_more less room {a} {b} {c} {k} ek ea eb ec = rw ea (rw (eb ∙ count) (rw ec (rw e (record {
      whole = whole-sym heap d at copied-inside (valids at copied-inside) plain row;
      onward = omega (arith, x.onward);
      high = omega (arith, x.high, less);
      done = x.done ++ (node (get_or heap at 0) ∷ []);
      same = λ θ. x.same θ ∙ ap (λ y. x.done ++ y) (stands θ) ∙ inv (append_assoc x.done (node (get_or heap at 0) ∷ []) (apply θ after));
      written = λ names n. writes-append (x.written names n) (writes-symbol names out' pen n (get_or heap at 0) (omega (arith, x.high, less, room, (x.written names n).long)) (valids at copied-inside) plain);
    }))))
      where
        count : due - 1 + k ≡ arity_of (get_or heap at 0) + d
        count = omega (arith, ek, ap arity_of e)

-- Behind what a walk has written.
pub part-run : {heap cells names out : List ℕ} {pen : Pen} {from : Walk} {limit : ℕ} {levels names' out' : List ℕ} {at count : ℕ} {w : Walk} → Partway heap cells names out pen from limit levels names' out' at count w
    → {out'' : List ℕ} {r : Run} → Copied heap out' (run w.at w.due at) limit out'' r → {v : Walk} → v ≡ settled levels (record { at = r.at; due = r.due; depth = w.depth })
    → Partway heap cells names out pen from limit levels names' out'' r.pen count v
part-run {heap} {levels = levels} {names'} {count = count} {w} x {out''} {r} c e = rw e (record {
  ready = settled-ready levels heap r.at r.due w.depth c.whole x.ready.back x.ready.room;
  high = c.high;
  few = omega (arith, x.few, c.onward);
  levels_long = x.levels_long;
  names_long = x.names_long;
  out_long = omega (arith, x.out_long, (c.written names' count).long);
  tabled = x.tabled;
  so_far = λ θ s. let (done, is, there) = x.so_far θ s in (
    done ++ c.done,
    append_assoc done c.done _ ∙ ap (λ y. done ++ y) (next θ) ∙ is,
    writes-append there (c.written names' count),
  );
})
  where
    next : (θ : Subst) → c.done ++ ahead heap levels θ (settled_at levels r.at r.due w.depth) ≡ ahead heap levels θ w
    next θ =
        ap (λ y. c.done ++ y) (settled-ahead levels heap θ r.at r.due w.depth) ∙ inv (append_assoc c.done (apply θ (rows heap r.due r.at)) (behind heap levels θ w.depth))
        ∙ ap (λ y. y ++ behind heap levels θ w.depth) (inv (c.same θ))
