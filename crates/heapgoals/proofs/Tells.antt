-- A row told apart from a saved formula, node by node.
use Prim.Native.Nat.{ℕ, suc, ◌+◌, ◌<◌, ◌≤◌}
use native.Mathlib.Omega.{arith}
use mathlib.Core.Path.{◌≡◌, refl, sym as inv, ap, ◌∙◌, subst}
use mathlib.Core.List.{List, [], ◌∷◌, ◌++◌, append-nil, append_assoc, head-eq_of_cons-eq}
use lib.ListN.{length, get_or, take, drop, length-append, length-map}
use lib.Seq.{take_at, drop_at, drop-cons, get_or-take, length-take-le}
use Rattle.terms.specs.Node.{Symbol, var, sym, Expr}
use Rattle.terms.specs.RowLaws.{row-long}
use Rattle.terms.specs.Subst.{Subst, apply}
use Rattle.terms.specs.SubstLaws.{apply-row}
use Rattle.terms.specs.Number.{number, seen_after}
use Rattle.terms.proofs.NumberLaws.{number_append, number-length}
use Rattle.words.specs.Word.{kind_of, Plain, Valid, Valids, node, nodes}
use Rattle.words.specs.WordLaws.{node-var, node-sym, nodes-drop}
use Rattle.words.specs.PackLaws.{node_inj}
use Rattle.heap.specs.Heap.{rows, Whole, Solved}
use Rattle.heap.specs.HeapLaws.{rows_none}
use Rattle.heap.specs.PartLaws.{ahead-alone}
use Rattle.heap.specs.Walking.{behind, ahead, Visited}
use Rattle.heap.specs.declared.walking.Walk.{Walk}
use Rattle.heapgoals.specs.Telling.{Parted, Other, Midway}

var-sym : {v : ℕ} {s : Symbol} {a b : Expr} → var v ∷ a ≡ sym s ∷ b → ⊥
var-sym e = let z : ◌≡◌ {A = ℕ} 0 1 = cc in omega arith

plain : (u : ℕ) → 33554432 ≤ u → Plain u
plain u l k = omega arith

pub parted-var : (u v : ℕ) → Valid u → u < 33554432 → 33554432 ≤ v → Parted u v
parted-var u v x l m seen e =
    let (s, p) = node-sym v (plain v m) in
    var-sym (ap (λ n. number seen (n ∷ [])) (inv (node-var u (kind u x.low l))) ∙ e ∙ ap (λ n. n ∷ []) p)
  where
    kind : (u : ℕ) → 1 ≤ kind_of u → u < 33554432 → kind_of u ≡ 1
    kind u h l = omega arith

pub parted-sym : (u v : ℕ) → Valid u → Valid v → 33554432 ≤ u → (u ≡ v → ⊥) → Parted u v
parted-sym u v x y l n seen e =
    let (s, p) = node-sym u (plain u l) in
    n (node_inj u v x y (head-eq_of_cons-eq (ap (λ n. n ∷ []) p ∙ ap (λ n. number seen (n ∷ [])) (inv p) ∙ e)))

-- Where what is saved is the whole, numbered, of which i nodes are gone through,
module _ (saved : List ℕ) (kept i : ℕ) (whole done rest : Expr) (k : kept ≤ length saved) where
  -- as many nodes are left on both sides,
  pub as_long : done ++ rest ≡ whole → length done ≡ i → number [] whole ≡ nodes (take kept saved) → i + length rest ≡ kept
  as_long e m same =
      omega (arith, number-length [] whole, ap length e, length-append done rest, m, ap length same, length-map (take kept saved) node, length-take-le kept saved k)

  -- and the next two are not parted.
  pub other-node : i < kept → (u : ℕ) {z : ℕ} → z ≡ get_or saved i 0 → Parted u z → done ++ (node u ∷ rest) ≡ whole → length done ≡ i → number [] whole ≡ nodes (take kept saved) → ⊥
  other-node l u {z} p n e m same =
      let seen = seen_after [] done in
      let one = number seen (node u ∷ []) in
      let more = number (seen_after seen (node u ∷ [])) rest in
      let all : nodes (take kept saved) ≡ number [] done ++ (one ++ more)
      = inv same ∙ ap (number []) (inv e) ∙ number_append [] done (node u ∷ rest) ∙ ap (λ y. number [] done ++ y) (number_append seen (node u ∷ []) rest) in
      let left = ap (drop i) all ∙ drop_at (number [] done) (one ++ more) i (number-length [] done ∙ m) in
      let there : drop i (nodes (take kept saved)) ≡ node z ∷ nodes (drop (suc i) (take kept saved))
      = inv (nodes-drop i (take kept saved)) ∙ ap nodes (drop-cons (take kept saved) i 0 (omega (arith, l, length-take-le kept saved k)))
      ∙ ap (λ y. node y ∷ nodes (drop (suc i) (take kept saved))) (get_or-take kept saved i 0 l ∙ inv p) in
      n seen (inv (take_at one more 1 (number-length seen (node u ∷ []))) ∙ ap (take 1) (inv left ∙ there))

module _ {heap cells : List ℕ} {at kept : ℕ} where
  pub mid_start : {levels : List ℕ} → Whole heap 1 at → 514 ≤ length levels → Midway heap cells levels at kept 0 (record { at = at; due = 1; depth = 0 })
  mid_start r l = record {
    ready = record { front = r; back = λ i h. absurd (omega arith); ended = λ z. refl; room = omega arith };
    levels_long = l;
    high = omega arith;
    so_far = λ θ s. ([], append-nil (apply θ (rows heap 1 at)), refl);
  }

  module _ {levels : List ℕ} {i : ℕ} {w : Walk} (x : Midway heap cells levels at kept i w) where
    long : (saved : List ℕ) → kept ≤ length saved → (θ : Subst) → Solved heap cells θ → number [] (apply θ (rows heap 1 at)) ≡ nodes (take kept saved) → i + length (ahead heap levels θ w) ≡ kept
    long saved k θ s same = let (done, e, n) = x.so_far θ s in as_long saved kept i (apply θ (rows heap 1 at)) done (ahead heap levels θ w) k e n same

    -- the row is longer,
    pub mid_longer : (saved : List ℕ) → kept ≤ length saved → 0 < w.due → i ≡ kept → Other heap cells at saved kept
    mid_longer saved k l e θ s same =
        let rest = apply θ (rows heap w.due w.at) in
        omega (arith, e, l, long saved k θ s same, row-long (apply-row θ s.solves.proper x.ready.front), length-append rest (behind heap levels θ w.depth))

    -- or shorter,
    pub mid_shorter : (saved : List ℕ) → kept ≤ length saved → w.due ≤ 0 → i < kept → Other heap cells at saved kept
    mid_shorter saved k z l θ s same =
        let none : w.due ≡ 0 = omega (arith, z) in
        let nothing : ahead heap levels θ w ≡ [] = ahead-alone heap cells levels w (x.ready.ended none) θ ∙ ap (λ n. apply θ (rows heap n w.at)) none ∙ ap (apply θ) (rows_none heap w.at) in
        omega (arith, l, long saved k θ s same, ap length nothing)

    module _ {u : ℕ} {levels' : List ℕ} {w' : Walk} (v : Visited heap cells levels w u levels' w') where
      -- or has another node at some place.
      pub mid_other : (saved : List ℕ) → kept ≤ length saved → i < kept → {z : ℕ} → z ≡ get_or saved i 0 → Parted u z → Other heap cells at saved kept
      mid_other saved k l {z} p n θ s same =
          let (done, e, m) = x.so_far θ s in
          other-node saved kept i (apply θ (rows heap 1 at)) done (ahead heap levels' θ w') k l u p n (ap (λ y. done ++ y) (inv (v.same θ s)) ∙ e) m same

      pub mid_on : {j : ℕ} → i < kept → j ≡ suc i → Midway heap cells levels' at kept j w'
      mid_on {j} l e = record {
        ready = v.ready;
        levels_long = omega (arith, x.levels_long, v.long);
        high = omega (arith, l, e);
        so_far = λ θ s.
            let (done, p, m) = x.so_far θ s in
            (done ++ (node u ∷ []), append_assoc done (node u ∷ []) (ahead heap levels' θ w') ∙ ap (λ y. done ++ y) (inv (v.same θ s)) ∙ p, omega (arith, length-append done (node u ∷ []), m, e));
      }

pub saved-valid : (saved : List ℕ) (kept i : ℕ) → Valids (take kept saved) → kept ≤ length saved → i < kept → {v : ℕ} → v ≡ get_or saved i 0 → Valid v
saved-valid saved kept i all k l e = subst Valid (get_or-take kept saved i 0 l ∙ inv e) (all i (omega (arith, l, length-take-le kept saved k)))
