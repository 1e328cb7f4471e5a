-- What the first words of a formula on the heap and of a head say of whether they meet.
use Prim.Native.Nat.{ℕ, suc, ◌<◌}
use native.Mathlib.Omega.{arith}
use mathlib.Core.Path.{◌≡◌, refl, sym as inv, ap, ◌∙◌}
use mathlib.Core.List.{List, [], ◌∷◌, append-nil}
use lib.ListN.{length, get_or}
use Rattle.terms.specs.Node.{Expr}
use Rattle.terms.specs.Subst.{Subst, apply}
use Rattle.terms.specs.Rename.{rename}
use Rattle.terms.specs.Number.{number}
use Rattle.terms.proofs.NumberLaws.{number-is-rename}
use Rattle.search.specs.Next.{Clause, Book, Meets, clause_at}
use Rattle.words.specs.Word.{kind_of, arity_of, Plain, Valid, node, nodes}
use Rattle.words.specs.WordLaws.{node-sym}
use Rattle.words.specs.PackLaws.{node_inj}
use Rattle.words.specs.Held.{ClauseIn, BookOn}
use Rattle.words.specs.HeldLaws.{headed, first_kind}
use Rattle.words.specs.Lists.{head_word}
use Rattle.picking.specs.Picking.{head_at}
use Rattle.picking.proofs.Picks.{head-here, head_first}
use Rattle.heap.specs.Heap.{rows}
use Rattle.heap.specs.HeapLaws.{stands-sym}

-- what meets begins with the same symbols
module _ (θ : Subst) (α ρ β : ℕ → ℕ) where
  pub first-same : (u w : ℕ) (e h : Expr) → Plain u → Plain w → apply θ (rename α (rename ρ (node u ∷ e))) ≡ apply θ (rename β (node w ∷ h)) → node u ≡ node w
  first-same u w e h pu pw same =
      let (a, x) = node-sym u pu in let (b, y) = node-sym w pw in
      let z = ap (λ n. apply θ (rename α (rename ρ (n ∷ e)))) (inv x) ∙ same ∙ ap (λ n. apply θ (rename β (n ∷ h))) y in
      cc

  pub rest-same : (u w : ℕ) (e h : Expr) → Plain u → Plain w → apply θ (rename α (rename ρ (node u ∷ e))) ≡ apply θ (rename β (node w ∷ h)) → apply θ (rename α (rename ρ e)) ≡ apply θ (rename β h)
  rest-same u w e h pu pw same =
      let (a, x) = node-sym u pu in let (b, y) = node-sym w pw in
      let z = ap (λ n. apply θ (rename α (rename ρ (n ∷ e)))) (inv x) ∙ same ∙ ap (λ n. apply θ (rename β (n ∷ h))) y in
      cc

module _ {f F : Expr} {c : Clause} (is : number [] F ≡ f) (t : Meets f c) {e h : Expr} (left : F ≡ e) (right : c.head ≡ h) where
  pub made-equal : (ρ : ℕ → ℕ) × (apply t.unifier (rename t.goal_names (rename ρ e)) ≡ apply t.unifier (rename t.clause_names h))
  made-equal = (
    _,
    ap (λ x. apply t.unifier (rename t.goal_names x)) (inv (inv is ∙ number-is-rename [] F ∙ ap (rename _) left)) ∙ t.unifies.1 ∙ ap (λ x. apply t.unifier (rename t.clause_names x)) right,
  )

-- heads that meet f begin with the word u
abbrev pub BeginSo : Expr → ℕ → Type 0
BeginSo f u = (head : List ℕ) (k : ℕ) (c : Clause) → ClauseIn head k 0 (headed c) → Meets f c → get_or head 0 0 ≡ u

-- the word of a head that meets the formula at a position is the word that is there
module _ (heap : List ℕ) (at : ℕ) (inside : at < length heap) (valid : Valid (get_or heap at 0)) (plain : Plain (get_or heap at 0)) (θ : Subst) {f : Expr} (is : number [] (apply θ (rows heap 1 at)) ≡ f) where
  pub same_head : BeginSo f (get_or heap at 0)
  same_head [] k c q t = absurd (omega (arith, first_kind 64 [] c.head [] q.fit q.is q.atoms.0))
  same_head (w ∷ head) k c q t =
      let (ρ, same) = made-equal is t (stands-sym heap at inside θ valid plain refl) (inv (append-nil c.head) ∙ inv q.is) in
      inv (node_inj (get_or heap at 0) w valid (q.fit 0 (omega arith)).valid (first-same t.unifier t.goal_names ρ t.clause_names (get_or heap at 0) w (apply θ (rows heap (arity_of (get_or heap at 0)) (suc at))) (nodes head) plain (λ z. omega (arith, z, first_kind 64 (w ∷ head) c.head [] q.fit q.is q.atoms.0)) same))

-- a clause's head begins with a symbol
pub head_plain : {book shelf : List ℕ} {P : Book} → BookOn book shelf P → {u r : ℕ} → r < length P → head_word book shelf (length P) r ≡ u → Plain u
head_plain {book} {shelf} {P} o {r = r} l e z =
    let h = head-here o r l in
    omega (arith, z, first_kind 64 (head_at book shelf (length P) r) (clause_at P r).head [] h.fit h.is h.atoms.0, ap kind_of (head_first book _ _ (o.held.placed r l).begins ∙ e))
