-- A formula and a head told apart by their first words.
use Prim.Native.Nat.{ℕ, ◌<◌}
use native.Mathlib.Omega.{arith}
use mathlib.Core.Path.{◌≡◌, refl, sym as inv, ap, ◌∙◌}
use mathlib.Core.Bool.{Bool, true, false}
use mathlib.Core.List.{List, [], ◌∷◌, append-nil}
use lib.ListN.{length, get_or}
use Rattle.terms.specs.Node.{Expr}
use Rattle.terms.specs.RowLaws.{row-long}
use Rattle.terms.specs.Subst.{Subst, apply}
use Rattle.terms.specs.Rename.{rename}
use Rattle.search.specs.Next.{Clause, Meets}
use Rattle.words.specs.Word.{Plain, node, nodes}
use Rattle.words.specs.Held.{GoalIn, ClauseIn}
use Rattle.words.specs.WordLaws.{node-sym}
use Rattle.words.specs.PackLaws.{node_inj}
use Rattle.words.specs.HeldLaws.{first-length, whole_length, headed, first_kind}
use Rattle.picking.specs.Picking.{Sifted}

-- what a substitution makes of words that begin with symbols begins with these
first-node : (θ : Subst) (α β : ℕ → ℕ) (l m : List ℕ) → 0 < length l → 0 < length m → Plain (get_or l 0 0) → Plain (get_or m 0 0)
    → apply θ (rename α (nodes l)) ≡ apply θ (rename β (nodes m)) → node (get_or l 0 0) ≡ node (get_or m 0 0)
first-node θ α β [] m hl hm pl pm e = absurd (omega arith)
first-node θ α β (u ∷ l) [] hl hm pl pm e = absurd (omega arith)
first-node θ α β (u ∷ l) (x ∷ m) hl hm pl pm e =
    let a = node-sym u pl in let b = node-sym x pm in
    let y = ap (λ t. apply θ (rename α (t ∷ nodes l))) (inv a.1) ∙ e ∙ ap (λ t. apply θ (rename β (t ∷ nodes m))) b.1 in
    cc

second-node : (θ : Subst) (α β : ℕ → ℕ) (l m : List ℕ) → 1 < length l → 1 < length m → Plain (get_or l 0 0) → Plain (get_or m 0 0) → Plain (get_or l 1 0) → Plain (get_or m 1 0)
    → apply θ (rename α (nodes l)) ≡ apply θ (rename β (nodes m)) → node (get_or l 1 0) ≡ node (get_or m 1 0)
second-node θ α β [] m hl hm pl pm ql qm e = absurd (omega arith)
second-node θ α β (u ∷ l) [] hl hm pl pm ql qm e = absurd (omega arith)
second-node θ α β (u ∷ l) (x ∷ m) hl hm pl pm ql qm e =
    let a = node-sym u pl in let b = node-sym x pm in
    let y = ap (λ t. apply θ (rename α (t ∷ nodes l))) (inv a.1) ∙ e ∙ ap (λ t. apply θ (rename β (t ∷ nodes m))) b.1 in
    first-node θ α β l m (omega arith) (omega arith) ql qm (cc)

module _ {formula head : List ℕ} {k : ℕ} {f : Expr} (c : Clause) (p : GoalIn formula 1 (f ∷ [])) (q : ClauseIn head k 0 (headed c)) where
  left-plain : Plain (get_or formula 0 0)
  left-plain z = omega (arith, z, first_kind 4096 formula f [] p.fit p.is p.atoms.0)

  right-plain : Plain (get_or head 0 0)
  right-plain z = omega (arith, z, first_kind 64 head c.head [] q.fit q.is q.atoms.0)

  pub some_left : 0 < length formula
  some_left = omega (arith, first-length formula 1 f [] p (length f) refl, row-long p.formulas.0)

  pub some_right : 0 < length head
  some_right = omega (arith, whole_length head c.head [] q.is (length c.head) refl, row-long q.formulas.0)

  module _ (t : Meets f c) where
    made-equal : apply t.unifier (rename t.goal_names (nodes formula)) ≡ apply t.unifier (rename t.clause_names (nodes head))
    made-equal =
        ap (λ x. apply t.unifier (rename t.goal_names x)) (p.is ∙ append-nil f) ∙ t.unifies.1
        ∙ ap (λ x. apply t.unifier (rename t.clause_names x)) (inv (append-nil c.head) ∙ inv q.is)

    -- one predicate, of one arity
    pub same-predicate : get_or formula 0 0 ≡ get_or head 0 0
    same-predicate = node_inj (get_or formula 0 0) (get_or head 0 0) (p.fit 0 some_left).valid (q.fit 0 some_right).valid
        (first-node t.unifier t.goal_names t.clause_names formula head some_left some_right left-plain right-plain made-equal)

    -- one symbol as first argument, where both have one
    pub same_symbol : 1 < length formula → 1 < length head → Plain (get_or formula 1 0) → Plain (get_or head 1 0) → get_or formula 1 0 ≡ get_or head 1 0
    same_symbol hl hm pl pm = node_inj (get_or formula 1 0) (get_or head 1 0) (p.fit 1 hl).valid (q.fit 1 hm).valid
        (second-node t.unifier t.goal_names t.clause_names formula head hl hm left-plain right-plain pl pm made-equal)

-- what is said of them
module _ (formula head : List ℕ) where
  pub other-predicates : (get_or formula 0 0 ≡ get_or head 0 0 → ⊥) → Sifted formula head true
  other-predicates n = record { apart = λ z f c k p q t. n (same-predicate c p q t); same = λ z. absurd (let y : ◌≡◌ {A = ℕ} 0 1 = cc in omega arith) }

  pub other-symbols : (r : Bool) → get_or formula 0 0 ≡ get_or head 0 0 → 1 < length formula → 1 < length head
      → (r ≡ true → Plain (get_or formula 1 0) × Plain (get_or head 1 0) × (get_or formula 1 0 ≡ get_or head 1 0 → ⊥)) → Sifted formula head r
  other-symbols r e hl hm n = record { apart = λ z f c k p q t. (n z).2 (same_symbol c p q t hl hm (n z).0 (n z).1); same = λ z. inv e }

  pub not-told : get_or formula 0 0 ≡ get_or head 0 0 → Sifted formula head false
  not-told e = record { apart = λ z. absurd (let y : ◌≡◌ {A = ℕ} 0 1 = cc in omega arith); same = λ z. inv e }
