use Rattle.std.proofs.Common.{Option, None, Some}
use Prim.Native.Nat.{ℕ, ◌<◌, ◌≤◌}
use mathlib.Core.Path.{◌≡◌, sym, ap, ◌∙◌}
use mathlib.Core.List.{List, [], ◌∷◌}
use mathlib.Core.Logic.{◌⊎◌, inl, inr}
use lib.ListN.{length, get_or}
use Prim.Native.Nat.{◌/◌}
use Rattle.terms.specs.Node.{Expr}
use Rattle.terms.specs.Subst.{apply}
use Rattle.words.specs.Word.{Valid, node}
use Rattle.positions.specs.Solving.{resolved, solution}
use Rattle.positions.specs.Writing.{Of, Written, Bound}
use Rattle.unifier.proofs.Applied.{widened, image-plain, image-free, image-bound}
use native.Mathlib.Omega.{arith}
use Rattle.words.specs.Columns.{same}
use Rattle.positions.specs.Tables.{ends, ups, picks, ranks, firsts}
use borrow.Author.Rules.{rules}
use Rattle.unifier.proofs.writing.emit.Goals as goal

module _ (w e up pick rank first : List ℕ) (u : ℕ) (v : Valid u) where
  abbrev Source : ℕ → Type 0
  Source x = Of w x ⊎ (x ≡ u)

  via : (o : List ℕ) (at : ℕ) (t : Expr) (z : List ℕ) (r : ℕ) → apply (solution w e up pick rank first) (node u ∷ []) ≡ t → Written Source o at t z r → Written Source o at (apply (solution w e up pick rank first) (node u ∷ [])) z r
  via o at t z r h p = rw h p

  plain : (o : List ℕ) (at : ℕ) (z : List ℕ) (r : ℕ) → (u / 16777216 ≡ 1 → ⊥) → Written (λ x. x ≡ u) o at (node u ∷ []) z r → Written Source o at (apply (solution w e up pick rank first) (node u ∷ [])) z r
  plain o at z r n p = via o at (node u ∷ []) z r (image-plain w e up pick rank first u n) (widened (λ x. x ≡ u) Source (λ x e. inr e) o at (node u ∷ []) z r p)

  loose : (o : List ℕ) (at : ℕ) (z : List ℕ) (r : ℕ) (q : Option ℕ) → u / 16777216 ≡ 1 → Bound w first u q → q ≡ None → Written (λ x. x ≡ u) o at (node u ∷ []) z r → Written Source o at (apply (solution w e up pick rank first) (node u ∷ [])) z r
  loose o at z r q k b l p = via o at (node u ∷ []) z r (image-free w e up pick rank first u v k (rw l at b.known)) (widened (λ x. x ≡ u) Source (λ x e. inr e) o at (node u ∷ []) z r p)

  bound : (o : List ℕ) (at : ℕ) (z : List ℕ) (r : ℕ) (o' : Option ℕ) (q : ℕ) → u / 16777216 ≡ 1 → Bound w first u o' → o' ≡ Some q → Written (Of w) o at (resolved w e up pick rank q) z r → Written Source o at (apply (solution w e up pick rank first) (node u ∷ [])) z r
  bound o at z r o' q k b l p =
      let h = rw l at b.known in
      via o at (resolved w e up pick rank q) z r
      (image-bound w e up pick rank first u v k (ap (λ i. get_or w i 0) (sym h.1) ∙ h.2) ∙ ap (λ i. resolved w e up pick rank i) (sym h.1))
      (widened (Of w) Source (λ x e. inl e) o at (resolved w e up pick rank q) z r p)

pub write-requires : goal.write-requires
write-requires c = (c.requires.0, c.requires.1, c.requires.2, (rw c.in-Some.is at c.bound_at.ensures.known).0)

pub returns-in-Some : goal.returns-in-Some
returns-in-Some c = (bound c.args.words.now (ends c.args.words.now c.args.rows.now) (ups c.args.words.now c.args.rows.now) (picks c.args.words.now c.args.rows.now) (ranks c.args.words.now c.args.rows.now) (firsts c.args.rows.now) c.args.u c.requires.3 _ _ _ _ _ _ c.if-kind-eq1.true c.bound_at.ensures c.in-Some.is c.write.ensures.0, c.write.ensures.1)

pub copy-requires : goal.copy-requires
copy-requires c = omega (arith, c.requires.1)

pub returns-in-None : goal.returns-in-None
returns-in-None c = (loose c.args.words.now (ends c.args.words.now c.args.rows.now) (ups c.args.words.now c.args.rows.now) (picks c.args.words.now c.args.rows.now) (ranks c.args.words.now c.args.rows.now) (firsts c.args.rows.now) c.args.u c.requires.3 _ _ _ _ _ c.if-kind-eq1.true c.bound_at.ensures c.in-None.is c.copy.ensures, same)

pub copy-requires-2 : goal.copy-requires-2
copy-requires-2 c = omega (arith, c.requires.1)

pub returns : goal.returns
returns c = (plain c.args.words.now (ends c.args.words.now c.args.rows.now) (ups c.args.words.now c.args.rows.now) (picks c.args.words.now c.args.rows.now) (ranks c.args.words.now c.args.rows.now) (firsts c.args.rows.now) c.args.u c.requires.3 _ _ _ _ c.if-kind-eq1.false c.copy-2.ensures, same)
