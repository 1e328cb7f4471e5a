use Prim.Native.Nat.{ℕ, ◌+◌, ◌<◌, ◌≤◌}
use native.Mathlib.Omega.{arith}
use mathlib.Core.Path.{◌≡◌, refl, sym, ap, ◌∙◌}
use mathlib.Core.List.{List, [], ◌∷◌}
use mathlib.Core.Logic.{◌⊎◌, inl, inr, ⊎_elim}
use lib.ListN.{length, get_or, drop}
use mathlib.Core.List.{◌++◌, map-append}
use lib.ListN.{take, take-append-drop}
use lib.Seq.{take_all}
use Rattle.terms.specs.Subst.{apply}
use Rattle.terms.specs.SubstLaws.{apply-append}
use Rattle.words.specs.Word.{node, nodes}
use Rattle.positions.specs.Solving.{solution}
use Rattle.positions.specs.Writing.{Of, Written}
use Rattle.unifier.proofs.Applied.{widened, then-written, full-more, apply-take}
use Rattle.words.specs.Columns.{Only, same, after, ROWS, END, UP, PICK, RANK, FIRST, STACK}
use Rattle.positions.specs.Tables.{ends, ups, picks, ranks, firsts, SolvedIn, solution_in}
use borrow.Author.Rules.{rules}
use Rattle.unifier.proofs.instantiate.Invariants.{Some, Held}
use Rattle.unifier.proofs.instantiate.Goals as goal

module _ (w e up pick rank first : List ℕ) (src out₀ : List ℕ) where
  within : (out : List ℕ) (i at : ℕ) → Held w e up pick rank first src out₀ out i at → at ≤ length out
  within out i at h = omega (arith, h.3.within h.2, h.1)

  module _ (out : List ℕ) (i at u : ℕ) (h : Held w e up pick rank first src out₀ out i at) (l : i < length src) (eu : u ≡ get_or src i 0) (z : List ℕ) (r : ℕ)
      (p : Written (λ x. Of w x ⊎ (x ≡ u)) out at (apply (solution w e up pick rank first) (node u ∷ [])) z r) where
    next : Written (Some w src) out₀ 0 (apply (solution w e up pick rank first) (nodes (take (i + 1) src))) z r
    next =
        rw (apply-take w e up pick rank first src i l)
        (then-written (Some w src) out₀ 0 (apply (solution w e up pick rank first) (nodes (take i src))) out at (apply (solution w e up pick rank first) (node (get_or src i 0) ∷ [])) z r
        (omega arith) h.1 h.2 h.3
        (rw (← eu) (widened (λ x. Of w x ⊎ (x ≡ u)) (Some w src) (λ x. ⊎_elim inl (λ o. inr (i, l, sym eu ∙ sym o))) out at (apply (solution w e up pick rank first) (node u ∷ [])) z r p)))

    stop : r ≡ 65535 → Written (Some w src) out₀ 0 (apply (solution w e up pick rank first) (nodes src)) z 65535
    stop y =
        let whole : apply (solution w e up pick rank first) (nodes (take (i + 1) src)) ++ apply (solution w e up pick rank first) (nodes (drop (i + 1) src)) ≡ apply (solution w e up pick rank first) (nodes src) =
        sym (apply-append (solution w e up pick rank first) (nodes (take (i + 1) src)) (nodes (drop (i + 1) src)))
        ∙ ap (apply (solution w e up pick rank first)) (sym (map-append node (take (i + 1) src) (drop (i + 1) src)) ∙ ap nodes (take-append-drop (i + 1) src)) in
        let t : Written (Some w src) out₀ 0 (apply (solution w e up pick rank first) (nodes (take (i + 1) src))) z 65535 = rw y at next in
        rw whole at (full-more (Some w src) out₀ 0 (apply (solution w e up pick rank first) (nodes (take (i + 1) src))) (apply (solution w e up pick rank first) (nodes (drop (i + 1) src))) z z t)

    turn : length z ≡ length out → (r ≡ 65535 → ⊥) → Held w e up pick rank first src out₀ z (i + 1) r
    turn lz n = (omega arith, lz ∙ h.1, n, next)

  begin : Held w e up pick rank first src out₀ out₀ 0 0
  begin = (omega arith, refl, (λ z. omega (arith, z)), record { full = λ z. absurd (omega (arith, z)); within = λ z. omega arith; done = λ z. refl; kept = λ z x l. absurd (omega arith); from = λ z x l m. absurd (omega arith) })

  finish : (out : List ℕ) (i at : ℕ) → Held w e up pick rank first src out₀ out i at → length src ≤ i → Written (Some w src) out₀ 0 (apply (solution w e up pick rank first) (nodes src)) out at
  finish out i at h l = rw (take_all i src l) at h.3

module _ (w rows z : List ℕ) (o : Only (STACK ∷ []) rows z) where
  solved-in : SolvedIn w rows → SolvedIn w z
  solved-in s = rw (o.kept END (length w) refl, o.kept UP (length w) refl, o.kept PICK (length w) refl, o.kept RANK (length w) refl) s

  emitted : (S : ℕ → Type 0) (out : List ℕ) (at u : ℕ) (y : List ℕ) (r : ℕ) → Written S out at (apply (solution_in w z) (node u ∷ [])) y r → Written S out at (apply (solution_in w rows) (node u ∷ [])) y r
  emitted S out at u y r h = rw (o.kept END (length w) refl, o.kept UP (length w) refl, o.kept PICK (length w) refl, o.kept RANK (length w) refl, o.kept FIRST ROWS refl) at h

pub loop-u-init : goal.loop-u-init
loop-u-init c = (begin c.args.words.now (ends c.args.words.now c.args.rows.now) (ups c.args.words.now c.args.rows.now) (picks c.args.words.now c.args.rows.now) (ranks c.args.words.now c.args.rows.now) (firsts c.args.rows.now) c.args.src.now c.args.out.now, search rules, same)

pub emit-at-requires : goal.emit-at-requires
emit-at-requires c = (solved-in _ _ _ c.loop-u.invariant.2 c.requires.0, omega (arith, c.requires.1, c.loop-u.invariant.0.1), within c.args.words.now (ends c.args.words.now c.args.rows.now) (ups c.args.words.now c.args.rows.now) (picks c.args.words.now c.args.rows.now) (ranks c.args.words.now c.args.rows.now) (firsts c.args.rows.now) c.args.src.now c.args.out.now _ _ _ c.loop-u.invariant.0, c.requires.2 c.loop-u.u-index c.loop-u-test.true)

pub returns-then-at-eq-CLASH : goal.returns-then-at-eq-CLASH
returns-then-at-eq-CLASH c = (stop c.args.words.now (ends c.args.words.now c.args.rows.now) (ups c.args.words.now c.args.rows.now) (picks c.args.words.now c.args.rows.now) (ranks c.args.words.now c.args.rows.now) (firsts c.args.rows.now) c.args.src.now c.args.out.now _ _ _ _ c.loop-u.invariant.0 c.loop-u-test.true refl _ _ (emitted c.args.words.now _ _ c.loop-u.invariant.2 _ _ _ _ _ _ c.emit-at.ensures.0) c.if-at-eq-CLASH.true, after c.loop-u.invariant.2 c.emit-at.ensures.1)

pub loop-u-preserved : goal.loop-u-preserved
loop-u-preserved c = (turn c.args.words.now (ends c.args.words.now c.args.rows.now) (ups c.args.words.now c.args.rows.now) (picks c.args.words.now c.args.rows.now) (ranks c.args.words.now c.args.rows.now) (firsts c.args.rows.now) c.args.src.now c.args.out.now _ _ _ _ c.loop-u.invariant.0 c.loop-u-test.true refl _ _ (emitted c.args.words.now _ _ c.loop-u.invariant.2 _ _ _ _ _ _ c.emit-at.ensures.0) c.emit-at.auto.out c.if-at-eq-CLASH.false, search rules, after c.loop-u.invariant.2 c.emit-at.ensures.1)

pub returns : goal.returns
returns c = (finish c.args.words.now (ends c.args.words.now c.args.rows.now) (ups c.args.words.now c.args.rows.now) (picks c.args.words.now c.args.rows.now) (ranks c.args.words.now c.args.rows.now) (firsts c.args.rows.now) c.args.src.now c.args.out.now _ _ _ c.loop-u.invariant.0 c.loop-u-test.false, c.loop-u.invariant.2)
