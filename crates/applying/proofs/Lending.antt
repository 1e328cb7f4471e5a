-- Storage lent for what is written under the solution.
use Prim.Native.Nat.{ℕ, ◌-◌, ◌≤◌, ◌<◌}
use native.Mathlib.Omega.{arith}
use mathlib.Core.Path.{◌≡◌, subst, sym as inv, ap, ◌∙◌, refl}
use mathlib.Core.Logic.{◌⊎◌}
use mathlib.Core.List.{List, [], ◌∷◌, ◌++◌}
use lib.ListN.{length, take, drop, length-drop}
use lib.Seq.{take-take, take-append-le, drop_at, length-take-le, get_or-take}
use borrow.Rule.Slice.PartMut.{put_mid, take_put}
use Rattle.terms.specs.Subst.{apply}
use Rattle.words.specs.Word.{nodes, Fit, Fits, Valids}
use Rattle.words.specs.WordLaws.{each_take, each-drop}
use Rattle.words.specs.Columns.{Only, ROWS, END, UP, PICK, RANK, FIRST, STACK}
use Rattle.positions.specs.Tables.{SolvedIn, solution_in}
use Rattle.positions.specs.Writing.{Of, Written}
use Rattle.positions.specs.WritingLaws.{written_all}
use Rattle.applying.specs.Applying.{Wrote}
use Rattle.applying.proofs.Builds.{drop-take}

-- what is written leaves the solution as it was
module _ (w rows z : List ℕ) (o : Only (STACK ∷ []) rows z) where
  pub solved_still : SolvedIn w rows → SolvedIn w z
  solved_still s = rw (o.kept END (length w) refl, o.kept UP (length w) refl, o.kept PICK (length w) refl, o.kept RANK (length w) refl) s

  pub solution_still : solution_in w z ≡ solution_in w rows
  solution_still = rw (o.kept END (length w) refl, o.kept UP (length w) refl, o.kept PICK (length w) refl, o.kept RANK (length w) refl, o.kept FIRST ROWS refl)

-- a part of `out` filled
module _ (out : List ℕ) (at k : ℕ) (part : List ℕ) (l : at ≤ length out) where
  pub part-front : take at (put_mid at k out part) ≡ take at out
  part-front = take_put at k out part l

  pub part-here : (r : ℕ) → r ≤ length part → take r (drop at (put_mid at k out part)) ≡ take r part
  part-here r h = ap (take r) (drop_at (take at out) (part ++ drop k (drop at out)) at (length-take-le at out l)) ∙ take-append-le r part (drop k (drop at out)) h

module _ (words rows out : List ℕ) (lw : length words ≡ 8448) (lo : length out ≡ 8192) (p from n at : ℕ) (h : p ≤ n) (g : from ≤ n) (l : n ≤ 8448) (room : at ≤ 4096) (fit : Fits 8256 (take n words)) where
  abbrev source : List ℕ
  source = take (n - from) (drop from words)

  source_fits : Fits 8256 source
  source_fits = subst (Fits 8256) (inv (drop-take from n words g (omega (arith, lw)))) (each-drop (Fit 8256) from (take n words) fit)

  front_fits : Fits 8256 (take p words)
  front_fits = subst (Fits 8256) (take-take p n words h) (each_take (Fit 8256) p (take n words) fit)

  pub lent : (q : ℕ) → q ≡ p → SolvedIn (take p words) rows → SolvedIn (take q words) rows × Valids source
  lent q e x = (subst (λ i. SolvedIn (take i words) rows) (inv e) x, λ x y. (source_fits x y).valid)

  pub part_length : (k : ℕ) → k ≡ 4096 → length (take k (drop at out)) ≡ 4096
  part_length k e = length-take-le k (drop at out) (omega (arith, length-drop at out, lo)) ∙ e

  pub returned : (q : ℕ) → q ≡ p → (k : ℕ) → k ≡ 4096 → (part : List ℕ) (r : ℕ) → length part ≡ length (take k (drop at out))
      → Written (λ u. Of (take q words) u ⊎ Of source u) (take k (drop at out)) 0 (apply (solution_in (take q words) rows) (nodes source)) part r
      → Wrote 8256 out at (apply (solution_in (take p words) rows) (nodes source)) (put_mid at k out part) r
  returned q e k ek part r lp w =
      let v = subst (λ i. Written (λ u. Of (take i words) u ⊎ Of source u) (take k (drop at out)) 0 (apply (solution_in (take i words) rows) (nodes source)) part r) e w in
      let la : at ≤ length out = omega (arith, lo) in
      let inside : (r ≡ 65535 → ⊥) → r ≤ length part = λ n₀. omega (arith, v.within n₀, lp) in
      record {
        full = λ y. omega (arith, v.full y, part_length k ek);
        within = λ n₀. omega (arith, v.within n₀, part_length k ek);
        kept = part-front out at k part la;
        done = λ n₀. ap nodes (part-here out at k part la r (inside n₀)) ∙ v.done n₀;
        fit = λ n₀. subst (Fits 8256) (inv (part-here out at k part la r (inside n₀)))
            (λ x y. let i : x < r = omega (arith, length-take-le r part (inside n₀)) in subst (Fit 8256) (inv (get_or-take r part x 0 i)) (written_all (take p words) source v n₀ (Fit 8256) front_fits source_fits x i));
      }
