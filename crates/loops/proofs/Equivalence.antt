-- Theorem 1 and Corollary 2 of document 001, from what a reported loop means and that every cyclic loop is reported.
use Rattle.std.specs.Prelude.{ℕ, ◌↔◌, refl, List, ◌∷◌}
use mathlib.Core.HLevel.{Discrete}
use Rattle.std.proofs.Math.Option.{Option}
use Rattle.loops.specs.Path.{Successor}
use Rattle.loops.specs.Cyclic.{PrimitiveCyclic, Cyclic, primitive-cyclic}
use Rattle.loops.specs.Detect.{Reported}
use Rattle.loops.proofs.Theorem.{Passes, reported-loop, complete}

module _ {F : Type 0} (dec : Discrete F) (next : List F → Option (List F)) (laws : Successor next) (q : List F) where
  -- (A) of Theorem 1: a loop is reported
  abbrev pub Reports : Type 0
  Reports = (t : ℕ) × (n : ℕ) × Reported dec next q t n

  -- from (A) to (C): Lemma 12
  pub reports→primitive : Reports → Passes next q (PrimitiveCyclic next)
  reports→primitive x = let k = reported-loop dec next laws q x.0 x.1 x.2 in (x.0, k.formula ∷ k.rest, x.1, k.here, (k.formula, k.rest, refl, k.cyclic))

  -- from (C) to (B)
  pub primitive→cyclic : Passes next q (PrimitiveCyclic next) → Passes next q (Cyclic next)
  primitive→cyclic x = (x.0, x.1, x.2, x.3, primitive-cyclic next x.1 x.2 x.4)

  -- from (B) to (A)
  pub cyclic→reports : Passes next q (Cyclic next) → Reports
  cyclic→reports x = let c = complete dec next laws q x.0 x.2 x.1 x.3 x.4 in (c.0, c.1, c.3)

  -- Theorem 1, and Corollary 2: a loop is reported, the path has a cyclic goal, and the path has a primitive cyclic goal, are the same
  pub theorem_1 : (Reports ↔ Passes next q (Cyclic next)) × (Passes next q (Cyclic next) ↔ Passes next q (PrimitiveCyclic next))
  theorem_1 = ((λ x. primitive→cyclic (reports→primitive x), cyclic→reports), (λ x. reports→primitive (cyclic→reports x), primitive→cyclic))
