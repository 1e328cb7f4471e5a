-- For numbered goals, cyclic in document 01's words is cyclic for the theory of loops.
use Rattle.std.specs.Prelude.{ℕ, refl, ◌↔◌, [], ◌∷◌, ◌++◌}
use Rattle.std.proofs.Common.{sym as inv, ap, ◌∙◌, subst}
use Rattle.std.proofs.Math.Option.{some}
use Rattle.terms.specs.Node.{Expr}
use Rattle.terms.specs.Number.{Numbered}
use Rattle.terms.proofs.NumberLaws.{numbered-beginning}
use Rattle.terms.proofs.VariantLaws.{variants_iff, variant_iff}
use Rattle.loops.specs.Cyclic as Loops
use Rattle.search.specs.Next.{Book, Goal}
use Rattle.search.specs.Step.{next_goal}
use Rattle.search.specs.Cycle.{CyclicFormula, Cyclic}
use Rattle.search.proofs.PathLaws.{path-numbered, numbered_goals, numbered-leftmost}

module _ (P : Book) where
  pub formula_iff : (f : Expr) (g : Goal) → Numbered (f ∷ g) → (r : ℕ) → CyclicFormula P f r ↔ Loops.CyclicFormula (next_goal P) f r
  formula_iff f g n r = (to, λ c. record { period = c.0; back = f; rest = c.1; reached = c.2; same = (variant_iff f f).0 refl })
    where
      alone : Numbered (f ∷ [])
      alone = numbered-beginning (f ∷ []) g n

      to : CyclicFormula P f r → Loops.CyclicFormula (next_goal P) f r
      to c =
          let same = (numbered-leftmost f c.back [] c.rest alone (path-numbered P (f ∷ []) alone r (c.back ∷ c.rest) c.reached)).1 c.same in
          (c.period, c.rest, c.reached ∙ ap (λ b. some (b ∷ c.rest)) (inv same))

  pub cyclic_iff : (g : Goal) → Numbered g → (r : ℕ) → Cyclic P g r ↔ Loops.Cyclic (next_goal P) g r
  cyclic_iff g n r = (to, from)
    where
      to : Cyclic P g r → Loops.Cyclic (next_goal P) g r
      to c =
          let b = c.first ∷ c.others in
          let m = numbered-beginning b c.behind (subst Numbered c.split n) in
          let m' = numbered-beginning c.back c.rest (path-numbered P b m r (c.back ++ c.rest) c.reached) in
          let same = (numbered_goals b c.back m m').1 c.same in
          (c.first, c.others, c.behind, c.split, (c.period, c.rest, c.reached ∙ ap (λ b. some (b ++ c.rest)) (inv same)))

      from : Loops.Cyclic (next_goal P) g r → Cyclic P g r
      from c =
          let b = c.0 ∷ c.1 in
          let s = c.4 in
          record { period = s.0; first = c.0; others = c.1; behind = c.2; split = c.3; back = b; rest = s.1; reached = s.2; same = (variants_iff b b).0 refl }
