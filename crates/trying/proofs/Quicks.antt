-- What follows by a clause whose trial the heap holds, in the words of the step.
use Prim.Native.Nat.{ℕ, suc, ◌+◌, ◌-◌, ◌<◌, ◌≤◌}
use native.Mathlib.Omega.{arith}
use mathlib.Core.Path.{◌≡◌, refl, sym as inv, ap, ◌∙◌, subst}
use mathlib.Core.List.{List}
use lib.ListN.{length, get_or, take, drop, length-drop}
use lib.Seq.{length-take-le}
use Rattle.terms.specs.Node.{Expr}
use Rattle.terms.specs.Subst.{Subst, MostGeneral}
use Rattle.search.specs.Next.{Book, Goal, clause_at}
use Rattle.terms.specs.RowLaws.{row-long}
use Rattle.words.specs.HeldLaws.{head-length}
use Rattle.words.specs.Held.{ClauseIn, starts, heads, bodies}
use Rattle.heap.specs.Heap.{rows, Made, Solved}
use Rattle.resolve.specs.Advancing.{Follows}
use Rattle.resolve.specs.declared.Move.TheVariants.{Full}
use Rattle.trials.specs.Trying.{clause_words, laid}
use Rattle.trying.specs.Carrying.{Placed, Carried}
use Rattle.trying.specs.Stepping.{parts, concluded, IsSetUp, Quickly}
use Rattle.trying.specs.declared.carrying.Parts.{Parts}
use Rattle.trying.specs.declared.carrying.Next.{Next}
use Rattle.trying.specs.declared.stepping.Shape.{Shape}
use Rattle.trials.proofs.Heaps.{flat_rows}
use Rattle.trying.proofs.Steps.{placed, ends-many, ends-full, ends-over, ends-done}

module _ {book shelf words cells tables : List ℕ} {x : Shape} {i count : ℕ} {P : Book} {f : Expr} {g a : Goal} (s : IsSetUp book shelf words cells tables x i count P f g a) where
  abbrev row : List ℕ
  row = take x.row words

  abbrev clause : List ℕ
  clause = clause_words book shelf (length P) i

  abbrev from : ℕ
  from = get_or (starts (length P) shelf) i 0

  abbrev to : ℕ
  to = get_or (starts (length P) shelf) (suc i) 0

  abbrev head : ℕ
  head = get_or (heads (length P) shelf) i 0 - from

  abbrev many : ℕ
  many = get_or (bodies (length P) shelf) i 0

  held : ClauseIn clause head many (clause_at P i)
  held = (s.on.held.placed i s.inside).clause

  clause-long : length clause ≡ to - from
  clause-long =
      let d = s.on.held.placed i s.inside in
      length-take-le (to - from) (drop from book) (omega (arith, length-drop from book, d.within))

  pub row_fits : x.row ≤ 8192
  row_fits = let p = s.shaped.row in omega (arith, s.shaped.long, p.goal.size, p.answer.size, length-take-le x.goal row p.within, length-drop x.goal row)

  pub some-formulas : 0 < x.formulas
  some-formulas = omega (arith, s.shaped.row.goal.count)

  pub parts-small : (p : Parts) → p ≡ parts shelf x (length P) i → p.bodies + p.others ≤ 1024
  parts-small p e =
      omega (arith, ap (λ y. y.bodies) e, ap (λ y. y.others) e, s.shaped.row.goal.few, body-few)
    where
      body-few : many ≤ 256
      body-few = omega (arith, held.body, held.size, body-long)
        where
          body-long : length (clause_at P i).body ≤ length clause
          body-long = omega (arith, row-long (flat_rows (clause_at P i).body held.formulas.1), head-length clause head many (clause_at P i) held)

  module _ (r : ℕ) (end : r ≡ x.row + (get_or (starts (length P) shelf) (i + 1) 0 - from)) where
    is-end : r ≡ x.row + length clause
    is-end = let next : i + 1 ≡ suc i = omega arith in end ∙ ap (λ j. x.row + (get_or (starts (length P) shelf) j 0 - from)) next ∙ ap (λ j. x.row + j) (inv clause-long)

    pub end-small : r ≤ 8448
    end-small = omega (arith, is-end, row_fits, held.size)

    abbrev lent : List ℕ
    lent = take (r - 0) (drop 0 words)

    lent_is : lent ≡ laid row clause
    lent_is = let z : r - 0 ≡ x.row + length clause = omega (arith, is-end) in ap (λ j. take j words) z ∙ s.trial.front

    pub lent-made : Made lent cells
    lent-made = subst (λ h. Made h cells) (inv lent_is) s.trial.fitted.made

    pub lent-solved : Solved lent cells s.trial.fitted.unifier
    lent-solved = subst (λ h. Solved h cells s.trial.fitted.unifier) (inv lent_is) s.trial.fitted.solved

  module _ (p : Parts) (e : p ≡ parts shelf x (length P) i) where
    at_body : p.body ≡ length row + head
    at_body = omega (arith, ap (λ y. y.body) e, s.shaped.long)

    others : p.others ≡ length g
    others = omega (arith, ap (λ y. y.others) e, s.shaped.row.goal.count)

    at_rest : p.rest ≡ length f
    at_rest = ap (λ y. y.rest) e ∙ s.shaped.first

    answers : p.answers ≡ length a
    answers = ap (λ y. y.answers) e ∙ s.shaped.answers

    abbrev θ : Subst
    θ = s.trial.fitted.unifier

    general : MostGeneral θ (rows (laid row clause) 1 0) (rows (laid row clause) 1 (length row))
    general = subst (λ j. MostGeneral θ (rows (laid row clause) 1 0) (rows (laid row clause) 1 j)) (inv s.shaped.long) s.trial.fitted.general

    here-placed : Placed (laid row clause) p
    here-placed = placed row clause x.goal x.formulas head many f g a (clause_at P i) s.shaped.row held p at_body (ap (λ y. y.bodies) e) at_rest others (ap (λ y. y.answer) e) answers

    pub quick_many : (out : List ℕ) → 512 < p.bodies + p.others → Follows P i f g a out Full
    quick_many out l = ends-many row clause x.goal x.formulas head many f g a (clause_at P i) s.shaped.row held p at_body (ap (λ y. y.bodies) e) at_rest others (ap (λ y. y.answer) e) answers θ general l

    module _ (r : ℕ) (end : r ≡ x.row + (get_or (starts (length P) shelf) (i + 1) 0 - from)) where
      pub lent_placed : Placed (lent r end) p
      lent_placed = subst (λ h. Placed h p) (inv (lent_is r end)) here-placed

      pub quickly : (few : p.bodies + p.others ≤ 512) (out : List ℕ) → length out ≡ 8192 → (v : Next) → ((τ : Subst) → Solved (lent r end) cells τ → Carried (lent r end) p τ out v)
          → Quickly P i f g a out (concluded v i (p.bodies + p.others))
      quickly few out lo v y = go v (subst (λ h. Carried h p θ out v) (lent_is r end) (y θ (lent-solved r end)))
        where
          go : (v : Next) → Carried (laid row clause) p θ out v → Quickly P i f g a out (concluded v i (p.bodies + p.others))
          go Next.Tired z = tt
          go Next.Full z = ends-full row clause x.goal x.formulas head many f g a (clause_at P i) s.shaped.row held p at_body (ap (λ y. y.bodies) e) at_rest others (ap (λ y. y.answer) e) answers θ general z
          go Next.Over z = ends-over row clause x.goal x.formulas head many f g a (clause_at P i) s.shaped.row held p at_body (ap (λ y. y.bodies) e) at_rest others (ap (λ y. y.answer) e) answers θ general few z
          go (Next.Done m n) z = (refl, ends-done row clause x.goal x.formulas head many f g a (clause_at P i) s.shaped.row held p at_body (ap (λ y. y.bodies) e) at_rest others (ap (λ y. y.answer) e) answers θ general few out lo m n z)
