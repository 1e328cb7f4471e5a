-- One clause applied: the next goal and answer do not fit, or are held.
use Prim.Native.Nat.{ℕ, ◌+◌, ◌-◌, ◌≤◌, ◌<◌}
use native.Mathlib.Omega.{arith}
use mathlib.Core.Path.{◌≡◌, refl, sym as inv, ◌∙◌, subst}
use mathlib.Core.Bool.{true}
use mathlib.Core.List.{List, [], ◌∷◌, ◌++◌}
use lib.ListN.{length, take, drop}
use Rattle.terms.specs.Node.{Expr}
use Rattle.terms.specs.Subst.{Subst, apply, MostGeneral}
use Rattle.terms.specs.Rename.{rename, Apart}
use Rattle.search.specs.Next.{Clause, Goal}
use Rattle.search.specs.Room.{fits}
use Rattle.words.specs.Word.{nodes}
use Rattle.words.specs.Columns.{Only, STACK}
use Rattle.positions.specs.Tables.{solution_in}
use Rattle.numbering.specs.Naming.{Fitting, Numbering}
use Rattle.picking.specs.Picking.{Matched}
use Rattle.picking.proofs.Problems.{goal_name, clause_name, names_apart}
use Rattle.applying.specs.declared.Cut.{Cut}
use Rattle.applying.specs.declared.Sizes.{Sizes}
use Rattle.applying.specs.Applying.{Built, Wrote, Stage, Onward, Applied, too_big, sizes}
use Rattle.applying.proofs.Lending.{solution_still}
use Rattle.applying.proofs.Rooms.{fits-not-wide, fits-not-long, fits_both, small-not, small_is}
use Rattle.applying.proofs.Nexts.{general-here, goal-source, answer-source}
use Rattle.applying.proofs.Onwards.{h, b, onward, goal_image, answer_image, goal-flat, answer-flat, goal-size, answer-size, goal-count, goal-formulas, answer-formulas, goal-atoms, answer-atoms}
use Rattle.applying.proofs.Fills.{wrote-length, both-within, fill-ready, row-held}

module _ (row clause : List ℕ) (cut : Cut) (words rows : List ℕ) (lw : length words ≡ 8448) (matched : Matched (take cut.first row) (take cut.head clause) words rows) (z : List ℕ) (n : ℕ) (lz : length z ≡ 8448)
    (built : Built words row cut.first clause cut.head z n) (e : ℕ) (is : e ≡ cut.goal + length clause) (out y : List ℕ) (r : ℕ) (lo : length out ≡ 8192) (ly : length y ≡ length out)
    (goal-written : Wrote 8256 out 0 (apply (solution_in (take (cut.first + cut.head) z) rows) (nodes (take (e - (cut.first + cut.head)) (drop (cut.first + cut.head) z)))) y r) where
  abbrev σ : Subst
  σ = solution_in (take (cut.first + cut.head) z) rows

  module _ (f : Expr) (g a : Goal) (c : Clause) (s : Stage row clause cut f g a c) where
    general : MostGeneral σ (rename goal_name f) (rename clause_name c.head)
    general = general-here row clause cut f g a c s words rows lw matched z n lz built

    near : Apart goal_name clause_name (f ∷ g) (c.head ∷ c.body)
    near = names_apart clause cut.head s.body c s.clause_in (f ∷ g)

    far : Apart goal_name clause_name (f ∷ (g ++ a)) (c.head ∷ c.body)
    far = names_apart clause cut.head s.body c s.clause_in (f ∷ (g ++ a))

    abbrev next : Goal
    next = h goal_name clause_name f g a c near far σ general

    abbrev next_answer : Goal
    next_answer = b goal_name clause_name f g a c near far σ general

    goes : Onward f g a c next next_answer
    goes = onward goal_name clause_name f g a c near far σ general

    abbrev t : Expr
    t = goal_image goal_name clause_name f g a c near far σ general

    abbrev u : Expr
    u = answer_image goal_name clause_name f g a c near far σ general

    first : Wrote 8256 out 0 t y r
    first = subst (λ x. Wrote 8256 out 0 (apply σ x) y r) (goal-source row clause cut f g a c s words rows lw matched z n lz built e is) goal-written

    count : cut.formulas ≡ length next
    count = s.next ∙ inv (goal-count goal_name clause_name f g a c near far σ general)

    pub few-written : (r ≡ 65535 → ⊥) → r ≤ 4096
    few-written nr = first.within nr

    pub ends-full : (x : List ℕ) (v : Sizes) → v ≡ too_big → r ≡ 65535 → Applied f g a c cut.formulas x v
    ends-full x v said full = subst (Applied f g a c cut.formulas x) (inv said) (record {
      full = λ q. (next, goes.goal, fits-not-long next (omega (arith, goal-size goal_name clause_name f g a c near far σ general, first.full full)));
      over = λ p. absurd (p refl);
      done = λ p. absurd (p refl);
    })

    pub ends-many : (x : List ℕ) (v : Sizes) → v ≡ too_big → 512 < cut.formulas → Applied f g a c cut.formulas x v
    ends-many x v said l =
        subst (Applied f g a c cut.formulas x) (inv said) (record { full = λ q. (next, goes.goal, fits-not-wide next (omega (arith, count))); over = λ p. absurd (p refl); done = λ p. absurd (p refl) })

    module _ (nr : r ≡ 65535 → ⊥) (few : cut.formulas ≤ 512) (rows' y' : List ℕ) (r' : ℕ) (ly' : length y' ≡ length y) (only : Only (STACK ∷ []) rows rows')
        (answer-written : Wrote 8256 y r (apply (solution_in (take (cut.first + cut.head) z) rows') (nodes (take (n - e) (drop e z)))) y' r') where
      second : Wrote 8256 y r u y' r'
      second =
          subst (λ x. Wrote 8256 y r (apply σ x) y' r') (answer-source row clause cut f g a c s words rows lw matched z n lz built e is)
          (subst (λ x. Wrote 8256 y r (apply x (nodes (take (n - e) (drop e z)))) y' r') (solution_still (take (cut.first + cut.head) z) rows rows' only) answer-written)

      fit : fits next ≡ true
      fit = fits_both next (omega (arith, count)) (omega (arith, goal-size goal_name clause_name f g a c near far σ general, wrote-length first (omega arith) (omega arith) nr, first.within nr))

      pub ends-over : (x : List ℕ) (v : Sizes) → v ≡ sizes r 65535 → r' ≡ 65535 → Applied f g a c cut.formulas x v
      ends-over x v said full = subst (Applied f g a c cut.formulas x) (inv said) (record {
        full = λ q. absurd (nr q);
        over = λ p q. (next, next_answer, goes, fit, small-not next_answer (omega (arith, answer-size goal_name clause_name f g a c near far σ general, second.full full)));
        done = λ p q. absurd (q refl);
      })

      module _ (nr' : r' ≡ 65535 → ⊥) where
        pub ready : (r + r' ≤ length y') × (r + r' ≤ 8256) × Fitting y' (r + r') 8256
        ready = fill-ready out y y' t u r r' first second nr nr' (omega arith) (omega arith)

        pub ends-done : (x : List ℕ) → length x ≡ length y' → Numbering y' (r + r') x → (v : Sizes) → v ≡ sizes r r' → Applied f g a c cut.formulas x v
        ends-done x lx g' v said = subst (Applied f g a c cut.formulas x) (inv said) (record {
          full = λ q. absurd (nr q);
          over = λ p q. absurd (nr' q);
          done = λ p q. (
            next,
            next_answer,
            goes,
            fit,
            small_is next_answer (omega (arith, answer-size goal_name clause_name f g a c near far σ general, wrote-length second (omega arith) (first.within nr) nr', second.within nr')),
            row-held out y y' t u r r' first second nr nr' (omega arith) (omega arith) x lx g' cut.formulas next next_answer count few (omega (arith, goes.as_many, s.row_in.answer.few))
                (goal-flat goal_name clause_name f g a c near far σ general)
                (answer-flat goal_name clause_name f g a c near far σ general)
                (goal-formulas goal_name clause_name f g a c near far σ general s.clause_in.formulas.1 s.row_in.goal.formulas.1) (goal-atoms goal_name clause_name f g a c near far σ general s.clause_in.atoms.1 s.row_in.goal.atoms.1)
                (answer-formulas goal_name clause_name f g a c near far σ general s.clause_in.formulas.1 s.row_in.goal.formulas.1 s.row_in.answer.formulas)
                (answer-atoms goal_name clause_name f g a c near far σ general s.clause_in.atoms.1 s.row_in.goal.atoms.1 s.row_in.answer.atoms),
            omega (arith, both-within out y y' t u r r' first second nr nr' (omega arith) (omega arith)),
          );
        })
