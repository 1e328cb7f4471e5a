-- What stands in the words behind a formula and a head that are matched.
use Prim.Native.Nat.{ℕ, ◌+◌, ◌-◌, ◌≤◌}
use native.Mathlib.Omega.{arith}
use mathlib.Core.Path.{◌≡◌, sym as inv, ap, ap₂, ◌∙◌, subst}
use mathlib.Core.List.{List, [], ◌∷◌, ◌++◌, map, map-append}
use lib.ListN.{length, take, drop, length-drop}
use lib.Seq.{length-take-le, take-take}
use Rattle.terms.specs.Node.{Expr}
use Rattle.terms.specs.Subst.{MostGeneral}
use Rattle.terms.specs.Rename.{rename}
use Rattle.search.specs.Next.{Clause, Goal}
use Rattle.words.specs.Word.{node, nodes, Fit, Fits}
use Rattle.words.specs.Flat.{flat}
use Rattle.words.specs.Held.{GoalIn, ClauseIn}
use Rattle.words.specs.WordLaws.{each_append, each-drop, each_take, fits_more}
use Rattle.words.specs.HeldLaws.{behind-is, first-length, formula_in, headed, head-length, head_in}
use Rattle.positions.specs.Tables.{SolvedIn, solution_in}
use Rattle.picking.specs.Laying.{moved}
use Rattle.picking.specs.Picking.{Matched}
use Rattle.picking.proofs.Appends.{nodes-moved, fits_moved}
use Rattle.picking.proofs.Problems.{goal_name, clause_name, sides, problem-fits}
use Rattle.applying.specs.declared.Cut.{Cut}
use Rattle.applying.specs.Applying.{Built, Stage}
use Rattle.applying.proofs.Builds.{problem-kept, goal-behind, answer-behind, all_of}

module _ (row clause : List ℕ) (cut : Cut) (f : Expr) (g a : Goal) (c : Clause) (s : Stage row clause cut f g a c) where
  abbrev m : ℕ
  m = cut.first

  abbrev k : ℕ
  k = cut.head

  abbrev goal : List ℕ
  goal = take cut.goal row

  abbrev held : GoalIn goal s.formulas (f ∷ g)
  held = s.row_in.goal

  goal-length : cut.goal ≡ m + length (flat g)
  goal-length = inv (length-take-le cut.goal row s.row_in.within) ∙ first-length goal s.formulas f g held m s.first

  clause-length : length clause ≡ k + length (flat c.body)
  clause-length = head-length clause k s.body c s.clause_in

  pub first-within : m ≤ cut.goal
  first-within = omega (arith, goal-length)

  pub head-within : k ≤ length clause
  head-within = omega (arith, clause-length)

  pub goal-within : cut.goal ≤ length row
  goal-within = s.row_in.within

  pub goal-small : cut.goal ≤ 4096
  goal-small = omega (arith, held.size, length-take-le cut.goal row goal-within)

  pub row_small : length row ≤ 8192
  row_small = omega (arith, goal-small, s.row_in.answer.size, length-drop cut.goal row)

  pub clause-small : length clause ≤ 256
  clause-small = s.clause_in.size

  -- the goal's first formula is the row's
  first-words : take m goal ≡ take m row
  first-words = take-take m cut.goal row first-within

  formula : GoalIn (take m goal) 1 (f ∷ [])
  formula = formula_in goal s.formulas f g held m s.first

  head : ClauseIn (take k clause) k 0 (headed c)
  head = head_in clause k s.body c s.clause_in

  module _ (words rows : List ℕ) (lw : length words ≡ 8448) (matched : Matched (take m row) (take k clause) words rows) (z : List ℕ) (r : ℕ) (lz : length z ≡ 8448) (b : Built words row m clause k z r) where
    pub inside : r ≤ 8448
    inside = omega (arith, b.end, row_small, clause-small)

    trial : Matched (take m goal) (take k clause) words rows
    trial = subst (λ w. Matched w (take k clause) words rows) (inv first-words) matched

    size_is : trial.size ≡ m + k
    size_is = trial.pair.end ∙ ap₂ ◌+◌ (length-take-le m goal (omega (arith, first-within, length-take-le cut.goal row goal-within))) (length-take-le k clause head-within)

    short : m + k ≤ length words
    short = omega (arith, first-within, goal-small, head-within, clause-small)

    -- the trial is where it was
    kept : take trial.size words ≡ take (m + k) z
    kept = ap (λ n. take n words) size_is ∙ inv (problem-kept words row m cut.goal clause k z r b first-within goal-within head-within short (omega (arith, inside)))

    pub all_fit : Fits 8256 (take r z)
    all_fit = all_of words row m cut.goal clause k z r b first-within goal-within head-within short (omega (arith, inside)) (Fit 8256)
        (fits_more 4160 8256 (take (m + k) words) (omega arith) (subst (λ n. Fits 4160 (take n words)) size_is (problem-fits (take m goal) (take k clause) k f c formula head words trial.size trial.pair)))
        (each_append (Fit 8256) (map (moved 0) (drop k clause)) (map (moved 64) (drop m goal))
        (fits_more 64 8256 (map (moved 0) (drop k clause)) (omega arith) (fits_moved 0 64 (omega arith) (drop k clause) (each-drop (Fit 64) k clause s.clause_in.fit)))
        (fits_more 4160 8256 (map (moved 64) (drop m goal)) (omega arith) (fits_moved 64 4096 (omega arith) (drop m goal) (each-drop (Fit 4096) m goal held.fit))))
        (fits_moved 64 8192 (omega arith) (drop cut.goal row) s.row_in.answer.fit)

    pub solved-here : SolvedIn (take (m + k) z) rows
    solved-here = subst (λ w. SolvedIn w rows) kept trial.solved

    pub general-here : MostGeneral (solution_in (take (m + k) z) rows) (rename goal_name f) (rename clause_name c.head)
    general-here =
        subst (λ w. MostGeneral (solution_in w rows) (rename goal_name f) (rename clause_name c.head)) kept
        (trial.general _ _ (sides (take m goal) (take k clause) k f c formula head words trial.size trial.pair))

    module _ (e : ℕ) (is : e ≡ cut.goal + length clause) where
      -- behind the problem stand the body and the rest of the goal
      pub goal-source : nodes (take (e - (m + k)) (drop (m + k) z)) ≡ rename clause_name (flat c.body) ++ rename goal_name (flat g)
      goal-source =
          ap nodes (goal-behind words row m cut.goal clause k z r b first-within goal-within head-within short (omega (arith, inside)) e is) ∙ map-append node (map (moved 0) (drop k clause)) (map (moved 64) (drop m goal))
          ∙ ap₂ ◌++◌ (nodes-moved 0 64 (omega arith) (drop k clause) (each-drop (Fit 64) k clause s.clause_in.fit) ∙ ap (rename clause_name) (behind-is clause c.head c.body s.clause_in.is k s.clause_in.head))
          (nodes-moved 64 4096 (omega arith) (drop m goal) (each-drop (Fit 4096) m goal held.fit) ∙ ap (rename goal_name) (behind-is goal f g held.is m s.first))

      -- and behind those the answer
      pub answer-source : nodes (take (r - e) (drop e z)) ≡ rename goal_name (flat a)
      answer-source =
          ap nodes (answer-behind words row m cut.goal clause k z r b first-within goal-within head-within short (omega (arith, inside)) e is)
          ∙ nodes-moved 64 8192 (omega arith) (drop cut.goal row) s.row_in.answer.fit ∙ ap (rename goal_name) s.row_in.answer.is

      -- where they are, and what is written of them
      pub places : (m + k ≤ e) × (m + k ≤ e) × (e ≤ 8448)
      places = (omega (arith, first-within, head-within), omega (arith, first-within, head-within), omega (arith, goal-small, clause-small))

      pub answer-places : (m + k ≤ r) × (e ≤ r) × (r ≤ 8448)
      answer-places = (omega (arith, first-within, head-within, b.end, goal-within), omega (arith, b.end, goal-within), inside)

      pub goal_fit : Fits 8256 (take e z)
      goal_fit = subst (Fits 8256) (take-take e r z answer-places.1) (each_take (Fit 8256) e (take r z) all_fit)
