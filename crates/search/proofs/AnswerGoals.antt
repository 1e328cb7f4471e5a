-- The goal with its answer behind it: what every goal of a path holds they hold together, and the two are numbered as one, the goal first.
use Rattle.std.specs.Prelude.{ℕ, ◌≡◌, refl, List, [], ◌∷◌, ◌++◌, map, length, take, drop}
use Rattle.std.proofs.Common.{sym as inv, ap, ap₂, ◌∙◌, take_at, drop_at}
use Rattle.std.proofs.Math.Option.{some}
use Rattle.std.proofs.lemmas.List.{map-append, length-map}
use Rattle.terms.specs.Node.{Expr}
use Rattle.terms.specs.Row.{Row, Every, Formulas}
use Rattle.terms.specs.RowLaws.{every_append}
use Rattle.terms.specs.Rename.{rename}
use Rattle.terms.specs.Number.{seen_all, number_all, Numbered}
use Rattle.terms.proofs.NumberLaws.{number-all-append, number-all-length}
use Rattle.terms.proofs.VariantLaws.{numbering}
use Rattle.search.specs.Next.{Book, Goal, Clauses}
use Rattle.search.specs.Step.{next_goal}
use Rattle.search.specs.Run.{goal_at}
use Rattle.search.proofs.PathLaws.{path-holds, path-formulas, path-numbered}
use Rattle.search.specs.Answer.{answer_at}
use Rattle.search.proofs.AnswerLaws.{answer-whole}

-- equal lists with beginnings of one length
pub split-alike : (a b c d : Goal) → a ++ b ≡ c ++ d → length a ≡ length c → (a ≡ c) × (b ≡ d)
split-alike a b c d e l =
    (inv (take_at a b (length c) l) ∙ ap (take (length c)) e ∙ take_at c d (length c) refl, inv (drop_at a b (length c) l) ∙ ap (drop (length c)) e ∙ drop_at c d (length c) refl)

pub every-split : (Q : Expr → Type 0) (g h : List Expr) → Every Q (g ++ h) → Every Q g × Every Q h
every-split Q [] h p = (tt, p)
every-split Q (f ∷ g) h p = let r = every-split Q g h p.1 in ((p.0, r.0), r.1)

-- a numbered goal before itself is numbered
pub twice_numbered : (q : Goal) → Numbered q → Numbered (q ++ q)
twice_numbered q n =
    let (ρ, inj, e) = numbering (q ++ q) in
    let both : number_all [] (q ++ q) ≡ map (rename ρ) q ++ map (rename ρ) q = e ∙ map-append (rename ρ) q q in
    let front = (split-alike (map (rename ρ) q) (map (rename ρ) q) (number_all [] q) (number_all (seen_all [] q) q) (inv both ∙ number-all-append [] q q)
    (length-map q (rename ρ) ∙ inv (number-all-length [] q))).0 in
    both ∙ ap₂ ◌++◌ (front ∙ n) (front ∙ n)

module _ (P : Book) (q : Goal) where
  -- what the query before itself holds, and each next goal, the goal holds with the answer behind it
  pub both-holds : (H : Goal → Type 0) → ((g h : Goal) → H g → next_goal P g ≡ some h → H h) → H (q ++ q) → (t : ℕ) (g : Goal) → goal_at P q t ≡ some g → H (g ++ answer_at P q t)
  both-holds H keeps start t g e = path-holds H P keeps (q ++ q) start t (g ++ answer_at P q t) (answer-whole P q t g e).0

  -- so each formula of the answer does as each of the goal
  pub answer-every : (Q : Expr → Type 0) → ((g h : Goal) → Every Q g → next_goal P g ≡ some h → Every Q h) → Every Q q → (t : ℕ) (g : Goal) → goal_at P q t ≡ some g → Every Q (answer_at P q t)
  answer-every Q keeps start t g e = (every-split Q g (answer_at P q t) (both-holds (Every Q) keeps (every_append Q q q start start) t g e)).1

  -- "Goal variables keep their numbers; variables found only in the answer come after them by first appearance"
  pub both-numbered : Numbered q → (t : ℕ) (g : Goal) → goal_at P q t ≡ some g → Numbered (g ++ answer_at P q t)
  both-numbered n t g e = path-numbered P (q ++ q) (twice_numbered q n) t (g ++ answer_at P q t) (answer-whole P q t g e).0

  -- both are of formulas
  pub both-formulas : Clauses P → Formulas q → (t : ℕ) (g : Goal) → goal_at P q t ≡ some g → Formulas (g ++ answer_at P q t)
  both-formulas good formulas t g e = path-formulas P good (q ++ q) (every_append (Row 1) q q formulas formulas) t (g ++ answer_at P q t) (answer-whole P q t g e).0
