-- Picks and apply calls by the books of document 01's cases (document 02, C-16): bytes in, the figures and the area out. By P8's book w(V) picks the clause number 0, and the clause
-- number 1 may be applied to it as well; the clause number 0 does not fit w(a), and there is no clause number 2. An empty goal is said before a clause that is not there.
use Rattle.std.specs.Prelude.{ℕ, ◌≡◌, refl, List, [], ◌∷◌, length}
use Rattle.std.proofs.Common.{arith, ap, ◌∙◌}
use Rattle.std.proofs.Math.Option.{Option, none, some}
use Rattle.search.specs.Room.{fits}
use Rattle.search.specs.Known.{alike?, known?, stuck_code}
use Rattle.search.specs.Furthest.{no_figures, furthest, figures}
use Rattle.search.specs.Pick.{pick, apply_by}
use Rattle.format.specs.Reading.{allowed, body_length, number_at, record_at, in_range, is_in_size, is_in_order, next_unused, after, judge_record, judge, whole, finish, walk, met_from, verdict, book_verdict, query_verdict}
use Rattle.format.specs.Arities.{meet, keeps}
use Rattle.format.specs.Decode.{book_of, goal_of}
use Rattle.outcomes.specs.declared.Picked.{Picked}
use Rattle.outcomes.specs.declared.Stepped.{Stepped}
use Rattle.outcomes.specs.declared.admit.Admitted.{Admitted}
use Rattle.outcomes.specs.Outcome as Outcome
use Rattle.outcomes.specs.Outcome.{refusal, stepped, pick_said, pick_answer, apply_answer, apply_area}
use Rattle.outcomes.specs.Refusals.{query_decides}
use Rattle.outcomes.specs.Stepping.{single-taken, single-written}
use Rattle.outcomes.proofs.Calls.{pick-taken}
use Rattle.outcomes.proofs.Traces.{Image, p5_book, p5_query, p6_query, p8_book, p8_query, p8_rest, p9_book, empty_goal, leaves, Holds, All}
use Rattle.outcomes.proofs.StepTable.{image_of, leaves-image}

-- The pick.

record PickRow : Type 0 where
  book : Image
  query : Image
  result : Picked

abbrev picks : Image → Image → ℕ → ℕ → PickRow
picks b q code clause = record { book = b; query = q; result = record { code = code; place = 0; steps = 0; clause = clause; furthest = 0; argument = 0 } }

-- with 22: the clause that got furthest, and the argument at which its head fails (document 02, C-19)
abbrev stuck_at : Image → Image → ℕ → ℕ → PickRow
stuck_at b q clause argument = record { book = b; query = q; result = record { code = 22; place = 0; steps = 0; clause = 0; furthest = clause; argument = argument } }

abbrev pick_table : List PickRow
pick_table = picks p8_book p8_query 25 0 ∷ picks p8_book p8_rest 25 1 ∷ stuck_at p5_book p6_query 0 1 ∷ picks p9_book p5_query 26 0 ∷ picks p9_book empty_goal 20 0 ∷ []

abbrev PickHolds : PickRow → Type 0
PickHolds l = pick_answer l.book l.query ≡ l.result

-- a line from what is computed of it: the two checks, the answer
holds_picked : (l : PickRow) → (book_verdict l.book).code ≡ 0 → (query_verdict l.book l.query).code ≡ 0 → pick_said (book_of l.book) (goal_of l.query) (pick (book_of l.book) (goal_of l.query)) ≡ l.result → PickHolds l
holds_picked l bz qz answer_is = pick-taken l.book l.query (ap (λ (a : Admitted). a.code) (query_decides l.book l.query 16387 (omega arith) bz) ∙ qz) ∙ answer_is

pub pick-table-holds : All PickHolds pick_table
unfolding allowed body_length number_at record_at in_range is_in_size is_in_order meet keeps next_unused after judge_record judge whole finish walk met_from verdict query_verdict book_of goal_of fits stuck_code known? alike? figures furthest
pick-table-holds = (holds_picked _ refl refl refl, (holds_picked _ refl refl refl, (holds_picked _ refl refl refl, (holds_picked _ refl refl refl, (holds_picked _ refl refl refl, tt)))))

-- The apply call.

record ApplyRow : Type 0 where
  book : Image
  query : Image
  clause : ℕ
  result : Stepped
  left : Option Image

abbrev applied : Image → Image → ℕ → Image → ApplyRow
applied b q k g = record { book = b; query = q; clause = k; result = record { code = 25; place = 0; steps = 1; span = 0; bytes = length g; clause = k; furthest = 0; argument = 0 }; left = some g }

abbrev not_applied : Image → Image → ℕ → ℕ → ApplyRow
not_applied b q k code = record { book = b; query = q; clause = k; result = record { code = code; place = 0; steps = 0; span = 0; bytes = 0; clause = 0; furthest = 0; argument = 0 }; left = none }

abbrev apply_table : List ApplyRow
apply_table =
    applied p8_book p8_query 0 p8_rest
    ∷ applied p8_book p8_query 1 empty_goal
    ∷ not_applied p8_book p8_rest 0 33
    ∷ not_applied p8_book p8_rest 2 32
    ∷ not_applied p9_book empty_goal 0 20
    ∷ []

abbrev ApplyHolds : ApplyRow → Type 0
ApplyHolds l = Holds (λ query area. apply_answer l.book query l.clause area) (λ query area. apply_area l.book query l.clause area) (some l.query) l.result l.left

-- a line from what is computed of it: the two checks, the answer, the image
holds-applied : (l : ApplyRow) → (book_verdict l.book).code ≡ 0 → (query_verdict l.book l.query).code ≡ 0 → stepped no_figures (apply_by (book_of l.book) (goal_of l.query) l.clause) ≡ l.result
    → image_of (apply_by (book_of l.book) (goal_of l.query) l.clause).written ≡ l.left → ApplyHolds l
holds-applied l bz qz answer_is image_is query e area long =
    let z : (refusal l.book query (length area)).code ≡ 0 = ap (λ (a : Admitted). a.code) (query_decides l.book query (length area) long bz) ∙ ap (λ s. (query_verdict l.book s).code) e ∙ qz in (
      single-taken l.book query area z (stepped no_figures (apply_by (book_of l.book) (goal_of query) l.clause)) ∙ ap (λ s. stepped no_figures (apply_by (book_of l.book) (goal_of s) l.clause)) e ∙ answer_is,
      single-written l.book query area z (apply_by (book_of l.book) (goal_of query) l.clause)
          ∙ ap (λ s. Outcome.leaves (apply_by (book_of l.book) (goal_of s) l.clause).written area) e
          ∙ leaves-image (apply_by (book_of l.book) (goal_of l.query) l.clause).written area
          ∙ ap (λ i. leaves i area) image_is,
    )

pub apply-table-holds : All ApplyHolds apply_table
unfolding allowed body_length number_at record_at in_range is_in_size is_in_order meet keeps next_unused after judge_record judge whole finish walk met_from verdict query_verdict book_of goal_of fits stuck_code known? alike?
apply-table-holds = (holds-applied _ refl refl refl refl, (holds-applied _ refl refl refl refl, (holds-applied _ refl refl refl refl, (holds-applied _ refl refl refl refl, (holds-applied _ refl refl refl refl, tt)))))
