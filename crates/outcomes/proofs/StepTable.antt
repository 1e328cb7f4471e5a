-- Single steps from document 01's cases: bytes in, the eight numbers and the area out, as one claim about what the contract of the step says. P8 takes two steps, by the
-- clause number 0 and by the clause number 1; a step is refused where a run is.
use Rattle.std.specs.Prelude.{ℕ, ◌≡◌, refl, List, ◌∷◌, map, length}
use Rattle.std.proofs.Common.{sym as inv, ap, ◌∙◌}
use Rattle.std.proofs.Math.Option.{Option, none, some}
use Rattle.search.specs.Next.{Goal}
use Rattle.search.specs.Room.{fits}
use Rattle.search.specs.Known.{alike?, known?, stuck_code}
use Rattle.search.specs.Furthest.{furthest, figures}
use Rattle.search.specs.Single.{step}
use Rattle.format.specs.Reading.{allowed, body_length, number_at, record_at, in_range, is_in_size, is_in_order, next_unused, after, judge_record, judge, whole, finish, walk, met_from, verdict, book_verdict, query_verdict}
use Rattle.format.specs.Arities.{meet, keeps}
use Rattle.format.specs.Cases.{Case, cases}
use Rattle.format.specs.Format.{encode_goal}
use Rattle.format.specs.Decode.{book_of, goal_of}
use Rattle.outcomes.specs.declared.Stepped.{Stepped}
use Rattle.outcomes.specs.declared.admit.Admitted.{Admitted}
use Rattle.outcomes.specs.Outcome as Outcome
use Rattle.outcomes.specs.Outcome.{refusal, step_refused, step_said, step_answer, step_area}
use Rattle.outcomes.specs.Refusals.{query_decides}
use Rattle.outcomes.specs.Stepping.{answer-refused, area-refused, answer-taken, area-taken}
use Rattle.outcomes.proofs.Traces.{Image, p5_book, p5_query, p5_rest, p6_query, p7_book, p7_query, p8_book, p8_query, p8_rest, p9_book, empty_goal, leaves, Holds, All, all_map, Faulty, cases-faulty}

record Row : Type 0 where
  book : Image
  query : Option Image
  result : Stepped
  left : Option Image

abbrev result : ℕ → ℕ → ℕ → ℕ → ℕ → ℕ → Stepped
result code place steps span bytes clause = record { code = code; place = place; steps = steps; span = span; bytes = bytes; clause = clause; furthest = 0; argument = 0 }

-- with 22: the clause that got furthest, and the argument at which its head fails (document 02, C-19)
abbrev stuck_at : ℕ → ℕ → Stepped
stuck_at clause argument = record { code = 22; place = 0; steps = 0; span = 0; bytes = 0; clause = 0; furthest = clause; argument = argument }

abbrev taken : Image → Image → Stepped → Option Image → Row
taken b q r g = record { book = b; query = some q; result = r; left = g }

abbrev turned_away : Case → Row
turned_away c = record { book = c.book; query = none; result = result c.code c.place 0 0 0 0; left = none }

abbrev table : List Row
table =
    taken p5_book p5_query (result 25 0 1 0 10 0) (some p5_rest)
    ∷ taken p5_book p6_query (stuck_at 0 1) none
    ∷ taken p7_book p7_query (stuck_at 0 2) none
    ∷ taken p8_book p8_query (result 25 0 1 0 10 0) (some p8_rest)
    ∷ taken p8_book p8_rest (result 25 0 1 0 3 1) (some empty_goal)
    ∷ taken p9_book empty_goal (result 20 0 0 0 0 0) none
    ∷ map turned_away cases

abbrev RowHolds : Row → Type 0
RowHolds l = Holds (step_answer l.book) (step_area l.book) l.query l.result l.left

-- the image of the goal that is written, if one is
abbrev pub image_of : Option Goal → Option Image
image_of none = none
image_of (some g) = some (encode_goal g)

pub leaves-image : (o : Option Goal) (area : Image) → Outcome.leaves o area ≡ leaves (image_of o) area
leaves-image none area = refl
leaves-image (some g) area = refl

-- a line from what is computed of it: the two checks, the answer, the image
holds-taken : (b q : Image) (r : Stepped) (g : Option Image) → (book_verdict b).code ≡ 0 → (query_verdict b q).code ≡ 0 → step_said (book_of b) (goal_of q) (step (book_of b) (goal_of q)) ≡ r → image_of (step (book_of b) (goal_of q)).written ≡ g → RowHolds (taken b q r g)
holds-taken b q r g bz qz answer_is image_is query e area long =
    let z : (refusal b query (length area)).code ≡ 0 = ap (λ (a : Admitted). a.code) (query_decides b query (length area) long bz) ∙ ap (λ s. (query_verdict b s).code) e ∙ qz in (
      answer-taken b query area z ∙ ap (λ s. step_said (book_of b) (goal_of s) (step (book_of b) (goal_of s))) e ∙ answer_is,
      area-taken b query area z ∙ ap (λ s. Outcome.leaves (step (book_of b) (goal_of s)).written area) e ∙ leaves-image (step (book_of b) (goal_of q)).written area ∙ ap (λ i. leaves i area) image_is,
    )

-- a line whose book is refused
holds-refused : (c : Case) → Faulty c → RowHolds (turned_away c)
holds-refused c f query u area long =
    let is = f.refuses query (length area) long in
    let m : (refusal c.book query (length area)).code ≡ 0 → ⊥ = λ z. f.code (inv (ap (λ (a : Admitted). a.code) is) ∙ z) in
    (answer-refused c.book query area m ∙ ap step_refused is, area-refused c.book query area m)

-- The table holds, all of its lines.
pub step-table-holds : All RowHolds table
unfolding allowed body_length number_at record_at in_range is_in_size is_in_order meet keeps next_unused after judge_record judge whole finish walk met_from verdict query_verdict book_of goal_of fits stuck_code known? alike? figures furthest
step-table-holds = (
  holds-taken _ _ _ _ refl refl refl refl,
  (
    holds-taken _ _ _ _ refl refl refl refl,
    (holds-taken _ _ _ _ refl refl refl refl, (holds-taken _ _ _ _ refl refl refl refl, (holds-taken _ _ _ _ refl refl refl refl, (holds-taken _ _ _ _ refl refl refl refl, all_map Faulty RowHolds turned_away holds-refused cases cases-faulty)))),
  ),
)
