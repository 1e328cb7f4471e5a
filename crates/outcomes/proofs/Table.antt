-- Document 01's cases P1 to P12: bytes in, the numbers and both areas out (document 02, C-11), as one claim about what the contract of the run says. P10 to P12 are the first of the
-- refused books; cases 16 and 17 stand behind them.
use Rattle.std.specs.Prelude.{ℕ, ◌+◌, ◌*◌, ◌≤◌, ◌≡◌, refl, List, ◌∷◌, map}
use Rattle.std.proofs.Math.Decide.{dec_le}
use Rattle.std.proofs.Common.{sym as inv, ap, ◌∙◌}
use Rattle.std.proofs.Math.Option.{Option, none, some}
use Rattle.std.specs.Int.Count.{ones}
use Rattle.loops.specs.Schedule.{scheduled}
use Rattle.loops.specs.Detect as Detect
use Rattle.loops.specs.Detect.{detected?}
use Rattle.search.specs.Room.{fits}
use Rattle.search.specs.Known.{alike?, known?, stuck_code}
use Rattle.search.specs.Furthest.{furthest, figures}
use Rattle.search.specs.Answer.{small, next_answer, answered_from, answered}
use Rattle.format.specs.Reading.{allowed, body_length, number_at, record_at, in_range, is_in_size, is_in_order, next_unused, after, judge_record, judge, whole, finish, walk, met_from, verdict, book_verdict, query_verdict}
use Rattle.format.specs.Arities.{meet, keeps}
use Rattle.format.specs.Cases.{Case, cases}
use Rattle.format.specs.Format.{encode_goal}
use Rattle.format.specs.Decode.{book_of, goal_of}
use Rattle.outcomes.specs.declared.Answer.{Answer}
use Rattle.outcomes.specs.declared.admit.Admitted.{Admitted}
use Rattle.outcomes.specs.Outcome.{refusal, over, room, refused, ended, closing, run_answer, run_area, run_answer_area}
use Rattle.outcomes.specs.Refusals.{query_decides}
use Rattle.outcomes.specs.Running.{answer-refused, area-refused, answer-area-refused, answer-taken, area-taken, answer-area-taken}
use Rattle.outcomes.specs.Firmware.{number}
use Rattle.outcomes.proofs.Traces.{Image, p1_book, p1_query, p1_left, p1_answer, p2_book, p2_query, p2_left, p5_book, p5_query, p6_query, p7_book, p7_query, p8_book, p8_query, p8_answer, p9_book, empty_goal, Asked, leaves, All, all_map, Faulty, cases-faulty}

record Row : Type 0 where
  book : Image
  query : Option Image
  budget : ℕ
  result : Answer
  left : Option Image
  answer : Option Image

abbrev result : ℕ → ℕ → ℕ → ℕ → ℕ → ℕ → Answer
result code place steps span bytes answer = record { code = code; place = place; steps = steps; span = span; bytes = bytes; answer = answer; furthest = 0; argument = 0 }

-- with 22: the clause that got furthest, and the argument at which its head fails (document 02, C-19)
abbrev stuck_at : ℕ → ℕ → ℕ → ℕ → ℕ → Answer
stuck_at steps bytes answer clause argument = record { code = 22; place = 0; steps = steps; span = 0; bytes = bytes; answer = answer; furthest = clause; argument = argument }

-- a line whose input is taken: the images of the goal and of the answer are left (document 02, C-11)
abbrev taken : Image → Image → ℕ → Answer → Image → Image → Row
taken b q n r g a = record { book = b; query = some q; budget = n; result = r; left = some g; answer = some a }

-- a line whose book is refused, for any query
abbrev turned_away : Case → Row
turned_away c = record { book = c.book; query = none; budget = 10000; result = result c.code c.place 0 0 0 0; left = none; answer = none }

abbrev table : List Row
table =
    taken p1_book p1_query 10000 (result 21 0 1 1 23 13) p1_left p1_answer
    ∷ taken p2_book p2_query 10000 (result 21 0 7 3 7 7) p2_left p2_query
    ∷ taken p2_book p2_query 6 (result 23 0 6 0 7 7) p2_query p2_query
    ∷ taken p2_book p2_query 7 (result 21 0 7 3 7 7) p2_left p2_query
    ∷ taken p5_book p5_query 10000 (result 20 0 2 0 3 17) empty_goal p5_query
    ∷ taken p5_book p6_query 10000 (stuck_at 0 10 10 0 1) p6_query p6_query
    ∷ taken p7_book p7_query 10000 (stuck_at 0 13 13 0 2) p7_query p7_query
    ∷ taken p8_book p8_query 10000 (result 20 0 2 0 3 10) empty_goal p8_answer
    ∷ taken p9_book empty_goal 0 (result 20 0 0 0 3 3) empty_goal empty_goal
    ∷ map turned_away cases

-- what is answered, and made of the two areas, is the line's, in areas of any bytes that are long enough
abbrev RowHolds : Row → Type 0
RowHolds l = (query : Image) → Asked l.query query → (area space : Image) → 16387 ≤ room area space
    → (run_answer l.book query l.budget area space ≡ l.result) × (run_area l.book query l.budget area space ≡ leaves l.left area) × (run_answer_area l.book query l.budget area space ≡ leaves l.answer space)

-- a line from what is computed of it: the two checks, the answer, the images
holds-taken : (b q : Image) (n : ℕ) (r : Answer) (g a : Image) → (book_verdict b).code ≡ 0 → (query_verdict b q).code ≡ 0 → ended (book_of b) (closing b q n) ≡ r → encode_goal (closing b q n).goal ≡ g
    → encode_goal (closing b q n).answer ≡ a → RowHolds (taken b q n r g a)
holds-taken b q n r g a bz qz answer_is image_is said-is query e area space long =
    let z : (refusal b query (room area space)).code ≡ 0 = ap (λ (a : Admitted). a.code) (query_decides b query (room area space) long bz) ∙ ap (λ s. (query_verdict b s).code) e ∙ qz in (
      answer-taken b query n area space z ∙ ap (λ s. ended (book_of b) (closing b s n)) e ∙ answer_is,
      area-taken b query n area space z ∙ ap (λ s. over (encode_goal (closing b s n).goal) area) e ∙ ap (λ i. over i area) image_is,
      answer-area-taken b query n area space z ∙ ap (λ s. over (encode_goal (closing b s n).answer) space) e ∙ ap (λ i. over i space) said-is,
    )

-- a line whose book is refused
holds-refused : (c : Case) → Faulty c → RowHolds (turned_away c)
holds-refused c f query u area space long =
    let is = f.refuses query (room area space) long in
    let m : (refusal c.book query (room area space)).code ≡ 0 → ⊥ = λ z. f.code (inv (ap (λ (a : Admitted). a.code) is) ∙ z) in
    (answer-refused c.book query 10000 area space m ∙ ap refused is, area-refused c.book query 10000 area space m, answer-area-refused c.book query 10000 area space m)

-- The table holds, all of its lines.
pub table-holds : All RowHolds table
unfolding allowed body_length number_at record_at in_range is_in_size is_in_order meet keeps next_unused after judge_record judge whole finish walk met_from verdict query_verdict book_of goal_of answered answered_from next_answer small fits Detect.judge detected? dec_le scheduled ones stuck_code known? alike? figures furthest
table-holds = (
  holds-taken _ _ _ _ _ _ refl refl refl refl refl,
  (
    holds-taken _ _ _ _ _ _ refl refl refl refl refl,
    (
      holds-taken _ _ _ _ _ _ refl refl refl refl refl,
      (
        holds-taken _ _ _ _ _ _ refl refl refl refl refl,
        (
          holds-taken _ _ _ _ _ _ refl refl refl refl refl,
          (
            holds-taken _ _ _ _ _ _ refl refl refl refl refl,
            (
              holds-taken _ _ _ _ _ _ refl refl refl refl refl,
              (holds-taken _ _ _ _ _ _ refl refl refl refl refl, (holds-taken _ _ _ _ _ _ refl refl refl refl refl, all_map Faulty RowHolds turned_away holds-refused cases cases-faulty)),
            ),
          ),
        ),
      ),
    ),
  ),
)

-- "The C number is 8,589,935,380", for P5.
pub p5_number : number (result 20 0 2 0 3 17) ≡ 8589935380
p5_number = refl

-- P11 is refused: its place stands where the bytes do otherwise.
pub p11-number : number (result 3 6 0 0 0 0) ≡ 3 + 256 * 6
p11-number = refl
