-- The whole text.
use Rattle.std.specs.Prelude.{ℕ, suc, ◌≤◌, ◌<◌, ◌≡◌, List, length, Result, Ok, Err, ⊤}
use Rattle.asking.specs.Asking.{begin, none_yet, Outcome, read, refused, walk}
use Rattle.pieces.specs.declared.Refusal.{Refusal}
use Rattle.pieces.specs.Refusal.{number}
use Rattle.turns.specs.declared.TextCheck.{TextCheck}
use Rattle.halfway.specs.Machine.{Answer, fine, bad, told}

abbrev pub answer_of : Result ⊤ Refusal → Answer
answer_of (Ok u) = fine
answer_of (Err r) = bad (number r.code) r.place

-- code and place fit into their numbers
abbrev pub LowEnd : Result ⊤ Refusal → Type 0
LowEnd (Ok u) = Unit {0}
LowEnd (Err r) = (number r.code < 256) × (r.place ≤ 65600)

pub record Ends (text : List ℕ) (r : Result ⊤ Refusal) : Type 0 where
  pub answers : answer_of r ≡ told (walk (suc (length text)) begin none_yet 0 text)
  pub low : LowEnd r

abbrev pub checked : ℕ → ℕ → TextCheck
checked code place = record { code = code; place = place }

-- 0 for a query's text, or its refusal
abbrev pub text_check : Outcome → TextCheck
text_check (read fs) = checked 0 0
text_check (refused code place) = checked code place
