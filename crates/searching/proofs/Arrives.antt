-- A ride in front of a step: where it starts, and the state that it comes to.
use Prim.Native.Nat.{ℕ, suc, ◌+◌, ◌-◌, ◌≤◌, ◌<◌}
use native.Mathlib.Omega.{arith}
use mathlib.Core.Path.{◌≡◌, subst}
use mathlib.Core.List.{List, ◌++◌}
use lib.ListN.{length, take, drop}
use Rattle.search.specs.Next.{Book, Goal}
use Rattle.states.specs.declared.Place.{Place}
use Rattle.states.specs.declared.Ended.{Ended}
use Rattle.std.specs.declared.result.Result.{Result}
use Rattle.std.specs.declared.result.Result.TheVariants.{Ok, Err}
use Rattle.states.specs.States.{Reached, Somewhere, Opens, Turned, Onward, Looked}
use Rattle.states.proofs.Copies.{copied-length, copied-front}
use Rattle.states.proofs.Visits.{reheld, reopened}
use Rattle.rides.specs.Riding.{Starts, Arrived, Rode}
use Rattle.rides.specs.declared.Start.{Start}
use Rattle.rides.specs.declared.Come.{Come}
use Rattle.std.specs.declared.option.Option.{Option}
use Rattle.std.specs.declared.option.Option.TheVariants.{None, Some}
use Rattle.searching.specs.Searching.{Asked, start_of, Arriving, Entered}
use Rattle.searching.proofs.Searches.{left}

-- the state that is come to, in its place
module _ (goal saved out : List ℕ) (c : Come) (z : Arriving goal saved out c) where
  abbrev n : ℕ
  n = c.words + c.answer

  pub come-room : (n ≤ length out) × (n ≤ length goal)
  come-room = (z.some_arrived.4.here.answer_within, z.size)

  module _ (goal' : List ℕ) (e : goal' ≡ take n out ++ drop n goal) where
    there : {P : Book} {q : Goal} {budget : ℕ} → Reached P q budget out saved c.detector c.words c.formulas c.answer c.kept → Reached P q budget goal' saved c.detector c.words c.formulas c.answer c.kept
    there r = reheld goal' (copied-front out goal goal' n come-room.0 e) (omega (arith, copied-length out goal goal' n come-room.0 z.size e, z.size)) r

    pub come-somewhere : Somewhere goal' saved c.detector c.words c.formulas c.answer c.kept
    come-somewhere = let a = z.some_arrived in (a.0, a.1, a.2, there a.4.here)

    pub come-entered : (r : Result Place Ended) → Looked goal' saved c.detector c.words c.formulas c.answer c.kept r → Entered saved out c goal' r
    come-entered r l = record { turn = λ P q budget since a. l.turn P q budget (there a.here); step = l.step }

-- an open state, before its ride and after it
module _ (goal saved : List ℕ) (budget answers : ℕ) (t : Result Place Ended) (p : Place) (e : t ≡ Ok p) (P : Book) (q : Goal) (x : Turned P q budget goal saved t) {first : List ℕ} {j : ℕ} (asked : Asked first j answers q) where
  abbrev start : Start
  start = start_of p answers budget

  opened : Opens P q budget goal saved p
  opened = subst (Turned P q budget goal saved) e x

  pub ride_starts : Starts P q goal saved start
  ride_starts = record { opens = opened; answers = asked.held.goal.count; numbered = asked.numbered }

  module _ (saved' out : List ℕ) (r : Option Come) (y : Rode P q saved start saved' out r) where
    -- where it stays, the row is where it was
    pub stayed_starts : r ≡ None → length saved' ≡ length saved → (goal' : List ℕ) → length goal' ≡ length goal → take (p.words + p.answer) goal' ≡ take (p.words + p.answer) goal → Starts P q goal' saved' start
    stayed_starts i l goal' long same = record {
      opens = reopened goal' saved' same (omega (arith, long, opened.here.answer_within)) (subst (Rode P q saved start saved' out) i y) l opened;
      answers = asked.held.goal.count;
      numbered = asked.numbered;
    }

    module _ (c : Come) (i : r ≡ Some c) where
      pub came-arrived : Arrived P q budget p.detector.step saved' out c
      came-arrived = subst (Rode P q saved start saved' out) i y

      module _ (goal' : List ℕ) (u : Result Place Ended) (z : Entered saved' out c goal' u) where
        pub came-turn : Turned P q budget goal' saved' u
        came-turn = z.turn P q budget p.detector.step came-arrived

        later : (v : Result Place Ended) → Onward c.detector.step v → Turned P q budget goal' saved' v → left budget v < suc (budget - p.detector.step)
        later (Ok p') s x = omega (arith, came-arrived.later, s, x.here.allowed)
        later (Err d) s x = omega arith

        pub came-less : left budget u < left budget t
        came-less = rw e (later u z.step came-turn)
