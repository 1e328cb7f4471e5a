-- The ways out of a single step, and of the apply call: what is answered and what is left, for each. The contracts of their parts cite `Gives`.
use Rattle.std.specs.Prelude.{ℕ, ◌≡◌, refl, List, ◌++◌, length, drop}
use Rattle.std.proofs.Common.{eq-eqb, ne_eqb, ap, ◌∙◌}
use Rattle.search.specs.Next.{Goal}
use Rattle.search.specs.Furthest.{Figures, no_figures}
use Rattle.search.specs.Single.{Single, not_taken, taken, step}
use Rattle.format.specs.Format.{encode_goal}
use Rattle.format.specs.Decode.{book_of, goal_of}
use Rattle.storage.specs.Storage.{Written}
use Rattle.outcomes.specs.declared.Stepped.{Stepped}
use Rattle.outcomes.specs.Outcome.{refusal, step_refused, stepped, step_said, leaves, single_answer, single_area, step_answer, step_area}

-- the step s, with no figures, answers r, and makes the area `before` into `after`
pub record Gives (s : Single) (before : List ℕ) (r : Stepped) (after : List ℕ) : Type 0 where
  pub answer : r ≡ stepped no_figures s
  pub area : after ≡ leaves s.written before

-- no step is taken: "otherwise steps and clause number are 0"
abbrev pub not_stepped : ℕ → ℕ → Figures → Stepped
not_stepped code place w = record { code = code; place = place; steps = 0; span = 0; bytes = 0; clause = 0; furthest = w.clause; argument = w.argument }

abbrev pub no_step : ℕ → Stepped
no_step code = not_stepped code 0 no_figures

-- "with steps 1 and the clause number (from 0) for code 25"
abbrev pub one_step : ℕ → ℕ → Stepped
one_step clause bytes = record { code = 25; place = 0; steps = 1; span = 0; bytes = bytes; clause = clause; furthest = 0; argument = 0 }

module _ {s : Single} (area : List ℕ) where
  -- "Only code 25 writes"
  pub gives_none : (c : ℕ) → s ≡ not_taken c → Gives s area (no_step c) area
  gives_none c e = rw e (record { answer = refl; area = refl })

  pub gives-taken : (k : ℕ) (h : Goal) → s ≡ taken k h → {n : ℕ} {after : List ℕ} → Written (encode_goal h) area after n → Gives s area (one_step k n) after
  gives-taken k h e w = rw e (record { answer = ap (one_step k) w.count; area = w.holds ∙ ap (λ n. encode_goal h ++ drop n area) w.count })

-- An entry that comes to a single step.
module _ (book query area : List ℕ) where
  -- refused: "give steps, span, bytes and every count 0"; "An entry that refuses its input changes nothing in any lent area"
  module _ (n : (refusal book query (length area)).code ≡ 0 → ⊥) where
    pub single-refused : (r : Stepped) → single_answer book query area r ≡ step_refused (refusal book query (length area))
    unfolding single_answer
    single-refused r = simp (ne_eqb (refusal book query (length area)).code 0 n)

    pub single-kept : (s : Single) → single_area book query area s ≡ area
    unfolding single_area
    single-kept s = simp (ne_eqb (refusal book query (length area)).code 0 n)

  -- taken
  module _ (z : (refusal book query (length area)).code ≡ 0) where
    pub single-taken : (r : Stepped) → single_answer book query area r ≡ r
    unfolding single_answer
    single-taken r = simp (eq-eqb (refusal book query (length area)).code 0 z)

    pub single-written : (s : Single) → single_area book query area s ≡ leaves s.written area
    unfolding single_area
    single-written s = simp (eq-eqb (refusal book query (length area)).code 0 z)

-- The single step is one.
module _ (book query area : List ℕ) where
  abbrev it : Single
  it = step (book_of book) (goal_of query)

  module _ (n : (refusal book query (length area)).code ≡ 0 → ⊥) where
    pub answer-refused : step_answer book query area ≡ step_refused (refusal book query (length area))
    answer-refused = single-refused book query area n (step_said (book_of book) (goal_of query) it)

    pub area-refused : step_area book query area ≡ area
    area-refused = single-kept book query area n it

  module _ (z : (refusal book query (length area)).code ≡ 0) where
    pub answer-taken : step_answer book query area ≡ step_said (book_of book) (goal_of query) it
    answer-taken = single-taken book query area z (step_said (book_of book) (goal_of query) it)

    pub area-taken : step_area book query area ≡ leaves it.written area
    area-taken = single-written book query area z it
