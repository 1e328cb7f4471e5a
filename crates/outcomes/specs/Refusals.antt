-- What is refused, case by case.
use Rattle.std.specs.Prelude.{ℕ, ◌≤◌, ◌<◌, ◌≡◌, List, MatchResult, ⊤}
use Rattle.std.specs.declared.result.Result.{Result}
use Rattle.std.proofs.Common.{arith, lt-ltb, le-ltb, ne_eqb, sym as inv, ap, ◌∙◌}
use Rattle.std.proofs.Math.Decide.{dec_lt}
use Rattle.format.specs.Reading.{book_verdict, query_verdict, Askable}
use Rattle.format.proofs.Meaning.{query-book}
use Rattle.outcomes.specs.declared.admit.Admitted.{Admitted}
use Rattle.outcomes.specs.Outcome.{refusal}

module _ (book query : List ℕ) (room : ℕ) where
  pub area-short : room < 16387 → refusal book query room ≡ record { code = 1; place = 0 }
  unfolding refusal
  area-short h = simp (lt-ltb room 16387 h)

  module _ (long : 16387 ≤ room) where
    -- the query's check takes both
    pub both_decide : refusal book query room ≡ record { code = (query_verdict book query).code; place = (query_verdict book query).place }
    unfolding refusal
    both_decide = simp (le-ltb room 16387 long)

    pub book_decides : ((book_verdict book).code ≡ 0 → ⊥) → refusal book query room ≡ record { code = (book_verdict book).code; place = (book_verdict book).place }
    unfolding query_verdict
    book_decides n = both_decide ∙ simp (ne_eqb (book_verdict book).code 0 n)

    pub query_decides : (book_verdict book).code ≡ 0 → refusal book query room ≡ record { code = (query_verdict book query).code; place = (query_verdict book query).place }
    query_decides z = both_decide

-- what is told of an input: that nothing of it is refused, or its refusal
abbrev pub Admits : List ℕ → List ℕ → ℕ → Result ⊤ Admitted → Type 0
Admits book query room r = MatchResult r (λ _. (refusal book query room).code ≡ 0) (λ a. (a ≡ refusal book query room) × ((refusal book query room).code ≡ 0 → ⊥))

-- what is not refused is good
pub record Good (book query : List ℕ) (room : ℕ) : Type 0 where
  pub enough : 16387 ≤ room
  pub book_good : (book_verdict book).code ≡ 0
  pub query_good : (query_verdict book query).code ≡ 0
  pub askable : Askable query

pub not-refused : (book query : List ℕ) (room : ℕ) → (refusal book query room).code ≡ 0 → Good book query room
not-refused book query room z = elim (dec_lt room 16387) [
  | yes s ↦ absurd (omega (arith, z, ap (λ (a : Admitted). a.code) (area-short book query room s)))
  | no s ↦
      let long : 16387 ≤ room = omega arith in
      let good = inv (ap (λ (a : Admitted). a.code) (both_decide book query room long)) ∙ z in
      record { enough = long; book_good = query-book book query good; query_good = good; askable = record { book = book; good = good } }
]
