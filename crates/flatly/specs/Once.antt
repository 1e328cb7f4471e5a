-- For each entry of the flat profile: no two outcomes satisfy its contract.
use Rattle.std.specs.Prelude.{ℕ, ◌≡◌, List}
use Rattle.std.proofs.Common.{sym as inv, ◌∙◌}
use Rattle.outcomes.specs.declared.Answer.{Answer}
use Rattle.outcomes.specs.declared.Stepped.{Stepped}
use Rattle.outcomes.specs.Firmware.{number}
use Rattle.outcomes.specs.CallNumbers.{apply_number}
use Rattle.flatness.specs.Profile.{flat_book_of, query_flat}
use Rattle.flatly.specs.Outcome.{flat_run_answer, flat_run_area, flat_run_answer_area, flat_step_answer, flat_step_area, flat_book_number, flat_query_number}

-- A step settles its answer, told in whatever way, and its area.
module _ (book query area : List ℕ) where
  abbrev Stepping : {A : Type 0} → (Stepped → A) → A → List ℕ → Type 0
  Stepping told r after = (r ≡ told (flat_step_answer book query area)) × (after ≡ flat_step_area book query area)

  one_step : {A : Type 0} (told : Stepped → A) {r r' : A} {after after' : List ℕ} → Stepping told r after → Stepping told r' after' → (r ≡ r') × (after ≡ after')
  one_step told (p, q) (p', q') = (p ∙ inv p', q ∙ inv q')

  pub flat-step_once : {r r' : Stepped} {after after' : List ℕ} → Stepping (λ a. a) r after → Stepping (λ a. a) r' after' → (r ≡ r') × (after ≡ after')
  flat-step_once = one_step (λ a. a)

  pub flat-step-number_once : {r r' : ℕ} {after after' : List ℕ} → Stepping apply_number r after → Stepping apply_number r' after' → (r ≡ r') × (after ≡ after')
  flat-step-number_once = one_step apply_number

-- A run settles its answer and both areas.
module _ (book query : List ℕ) (budget : ℕ) (area space : List ℕ) where
  abbrev Running : {A : Type 0} → (Answer → A) → A → List ℕ → List ℕ → Type 0
  Running told r after filled = (r ≡ told (flat_run_answer book query budget area space)) × (after ≡ flat_run_area book query budget area space) × (filled ≡ flat_run_answer_area book query budget area space)

  one-run : {A : Type 0} (told : Answer → A) {r r' : A} {after after' filled filled' : List ℕ} → Running told r after filled → Running told r' after' filled' → (r ≡ r') × (after ≡ after') × (filled ≡ filled')
  one-run told (p, q, s) (p', q', s') = (p ∙ inv p', q ∙ inv q', s ∙ inv s')

  pub flat-run_once : {r r' : Answer} {after after' filled filled' : List ℕ} → Running (λ a. a) r after filled → Running (λ a. a) r' after' filled' → (r ≡ r') × (after ≡ after') × (filled ≡ filled')
  flat-run_once = one-run (λ a. a)

  pub flat-run-number_once : {r r' : ℕ} {after after' filled filled' : List ℕ} → Running number r after filled → Running number r' after' filled' → (r ≡ r') × (after ≡ after') × (filled ≡ filled')
  flat-run-number_once = one-run number

-- The checks for C.
pub flat-book-number_once : (book : List ℕ) {r r' : ℕ} → r ≡ flat_book_number (flat_book_of book) → r' ≡ flat_book_number (flat_book_of book) → r ≡ r'
flat-book-number_once book p p' = p ∙ inv p'

pub flat-query-number_once : (book query : List ℕ) {r r' : ℕ} → r ≡ flat_query_number (query_flat book query) → r' ≡ flat_query_number (query_flat book query) → r ≡ r'
flat-query-number_once book query p p' = p ∙ inv p'
