-- For each entry: no two outcomes satisfy its contract.
use Rattle.std.specs.Prelude.{ℕ, ◌≡◌, List}
use Rattle.std.proofs.Common.{sym as inv, ◌∙◌}
use Rattle.outcomes.specs.declared.Answer.{Answer}
use Rattle.outcomes.specs.declared.Picked.{Picked}
use Rattle.outcomes.specs.declared.Stepped.{Stepped}
use Rattle.outcomes.specs.Outcome.{step_answer, step_area, pick_answer, apply_answer, apply_area, run_answer, run_area, run_answer_area}
use Rattle.outcomes.specs.Firmware.{number}
use Rattle.outcomes.specs.CallNumbers.{pick_number, apply_number}

-- an answer and an area that are both settled
settled : {A : Type 0} {a r r' : A} {left after after' : List ℕ} → r ≡ a → after ≡ left → r' ≡ a → after' ≡ left → (r ≡ r') × (after ≡ after')
settled p q p' q' = (p ∙ inv p', q ∙ inv q')

pub step_once : (book query area : List ℕ) {r r' : Stepped} {after after' : List ℕ} → r ≡ step_answer book query area → after ≡ step_area book query area →
    r' ≡ step_answer book query area → after' ≡ step_area book query area → (r ≡ r') × (after ≡ after')
step_once book query area = settled

-- A run settles its goal area and its answer area (document 02, C-11).
module _ (book query : List ℕ) (budget : ℕ) (area space : List ℕ) where
  -- the contract, of an answer made from the seven figures in whatever way
  abbrev Outcome : {A : Type 0} → (Answer → A) → A → List ℕ → List ℕ → Type 0
  Outcome told r after filled = (r ≡ told (run_answer book query budget area space)) × (after ≡ run_area book query budget area space) × (filled ≡ run_answer_area book query budget area space)

  one : {A : Type 0} (told : Answer → A) {r r' : A} {after after' filled filled' : List ℕ} → Outcome told r after filled → Outcome told r' after' filled' → (r ≡ r') × (after ≡ after') × (filled ≡ filled')
  one told (p, q, s) (p', q', s') = (p ∙ inv p', q ∙ inv q', s ∙ inv s')

  pub run_once : {r r' : Answer} {after after' filled filled' : List ℕ} → Outcome (λ a. a) r after filled → Outcome (λ a. a) r' after' filled' → (r ≡ r') × (after ≡ after') × (filled ≡ filled')
  run_once = one (λ a. a)

  pub firmware_once : {r r' : ℕ} {after after' filled filled' : List ℕ} → Outcome number r after filled → Outcome number r' after' filled' → (r ≡ r') × (after ≡ after') × (filled ≡ filled')
  firmware_once = one number

-- The two calls of a single step (document 02, C-16).
module _ (book query : List ℕ) where
  pub pick_once : {r r' : Picked} → r ≡ pick_answer book query → r' ≡ pick_answer book query → r ≡ r'
  pick_once p p' = p ∙ inv p'

  pub pick-number_once : {r r' : ℕ} → r ≡ pick_number (pick_answer book query) → r' ≡ pick_number (pick_answer book query) → r ≡ r'
  pick-number_once p p' = p ∙ inv p'

module _ (book query : List ℕ) (clause : ℕ) (area : List ℕ) where
  pub apply_once : {r r' : Stepped} {after after' : List ℕ} → r ≡ apply_answer book query clause area → after ≡ apply_area book query clause area →
      r' ≡ apply_answer book query clause area → after' ≡ apply_area book query clause area → (r ≡ r') × (after ≡ after')
  apply_once = settled

  pub apply-number_once : {r r' : ℕ} {after after' : List ℕ} → r ≡ apply_number (apply_answer book query clause area) → after ≡ apply_area book query clause area →
      r' ≡ apply_number (apply_answer book query clause area) → after' ≡ apply_area book query clause area → (r ≡ r') × (after ≡ after')
  apply-number_once = settled
