-- What the check of a query's text says, and that it says one thing.
use Rattle.std.specs.Prelude.{ℕ, ◌≡◌, refl, ◌↔◌, List}
use Rattle.std.proofs.Common.{sym as inv, ◌∙◌, arith}
use Rattle.grammar.specs.Syntax.{Formula}
use Rattle.asking.specs.Asking.{Outcome, read, refused, asking}
use Rattle.asking.specs.Accepted.{Accepted}
use Rattle.asking.proofs.AskingLaws.{refusal-code, asking_iff, refusal_iff}
use Rattle.turns.specs.declared.TextCheck.{TextCheck}
use Rattle.turns.specs.Passing.{text_check}

pub check-text_once : (text : List ℕ) (r r' : TextCheck) → r ≡ text_check (asking text) → r' ≡ text_check (asking text) → r ≡ r'
check-text_once text r r' p q = p ∙ inv q

-- 0 just where the text is a query of the grammar within the sizes
pub check-text-means : (text : List ℕ) → ((text_check (asking text)).code ≡ 0) ↔ ((fs : List Formula) × Accepted text fs)
check-text-means text = (by (asking text) refl, λ a. back a.0 ((asking_iff text a.0).1 a.1))
  where
    by : (o : Outcome) → asking text ≡ o → (text_check o).code ≡ 0 → (fs : List Formula) × Accepted text fs
    by (read fs) e z = (fs, (asking_iff text fs).0 e)
    by (refused c i) e z = absurd (omega (arith, z, refusal-code ((refusal_iff text c i).0 e)))

    back : (fs : List Formula) → asking text ≡ read fs → (text_check (asking text)).code ≡ 0
    back fs e = rw e refl
