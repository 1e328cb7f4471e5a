-- What a refusal of the flat profile means (document 02, C-20), told as records/specs/Faulty tells document 01's: "Refusals: 8 for the book and 18 for the query at the
-- compound record, straight after the kind test."
use Rattle.std.specs.Prelude.{ℕ, ◌≤◌, ◌<◌, ◌≡◌, List, ◌∷◌, ◌++◌, length}
use Rattle.search.specs.Next as Next
use Rattle.format.specs.declared.Form.{Form}
use Rattle.format.specs.declared.Form.TheVariants.{Book, Query}
use Rattle.format.specs.declared.Record.{Record}
use Rattle.format.specs.Format.{encode_book, encode_goal, GoodBook, GoodGoal}
use Rattle.format.specs.Arities.{Use, book_uses, goal_uses, OneArity}
use Rattle.format.specs.Faulty.{pair, KindAllowed, Fails, GoodUpTo}
use Rattle.flatness.proofs.Plain.{PlainRecords, PlainBook, PlainGoal}

-- the kind byte of a compound term stands behind rs, where a term is due: what stands behind the byte is not looked at
pub record CompoundStands (form : Form) (rs : List Record) (rest : List ℕ) : Type 0 where
  pub later : List ℕ
  pub bytes : rest ≡ 3 ∷ later
  pub allowed : KindAllowed form rs 3

-- the first fault, with one test more behind that of the kind: an input that is too long, a compound record, or a record that fails a test of document 01's and is no
-- compound term, or is one where none may stand
pub data FlatFaulty (form : Form) (us : List Use) (s : List ℕ) (code place : ℕ) : Type 0 where
  too_long : pair form 32768 16387 < length s → code ≡ pair form 5 15 → place ≡ pair form 32768 16387 → FlatFaulty form us s code place
  of_compound : length s ≤ pair form 32768 16387 → (g : GoodUpTo form us s place) → PlainRecords g.before → CompoundStands form g.before g.rest →
      code ≡ pair form 8 18 → FlatFaulty form us s code place
  of_record : length s ≤ pair form 32768 16387 → (g : GoodUpTo form us s place) → PlainRecords g.before → (CompoundStands form g.before g.rest → ⊥) →
      Fails form us g.before g.rest code → FlatFaulty form us s code place

-- the image of a good book, or of a good goal, that keeps one arity and has no compound term
abbrev pub FlatGood : Form → List Use → List ℕ → Type 0
FlatGood Book us s = (b : Next.Book) × GoodBook b × OneArity (us ++ book_uses b) × PlainBook b × (encode_book b ≡ s)
FlatGood Query us s = (g : Next.Goal) × GoodGoal g × OneArity (us ++ goal_uses g) × PlainGoal g × (encode_goal g ≡ s)
