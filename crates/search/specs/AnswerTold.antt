-- Document 01's "Detection states" with document 02's C-11, sentence by sentence, as a relation that computes nothing: the states of Told with an answer beside each. AnswerToldLaws has that
-- the run with its answer is this and nothing else.
use Rattle.std.specs.Prelude.{ℕ, ◌<◌, ◌≡◌, [], ◌∷◌}
use Rattle.std.proofs.Math.Option.{none}
use Rattle.terms.specs.Node.{Expr}
use Rattle.loops.specs.Detect.{State}
use Rattle.search.specs.Next.{Clause, Book, Goal, First}
use Rattle.search.specs.Room.{nodes}
use Rattle.search.specs.Told.{ComesBack, After, TooBig, Closing}
use Rattle.search.specs.Codes.{Says}
use Rattle.search.specs.Answer.{Carried, Answered, closed}

-- h is the next goal, by the clause number k, and b the next answer
abbrev pub NextWith : Book → Goal → Goal → ℕ → Goal → Goal → Type 0
NextWith P [] a k h b = ⊥
NextWith P (f ∷ g) a k h b = (c : Clause) × First f P k c × Carried f g a c h b

-- "the next answer has over 4,096 nodes"
abbrev pub TooLong : Goal → Type 0
TooLong b = 4096 < nodes b

module _ (P : Book) (budget : ℕ) where
  -- the code and the span with which s closes: as without an answer, or "27 after 24". "The loop test looks at the goal alone."
  pub data ClosingWith (s : State Expr) (a : Goal) : ℕ → ℕ → Type 0 where
    at_20_to_26 : {c n : ℕ} → Closing P budget s c n → ClosingWith s a c n
    at_27 : (k : ℕ) (h b : Goal) → ¬ ComesBack s → NextWith P s.goal a k h b → ¬ (s.step ≡ budget) → ¬ TooBig h → TooLong b → ClosingWith s a 27 0

  -- the states of the run of q, each with its answer: "The run should carry the query's formulas along, with each step's unifier applied"
  pub data ReachedWith (q : Goal) : State Expr → Goal → Type 0 where
    first_with : ReachedWith q (record { step = 0; least = 0; saved = none; from = 0; goal = q }) q
    then_with : {s s' : State Expr} {a : Goal} (k : ℕ) (h b : Goal) → ReachedWith q s a → ¬ ComesBack s → NextWith P s.goal a k h b → ¬ (s.step ≡ budget) → ¬ TooBig h → ¬ TooLong b
        → After s h s' → ReachedWith q s' b

  -- the run of q closes with r: "the goal area and the answer area hold the goal and the instance at the closing state"
  pub record ToldWith (q : Goal) (r : Answered) : Type 0 where
    pub state : State Expr
    pub reached : ReachedWith q state r.answer
    pub closing : ClosingWith state r.answer r.code r.span
    pub steps : r.steps ≡ state.step
    pub goal : r.goal ≡ state.goal

-- what each code of a run with its answer says, of the path without limits: what it says of the run of document 01, or, with 27, that a step is left, that the next goal has room, and that the
-- next answer has none
pub data SaysWith (P : Book) (budget : ℕ) (q : Goal) (r : Answered) (s : State Expr) : ℕ → Type 0 where
  says_20_to_26 : {c : ℕ} → Says P budget q (closed r) s c → SaysWith P budget q r s c
  full_27 : (k : ℕ) (h b : Goal) → NextWith P r.goal r.answer k h b → r.steps < budget → ¬ TooBig h → TooLong b → r.span ≡ 0 → SaysWith P budget q r s 27
