-- The codes that a check can give: 0, or one of its form's six.
use Prim.Native.Nat.{ℕ, zero, suc, ◌+◌, ◌≤◌}
use native.Mathlib.Omega.{arith}
use borrow.Author.Tests.{eq-eqb}
use mathlib.Core.Path.{◌≡◌, refl}
use mathlib.Core.Bool.{Bool, true, false}
use mathlib.Core.Logic.{◌⊎◌, inl, inr}
use mathlib.Core.List.{List}
use lib.ListN.{length, get_or}
use lib.Dec.{ltb}
use Rattle.terms.specs.Cases.{cases}
use Rattle.terms.specs.When.{◌⇒◌∣◌}
use Rattle.format.specs.declared.Check.{Check}
use Rattle.format.specs.declared.State.{State}
use Rattle.format.specs.declared.Form.{Form}
use Rattle.format.specs.declared.Form.TheVariants.{Book, Query}
use Rattle.format.specs.declared.Fault.{Fault}
use Rattle.format.specs.declared.Fault.TheVariants.{Kind, Cut, Range, Size, Number, Arity}
use Rattle.std.specs.Prelude.{Result, Ok, Err}
use Rattle.format.specs.Reading.{code_base, refused, whole, finish, body_length, record_at, judge, go_further, walk, byte_limit, start, verdict, met, book_verdict, query_verdict}
use Rattle.format.specs.Arities.{Memory, nothing_met, meets}

-- 0, or from `least` to the fifth after it
abbrev pub Coded : ℕ → ℕ → Type 0
Coded least code = (code ≡ 0) ⊎ ((least ≤ code) × (code ≤ least + 5))

module _ (form : Form) where
  -- of the form's family
  abbrev Given : Check → Type 0
  Given c = Coded (code_base form + 2) c.code

  given-refused : (fault : Fault) (place : ℕ) → Given (refused form fault place)
  given-refused Kind place = inr (omega arith, omega arith)
  given-refused Cut place = inr (omega arith, omega arith)
  given-refused Range place = inr (omega arith, omega arith)
  given-refused Size place = inr (omega arith, omega arith)
  given-refused Number place = inr (omega arith, omega arith)
  given-refused Arity place = inr (omega arith, omega arith)

  given_test : (b : Bool) (x y : Check) → Given x → Given y → Given (b ⇒ x ∣ y)
  given_test true x y p q = p
  given_test false x y p q = q

  given-finish : (state : State) (end : ℕ) → Given (finish form state end)
  unfolding finish
  given-finish state end = cases (whole state) (λ w. simp w (inl refl)) (λ w. simp w (inr (omega arith, omega arith)))

  given-on : (at : ℕ) (j : Result State Fault) (rest : State → Check) → ((next : State) → Given (rest next)) → Given (go_further form at j rest)
  given-on at (Ok state) rest p = p state
  given-on at (Err fault) rest p = given-refused fault at

  given-walk : (k : ℕ) (s : List ℕ) (at : ℕ) (state : State) (m : Memory) → Given (walk form k s at state m)
  unfolding walk
  given-walk zero s at state m = given-finish state (length s)
  given-walk (suc k) s at state m =
      given_test (ltb at (length s)) _ _
      (given-on at (judge form state m s at) _ (λ next. given-walk k s (at + 1 + body_length (get_or s at 0)) next (meets m (record_at s at (get_or s at 0)))))
      (given-finish state (length s))

  given-verdict : (m : Memory) (s : List ℕ) → Given (verdict form m s)
  unfolding verdict
  given-verdict m s = cases (ltb (byte_limit form) (length s)) (λ p. simp p (inr (omega arith, omega arith))) (λ p. simp p (given-walk (suc (length s)) s 0 start m))

pub book-coded : (s : List ℕ) → Coded 2 (book_verdict s).code
book-coded s = given-verdict Book nothing_met s

-- of a good book
pub query-coded : (book s : List ℕ) → (book_verdict book).code ≡ 0 → Coded 12 (query_verdict book s).code
unfolding query_verdict
query-coded book s z = simp (eq-eqb (book_verdict book).code 0 z) (given-verdict Query (met book) s)
