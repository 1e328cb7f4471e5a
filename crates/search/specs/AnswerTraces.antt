-- Traces of the run with its answer (document 02, C-11), run by computing: document 01's P1 to P9 with their answers, and cases of the answer's own.
use Rattle.std.specs.Prelude.{ℕ, zero, suc, ◌≡◌, refl, List, [], ◌∷◌, map}
use Rattle.std.proofs.Math.Decide.{dec_le}
use Rattle.std.specs.Int.Count.{ones}
use Rattle.terms.specs.Node.{Expr}
use Rattle.loops.specs.Schedule.{scheduled}
use Rattle.loops.specs.Detect.{detected?, judge}
use Rattle.search.specs.Next.{Book, Goal}
use Rattle.search.specs.Room.{fits}
use Rattle.search.specs.Known.{alike?, known?, stuck_code}
use Rattle.search.specs.Traces.{v, con, fun, atom, ◌:-◌, feeds, pipe, p, e, h, w, table}
use Rattle.search.specs.Answer.{Answered, closed, small, next_answer, answered_from, answered}

-- the answers of P1 to P9, in their order
abbrev pub answers : List Goal
answers =
    (feeds (con 0) (v 1) ∷ []) ∷ (p 0 ∷ []) ∷ (p 0 ∷ []) ∷ (p 0 ∷ []) ∷ (e (con 0) ∷ e (con 0) ∷ []) ∷ (e (con 1) ∷ []) ∷ (h (v 0) (v 0) ∷ []) ∷ (w (con 1) ∷ []) ∷ [] ∷ []

pub answers-hold : map (λ t. (answered t.book t.budget t.query).answer) table ≡ answers
unfolding answered answered_from next_answer small fits judge detected? dec_le scheduled ones stuck_code known? alike?
answers-hold = refl

-- and they close as without an answer
pub answers-close : map (λ t. closed (answered t.book t.budget t.query)) table ≡ map (λ t. t.result) table
unfolding answered answered_from next_answer small fits judge detected? dec_le scheduled ones stuck_code known? alike?
answers-close = refl

-- The answer's own cases.

-- a line of the table: a book, a budget, a query, and what the run with its answer closes with
pub record Case : Type 0 where
  pub book : Book
  pub budget : ℕ
  pub query : Goal
  pub result : Answered

abbrev case : Book → ℕ → Goal → ℕ → ℕ → ℕ → Goal → Goal → Case
case P n q c t s g a = record { book = P; budget = n; query = q; result = record { code = c; steps = t; span = s; goal = g; answer = a } }

-- feeds(X,Y) :- pipe(X,Z), pipe(Z,Y). pipe(v1,v2). pipe(v2,c7).
abbrev plant : Book
plant = (feeds (v 0) (v 1) :- pipe (v 0) (v 2) ∷ pipe (v 2) (v 1) ∷ []) ∷ (pipe (con 1) (con 2) :- []) ∷ (pipe (con 2) (con 7) :- []) ∷ []

-- e(X).
abbrev any : Book
any = (e (v 0) :- []) ∷ []

abbrev z : Expr → Expr
z t = atom 1 (t ∷ [])

-- e(X) :- r(a,X). r(N,f(X,X)) :- r(s(N),X). The goal grows by a node in a step, and the answer doubles.
abbrev r : Expr → Expr → Expr
r s t = atom 0 (s ∷ t ∷ [])

abbrev doubling : Book
doubling = (e (v 0) :- r (con 0) (v 0) ∷ []) ∷ (r (v 0) (fun 0 (v 1 ∷ v 1 ∷ [])) :- r (fun 1 (v 0 ∷ [])) (v 1) ∷ []) ∷ []

abbrev counted : ℕ → Expr
counted zero = con 0
counted (suc n) = fun 1 (counted n ∷ [])

abbrev doubled : ℕ → Expr
doubled zero = v 0
doubled (suc n) = fun 0 (doubled n ∷ doubled n ∷ [])

-- the valve is named, and so is what is known of it before; "variables found only in the answer come after" the goal's; 4,096 nodes have room, and the next answer has none
abbrev pub cases : List Case
cases =
    case plant 9 (feeds (v 0) (con 7) ∷ []) 20 3 0 [] (feeds (con 1) (con 7) ∷ [])
    ∷ case plant 1 (feeds (v 0) (con 7) ∷ []) 23 1 0 (pipe (v 0) (v 1) ∷ pipe (v 1) (con 7) ∷ []) (feeds (v 0) (con 7) ∷ [])
    ∷ case any 9 (e (v 0) ∷ z (v 1) ∷ []) 26 1 0 (z (v 0) ∷ []) (e (v 1) ∷ z (v 0) ∷ [])
    ∷ case doubling 99 (e (v 0) ∷ []) 27 12 0 (r (counted 11) (v 0) ∷ []) (e (doubled 11) ∷ [])
    ∷ []

pub cases-hold : map (λ c. answered c.book c.budget c.query) cases ≡ map (λ c. c.result) cases
unfolding answered answered_from next_answer small fits judge detected? dec_le scheduled ones stuck_code known? alike?
cases-hold = refl
