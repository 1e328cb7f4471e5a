-- Document 01's cases P1 to P9 as bytes, its refused books (P10 to P12, 16 and 17, of records), and when a line of a table holds. Symbols are numbered from 0 by first appearance, each sort by itself, but for P5 and P6, where
-- document 01 numbers e and a with 1.
use Rattle.std.specs.Prelude.{ℕ, ◌≤◌, ◌≡◌, refl, true, List, [], ◌∷◌, map, length, ltb}
use Rattle.std.proofs.Common.{arith, ltb-true, ap, ◌∙◌}
use Rattle.std.proofs.Math.Option.{Option, none, some}
use Rattle.format.specs.declared.Check.{Check}
use Rattle.format.specs.Reading.{book_verdict}
use Rattle.format.specs.Cases.{Case, cases, cases-answered}
use Rattle.outcomes.specs.Outcome.{refusal, over}
use Rattle.outcomes.specs.Refusals.{book_decides}

abbrev pub Image : Type 0
Image = List ℕ

-- P1: feeds(X,Y) :- feeds(X,Z), pipe(Z,Y).
abbrev pub p1_book : Image
p1_book = 0x05 ∷ 0x02 ∷ 0x04 ∷ 0x00 ∷ 0x00 ∷ 0x02 ∷ 0x01 ∷ 0x00 ∷ 0x00 ∷ 0x01 ∷ 0x00 ∷ 0x01 ∷ 0x04 ∷ 0x00 ∷ 0x00 ∷ 0x02 ∷ 0x01 ∷ 0x00 ∷ 0x00 ∷ 0x01 ∷ 0x00 ∷ 0x02 ∷ 0x04 ∷ 0x00 ∷ 0x01 ∷ 0x02 ∷ 0x01 ∷ 0x00 ∷ 0x02 ∷ 0x01 ∷ 0x00 ∷ 0x01 ∷ 0x07 ∷ []

-- feeds(a,V)
abbrev pub p1_query : Image
p1_query = 0x06 ∷ 0x00 ∷ 0x01 ∷ 0x04 ∷ 0x00 ∷ 0x00 ∷ 0x02 ∷ 0x02 ∷ 0x00 ∷ 0x00 ∷ 0x01 ∷ 0x00 ∷ 0x00 ∷ []

-- feeds(a,V), pipe(V,W)
abbrev pub p1_left : Image
p1_left = 0x06 ∷ 0x00 ∷ 0x02 ∷ 0x04 ∷ 0x00 ∷ 0x00 ∷ 0x02 ∷ 0x02 ∷ 0x00 ∷ 0x00 ∷ 0x01 ∷ 0x00 ∷ 0x00 ∷ 0x04 ∷ 0x00 ∷ 0x01 ∷ 0x02 ∷ 0x01 ∷ 0x00 ∷ 0x00 ∷ 0x01 ∷ 0x00 ∷ 0x01 ∷ []

-- feeds(a,W): the answer, whose variable the goal has numbered
abbrev pub p1_answer : Image
p1_answer = 0x06 ∷ 0x00 ∷ 0x01 ∷ 0x04 ∷ 0x00 ∷ 0x00 ∷ 0x02 ∷ 0x02 ∷ 0x00 ∷ 0x00 ∷ 0x01 ∷ 0x00 ∷ 0x01 ∷ []

-- P2 to P4: p :- q. q :- s. s :- p.
abbrev pub p2_book : Image
p2_book = 0x05 ∷ 0x01 ∷ 0x04 ∷ 0x00 ∷ 0x00 ∷ 0x00 ∷ 0x04 ∷ 0x00 ∷ 0x01 ∷ 0x00 ∷ 0x05 ∷ 0x01 ∷ 0x04 ∷ 0x00 ∷ 0x01 ∷ 0x00 ∷ 0x04 ∷ 0x00 ∷ 0x02 ∷ 0x00 ∷ 0x05 ∷ 0x01 ∷ 0x04 ∷ 0x00 ∷ 0x02 ∷ 0x00 ∷ 0x04 ∷ 0x00 ∷ 0x00 ∷ 0x00 ∷ 0x07 ∷ []

-- p
abbrev pub p2_query : Image
p2_query = 0x06 ∷ 0x00 ∷ 0x01 ∷ 0x04 ∷ 0x00 ∷ 0x00 ∷ 0x00 ∷ []

-- q
abbrev pub p2_left : Image
p2_left = 0x06 ∷ 0x00 ∷ 0x01 ∷ 0x04 ∷ 0x00 ∷ 0x01 ∷ 0x00 ∷ []

-- P5 and P6: e(a).
abbrev pub p5_book : Image
p5_book = 0x05 ∷ 0x00 ∷ 0x04 ∷ 0x00 ∷ 0x01 ∷ 0x01 ∷ 0x02 ∷ 0x00 ∷ 0x01 ∷ 0x07 ∷ []

-- e(a), e(a)
abbrev pub p5_query : Image
p5_query = 0x06 ∷ 0x00 ∷ 0x02 ∷ 0x04 ∷ 0x00 ∷ 0x01 ∷ 0x01 ∷ 0x02 ∷ 0x00 ∷ 0x01 ∷ 0x04 ∷ 0x00 ∷ 0x01 ∷ 0x01 ∷ 0x02 ∷ 0x00 ∷ 0x01 ∷ []

-- e(a)
abbrev pub p5_rest : Image
p5_rest = 0x06 ∷ 0x00 ∷ 0x01 ∷ 0x04 ∷ 0x00 ∷ 0x01 ∷ 0x01 ∷ 0x02 ∷ 0x00 ∷ 0x01 ∷ []

-- e(b)
abbrev pub p6_query : Image
p6_query = 0x06 ∷ 0x00 ∷ 0x01 ∷ 0x04 ∷ 0x00 ∷ 0x01 ∷ 0x01 ∷ 0x02 ∷ 0x00 ∷ 0x02 ∷ []

-- P7: h(X,f(X)).
abbrev pub p7_book : Image
p7_book = 0x05 ∷ 0x00 ∷ 0x04 ∷ 0x00 ∷ 0x00 ∷ 0x02 ∷ 0x01 ∷ 0x00 ∷ 0x00 ∷ 0x03 ∷ 0x00 ∷ 0x00 ∷ 0x01 ∷ 0x01 ∷ 0x00 ∷ 0x00 ∷ 0x07 ∷ []

-- h(Y,Y)
abbrev pub p7_query : Image
p7_query = 0x06 ∷ 0x00 ∷ 0x01 ∷ 0x04 ∷ 0x00 ∷ 0x00 ∷ 0x02 ∷ 0x01 ∷ 0x00 ∷ 0x00 ∷ 0x01 ∷ 0x00 ∷ 0x00 ∷ []

-- P8: w(b) :- w(a). w(a).
abbrev pub p8_book : Image
p8_book = 0x05 ∷ 0x01 ∷ 0x04 ∷ 0x00 ∷ 0x00 ∷ 0x01 ∷ 0x02 ∷ 0x00 ∷ 0x00 ∷ 0x04 ∷ 0x00 ∷ 0x00 ∷ 0x01 ∷ 0x02 ∷ 0x00 ∷ 0x01 ∷ 0x05 ∷ 0x00 ∷ 0x04 ∷ 0x00 ∷ 0x00 ∷ 0x01 ∷ 0x02 ∷ 0x00 ∷ 0x01 ∷ 0x07 ∷ []

-- w(V)
abbrev pub p8_query : Image
p8_query = 0x06 ∷ 0x00 ∷ 0x01 ∷ 0x04 ∷ 0x00 ∷ 0x00 ∷ 0x01 ∷ 0x01 ∷ 0x00 ∷ 0x00 ∷ []

-- w(a)
abbrev pub p8_rest : Image
p8_rest = 0x06 ∷ 0x00 ∷ 0x01 ∷ 0x04 ∷ 0x00 ∷ 0x00 ∷ 0x01 ∷ 0x02 ∷ 0x00 ∷ 0x01 ∷ []

-- w(b)
abbrev pub p8_answer : Image
p8_answer = 0x06 ∷ 0x00 ∷ 0x01 ∷ 0x04 ∷ 0x00 ∷ 0x00 ∷ 0x01 ∷ 0x02 ∷ 0x00 ∷ 0x00 ∷ []

-- P9: no clause
abbrev pub p9_book : Image
p9_book = 0x07 ∷ []

abbrev pub empty_goal : Image
empty_goal = 0x06 ∷ 0x00 ∷ 0x00 ∷ []

-- A line of a table: the query, or any; the image that is left, or the area as it was.

abbrev pub Asked : Option Image → Image → Type 0
Asked none q = Unit {0}
Asked (some p) q = q ≡ p

abbrev pub leaves : Option Image → Image → Image
leaves none area = area
leaves (some g) area = over g area

-- what is answered to the query, and made of the area, is the line's, in an area of any bytes that is long enough
abbrev pub Holds : {R : Type 0} → (Image → Image → R) → (Image → Image → Image) → Option Image → R → Option Image → Type 0
Holds answer after asked result left = (query : Image) → Asked asked query → (area : Image) → 16387 ≤ length area → (answer query area ≡ result) × (after query area ≡ leaves left area)

-- Q holds of each line
abbrev pub All : {A : Type 0} → (A → Type 0) → List A → Type 0
All Q [] = Unit {0}
All Q (x ∷ l) = Q x × All Q l

pub all_map : {A B : Type 0} (Q : A → Type 0) (R : B → Type 0) (F : A → B) → ((x : A) → Q x → R (F x)) → (l : List A) → All Q l → All R (map F l)
all_map Q R F keeps [] all = tt
all_map Q R F keeps (x ∷ l) all = (keeps x all.0, all_map Q R F keeps l all.1)

-- The refused books.

-- whatever the query, the book is refused with its code and its place
pub record Faulty (c : Case) : Type 0 where
  pub refuses : (query : Image) (room : ℕ) → 16387 ≤ room → refusal c.book query room ≡ record { code = c.code; place = c.place }
  pub code : c.code ≡ 0 → ⊥

faulty : (c : Case) → book_verdict c.book ≡ record { code = c.code; place = c.place; count = 0 } → ltb 0 c.code ≡ true → Faulty c
faulty c e n = record {
  refuses = λ query room long. book_decides c.book query room long (λ z. omega (arith, ap (λ (k : Check). k.code) e, z, ltb-true 0 c.code n)) ∙ ap (λ (k : Check). record { code = k.code; place = k.place }) e;
  code = λ z. omega (arith, ltb-true 0 c.code n);
}

pub cases-faulty : All Faulty cases
cases-faulty = let a = cases-answered in (faulty _ a.0 refl, (faulty _ a.1.0 refl, (faulty _ a.1.1.0 refl, (faulty _ a.1.1.1.0 refl, (faulty _ a.1.1.1.1.0 refl, tt)))))
