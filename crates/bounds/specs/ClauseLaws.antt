-- A clause's words: head, the body's first formula, and the rest.
use Rattle.std.specs.Prelude.{ℕ, ◌+◌, ◌-◌, ◌≤◌, ◌≡◌, refl, Bool, List, [], ◌++◌, eqb, length, take, drop}
use Rattle.std.proofs.Common.{arith, eqb-true, sym as inv, ap, ap₂, ◌∙◌, subst, append-nil, take-append-drop, length-take, length-drop, take_all, drop-drop}
use Rattle.std.proofs.lemmas.List.{map-append}
use Rattle.terms.specs.Node.{Expr}
use Rattle.words.specs.Word.{Fit, Fits, node, nodes}
use Rattle.words.specs.WordLaws.{each_append, fits_more}
use Rattle.bounds.specs.Thrift.{away, fresh, Thrifty, Kept}
use Rattle.bounds.specs.Tally.{Tally, Noting, Taking, Took, Thrifts}
use Rattle.bounds.specs.WeighLaws.{weigh-append}
use Rattle.bounds.specs.ThriftLaws.{kept-matched}
use Rattle.bounds.specs.declared.clauses.Noted.{Noted}
use Rattle.bounds.specs.declared.clauses.Taken.{Taken}
use Rattle.bounds.specs.declared.clauses.Thrift.{Thrift}

abbrev start : Taken
start = record { matched = 0; fresh = 0; names = 0 }

taking-start : {a b : Expr} {counts : List ℕ} → Tally a b counts → Taking a b [] counts start
taking-start {a} {b} {counts} t = record {
  tally = subst (λ e. Tally a e counts) (inv (append-nil b)) t;
  fresh = refl;
  matched = refl;
  names = λ x l. absurd (omega arith);
  few = omega arith;
}

tally-thrifty : {a b : Expr} {counts : List ℕ} → Tally a b counts → Thrifty a b
tally-thrifty t x n = omega (arith, t.some x n, t.left x n)

module _ (clause : List ℕ) (head first p q s : ℕ) (ep : p ≡ head) (eq : q ≡ first - head) (es : s ≡ length clause - first) (l : head ≤ first) (short : length clause ≤ 256) where
  abbrev H : List ℕ
  H = take p clause

  abbrev B : List ℕ
  B = take q (drop head clause)

  abbrev C : List ℕ
  C = take s (drop first clause)

  head-is : H ≡ take head clause
  head-is = ap (λ n. take n clause) ep

  first-is : B ≡ take (first - head) (drop head clause)
  first-is = ap (λ n. take n (drop head clause)) eq

  rest_is : C ≡ drop q (drop head clause)
  rest_is =
      let e : head + q ≡ first = omega (arith, eq, l) in
      take_all s (drop first clause) (omega (arith, es, length-drop first clause)) ∙ inv (drop-drop q head clause ∙ ap (λ n. drop n clause) e)

  body_is : B ++ C ≡ drop head clause
  body_is = ap (λ x. B ++ x) rest_is ∙ take-append-drop q (drop head clause)

  body-nodes : nodes B ++ nodes C ≡ nodes (drop head clause)
  body-nodes = inv (map-append node B C) ∙ ap nodes body_is

  clause-is : H ++ (B ++ C) ≡ clause
  clause-is = ap₂ ◌++◌ head-is body_is ∙ take-append-drop head clause

  long : length B + length C ≤ 256
  long = omega (arith, length-take q (drop head clause), length-take s (drop first clause), length-drop head clause, length-drop first clause, eq, es, l, short)

  module _ {counts₁ counts₂ counts₃ : List ℕ} {a : Noted} {b c : Taken} (x : Noting H counts₁ a) (y : Took B counts₁ start counts₂ b) (z : Took C counts₂ start counts₃ c) where
    took-b : Taking (nodes H) [] B counts₂ b
    took-b = y.taken (nodes H) [] [] (taking-start x.tally)

    took-c : Taking (nodes H) (nodes B) C counts₃ c
    took-c = z.taken (nodes H) (nodes B) [] (taking-start took-b.tally)

    pub both_small : b.fresh + c.fresh ≤ 256
    both_small = omega (arith, y.more, z.more, long)

    kept_b : b.matched ≡ a.places → Kept (nodes H) (nodes B)
    kept_b e = kept-matched (nodes H) (nodes B) (tally-thrifty took-b.tally) (omega (arith, took-b.matched, took-b.fresh)) (e ∙ x.places)

    pub thrift-end : {m k : ℕ} {w : Bool} → (b.names ≤ m) × (c.names ≤ m) × ((j : ℕ) → b.names ≤ j → c.names ≤ j → m ≤ j)
        → (a.names ≤ k) × (m ≤ k) × ((j : ℕ) → a.names ≤ j → m ≤ j → k ≤ j) → w ≡ eqb b.matched a.places
        → Thrifts clause head first (record { fresh = b.fresh + c.fresh; whole = w; names = k })
    thrift-end {m} {k} em ek ew = record {
      few = ek.2 64 x.few (em.2 64 took-b.few took-c.few);
      names = subst (Fits k) clause-is (each_append (Fit k) H (B ++ C) (fits_more a.names k H ek.0 x.names) (each_append (Fit k) B C
          (fits_more b.names k B (omega (arith, em.0, ek.1)) took-b.names) (fits_more c.names k C (omega (arith, em.1, ek.1)) took-c.names)));
      small = both_small;
      fresh =
          omega (arith, took-b.fresh, took-c.fresh, weigh-append (away (nodes H) (λ v. 1)) (nodes B) (nodes C))
          ∙ ap₂ (λ h e. fresh (nodes h) e) head-is body-nodes;
      thrifty = subst (λ h. Thrifty (nodes h) (nodes (drop head clause))) head-is (subst (Thrifty (nodes H)) body-nodes (tally-thrifty took-c.tally));
      kept = λ e. subst (λ h. Kept (nodes h) (nodes (take (first - head) (drop head clause)))) head-is
          (subst (λ w. Kept (nodes H) (nodes w)) first-is (kept_b (eqb-true b.matched a.places (inv ew ∙ e))));
    }
