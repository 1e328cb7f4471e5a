-- What is refused before a text is laid down.
use Prim.Native.Nat.{ℕ, ◌≤◌}
use mathlib.Core.Path.{◌≡◌, refl, sym as inv, ap, ◌∙◌, subst}
use mathlib.Core.Bool.{true, false}
use Rattle.std.specs.declared.option.Option.{Option}
use Rattle.std.specs.declared.option.Option.TheVariants.{Some}
use mathlib.Core.List.{List}
use native.Mathlib.Omega.{arith}
use lib.ListN.{length}
use Rattle.format.specs.Format.{Bytes}
use Rattle.format.specs.declared.Check.{Check}
use Rattle.format.specs.Reading.{book_verdict}
use Rattle.grammar.specs.Names.{Constant, Compound, Predicate}
use Rattle.asking.specs.Asking.{Outcome, read, refused, asking}
use Rattle.areas.proofs.Places.{book-place}
use Rattle.turns.specs.declared.TextCheck.{TextCheck}
use Rattle.turns.specs.Passing.{text_check}
use Rattle.turns.specs.Once.{check-text-means}
use Rattle.questions.specs.declared.ReadQuery.{ReadQuery}
use Rattle.questions.specs.Given.{Gives, given_from, gives, gives-means}
use Rattle.questions.specs.Outcome.{refusal}
use Rattle.questions.proofs.OutcomeLaws.{is-not-good, is-no-list, is-bad-text}
use Rattle.questions.specs.Is.{Is}
use Rattle.known.specs.declared.Known.{Known}
use Rattle.known.specs.Known.{Knows}
use Rattle.laying.specs.declared.Kind.{Kind}
use Rattle.laying.specs.Words.{given_of, list_of}
use Rattle.queries.specs.Finished.{Ready}
use Rattle.queries.proofs.Finishing.{answers}

module _ (book : List ℕ) (v : Check) (said : v ≡ book_verdict book) where
  code-said : v.code ≡ (book_verdict book).code
  code-said = ap (λ (x : Check). x.code) said

  pub place-low : v.place ≤ 32768
  place-low = omega (arith, ap (λ (x : Check). x.place) said, book-place book)

  pub bad_book : (text names query list : List ℕ) (s : ReadQuery) → (v.code ≡ 0 → ⊥) → s ≡ refusal v.code v.place → Is text book names query list s query list
  bad_book text names query list s n q = answers (q ∙ ap (λ (x : Check). refusal x.code x.place) said) (is-not-good text book names query list (λ z. n (code-said ∙ z)))

  module _ (zero-code : v.code ≡ 0) where
    good : (book_verdict book).code ≡ 0
    good = inv code-said ∙ zero-code

    module _ (names : List ℕ) where
      pub bad-list : gives names ≡ false → (text query list : List ℕ) (s : ReadQuery) → s ≡ refusal 45 0 → Is text book names query list s query list
      bad-list e text query list s q = answers q (is-no-list text book names query list good e)

      module _ (o : Option Known) (k : Knows names o) (g : Known) (is : o ≡ Some g) where
        said_of : Knows names (Some g)
        said_of = subst (Knows names) is k

        given : gives names ≡ true
        given = said_of.0

        counts : (j : Kind) → given_of g j ≡ length (list_of (given_from names) j)
        counts Kind.Variable = refl
        counts Kind.Constant = said_of.1 Constant
        counts Kind.Compound = said_of.1 Compound
        counts Kind.Predicate = said_of.1 Predicate

        few : Gives names (given_from names) → (j : Kind) → length (list_of (given_from names) j) ≤ 61439
        few h Kind.Variable = omega arith
        few h Kind.Constant = h.good.few Constant
        few h Kind.Compound = h.good.few Compound
        few h Kind.Predicate = h.good.few Predicate

        module _ (text : List ℕ) (c : TextCheck) (e : c ≡ text_check (asking text)) where
          pub bad_text : (query list : List ℕ) (s : ReadQuery) → (c.code ≡ 0 → ⊥) → s ≡ refusal c.code c.place → Is text book names query list s query list
          bad_text query list s n q = by (asking text) refl
            where
              by : (o : Outcome) → asking text ≡ o → Is text book names query list s query list
              by (read fs) p = absurd (n (ap (λ (x : TextCheck). x.code) (e ∙ ap text_check p)))
              by (refused code place) p =
                  let y : c ≡ text_check (refused code place) = e ∙ ap text_check p in
                  answers (q ∙ ap (λ (x : TextCheck). refusal x.code x.place) y)
                  (is-bad-text text book names query list good given code place p (λ w. n (ap (λ (x : TextCheck). x.code) y ∙ w)))

          pub ready : Bytes names → c.code ≡ 0 → Ready text book names g
          ready bytes n =
              let a = (check-text-means text).0 (ap (λ (x : TextCheck). x.code) (inv e) ∙ n) in
              record {
                good = good;
                knowing = record { is = given; counts = counts; few = λ j. omega (arith, counts j, few (gives-means names bytes given) j) };
                formulas = a.0;
                accepted = a.1;
              }
