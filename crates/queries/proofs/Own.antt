-- The query's own names behind those of the list.
use Prim.Native.Nat.{ℕ, zero, suc, ◌+◌, ◌*◌, ◌≤◌, ◌<◌}
use mathlib.Core.Path.{◌≡◌, sym as inv, ap, ◌∙◌, subst}
use mathlib.Core.List.{List, [], ◌∷◌, ◌++◌}
use native.Mathlib.Omega.{arith}
use lib.ListN.{length, get_or, length-append}
use Rattle.format.specs.Format.{Bytes}
use Rattle.grammar.specs.Syntax.{Formula}
use Rattle.grammar.specs.Names.{Sort, Constant, Compound, Predicate, entries, list_of}
use Rattle.grammar.specs.Query.{names_with}
use Rattle.stages.proofs.Kept.{word-long}
use Rattle.namelist.specs.Table.{EachFit}
use Rattle.namelist.specs.SpeltLaws.{asks-fit}
use Rattle.asking.specs.Accepted.{Accepted}
use Rattle.questions.specs.Given.{Gives, given_from, gives-means, lists-same}
use Rattle.questions.proofs.NewNames.{with_good}
use Rattle.known.specs.declared.Known.{Known}
use Rattle.laying.specs.declared.Draft.{Draft}
use Rattle.laying.specs.declared.Kind.TheVariants as Kind
use Rattle.laying.specs.PageLaws.{spots_all}
use Rattle.laying.specs.NodeLaws.{names-laid}
use Rattle.laying.specs.Words.{Words, Kept, Knowing}
use Rattle.relisting.specs.Relisted.{Owns, Relists, with_own}

-- Names of at most 32 bytes

fit-right : (a b : List (List ℕ)) → EachFit (a ++ b) → EachFit b
fit-right [] b h = h
fit-right (w ∷ a) b h = fit-right a b h.1

fit_at : (l : List (List ℕ)) → EachFit l → (i : ℕ) → i < length l → length (get_or l i []) ≤ 32
fit_at [] h i m = absurd (omega arith)
fit_at (w ∷ l) h zero m = h.0.short
fit_at (w ∷ l) h (suc i) m = fit_at l h.1 i (omega arith)

entries-few : (k : Sort) (n : ℕ) (l : List (List ℕ)) → EachFit l → length (entries k n l) ≤ 36 * length l
entries-few k n [] h = omega arith
entries-few k n (w ∷ l) h = omega (arith, length-append w (entries k (suc n) l), entries-few k (suc n) l h.1, h.0.short)

module _ (names : List ℕ) (bytes : Bytes names) (g : Known) (know : Knowing names g) where
  pub gives-here : Gives names (given_from names)
  gives-here = gives-means names bytes know.is

  pub names-short : length names ≤ 16777216
  names-short =
      let G = given_from names in
      let l = gives-here.good in
      omega (
        arith,
        ap length gives-here.is,
        length-append (entries Constant 0 (G Constant)) (entries Compound 0 (G Compound) ++ entries Predicate 0 (G Predicate)),
        length-append (entries Compound 0 (G Compound)) (entries Predicate 0 (G Predicate)),
        entries-few Constant 0 (G Constant) (l.fit Constant),
        entries-few Compound 0 (G Compound) (l.fit Compound),
        entries-few Predicate 0 (G Predicate) (l.fit Predicate),
        l.few Constant,
        l.few Compound,
        l.few Predicate,
      )

  module _ (text table : List ℕ) (d : Draft) (fs : List Formula) (a : Accepted text fs) (kept : Kept (given_from names) text table d (spots_all [] fs)) where
    pub own : Sort → List (List ℕ)
    own Constant = kept.own Kind.Constant
    own Compound = kept.own Kind.Compound
    own Predicate = kept.own Kind.Predicate

    names-own : (k : Sort) → with_own (given_from names) own k ≡ names_with (given_from names) fs k
    unfolding own
    names-own Constant = kept.whole Kind.Constant ∙ inv (names-laid (given_from names) fs Constant)
    names-own Compound = kept.whole Kind.Compound ∙ inv (names-laid (given_from names) fs Compound)
    names-own Predicate = kept.whole Kind.Predicate ∙ inv (names-laid (given_from names) fs Predicate)

    own-short : (k : Sort) (i : ℕ) → i < length (own k) → length (get_or (own k) i []) ≤ 32
    own-short k =
        fit_at (own k)
        (fit-right (given_from names k) (own k)
        (subst EachFit (inv (names-own k)) ((with_good (given_from names) fs gives-here.good (asks-fit fs a.asks a.sized) a.sized).fit k)))

    owned : (k : Sort) (base n : ℕ) → Words text table base (own k) n → Owns text table base (own k) n
    owned k base n w =
        record {
          words = w;
          short =
              λ i (h : i < n).
              omega (arith, word-long text (get_or table (base + i) 0) (get_or table (16384 + (base + i)) 0 + 1) (w.inside i h), ap length (w.spelt i h), own-short k i (omega (arith, h, w.count)));
        }

    pub relists : Relists names text table g d own
    unfolding own
    relists =
        record {
          knowing = know;
          owned =
              record {
                constants = owned Constant 4096 d.constants (kept.words Kind.Constant);
                compounds = owned Compound 8192 d.compounds (kept.words Kind.Compound);
                predicates = owned Predicate 12288 d.predicates (kept.words Kind.Predicate);
              };
          sizes = record { long = kept.long; constants = kept.few Kind.Constant; compounds = kept.few Kind.Compound; predicates = kept.few Kind.Predicate };
        }

    pub list_same : list_of (with_own (given_from names) own) ≡ list_of (names_with (given_from names) fs)
    list_same = lists-same (with_own (given_from names) own) (names_with (given_from names) fs) names-own
