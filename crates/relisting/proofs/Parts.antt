-- The list with the query's own names, part by part.
use Prim.Native.Nat.{ℕ, suc, ◌+◌, ◌-◌, ◌*◌, ◌≤◌}
use mathlib.Core.Path.{◌≡◌, refl, sym as inv, ap, ◌∙◌, subst}
use mathlib.Core.List.{List, [], ◌∷◌, ◌++◌, append_assoc}
use native.Mathlib.Omega.{arith}
use lib.ListN.{length, take, drop, length-append}
use lib.Seq.{take_all, drop-drop}
use borrow.Rule.Slice.PartMut.{put_mid}
use Rattle.format.specs.Format.{Bytes}
use Rattle.grammar.specs.Names.{Sort, Constant, Compound, Predicate, entries, list_of}
use Rattle.grammar.specs.Query.{Given}
use Rattle.nametable.specs.Table.{word}
use Rattle.namelist.specs.List.{Entry, IsList}
use Rattle.namelist.specs.ListLaws.{Stands}
use Rattle.namelist.specs.Meaning.{list-stands}
use Rattle.namelist.specs.Table.{EachFit, entries_on, table_entries, table-list}
use Rattle.questions.specs.Given.{Gives, given_from, gives-means}
use Rattle.storage.specs.Storage.{Written}
use Rattle.storage.proofs.Filling.{written_as}
use Rattle.listing.specs.Lists.{noted}
use Rattle.known.specs.declared.Known.{Known}
use Rattle.laying.specs.declared.Draft.{Draft}
use Rattle.laying.specs.declared.Kind.TheVariants as Kind
use Rattle.relisting.specs.declared.Part.{Part}
use Rattle.relisting.specs.Relisted.{Skipped, Owns, Sorts, part_bytes, constants_part, compounds_part, predicates_part, with_own, Relists}
use Rattle.relisting.proofs.Whole.{two-start, two-length, two-room, two-written, two-counted, sort-bytes, other-second, other-third, front-part, back-part}

-- Sizes

module _ (names text table : List ℕ) (bytes : Bytes names) (d : Draft) (g : Known) (own : Sort → List (List ℕ)) (h : Relists names text table g d own) where
  abbrev G : Given
  G = given_from names

  abbrev EC : List ℕ
  EC = entries Constant 0 (G Constant)

  abbrev EF : List ℕ
  EF = entries Compound 0 (G Compound)

  abbrev EP : List ℕ
  EP = entries Predicate 0 (G Predicate)

  given : Gives names G
  given = gives-means names bytes h.knowing.is

  names-is : names ≡ EC ++ (EF ++ EP)
  names-is = given.is

  constants-are : EC ++ noted 2 g.constants (own Constant) ≡ entries Constant 0 (G Constant ++ own Constant)
  constants-are = sort-bytes Constant g.constants (G Constant) (own Constant) (h.knowing.counts Kind.Constant)

  compounds-are : EF ++ noted 3 g.compounds (own Compound) ≡ entries Compound 0 (G Compound ++ own Compound)
  compounds-are = sort-bytes Compound g.compounds (G Compound) (own Compound) (h.knowing.counts Kind.Compound)

  predicates-are : EP ++ noted 4 g.predicates (own Predicate) ≡ entries Predicate 0 (G Predicate ++ own Predicate)
  predicates-are = sort-bytes Predicate g.predicates (G Predicate) (own Predicate) (h.knowing.counts Kind.Predicate)

  pub size-said : (c f p r : ℕ) → ((t : List ℕ) (ns : List (List ℕ)) (a first : ℕ) → Owns t table 4096 ns d.constants → c ≡ length (noted a first ns)) → ((t : List ℕ) (ns : List (List ℕ)) (a first : ℕ) → Owns t table 8192 ns d.compounds → f ≡ length (noted a first ns)) →
      ((t : List ℕ) (ns : List (List ℕ)) (a first : ℕ) → Owns t table 12288 ns d.predicates → p ≡ length (noted a first ns)) → r ≡ length names + (c + (f + p)) → r ≡ length (list_of (with_own G own))
  size-said c f p r x y z q =
      let a = x text (own Constant) 2 g.constants h.owned.constants in
      let b = y text (own Compound) 3 g.compounds h.owned.compounds in
      let e = z text (own Predicate) 4 g.predicates h.owned.predicates in
      let P = entries Constant 0 (G Constant ++ own Constant) in
      let Q = entries Compound 0 (G Compound ++ own Compound) in
      let R = entries Predicate 0 (G Predicate ++ own Predicate) in
      omega (arith, q, a, b, e, ap length names-is, length-append EC (EF ++ EP), length-append EF EP, length-append P (Q ++ R), length-append Q R, ap length constants-are, ap length compounds-are, ap length predicates-are, length-append EC (noted 2 g.constants (own Constant)), length-append EF (noted 3 g.compounds (own Compound)), length-append EP (noted 4 g.predicates (own Predicate)))

  entries-low : (k : Sort) (n : ℕ) (l : List (List ℕ)) → EachFit l → length (entries k n l) ≤ 36 * length l
  entries-low k n [] f = omega arith
  entries-low k n (w ∷ l) f = omega (arith, length-append w (entries k (n + 1) l), f.0.short, entries-low k (n + 1) l f.1, ap (λ (i : ℕ). length (entries k i l)) (let z : n + 1 ≡ suc n = omega arith in z), length-append w (entries k (suc n) l))

  pub names-low : length names ≤ 16777216
  names-low =
      omega (arith, ap length names-is, length-append EC (EF ++ EP), length-append EF EP, entries-low Constant 0 (G Constant) (given.good.fit Constant), entries-low Compound 0 (G Compound) (given.good.fit Compound), entries-low Predicate 0 (G Predicate) (given.good.fit Predicate), given.good.few Constant, given.good.few Compound, given.good.few Predicate)

  -- Where the sorts stand

  abbrev rest : List Entry
  rest = entries_on Compound 0 (G Compound) ++ entries_on Predicate 0 (G Predicate)

  stands : Stands names 0 (entries_on Constant 0 (G Constant) ++ rest)
  stands = list-stands names (table_entries G) (subst (λ (z : List ℕ). IsList z (table_entries G)) (inv given.is) (table-list 61439 G given.good (omega arith)))

  pub first-stands : (l : List Entry) × Stands names 0 l
  first-stands = (entries_on Constant 0 (G Constant) ++ rest, stands)

  module _ (x : ℕ) (sx : Skipped names 0 2 x) where
    x-is : x ≡ length EC
    x-is = sx.ends Constant 0 (G Constant) rest stands refl (other-second (G Compound) (G Predicate)) ∙ omega arith

    second : Stands names x rest
    second = sx.stands Constant 0 (G Constant) rest stands refl (other-second (G Compound) (G Predicate))

    pub second-stands : (l : List Entry) × Stands names x l
    second-stands = (rest, second)

    behind-x : drop x names ≡ EF ++ EP
    behind-x = back-part EC (EF ++ EP) names x names-is x-is

    module _ (y : ℕ) (sy : Skipped names x 3 y) where
      y-is : y ≡ x + length EF
      y-is = sy.ends Compound 0 (G Compound) (entries_on Predicate 0 (G Predicate)) second refl (other-third (G Predicate))

      whole_long : length names ≡ length EC + (length EF + length EP)
      whole_long = ap length names-is ∙ length-append EC (EF ++ EP) ∙ ap (λ (n : ℕ). length EC + n) (length-append EF EP)

      first-bytes : word names 0 (x - 0) ≡ EC
      first-bytes = front-part EC (EF ++ EP) names (x - 0) names-is (omega (arith, x-is))

      second-bytes : word names x (y - x) ≡ EF
      second-bytes = front-part EF EP (drop x names) (y - x) behind-x (omega (arith, y-is))

      behind-y : drop y names ≡ EP
      behind-y = ap (λ (n : ℕ). drop n names) y-is ∙ inv (drop-drop (length EF) x names) ∙ back-part EF EP (drop x names) (length EF) behind-x refl

      third-bytes : word names y (length names - y) ≡ EP
      third-bytes = ap (take (length names - y)) behind-y ∙ take_all (length names - y) EP (omega (arith, whole_long, y-is, x-is))

      module _ (p₁ p₂ p₃ : Part) (e₁ : p₁ ≡ constants_part g d x) (e₂ : p₂ ≡ compounds_part g d x y) (e₃ : p₃ ≡ predicates_part g d y (length names)) where
        abbrev P₁ : List ℕ
        P₁ = entries Constant 0 (G Constant ++ own Constant)

        abbrev P₂ : List ℕ
        P₂ = entries Compound 0 (G Compound ++ own Compound)

        abbrev P₃ : List ℕ
        P₃ = entries Predicate 0 (G Predicate ++ own Predicate)

        part₁ : part_bytes names p₁ (own Constant) ≡ P₁
        part₁ = ap (λ (p : Part). part_bytes names p (own Constant)) e₁ ∙ ap (λ (l : List ℕ). l ++ noted 2 g.constants (own Constant)) first-bytes ∙ constants-are

        part₂ : part_bytes names p₂ (own Compound) ≡ P₂
        part₂ = ap (λ (p : Part). part_bytes names p (own Compound)) e₂ ∙ ap (λ (l : List ℕ). l ++ noted 3 g.compounds (own Compound)) second-bytes ∙ compounds-are

        part₃ : part_bytes names p₃ (own Predicate) ≡ P₃
        part₃ = ap (λ (p : Part). part_bytes names p (own Predicate)) e₃ ∙ ap (λ (l : List ℕ). l ++ noted 4 g.predicates (own Predicate)) third-bytes ∙ predicates-are

        owns₁ : Owns text table p₁.base (own Constant) p₁.count
        owns₁ = rw e₁ h.owned.constants

        owns₂ : Owns text table p₂.base (own Compound) p₂.count
        owns₂ = rw e₂ h.owned.compounds

        owns₃ : Owns text table p₃.base (own Predicate) p₃.count
        owns₃ = rw e₃ h.owned.predicates

        sorts₁ : (area : List ℕ) → length P₁ ≤ length area → Sorts area names text table p₁
        sorts₁ area l =
            let room = subst (λ (b : List ℕ). length b ≤ length area) (inv part₁) l in
            rw e₁
            (record {
              own = own Constant;
              owns = h.owned.constants;
              onward = omega arith;
              inside = omega (arith, x-is, whole_long);
              table_inside = omega (arith, h.sizes.constants);
              long = h.sizes.long;
              numbers = omega (arith, h.sizes.constants, h.knowing.few Kind.Constant);
              room = subst (λ (p : Part). length (part_bytes names p (own Constant)) ≤ length area) e₁ room;
            })

        sorts₂ : (area : List ℕ) → length P₂ ≤ length area → Sorts area names text table p₂
        sorts₂ area l =
            let room = subst (λ (b : List ℕ). length b ≤ length area) (inv part₂) l in
            rw e₂
            (record {
              own = own Compound;
              owns = h.owned.compounds;
              onward = omega (arith, y-is);
              inside = omega (arith, x-is, y-is, whole_long);
              table_inside = omega (arith, h.sizes.compounds);
              long = h.sizes.long;
              numbers = omega (arith, h.sizes.compounds, h.knowing.few Kind.Compound);
              room = subst (λ (p : Part). length (part_bytes names p (own Compound)) ≤ length area) e₂ room;
            })

        sorts₃ : (area : List ℕ) → length P₃ ≤ length area → Sorts area names text table p₃
        sorts₃ area l =
            let room = subst (λ (b : List ℕ). length b ≤ length area) (inv part₃) l in
            rw e₃
            (record {
              own = own Predicate;
              owns = h.owned.predicates;
              onward = omega (arith, x-is, y-is, whole_long);
              inside = omega arith;
              table_inside = omega (arith, h.sizes.predicates);
              long = h.sizes.long;
              numbers = omega (arith, h.sizes.predicates, h.knowing.few Kind.Predicate);
              room = subst (λ (p : Part). length (part_bytes names p (own Predicate)) ≤ length area) e₃ room;
            })

        module _ (area : List ℕ) (room : length (list_of (with_own G own)) ≤ length area) where
          both-room : length (P₁ ++ P₂) ≤ length area
          both-room = omega (arith, room, length-append P₁ (P₂ ++ P₃), length-append P₂ P₃, length-append P₁ P₂)

          all_room : length ((P₁ ++ P₂) ++ P₃) ≤ length area
          all_room = subst (λ (l : List ℕ). length l ≤ length area) (inv (append_assoc P₁ P₂ P₃)) room

          pub list-first : Sorts area names text table p₁
          list-first = sorts₁ area (omega (arith, both-room, length-append P₁ P₂))

          module _ (area₁ : List ℕ) (a : ℕ) (w₁ : (o : List (List ℕ)) → Owns text table p₁.base o p₁.count → Written (part_bytes names p₁ o) area area₁ a) where
            written₁ : Written P₁ area area₁ a
            written₁ = written_as part₁ (w₁ (own Constant) owns₁)

            pub list-start : a ≤ length area₁
            list-start = two-start P₁ P₂ area area₁ a both-room written₁

            pub list_length : length area₁ ≡ length area
            list_length = two-length P₁ P₂ area area₁ a both-room written₁

            pub list-second : Sorts (take (length area₁ - a) (drop a area₁)) names text table p₂
            list-second = sorts₂ (take (length area₁ - a) (drop a area₁)) (two-room P₁ P₂ area area₁ a both-room written₁)

            module _ (part area₂ : List ℕ) (b : ℕ) (w₂ : (o : List (List ℕ)) → Owns text table p₂.base o p₂.count → Written (part_bytes names p₂ o) (take (length area₁ - a) (drop a area₁)) part b) (q : area₂ ≡ put_mid a (length area₁ - a) area₁ part) where
              part-written : Written P₂ (take (length area₁ - a) (drop a area₁)) part b
              part-written = written_as part₂ (w₂ (own Compound) owns₂)

              pub list_counted : a + b ≤ length area
              list_counted = two-counted P₁ P₂ area area₁ a both-room written₁ part b part-written

              written₂ : Written (P₁ ++ P₂) area area₂ (a + b)
              written₂ = subst (λ (l : List ℕ). Written (P₁ ++ P₂) area l (a + b)) (inv q) (two-written P₁ P₂ area area₁ a both-room written₁ part b part-written)

              pub list-sum : a + b ≤ length (list_of (with_own G own))
              list-sum = omega (arith, written₂.count, length-append P₁ (P₂ ++ P₃), length-append P₂ P₃, length-append P₁ P₂)

              pub list_start₂ : a + b ≤ length area₂
              list_start₂ = two-start (P₁ ++ P₂) P₃ area area₂ (a + b) all_room written₂

              pub list_length₂ : length area₂ ≡ length area
              list_length₂ = two-length (P₁ ++ P₂) P₃ area area₂ (a + b) all_room written₂

              pub list-third : Sorts (take (length area₂ - (a + b)) (drop (a + b) area₂)) names text table p₃
              list-third = sorts₃ (take (length area₂ - (a + b)) (drop (a + b) area₂)) (two-room (P₁ ++ P₂) P₃ area area₂ (a + b) all_room written₂)

              module _ (part₃' : List ℕ) (c : ℕ) (w₃ : (o : List (List ℕ)) → Owns text table p₃.base o p₃.count → Written (part_bytes names p₃ o) (take (length area₂ - (a + b)) (drop (a + b) area₂)) part₃' c) where
                last_written : Written P₃ (take (length area₂ - (a + b)) (drop (a + b) area₂)) part₃' c
                last_written = written_as part₃ (w₃ (own Predicate) owns₃)

                pub list_counted₃ : a + b + c ≤ length area
                list_counted₃ = two-counted (P₁ ++ P₂) P₃ area area₂ (a + b) all_room written₂ part₃' c last_written

                pub list_written : Written (list_of (with_own G own)) area (put_mid (a + b) (length area₂ - (a + b)) area₂ part₃') (a + b + c)
                list_written = written_as (append_assoc P₁ P₂ P₃) (two-written (P₁ ++ P₂) P₃ area area₂ (a + b) all_room written₂ part₃' c last_written)
