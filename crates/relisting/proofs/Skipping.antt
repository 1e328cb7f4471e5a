-- The entries of a kind.
use Prim.Native.Nat.{ℕ, suc, ◌+◌, ◌≤◌, ◌<◌}
use mathlib.Core.Path.{◌≡◌, refl, sym as inv, ◌∙◌}
use mathlib.Core.List.{List, [], ◌∷◌, ◌++◌}
use native.Mathlib.Omega.{arith}
use lib.ListN.{length, get_or, length-append}
use Rattle.grammar.specs.Names.{Sort, Constant, Compound, Predicate, kind, entries}
use Rattle.namelist.specs.List.{Entry}
use Rattle.namelist.specs.Bytes.{past}
use Rattle.namelist.specs.ListLaws.{Stands, entered, stands-more}
use Rattle.namelist.specs.NamingLaws.{entry}
use Rattle.namelist.specs.Table.{entries_on}
use Rattle.relisting.specs.Relisted.{Other, Skipped}

kind-one : (j k : Sort) → kind j ≡ kind k → j ≡ k
kind-one Constant Constant e = refl
kind-one Constant Compound e = absurd (omega (arith, e))
kind-one Constant Predicate e = absurd (omega (arith, e))
kind-one Compound Constant e = absurd (omega (arith, e))
kind-one Compound Compound e = refl
kind-one Compound Predicate e = absurd (omega (arith, e))
kind-one Predicate Constant e = absurd (omega (arith, e))
kind-one Predicate Compound e = absurd (omega (arith, e))
kind-one Predicate Predicate e = refl

pub record PartWay (s : List ℕ) (k : Sort) (rest : List Entry) (at total : ℕ) : Type 0 where
  pub number : ℕ
  pub names : List (List ℕ)
  pub stands : Stands s at (entries_on k number names ++ rest)
  pub sum : at + length (entries k number names) ≡ total

module _ (s : List ℕ) (from a : ℕ) where
  pub record Skipping (at : ℕ) : Type 0 where
    pub base : (l : List Entry) × Stands s at l
    pub goes : (k : Sort) (n : ℕ) (ns : List (List ℕ)) (rest : List Entry) → Stands s from (entries_on k n ns ++ rest) → a ≡ kind k → Other k rest → PartWay s k rest at (from + length (entries k n ns))

  pub skipping-start : ((l : List Entry) × Stands s from l) → Skipping from
  skipping-start b = record { base = b; goes = λ k n ns rest h e o. record { number = n; names = ns; stands = h; sum = refl } }

  in-room : (at : ℕ) (l : List Entry) → Stands s at l → at < length s → at + 4 ≤ length s
  in-room at [] h q = absurd (omega (arith, stands-more s at h))
  in-room at (x ∷ l) h q = omega (arith, (entered s at x l h).room)

  in-past : (at : ℕ) (l : List Entry) → Stands s at l → at < length s → past s at ≤ length s
  in-past at [] h q = absurd (omega (arith, stands-more s at h))
  in-past at (x ∷ l) h q = (entered s at x l h).next.inside

  pub skipping-room : (at : ℕ) → Skipping at → at < length s → at + 4 ≤ length s
  skipping-room at g l = in-room at g.base.0 g.base.1 l

  pub skipping-past : (at : ℕ) → Skipping at → at < length s → past s at ≤ length s
  skipping-past at g l = in-past at g.base.0 g.base.1 l

  module _ (at : ℕ) (g : Skipping at) (l : at < length s) (b : ℕ) (be : b ≡ get_or s at 0) where
    base-next : (e : List Entry) → Stands s at e → (l : List Entry) × Stands s (past s at) l
    base-next [] h = absurd (omega (arith, stands-more s at h))
    base-next (x ∷ e) h = (e, (entered s at x e h).next)

    pub skipping_step : b ≡ a → (to : ℕ) → to ≡ past s at → Skipping to
    skipping_step e to q =
        rw q (record { base = base-next g.base.0 g.base.1; goes = λ k n ns rest h f o. let p = g.goes k n ns rest h f o in on k rest (from + length (entries k n ns)) p.number p.names p.stands p.sum f o })
      where
        here : (k : Sort) (rest : List Entry) → Stands s at rest → a ≡ kind k → Other k rest → ⊥
        here k [] h f o = omega (arith, stands-more s at h)
        here k (x ∷ m) h f o = o (kind-one x.sort k (inv (entered s at x m h).kind_is ∙ inv be ∙ e ∙ f))

        on : (k : Sort) (rest : List Entry) (total m : ℕ) (ms : List (List ℕ)) → Stands s at (entries_on k m ms ++ rest) → at + length (entries k m ms) ≡ total → a ≡ kind k → Other k rest → PartWay s k rest (past s at) total
        on k rest total m [] h t f o = absurd (here k rest h f o)
        on k rest total m (w ∷ ms) h t f o =
            let z = entered s at (entry k m w) (entries_on k (suc m) ms ++ rest) h in
            record { number = suc m; names = ms; stands = z.next; sum = omega (arith, t, z.length_is, length-append w (entries k (suc m) ms)) }

    said : (b ≡ a → ⊥) → (k : Sort) (rest : List Entry) (total m : ℕ) (ms : List (List ℕ)) → Stands s at (entries_on k m ms ++ rest) → at + length (entries k m ms) ≡ total → a ≡ kind k → (at ≡ total) × Stands s at rest
    said n k rest total m [] h t f = (omega (arith, t), h)
    said n k rest total m (w ∷ ms) h t f = absurd (n (be ∙ (entered s at (entry k m w) (entries_on k (suc m) ms ++ rest) h).kind_is ∙ inv f))

    pub skipping-stops : (b ≡ a → ⊥) → Skipped s from a at
    skipping-stops n =
        record {
          ends = λ k i ns rest h f o. let p = g.goes k i ns rest h f o in (said n k rest (from + length (entries k i ns)) p.number p.names p.stands p.sum f).0;
          stands = λ k i ns rest h f o. let p = g.goes k i ns rest h f o in (said n k rest (from + length (entries k i ns)) p.number p.names p.stands p.sum f).1;
        }

  over : (at : ℕ) → length s ≤ at → (k : Sort) (rest : List Entry) (total m : ℕ) (ms : List (List ℕ)) → Stands s at (entries_on k m ms ++ rest) → at + length (entries k m ms) ≡ total → (at ≡ total) × Stands s at rest
  over at l k rest total m [] h t = (omega (arith, t), h)
  over at l k rest total m (w ∷ ms) h t = absurd (omega (arith, (entered s at (entry k m w) (entries_on k (suc m) ms ++ rest) h).room))

  pub skipping-end : (at : ℕ) → Skipping at → length s ≤ at → Skipped s from a at
  skipping-end at g l =
      record {
        ends = λ k i ns rest h f o. let p = g.goes k i ns rest h f o in (over at l k rest (from + length (entries k i ns)) p.number p.names p.stands p.sum).0;
        stands = λ k i ns rest h f o. let p = g.goes k i ns rest h f o in (over at l k rest (from + length (entries k i ns)) p.number p.names p.stands p.sum).1;
      }

pub ruleset skipping = (skipping-start, skipping-room, skipping-past, skipping_step, skipping-stops, skipping-end)
