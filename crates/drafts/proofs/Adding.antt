-- One node more.
use Prim.Native.Nat.{ℕ, ◌+◌, ◌*◌, ◌≤◌, ◌<◌}
use mathlib.Core.Path.{◌≡◌, refl, sym as inv, ap, ap₂, subst, ◌∙◌}
use mathlib.Core.Bool.{true, false}
use mathlib.Core.List.{List, [], ◌∷◌, ◌++◌}
use native.Mathlib.Omega.{arith}
use lib.ListN.{length}
use lib.Dec.{ltb}
use Rattle.terms.specs.Cases.{cases}
use Rattle.grammar.specs.Names.{Spot, symbol_spot, grow, is_sort, variables_after}
use Rattle.grammar.specs.NameLaws.{place-low}
use Rattle.symbols.specs.declared.Section.{Section}
use Rattle.symbols.specs.Sections.{part, Holds, next, Apart, before, behind, Numbers}
use Rattle.drafts.specs.declared.Kind.{Kind}
use Rattle.drafts.specs.declared.Kind.TheVariants.{Constant, Compound, Predicate}
use Rattle.drafts.specs.declared.Draft.{Draft}
use Rattle.drafts.specs.Writing.{Wrote, symbol_bytes}
use Rattle.drafts.specs.Drafted.{sort_of_kind, Tables, after, bytes_of, section_of, counted_of, Drafted, Adds}
use Rattle.drafts.proofs.Nodes.{bytes-append, symbol-bytes, place-grown, after-append}

-- Room

pub section_room : {text out starts lens heads nexts : List ℕ} {b : Draft} {T : Tables} {e : List Spot} → Drafted text out starts lens heads nexts b T e → b.len ≤ 1020 → (k : Kind) →
    (section_of b k).count < (section_of b k).room
section_room d l Constant = omega (arith, d.constants_few, d.low, l)
section_room d l Compound = omega (arith, d.compounds_few, d.low, l)
section_room d l Predicate = omega (arith, d.predicates_few, d.low, l)

pub room-low : (b : Draft) (k : Kind) → (section_of b k).room ≤ 11264
room-low b Constant = omega arith
room-low b Compound = omega arith
room-low b Predicate = omega arith

pub number_low : {text out starts lens heads nexts starts' lens' heads' nexts' : List ℕ} {b : Draft} {T : Tables} {e : List Spot} (k : Kind) (w : List ℕ) (r : ℕ) → Drafted text out starts lens heads nexts b T e → b.len ≤ 1020 →
    Numbers text starts lens heads nexts starts' lens' heads' nexts' (section_of b k) w r → r < 65536
number_low {b = b} {T} {e} k w r d l n =
    omega (arith, n.answers _ (d.tables k), place-low w (after T e (sort_of_kind k)), (d.tables k).table.entries.count, section_room d l k, room-low b k)

-- Sections

counted-from : (b : Draft) (k : Kind) (n l : ℕ) → (counted_of b k n l).from ≡ b.from
counted-from b Constant n l = refl
counted-from b Compound n l = refl
counted-from b Predicate n l = refl

counted_len : (b : Draft) (k : Kind) (n l : ℕ) → (counted_of b k n l).len ≡ l
counted_len b Constant n l = refl
counted_len b Compound n l = refl
counted_len b Predicate n l = refl

next-same : (c : Section) (r : ℕ) → record { from = c.from; room = c.room; heads = c.heads; count = (next c r).count } ≡ next c r
next-same c r = cases (ltb r c.count) (λ t. rw t refl) (λ t. rw t refl)

next_one : (c : Section) (r : ℕ) → (next c r).count ≤ c.count + 1
next_one c r = cases (ltb r c.count) (λ t. rw t (omega arith)) (λ t. rw t (omega arith))

apart : (b : Draft) (k j : Kind) → is_sort (sort_of_kind j) (sort_of_kind k) ≡ false → Apart (section_of b k).from (section_of b k).room (section_of b j).from (section_of b j).room
apart b Constant Constant h = let z : ◌≡◌ {A = ℕ} 0 1 = cc in absurd (omega arith)
apart b Constant Compound h = before (omega arith)
apart b Constant Predicate h = before (omega arith)
apart b Compound Constant h = behind (omega arith)
apart b Compound Compound h = let z : ◌≡◌ {A = ℕ} 0 1 = cc in absurd (omega arith)
apart b Compound Predicate h = before (omega arith)
apart b Predicate Constant h = behind (omega arith)
apart b Predicate Compound h = behind (omega arith)
apart b Predicate Predicate h = let z : ◌≡◌ {A = ℕ} 0 1 = cc in absurd (omega arith)

heads-apart : (b : Draft) (k j : Kind) → is_sort (sort_of_kind j) (sort_of_kind k) ≡ false → Apart (section_of b k).heads 4096 (section_of b j).heads 4096
heads-apart b Constant Constant h = let z : ◌≡◌ {A = ℕ} 0 1 = cc in absurd (omega arith)
heads-apart b Constant Compound h = before (omega arith)
heads-apart b Constant Predicate h = before (omega arith)
heads-apart b Compound Constant h = behind (omega arith)
heads-apart b Compound Compound h = let z : ◌≡◌ {A = ℕ} 0 1 = cc in absurd (omega arith)
heads-apart b Compound Predicate h = before (omega arith)
heads-apart b Predicate Constant h = behind (omega arith)
heads-apart b Predicate Compound h = behind (omega arith)
heads-apart b Predicate Predicate h = let z : ◌≡◌ {A = ℕ} 0 1 = cc in absurd (omega arith)

other_section : (b : Draft) (k j : Kind) (n l : ℕ) → is_sort (sort_of_kind j) (sort_of_kind k) ≡ false → section_of (counted_of b k n l) j ≡ section_of b j
other_section b Constant Constant n l h = let z : ◌≡◌ {A = ℕ} 0 1 = cc in absurd (omega arith)
other_section b Constant Compound n l h = refl
other_section b Constant Predicate n l h = refl
other_section b Compound Constant n l h = refl
other_section b Compound Compound n l h = let z : ◌≡◌ {A = ℕ} 0 1 = cc in absurd (omega arith)
other_section b Compound Predicate n l h = refl
other_section b Predicate Constant n l h = refl
other_section b Predicate Compound n l h = refl
other_section b Predicate Predicate n l h = let z : ◌≡◌ {A = ℕ} 0 1 = cc in absurd (omega arith)

own_section : (b : Draft) (k j : Kind) (r l : ℕ) → is_sort (sort_of_kind j) (sort_of_kind k) ≡ true → section_of (counted_of b k (next (section_of b k) r).count l) j ≡ next (section_of b k) r
own_section b Constant Constant r l h = next-same (section_of b Constant) r
own_section b Constant Compound r l h = let z : ◌≡◌ {A = ℕ} 0 1 = cc in absurd (omega arith)
own_section b Constant Predicate r l h = let z : ◌≡◌ {A = ℕ} 0 1 = cc in absurd (omega arith)
own_section b Compound Constant r l h = let z : ◌≡◌ {A = ℕ} 0 1 = cc in absurd (omega arith)
own_section b Compound Compound r l h = next-same (section_of b Compound) r
own_section b Compound Predicate r l h = let z : ◌≡◌ {A = ℕ} 0 1 = cc in absurd (omega arith)
own_section b Predicate Constant r l h = let z : ◌≡◌ {A = ℕ} 0 1 = cc in absurd (omega arith)
own_section b Predicate Compound r l h = let z : ◌≡◌ {A = ℕ} 0 1 = cc in absurd (omega arith)
own_section b Predicate Predicate r l h = next-same (section_of b Predicate) r

same_kind : (k j : Kind) → is_sort (sort_of_kind j) (sort_of_kind k) ≡ true → k ≡ j
same_kind Constant Constant h = refl
same_kind Constant Compound h = let z : ◌≡◌ {A = ℕ} 0 1 = cc in absurd (omega arith)
same_kind Constant Predicate h = let z : ◌≡◌ {A = ℕ} 0 1 = cc in absurd (omega arith)
same_kind Compound Constant h = let z : ◌≡◌ {A = ℕ} 0 1 = cc in absurd (omega arith)
same_kind Compound Compound h = refl
same_kind Compound Predicate h = let z : ◌≡◌ {A = ℕ} 0 1 = cc in absurd (omega arith)
same_kind Predicate Constant h = let z : ◌≡◌ {A = ℕ} 0 1 = cc in absurd (omega arith)
same_kind Predicate Compound h = let z : ◌≡◌ {A = ℕ} 0 1 = cc in absurd (omega arith)
same_kind Predicate Predicate h = refl

record Few (b : Draft) : Type 0 where
  pub constants : 3 * b.constants ≤ b.from + b.len
  pub compounds : 4 * b.compounds ≤ b.from + b.len
  pub predicates : 4 * b.predicates ≤ b.from + b.len

still_few : (b : Draft) (k : Kind) (n r : ℕ) → Few b → n ≤ (section_of b k).count + 1 → Few (counted_of b k n (b.len + length (symbol_bytes k r)))
still_few b Constant n r f l = record { constants = omega (arith, f.constants, l); compounds = omega (arith, f.compounds); predicates = omega (arith, f.predicates) }
still_few b Compound n r f l = record { constants = omega (arith, f.constants); compounds = omega (arith, f.compounds, l); predicates = omega (arith, f.predicates) }
still_few b Predicate n r f l = record { constants = omega (arith, f.constants); compounds = omega (arith, f.compounds); predicates = omega (arith, f.predicates, l) }

symbol-long : (k : Kind) (r : ℕ) → length (symbol_bytes k r) ≤ 4
symbol-long Constant r = omega arith
symbol-long Compound r = omega arith
symbol-long Predicate r = omega arith

-- A symbol

module _ (text out starts lens heads nexts out' starts' lens' heads' nexts' : List ℕ) (b : Draft) (k : Kind) (w : List ℕ) (r m : ℕ)
    (n : Numbers text starts lens heads nexts starts' lens' heads' nexts' (section_of b k) w r) (o : Wrote out out' (b.from + b.len) (symbol_bytes k r)) (s : m ≡ length (symbol_bytes k r)) where
  abbrev grown : Draft
  grown = counted_of b k (next (section_of b k) r).count (b.len + m)

  abbrev node : List Spot
  node = symbol_spot (sort_of_kind k) w 0 ∷ []

  table_of : (T : Tables) (e : List Spot) → Drafted text out starts lens heads nexts b T e → (j : Kind) → Holds text starts' lens' heads' nexts' (section_of grown j) (after T (e ++ node) (sort_of_kind j))
  table_of T e d j =
      subst (Holds text starts' lens' heads' nexts' (section_of grown j)) (inv (after-append T (sort_of_kind j) e node))
      (cases (is_sort (sort_of_kind j) (sort_of_kind k))
      (λ t.
      let q = same_kind k j t in
      rw t
      (subst (λ (c : Section). Holds text starts' lens' heads' nexts' c (grow (after T e (sort_of_kind j)) w)) (inv (own_section b k j r (b.len + m) t))
      (subst (λ (i : Kind). Holds text starts' lens' heads' nexts' (next (section_of b k) r) (grow (after T e (sort_of_kind i)) w)) q (n.table _ (d.tables k)))))
      (λ t.
      rw t
      (subst (λ (c : Section). Holds text starts' lens' heads' nexts' c (after T e (sort_of_kind j))) (inv (other_section b k j (next (section_of b k) r).count (b.len + m) t))
      (n.others (section_of b j) _ (apart b k j t) (heads-apart b k j t) (d.tables j)))))

  written : (T : Tables) (e : List Spot) → Drafted text out starts lens heads nexts b T e → part b.from (b.len + m) out' ≡ bytes_of T [] (e ++ node)
  written T e d =
      ap (λ (x : ℕ). part b.from (b.len + x) out') s
      ∙ o.pushed b.from b.len refl
      ∙ ap₂ (λ (x y : List ℕ). x ++ y) d.bytes
      (ap (symbol_bytes k) (n.answers _ (d.tables k) ∙ inv (place-grown w (after T e (sort_of_kind k)))) ∙ inv (symbol-bytes (after T e) (variables_after [] e) k w))
      ∙ inv (bytes-append T [] e node)

  added : (T : Tables) (e : List Spot) → Drafted text out starts lens heads nexts b T e → Drafted text out' starts' lens' heads' nexts' grown T (e ++ node)
  added T e d =
      let f = subst (λ (x : ℕ). Few (counted_of b k (next (section_of b k) r).count (b.len + x))) (inv s)
      (still_few b k (next (section_of b k) r).count r (record { constants = d.constants_few; compounds = d.compounds_few; predicates = d.predicates_few }) (next_one (section_of b k) r)) in
      record {
        bytes = rw (counted-from b k (next (section_of b k) r).count (b.len + m), counted_len b k (next (section_of b k) r).count (b.len + m)) (written T e d);
        tables = table_of T e d;
        constants_few = f.constants;
        compounds_few = f.compounds;
        predicates_few = f.predicates;
        low = omega (arith, d.low, counted-from b k (next (section_of b k) r).count (b.len + m));
        long = o.same ∙ d.long;
      }

  symbol-added : Adds text out out' starts lens heads nexts starts' lens' heads' nexts' b k w grown
  symbol-added =
      record {
        adds = added;
        from_stays = counted-from b k (next (section_of b k) r).count (b.len + m);
        grows = omega (arith, counted_len b k (next (section_of b k) r).count (b.len + m), s, symbol-long k r);
        kept = λ i l. o.kept i (omega (arith, l));
      }

-- by what the program calls its sections
pub adds-symbol : (text out starts lens heads nexts out' starts' lens' heads' nexts' : List ℕ) (b : Draft) (k : Kind) (w : List ℕ) (r m : ℕ) (c d : Section) (result : Draft) → c ≡ section_of b k → d ≡ next c r →
    result ≡ counted_of b k d.count (b.len + m) → Numbers text starts lens heads nexts starts' lens' heads' nexts' c w r → Wrote out out' (b.from + b.len) (symbol_bytes k r) → m ≡ length (symbol_bytes k r) →
    Adds text out out' starts lens heads nexts starts' lens' heads' nexts' b k w result
adds-symbol text out starts lens heads nexts out' starts' lens' heads' nexts' b k w r m c d result p q f n o s =
    subst (Adds text out out' starts lens heads nexts starts' lens' heads' nexts' b k w) (inv (f ∙ ap (λ (x : Section). counted_of b k x.count (b.len + m)) (q ∙ ap (λ (x : Section). next x r) p)))
    (symbol-added text out starts lens heads nexts out' starts' lens' heads' nexts' b k w r m (subst (λ (x : Section). Numbers text starts lens heads nexts starts' lens' heads' nexts' x w r) p n) o s)

module _ {text out starts lens heads nexts : List ℕ} {b : Draft} {T : Tables} {e : List Spot} (d : Drafted text out starts lens heads nexts b T e) (k : Kind) (c : Section) (p : c ≡ section_of b k) where
  pub section_held : Holds text starts lens heads nexts c (after T e (sort_of_kind k))
  section_held = subst (λ (x : Section). Holds text starts lens heads nexts x (after T e (sort_of_kind k))) (inv p) (d.tables k)

  pub section_free : b.len ≤ 1020 → c.count < c.room
  section_free l = subst (λ (x : Section). x.count < x.room) (inv p) (section_room d l k)

  pub section_few : b.len ≤ 1020 → c.count < 65536
  section_few l = omega (arith, ap (λ (x : Section). x.count) p, section_room d l k, room-low b k)

  pub number-few : {starts' lens' heads' nexts' : List ℕ} (w : List ℕ) (r : ℕ) → b.len ≤ 1020 → Numbers text starts lens heads nexts starts' lens' heads' nexts' c w r → r < 65536
  number-few {starts'} {lens'} {heads'} {nexts'} w r l n =
      number_low k w r d l (subst (λ (x : Section). Numbers text starts lens heads nexts starts' lens' heads' nexts' x w r) p n)

pub symbol-short : (k : Kind) (r m : ℕ) → m ≡ length (symbol_bytes k r) → m ≤ 4
symbol-short k r m s = omega (arith, s, symbol-long k r)
