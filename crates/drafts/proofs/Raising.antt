-- One argument more of a symbol that is written, and one node more that is a variable.
use Prim.Native.Nat.{ℕ, zero, suc, ◌+◌, ◌*◌, ◌/◌, ◌%◌, ◌≤◌, ◌<◌}
use mathlib.Core.Path.{◌≡◌, refl, sym as inv, ap, ap₂, subst, ◌∙◌}
use mathlib.Core.List.{List, [], ◌∷◌, ◌++◌}
use native.Mathlib.Omega.{arith}
use lib.ListN.{length, get_or, set, take, drop, length-set, length-drop}
use lib.Seq.{length-take-le}
use Rattle.grammar.specs.Names as Names
use Rattle.grammar.specs.Names.{Sort, Spot, variable_spot, symbol_spot, place, grow, names_after, variable_number, with_variable, variables_after}
use Rattle.grammar.specs.GrowLaws.{with_symbol}
use Rattle.symbols.specs.declared.Section.{Section}
use Rattle.symbols.specs.Sections.{Holds}
use Rattle.drafts.specs.declared.Kind.{Kind}
use Rattle.drafts.specs.declared.Kind.TheVariants.{Constant, Compound, Predicate}
use Rattle.drafts.specs.declared.Draft.{Draft}
use Rattle.drafts.specs.Drafted.{sort_of_kind, Tables, after, bytes_of, weight, section_of, Drafted, AddsVariable, Bracketed}
use Rattle.drafts.proofs.Nodes.{bytes-append, after-append}

-- Lengths

pub bytes-long : (T : Tables) (seen : List (List ℕ)) (e : List Spot) → length (bytes_of T seen e) ≡ weight e
bytes-long T seen [] = refl
bytes-long T seen (variable_spot w ∷ e) = ap (λ (n : ℕ). suc (suc (suc n))) (bytes-long T (with_variable seen w) e) ∙ omega arith
bytes-long T seen (symbol_spot Names.Constant w n ∷ e) = ap (λ (n : ℕ). suc (suc (suc n))) (bytes-long (with_symbol T Names.Constant w) seen e) ∙ omega arith
bytes-long T seen (symbol_spot Names.Compound w n ∷ e) = ap (λ (n : ℕ). suc (suc (suc (suc n)))) (bytes-long (with_symbol T Names.Compound w) seen e) ∙ omega arith
bytes-long T seen (symbol_spot Names.Predicate w n ∷ e) = ap (λ (n : ℕ). suc (suc (suc (suc n)))) (bytes-long (with_symbol T Names.Predicate w) seen e) ∙ omega arith

-- The arity byte

set-third : (a : List ℕ) (x y z n m : ℕ) (r : List ℕ) (i : ℕ) → i ≡ length a + 3 → set (a ++ (x ∷ y ∷ z ∷ n ∷ r)) i m ≡ a ++ (x ∷ y ∷ z ∷ m ∷ r)
set-third [] x y z n m r zero e = absurd (omega arith)
set-third [] x y z n m r (suc zero) e = absurd (omega arith)
set-third [] x y z n m r (suc (suc zero)) e = absurd (omega arith)
set-third [] x y z n m r (suc (suc (suc zero))) e = refl
set-third [] x y z n m r (suc (suc (suc (suc i)))) e = absurd (omega arith)
set-third (b ∷ a) x y z n m r zero e = absurd (omega arith)
set-third (b ∷ a) x y z n m r (suc i) e = ap (λ (l : List ℕ). b ∷ l) (set-third a x y z n m r i (omega arith))

get_third : (a : List ℕ) (x y z n : ℕ) (r : List ℕ) (i : ℕ) → i ≡ length a + 3 → get_or (a ++ (x ∷ y ∷ z ∷ n ∷ r)) i 0 ≡ n
get_third [] x y z n r zero e = absurd (omega arith)
get_third [] x y z n r (suc zero) e = absurd (omega arith)
get_third [] x y z n r (suc (suc zero)) e = absurd (omega arith)
get_third [] x y z n r (suc (suc (suc zero))) e = refl
get_third [] x y z n r (suc (suc (suc (suc i)))) e = absurd (omega arith)
get_third (b ∷ a) x y z n r zero e = absurd (omega arith)
get_third (b ∷ a) x y z n r (suc i) e = get_third a x y z n r i (omega arith)

-- a bracketed symbol's bytes behind those of other nodes
record Shape (T : Tables) (a r : List Spot) (s : Sort) (v : List ℕ) : Type 0 where
  pub kind : ℕ
  pub high : ℕ
  pub low : ℕ
  pub rest : List ℕ
  pub is : (n : ℕ) → bytes_of T [] (a ++ (symbol_spot s v n ∷ r)) ≡ bytes_of T [] a ++ (kind ∷ high ∷ low ∷ n ∷ rest)

shape : (T : Tables) (a r : List Spot) (s : Sort) (v : List ℕ) → Bracketed s → Shape T a r s v
shape T a r Names.Constant v b = absurd b
shape T a r Names.Compound v b =
    record {
      kind = 3;
      high = place v (grow (after T a Names.Compound) v) / 256;
      low = place v (grow (after T a Names.Compound) v) % 256;
      rest = bytes_of (with_symbol (after T a) Names.Compound v) (variables_after [] a) r;
      is = λ n. bytes-append T [] a (symbol_spot Names.Compound v n ∷ r);
    }
shape T a r Names.Predicate v b =
    record {
      kind = 4;
      high = place v (grow (after T a Names.Predicate) v) / 256;
      low = place v (grow (after T a Names.Predicate) v) % 256;
      rest = bytes_of (with_symbol (after T a) Names.Predicate v) (variables_after [] a) r;
      is = λ n. bytes-append T [] a (symbol_spot Names.Predicate v n ∷ r);
    }

part-set : (from len i j : ℕ) (l : List ℕ) (x : ℕ) → from + i ≡ j → i < len → take len (drop from (set l j x)) ≡ set (take len (drop from l)) i x
part-set zero len i j l x e h = let q : i ≡ j = omega (arith, e) in subst (λ (k : ℕ). take len (set l k x) ≡ set (take len l) i x) q (take-set len i l x h)
  where
    take-set : (len i : ℕ) (l : List ℕ) (x : ℕ) → i < len → take len (set l i x) ≡ set (take len l) i x
    take-set zero i l x h = absurd (omega arith)
    take-set (suc len) i [] x h = refl
    take-set (suc len) zero (y ∷ l) x h = refl
    take-set (suc len) (suc i) (y ∷ l) x h = ap (λ (t : List ℕ). y ∷ t) (take-set len i l x (omega arith))
part-set (suc from) len i j [] x e h = none len i
  where
    none : (len i : ℕ) → take len [] ≡ set (take len []) i x
    none zero i = refl
    none (suc len) i = refl
part-set (suc from) len i zero (y ∷ l) x e h = absurd (omega arith)
part-set (suc from) len i (suc j) (y ∷ l) x e h = part-set from len i j l x (omega (arith, e)) h

part_get : (from len i j : ℕ) (l : List ℕ) → from + i ≡ j → i < len → get_or (take len (drop from l)) i 0 ≡ get_or l j 0
part_get zero len i j l e h = let q : i ≡ j = omega (arith, e) in subst (λ (k : ℕ). get_or (take len l) i 0 ≡ get_or l k 0) q (take_get len i l h)
  where
    take_get : (len i : ℕ) (l : List ℕ) → i < len → get_or (take len l) i 0 ≡ get_or l i 0
    take_get zero i l h = absurd (omega arith)
    take_get (suc len) i [] h = refl
    take_get (suc len) zero (y ∷ l) h = refl
    take_get (suc len) (suc i) (y ∷ l) h = take_get len i l (omega arith)
part_get (suc from) len i j [] e h = none len i
  where
    none : (len i : ℕ) → ◌≡◌ {A = ℕ} (get_or (take len []) i 0) 0
    none zero i = refl
    none (suc len) i = refl
part_get (suc from) len i zero (y ∷ l) e h = absurd (omega arith)
part_get (suc from) len i (suc j) (y ∷ l) e h = part_get from len i j l (omega (arith, e)) h

names-any : (T : Tables) (a r : List Spot) (s k : Sort) (v : List ℕ) (n m : ℕ) → after T (a ++ (symbol_spot s v n ∷ r)) k ≡ after T (a ++ (symbol_spot s v m ∷ r)) k
names-any T a r s k v n m = after-append T k a (symbol_spot s v n ∷ r) ∙ inv (after-append T k a (symbol_spot s v m ∷ r))

module _ {text out starts lens heads nexts : List ℕ} {b : Draft} {T : Tables} (a r : List Spot) (s : Sort) (v : List ℕ) (n j : ℕ) (bracketed : Bracketed s) (at : b.from + (weight a + 3) ≡ j) (inside : weight a + 3 < b.len)
    (d : Drafted text out starts lens heads nexts b T (a ++ (symbol_spot s v n ∷ r))) where
  third : weight a + 3 ≡ length (bytes_of T [] a) + 3
  third = omega (arith, bytes-long T [] a)

  pub arity-is : get_or out j 0 ≡ n
  arity-is =
      let h = shape T a r s v bracketed in
      inv (part_get b.from b.len (weight a + 3) j out at inside)
      ∙ ap (λ (l : List ℕ). get_or l (weight a + 3) 0) (d.bytes ∙ h.is n)
      ∙ get_third (bytes_of T [] a) h.kind h.high h.low n h.rest (weight a + 3) third

  pub raised-drafted : (x : ℕ) → x ≡ n + 1 → Drafted text (set out j x) starts lens heads nexts b T (a ++ (symbol_spot s v (suc n) ∷ r))
  raised-drafted x e =
      let h = shape T a r s v bracketed in
      let q : x ≡ suc n = omega (arith, e) in
      record {
        bytes =
            part-set b.from b.len (weight a + 3) j out x at inside
            ∙ ap (λ (l : List ℕ). set l (weight a + 3) x) (d.bytes ∙ h.is n)
            ∙ set-third (bytes_of T [] a) h.kind h.high h.low n x h.rest (weight a + 3) third
            ∙ ap (λ (y : ℕ). bytes_of T [] a ++ (h.kind ∷ h.high ∷ h.low ∷ y ∷ h.rest)) q
            ∙ inv (h.is (suc n));
        tables = λ k. subst (Holds text starts lens heads nexts (section_of b k)) (names-any T a r s (sort_of_kind k) v n (suc n)) (d.tables k);
        constants_few = d.constants_few;
        compounds_few = d.compounds_few;
        predicates_few = d.predicates_few;
        low = d.low;
        long = length-set out j x ∙ d.long;
      }

-- A variable

longer_sections : (b : Draft) (n : ℕ) (k : Kind) →
    section_of b k ≡ section_of (record { from = b.from; len = n; constants = b.constants; compounds = b.compounds; predicates = b.predicates }) k
longer_sections b n Constant = refl
longer_sections b n Compound = refl
longer_sections b n Predicate = refl

pub variable-drafted : {text out out' starts lens heads nexts : List ℕ} {b r : Draft} {T : Tables} (e : List Spot) (w : List ℕ) (v : ℕ) → Drafted text out starts lens heads nexts b T e →
    v ≡ variable_number (variables_after [] e) w → AddsVariable out out' b v r → Drafted text out' starts lens heads nexts r T (e ++ (variable_spot w ∷ []))
variable-drafted {text} {out} {out'} {starts} {lens} {heads} {nexts} {b} {r} {T} e w v d p a =
    subst (λ (x : Draft). Drafted text out' starts lens heads nexts x T (e ++ (variable_spot w ∷ []))) (inv a.draft)
    (record {
      bytes =
          a.wrote.pushed b.from b.len refl
          ∙ ap₂ (λ (x y : List ℕ). x ++ y) d.bytes (ap (λ (n : ℕ). 1 ∷ n / 256 ∷ n % 256 ∷ []) p)
          ∙ inv (bytes-append T [] e (variable_spot w ∷ []));
      tables =
          λ k.
          subst (λ (c : Section). Holds text starts lens heads nexts c (after T (e ++ (variable_spot w ∷ [])) (sort_of_kind k))) (longer_sections b (b.len + 3) k)
          (subst (Holds text starts lens heads nexts (section_of b k)) (inv (after-append T (sort_of_kind k) e (variable_spot w ∷ []))) (d.tables k));
      constants_few = omega (arith, d.constants_few);
      compounds_few = omega (arith, d.compounds_few);
      predicates_few = omega (arith, d.predicates_few);
      low = d.low;
      long = a.wrote.same ∙ d.long;
    })

-- What the nodes weigh

pub weight-append : (a b : List Spot) → weight (a ++ b) ≡ weight a + weight b
weight-append [] b = omega arith
weight-append (variable_spot w ∷ a) b = omega (arith, weight-append a b)
weight-append (symbol_spot Names.Constant w n ∷ a) b = omega (arith, weight-append a b)
weight-append (symbol_spot Names.Compound w n ∷ a) b = omega (arith, weight-append a b)
weight-append (symbol_spot Names.Predicate w n ∷ a) b = omega (arith, weight-append a b)

pub weight-low : (e : List Spot) → weight e ≤ 4 * length e
weight-low [] = omega arith
weight-low (variable_spot w ∷ e) = omega (arith, weight-low e)
weight-low (symbol_spot Names.Constant w n ∷ e) = omega (arith, weight-low e)
weight-low (symbol_spot Names.Compound w n ∷ e) = omega (arith, weight-low e)
weight-low (symbol_spot Names.Predicate w n ∷ e) = omega (arith, weight-low e)

pub weighs : {text out starts lens heads nexts : List ℕ} {b : Draft} {T : Tables} {e : List Spot} → Drafted text out starts lens heads nexts b T e → b.len ≤ 1031 → b.len ≡ weight e
weighs {out = out} {b = b} {T} {e} d l =
    inv (length-take-le b.len (drop b.from out) (omega (arith, length-drop b.from out, d.low, d.long, l))) ∙ ap length d.bytes ∙ bytes-long T [] e
