-- Records one by one.
use Rattle.std.specs.Prelude.{Some, None}
use Prim.Native.Nat.{ℕ, ◌+◌, ◌≤◌, ◌<◌}
use mathlib.Core.Path.{◌≡◌, refl, sym as inv, ap, ap₂, ◌∙◌, subst}
use mathlib.Core.Bool.{Bool, true, false, not}
use mathlib.Core.List.{List, [], ◌∷◌, ◌++◌}
use native.Mathlib.Omega.{arith}
use borrow.Author.Tests.{not-true, not-false}
use lib.ListN.{length, get_or, drop, length-drop, length-append}
use lib.Dec.{eqb}
use Rattle.terms.specs.When.{◌⇒◌∣◌}
use Rattle.format.specs.declared.Record.{Record}
use Rattle.format.specs.declared.Record.TheVariants.{Variable, Constant, Compound, Formula, Clause, Goal, End}
use Rattle.format.specs.Format.{record_kind, encode_record, encode}
use Rattle.format.specs.Reading.{body_length, record_at, in_range}
use Rattle.format.specs.Arities.{Use, record_uses, uses_of, Memory, meets, recall, recalled}
use Rattle.format.proofs.Encoded.{encoded}
use Rattle.readouts.specs.Clash.{arities_from}
use Rattle.scanning.specs.Remembers.{Remembers}
use Rattle.scanning.specs.Meeting.{AllRange, MeetsAll, Met}
use Rattle.scanning.proofs.Records.{record_step}

pub some-none : (k : ℕ) → Some k ≡ None → ⊥
some-none k e = cc

abbrev counted : ℕ → ℕ → ℕ
counted kind k = eqb kind 4 ⇒ k + 1 ∣ k

recall-step : (m : Memory) (r : Record) (us : List Use) → recall m (record_uses r ++ us) ≡ recall (meets m r) us
recall-step m (Variable v) us = refl
recall-step m (Constant c) us = refl
recall-step m (Compound f n) us = refl
recall-step m (Formula p n) us = refl
recall-step m (Clause n) us = refl
recall-step m (Goal n) us = refl
recall-step m End us = refl

-- what is left, for whichever records the image is of
pub record Scanning (image table₀ table : List ℕ) (k i : ℕ) : Type 0 where
  pub some : MeetsAll image
  pub inside : i ≤ length image
  pub low : k ≤ i
  pub same : length table ≡ length table₀
  pub left : List Record
  pub here : drop i image ≡ encode left
  pub ranged : AllRange left
  pub counts : arities_from (recalled table) k (uses_of left) ≡ arities_from (recalled table₀) 0 (uses_of some.records)
  pub met : recall (recalled table) (uses_of left) ≡ recall (recalled table₀) (uses_of some.records)

pub scanning-start : (image table : List ℕ) → MeetsAll image → Scanning image table table 0 0
scanning-start image table x =
    record {
      some = x;
      inside = omega arith;
      low = omega arith;
      same = refl;
      left = x.records;
      here = x.is;
      ranged = x.ranged;
      counts = refl;
      met = refl;
    }

-- one list of records for an image
record_long : (r : Record) → 1 ≤ length (encode_record r)
record_long (Variable v) = omega arith
record_long (Constant c) = omega arith
record_long (Compound f n) = omega arith
record_long (Formula p n) = omega arith
record_long (Clause n) = omega arith
record_long (Goal n) = omega arith
record_long End = omega arith

encode_one : (rs ss : List Record) → AllRange rs → AllRange ss → encode rs ≡ encode ss → rs ≡ ss
encode_one [] [] a b e = refl
encode_one [] (s ∷ ss) a b e = absurd (omega (arith, ap length e, record_long s, length-append (encode_record s) (encode ss)))
encode_one (r ∷ rs) [] a b e = absurd (omega (arith, ap length e, record_long r, length-append (encode_record r) (encode rs)))
encode_one (r ∷ rs) (s ∷ ss) a b e =
    let p = encoded (encode (r ∷ rs)) 0 r (encode rs) refl in
    let q = encoded (encode (r ∷ rs)) 0 s (encode ss) e in
    let kind : record_kind r ≡ record_kind s = inv p.kind ∙ q.kind in
    let item : r ≡ s = inv p.item ∙ ap (record_at (encode (r ∷ rs)) 0) kind ∙ q.item in
    let later : encode rs ≡ encode ss = inv p.later ∙ ap (λ (n : ℕ). drop (0 + 1 + body_length n) (encode (r ∷ rs))) kind ∙ q.later in
    ap₂ (λ (x : Record) (l : List Record). x ∷ l) item (encode_one rs ss a.1 b.1 later)

module _ (image table₀ table : List ℕ) (k i : ℕ) (g : Scanning image table₀ table k i) (l : i < length image) where
  -- the record that is read there, and those behind it
  record Front : Type 0 where
    behind : List Record
    is : g.left ≡ record_at image i (get_or image i 0) ∷ behind
    kind : record_kind (record_at image i (get_or image i 0)) ≡ get_or image i 0
    body : i + body_length (get_or image i 0) < length image
    later : drop (i + 1 + body_length (get_or image i 0)) image ≡ encode behind
    range : in_range (record_at image i (get_or image i 0)) ≡ true
    ranged : AllRange behind

  next : Front
  next = by g.left g.here g.ranged refl
    where
      by : (rs : List Record) → drop i image ≡ encode rs → AllRange rs → g.left ≡ rs → Front
      by [] h a q = absurd (omega (arith, ap length h, length-drop i image))
      by (r ∷ rs) h a q =
          let e = encoded image i r (encode rs) h in
          let b : record_kind r ≡ get_or image i 0 = inv e.kind in
          let item : r ≡ record_at image i (get_or image i 0) = inv e.item ∙ ap (record_at image i) b in
          record {
            behind = rs;
            is = q ∙ ap (λ (x : Record). x ∷ rs) item;
            kind = ap record_kind (inv item) ∙ b;
            body = subst (λ (n : ℕ). i + body_length n < length image) b (omega (arith, e.body));
            later = ap (λ (n : ℕ). drop (i + 1 + body_length n) image) (inv b) ∙ e.later;
            range = ap in_range (inv item) ∙ a.0;
            ranged = a.1;
          }

  pub scanning-body : i + body_length (get_or image i 0) < length image
  scanning-body = next.body

  pub scanning-range : (item : Record) → item ≡ record_at image i (get_or image i 0) → in_range item ≡ true
  scanning-range item e = ap in_range e ∙ next.range

  pub scanning-low : k < 65536
  scanning-low = omega (arith, g.low, g.some.short)

  module _ (table' : List ℕ) (t : Bool) (item : Record) (e : item ≡ record_at image i (get_or image i 0)) (h : Remembers table table' item t) (kept-length : length table' ≡ length table) where
    left_is : g.left ≡ item ∷ next.behind
    left_is = next.is ∙ ap (λ (x : Record). x ∷ next.behind) (inv e)

    stepped : (t ⇒ arities_from (meets (recalled table) item) (counted (record_kind item) k) (uses_of next.behind) ∣ Some k) ≡ arities_from (recalled table₀) 0 (uses_of g.some.records)
    stepped =
        ap (λ (x : Bool). x ⇒ arities_from (meets (recalled table) item) (counted (record_kind item) k) (uses_of next.behind) ∣ Some k) h.answer
        ∙ inv (record_step (recalled table) k item (uses_of next.behind))
        ∙ ap (λ (rs : List Record). arities_from (recalled table) k (uses_of rs)) (inv left_is)
        ∙ g.counts

    pub scanning-stops : not t ≡ true → Met image table₀ table' (Some k)
    scanning-stops z =
        let y : Some k ≡ arities_from (recalled table₀) 0 (uses_of g.some.records) = rw (not-true t z) at stepped in
        record {
          counts = λ rs is a. y ∙ ap (λ (x : List Record). arities_from (recalled table₀) 0 (uses_of x)) (encode_one g.some.records rs g.some.ranged a (inv g.some.is ∙ is));
          remembers = λ rs is a q. absurd (some-none k q);
          same = kept-length ∙ g.same;
        }

    pub scanning-next : (k' j : ℕ) → not t ≡ false → k' ≡ counted (record_kind item) k → j ≡ i + 1 + body_length (get_or image i 0) → Scanning image table₀ table' k' j
    scanning-next k' j z q w =
        let m = h.remembered (not-false t z) in
        record {
          some = g.some;
          inside = omega (arith, w, next.body);
          low = omega (arith, q, w, g.low, counted-low (eqb (record_kind item) 4) refl);
          same = kept-length ∙ g.same;
          left = next.behind;
          here = ap (λ (x : ℕ). drop x image) w ∙ next.later;
          ranged = next.ranged;
          counts = ap₂ (λ (x : Memory) (y : ℕ). arities_from x y (uses_of next.behind)) m q ∙ (rw (not-false t z) at stepped);
          met =
              ap (λ (x : Memory). recall x (uses_of next.behind)) m
              ∙ inv (recall-step (recalled table) item (uses_of next.behind))
              ∙ ap (λ (rs : List Record). recall (recalled table) (uses_of rs)) (inv left_is)
              ∙ g.met;
        }
      where
        counted-low : (b : Bool) → eqb (record_kind item) 4 ≡ b → counted (record_kind item) k ≤ k + 1
        counted-low true p = rw p (omega arith)
        counted-low false p = rw p (omega arith)

pub scanning-end : (image table₀ table : List ℕ) (k i : ℕ) → Scanning image table₀ table k i → length image ≤ i → Met image table₀ table None
scanning-end image table₀ table k i g h = by g.left g.here refl
  where
    by : (rs : List Record) → drop i image ≡ encode rs → g.left ≡ rs → Met image table₀ table None
    by [] e q =
        let y : None ≡ arities_from (recalled table₀) 0 (uses_of g.some.records) = ap (λ (rs : List Record). arities_from (recalled table) k (uses_of rs)) (inv q) ∙ g.counts in
        let z : recalled table ≡ recall (recalled table₀) (uses_of g.some.records) = ap (λ (rs : List Record). recall (recalled table) (uses_of rs)) (inv q) ∙ g.met in
        record {
          counts = λ ss is a. y ∙ ap (λ (x : List Record). arities_from (recalled table₀) 0 (uses_of x)) (encode_one g.some.records ss g.some.ranged a (inv g.some.is ∙ is));
          remembers = λ ss is a p. z ∙ ap (λ (x : List Record). recall (recalled table₀) (uses_of x)) (encode_one g.some.records ss g.some.ranged a (inv g.some.is ∙ is));
          same = g.same;
        }
    by (r ∷ rs) e q = absurd (omega (arith, (encoded image i r (encode rs) e).body))

pub ruleset scanning = (scanning-start, scanning-body, scanning-range, scanning-low, scanning-stops, scanning-next, scanning-end)
