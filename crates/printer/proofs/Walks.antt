-- Along the records of an image.
use Prim.Native.Nat.{ℕ, ◌+◌, ◌≤◌, ◌<◌}
use mathlib.Core.Path.{◌≡◌, refl, sym as inv, ap, ap₂, ◌∙◌, subst}
use mathlib.Core.Bool.{Bool, true, false, not}
use mathlib.Core.List.{List, [], ◌∷◌, ◌++◌, append_assoc, append-nil}
use native.Mathlib.Omega.{arith}
use borrow.Author.Tests.{not-true, not-false}
use lib.ListN.{length, get_or, drop, length-drop, drop_of_length-le}
use Rattle.terms.specs.When.{◌⇒◌∣◌}
use Rattle.format.specs.declared.Record.{Record}
use Rattle.format.specs.declared.Record.TheVariants.{Variable, Constant, Compound, Formula, Clause, Goal, End}
use Rattle.format.specs.Format.{record_kind, encode_record, encode}
use Rattle.format.specs.Reading.{body_length, record_at}
use Rattle.format.proofs.Encoded.{encoded}
use Rattle.grammar.specs.Names as Names
use Rattle.grammar.specs.Names.{Sort, kind}
use Rattle.printing.specs.Named.{Naming}
use Rattle.namelist.specs.List.{Entry, naming}
use Rattle.namelist.specs.ListLaws.{Stands}
use Rattle.namelist.specs.NamingLaws.{some}
use Rattle.namelist.proofs.Walking.{stands_one}
use Rattle.printouts.specs.declared.Turn.{Turn}
use Rattle.printouts.specs.declared.Turn.TheVariants as T
use Rattle.printouts.specs.declared.Turn.TheVariants.{Start, Head}
use Rattle.printouts.specs.Walk.{walked, piece}
use Rattle.printouts.specs.Laying.{Lays, lays-none, lays-then}
use Rattle.pen.specs.declared.Pen.{Pen}
use Rattle.pen.specs.Parts.{Room}
use Rattle.printer.specs.Parts.{Wrote, items, record_named, records_named}
use Rattle.pen.proofs.Layings.{lays-length}

-- One record

module _ (s a c stack stack' : List ℕ) (pen out : Pen) (item : Record) where
  abbrev Wrotes : Record → Type 0
  Wrotes r = (l : List Entry) → Stands s 0 l → Wrote (naming l) a c stack stack' pen out r

  pub item-variable : (v w : ℕ) → item ≡ Variable v → w ≡ v → ((name : Naming) → Wrote name a c stack stack' pen out (Variable w)) → Wrotes item
  item-variable v w e f g l h = subst (Wrote (naming l) a c stack stack' pen out) (ap Variable f ∙ inv e) (g (naming l))

pub item-goal : (s a stack : List ℕ) (pen out : Pen) (item : Record) (n : ℕ) → Room stack pen.top → item ≡ Goal n → out ≡ record { at = pen.at; top = 4096; turn = T.Goal } → (l : List Entry) → Stands s 0 l →
    Wrote (naming l) a a stack stack pen out item
item-goal s a stack pen out item n r e o l h =
    subst (λ (x : Pen). Wrote (naming l) a a stack stack pen x item) (inv o)
    (subst (Wrote (naming l) a a stack stack pen (record { at = pen.at; top = 4096; turn = T.Goal })) (inv e)
    (record { text = lays-none a pen.at; owed = drop_of_length-le stack {i = 4096} (omega (arith, r.size)); turn = refl; room = record { size = r.size; inside = omega arith } }))

pub ruleset iteming = (item-variable, item-goal)

-- The records from a place on

pub record Standing (image : List ℕ) (i : ℕ) (rs : List Record) : Type 0 where
  pub here : drop i image ≡ encode rs
  pub inside : i ≤ length image

encoded-some : (r : Record) → 0 < length (encode_record r)
encoded-some (Variable v) = omega arith
encoded-some (Constant c) = omega arith
encoded-some (Compound f n) = omega arith
encoded-some (Formula p n) = omega arith
encoded-some (Clause n) = omega arith
encoded-some (Goal n) = omega arith
encoded-some End = omega arith

-- the record that is read there, and those behind it
pub record Reads (image : List ℕ) (i : ℕ) (rs : List Record) : Type 0 where
  pub behind : List Record
  pub is : rs ≡ record_at image i (get_or image i 0) ∷ behind
  pub body : i + body_length (get_or image i 0) < length image
  pub next : Standing image (i + 1 + body_length (get_or image i 0)) behind

reads : (image : List ℕ) (i : ℕ) (rs : List Record) → Standing image i rs → i < length image → Reads image i rs
reads image i [] g l = absurd (omega (arith, ap length g.here, length-drop i image))
reads image i (r ∷ rs) g l =
    let e = encoded image i r (encode rs) g.here in
    let k : record_kind r ≡ get_or image i 0 = inv e.kind in
    let body : i + body_length (get_or image i 0) < length image = subst (λ (n : ℕ). i + body_length n < length image) k (omega (arith, e.body)) in
    record {
      behind = rs;
      is = ap (λ (x : Record). x ∷ rs) (inv e.item ∙ ap (record_at image i) k);
      body = body;
      next = record { here = ap (λ (n : ℕ). drop (i + 1 + body_length n) image) (inv k) ∙ e.later; inside = omega (arith, body) };
    }

over : (image : List ℕ) (i : ℕ) (rs : List Record) → Standing image i rs → length image ≤ i → rs ≡ []
over image i [] g l = refl
over image i (r ∷ rs) g l = absurd (omega (arith, (encoded image i r (encode rs) g.here).body))

-- The text

pub record Walking (area₀ area names image stack : List ℕ) (pen : Pen) (i : ℕ) : Type 0 where
  pub entries : List Entry
  pub begins : Stands names 0 entries
  pub left : List Record
  pub standing : Standing image i left
  pub written : List ℕ
  pub laid : Lays area₀ area 0 pen.at written
  pub rest : written ++ walked (naming entries) pen.turn (drop pen.top stack) left ≡ walked (naming entries) Start [] (items image)
  pub room : Room stack pen.top

module _ (area₀ names image : List ℕ) where
  pub walking_start : (stack : List ℕ) → ((l : List Entry) × Stands names 0 l) → image ≡ encode (items image) → length stack ≡ 4096 →
      Walking area₀ area₀ names image stack (record { at = 0; top = 4096; turn = Start }) 0
  walking_start stack h e r =
      record {
        entries = h.0;
        begins = h.1;
        left = items image;
        standing = record { here = e; inside = omega arith };
        written = [];
        laid = lays-none area₀ 0;
        rest = ap (λ (o : List ℕ). walked (naming h.0) Start o (items image)) (drop_of_length-le stack {i = 4096} (omega (arith, r)));
        room = record { size = r; inside = omega arith };
      }

  pub walking-body : (area stack : List ℕ) (pen : Pen) (i : ℕ) → Walking area₀ area names image stack pen i → i < length image → i + body_length (get_or image i 0) < length image
  walking-body area stack pen i g l = (reads image i g.left g.standing l).body

  pub walking-length : (area stack : List ℕ) (pen : Pen) (i : ℕ) → Walking area₀ area names image stack pen i → length area ≡ length area₀
  walking-length area stack pen i g = lays-length area₀ area 0 pen.at g.written g.laid

  pub walking-step : (area area' stack stack' : List ℕ) (pen out : Pen) (i j : ℕ) (item : Record) → Walking area₀ area names image stack pen i → i < length image → item ≡ record_at image i (get_or image i 0) →
      ((l : List Entry) → Stands names 0 l → Wrote (naming l) area area' stack stack' pen out item) → j ≡ i + 1 + body_length (get_or image i 0) → Walking area₀ area' names image stack' out j
  walking-step area area' stack stack' pen out i j item g l e w q =
      let y = reads image i g.left g.standing l in
      let v = w g.entries g.begins in
      let name = naming g.entries in
      let o = drop pen.top stack in
      let p = piece name pen.turn o item in
      record {
        entries = g.entries;
        begins = g.begins;
        left = y.behind;
        standing = subst (λ (k : ℕ). Standing image k y.behind) (inv q) y.next;
        written = g.written ++ p;
        laid = lays-then area₀ area area' 0 pen.at out.at g.written p g.laid v.text;
        rest =
            append_assoc g.written p (walked name out.turn (drop out.top stack') y.behind)
            ∙ ap (λ (x : List ℕ). g.written ++ (p ++ x)) (ap₂ (λ (t : Turn) (d : List ℕ). walked name t d y.behind) v.turn v.owed)
            ∙ ap (λ (x : List Record). g.written ++ walked name pen.turn o x) (ap (λ (x : Record). x ∷ y.behind) e ∙ inv y.is)
            ∙ g.rest;
        room = v.room;
      }

  pub walking-end : (area stack : List ℕ) (pen : Pen) (i : ℕ) → Walking area₀ area names image stack pen i → length image ≤ i → (l : List Entry) → Stands names 0 l →
      Lays area₀ area 0 pen.at (walked (naming l) Start [] (items image))
  walking-end area stack pen i g q l h =
      subst (λ (m : List Entry). Lays area₀ area 0 pen.at (walked (naming m) Start [] (items image))) (stands_one names 0 g.entries l g.begins h)
      (subst (Lays area₀ area 0 pen.at)
      (inv (append-nil g.written) ∙ ap (λ (x : List Record). g.written ++ walked (naming g.entries) pen.turn (drop pen.top stack) x) (inv (over image i g.left g.standing q)) ∙ g.rest)
      g.laid)

pub ruleset walking = (walking_start, walking-body, walking-length, walking-step, walking-end)

-- Names

module _ (s : List ℕ) (item : Record) (t : Bool) where
  pub is-constant : (v w : ℕ) → item ≡ Constant v → w ≡ v → ((l : List Entry) → Stands s 0 l → t ≡ some (naming l Names.Constant w)) → (l : List Entry) → Stands s 0 l → t ≡ record_named l item
  is-constant v w e f g l h = g l h ∙ ap (λ (x : ℕ). some (naming l Names.Constant x)) f ∙ ap (record_named l) (inv e)

  pub is_compound : (v w n : ℕ) → item ≡ Compound v n → w ≡ v → ((l : List Entry) → Stands s 0 l → t ≡ some (naming l Names.Compound w)) → (l : List Entry) → Stands s 0 l → t ≡ record_named l item
  is_compound v w n e f g l h = g l h ∙ ap (λ (x : ℕ). some (naming l Names.Compound x)) f ∙ ap (record_named l) (inv e)

  pub is-formula : (v w n : ℕ) → item ≡ Formula v n → w ≡ v → ((l : List Entry) → Stands s 0 l → t ≡ some (naming l Names.Predicate w)) → (l : List Entry) → Stands s 0 l → t ≡ record_named l item
  is-formula v w n e f g l h = g l h ∙ ap (λ (x : ℕ). some (naming l Names.Predicate x)) f ∙ ap (record_named l) (inv e)

-- a record of no symbol
pub is-other : (item : Record) → ((v : ℕ) → item ≡ Constant v → ⊥) → ((v n : ℕ) → item ≡ Compound v n → ⊥) → ((v n : ℕ) → item ≡ Formula v n → ⊥) → (l : List Entry) → true ≡ record_named l item
is-other (Variable v) a b c l = refl
is-other (Constant v) a b c l = absurd (a v refl)
is-other (Compound v n) a b c l = absurd (b v n refl)
is-other (Formula v n) a b c l = absurd (c v n refl)
is-other (Clause n) a b c l = refl
is-other (Goal n) a b c l = refl
is-other End a b c l = refl

pub ruleset naming-items = (is-constant, is_compound, is-formula)

pub record Sweeping (names image : List ℕ) (i : ℕ) : Type 0 where
  pub entries : List Entry
  pub begins : Stands names 0 entries
  pub left : List Record
  pub standing : Standing image i left
  pub rest : records_named entries left ≡ records_named entries (items image)

module _ (names image : List ℕ) where
  pub sweeping-start : ((l : List Entry) × Stands names 0 l) → image ≡ encode (items image) → Sweeping names image 0
  sweeping-start h e = record { entries = h.0; begins = h.1; left = items image; standing = record { here = e; inside = omega arith }; rest = refl }

  pub sweeping-body : (i : ℕ) → Sweeping names image i → i < length image → i + body_length (get_or image i 0) < length image
  sweeping-body i g l = (reads image i g.left g.standing l).body

  test : (t : Bool) (i : ℕ) (item : Record) (g : Sweeping names image i) (l : i < length image) → item ≡ record_at image i (get_or image i 0) →
      ((m : List Entry) → Stands names 0 m → t ≡ record_named m item) → (t ⇒ records_named g.entries (reads image i g.left g.standing l).behind ∣ false) ≡ records_named g.entries (items image)
  test t i item g l e w =
      let y = reads image i g.left g.standing l in
      ap (λ (u : Bool). u ⇒ records_named g.entries y.behind ∣ false) (w g.entries g.begins ∙ ap (record_named g.entries) e)
      ∙ ap (records_named g.entries) (inv y.is) ∙ g.rest

  pub sweeping-fails : (i : ℕ) (item : Record) (t : Bool) → Sweeping names image i → i < length image → item ≡ record_at image i (get_or image i 0) →
      ((m : List Entry) → Stands names 0 m → t ≡ record_named m item) → not t ≡ true → (l : List Entry) → Stands names 0 l → false ≡ records_named l (items image)
  sweeping-fails i item t g q e w f l h =
      ap (λ (u : Bool). u ⇒ records_named g.entries (reads image i g.left g.standing q).behind ∣ false) (inv (not-true t f))
      ∙ test t i item g q e w ∙ ap (λ (m : List Entry). records_named m (items image)) (stands_one names 0 g.entries l g.begins h)

  pub sweeping-step : (i j : ℕ) (item : Record) (t : Bool) → Sweeping names image i → i < length image → item ≡ record_at image i (get_or image i 0) →
      ((m : List Entry) → Stands names 0 m → t ≡ record_named m item) → not t ≡ false → j ≡ i + 1 + body_length (get_or image i 0) → Sweeping names image j
  sweeping-step i j item t g l e w f q =
      let y = reads image i g.left g.standing l in
      record {
        entries = g.entries;
        begins = g.begins;
        left = y.behind;
        standing = subst (λ (k : ℕ). Standing image k y.behind) (inv q) y.next;
        rest = ap (λ (u : Bool). u ⇒ records_named g.entries y.behind ∣ false) (inv (not-false t f)) ∙ test t i item g l e w;
      }

  pub sweeping-end : (i : ℕ) → Sweeping names image i → length image ≤ i → (l : List Entry) → Stands names 0 l → true ≡ records_named l (items image)
  sweeping-end i g q l h =
      inv (ap (records_named g.entries) (over image i g.left g.standing q)) ∙ g.rest ∙ ap (λ (m : List Entry). records_named m (items image)) (stands_one names 0 g.entries l g.begins h)

pub ruleset sweeping = (sweeping-start, sweeping-body, sweeping-step)

pub ruleset sweeping-said = (sweeping-fails, sweeping-end)
