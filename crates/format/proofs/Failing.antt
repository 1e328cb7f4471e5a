-- What stands at a place fails a test of the relation just where it fails the reader's.
use Prim.Native.Nat.{ℕ, suc, ◌+◌, ◌-◌, ◌≤◌, ◌<◌}
use native.Mathlib.Omega.{arith}
use borrow.Author.Tests.{leb-true, le-leb}
use mathlib.Core.Path.{◌≡◌, refl, sym as inv, ap, subst, ◌∙◌}
use mathlib.Core.Logic.{◌↔◌}
use mathlib.Core.Bool.{Bool, true, false}
use mathlib.Core.List.{List, ◌∷◌, ◌++◌}
use lib.ListN.{length, get_or, drop, length-drop}
use lib.Seq.{drop-cons}
use lib.Dec.{leb}
use Rattle.terms.specs.Cases.{cases}
use Rattle.format.specs.declared.State.{State}
use Rattle.format.specs.declared.Form.{Form}
use Rattle.format.specs.declared.Form.TheVariants.{Book, Query}
use Rattle.format.specs.declared.Record.{Record}
use Rattle.format.specs.declared.Record.TheVariants.{Variable, Constant, Compound, Formula, Clause, Goal, End}
use Rattle.format.specs.declared.Fault.{Fault}
use Rattle.format.specs.declared.Fault.TheVariants.{Kind, Cut, Range, Size, Number, Arity}
use Rattle.std.specs.Prelude.{Result, Err}
use Rattle.format.specs.Reading.{code_base, fault_number, allowed, body_length, record_at, in_range, whole, start}
use Rattle.format.specs.Format.{record_kind, encode_record, Bytes}
use Rattle.format.specs.Arities.{Use, uses_of, OneArity, Memory, nothing_met, recall}
use Rattle.format.specs.ArityLaws.{arity_iff}
use Rattle.format.specs.Faulty.{pair, KindAllowed, InRange, Stands, Fails, missing, of_kind, of_cut, of_range, of_size, of_number, of_arity}
use Rattle.format.proofs.Tests.{and_both}
use Rattle.format.proofs.Items.{NarrowRecord, Decoded, decode, allowed-is, allowed-kinded}
use Rattle.format.proofs.Encoded.{head_of, Encoded, encoded}
use Rattle.format.proofs.Tested.{Tested, range_failed, size_failed, number_failed, arity_failed, Looked, kind_failed, cut_failed, whole_record}
use Rattle.format.proofs.Beginnings.{reach, Reads, complete-whole, kind-allowed}
use Rattle.format.proofs.Told.{told}
use Rattle.format.proofs.Sizes.{size_iff, number_iff}

-- the table of codes, pair by pair
abbrev pub codes : Form → Fault → ℕ
codes form Kind = pair form 2 12
codes form Cut = pair form 3 13
codes form Range = pair form 4 14
codes form Size = pair form 5 15
codes form Number = pair form 6 16
codes form Arity = pair form 7 17

pub fault-code : (form : Form) (fault : Fault) → code_base form + fault_number fault ≡ codes form fault
fault-code Book Kind = refl
fault-code Book Cut = refl
fault-code Book Range = refl
fault-code Book Size = refl
fault-code Book Number = refl
fault-code Book Arity = refl
fault-code Query Kind = refl
fault-code Query Cut = refl
fault-code Query Range = refl
fault-code Query Size = refl
fault-code Query Number = refl
fault-code Query Arity = refl

pub some-code : (form : Form) (fault : Fault) → codes form fault ≡ 0 → ⊥
some-code form fault e = by form fault (fault-code form fault ∙ e)
  where
    by : (form : Form) (fault : Fault) → code_base form + fault_number fault ≡ 0 → ⊥
    by form Kind e = omega arith
    by form Cut e = omega arith
    by form Range e = omega arith
    by form Size e = omega arith
    by form Number e = omega arith
    by form Arity e = omega arith

-- no fault has the code 0
pub fails-code : {form : Form} {us : List Use} {rs : List Record} {rest : List ℕ} {code : ℕ} → Fails form us rs rest code → code ≡ 0 → ⊥
fails-code {form} (missing e n c) z = some-code form Kind (inv c ∙ z)
fails-code {form} (of_kind k l e n c) z = some-code form Kind (inv c ∙ z)
fails-code {form} (of_cut k l e a m c) z = some-code form Cut (inv c ∙ z)
fails-code {form} (of_range r d n c) z = some-code form Range (inv c ∙ z)
fails-code {form} (of_size r d i p c) z = some-code form Size (inv c ∙ z)
fails-code {form} (of_number r d i p n c) z = some-code form Number (inv c ∙ z)
fails-code {form} (of_arity r d i p n a c) z = some-code form Arity (inv c ∙ z)

pub record_length : (r : Record) → length (encode_record r) ≡ 1 + body_length (record_kind r)
unfolding body_length
record_length (Variable v) = refl
record_length (Constant c) = refl
record_length (Compound f n) = refl
record_length (Formula p n) = refl
record_length (Clause n) = refl
record_length (Goal n) = refl
record_length End = refl

pub range_iff : (r : Record) → InRange r ↔ (in_range r ≡ true)
unfolding in_range
range_iff (Variable v) = (λ i. refl, λ e. tt)
range_iff (Constant c) = (λ i. refl, λ e. tt)
range_iff (Compound f n) = (λ i. simp (le-leb 1 n i.0, le-leb n 8 i.1), λ e. let z = and_both (leb 1 n) (leb n 8) e in (leb-true 1 n z.0, leb-true n 8 z.1))
range_iff (Formula p n) = (le-leb n 8, leb-true n 8)
range_iff (Clause n) = (le-leb n 16, leb-true n 16)
range_iff (Goal n) = (le-leb n 512, leb-true n 512)
range_iff End = (λ i. refl, λ e. tt)

-- a test that says whether P holds
not-true : {P : Type 0} (t : Bool) → P ↔ (t ≡ true) → (P → ⊥) ↔ (t ≡ false)
not-true t i = (λ n. cases t (λ e. absurd (n (i.1 e))) (λ e. e), λ e p. let q = i.0 p in cc)

not-false : {P : Type 0} (t : Bool) → P ↔ (t ≡ false) → (P → ⊥) ↔ (t ≡ true)
not-false t i = (λ n. cases t (λ e. e) (λ e. absurd (n (i.1 e))), λ e p. let q = i.0 p in cc)

-- a whole record at a place
pub looked_record : (form : Form) (state : State) (m : Memory) (s : List ℕ) (at : ℕ) (r : Record) (l : List ℕ) (j : Result State Fault) → Encoded s at r l → allowed form state (record_kind r) ≡ true →
    Tested form state m r j → Looked form state m s at j
looked_record form state m s at r l j e a t =
    let z : record_at s at (get_or s at 0) ≡ r = rw e.kind e.item in
    whole_record (rw e.kind a) (rw e.kind e.body) (subst (λ (x : Record). Tested form state m x j) (inv z) t)

module _ (form : Form) (us : List Use) (s : List ℕ) (at : ℕ) (rs : List Record) (f : Reads form start rs) (one : OneArity (us ++ uses_of rs)) where
  abbrev memory : Memory
  memory = recall nothing_met (us ++ uses_of rs)

  -- From the reader's tests.

  module _ (bytes : Bytes s) (within : at < length s) where
    here : drop at s ≡ get_or s at 0 ∷ drop (suc at) s
    here = drop-cons s at 0 within

    kind_at : allowed form (reach start rs) (get_or s at 0) ≡ true → KindAllowed form rs (get_or s at 0)
    kind_at a = (kind-allowed form rs f (get_or s at 0)).1 a

    decoded : allowed form (reach start rs) (get_or s at 0) ≡ true → body_length (get_or s at 0) < length s - at → Decoded s at (get_or s at 0)
    decoded a b = decode s bytes at (get_or s at 0) (allowed-kinded form (reach start rs) _ (allowed-is form (reach start rs) _ a)) refl b

    failed_record : (fault : Fault) (r : Record) → Stands form rs (drop at s) r → allowed form (reach start rs) (record_kind r) ≡ true → NarrowRecord r →
        Tested form (reach start rs) memory r (Err fault) → Fails form us rs (drop at s) (codes form fault)
    failed_record fault r d a n (range_failed e) = of_range r d ((not-true (in_range r) (range_iff r)).1 e) refl
    failed_record fault r d a n (size_failed i e) = of_size r d ((range_iff r).1 i) ((size_iff form rs (reach start rs) (told form rs f) r a n).1 e) refl
    failed_record fault r d a n (number_failed i e o) =
        of_number r d ((range_iff r).1 i) ((not-false _ (size_iff form rs (reach start rs) (told form rs f) r a n)).1 e) ((number_iff form rs (reach start rs) (told form rs f) r a).1 o) refl
    failed_record fault r d a n (arity_failed i e o k) =
        of_arity r d ((range_iff r).1 i) ((not-false _ (size_iff form rs (reach start rs) (told form rs f) r a n)).1 e) ((not-false _ (number_iff form rs (reach start rs) (told form rs f) r a)).1 o)
        ((arity_iff (us ++ uses_of rs) one r).1 k) refl

    pub failed : (fault : Fault) → Looked form (reach start rs) memory s at (Err fault) → Fails form us rs (drop at s) (codes form fault)
    failed fault (kind_failed e) = of_kind (get_or s at 0) (drop (suc at) s) here ((not-true _ (kind-allowed form rs f (get_or s at 0))).1 e) refl
    failed fault (cut_failed a c) =
        let k = kind_at a in
        let same = ap body_length k.same in
        of_cut (get_or s at 0) (drop (suc at) s) here k (omega (arith, length-drop at s, record_length k.like)) refl
    failed fault (whole_record a b t) =
        let d = decoded a b in
        let r = record_at s at (get_or s at 0) in
        failed_record fault r (record { later = _; bytes = d.image; allowed = subst (KindAllowed form rs) (inv d.kind) (kind_at a) }) (rw d.kind a) d.narrow t

  -- And back.

  -- the fault, with its code, as the reader finds it
  pub data Found (code : ℕ) : Type 0 where
    at_record : (fault : Fault) → code ≡ codes form fault → at < length s → Looked form (reach start rs) memory s at (Err fault) → Found code
    at_end : code ≡ codes form Kind → length s ≤ at → whole (reach start rs) ≡ false → Found code

  module _ (bytes : Bytes s) (code : ℕ) where
    found_record : (fault : Fault) (r : Record) → Stands form rs (drop at s) r → code ≡ codes form fault →
        (allowed form (reach start rs) (record_kind r) ≡ true → NarrowRecord r → Tested form (reach start rs) memory r (Err fault)) → Found code
    found_record fault r d c t =
        let e = encoded s at r d.later d.bytes in
        let a = (kind-allowed form rs f (record_kind r)).0 d.allowed in
        let n = subst NarrowRecord e.item (decode s bytes at (record_kind r) (allowed-kinded form (reach start rs) _ (allowed-is form (reach start rs) _ a)) e.kind e.body).narrow in
        let body = e.body in
        at_record fault c (omega arith) (looked_record form (reach start rs) memory s at r d.later (Err fault) e a (t a n))

    pub found : Fails form us rs (drop at s) code → Found code
    found (missing e n c) = at_end c (omega (arith, length-drop at s, ap length e)) ((not-true _ (complete-whole form rs f)).0 n)
    found (of_kind k later e n c) =
        let h = head_of s at k later e in
        at_record Kind c h.within (kind_failed ((not-true _ (kind-allowed form rs f (get_or s at 0))).0 (rw h.here n)))
    found (of_cut k later e a l c) =
        let h = head_of s at k later e in
        let same = ap body_length a.same in
        at_record Cut c h.within (cut_failed (rw h.here ((kind-allowed form rs f k).0 a)) (rw h.here (omega (arith, length-drop at s, record_length a.like))))
    found (of_range r d o c) = found_record Range r d c (λ a n. range_failed ((not-true _ (range_iff r)).0 o))
    found (of_size r d i p c) = found_record Size r d c (λ a n. size_failed ((range_iff r).0 i) ((size_iff form rs (reach start rs) (told form rs f) r a n).0 p))
    found (of_number r d i p o c) =
        found_record Number r d c (λ a n.
        number_failed ((range_iff r).0 i) ((not-false _ (size_iff form rs (reach start rs) (told form rs f) r a n)).0 p) ((number_iff form rs (reach start rs) (told form rs f) r a).0 o))
    found (of_arity r d i p o k c) =
        found_record Arity r d c (λ a n.
        arity_failed ((range_iff r).0 i) ((not-false _ (size_iff form rs (reach start rs) (told form rs f) r a n)).0 p) ((not-false _ (number_iff form rs (reach start rs) (told form rs f) r a)).0 o)
        ((arity_iff (us ++ uses_of rs) one r).0 k))
