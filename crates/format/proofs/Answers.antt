-- What a check answers: 0 where the input is the image of records that it takes to their end; otherwise the fault that the input has.
use Prim.Native.Nat.{ℕ, suc, ◌+◌, ◌≤◌, ◌<◌}
use native.Mathlib.Omega.{arith}
use native.Mathlib.Nat.{le_refl}
use borrow.Author.Tests.{lt-ltb, le-ltb}
use mathlib.Core.Path.{◌≡◌, refl, sym as inv, ap, subst, ◌∙◌}
use mathlib.Core.Logic.{◌⊎◌, inl, inr}
use mathlib.Core.Bool.{true}
use mathlib.Core.List.{List, [], ◌++◌, append-nil}
use lib.ListN.{length, drop, drop_of_length-le}
use native.Mathlib.Decide.{dec_lt}
use Rattle.format.specs.declared.Check.{Check}
use Rattle.format.specs.declared.Form.{Form}
use Rattle.format.specs.declared.Form.TheVariants.{Book, Query}
use Rattle.format.specs.declared.Record.{Record}
use Rattle.format.specs.declared.Fault.{Fault}
use Rattle.format.specs.declared.Fault.TheVariants.{Kind, Size}
use Rattle.std.specs.Prelude.{Err}
use Rattle.format.specs.Reading.{byte_limit, count_of, refused, judge, whole, finish, walk, met_from, start, verdict}
use Rattle.format.specs.Format.{encode, Bytes}
use Rattle.format.specs.Arities.{Use, uses_of, OneArity, Memory, nothing_met, recall}
use Rattle.format.specs.Faulty.{pair, Complete, Fails, missing, Faulty, over_long, at_place}
use Rattle.format.proofs.Going.{Going, going_start, going-bad, going_end, going-met}
use Rattle.format.proofs.Tested.{Looked, looked-is, looked}
use Rattle.format.proofs.Beginnings.{reach, Reads, beginning-reads, complete-whole}
use Rattle.format.proofs.Sizes.{Sized, sizes_iff}
use Rattle.format.proofs.Keeping.{remember, Kept, remembers, kept_iff}
use Rattle.format.proofs.Failing.{codes, fault-code, some-code, fails-code, failed, Found, at_record, at_end, found}
use Rattle.format.proofs.Standing.{going-along, Accepted, Standing, OfRecord, OfEnd, from_start}

byte_limit_lem : (form : Form) → byte_limit form ≡ pair form 32768 16387
byte_limit_lem Book = refl
byte_limit_lem Query = refl

-- a fault's code is not 0
pub faulty-code : (form : Form) (us : List Use) (s : List ℕ) (code place : ℕ) → Faulty form us s code place → code ≡ 0 → ⊥
faulty-code form us s code place (over_long l c p) z = some-code form Size (inv c ∙ z)
faulty-code form us s code place (at_place l g f) z = fails-code f z

abbrev pub Refused : Form → List Use → List ℕ → Check → Type 0
Refused form us s answer = Faulty form us s answer.code answer.place × (answer.count ≡ 0)

-- a fault that is found after uses us
module _ (form : Form) (us : List Use) (s : List ℕ) where
  refused-at : (at code : ℕ) (rs : List Record) (f : Reads form start rs) (one : OneArity (us ++ uses_of rs)) → Going form s (recall nothing_met us) (reach start rs) at (recall nothing_met (us ++ uses_of rs)) →
      Found form us s at rs f one code → (fault : Fault) × (code ≡ codes form fault) × (walk form (suc (length s)) s 0 start (recall nothing_met us) ≡ refused form fault at)
  unfolding finish
  refused-at at code rs f one g (at_record fault c l k) = (fault, c, inv (going-bad form s (recall nothing_met us) (reach start rs) at _ fault g l (looked-is form (reach start rs) _ s at k)))
  refused-at at code rs f one g (at_end c l w) =
      let q : length s ≡ at = omega (arith, g.bound) in
      (Kind, c, inv (going_end form s (recall nothing_met us) (reach start rs) at _ g l) ∙ simp w (ap (refused form Kind) q))

-- What is said by the relation.
module _ (form : Form) (us : List Use) (one : OneArity us) (s : List ℕ) (bytes : Bytes s) (short : length s ≤ pair form 32768 16387) where
  abbrev before : Memory
  before = recall nothing_met us

  kept-one : (rs : List Record) → Kept before rs → OneArity (us ++ uses_of rs)
  kept-one rs k = (kept_iff us rs one).0 k

  faulty-here : (at : ℕ) (fault : Fault) (h : Standing form before s at) → Fails form us h.rs (drop at s) (codes form fault) → Refused form us s (refused form fault at)
  faulty-here at fault h x = (
    at_place short
        (record {
          before = h.rs;
          rest = drop at s;
          bytes = h.bytes;
          offset = h.offset;
          begins = (beginning-reads form h.rs).1 h.reads;
          sizes = (sizes_iff form h.rs h.reads).1 h.sized;
          arities = kept-one h.rs h.kept;
        })
        (subst (Fails form us h.rs (drop at s)) (inv (fault-code form fault)) x),
    refl,
  )

  said_record : OfRecord form before s bytes short (Refused form us s)
  said_record at h fault l e =
      let j : judge form (reach start h.rs) (recall nothing_met (us ++ uses_of h.rs)) s at ≡ Err fault = subst (λ (m : Memory). judge form (reach start h.rs) m s at ≡ Err fault) (remembers us h.rs) e in
      faulty-here at fault h
      (failed form us s at h.rs h.reads (kept-one h.rs h.kept) bytes l fault
      (subst (Looked form (reach start h.rs) (recall nothing_met (us ++ uses_of h.rs)) s at) j (looked form (reach start h.rs) (recall nothing_met (us ++ uses_of h.rs)) s at)))

  said-end : OfEnd form before s bytes short (Refused form us s)
  said-end h e w =
      let z : Complete form h.rs → ⊥ = λ c. let q = (complete-whole form h.rs h.reads).0 c in cc in
      faulty-here (length s) Kind h (missing (drop_of_length-le s (le_refl (length s))) z refl)

-- The two, for an input of any length.

module _ (form : Form) (m : Memory) (s : List ℕ) where
  verdict-long : pair form 32768 16387 < length s → verdict form m s ≡ record { code = pair form 5 15; place = pair form 32768 16387; count = 0 }
  unfolding verdict
  verdict-long l = simp (lt-ltb (byte_limit form) (length s) (rw (byte_limit_lem form) l)) (λ i. record { code = fault-code form Size i; place = byte_limit_lem form i; count = 0 })

  verdict-short : length s ≤ pair form 32768 16387 → verdict form m s ≡ walk form (suc (length s)) s 0 start m
  unfolding verdict
  verdict-short l = simp (le-ltb (byte_limit form) (length s) (rw (byte_limit_lem form) l))

  -- whatever is remembered, an input that is not refused is taken to its end
  pub accepted-by : Bytes s → (verdict form m s).code ≡ 0 → Accepted form m s (verdict form m s)
  accepted-by bytes z =
      elim (dec_lt (pair form 32768 16387) (length s)) [
        | yes l ↦ absurd (some-code form Size (inv (ap (λ (c : Check). c.code) (verdict-long l)) ∙ z))
        | no l ↦
            let short : length s ≤ pair form 32768 16387 = omega arith in
            let e = verdict-short short in
            rw e (
            elim (from_start form m s bytes short (λ (c : Check). c.code ≡ 0 → ⊥) (λ at h fault l j z. some-code form fault (inv (fault-code form fault) ∙ z)) (λ h i w z. some-code form Kind (inv (fault-code form Kind) ∙ z))) [
              | inl a ↦ a
              | inr n ↦ absurd (n (inv (ap (λ (c : Check). c.code) e) ∙ z))
            ]
            )
      ]

  pub accepts : (items : List Record) → s ≡ encode items → length s ≤ pair form 32768 16387 → Reads form start items → Sized form start items → Kept m items → whole (reach start items) ≡ true →
      verdict form m s ≡ record { code = 0; place = 0; count = count_of form (reach start items) }
  unfolding finish
  accepts items e l f z k w =
      let g = going-along form s m items [] start 0 m (going_start form s m) f z k (e ∙ inv (append-nil _)) in
      let long = ap length e in
      verdict-short l ∙ inv (going_end form s m (reach start items) _ _ g.0 (omega arith)) ∙ simp w

  -- and what it leaves remembered
  pub accepts_met : (items : List Record) → s ≡ encode items → Reads form start items → Sized form start items → Kept m items → met_from (suc (length s)) s 0 m ≡ remember m items
  accepts_met items e f z k =
      let g = going-along form s m items [] start 0 m (going_start form s m) f z k (e ∙ inv (append-nil _)) in
      let long = ap length e in
      inv (going-met form s m (reach start items) _ _ g.0 (omega arith))

module _ (form : Form) (us : List Use) (one : OneArity us) (s : List ℕ) (bytes : Bytes s) where
  pub answer : Accepted form (recall nothing_met us) s (verdict form (recall nothing_met us) s) ⊎ Refused form us s (verdict form (recall nothing_met us) s)
  answer =
      elim (dec_lt (pair form 32768 16387) (length s)) [
        | yes l ↦ rw (verdict-long form (recall nothing_met us) s l) (inr (over_long l refl refl, refl))
        | no l ↦
            let short : length s ≤ pair form 32768 16387 = omega arith in
            rw (verdict-short form (recall nothing_met us) s short)
            (from_start form (recall nothing_met us) s bytes short (Refused form us s) (said_record form us one s bytes short) (said-end form us one s bytes short))
      ]

  pub refuses : (code place : ℕ) → Faulty form us s code place → verdict form (recall nothing_met us) s ≡ record { code = code; place = place; count = 0 }
  refuses code place (over_long l c p) =
      verdict-long form (recall nothing_met us) s l ∙ (λ i. record { code = inv c i; place = inv p i; count = 0 })
  refuses code place (at_place l g x) =
      let m = recall nothing_met us in
      let rs = g.before in
      let f = (beginning-reads form rs).0 g.begins in
      let z = (sizes_iff form rs f).0 g.sizes in
      let q = going-along form s m rs g.rest start 0 m (going_start form s m) f z ((kept_iff us rs one).1 g.arities) g.bytes in
      let at = 0 + length (encode rs) in
      let there = subst (λ (y : Memory). Going form s m (reach start rs) at y) (remembers us rs) q.0 in
      let r = refused-at form us s at code rs f g.arities there (found form us s at rs f g.arities bytes code (subst (λ (y : List ℕ). Fails form us rs y code) (inv q.1) x)) in
      let here : at ≡ place = omega (arith, g.offset) in
      verdict-short form m s l ∙ r.2 ∙ (λ i. record { code = (fault-code form r.0 ∙ inv r.1) i; place = here i; count = 0 })
