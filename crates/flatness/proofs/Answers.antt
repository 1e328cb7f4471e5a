-- What a flat check answers is the first fault, with the compound record's test behind the kind's; or nothing is at fault and there is no compound record.
use Prim.Native.Nat.{ℕ, zero, suc, ◌+◌, ◌-◌, ◌≤◌, ◌<◌}
use native.Mathlib.Omega.{arith}
use native.Mathlib.Decide.{ℕ_discrete}
use borrow.Author.Tests.{lt-ltb, le-ltb, eq-eqb, ne_eqb}
use mathlib.Core.Path.{◌≡◌, refl, sym as inv, ap, subst, ◌∙◌}
use mathlib.Core.Logic.{◌⊎◌, inl, inr}
use mathlib.Core.List.{List, [], ◌∷◌, ◌++◌, append-nil}
use lib.ListN.{length, get_or, drop, length-append}
use Rattle.format.specs.declared.Check.{Check}
use Rattle.format.specs.declared.Form.{Form}
use Rattle.format.specs.declared.Form.TheVariants.{Book, Query}
use Rattle.format.specs.declared.Record.{Record}
use Rattle.format.specs.declared.Record.TheVariants.{Compound}
use Rattle.format.specs.Reading.{code_base, byte_limit, walk, verdict, start}
use Rattle.format.specs.Format.{encode_record, encode, Bytes}
use Rattle.format.specs.Arities.{Use, OneArity, Memory, nothing_met, recall}
use Rattle.format.specs.Faulty.{pair, Complete, KindAllowed, Fails, GoodUpTo, over_long, at_place}
use Rattle.format.proofs.Encoded.{Head, head_of, encoded}
use Rattle.format.proofs.Beginnings.{reach, Reads, beginning-reads, kind-allowed}
use Rattle.format.proofs.Sizes.{sizes_iff}
use Rattle.format.proofs.Keeping.{remember, kept_iff}
use Rattle.format.proofs.Going.{Going, going_start}
use Rattle.format.proofs.Standing.{going-along}
use Rattle.format.proofs.Answers.{refuses}
use Rattle.format.proofs.Refusals.{refused_iff, refused-count, good-records}
use Rattle.flatness.proofs.Plain.{PlainRecords}
use Rattle.flatness.proofs.Faulty.{CompoundStands, FlatFaulty, too_long, of_compound, of_record}
use Rattle.flatness.specs.Profile.{compound_from, allowed_up_to, unless_before, flat_check_of, flat_verdict}
use Rattle.flatness.proofs.Scanning.{Split, all_plain, first, split, Scan, scan-start, scan-along, scanned_on, scanned_found, scanned_end}
use Rattle.flatness.proofs.Places.{allowed-past, verdict-within}
use Rattle.flatness.proofs.Rights.{encode-append, Right, right-up-to, good_before, kind-before, Tells, by_kind, past_kind, tells}

-- the codes by their bases
base_2 : (form : Form) → code_base form + 2 ≡ pair form 2 12
base_2 Book = refl
base_2 Query = refl

base_8 : (form : Form) → code_base form + 8 ≡ pair form 8 18
base_8 Book = refl
base_8 Query = refl

limit_is : (form : Form) → pair form 32768 16387 ≡ byte_limit form
limit_is Book = refl
limit_is Query = refl

module _ (base : ℕ) (plain : Check) (size : ℕ) where
  end-good : plain.code ≡ 0 → allowed_up_to base plain size ≡ size
  end-good z = simp (eq-eqb plain.code 0 z)

  end-kind : (plain.code ≡ 0 → ⊥) → plain.code ≡ base + 2 → allowed_up_to base plain size ≡ plain.place
  end-kind n e = simp (ne_eqb plain.code 0 n, eq-eqb plain.code (base + 2) e)

  end-other : (plain.code ≡ 0 → ⊥) → (plain.code ≡ base + 2 → ⊥) → allowed_up_to base plain size ≡ plain.place + 1
  end-other n e = simp (ne_eqb plain.code 0 n, ne_eqb plain.code (base + 2) e)

module _ (form : Form) (m : Memory) (s : List ℕ) where
  abbrev plain : Check
  plain = verdict form m s

  abbrev end : ℕ
  end = allowed_up_to (code_base form) plain (length s)

  abbrev scan : ℕ
  scan = compound_from (length s) s 0 end

  flat-long : pair form 32768 16387 < length s → flat_verdict form m s ≡ plain
  unfolding flat_check_of
  flat-long l = simp (lt-ltb (byte_limit form) (length s) (rw (limit_is form) at l))

  module _ (short : length s ≤ pair form 32768 16387) where
    flat-short : flat_verdict form m s ≡ unless_before (code_base form) plain end scan
    unfolding flat_check_of
    flat-short = simp (le-ltb (byte_limit form) (length s) (rw (limit_is form) at short))

    verdict-walk : plain ≡ walk form (suc (length s)) s 0 start m
    unfolding verdict
    verdict-walk = simp (le-ltb (byte_limit form) (length s) (rw (limit_is form) at short))

    flat-found : (place : ℕ) → place ≡ scan → place < end → flat_verdict form m s ≡ record { code = pair form 8 18; place = place; count = 0 }
    flat-found place e l =
        flat-short ∙ ap (unless_before (code_base form) plain end) (inv e) ∙ simp (lt-ltb place end l) (λ i. record { code = base_8 form i; place = place; count = 0 })

    flat-none : end ≡ scan → flat_verdict form m s ≡ plain
    flat-none e = flat-short ∙ ap (unless_before (code_base form) plain end) (inv e) ∙ simp (le-ltb end end (omega arith))

    end-within : end ≤ length s
    end-within = verdict-within form s m (rw (limit_is form) at short)

-- Both ways

-- a check that answers no fault, of records without a compound term
pub record Taken (form : Form) (us : List Use) (s : List ℕ) : Type 0 where
  pub good : (verdict form (recall nothing_met us) s).code ≡ 0
  pub same : flat_verdict form (recall nothing_met us) s ≡ verdict form (recall nothing_met us) s
  pub records : List Record
  pub image : s ≡ encode records
  pub plain : PlainRecords records

module _ (form : Form) (us : List Use) (one : OneArity us) (s : List ℕ) (bytes : Bytes s) where
  abbrev memory : Memory
  memory = recall nothing_met us

  abbrev flat : Check
  flat = flat_verdict form memory s

  abbrev Said : Type 0
  Said = Taken form us s ⊎ (FlatFaulty form us s flat.code flat.place × (flat.count ≡ 0))

  module _ (short : length s ≤ pair form 32768 16387) where
    -- a compound record among records with which nothing is wrong
    said-first : (rs : List Record) (rest : List ℕ) → Right form us s rs rest → Split rs → length (encode rs) ≤ end form memory s → Said
    said-first rs rest w x l =
        let r = Compound x.symbol x.arity in
        let g = good_before w x.before r x.more x.is in
        let at = length (encode x.before) in
        let long : length (encode rs) ≡ at + length (encode_record r) + length (encode x.more) = ap (λ (y : List Record). length (encode y)) x.is ∙ ap length (encode-append x.before (r ∷ x.more)) ∙ omega (arith, length-append (encode x.before) (encode (r ∷ x.more)), length-append (encode_record r) (encode x.more)) in
        let a = scan-along s (end form memory s) (end-within form memory s short) x.before g.rest 0 x.plain (scan-start s (end form memory s)) g.bytes (omega (arith, l, long)) in
        let q : 0 + at ≡ at = omega arith in
        let there = rw q at a.1 in
        let k = (encoded s at r (encode x.more ++ rest) there).kind in
        let f = scanned_found s (end form memory s) (end-within form memory s short) at (rw q at a.0) (omega (arith, l, long)) k in
        let e = flat-found form memory s short at f (omega (arith, l, long)) in
        inr (rw e (of_compound short g x.plain (record { later = _; bytes = refl; allowed = kind-before w x.before r x.more x.is }) refl, refl))

    -- a good input of records without a compound term
    pub flat-plain : (plain form memory s).code ≡ 0 → (rs : List Record) → s ≡ encode rs → PlainRecords rs → flat ≡ plain form memory s
    flat-plain z rs e p =
        let whole : length (encode rs) ≡ end form memory s = ap length (inv e) ∙ inv (end-good (code_base form) (plain form memory s) (length s) z) in
        let a = scan-along s (end form memory s) (end-within form memory s short) rs [] 0 p (scan-start s (end form memory s)) (e ∙ inv (append-nil (encode rs))) (omega (arith, whole)) in
        flat-none form memory s short (scanned_end s (end form memory s) (end-within form memory s short) _ a.0 (omega (arith, whole)))

    said-good : (plain form memory s).code ≡ 0 → Said
    said-good z =
        let (rs, e, c, w, o, l) = (good-records form us one s bytes).0 z in
        let there : s ≡ encode rs ++ [] = e ∙ inv (append-nil (encode rs)) in
        let whole : length (encode rs) ≡ end form memory s = ap length (inv e) ∙ inv (end-good (code_base form) (plain form memory s) (length s) z) in
        elim (split rs) [
          | all_plain p ↦ inl (record { good = z; same = flat-plain z rs e p; records = rs; image = e; plain = p })
          | first x ↦ said-first rs [] (record { bytes = there; begins = ([], subst (Complete form) (inv (append-nil rs)) c); sizes = w; arities = o }) x (omega (arith, whole))
        ]

    -- past records without a compound term, up to a place
    past-plain : (place : ℕ) (g : GoodUpTo form us s place) → PlainRecords g.before → place ≤ end form memory s → Scan s (end form memory s) place × (drop place s ≡ g.rest)
    past-plain place g p l =
        let a = scan-along s (end form memory s) (end-within form memory s short) g.before g.rest 0 p (scan-start s (end form memory s)) g.bytes (omega (arith, l, g.offset)) in
        let q : 0 + length (encode g.before) ≡ place = omega (arith, g.offset) in
        rw q at a

    module _ (n : (plain form memory s).code ≡ 0 → ⊥) (g : GoodUpTo form us s (plain form memory s).place) where
      abbrev place : ℕ
      place = (plain form memory s).place

      said_plain : Fails form us g.before g.rest (plain form memory s).code → PlainRecords g.before → (CompoundStands form g.before g.rest → ⊥) → end form memory s ≡ scan form memory s → Said
      said_plain x p c e = inr (rw (flat-none form memory s short e) (of_record short g p c x, refused-count form us one s bytes n))

      said-told : Fails form us g.before g.rest (plain form memory s).code → PlainRecords g.before → Tells form g.before g.rest (plain form memory s).code → Said
      said-told x p (by_kind c none) =
          let e = end-kind (code_base form) (plain form memory s) (length s) n (c ∙ inv (base_2 form)) in
          let a = past-plain place g p (omega (arith, e)) in
          said_plain x p none (scanned_end s (end form memory s) (end-within form memory s short) place a.0 (omega (arith, e)))
      said-told x p (past_kind c kind later r allowed) =
          let e = end-other (code_base form) (plain form memory s) (length s) n (λ z. c (z ∙ base_2 form)) in
          let a = past-plain place g p (omega (arith, e)) in
          let h = head_of s place kind later (a.1 ∙ r) in
          elim (ℕ_discrete kind 3) [
            | yes k ↦ (
                let f = scanned_found s (end form memory s) (end-within form memory s short) place a.0 (omega (arith, e)) (h.here ∙ k) in
                inr (rw (flat-found form memory s short place f (omega (arith, e))) (of_compound short g p (record { later = later; bytes = r ∙ ap (λ (y : ℕ). y ∷ later) k; allowed = subst (KindAllowed form g.before) k allowed }) refl, refl)))
            | no k ↦ (
                let on = scanned_on s (end form memory s) (end-within form memory s short) place a.0 (omega (arith, e)) (λ z. k (inv h.here ∙ z)) in
                said_plain x p (λ y. k (let z : kind ≡ 3 = cc in z)) (scanned_end s (end form memory s) (end-within form memory s short) _ on (omega (arith, e))))
          ]

      said-faulty : Fails form us g.before g.rest (plain form memory s).code → Said
      said-faulty x = elim (split g.before) [
        | all_plain p ↦ said-told x p (tells x)
        | first y ↦ said-first g.before g.rest (right-up-to g) y (omega (arith, g.offset, up_to (tells x)))
      ]
        where
          up_to : Tells form g.before g.rest (plain form memory s).code → place ≤ end form memory s
          up_to (by_kind c none) = omega (arith, end-kind (code_base form) (plain form memory s) (length s) n (c ∙ inv (base_2 form)))
          up_to (past_kind c kind later r allowed) = omega (arith, end-other (code_base form) (plain form memory s) (length s) n (λ z. c (z ∙ base_2 form)))

  pub flat-answer : Said
  flat-answer = elim (ℕ_discrete (plain form memory s).code 0) [
    | yes z ↦ said-good ((good-records form us one s bytes).0 z).5 z
    | no n ↦ elim ((refused_iff form us one s bytes (plain form memory s).code (plain form memory s).place).0 (n, refl, refl)) [
      | over_long l c p ↦ inr (rw (flat-long form memory s l) (too_long l c p, refused-count form us one s bytes n))
      | at_place l g x ↦ said-faulty l n g x
    ]
  ]

  module _ (short : length s ≤ pair form 32768 16387) (place : ℕ) (g : GoodUpTo form us s place) (p : PlainRecords g.before) where
    -- the plain check comes past a compound record that may stand there
    comes-past : CompoundStands form g.before g.rest → place < end form memory s
    comes-past c = by q.0.fuel q.0.enough q.0.same
      where
        f : Reads form start g.before
        f = (beginning-reads form g.before).0 g.begins

        q : Going form s memory (reach start g.before) (0 + length (encode g.before)) (remember memory g.before) × (drop (0 + length (encode g.before)) s ≡ g.rest)
        q = going-along form s memory g.before g.rest start 0 memory (going_start form s memory) f ((sizes_iff form g.before f).0 g.sizes) ((kept_iff us g.before one).1 g.arities) g.bytes

        at : ℕ
        at = 0 + length (encode g.before)

        h : Head s at 3 c.later
        h = head_of s at 3 c.later (q.1 ∙ c.bytes)

        by : (k : ℕ) → length s - at < k → walk form k s at (reach start g.before) (remember memory g.before) ≡ walk form (suc (length s)) s 0 start memory → place < end form memory s
        by zero l e = absurd (omega arith)
        by (suc k) l e =
            let a = allowed-past form s k at (reach start g.before) (remember memory g.before) h.within (rw h.here ((kind-allowed form g.before f 3).0 c.allowed)) in
            let v = subst (λ (x : Check). at < allowed_up_to (code_base form) x (length s)) (e ∙ inv (verdict-walk form memory s short)) a in
            omega (arith, v, g.offset)

  pub flat-refuses : (code place : ℕ) → FlatFaulty form us s code place → flat ≡ record { code = code; place = place; count = 0 }
  flat-refuses code place (too_long l c p) = flat-long form memory s l ∙ refuses form us one s bytes code place (over_long l c p)
  flat-refuses code place (of_compound short g p c e) =
      let l = comes-past short place g p c in
      let a = past-plain short place g p (omega (arith, l)) in
      let h = head_of s place 3 c.later (a.1 ∙ c.bytes) in
      flat-found form memory s short place (scanned_found s (end form memory s) (end-within form memory s short) place a.0 l h.here) l ∙ (λ i. record { code = inv e i; place = place; count = 0 })
  flat-refuses code place (of_record short g p c x) = go (tells x)
    where
      is : plain form memory s ≡ record { code = code; place = place; count = 0 }
      is = refuses form us one s bytes code place (at_place short g x)

      code_is : (plain form memory s).code ≡ code
      code_is = ap (λ (r : Check). r.code) is

      place_is : (plain form memory s).place ≡ place
      place_is = ap (λ (r : Check). r.place) is

      some : (plain form memory s).code ≡ 0 → ⊥
      some z = ((refused_iff form us one s bytes code place).1 (at_place short g x)).0 (inv code_is ∙ z)

      none : end form memory s ≡ scan form memory s → flat ≡ record { code = code; place = place; count = 0 }
      none e = flat-none form memory s short e ∙ is

      go : Tells form g.before g.rest code → flat ≡ record { code = code; place = place; count = 0 }
      go (by_kind k n) =
          let e = end-kind (code_base form) (plain form memory s) (length s) some (code_is ∙ k ∙ inv (base_2 form)) in
          let a = past-plain short place g p (omega (arith, e, place_is)) in
          none (scanned_end s (end form memory s) (end-within form memory s short) place a.0 (omega (arith, e, place_is)))
      go (past_kind k kind later r allowed) =
          let e = end-other (code_base form) (plain form memory s) (length s) some (λ z. k (inv code_is ∙ z ∙ base_2 form)) in
          let a = past-plain short place g p (omega (arith, e, place_is)) in
          let h = head_of s place kind later (a.1 ∙ r) in
          let not-3 : get_or s place 0 ≡ 3 → ⊥ = λ z. let q : kind ≡ 3 = inv h.here ∙ z in c (record { later = later; bytes = r ∙ ap (λ (y : ℕ). y ∷ later) q; allowed = subst (KindAllowed form g.before) q allowed }) in
          let on = scanned_on s (end form memory s) (end-within form memory s short) place a.0 (omega (arith, e, place_is)) not-3 in
          none (scanned_end s (end form memory s) (end-within form memory s short) _ on (omega (arith, e, place_is)))
