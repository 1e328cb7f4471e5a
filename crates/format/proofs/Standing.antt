-- The reader's walk: along records that it takes, to their end or to a refusal, of which anything may be said that holds of each.
use Prim.Native.Nat.{ℕ, zero, suc, ◌+◌, ◌-◌, ◌≤◌, ◌<◌}
use native.Mathlib.Omega.{arith}
use borrow.Author.Tests.{lt-ltb, le-ltb}
use mathlib.Core.Path.{◌≡◌, refl, sym as inv, ap, subst, ◌∙◌}
use mathlib.Core.Logic.{◌⊎◌, inl, inr}
use mathlib.Core.Bool.{true, false}
use mathlib.Core.List.{List, [], ◌∷◌, ◌++◌, append-nil, append_assoc}
use lib.ListN.{length, get_or, drop, length-append, drop_of_length-le}
use native.Mathlib.Decide.{dec_lt}
use Rattle.terms.specs.Cases.{cases}
use Rattle.format.specs.declared.Check.{Check}
use Rattle.format.specs.declared.State.{State}
use Rattle.format.specs.declared.Form.{Form}
use Rattle.format.specs.declared.Record.{Record}
use Rattle.format.specs.declared.Fault.{Fault}
use Rattle.format.specs.declared.Fault.TheVariants.{Kind}
use Rattle.std.specs.Prelude.{Result, Ok, Err}
use Rattle.format.specs.Reading.{count_of, refused, body_length, record_at, after, judge, whole, finish, walk, start}
use Rattle.format.specs.Format.{record_kind, encode_record, encode, Bytes}
use Rattle.format.specs.Arities.{Memory, meets}
use Rattle.format.specs.Faulty.{pair}
use Rattle.format.proofs.Going.{met_at, walk-next, walk-bad, walk_end, Going, going_next}
use Rattle.format.proofs.Items.{decode, allowed-is, allowed-kinded}
use Rattle.format.proofs.Taken.{TakenAt, taken}
use Rattle.format.proofs.Owed.{MayStand}
use Rattle.format.proofs.Encoded.{encoded}
use Rattle.format.proofs.Tested.{passed, looked-is}
use Rattle.format.proofs.Beginnings.{reach, reach-append, Reads, reads-back}
use Rattle.format.proofs.Sizes.{Sized, sized-back}
use Rattle.format.proofs.Keeping.{remember, remember-append, Kept, kept_back}
use Rattle.format.proofs.Failing.{record_length, looked_record}

module _ (form : Form) (s : List ℕ) (before : Memory) where
  -- The reader goes along records that are taken.

  pub going-along : (rs : List Record) (rest : List ℕ) (state : State) (at : ℕ) (m : Memory) → Going form s before state at m → Reads form state rs → Sized form state rs → Kept m rs → drop at s ≡ encode rs ++ rest →
      Going form s before (reach state rs) (at + length (encode rs)) (remember m rs) × (drop (at + length (encode rs)) s ≡ rest)
  going-along [] rest state at m g f z k e = let q : at + 0 ≡ at = omega arith in rw q (g, e)
  going-along (r ∷ rs) rest state at m g f z k e =
      let b = encoded s at r (encode rs ++ rest) (e ∙ append_assoc (encode_record r) (encode rs) rest) in
      let t = looked-is form state m s at (looked_record form state m s at r _ _ b f.0.kind (passed f.0.within_range z.0 f.0.in_order k.0)) in
      let body = b.body in
      let n : at + 1 + body_length (get_or s at 0) ≡ at + length (encode_record r) = rw b.kind (omega (arith, record_length r)) in
      let l : at + length (encode (r ∷ rs)) ≡ at + length (encode_record r) + length (encode rs) = omega (arith, length-append (encode_record r) (encode rs)) in
      let h : at + 1 + body_length (record_kind r) ≡ at + length (encode_record r) = omega (arith, record_length r) in
      let item : record_at s at (get_or s at 0) ≡ r = rw b.kind b.item in
      let q : met_at s at m ≡ meets m r = ap (meets m) item in
      let next = subst (λ (x : Memory). Going form s before (after state r) (at + length (encode_record r)) x) q (rw n at (going_next form s before state at m (after state r) g (omega arith) t)) in
      rw l (going-along rs rest (after state r) (at + length (encode_record r)) (meets m r) next f.1 z.1 k.1 (rw h at b.later))

-- records that are taken to their end
pub record Accepted (form : Form) (m : Memory) (s : List ℕ) (answer : Check) : Type 0 where
  pub items : List Record
  pub reads : Reads form start items
  pub sized : Sized form start items
  pub kept : Kept m items
  pub finished : whole (reach start items) ≡ true
  pub image : s ≡ encode items
  pub short : length s ≤ pair form 32768 16387
  pub count : answer ≡ record { code = 0; place = 0; count = count_of form (reach start items) }

encode-last : (rs : List Record) (r : Record) → encode (rs ++ r ∷ []) ≡ encode rs ++ encode_record r
encode-last [] r = append-nil (encode_record r)
encode-last (x ∷ rs) r = ap (λ (l : List ℕ). encode_record x ++ l) (encode-last rs r) ∙ inv (append_assoc (encode_record x) (encode rs) (encode_record r))

-- where the reader stands, and the records that it has taken
pub record Standing (form : Form) (m : Memory) (s : List ℕ) (at : ℕ) : Type 0 where
  pub rs : List Record
  pub reads : Reads form start rs
  pub sized : Sized form start rs
  pub kept : Kept m rs
  pub offset : at ≡ length (encode rs)
  pub bytes : s ≡ encode rs ++ drop at s

-- Whatever is said of a refusal, where it holds of each: an input is accepted, or it is said.
module _ (form : Form) (m : Memory) (s : List ℕ) (bytes : Bytes s) (short : length s ≤ pair form 32768 16387) (Said : Check → Type 0) where
  -- of a record that is refused, and of one that is missing
  abbrev pub OfRecord : Type 0
  OfRecord = (at : ℕ) (h : Standing form m s at) (fault : Fault) → at < length s → judge form (reach start h.rs) (remember m h.rs) s at ≡ Err fault → Said (refused form fault at)

  abbrev pub OfEnd : Type 0
  OfEnd = (h : Standing form m s (length s)) → s ≡ encode h.rs → whole (reach start h.rs) ≡ false → Said (refused form Kind (length s))

  abbrev Answered : Check → Type 0
  Answered c = Accepted form m s c ⊎ Said c

  answer-end : OfEnd → (at : ℕ) (h : Standing form m s at) → at ≡ length s → Answered (finish form (reach start h.rs) (length s))
  unfolding finish
  answer-end said at h l =
      let far : length s ≤ at = omega (arith, l) in
      let nothing = drop_of_length-le s far in
      let e : s ≡ encode h.rs = h.bytes ∙ ap (λ (x : List ℕ). encode h.rs ++ x) nothing ∙ append-nil _ in
      cases (whole (reach start h.rs))
      (λ w. inl (record { items = h.rs; reads = h.reads; sized = h.sized; kept = h.kept; finished = w; image = e; short = short; count = simp w }))
      (λ w.
      let there : Standing form m s (length s) = record { rs = h.rs; reads = h.reads; sized = h.sized; kept = h.kept; offset = inv l ∙ h.offset; bytes = h.bytes ∙ ap (λ (n : ℕ). encode h.rs ++ drop n s) l } in
      inr (simp w (said there e w)))

  standing-next : (at : ℕ) (next : State) (h : Standing form m s at) (t : TakenAt form (reach start h.rs) (remember m h.rs) s at next) →
      (h' : Standing form m s (at + 1 + body_length (get_or s at 0))) × (reach start h'.rs ≡ next) × (remember m h'.rs ≡ met_at s at (remember m h.rs))
  standing-next at next h t =
      let k = get_or s at 0 in
      let r = record_at s at k in
      let state = reach start h.rs in
      let d = decode s bytes at k (allowed-kinded form state k (allowed-is form state k t.kind)) refl t.body in
      let fits : MayStand form state r = record { kind = rw d.kind t.kind; narrow = d.narrow; within_range = t.item.within_range; in_order = t.item.in_order } in (
        record {
          rs = h.rs ++ r ∷ [];
          reads = reads-back form start h.rs (r ∷ []) h.reads (fits, tt);
          sized = sized-back form start h.rs (r ∷ []) h.sized (t.item.in_size, tt);
          kept = kept_back m h.rs (r ∷ []) h.kept (t.item.kept, tt);
          offset = omega (arith, h.offset, ap length (encode-last h.rs r), length-append (encode h.rs) (encode_record r), record_length r, ap body_length d.kind);
          bytes = h.bytes ∙ ap (λ (l : List ℕ). encode h.rs ++ l) d.image ∙ inv (append_assoc (encode h.rs) (encode_record r) _) ∙ ap (λ (l : List ℕ). l ++ drop (at + 1 + body_length k) s) (inv (encode-last h.rs r));
        },
        reach-append start h.rs (r ∷ []) ∙ inv t.item.then,
        remember-append m h.rs (r ∷ []),
      )

  module _ (of_record : OfRecord) (of_end : OfEnd) where
    answer-judged : (k at : ℕ) (h : Standing form m s at) (j : Result State Fault) → at < length s → judge form (reach start h.rs) (remember m h.rs) s at ≡ j →
        ((next : State) → TakenAt form (reach start h.rs) (remember m h.rs) s at next → Answered (walk form k s (at + 1 + body_length (get_or s at 0)) next (met_at s at (remember m h.rs)))) →
        Answered (walk form (suc k) s at (reach start h.rs) (remember m h.rs))
    answer-judged k at h (Ok next) l e rest = rw (walk-next form s k at (reach start h.rs) next (remember m h.rs) (lt-ltb _ _ l) e) (rest next (taken form (reach start h.rs) (remember m h.rs) s at next e))
    answer-judged k at h (Err fault) l e rest = rw (walk-bad form s k at (reach start h.rs) (remember m h.rs) fault (lt-ltb _ _ l) e) (inr (of_record at h fault l e))

    answered : (k at : ℕ) (h : Standing form m s at) → at ≤ length s → length s - at < k → Answered (walk form k s at (reach start h.rs) (remember m h.rs))
    answered zero at h l f = absurd (omega arith)
    answered (suc k) at h l f =
        elim (dec_lt at (length s)) [
          | yes p ↦ answer-judged k at h (judge form (reach start h.rs) (remember m h.rs) s at) p refl (λ next t.
              let q = standing-next at next h t in
              let b = t.body in
              subst (λ x. Answered (walk form k s (at + 1 + body_length (get_or s at 0)) x (met_at s at (remember m h.rs)))) q.1
              (subst (λ (x : Memory). Answered (walk form k s (at + 1 + body_length (get_or s at 0)) (reach start q.0.rs) x)) q.2 (answered k (at + 1 + body_length (get_or s at 0)) q.0 (omega arith) (omega arith))))
          | no p ↦ rw (walk_end form s (suc k) at (reach start h.rs) (remember m h.rs) (le-ltb at (length s) (omega arith))) (answer-end of_end at h (omega arith))
        ]

    pub from_start : Answered (walk form (suc (length s)) s 0 start m)
    from_start = answered (suc (length s)) 0 (record { rs = []; reads = tt; sized = tt; kept = tt; offset = refl; bytes = refl }) (omega arith) (omega arith)
