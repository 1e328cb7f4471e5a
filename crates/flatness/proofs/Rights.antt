-- Records that stand before a place with nothing wrong, and what a fault behind them tells.
use Prim.Native.Nat.{ℕ, ◌<◌}
use native.Mathlib.Omega.{arith}
use mathlib.Core.Path.{◌≡◌, refl, sym as inv, ap, subst, ◌∙◌}
use mathlib.Core.List.{List, [], ◌∷◌, ◌++◌, append_assoc}
use lib.ListN.{length}
use Rattle.format.specs.declared.Form.{Form}
use Rattle.format.specs.declared.Form.TheVariants.{Book, Query}
use Rattle.format.specs.declared.Record.{Record}
use Rattle.format.specs.declared.Record.TheVariants.{Variable, Constant, Compound, Formula, Clause, Goal, End}
use Rattle.format.specs.Format.{record_kind, encode_record, encode}
use Rattle.format.specs.Arities.{Use, uses_of, OneArity}
use Rattle.format.specs.ArityLaws.{uses-append, one_left}
use Rattle.format.specs.Faulty.{pair, Complete, Beginning, KindAllowed, Fails, missing, of_kind, of_cut, of_range, of_size, of_number, of_arity, WithinSizes, GoodUpTo}
use Rattle.flatness.proofs.Faulty.{CompoundStands}

-- Records that stand before a place

pub encode-append : (a b : List Record) → encode (a ++ b) ≡ encode a ++ encode b
encode-append [] b = refl
encode-append (r ∷ a) b = ap (λ (l : List ℕ). encode_record r ++ l) (encode-append a b) ∙ inv (append_assoc (encode_record r) (encode a) (encode b))

-- nothing is wrong with the records rs, and rest stands behind them
pub record Right (form : Form) (us : List Use) (s : List ℕ) (rs : List Record) (rest : List ℕ) : Type 0 where
  pub bytes : s ≡ encode rs ++ rest
  pub begins : Beginning form rs
  pub sizes : WithinSizes form rs
  pub arities : OneArity (us ++ uses_of rs)

module _ {form : Form} {us : List Use} {s : List ℕ} where
  pub right-up-to : {place : ℕ} (g : GoodUpTo form us s place) → Right form us s g.before g.rest
  right-up-to g = record { bytes = g.bytes; begins = g.begins; sizes = g.sizes; arities = g.arities }

  module _ {rs : List Record} {rest : List ℕ} (w : Right form us s rs rest) (a : List Record) (r : Record) (more : List Record) (e : rs ≡ a ++ r ∷ more) where
    begins_with : Beginning form (a ++ r ∷ [])
    begins_with =
        let m = w.begins.0 in
        (more ++ m, subst (Complete form) (ap (λ (x : List Record). x ++ m) e ∙ append_assoc a (r ∷ more) m ∙ inv (append_assoc a (r ∷ []) (more ++ m))) w.begins.1)

    -- the records before one of them
    abbrev pub good_before : GoodUpTo form us s (length (encode a))
    good_before = record {
      before = a;
      rest = encode (r ∷ more) ++ rest;
      bytes = w.bytes ∙ ap (λ (x : List Record). encode x ++ rest) e ∙ ap (λ (l : List ℕ). l ++ rest) (encode-append a (r ∷ more)) ∙ append_assoc (encode a) (encode (r ∷ more)) rest;
      offset = refl;
      begins = (r ∷ more ++ w.begins.0, subst (Complete form) (ap (λ (x : List Record). x ++ w.begins.0) e ∙ append_assoc a (r ∷ more) w.begins.0) w.begins.1);
      sizes = λ b x m q. w.sizes b x (m ++ r ∷ more) (e ∙ ap (λ (l : List Record). l ++ r ∷ more) q ∙ append_assoc b (x ∷ m) (r ∷ more));
      arities = one_left (us ++ uses_of a) (uses_of (r ∷ more)) (subst OneArity (ap (λ (x : List Record). us ++ uses_of x) e ∙ ap (λ (l : List Use). us ++ l) (uses-append a (r ∷ more)) ∙ inv (append_assoc us (uses_of a) (uses_of (r ∷ more)))) w.arities);
    }

    pub kind-before : KindAllowed form a (record_kind r)
    kind-before = record { like = r; same = refl; begins = begins_with }

-- Of a fault: it is of the kind, or it stands at a record whose kind is allowed.

kind-first : (r : Record) → (t : List ℕ) × (encode_record r ≡ record_kind r ∷ t)
kind-first (Variable v) = (_, refl)
kind-first (Constant c) = (_, refl)
kind-first (Compound f n) = (_, refl)
kind-first (Formula p n) = (_, refl)
kind-first (Clause n) = (_, refl)
kind-first (Goal n) = (_, refl)
kind-first End = (_, refl)

pub data Tells (form : Form) (rs : List Record) (rest : List ℕ) (code : ℕ) : Type 0 where
  by_kind : code ≡ pair form 2 12 → (CompoundStands form rs rest → ⊥) → Tells form rs rest code
  past_kind : (code ≡ pair form 2 12 → ⊥) → (kind : ℕ) (later : List ℕ) → rest ≡ kind ∷ later → KindAllowed form rs kind → Tells form rs rest code

not_2 : (form : Form) (a b : ℕ) {code : ℕ} → 2 < a → 12 < b → code ≡ pair form a b → code ≡ pair form 2 12 → ⊥
not_2 Book a b l k e z = omega arith
not_2 Query a b l k e z = omega arith

nil-cons : {x : ℕ} {l : List ℕ} → [] ≡ x ∷ l → ⊥
nil-cons e = let z = ap length e in omega arith

pub tells : {form : Form} {us : List Use} {rs : List Record} {rest : List ℕ} {code : ℕ} → Fails form us rs rest code → Tells form rs rest code
tells {form} (missing e n c) = by_kind c (λ x. nil-cons (inv e ∙ x.bytes))
tells {form} {rs = rs} (of_kind k l e n c) = by_kind c (λ x. n (subst (KindAllowed form rs) (let z : 3 ≡ k = cc in z) x.allowed))
tells {form} (of_cut k l e a m c) = past_kind (not_2 form 3 13 (omega arith) (omega arith) c) k l e a
tells {form} {rs = rs} {rest = rest} (of_range r s i c) = past_kind (not_2 form 4 14 (omega arith) (omega arith) c) (record_kind r) _ (s.bytes ∙ ap (λ (l : List ℕ). l ++ s.later) (kind-first r).1) s.allowed
tells {form} (of_size r s i p c) = past_kind (not_2 form 5 15 (omega arith) (omega arith) c) (record_kind r) _ (s.bytes ∙ ap (λ (l : List ℕ). l ++ s.later) (kind-first r).1) s.allowed
tells {form} (of_number r s i p n c) = past_kind (not_2 form 6 16 (omega arith) (omega arith) c) (record_kind r) _ (s.bytes ∙ ap (λ (l : List ℕ). l ++ s.later) (kind-first r).1) s.allowed
tells {form} (of_arity r s i p n a c) = past_kind (not_2 form 7 17 (omega arith) (omega arith) c) (record_kind r) _ (s.bytes ∙ ap (λ (l : List ℕ). l ++ s.later) (kind-first r).1) s.allowed
