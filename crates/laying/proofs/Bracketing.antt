-- Brackets opened and shut, and the first formula of a page; and what small functions answer.
use Prim.Native.Nat.{ℕ, zero, suc, ◌+◌, ◌-◌, ◌≤◌, ◌<◌}
use mathlib.Core.Path.{◌≡◌, refl, sym as inv, ap, ap₂, subst, ◌∙◌}
use mathlib.Core.Bool.{Bool, true, false}
use mathlib.Core.List.{List, [], ◌∷◌}
use native.Mathlib.Omega.{arith}
use borrow.Author.Tests.{eq-eqb, ne_eqb}
use lib.ListN.{length, get_or, set, take, length-set, drop_of_length-le}
use lib.Seq.{get_or-set_same, get_or-set_other, drop-cons}
use lib.Dec.{eqb}
use Rattle.terms.specs.When.{◌⇒◌∣◌}
use Rattle.terms.specs.Cases.{cases}
use Rattle.grammar.specs.Query.{Given}
use Rattle.laying.specs.declared.Kind.{Kind}
use Rattle.laying.specs.declared.Kind.TheVariants.{Variable, Constant, Compound, Predicate}
use Rattle.laying.specs.declared.Draft.{Draft}
use Rattle.laying.specs.Page.{Page, page, rooted, shut, opens}
use Rattle.laying.specs.Words.{own_of, draft}
use Rattle.laying.specs.Held.{kind_of, stack_of, Below, first_opens, opens_at, rooted_draft, shut_draft, pushed_draft, Held}
use Rattle.laying.proofs.Holding.{kept_same}

-- Small answers

pub kind_open : (d : ℕ) (b : Bool) → (d ≡ 0 → ⊥) → b ≡ true → Compound ≡ kind_of d b
kind_open zero b n e = absurd (n refl)
kind_open (suc d) b n e = rw e refl

pub kind-alone : (d : ℕ) (b : Bool) → (d ≡ 0 → ⊥) → b ≡ false → Constant ≡ kind_of d b
kind-alone zero b n e = absurd (n refl)
kind-alone (suc d) b n e = rw e refl

pub opens_not : (text : List ℕ) (at : ℕ) → length text ≤ at → false ≡ opens_at text at
opens_not text at h = inv (ap first_opens (drop_of_length-le text h))

pub opens_byte : (text : List ℕ) (at : ℕ) → at < length text → eqb (get_or text at 0) 40 ≡ opens_at text at
opens_byte text at h = inv (ap first_opens (drop-cons text at 0 h))

pub rooted-not : (d : Draft) → (d.depth ≡ 0 → ⊥) → d ≡ rooted_draft d
rooted-not d n = rw (ne_eqb d.depth 0 n) refl

pub rooted-is : (d : Draft) → d.depth ≡ 0 → draft d.len d.depth (d.formulas + 1) d.variables d.constants d.compounds d.predicates ≡ rooted_draft d
rooted-is d e = rw (eq-eqb d.depth 0 e) refl

pub shut-is : (d : Draft) (n : ℕ) → n ≡ d.depth - 1 → draft d.len n d.formulas d.variables d.constants d.compounds d.predicates ≡ shut_draft d
shut-is d n e = ap (λ (i : ℕ). draft d.len i d.formulas d.variables d.constants d.compounds d.predicates) e

pub ruleset small-answers = (kind_open, kind-alone, opens_not, opens_byte, rooted-not, rooted-is, shut-is)

-- Brackets

stack-kept : (opens : List ℕ) (i p n : ℕ) → n ≤ i → stack_of (set opens i p) n ≡ stack_of opens n
stack-kept opens i p zero h = refl
stack-kept opens i p (suc n) h = ap₂ (λ (x : ℕ) (l : List ℕ). x ∷ l) (get_or-set_other opens i n p 0 (λ (q : n ≡ i). omega arith)) (stack-kept opens i p n (omega arith))

stack-more : (opens : List ℕ) (n p : ℕ) → n < length opens → stack_of (set opens n p) (n + 1) ≡ p ∷ stack_of opens n
stack-more opens n p h =
    ap (stack_of (set opens n p)) (let z : n + 1 ≡ suc n = omega arith in z) ∙ ap₂ (λ (x : ℕ) (l : List ℕ). x ∷ l) (get_or-set_same opens n p 0 h) (stack-kept opens n p n (omega arith))

own-pushed : (d : Draft) (k : Kind) → own_of d k ≡ own_of (pushed_draft d) k
own-pushed d Variable = refl
own-pushed d Constant = refl
own-pushed d Compound = refl
own-pushed d Predicate = refl

own-rooted : (d : Draft) (k : Kind) → own_of d k ≡ own_of (rooted_draft d) k
own-rooted d Variable = cases (eqb d.depth 0) (λ t. rw t refl) (λ t. rw t refl)
own-rooted d Constant = cases (eqb d.depth 0) (λ t. rw t refl) (λ t. rw t refl)
own-rooted d Compound = cases (eqb d.depth 0) (λ t. rw t refl) (λ t. rw t refl)
own-rooted d Predicate = cases (eqb d.depth 0) (λ t. rw t refl) (λ t. rw t refl)

own_shut : (d : Draft) (k : Kind) → own_of d k ≡ own_of (shut_draft d) k
own_shut d Variable = refl
own_shut d Constant = refl
own_shut d Compound = refl
own_shut d Predicate = refl

module _ {g : Given} {text table out opens : List ℕ} {d : Draft} {s : Page} {left : ℕ} (h : Held g text table out opens d s left) where
  pub held-pushed : (p : ℕ) → p < d.len → d.depth + 1 + left ≤ 4096 → Held g text table out (set opens d.depth p) (pushed_draft d) (page s.bytes (p ∷ s.stack) s.spots s.formulas) left
  held-pushed p l room =
      record {
        kept = kept_same (pushed_draft d) (own-pushed d) h.kept;
        bytes_are = h.bytes_are;
        out_long = h.out_long;
        stack_is = stack-more opens d.depth p (omega (arith, h.opens_long)) ∙ ap (λ (x : List ℕ). p ∷ x) h.stack_is;
        opens_long = length-set opens d.depth p ∙ h.opens_long;
        below = (l, h.below);
        formulas_are = h.formulas_are;
        room_formulas = h.room_formulas;
        room_bytes = h.room_bytes;
        room_depth = room;
        room_words = λ k. subst (λ (n : ℕ). n + left ≤ 4096) (own-pushed d k) (h.room_words k);
      }

  shut-stack : (n : ℕ) → stack_of opens (n - 1) ≡ shut (stack_of opens n)
  shut-stack zero = refl
  shut-stack (suc n) = ap (stack_of opens) (let z : suc n - 1 ≡ n = omega arith in z)

  shut-below : (ps : List ℕ) (n : ℕ) → Below ps n → Below (shut ps) n
  shut-below [] n b = tt
  shut-below (p ∷ ps) n b = b.1

  pub held-shut : Held g text table out opens (shut_draft d) (page s.bytes (shut s.stack) s.spots s.formulas) left
  held-shut =
      record {
        kept = kept_same (shut_draft d) (own_shut d) h.kept;
        bytes_are = h.bytes_are;
        out_long = h.out_long;
        stack_is = shut-stack d.depth ∙ ap shut h.stack_is;
        opens_long = h.opens_long;
        below = shut-below s.stack d.len h.below;
        formulas_are = h.formulas_are;
        room_formulas = h.room_formulas;
        room_bytes = h.room_bytes;
        room_depth = omega (arith, h.room_depth);
        room_words = λ k. subst (λ (n : ℕ). n + left ≤ 4096) (own_shut d k) (h.room_words k);
      }

  rooted-same : (n m : ℕ) → rooted (stack_of opens n) m ≡ (eqb n 0 ⇒ m + 1 ∣ m)
  rooted-same zero m = refl
  rooted-same (suc n) m = inv (rw (ne_eqb (suc n) 0 (λ (e : suc n ≡ 0). omega arith)))

  rooted-formulas : (rooted_draft d).formulas ≡ (eqb d.depth 0 ⇒ d.formulas + 1 ∣ d.formulas)
  rooted-formulas = cases (eqb d.depth 0) (λ t. rw t refl) (λ t. rw t refl)

  rooted_len : (rooted_draft d).len ≡ d.len
  rooted_len = cases (eqb d.depth 0) (λ t. rw t refl) (λ t. rw t refl)

  rooted-depth : (rooted_draft d).depth ≡ d.depth
  rooted-depth = cases (eqb d.depth 0) (λ t. rw t refl) (λ t. rw t refl)

  pub held-rooted : d.formulas + 1 + left ≤ 4096 → Held g text table out opens (rooted_draft d) (page s.bytes s.stack s.spots (rooted s.stack s.formulas)) left
  held-rooted room =
      record {
        kept = kept_same (rooted_draft d) (own-rooted d) h.kept;
        bytes_are = ap (λ (n : ℕ). take n out) rooted_len ∙ h.bytes_are;
        out_long = h.out_long;
        stack_is = ap (stack_of opens) rooted-depth ∙ h.stack_is;
        opens_long = h.opens_long;
        below = subst (Below s.stack) (inv rooted_len) h.below;
        formulas_are = rooted-formulas ∙ inv (rooted-same d.depth d.formulas) ∙ ap₂ rooted h.stack_is h.formulas_are;
        room_formulas = cases (eqb d.depth 0) (λ t. rw t room) (λ t. rw t (omega arith));
        room_bytes = omega (arith, rooted_len, h.room_bytes);
        room_depth = omega (arith, rooted-depth, h.room_depth);
        room_words = λ k. subst (λ (n : ℕ). n + left ≤ 4096) (own-rooted d k) (h.room_words k);
      }

pub rooted-length : (d : Draft) → (rooted_draft d).len ≡ d.len
rooted-length d = cases (eqb d.depth 0) (λ t. rw t refl) (λ t. rw t refl)

pub rooted-deep : (d : Draft) → (rooted_draft d).depth ≡ d.depth
rooted-deep d = cases (eqb d.depth 0) (λ t. rw t refl) (λ t. rw t refl)
