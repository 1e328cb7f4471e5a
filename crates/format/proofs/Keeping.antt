-- Records that keep one arity with the uses before them are those that the reader takes one by one.
use mathlib.Core.Path.{◌≡◌, refl, sym as inv, ap, subst, ◌∙◌}
use mathlib.Core.Bool.{true}
use mathlib.Core.Logic.{◌↔◌}
use mathlib.Core.List.{List, [], ◌∷◌, ◌++◌, append-nil, append_assoc}
use Rattle.format.specs.declared.Record.{Record}
use Rattle.format.specs.Arities.{Use, record_uses, uses_of, OneArity, Memory, nothing_met, meets, recall, keeps}
use Rattle.format.specs.ArityLaws.{recall-append, recall_record, one_more, one_kept}

-- what is remembered after some records
abbrev pub remember : Memory → List Record → Memory
remember m [] = m
remember m (r ∷ rs) = remember (meets m r) rs

-- each record keeps to what is remembered
abbrev pub Kept : Memory → List Record → Type 0
Kept m [] = Unit
Kept m (r ∷ rs) = (keeps m r ≡ true) × Kept (meets m r) rs

pub remember-append : (m : Memory) (a b : List Record) → remember m (a ++ b) ≡ remember (remember m a) b
remember-append m [] b = refl
remember-append m (r ∷ a) b = remember-append (meets m r) a b

pub kept_back : (m : Memory) (a b : List Record) → Kept m a → Kept (remember m a) b → Kept m (a ++ b)
kept_back m [] b k q = q
kept_back m (r ∷ a) b k q = (k.0, kept_back (meets m r) a b k.1 q)

pub remember-uses : (m : Memory) (rs : List Record) → remember m rs ≡ recall m (uses_of rs)
remember-uses m [] = refl
remember-uses m (r ∷ rs) =
    remember-uses (meets m r) rs ∙ ap (λ (x : Memory). recall x (uses_of rs)) (inv (recall_record m r)) ∙ inv (recall-append m (record_uses r) (uses_of rs))

-- of uses and then records
pub remembers : (us : List Use) (rs : List Record) → remember (recall nothing_met us) rs ≡ recall nothing_met (us ++ uses_of rs)
remembers us rs = remember-uses (recall nothing_met us) rs ∙ inv (recall-append nothing_met us (uses_of rs))

-- one record more
recall-more : (us : List Use) (r : Record) → recall nothing_met (us ++ record_uses r) ≡ meets (recall nothing_met us) r
recall-more us r = recall-append nothing_met us (record_uses r) ∙ recall_record (recall nothing_met us) r

one-all : (us : List Use) (rs : List Record) → OneArity us → Kept (recall nothing_met us) rs → OneArity (us ++ uses_of rs)
one-all us [] o k = subst OneArity (inv (append-nil us)) o
one-all us (r ∷ rs) o k =
    subst OneArity (append_assoc us (record_uses r) (uses_of rs))
    (one-all (us ++ record_uses r) rs (one_more us o r k.0) (subst (λ (m : Memory). Kept m rs) (inv (recall-more us r)) k.1))

kept-all : (us : List Use) (rs : List Record) → OneArity (us ++ uses_of rs) → Kept (recall nothing_met us) rs
kept-all us [] o = tt
kept-all us (r ∷ rs) o = (
  one_kept us r rs o,
  subst (λ (m : Memory). Kept m rs) (recall-more us r) (kept-all (us ++ record_uses r) rs (subst OneArity (inv (append_assoc us (record_uses r) (uses_of rs))) o)),
)

pub kept_iff : (us : List Use) (rs : List Record) → OneArity us → Kept (recall nothing_met us) rs ↔ OneArity (us ++ uses_of rs)
kept_iff us rs o = (one-all us rs o, kept-all us rs)
