-- What a check remembers is what was used; and a use that it refuses is one of a number that was used with another arity.
use Rattle.std.specs.Prelude.{ℕ, ◌+◌, ◌<◌, ◌≡◌, refl, Bool, true, false, ◌||◌, ◌↔◌, ◌⊎◌, List, [], ◌∷◌, ◌++◌, length, get_or, set, eqb}
use Rattle.std.proofs.Common.{arith, sym as inv, ap₂, subst, ◌∙◌, inl, inr, append_assoc, get_or-set_same, get_or-set_other}
use Rattle.std.proofs.Math.Decide.{ℕ_discrete}
use borrow.Author.Tests.{eq-eqb, ne_eqb, eqb-false}
use Rattle.std.proofs.Math.Path.{ap}
use Rattle.terms.specs.Node.{constant, compound, predicate, var, sym, Expr}
use Rattle.terms.specs.Cases.{cases}
use Rattle.search.specs.Next as Next
use Rattle.words.specs.Flat.{flat}
use Rattle.format.specs.declared.Record.{Record}
use Rattle.format.specs.declared.Record.TheVariants.{Variable, Constant, Compound, Formula, Clause, Goal, End}
use Rattle.format.specs.Format.{node_records, book_records, goal_records}
use Rattle.format.specs.Arities.{Use, use_of, node_uses, goal_uses, book_uses, record_uses, uses_of, Used, OneArity, AnotherArity, Memory, nothing_met, meet, meets, recall, keeps, recalled}

-- Uses

pub used-left : (p n : ℕ) (a b : List Use) → Used p n a → Used p n (a ++ b)
used-left p n (u ∷ a) b (inl e) = inl e
used-left p n (u ∷ a) b (inr x) = inr (used-left p n a b x)
used-left p n [] b x' = elim x' [ ]

pub used-right : (p n : ℕ) (a b : List Use) → Used p n b → Used p n (a ++ b)
used-right p n [] b x = x
used-right p n (u ∷ a) b x = inr (used-right p n a b x)

pub used-append : (p n : ℕ) (a b : List Use) → Used p n (a ++ b) → Used p n a ⊎ Used p n b
used-append p n [] b x = inr x
used-append p n (u ∷ a) b (inl e) = inl (inl e)
used-append p n (u ∷ a) b (inr x) = elim (used-append p n a b x) [ inl y ↦ inl (inr y) | inr y ↦ inr y ]

pub one_left : (a b : List Use) → OneArity (a ++ b) → OneArity a
one_left a b o p n m x y = o p n m (used-left p n a b x) (used-left p m a b y)

pub one_right : (a b : List Use) → OneArity (a ++ b) → OneArity b
one_right a b o p n m x y = o p n m (used-right p n a b x) (used-right p m a b y)

pub uses-append : (a b : List Record) → uses_of (a ++ b) ≡ uses_of a ++ uses_of b
uses-append [] b = refl
uses-append (r ∷ a) b = ap (λ (l : List Use). record_uses r ++ l) (uses-append a b) ∙ inv (append_assoc (record_uses r) (uses_of a) (uses_of b))

-- The records of books and goals have the uses of the books and goals.

pub nodes-uses : (e : Expr) → uses_of (node_records e) ≡ node_uses e
nodes-uses [] = refl
nodes-uses (var v ∷ e) = nodes-uses e
nodes-uses (sym (constant c) ∷ e) = nodes-uses e
nodes-uses (sym (compound f n) ∷ e) = nodes-uses e
nodes-uses (sym (predicate p n) ∷ e) = ap (λ (l : List Use). use_of p n ∷ l) (nodes-uses e)

pub goal-uses : (g : Next.Goal) → uses_of (goal_records g) ≡ goal_uses g
goal-uses g = nodes-uses (flat g)

pub book-uses : (b : Next.Book) → uses_of (book_records b) ≡ book_uses b
book-uses [] = refl
book-uses (c ∷ b) =
    let e = flat (c.head ∷ c.body) in
    uses-append (node_records e) (book_records b) ∙ ap (λ (l : List Use). l ++ uses_of (book_records b)) (nodes-uses e) ∙ ap (λ (l : List Use). node_uses e ++ l) (book-uses b)

-- What is remembered

pub meet-same : (m : Memory) (p n : ℕ) → meet m p n p ≡ n + 1
unfolding meet
meet-same m p n = simp (eq-eqb p p refl)

pub meet-other : (m : Memory) (p n q : ℕ) → (q ≡ p → ⊥) → meet m p n q ≡ m q
unfolding meet
meet-other m p n q h = simp (ne_eqb q p h)

pub recall-append : (m : Memory) (a b : List Use) → recall m (a ++ b) ≡ recall (recall m a) b
recall-append m [] b = refl
recall-append m (u ∷ a) b = recall-append (meet m u.number u.arity) a b

pub recall_record : (m : Memory) (r : Record) → recall m (record_uses r) ≡ meets m r
recall_record m (Variable v) = refl
recall_record m (Constant c) = refl
recall_record m (Compound f n) = refl
recall_record m (Formula p n) = refl
recall_record m (Clause n) = refl
recall_record m (Goal n) = refl
recall_record m End = refl

-- what is remembered of a number is its arity in some use, or what was remembered before
recalled-from : (m : Memory) (p : ℕ) (us : List Use) → ((n : ℕ) × Used p n us × (recall m us p ≡ n + 1)) ⊎ (((n : ℕ) → Used p n us → ⊥) × (recall m us p ≡ m p))
recalled-from m p [] = inr (λ n x. x, refl)
recalled-from m p (u ∷ us) =
    elim (recalled-from (meet m u.number u.arity) p us) [
      | inl x ↦ inl (x.0, inr x.1, x.2)
      | inr x ↦
          elim (ℕ_discrete p u.number) [
            | yes e ↦ inl (u.arity, inl (inv e, refl), x.1 ∙ ap (meet m u.number u.arity) e ∙ meet-same m u.number u.arity)
            | no d ↦ inr (λ n y. elim y [ inl z ↦ d (inv z.0) | inr z ↦ x.0 n z ], x.1 ∙ meet-other m u.number u.arity p d)
          ]
    ]

pub never_used : (us : List Use) (p : ℕ) → recall nothing_met us p ≡ 0 → (n : ℕ) → Used p n us → ⊥
never_used us p e n x = elim (recalled-from nothing_met p us) [ inl y ↦ omega (arith, e, y.2) | inr y ↦ y.0 n x ]

pub remembered : (us : List Use) → OneArity us → (p n : ℕ) → Used p n us → recall nothing_met us p ≡ n + 1
remembered us o p n x = elim (recalled-from nothing_met p us) [ inl y ↦ y.2 ∙ ap (λ (k : ℕ). k + 1) (o p y.0 n y.1 x) | inr y ↦ absurd (y.0 n x) ]

pub was_used : (us : List Use) (p : ℕ) → (recall nothing_met us p ≡ 0 → ⊥) → (n : ℕ) × Used p n us × (recall nothing_met us p ≡ n + 1)
was_used us p d = elim (recalled-from nothing_met p us) [ inl y ↦ y | inr y ↦ absurd (d y.1) ]

-- The test

true-false : true ≡ false → ⊥
true-false e = let z : ◌≡◌ {A = ℕ} 0 1 = cc in omega arith

-- the arity of a formula's record
abbrev arity_in : Record → ℕ
arity_in (Variable v) = 0
arity_in (Constant c) = 0
arity_in (Compound f n) = 0
arity_in (Formula p n) = n
arity_in (Clause n) = 0
arity_in (Goal n) = 0
arity_in End = 0

record_used : (p n : ℕ) (r : Record) → Used p n (record_uses r) → r ≡ Formula p n
record_used p n (Formula q i) (inl e) = ap₂ Formula e.0 e.1
record_used p n (Formula q i) (inr e) = absurd e
record_used p n (Variable v) x = absurd x
record_used p n (Constant c) x = absurd x
record_used p n (Compound f i) x = absurd x
record_used p n (Clause i) x = absurd x
record_used p n (Goal i) x = absurd x
record_used p n End x = absurd x

or_false : (a b : Bool) → (a || b) ≡ false → (a ≡ false) × (b ≡ false)
or_false true b e = absurd (true-false e)
or_false false b e = (refl, e)

module _ (us : List Use) (one : OneArity us) where
  another : (r : Record) → AnotherArity us r → keeps (recall nothing_met us) r ≡ false
  unfolding keeps
  another r a =
      let e = remembered us one a.number a.before a.met in
      let other = a.other in
      rw a.is (simp (ne_eqb (recall nothing_met us a.number) 0 (λ z. omega (arith, e, z)), ne_eqb (recall nothing_met us a.number) (a.arity + 1) (λ z. other (omega (arith, e, z)))))

  not-kept : (r : Record) → keeps (recall nothing_met us) r ≡ false → AnotherArity us r
  unfolding keeps
  not-kept (Formula p n) e =
      let z = or_false (eqb (recall nothing_met us p) 0) (eqb (recall nothing_met us p) (n + 1)) e in
      let w = was_used us p (eqb-false (recall nothing_met us p) 0 z.0) in
      record { number = p; arity = n; before = w.0; is = refl; met = w.1; other = λ q. eqb-false (recall nothing_met us p) (n + 1) z.1 (w.2 ∙ ap (λ (k : ℕ). k + 1) q) }
  not-kept (Variable v) e = absurd (true-false e)
  not-kept (Constant c) e = absurd (true-false e)
  not-kept (Compound f n) e = absurd (true-false e)
  not-kept (Clause n) e = absurd (true-false e)
  not-kept (Goal n) e = absurd (true-false e)
  not-kept End e = absurd (true-false e)

  pub arity_iff : (r : Record) → AnotherArity us r ↔ (keeps (recall nothing_met us) r ≡ false)
  arity_iff r = (another r, not-kept r)

  -- a record that is taken leaves one arity
  pub one_more : (r : Record) → keeps (recall nothing_met us) r ≡ true → OneArity (us ++ record_uses r)
  one_more r k p n m x y = go (used-append p n us (record_uses r) x) (used-append p m us (record_uses r) y)
    where
      fits : (j i : ℕ) → Used p j us → Used p i (record_uses r) → j ≡ i
      fits j i a b = elim (ℕ_discrete j i) [
        | yes e ↦ e
        | no d ↦ absurd (let z = another r (record { number = p; arity = i; before = j; is = record_used p i r b; met = a; other = d }) in true-false (inv k ∙ z))
      ]

      go : Used p n us ⊎ Used p n (record_uses r) → Used p m us ⊎ Used p m (record_uses r) → n ≡ m
      go (inl a) (inl b) = one p n m a b
      go (inl a) (inr b) = fits n m a b
      go (inr a) (inl b) = inv (fits m n b a)
      go (inr a) (inr b) = ap arity_in (inv (record_used p n r a) ∙ record_used p m r b)

-- and records that keep one arity with what was used are taken
pub one_kept : (us : List Use) (r : Record) (rs : List Record) → OneArity (us ++ uses_of (r ∷ rs)) → keeps (recall nothing_met us) r ≡ true
one_kept us r rs o = cases (keeps (recall nothing_met us) r) (λ e. e) (λ e.
    let a = (arity_iff us (one_left us (uses_of (r ∷ rs)) o) r).1 e in
    let here : Used a.number a.arity (uses_of (r ∷ rs)) = subst (λ (s : Record). Used a.number a.arity (uses_of (s ∷ rs))) (inv a.is) (inl (refl, refl)) in
    absurd (a.other (o a.number a.before a.arity (used-left a.number a.before us (uses_of (r ∷ rs)) a.met) (used-right a.number a.arity us (uses_of (r ∷ rs)) here))))

-- The table

-- an entry written
pub recalled-set : (table : List ℕ) (p n : ℕ) → p < length table → recalled (set table p (n + 1)) ≡ meet (recalled table) p n
recalled-set table p n h = λ i q. at q i
  where
    at : (q : ℕ) → get_or (set table p (n + 1)) q 0 ≡ meet (recalled table) p n q
    at q = elim (ℕ_discrete q p) [
      | yes e ↦ rw e (get_or-set_same table p (n + 1) 0 h ∙ inv (meet-same (recalled table) p n))
      | no d ↦ get_or-set_other table p q (n + 1) 0 d ∙ inv (meet-other (recalled table) p n q d)
    ]
