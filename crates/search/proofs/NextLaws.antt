-- There is one next goal at most, whatever names and most general unifier are taken, and `next` computes it.
use Rattle.std.specs.Prelude.{ℕ, zero, suc, ◌≡◌, refl, ◌↔◌, List, [], ◌∷◌, ◌++◌, map}
use Rattle.std.proofs.Common.{sym as inv, ap, ap₂, ◌∙◌, subst, inl, inr, arith}
use Rattle.std.proofs.Math.Option.{Option, none, some}
use Rattle.std.proofs.lemmas.Simd.{map-map}
use Rattle.std.proofs.lemmas.List.{map-append}
use Rattle.terms.specs.Node.{Expr}
use Rattle.terms.specs.Row.{Row, Every, Formulas, Atom, atom, Atoms}
use Rattle.terms.specs.Subst.{In, InAny, Subst, Proper, apply, after, Unifies, MostGeneral}
use Rattle.terms.specs.Rename.{rename, Apart}
use Rattle.terms.specs.RowLaws.{every_append, every_map}
use Rattle.terms.specs.SubstLaws.{apply-row, apply-on, apply-after, map_same, map_on}
use Rattle.terms.specs.RenameLaws.{rename-row, apply-rename}
use Rattle.terms.proofs.NumberLaws.{every-number}
use Rattle.terms.proofs.VariantLaws.{instances_number}
use Rattle.terms.proofs.ApartLaws.{Joint, join}
use Rattle.terms.proofs.UnifyLaws.{unify-sound, unify-complete}
use Rattle.search.specs.Next.{Clause, Book, Goal, Clauses, Meets, First, NoneMeets, resolvent, Resolved, Next}
use Rattle.search.specs.Step.{even, odd, Choice, later, meet, choice, resolve, stuck, to, move, goal_in}

-- Names.

-- even and odd names are apart, whatever the goal and the clause
pub even_odd : (g h : List Expr) → Apart even odd g h
even_odd g h = record { left = λ v w i j p. omega arith; right = λ v w i j p. omega arith; shared = λ v w i j p. omega arith }

pub meets-by : (f : Expr) (c : Clause) (θ : Subst) → Unifies θ (rename even f) (rename odd c.head) → Meets f c
meets-by f c θ u = record { goal_names = even; clause_names = odd; apart = even_odd (f ∷ []) (c.head ∷ []); unifier = θ; unifies = u }

-- a substitution after renaming, at the variables that occur
apply_via : (θ a : Subst) (α : ℕ → ℕ) (e : Expr) → ((v : ℕ) → In v e → θ (α v) ≡ a v) → apply θ (rename α e) ≡ apply a e
apply_via θ a α e same = apply-rename α θ e ∙ apply-on (λ v. θ (α v)) a e same

map_via : (γ a b : Subst) (g : List Expr) → ((v : ℕ) → InAny v g → apply γ (a v) ≡ b v) → map (apply γ) (map (apply a) g) ≡ map (apply b) g
map_via γ a b g same = map-map (apply γ) (apply a) g ∙ map_on (λ v. apply γ (a v) ≡ b v) (λ e s. apply-after γ a e ∙ apply-on (after γ a) b e s) g same

-- a unifier under other names gives one, that does the same, under names that are apart
pub carried : (α β α' β' : ℕ → ℕ) (f d : Expr) (g h : List Expr) → Apart α β (f ∷ g) (d ∷ h) → (θ : Subst) → Unifies θ (rename α' f) (rename β' d)
    → (j : Joint α β (f ∷ g) (d ∷ h) (λ v. θ (α' v)) (λ w. θ (β' w))) × Unifies j.joint (rename α f) (rename β d)
carried α β α' β' f d g h apart θ unifies = (
  j,
  (
    j.proper,
    apply_via j.joint (λ v. θ (α' v)) α f (λ v i. j.at_left v (inl i)) ∙ inv (apply-rename α' θ f) ∙ unifies.1
        ∙ apply-rename β' θ d ∙ inv (apply_via j.joint (λ w. θ (β' w)) β d (λ w i. j.at_right w (inl i))),
  ),
)
  where
    j : Joint α β (f ∷ g) (d ∷ h) (λ v. θ (α' v)) (λ w. θ (β' w))
    j = join α β (f ∷ g) (d ∷ h) apart (λ v. θ (α' v)) (λ w. θ (β' w)) (λ v. unifies.0 (α' v)) (λ w. unifies.0 (β' w))

-- The resolvent under one most general unifier has every other as an instance, so all number alike.
module _ (f : Expr) (g : Goal) (c : Clause) where
  -- what becomes of the goal's variables, and of the clause's
  abbrev goal_by : {h : Goal} → Resolved f g c h → Subst
  goal_by s v = s.unifier (s.goal_names v)

  abbrev clause_by : {h : Goal} → Resolved f g c h → Subst
  clause_by s w = s.unifier (s.clause_names w)

  abbrev resolvent_of : {h : Goal} → Resolved f g c h → Goal
  resolvent_of s = resolvent s.goal_names s.clause_names s.unifier c g

  resolvent-parts : {h : Goal} (s : Resolved f g c h) → resolvent_of s ≡ map (apply (clause_by s)) c.body ++ map (apply (goal_by s)) g
  resolvent-parts s =
      map-append (apply s.unifier) (map (rename s.clause_names) c.body) (map (rename s.goal_names) g)
      ∙ ap₂ ◌++◌ (part s.clause_names c.body) (part s.goal_names g)
    where
      part : (ρ : ℕ → ℕ) (l : List Expr) → map (apply s.unifier) (map (rename ρ) l) ≡ map (apply (λ v. s.unifier (ρ v))) l
      part ρ l = map-map (apply s.unifier) (rename ρ) l ∙ map_same (λ e. apply-rename ρ s.unifier e) l

  instance : {h i : Goal} (s : Resolved f g c h) (t : Resolved f g c i) → (γ : Subst) × Proper γ × (map (apply γ) (resolvent_of s) ≡ resolvent_of t)
  instance s t = (
    γ.0,
    γ.1,
    ap (map (apply γ.0)) (resolvent-parts s) ∙ map-append (apply γ.0) (map (apply (clause_by s)) c.body) (map (apply (goal_by s)) g)
        ∙ ap₂ ◌++◌ (map_via γ.0 (clause_by s) (clause_by t) c.body (λ w i. inv (γ.2 (s.clause_names w)) ∙ j.at_right w (inr i)))
        (map_via γ.0 (goal_by s) (goal_by t) g (λ v i. inv (γ.2 (s.goal_names v)) ∙ j.at_left v (inr i)))
        ∙ inv (resolvent-parts t),
  )
    where
      both : (j : Joint s.goal_names s.clause_names (f ∷ g) (c.head ∷ c.body) (goal_by t) (clause_by t))
          × Unifies j.joint (rename s.goal_names f) (rename s.clause_names c.head)
      both = carried s.goal_names s.clause_names t.goal_names t.clause_names f c.head g c.body s.apart t.unifier t.general.unifies

      j : Joint s.goal_names s.clause_names (f ∷ g) (c.head ∷ c.body) (goal_by t) (clause_by t)
      j = both.0

      γ : (γ : Subst) × Proper γ × ((v : ℕ) → j.joint v ≡ apply γ (s.unifier v))
      γ = s.general.general j.joint both.1

  -- neither the names nor the most general unifier make a difference to the numbered goal
  pub resolved-one : (h i : Goal) → Resolved f g c h → Resolved f g c i → h ≡ i
  resolved-one h i s t =
      let a = instance s t in
      let b = instance t s in
      s.result ∙ instances_number a.0 b.0 a.1 b.1 (resolvent_of s) (resolvent_of t) a.2 b.2 ∙ inv t.result

-- One clause at most is the first.

pub first_one : (P : Book) (f : Expr) (j k : ℕ) (c d : Clause) → First f P j c → First f P k d → (j ≡ k) × (c ≡ d)
first_one (e ∷ P) f zero zero c d p q = (refl, inv p.0 ∙ q.0)
first_one (e ∷ P) f zero (suc k) c d p q = absurd (q.0 (subst (Meets f) (inv p.0) p.1))
first_one (e ∷ P) f (suc j) zero c d p q = absurd (p.0 (subst (Meets f) (inv q.0) q.1))
first_one (e ∷ P) f (suc j) (suc k) c d p q = let r = first_one P f j k c d p.1 q.1 in (ap suc r.0, r.1)
first_one [] f j k c d p q = elim p [ ]

pub first-none : (P : Book) (f : Expr) (k : ℕ) (c : Clause) → NoneMeets f P → First f P k c → ⊥
first-none (e ∷ P) f zero c n p = n.0 (subst (Meets f) (inv p.0) p.1)
first-none (e ∷ P) f (suc k) c n p = first-none P f k c n.1 p.1
first-none [] f k c n p = elim p [ ]

pub first-formulas : (P : Book) (f : Expr) (k : ℕ) (c : Clause) → Clauses P → First f P k c → Formulas (c.head ∷ c.body)
first-formulas (d ∷ P) f zero c good p = subst (λ e. Formulas (e.head ∷ e.body)) p.0 good.0
first-formulas (d ∷ P) f (suc k) c good p = first-formulas P f k c good.1 p.1
first-formulas [] f k c good p = elim p [ ]

-- there is one next goal at most, by one clause
pub next_one : (P : Book) (g : Goal) (j k : ℕ) (h i : Goal) → Next P g j h → Next P g k i → (j ≡ k) × (h ≡ i)
next_one P (f ∷ g) j k h i s t =
    let r = first_one P f j k s.0 t.0 s.1 t.1 in
    (r.0, resolved-one f g t.0 h i (subst (λ c. Resolved f g c h) r.1 s.2) t.2)
next_one P [] j k h i s t = elim s [ ]

-- What is chosen.

-- the first clause whose head unifies with f, with a most general unifier; or there is none
abbrev Found : Expr → Book → Option Choice → Type 0
Found f P none = NoneMeets f P
Found f P (some x) = First f P x.number x.clause × MostGeneral x.unifier (rename even f) (rename odd x.clause.head)

found-later : (f : Expr) (P : Book) (c : Clause) (o : Option Choice) → (Meets f c → ⊥) → Found f P o → Found f (c ∷ P) (later o)
found-later f P c none n m = (n, m)
found-later f P c (some x) n m = ((n, m.0), m.1)

module _ (f : Expr) (f-row : Row 1 f) where
  -- `meet` decides whether a head unifies with f
  module _ (c : Clause) (c-row : Row 1 c.head) where
    meet-general : (σ : Subst) → meet f c ≡ some σ → MostGeneral σ (rename even f) (rename odd c.head)
    meet-general σ q = unify-sound (rename-row even f-row) (rename-row odd c-row) q

    meet-none : meet f c ≡ none → Meets f c → ⊥
    meet-none q m =
        unify-complete (rename-row even f-row) (rename-row odd c-row) q _
        (carried even odd m.goal_names m.clause_names f c.head [] [] (even_odd (f ∷ []) (c.head ∷ [])) m.unifier m.unifies).1

  pub choice-found : (P : Book) → Clauses P → Found f P (choice P f)
  choice-found [] good = tt
  choice-found (c ∷ P) good = go (meet f c) refl (choice-found P good.1)
    where
      go : (o : Option Subst) → meet f c ≡ o → Found f P (choice P f)
          → Found f (c ∷ P) (elim o [ none ↦ later (choice P f) | some σ ↦ some (record { number = 0; clause = c; unifier = σ }) ])
      go none q ih = found-later f P c (choice P f) (meet-none c good.0.0 q) ih
      go (some σ) q ih = let m = meet-general c good.0.0 σ q in ((refl, meets-by f c σ m.unifies), m)

-- A move by what is found.
module _ (P : Book) (f : Expr) (g : Goal) where
  resolved-move : (x : Choice) → Found f P (some x) → Resolved f g x.clause (resolve x g)
  resolved-move x m =
      record { goal_names = even; clause_names = odd; apart = even_odd (f ∷ g) (x.clause.head ∷ x.clause.body); unifier = x.unifier; general = m.1; result = refl }

  pub move-is-next : (o : Option Choice) → Found f P o → (k : ℕ) (h : Goal) → move o g ≡ to k h → Next P (f ∷ g) k h
  move-is-next none n k h p = let z : ◌≡◌ {A = ℕ} 0 1 = cc in absurd (omega arith)
  move-is-next (some x) m k h p =
      let same-k : x.number ≡ k = cc in
      let same-h : resolve x g ≡ h = cc in
      (x.clause, subst (λ n. First f P n x.clause) same-k m.0, subst (Resolved f g x.clause) same-h (resolved-move x m))

  pub next-is-move : (o : Option Choice) → Found f P o → (k : ℕ) (h : Goal) → Next P (f ∷ g) k h → move o g ≡ to k h
  next-is-move none n k h t = absurd (first-none P f k t.0 n t.1)
  next-is-move (some x) m k h t =
      let r = first_one P f x.number k x.clause t.0 m.0 t.1 in
      ap₂ to r.0 (resolved-one f g x.clause (resolve x g) h (resolved-move x m) (subst (λ c. Resolved f g c h) (inv r.1) t.2))

  pub stuck-is-none : (o : Option Choice) → Found f P o → (move o g ≡ stuck) ↔ NoneMeets f P
  stuck-is-none none n = ((λ p. n), (λ n. refl))
  stuck-is-none (some x) m = ((λ p. let z : ◌≡◌ {A = ℕ} 0 1 = cc in absurd (omega arith)), (λ n. absurd (first-none P f x.number x.clause n m.0)))

-- what renamings and the unifier keep of each formula, the next goal has
pub resolved-every : (Q : Expr → Type 0) → ((ρ : ℕ → ℕ) (e : Expr) → Q e → Q (rename ρ e)) → (f : Expr) (g : Goal) (c : Clause) (h : Goal) → Every Q c.body → Every Q g
    → (t : Resolved f g c h) → ((e : Expr) → Q e → Q (apply t.unifier e)) → Every Q h
resolved-every Q renamed f g c h body goal t applied =
    let clause = map (rename t.clause_names) c.body in
    let rest = map (rename t.goal_names) g in
    let both = every_append Q clause rest (every_map Q (rename t.clause_names) (renamed t.clause_names) c.body body) (every_map Q (rename t.goal_names) (renamed t.goal_names) g goal) in
    subst (Every Q) (inv t.result) (every-number Q renamed (map (apply t.unifier) (clause ++ rest)) (every_map Q (apply t.unifier) applied (clause ++ rest) both))

-- formulas come of formulas
pub resolved-formulas : (f : Expr) (g : Goal) (c : Clause) (h : Goal) → Formulas c.body → Formulas g → Resolved f g c h → Formulas h
resolved-formulas f g c h body goal t = resolved-every (Row 1) (λ ρ e r. rename-row ρ r) f g c h body goal t (λ e r. apply-row t.unifier t.general.unifies.0 r)

-- and each begins with its predicate if those before did
pub atom-rename : (ρ : ℕ → ℕ) (e : Expr) → Atom e → Atom (rename ρ e)
atom-rename ρ e atom = atom

atom-apply : (σ : Subst) (e : Expr) → Atom e → Atom (apply σ e)
atom-apply σ e atom = atom

pub resolved-atoms : (f : Expr) (g : Goal) (c : Clause) (h : Goal) → Atoms c.body → Atoms g → Resolved f g c h → Atoms h
resolved-atoms f g c h body goal t = resolved-every Atom atom-rename f g c h body goal t (atom-apply t.unifier)

-- no next goal, of a goal that is not empty
pub move-stuck : (o : Option Choice) (g : Goal) → goal_in (move o g) ≡ none → move o g ≡ stuck
move-stuck none g e = refl
move-stuck (some x) g e = cc
