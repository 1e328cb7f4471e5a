-- The first formula whose predicate had another arity before (document 02, C-18).
use Rattle.std.specs.Prelude.{ℕ, suc, ◌+◌, ◌<◌, ◌≡◌, refl, List, [], ◌∷◌, ◌++◌, length}
use Rattle.std.proofs.Common.{sym as inv, ap, ◌∙◌, subst, append_assoc, append-nil, arith, length-append}
use Rattle.terms.specs.Cases.{cases}
use Rattle.format.specs.declared.Record.TheVariants as Record
use Rattle.format.specs.Arities.{Use, OneArity, AnotherArity, Memory, nothing_met, meet, recall, keeps}
use Rattle.format.specs.ArityLaws.{one_left, recall-append, arity_iff, one_more, one_kept}
use Rattle.questions.specs.Outcome.{kept}

-- k uses keep one arity with those before them, and the next one does not
pub record Clashes (us vs : List Use) (k : ℕ) : Type 0 where
  pub before : List Use
  pub clashing : Use
  pub after : List Use
  pub whole : vs ≡ before ++ clashing ∷ after
  pub count : k ≡ length before
  pub one : OneArity (us ++ before)
  pub another : AnotherArity (us ++ before) (Record.Formula clashing.number clashing.arity)

pub data View (us vs : List Use) : ℕ → Type 0 where
  all_kept : OneArity (us ++ vs) → View us vs (length vs)
  clash : {k : ℕ} → Clashes us vs k → View us vs k

recall-more : (us : List Use) (u : Use) → recall nothing_met (us ++ (u ∷ [])) ≡ meet (recall nothing_met us) u.number u.arity
recall-more us u = recall-append nothing_met us (u ∷ [])

view-more : (us : List Use) (u : Use) (vs : List Use) (k : ℕ) → View (us ++ (u ∷ [])) vs k → View us (u ∷ vs) (suc k)
view-more us u vs k (all_kept o) = all_kept (subst OneArity (append_assoc us (u ∷ []) vs) o)
view-more us u vs k (clash c) =
    clash
    (record {
      before = u ∷ c.before;
      clashing = c.clashing;
      after = c.after;
      whole = ap (λ (l : List Use). u ∷ l) c.whole;
      count = ap suc c.count;
      one = subst OneArity (append_assoc us (u ∷ []) c.before) c.one;
      another = subst (λ (l : List Use). AnotherArity l (Record.Formula c.clashing.number c.clashing.arity)) (append_assoc us (u ∷ []) c.before) c.another;
    })

pub kept-view : (us vs : List Use) → OneArity us → View us vs (kept (recall nothing_met us) vs)
kept-view us [] o = all_kept (subst OneArity (inv (append-nil us)) o)
kept-view us (u ∷ vs) o =
    cases (keeps (recall nothing_met us) (Record.Formula u.number u.arity))
    (λ e.
    let i = kept-view (us ++ (u ∷ [])) vs (one_more us o (Record.Formula u.number u.arity) e) in
    rw e (view-more us u vs _ (subst (λ (m : Memory). View (us ++ (u ∷ [])) vs (kept m vs)) (recall-more us u) i)))
    (λ e.
    rw e
    (clash
    (record {
      before = [];
      clashing = u;
      after = vs;
      whole = refl;
      count = refl;
      one = subst OneArity (inv (append-nil us)) o;
      another = subst (λ (l : List Use). AnotherArity l (Record.Formula u.number u.arity)) (inv (append-nil us)) ((arity_iff us o (Record.Formula u.number u.arity)).1 e);
    })))

-- The other way round

kept_on : (us before vs : List Use) → OneArity (us ++ before) → kept (recall nothing_met us) (before ++ vs) ≡ length before + kept (recall nothing_met (us ++ before)) vs
kept_on us [] vs o = ap (λ (l : List Use). kept (recall nothing_met l) vs) (inv (append-nil us)) ∙ omega arith
kept_on us (u ∷ before) vs o =
    let w : OneArity ((us ++ (u ∷ [])) ++ before) = subst OneArity (inv (append_assoc us (u ∷ []) before)) o in
    let e = one_kept us (Record.Formula u.number u.arity) [] (one_left (us ++ (u ∷ [])) before w) in
    let i : kept (meet (recall nothing_met us) u.number u.arity) (before ++ vs) ≡ length before + kept (recall nothing_met (us ++ u ∷ before)) vs =
    ap (λ (m : Memory). kept m (before ++ vs)) (inv (recall-more us u))
    ∙ kept_on (us ++ (u ∷ [])) before vs w
    ∙ ap (λ (l : List Use). length before + kept (recall nothing_met l) vs) (append_assoc us (u ∷ []) before) in
    rw e (omega (arith, i))

pub kept-all : (us vs : List Use) → OneArity (us ++ vs) → kept (recall nothing_met us) vs ≡ length vs
kept-all us vs o = ap (kept (recall nothing_met us)) (inv (append-nil vs)) ∙ kept_on us vs [] o ∙ omega arith

pub clash-kept : (us vs : List Use) (k : ℕ) → Clashes us vs k → kept (recall nothing_met us) vs ≡ k
clash-kept us vs k c =
    let u = c.clashing in
    let e = (arity_iff (us ++ c.before) c.one (Record.Formula u.number u.arity)).0 c.another in
    let z : kept (recall nothing_met (us ++ c.before)) (u ∷ c.after) ≡ 0 = rw e in
    ap (kept (recall nothing_met us)) c.whole ∙ kept_on us c.before (u ∷ c.after) c.one ∙ omega (arith, z, c.count)

-- a clash stands at a formula
pub clash-low : (us vs : List Use) (k : ℕ) → Clashes us vs k → k < length vs
clash-low us vs k c = omega (arith, c.count, ap length c.whole, length-append c.before (c.clashing ∷ c.after))
