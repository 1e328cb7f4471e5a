-- What a variable adds, and what a closing bracket changes.
use Prim.Native.Nat.{ℕ, suc, ◌+◌, ◌-◌, ◌*◌, ◌≤◌, ◌<◌}
use mathlib.Core.Path.{◌≡◌, refl, sym as inv, ap, subst, ◌∙◌}
use mathlib.Core.Bool.{true}
use mathlib.Core.List.{List, [], ◌∷◌, ◌++◌}
use native.Mathlib.Omega.{arith}
use lib.ListN.{length, get_or, take}
use lib.Seq.{take-set-le}
use Rattle.grammar.specs.Syntax.{Terms, none, Formula}
use Rattle.grammar.specs.Names.{Spot, variable_spot, symbol_spot, formula_spots, variable_number, variables_after}
use Rattle.grammar.specs.NameLaws.{variables-append}
use Rattle.reading.specs.Part.{Done, none_yet, and_variable, and_name, Part, formulas, inside, filled, terms_of, put}
use Rattle.reading.specs.Reader.{size, nodes, done_variables, formulas_variables, variables}
use Rattle.reading.specs.SizeLaws.{variables-spots}
use Rattle.reading.specs.Limits.{SmallPart}
use Rattle.reading.specs.Draft.{done_spots, formulas_drafts, sort_in, drafts, raise, drafts-count, opened-raised, variable-drafts, closing-formula, closing-argument}
use Rattle.drafts.specs.declared.Draft.{Draft}
use Rattle.drafts.specs.Drafted.{Tables, weight, Drafted, AddsVariable}
use Rattle.drafts.proofs.Raising.{weight-low, weighs, variable-drafted}
use Rattle.building.specs.Built.{bumped, Opens, shut, open_at, Built, Argued, Closed}
use Rattle.building.proofs.Places.{top-raised, open_arity, open_room, open_raised}

-- The variables of the nodes are those of the part

done-seen : (d : Done) (seen : List (List ℕ)) (r : List Spot) → variables_after seen (done_spots d r) ≡ variables_after (done_variables seen d) r
done-seen none_yet seen r = refl
done-seen (and_variable d w) seen r = done-seen d seen (variable_spot w ∷ r)
done-seen (and_name d w own) seen r = done-seen d seen _ ∙ variables-spots own r (done_variables seen d)

formulas-seen : (fs : List Formula) (r : List Spot) → variables_after [] (formulas_drafts fs r) ≡ variables_after (formulas_variables fs) r
formulas-seen [] r = refl
formulas-seen (f ∷ fs) r =
    formulas-seen fs (formula_spots f ++ r)
    ∙ variables-append (formulas_variables fs) (formula_spots f) r
    ∙ ap (λ (s : List (List ℕ)). variables_after s r) (variables-spots f.arguments [] (formulas_variables fs))

part-seen : (p : Part) (r : List Spot) → variables_after [] (drafts p r) ≡ variables_after (variables p) r
part-seen (formulas fs) r = formulas-seen fs r
part-seen (inside p v d) r = part-seen p _ ∙ done-seen d (variables p) r

-- an arity is no variable
raised-seen : (q : Part) (u : List ℕ) (d : Done) → variables_after [] (raise (nodes q) (drafts (inside q u d) [])) ≡ variables (inside q u d)
raised-seen q u d =
    ap (variables_after []) (opened-raised q (sort_in q) u (size d) (done_spots d []))
    ∙ part-seen q (symbol_spot (sort_in q) u (suc (size d)) ∷ done_spots d [])
    ∙ done-seen d (variables q) []

-- How many bytes there are

pub len_most : {text out opens starts lens heads nexts : List ℕ} {b : Draft} {T : Tables} {p : Part} {k : ℕ} (n : ℕ) → Built text out opens starts lens heads nexts b T p k → nodes p ≤ n → b.len ≤ 4 * n
len_most {p = p} n h l = omega (arith, h.weighed, weight-low (drafts p []), drafts-count p [], l)

-- A variable

module _ (out out₁ out' opens : List ℕ) (b r : Draft) (depth v : ℕ) (p : out₁ ≡ bumped out (b.from + (get_or opens (depth - 1) 0 + 3))) (a : AddsVariable out₁ out' b v r) where
  variable-built : (text starts lens heads nexts : List ℕ) (T : Tables) (q : Part) (u w : List ℕ) (d : Done) → Built text out opens starts lens heads nexts b T (inside q u d) depth → nodes (inside q u d) ≤ 255 →
      v ≡ variable_number (variables (inside q u d)) w → Built text out' opens starts lens heads nexts r T (inside q u (and_variable d w)) depth
  variable-built text starts lens heads nexts T q u w d h l e =
      let e₁ = subst (λ (o : List ℕ). Drafted text o starts lens heads nexts b T (raise (nodes q) (drafts (inside q u d) []))) (inv p) (top-raised q u d depth h) in
      let n : v ≡ variable_number (variables_after [] (raise (nodes q) (drafts (inside q u d) []))) w = e ∙ ap (λ (s : List (List ℕ)). variable_number s w) (inv (raised-seen q u d)) in
      let f : Drafted text out' starts lens heads nexts r T (drafts (inside q u (and_variable d w)) []) =
      subst (Drafted text out' starts lens heads nexts r T) (inv (variable-drafts q u w d)) (variable-drafted (raise (nodes q) (drafts (inside q u d) [])) w v e₁ n a) in
      record {
        drafted = f;
        opened = same-opens depth h.opened;
        opens_long = h.opens_long;
        weighed = weighs f (omega (arith, ap (λ (x : Draft). x.len) a.draft, len_most 255 h l));
      }
    where
      same-opens : (k : ℕ) → Opens opens (inside q u d) k → Opens opens (inside q u (and_variable d w)) k
      same-opens k (open_at g t) = open_at g t

  pub argued : Argued out out' opens b depth v r
  argued =
      record {
        builds = variable-built;
        from_stays = ap (λ (x : Draft). x.from) a.draft;
        kept =
            λ n l.
            a.wrote.kept n (omega (arith, l)) ∙ ap (take n) p
            ∙ take-set-le n out (b.from + (get_or opens (depth - 1) 0 + 3)) (get_or out (b.from + (get_or opens (depth - 1) 0 + 3)) 0 + 1) (omega (arith, l));
      }

-- A closing bracket

outer-place : {opens : List ℕ} (q : Part) (u v : List ℕ) (e d : Done) (k : ℕ) → Opens opens (inside (inside q u e) v d) k → get_or opens (k - 2) 0 ≡ weight (drafts q [])
outer-place {opens} q u v e d k (open_at (open_at {k = j} g s) t) = let z : suc (suc j) - 2 ≡ j = omega arith in ap (λ (i : ℕ). get_or opens i 0) z ∙ s

outer-opens : {opens : List ℕ} (q : Part) (u v : List ℕ) (d : Done) (own : Terms) (k : ℕ) → Opens opens (inside q u d) k → Opens opens (put q u own) (k - 1)
outer-opens {opens} (formulas fs) u v d own k (open_at {k = j} shut t) = let z : 0 ≡ suc 0 - 1 = omega arith in subst (Opens opens (put (formulas fs) u own)) z shut
outer-opens {opens} (inside p x e) u v d own k (open_at {k = j} (open_at g s) t) = let z : j ≡ suc j - 1 = omega arith in subst (Opens opens (put (inside p x e) u own)) z (open_at g s)

some_open : {opens : List ℕ} (q : Part) (u : List ℕ) (d : Done) (k : ℕ) → Opens opens (inside q u d) k → 0 < k
some_open q u d k (open_at g t) = omega arith

-- the symbol outside is no symbol: a formula
pub closed-root : (out opens : List ℕ) (b : Draft) (depth : ℕ) → depth < 2 → Closed out out opens b depth
closed-root out opens b depth l = record { builds = there; kept = λ n k. refl }
  where
    there : (text starts lens heads nexts : List ℕ) (T : Tables) (q : Part) (u : List ℕ) (d : Done) → Built text out opens starts lens heads nexts b T (inside q u d) depth → nodes (inside q u d) ≤ 256 →
        filled d ≡ true → Built text out opens starts lens heads nexts b T (put q u (terms_of d none)) (depth - 1)
    there text starts lens heads nexts T (formulas fs) u d h m f =
        let e = closing-formula fs u d in
        record {
          drafted = subst (Drafted text out starts lens heads nexts b T) (inv e) h.drafted;
          opened = outer-opens (formulas fs) u u d (terms_of d none) depth h.opened;
          opens_long = h.opens_long;
          weighed = h.weighed ∙ ap weight (inv e);
        }
    there text starts lens heads nexts T (inside p x e) u d h m f = absurd (two depth h.opened l)
      where
        two : (k : ℕ) → Opens opens (inside (inside p x e) u d) k → k < 2 → ⊥
        two k (open_at (open_at g s) t) l = omega arith

pub closed-inside : (out out' opens : List ℕ) (b : Draft) (depth : ℕ) → (depth < 2 → ⊥) → out' ≡ bumped out (b.from + (get_or opens (depth - 2) 0 + 3)) → Closed out out' opens b depth
closed-inside out out' opens b depth l p =
    record { builds = there; kept = λ n k. ap (take n) p ∙ take-set-le n out (b.from + (get_or opens (depth - 2) 0 + 3)) (get_or out (b.from + (get_or opens (depth - 2) 0 + 3)) 0 + 1) (omega (arith, k)) }
  where
    there : (text starts lens heads nexts : List ℕ) (T : Tables) (q : Part) (u : List ℕ) (d : Done) → Built text out opens starts lens heads nexts b T (inside q u d) depth → nodes (inside q u d) ≤ 256 →
        filled d ≡ true → Built text out' opens starts lens heads nexts b T (put q u (terms_of d none)) (depth - 1)
    there text starts lens heads nexts T (formulas fs) u d h m f = absurd (l (one depth h.opened))
      where
        one : (k : ℕ) → Opens opens (inside (formulas fs) u d) k → k < 2
        one k (open_at shut t) = omega arith
    there text starts lens heads nexts T (inside p₁ x e) u d h m f =
        let at : b.from + (weight (drafts p₁ []) + 3) ≡ b.from + (get_or opens (depth - 2) 0 + 3) = omega (arith, outer-place p₁ x u e d depth h.opened) in
        let r = open_raised p₁ x (size e) (b.from + (get_or opens (depth - 2) 0 + 3)) _ at h.weighed h.drafted in
        let c : drafts p₁ (symbol_spot (sort_in p₁) x (suc (size e)) ∷ done_spots e (symbol_spot (sort_in (inside p₁ x e)) u (size d) ∷ done_spots d [])) ≡ drafts (put (inside p₁ x e) u (terms_of d none)) [] =
        inv (opened-raised p₁ (sort_in p₁) x (size e) (done_spots e (symbol_spot (sort_in (inside p₁ x e)) u (size d) ∷ done_spots d []))) ∙ inv (closing-argument p₁ x u e d f) in
        let z : Drafted text out' starts lens heads nexts b T (drafts (put (inside p₁ x e) u (terms_of d none)) []) =
        subst (λ (o : List ℕ). Drafted text o starts lens heads nexts b T (drafts (put (inside p₁ x e) u (terms_of d none)) [])) (inv p)
        (subst (Drafted text (bumped out (b.from + (get_or opens (depth - 2) 0 + 3))) starts lens heads nexts b T) c r) in
        record {
          drafted = z;
          opened = outer-opens (inside p₁ x e) u u d (terms_of d none) depth h.opened;
          opens_long = h.opens_long;
          weighed = weighs z (omega (arith, len_most 256 h m));
        }

-- what the outer symbol's record has room for
pub outer-facts : {text out opens starts lens heads nexts : List ℕ} {b : Draft} {T : Tables} (p : Part) (k : ℕ) → Built text out opens starts lens heads nexts b T p k → SmallPart p → nodes p ≤ 256 → (k < 2 → ⊥) →
    (b.from + (get_or opens (k - 2) 0 + 3) < length out) × (get_or out (b.from + (get_or opens (k - 2) 0 + 3)) 0 < 255)
outer-facts (formulas fs) k h s l z = absurd (z (none k h.opened))
  where
    none : {opens : List ℕ} {fs : List Formula} (k : ℕ) → Opens opens (formulas fs) k → k < 2
    none k shut = omega arith
outer-facts (inside (formulas fs) u d) k h s l z = absurd (z (one k h.opened))
  where
    one : {opens : List ℕ} {fs : List Formula} (k : ℕ) → Opens opens (inside (formulas fs) u d) k → k < 2
    one k (open_at shut t) = omega arith
outer-facts {opens = opens} {b = b} (inside (inside q x e) u d) k h s l z =
    let at : b.from + (weight (drafts q []) + 3) ≡ b.from + (get_or opens (k - 2) 0 + 3) = omega (arith, outer-place q x u e d k h.opened) in (
      open_room q x (size e) (b.from + (get_or opens (k - 2) 0 + 3)) _ at h.weighed h.drafted (omega (arith, len_most 256 h l)),
      omega (arith, open_arity q x (size e) (b.from + (get_or opens (k - 2) 0 + 3)) _ at h.weighed h.drafted, s.0.4),
    )
