-- Records of open symbols, and what a name adds.
use Prim.Native.Nat.{ℕ, suc, ◌+◌, ◌-◌, ◌≤◌, ◌<◌}
use mathlib.Core.Path.{◌≡◌, refl, sym as inv, ap, subst, ◌∙◌}
use mathlib.Core.List.{List, [], ◌∷◌, ◌++◌}
use native.Mathlib.Omega.{arith}
use lib.ListN.{length, get_or, set, take, length-set}
use lib.Seq.{get_or-set_same, get_or-set_other, take-set-le}
use Rattle.grammar.specs.Syntax.{Formula, none}
use Rattle.grammar.specs.Names as Names
use Rattle.grammar.specs.Names.{Sort, Spot, symbol_spot}
use Rattle.reading.specs.Part.{Done, none_yet, Part, formulas, inside, put}
use Rattle.reading.specs.Reader.{size, nodes}
use Rattle.reading.specs.Limits.{SmallPart}
use Rattle.reading.specs.Draft.{done_spots, sort_in, drafts, raise, drafts-append, drafts-count, opened-raised, opening-drafts, formula-drafts, constant-drafts}
use Rattle.nametable.specs.Table.{word}
use Rattle.drafts.specs.declared.Kind.{Kind}
use Rattle.drafts.specs.declared.Kind.TheVariants.{Constant, Predicate}
use Rattle.drafts.specs.declared.Draft.{Draft}
use Rattle.drafts.specs.Drafted.{sort_of_kind, Tables, Bracketed, weight, Drafted, Somewhere, Adds}
use Rattle.drafts.proofs.Raising.{weight-append, weight-low, weighs, arity-is, raised-drafted}
use Rattle.building.specs.declared.Work.{Work}
use Rattle.building.specs.Built.{kind_at, bumped, Opens, shut, open_at, Built, Opened, Alone}

pub depth-nodes : {opens : List ℕ} (p : Part) (k : ℕ) → Opens opens p k → k ≤ nodes p
depth-nodes (formulas fs) k shut = omega arith
depth-nodes (inside p v d) k (open_at {k = j} h t) = omega (arith, depth-nodes p j h)

opens-set : {opens : List ℕ} (p : Part) (k j x : ℕ) → k ≤ j → Opens opens p k → Opens (set opens j x) p k
opens-set (formulas fs) k j x l shut = shut
opens-set {opens} (inside p v d) k j x l (open_at {k = i} h t) = open_at (opens-set p i j x (omega arith) h) (get_or-set_other opens j i x 0 (λ (q : i ≡ j). omega arith) ∙ t)

pub top-place : {opens : List ℕ} (p : Part) (v : List ℕ) (d : Done) (k : ℕ) → Opens opens (inside p v d) k → get_or opens (k - 1) 0 ≡ weight (drafts p [])
top-place {opens} p v d k (open_at {k = j} h t) = let e : suc j - 1 ≡ j = omega arith in ap (λ (i : ℕ). get_or opens i 0) e ∙ t

put-opens : {opens : List ℕ} (p : Part) (k : ℕ) (w : List ℕ) (own : _) → Opens opens p k → Opens opens (put p w own) k
put-opens (formulas fs) k w own shut = shut
put-opens (inside p v d) k w own (open_at h t) = open_at h t

kind-sort : {opens : List ℕ} (p : Part) (k : ℕ) → Opens opens p k → sort_of_kind (kind_at k) ≡ sort_in p
kind-sort (formulas fs) k shut = refl
kind-sort (inside p v d) k (open_at h t) = refl

bracketed-in : (p : Part) → Bracketed (sort_in p)
bracketed-in (formulas fs) = tt
bracketed-in (inside p v d) = tt

symbol-weight : (s : Sort) (v : List ℕ) (n : ℕ) (r : List Spot) → Bracketed s → 4 ≤ weight (symbol_spot s v n ∷ r)
symbol-weight Names.Constant v n r b = absurd b
symbol-weight Names.Compound v n r b = omega arith
symbol-weight Names.Predicate v n r b = omega arith

-- How many bytes there are

pub len_low : {text out opens starts lens heads nexts : List ℕ} {b : Draft} {T : Tables} {p : Part} {k : ℕ} → Built text out opens starts lens heads nexts b T p k → nodes p ≤ 255 → b.len ≤ 1020
len_low {p = p} h l = omega (arith, h.weighed, weight-low (drafts p []), drafts-count p [], l)

-- A symbol that is open has one argument more

module _ {text out starts lens heads nexts : List ℕ} {b : Draft} {T : Tables} (q : Part) (u : List ℕ) (n j : ℕ) (r : List Spot) (at : b.from + (weight (drafts q []) + 3) ≡ j)
    (w : b.len ≡ weight (drafts q (symbol_spot (sort_in q) u n ∷ r))) (d : Drafted text out starts lens heads nexts b T (drafts q (symbol_spot (sort_in q) u n ∷ r))) where
  split : drafts q (symbol_spot (sort_in q) u n ∷ r) ≡ drafts q [] ++ (symbol_spot (sort_in q) u n ∷ r)
  split = inv (drafts-append q [] (symbol_spot (sort_in q) u n ∷ r))

  within : weight (drafts q []) + 3 < b.len
  within =
      omega (arith, w, ap weight split, weight-append (drafts q []) (symbol_spot (sort_in q) u n ∷ r), symbol-weight (sort_in q) u n r (bracketed-in q))

  there : Drafted text out starts lens heads nexts b T (drafts q [] ++ (symbol_spot (sort_in q) u n ∷ r))
  there = subst (Drafted text out starts lens heads nexts b T) split d

  pub open_arity : get_or out j 0 ≡ n
  open_arity = arity-is (drafts q []) r (sort_in q) u n j (bracketed-in q) at within there

  pub open_room : b.len ≤ 1031 → j < length out
  open_room l = omega (arith, at, within, d.low, d.long, l)

  pub open_raised : Drafted text (bumped out j) starts lens heads nexts b T (drafts q (symbol_spot (sort_in q) u (suc n) ∷ r))
  open_raised =
      subst (Drafted text (bumped out j) starts lens heads nexts b T) (drafts-append q [] (symbol_spot (sort_in q) u (suc n) ∷ r))
      (raised-drafted (drafts q []) r (sort_in q) u n j (bracketed-in q) at within there (get_or out j 0 + 1) (ap (λ (x : ℕ). x + 1) open_arity))

-- The innermost one

module _ {text out opens starts lens heads nexts : List ℕ} {b : Draft} {T : Tables} (q : Part) (v : List ℕ) (d : Done) (k : ℕ) (h : Built text out opens starts lens heads nexts b T (inside q v d) k) where
  abbrev place : ℕ
  place = b.from + (get_or opens (k - 1) 0 + 3)

  at_top : b.from + (weight (drafts q []) + 3) ≡ place
  at_top = omega (arith, top-place q v d k h.opened)

  pub top-arity : get_or out place 0 ≡ size d
  top-arity = open_arity q v (size d) place (done_spots d []) at_top h.weighed h.drafted

  pub top-room : b.len ≤ 1031 → place < length out
  top-room = open_room q v (size d) place (done_spots d []) at_top h.weighed h.drafted

  pub top-raised : Drafted text (bumped out place) starts lens heads nexts b T (raise (nodes q) (drafts (inside q v d) []))
  top-raised =
      subst (Drafted text (bumped out place) starts lens heads nexts b T) (inv (opened-raised q (sort_in q) v (size d) (done_spots d [])))
      (open_raised q v (size d) place (done_spots d []) at_top h.weighed h.drafted)

-- the same where nothing is known of the part but that a bracket is open
pub top-facts : {text out opens starts lens heads nexts : List ℕ} {b : Draft} {T : Tables} (p : Part) (k : ℕ) → Built text out opens starts lens heads nexts b T p k → SmallPart p → nodes p ≤ 255 → (k ≡ 0 → ⊥) →
    (b.from + (get_or opens (k - 1) 0 + 3) < length out) × (get_or out (b.from + (get_or opens (k - 1) 0 + 3)) 0 < 255)
top-facts (formulas fs) k h s l z = absurd (none_open k h.opened z)
  where
    none_open : {opens : List ℕ} {fs : List Formula} (k : ℕ) → Opens opens (formulas fs) k → (k ≡ 0 → ⊥) → ⊥
    none_open k shut z = z refl
top-facts (inside q v d) k h s l z = (top-room q v d k h (omega (arith, len_low h l)), omega (arith, top-arity q v d k h, s.4))

top-some : {text out opens starts lens heads nexts : List ℕ} {b : Draft} {T : Tables} (p : Part) (k : ℕ) → Built text out opens starts lens heads nexts b T p k → (k ≡ 0 → ⊥) →
    (e : List Spot) × Drafted text (bumped out (b.from + (get_or opens (k - 1) 0 + 3))) starts lens heads nexts b T e
top-some (formulas fs) k h z = absurd (none_open k h.opened z)
  where
    none_open : {opens : List ℕ} {fs : List Formula} (k : ℕ) → Opens opens (formulas fs) k → (k ≡ 0 → ⊥) → ⊥
    none_open k shut z = z refl
top-some (inside q v d) k h z = (_, top-raised q v d k h)

pub top-somewhere : {text out out₁ opens starts lens heads nexts : List ℕ} {b : Draft} {T : Tables} (p : Part) (k : ℕ) → Built text out opens starts lens heads nexts b T p k → (k ≡ 0 → ⊥) →
    out₁ ≡ bumped out (b.from + (get_or opens (k - 1) 0 + 3)) → Somewhere text out₁ starts lens heads nexts b
top-somewhere {text} {out} {out₁} {opens} {starts} {lens} {heads} {nexts} {b} {T} p k h z q =
    let s = top-some p k h z in record { base = T; spots = s.0; drafted = subst (λ (o : List ℕ). Drafted text o starts lens heads nexts b T s.0) (inv q) s.1 }

-- Names

module _ (text out out' opens starts lens heads nexts starts' lens' heads' nexts' : List ℕ) (b r : Draft) (k : ℕ) (w : List ℕ) where
  pub open_built : Adds text out out' starts lens heads nexts starts' lens' heads' nexts' b (kind_at k) w r → (T : Tables) (p : Part) → Built text out opens starts lens heads nexts b T p k → nodes p ≤ 255 →
      Built text out' (set opens k b.len) starts' lens' heads' nexts' r T (inside p w none_yet) (k + 1)
  open_built a T p h l =
      let e : drafts p [] ++ (symbol_spot (sort_of_kind (kind_at k)) w 0 ∷ []) ≡ drafts (inside p w none_yet) [] =
      ap (λ (s : Sort). drafts p [] ++ (symbol_spot s w 0 ∷ [])) (kind-sort p k h.opened) ∙ inv (opening-drafts p w) in
      let d : Drafted text out' starts' lens' heads' nexts' r T (drafts (inside p w none_yet) []) = subst (Drafted text out' starts' lens' heads' nexts' r T) e (a.adds T (drafts p []) h.drafted) in
      let q : suc k ≡ k + 1 = omega arith in
      record {
        drafted = d;
        opened =
            subst (Opens (set opens k b.len) (inside p w none_yet)) q
            (open_at (opens-set p k k b.len (omega arith) h.opened)
            (get_or-set_same opens k b.len 0 (omega (arith, depth-nodes p k h.opened, l, h.opens_long)) ∙ h.weighed));
        opens_long = length-set opens k b.len ∙ h.opens_long;
        weighed = weighs d (omega (arith, a.grows, len_low h l));
      }

  pub formula-built : Adds text out out' starts lens heads nexts starts' lens' heads' nexts' b Predicate w r → k ≡ 0 → (T : Tables) (p : Part) → Built text out opens starts lens heads nexts b T p k → nodes p ≤ 255 →
      Built text out' opens starts' lens' heads' nexts' r T (put p w none) k
  formula-built a z T (formulas fs) h l =
      let d : Drafted text out' starts' lens' heads' nexts' r T (drafts (put (formulas fs) w none) []) =
      subst (Drafted text out' starts' lens' heads' nexts' r T) (inv (formula-drafts fs w)) (a.adds T (drafts (formulas fs) []) h.drafted) in
      record { drafted = d; opened = put-opens (formulas fs) k w none h.opened; opens_long = h.opens_long; weighed = weighs d (omega (arith, a.grows, len_low h l)) }
  formula-built a z T (inside q v e) h l = absurd (some_open k h.opened z)
    where
      some_open : {opens : List ℕ} (k : ℕ) → Opens opens (inside q v e) k → k ≡ 0 → ⊥
      some_open k (open_at g t) z = omega arith

  pub constant-built : Adds text (bumped out (b.from + (get_or opens (k - 1) 0 + 3))) out' starts lens heads nexts starts' lens' heads' nexts' b Constant w r → (k ≡ 0 → ⊥) → (T : Tables) (p : Part) →
      Built text out opens starts lens heads nexts b T p k → nodes p ≤ 255 → Built text out' opens starts' lens' heads' nexts' r T (put p w none) k
  constant-built a z T (formulas fs) h l = absurd (none_open k h.opened z)
    where
      none_open : {opens : List ℕ} {fs : List Formula} (k : ℕ) → Opens opens (formulas fs) k → (k ≡ 0 → ⊥) → ⊥
      none_open k shut z = z refl
  constant-built a z T (inside q v e) h l =
      let d : Drafted text out' starts' lens' heads' nexts' r T (drafts (put (inside q v e) w none) []) =
      subst (Drafted text out' starts' lens' heads' nexts' r T) (inv (constant-drafts q v w e)) (a.adds T _ (top-raised q v e k h)) in
      record { drafted = d; opened = put-opens (inside q v e) k w none h.opened; opens_long = h.opens_long; weighed = weighs d (omega (arith, a.grows, len_low h l)) }

-- What the program calls so

pub opened-all : (text out out' opens opens' starts lens heads nexts starts' lens' heads' nexts' : List ℕ) (w : Work) (r : Draft) (k : Kind) → k ≡ kind_at w.depth → opens' ≡ set opens w.depth w.draft.len →
    Adds text out out' starts lens heads nexts starts' lens' heads' nexts' w.draft k (word text w.at w.len) r → Opened text out out' opens opens' starts lens heads nexts starts' lens' heads' nexts' w r
opened-all text out out' opens opens' starts lens heads nexts starts' lens' heads' nexts' w r k p q a =
    record {
      builds =
          λ T part h l.
          subst (λ (o : List ℕ). Built text out' o starts' lens' heads' nexts' r T (inside part (word text w.at w.len) none_yet) (w.depth + 1)) (inv q)
          (open_built text out out' opens starts lens heads nexts starts' lens' heads' nexts' w.draft r w.depth (word text w.at w.len)
          (subst (λ (x : Kind). Adds text out out' starts lens heads nexts starts' lens' heads' nexts' w.draft x (word text w.at w.len) r) p a) T part h l);
      from_stays = a.from_stays;
      kept = a.kept;
    }

pub alone-root : (text out out' opens starts lens heads nexts starts' lens' heads' nexts' : List ℕ) (w : Work) (r : Draft) → w.depth ≡ 0 →
    Adds text out out' starts lens heads nexts starts' lens' heads' nexts' w.draft Predicate (word text w.at w.len) r → Alone text out out' opens starts lens heads nexts starts' lens' heads' nexts' w r
alone-root text out out' opens starts lens heads nexts starts' lens' heads' nexts' w r z a =
    record {
      builds = formula-built text out out' opens starts lens heads nexts starts' lens' heads' nexts' w.draft r w.depth (word text w.at w.len) a z;
      from_stays = a.from_stays;
      kept = a.kept;
    }

pub alone-nested : (text out out₁ out' opens starts lens heads nexts starts' lens' heads' nexts' : List ℕ) (w : Work) (r : Draft) → (w.depth ≡ 0 → ⊥) → out₁ ≡ bumped out (w.draft.from + (get_or opens (w.depth - 1) 0 + 3)) →
    Adds text out₁ out' starts lens heads nexts starts' lens' heads' nexts' w.draft Constant (word text w.at w.len) r → Alone text out out' opens starts lens heads nexts starts' lens' heads' nexts' w r
alone-nested text out out₁ out' opens starts lens heads nexts starts' lens' heads' nexts' w r z q a =
    record {
      builds =
          constant-built text out out' opens starts lens heads nexts starts' lens' heads' nexts' w.draft r w.depth (word text w.at w.len)
          (subst (λ (o : List ℕ). Adds text o out' starts lens heads nexts starts' lens' heads' nexts' w.draft Constant (word text w.at w.len) r) q a) z;
      from_stays = a.from_stays;
      kept =
          λ n l.
          a.kept n l ∙ ap (take n) q ∙ take-set-le n out (w.draft.from + (get_or opens (w.depth - 1) 0 + 3)) (get_or out (w.draft.from + (get_or opens (w.depth - 1) 0 + 3)) 0 + 1) (omega (arith, l));
    }

-- a place that is read

pub bumped-at : (out out' : List ℕ) (from x y : ℕ) → x ≡ y → out' ≡ bumped out (from + (x + 3)) → out' ≡ bumped out (from + (y + 3))
bumped-at out out' from x y e h = subst (λ (z : ℕ). out' ≡ bumped out (from + (z + 3))) e h

pub bump_low : (out : List ℕ) (from n x y : ℕ) → x ≡ y → from + (y + 3) < n → get_or out (from + (y + 3)) 0 < 255 → (from + (x + 3) < n) × (get_or out (from + (x + 3)) 0 < 255)
bump_low out from n x y e l h = (omega (arith, e, l), subst (λ (z : ℕ). get_or out (from + (z + 3)) 0 < 255) (inv e) h)
