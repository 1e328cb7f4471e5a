-- What is computed of arities is what is told.
use Rattle.std.specs.Prelude.{ℕ, zero, suc, ◌<◌, ◌≡◌, refl, List, [], ◌∷◌, ◌++◌, map, length, Option, Some, None}
use Rattle.std.proofs.Common.{sym as inv, ap, ap₂, ◌∙◌, subst, inl, append_assoc, append-nil, arith, length-append}
use Rattle.std.proofs.Math.Decide.{dec_lt}
use Rattle.terms.specs.Cases.{cases}
use Rattle.words.specs.Flat.{flat}
use Rattle.grammar.specs.Syntax.{Terms, none, variable_then, name_then, Rule}
use Rattle.grammar.specs.Syntax as Syntax
use Rattle.grammar.specs.Names.{Sort, Spot, symbol_spot, count, called, spots_then, formula_spots, with_variable, variables_after, numbered, numbered_all, clause, names, book}
use Rattle.format.specs.declared.Record.{Record}
use Rattle.format.specs.declared.Record.TheVariants.{Formula}
use Rattle.format.specs.Arities.{Use, node_uses, goal_uses, book_uses, Used, OneArity, Memory, nothing_met, recall, keeps}
use Rattle.format.specs.ArityLaws.{recall-append, used-left, used-right, arity_iff, one_more}
use Rattle.format.proofs.Meaning.{one_none}
use Rattle.printing.proofs.ArityLaws.{uses-append}
use Rattle.readouts.specs.Place.{formulas_in}
use Rattle.readouts.specs.Clash.{Clashes, arities_from, arities, Means}

abbrev formula_of : Use → Record
formula_of u = Formula u.number u.arity

-- behind uses that keep one arity
goes : (vs : List Use) (k : ℕ) (us : List Use) → length vs ≡ k → OneArity vs → Means (vs ++ us) (arities_from (recall nothing_met vs) k us)
goes vs k [] e one = subst OneArity (inv (append-nil vs)) one
goes vs k (u ∷ us) e one =
    cases (keeps (recall nothing_met vs) (formula_of u))
    (λ t.
    rw t
    (subst (λ (m : Memory). Means (vs ++ (u ∷ us)) (arities_from m (suc k) us)) (recall-append nothing_met vs (u ∷ []))
    (subst (λ (l : List Use). Means l (arities_from (recall nothing_met (vs ++ (u ∷ []))) (suc k) us)) (append_assoc vs (u ∷ []) us)
    (goes (vs ++ (u ∷ [])) (suc k) us (length-append vs (u ∷ []) ∙ (omega arith)) (one_more vs one (formula_of u) t)))))
    (λ t.
    rw t
    (let a = (arity_iff vs one (formula_of u)).1 t in
    let p : u.number ≡ a.number = cc a.is in
    let q : u.arity ≡ a.arity = cc a.is in
    record {
      before = vs;
      next = u;
      behind = us;
      uses = refl;
      count = e;
      keeps_one = one;
      other = a.before;
      met = subst (λ (n : ℕ). Used n a.before vs) (inv p) a.met;
      differs = λ z. a.other (z ∙ q);
    }))

pub arities_mean : (us : List Use) → Means us (arities us)
arities_mean us = goes [] 0 us refl one_none

-- there is one answer

two-not-one : (us : List Use) (k : ℕ) → Clashes us k → OneArity us → ⊥
two-not-one us k c one =
    let o : OneArity (c.before ++ (c.next ∷ c.behind)) = subst OneArity c.uses one in
    c.differs
    (o c.next.number c.other c.next.arity
    (used-left c.next.number c.other c.before (c.next ∷ c.behind) c.met)
    (used-right c.next.number c.next.arity c.before (c.next ∷ c.behind) (inl (refl, refl))))

-- a shorter beginning of a list is a beginning of a longer one
shorter : (a b : List Use) (x : Use) (c d : List Use) → a ++ (x ∷ c) ≡ b ++ d → length a < length b → (e : List Use) × (b ≡ a ++ (x ∷ e))
shorter a [] x c d e h = absurd (omega arith)
shorter [] (y ∷ b) x c d e h = let p : x ≡ y = cc in (b, ap (λ (z : Use). z ∷ b) (inv p))
shorter (y ∷ a) (z ∷ b) x c d e h =
    let p : y ≡ z = cc in
    let i = shorter a b x c d (cc) (omega arith) in
    (i.0, ap₂ (λ (u : Use) (l : List Use). u ∷ l) (inv p) i.1)

not-later : {us : List Use} {j k : ℕ} → Clashes us j → Clashes us k → j < k → ⊥
not-later c d h =
    let s = shorter c.before d.before c.next c.behind (d.next ∷ d.behind) (inv c.uses ∙ d.uses) (omega (arith, c.count, d.count)) in
    two-not-one d.before _ (record { before = c.before; next = c.next; behind = s.0; uses = s.1; count = c.count; keeps_one = c.keeps_one; other = c.other; met = c.met; differs = c.differs }) d.keeps_one

same_count : {us : List Use} {j k : ℕ} → Clashes us j → Clashes us k → j ≡ k
same_count {us} {j} {k} c d =
    elim (dec_lt j k) [
      | yes h ↦ absurd (not-later c d h)
      | no h ↦ elim (dec_lt k j) [ yes g ↦ absurd (not-later d c g) | no g ↦ omega arith ]
    ]

only : (us : List Use) (a b : Option ℕ) → Means us a → Means us b → a ≡ b
only us None None p q = refl
only us None (Some k) p q = absurd (two-not-one us k q p)
only us (Some j) None p q = absurd (two-not-one us j p q)
only us (Some j) (Some k) p q = ap Some (same_count p q)

pub arities-only : (us : List Use) (a : Option ℕ) → Means us a → arities us ≡ a
arities-only us a m = only us (arities us) a (arities_mean us) m

-- Formulas and uses: as many uses as formulas

-- a clash stands at a formula
pub clash-low : {us : List Use} {k : ℕ} → Clashes us k → k < length us
clash-low c = omega (arith, c.count, ap length c.uses, length-append c.before (c.next ∷ c.behind))

term-uses : (T : Sort → List (List ℕ)) (seen : List (List ℕ)) (a : ℕ) (w : List ℕ) (e : List Spot) → length (node_uses (numbered T seen e)) ≡ 0 → length (node_uses (numbered T seen (symbol_spot (called a) w a ∷ e))) ≡ 0
term-uses T seen zero w e h = h
term-uses T seen (suc a) w e h = h

terms-uses : (T : Sort → List (List ℕ)) (seen : List (List ℕ)) (ts : Terms) (r : List Spot) → ((s : List (List ℕ)) → length (node_uses (numbered T s r)) ≡ 0) → length (node_uses (numbered T seen (spots_then ts r))) ≡ 0
terms-uses T seen none r h = h seen
terms-uses T seen (variable_then w ts) r h = terms-uses T (with_variable seen w) ts r h
terms-uses T seen (name_then w own ts) r h = term-uses T seen (count own) w (spots_then own (spots_then ts r)) (terms-uses T seen own (spots_then ts r) (λ s. terms-uses T s ts r h))

formula-uses : (T : Sort → List (List ℕ)) (seen : List (List ℕ)) (f : Syntax.Formula) → length (node_uses (numbered T seen (formula_spots f))) ≡ 1
formula-uses T seen f = ap suc (terms-uses T seen f.arguments [] (λ s. refl))

pub formulas-uses : (T : Sort → List (List ℕ)) (seen : List (List ℕ)) (fs : List Syntax.Formula) → length (goal_uses (numbered_all T seen fs)) ≡ length fs
formulas-uses T seen [] = refl
formulas-uses T seen (f ∷ fs) =
    let e = numbered T seen (formula_spots f) in
    let g = numbered_all T (variables_after seen (formula_spots f)) fs in
    omega (arith, ap length (uses-append e (flat g)), length-append (node_uses e) (node_uses (flat g)), formula-uses T seen f, formulas-uses T (variables_after seen (formula_spots f)) fs)

rules-uses : (T : Sort → List (List ℕ)) (cs : List Rule) → length (book_uses (map (clause T) cs)) ≡ formulas_in cs
rules-uses T [] = refl
rules-uses T (c ∷ cs) =
    let g = numbered_all T [] (c.head ∷ c.body) in
    omega (arith, length-append (goal_uses g) (book_uses (map (clause T) cs)), formulas-uses T [] (c.head ∷ c.body), rules-uses T cs)

pub book-uses-count : (cs : List Rule) → length (book_uses (book cs)) ≡ formulas_in cs
book-uses-count cs = rules-uses (names cs) cs
