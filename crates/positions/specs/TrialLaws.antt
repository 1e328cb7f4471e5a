-- What a trial says of the two formulas, in the words of `terms`.
use Rattle.std.specs.Prelude.{ℕ, zero, suc, ◌+◌, ◌-◌, ◌≤◌, ◌<◌, ◌≡◌, refl, List, [], ◌∷◌, ◌++◌, length, get_or, drop, take}
use Rattle.std.proofs.Common.{arith, add-one, add-zero, add-suc, ap, ◌∙◌, sym as inv, append_assoc, append-nil, length-drop, take_all, length-take-le}
use Rattle.std.proofs.Math.Decide.{ℕ_discrete, dec_lt}
use Rattle.std.proofs.lemmas.List.{length-map}
use Rattle.std.proofs.Math.Seq.{slice}
use Rattle.terms.specs.Node.{Expr}
use Rattle.terms.specs.Row.{Row, row_end, row_var}
use Rattle.terms.specs.RowLaws.{row-append, row_unique, first-row}
use Rattle.terms.specs.Subst.{Subst, apply, itself, Proper, Unifies, MostGeneral}
use Rattle.terms.specs.Argument.{firsts, Unifiable, ClashesAt, clash}
use Rattle.terms.proofs.ArgumentLaws.{Tried, tried-clash}
use Rattle.words.specs.Word.{kind_of, arity_of, Plain, Valids, node, nodes}
use Rattle.positions.specs.Words.{child, Terms, terms_end, terms_more, Ends}
use Rattle.positions.specs.Steps.{Args}
use Rattle.positions.specs.Closing.{Good}
use Rattle.positions.specs.Nodes.{term, value, cat}
use Rattle.positions.specs.Solving.{solution, Sides, Solved}
use Rattle.positions.specs.Trying.{Trial, Refused}
use Rattle.positions.specs.RootLaws.{root_self}
use Rattle.positions.specs.CatLaws.{cat-row, cat-same, cat-read, apply-cat, slice-join}
use Rattle.positions.specs.ValueLaws.{row-terms, term_eq, term-row, value_row, value-sym, good}
use Rattle.positions.specs.SolutionLaws.{proper, solution-meets, factors}

-- the next argument stands where the one before it ends
pub next-child : (e : List ℕ) (p i : ℕ) → get_or e (child e p i) 0 ≡ child e p (i + 1)
next-child e p i = rw (add-one i)

pub next-argument : (e : List ℕ) (p i c r : ℕ) → c ≡ child e p i → r ≡ get_or e c 0 → r ≡ child e p (i + 1)
next-argument e p i c r ec er = er ∙ ap (λ q. get_or e q 0) ec ∙ next-child e p i

cat-split : (g : ℕ → Expr) (j k : ℕ) → cat g (j + k) ≡ cat g j ++ cat (λ i. g (j + i)) k
cat-split g j zero = ap (cat g) (add-zero j) ∙ inv (append-nil (cat g j))
cat-split g j (suc k) = ap (cat g) (add-suc j k) ∙ ap (λ z. z ++ g (j + k)) (cat-split g j k) ∙ append_assoc (cat g j) (cat (λ i. g (j + i)) k) (g (j + k))

-- the first j of n terms in a row
firsts-cat : (g : ℕ → Expr) (j n : ℕ) → j ≤ n → ((i : ℕ) → i < n → Row 1 (g i)) → firsts j (cat g n) ≡ cat g j
firsts-cat g j n l r =
    let e : cat g n ≡ cat g j ++ cat (λ i. g (j + i)) (n - j) = (let q : n ≡ j + (n - j) = omega arith in ap (cat g) q ∙ cat-split g j (n - j)) in
    ap (firsts j) e ∙ first-row (cat-row g j (λ i h. r i (omega arith))) (cat (λ i. g (j + i)) (n - j))

firsts-none : (e : Expr) → firsts 0 e ≡ []
firsts-none [] = refl
firsts-none (x ∷ e) = refl

pub nonempty : {k : ℕ} {l : List ℕ} → Terms (suc k) l → 0 < length l
nonempty (terms_more t) = omega arith

blank-left : {l : List ℕ} → Terms 0 l → length l ≡ 0
blank-left terms_end = refl

pub two-terms : {w : List ℕ} {a b : Expr} → Valids w → Sides w a b → Terms 2 w
two-terms {w} v s = row-terms w 2 (rw s.both (row-append s.left s.right)) v

-- the formulas are the terms at 0 and behind it
module _ {w e : List ℕ} {a b : Expr} (ends : Ends w e) (valid : Valids w) (s : Sides w a b) where
  pub some_word : 0 < length w
  some_word = nonempty (two-terms valid s)

  second-term : Terms 1 (drop (get_or e 0 0) w)
  second-term = (ends 0 some_word).rest 1 (two-terms valid s)

  pub second-in : get_or e 0 0 < length w
  second-in = omega (arith, nonempty second-term, length-drop (get_or e 0 0) w)

  pub last_end : get_or e (get_or e 0 0) 0 ≡ length w
  last_end =
      let z = blank-left ((ends (get_or e 0 0) second-in).rest 0 second-term) in
      omega (arith, z, length-drop (get_or e (get_or e 0 0) 0) w, (ends (get_or e 0 0) second-in).within)

  whole : nodes w ≡ term w e 0 ++ slice (get_or e 0 0) (length w) (nodes w)
  whole =
      inv (take_all (length w) (nodes w) (rw (length-map w node) (omega arith)))
      ∙ slice-join 0 (get_or e 0 0) (length w) (nodes w) (omega arith) (omega (arith, second-in)) (rw (length-map w node) (omega arith))

  parted : (term w e 0 ≡ a) × (slice (get_or e 0 0) (length w) (nodes w) ≡ b)
  parted = row_unique (term-row w e ends valid 0 some_word) s.left (slice (get_or e 0 0) (length w) (nodes w)) b (inv whole ∙ s.both)

  pub left_is : term w e 0 ≡ a
  left_is = parted.0

  pub right_is : term w e (get_or e 0 0) ≡ b
  right_is = ap (λ t. slice (get_or e 0 0) t (nodes w)) last_end ∙ parted.1

  pub second_is : get_or e 0 0 ≡ length a
  second_is =
      let n : length (take (get_or e 0 0) (nodes w)) ≡ get_or e 0 0 = length-take-le (get_or e 0 0) (nodes w) (rw (length-map w node) (omega (arith, second-in))) in
      inv n ∙ ap length left_is

  left-plain : Plain (get_or w 0 0)
  left-plain z = omega (arith, z, s.left_head)

  right-plain : Plain (get_or w (get_or e 0 0) 0)
  right-plain z = let h : kind_of (get_or w (get_or e 0 0) 0) ≡ 4 = rw second_is s.right_head in omega (arith, z)

  -- the arguments behind the predicate at p
  arguments : (p : ℕ) → p < length w → drop 1 (term w e p) ≡ cat (λ i. term w e (child e p i)) (arity_of (get_or w p 0))
  arguments p h = ap (drop 1) (term_eq w e ends p h)

  term_in : (p : ℕ) → p < length w → (i : ℕ) → i < arity_of (get_or w p 0) → Row 1 (term w e (child e p i))
  term_in p h i q = term-row w e ends valid (child e p i) ((ends p h).inside i q)

  arguments-row : (p : ℕ) → p < length w → Row (arity_of (get_or w p 0)) (drop 1 (term w e p))
  arguments-row p h = rw (arguments p h) (cat-row (λ i. term w e (child e p i)) (arity_of (get_or w p 0)) (term_in p h))

  module _ (j : ℕ) (l : j ≤ arity_of (get_or w 0 0)) (k : j ≤ arity_of (get_or w (get_or e 0 0) 0)) where
    firsts-are : (p : ℕ) → p < length w → j ≤ arity_of (get_or w p 0) → (θ : Subst) → apply θ (firsts j (drop 1 (term w e p))) ≡ cat (λ i. value w e θ (child e p i)) j
    firsts-are p h q θ =
        ap (λ x. apply θ (firsts j x)) (arguments p h)
        ∙ ap (apply θ) (firsts-cat (λ i. term w e (child e p i)) j (arity_of (get_or w p 0)) q (term_in p h))
        ∙ apply-cat θ (λ i. term w e (child e p i)) j

    left-firsts : (θ : Subst) → apply θ (firsts j (drop 1 a)) ≡ cat (λ i. value w e θ (child e 0 i)) j
    left-firsts θ = ap (λ x. apply θ (firsts j (drop 1 x))) (inv left_is) ∙ firsts-are 0 some_word l θ

    right-firsts : (θ : Subst) → apply θ (firsts j (drop 1 b)) ≡ cat (λ i. value w e θ (child e (get_or e 0 0) i)) j
    right-firsts θ = ap (λ x. apply θ (firsts j (drop 1 x))) (inv right_is) ∙ firsts-are (get_or e 0 0) second-in k θ

    -- to unify the first j arguments is to give them equal values
    pub unified-args : (θ : Subst) → Unifies θ (firsts j (drop 1 a)) (firsts j (drop 1 b)) → Args (value w e θ) e j 0 (get_or e 0 0)
    unified-args θ u =
        cat-read (λ i. value w e θ (child e 0 i)) (λ i. value w e θ (child e (get_or e 0 0) i)) j
        (λ i h. value_row w e ends valid θ u.0 (child e 0 i) ((ends 0 some_word).inside i (omega arith)))
        (λ i h. value_row w e ends valid θ u.0 (child e (get_or e 0 0) i) ((ends (get_or e 0 0) second-in).inside i (omega arith)))
        (inv (left-firsts θ) ∙ u.1 ∙ right-firsts θ)

    pub args-unified : (θ : Subst) → Proper θ → Args (value w e θ) e j 0 (get_or e 0 0) → Unifies θ (firsts j (drop 1 a)) (firsts j (drop 1 b))
    args-unified θ p h =
        (p, left-firsts θ ∙ cat-same (λ i. value w e θ (child e 0 i)) (λ i. value w e θ (child e (get_or e 0 0) i)) j h ∙ inv (right-firsts θ))

  -- what a unifier of the formulas makes equal
  module _ (θ : Subst) (u : Unifies θ a b) where
    values : value w e θ 0 ≡ value w e θ (get_or e 0 0)
    values = ap (apply θ) left_is ∙ u.1 ∙ ap (apply θ) (inv right_is)

    fair : Good w e (value w e θ)
    fair = good w e ends valid θ u.0

    pub same-heads : get_or w 0 0 ≡ get_or w (get_or e 0 0) 0
    same-heads = fair.apart 0 (get_or e 0 0) some_word second-in left-plain right-plain values

    pub all-args : Args (value w e θ) e (arity_of (get_or w 0 0)) 0 (get_or e 0 0)
    all-args = fair.args 0 (get_or e 0 0) some_word second-in left-plain same-heads values

module _ {w e up pick first : List ℕ} {m j : ℕ} {a b : Expr} (t : Trial w e up pick first m j) (s : Sides w a b) where
  ends : Ends w e
  ends = t.closed.ends

  valid : Valids w
  valid = t.closed.valid

  pub trial-second : m ≡ length a
  trial-second = t.second ∙ second_is ends valid s

  pub argument-in : (i : ℕ) → i < arity_of (get_or w 0 0) → i < arity_of (get_or w m 0) → (child e 0 i < length w) × (child e m i < length w)
  argument-in i l k = ((ends 0 (some_word ends valid s)).inside i l, (ends m t.inside).inside i k)

  pub left-arguments : Row (arity_of (get_or w 0 0)) (drop 1 a)
  left-arguments = rw (← left_is ends valid s) (arguments-row ends valid s 0 (some_word ends valid s))

  pub right-arguments : Row (arity_of (get_or w m 0)) (drop 1 b)
  right-arguments = rw (← right_is ends valid s, ← t.second) (arguments-row ends valid s m t.inside)

  -- the number of a trial is the one that `terms` computes
  pub trial-number : get_or w 0 0 ≡ get_or w m 0 → {r : ℕ} → Tried (drop 1 a) (drop 1 b) (arity_of (get_or w 0 0)) r → r ≡ clash (arity_of (get_or w 0 0)) (drop 1 a) (drop 1 b)
  trial-number same = tried-clash left-arguments (rw same right-arguments)

  -- no arguments: a solution at once
  pub bare-solved : arity_of (get_or w 0 0) ≡ 0 → arity_of (get_or w m 0) ≡ 0 → (rank : List ℕ) → Solved w e up pick rank
  bare-solved l k rank = record {
    grouped = t.closed.grouped;
    ends = ends;
    end_length = t.closed.end_length;
    valid = valid;
    settled = λ r i h q n. absurd (no-argument (get_or pick r 0) (rw (root_self up t.closed.grouped.down r q) at (t.closed.grouped.picks r h).within) i n);
  }
    where
      no-argument : (p : ℕ) → p < length w → (i : ℕ) → i < arity_of (get_or w p 0) → ⊥
      no-argument p h i n =
          let e0 : get_or e 0 0 ≡ 1 = (ends 0 (some_word ends valid s)).last ∙ ap (child e 0) l in
          let em : get_or e m 0 ≡ m + 1 = (ends m t.inside).last ∙ ap (child e m) k in
          let long : length w ≡ m + 1 = inv (last_end ends valid s) ∙ ap (λ z. get_or e z 0) (inv t.second) ∙ em in
          elim (ℕ_discrete p 0) [
            | yes y ↦ omega (arith, n, l, ap (λ z. arity_of (get_or w z 0)) y)
            | no x ↦ let y : p ≡ m = omega (arith, t.second) in omega (arith, n, k, ap (λ z. arity_of (get_or w z 0)) y)
          ]

  -- the arguments made equal can be unified together, and so can fewer
  pub unifiable : {rank : List ℕ} → Solved w e up pick rank → j ≤ arity_of (get_or w 0 0) → j ≤ arity_of (get_or w m 0) → (i : ℕ) → i ≤ j → Unifiable (drop 1 a) (drop 1 b) i
  unifiable {rank} solved l k i h = (
    solution w e up pick rank first,
    args-unified ends valid s i (omega arith) (rw (← t.second) (omega arith)) (solution w e up pick rank first) (proper w e up pick rank solved first)
        (rw (← t.second) (λ x q. let p = argument-in x (omega arith) (omega arith) in solution-meets w e up pick rank solved first m j t x (omega arith) p.0 p.1)),
  )

  -- the next argument is the first that clashes
  pub clashes : ((0 < j) → (rank : List ℕ) × Solved w e up pick rank) → Refused w e m (j + 1) → j < arity_of (get_or w 0 0) → j < arity_of (get_or w m 0) → ClashesAt (drop 1 a) (drop 1 b) (j + 1)
  clashes solved refused l k = record {
    counted = omega arith;
    clash = λ u. refused u.0 u.1.0 (rw t.second (unified-args ends valid s (j + 1) (omega arith) (rw (← t.second) (omega arith)) u.0 u.1));
    before = λ i h. elim (dec_lt 0 j) [
      | yes p ↦ unifiable (solved p).1 (omega arith) (omega arith) i (omega arith)
      | no p ↦ let z : i ≡ 0 = omega arith in rw z (itself, ((λ v. row_var row_end), ap (apply itself) (firsts-none (drop 1 a) ∙ inv (firsts-none (drop 1 b)))))
    ];
  }

  -- where some arguments cannot be made equal the formulas cannot
  pub refused_none : {i : ℕ} → Refused w e m i → i ≤ arity_of (get_or w 0 0) → (θ : Subst) → Unifies θ a b → ⊥
  refused_none refused l θ u = refused θ u.0 (rw t.second (λ x h. all-args ends valid s θ u x (omega arith)))

  pub other_none : (get_or w 0 0 ≡ get_or w m 0 → ⊥) → (θ : Subst) → Unifies θ a b → ⊥
  other_none differ θ u = differ (same-heads ends valid s θ u ∙ ap (λ z. get_or w z 0) (inv t.second))

  -- all arguments made equal: the solution is most general
  pub most-general : {rank : List ℕ} → Solved w e up pick rank → get_or w 0 0 ≡ get_or w m 0 → j ≡ arity_of (get_or w 0 0) → MostGeneral (solution w e up pick rank first) a b
  most-general {rank} solved same all = record {
    unifies = (proper w e up pick rank solved first, equal);
    general = λ θ u. (θ, u.0, factors w e up pick rank solved first m j t θ u.0 (rw (all, t.second) (all-args ends valid s θ u)));
  }
    where
      μ : Subst
      μ = solution w e up pick rank first

      met : (i : ℕ) → i < arity_of (get_or w 0 0) → value w e μ (child e 0 i) ≡ value w e μ (child e m i)
      met i l = let p = argument-in i l (omega (arith, l, ap arity_of same)) in solution-meets w e up pick rank solved first m j t i (omega arith) p.0 p.1

      equal : apply μ a ≡ apply μ b
      equal =
          ap (apply μ) (inv (left_is ends valid s))
          ∙ value-sym w e ends valid μ 0 (some_word ends valid s) (left-plain ends valid s)
          ∙ ap (λ z. node (get_or w 0 0) ∷ z) (cat-same (λ i. value w e μ (child e 0 i)) (λ i. value w e μ (child e m i)) (arity_of (get_or w 0 0)) met)
          ∙ ap (λ u. node u ∷ cat (λ i. value w e μ (child e m i)) (arity_of u)) same
          ∙ inv (value-sym w e ends valid μ m t.inside (rw t.second (right-plain ends valid s)))
          ∙ ap (λ p. apply μ (term w e p)) t.second ∙ ap (apply μ) (right_is ends valid s)
