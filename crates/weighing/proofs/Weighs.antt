-- Heads of the formula's predicate and arity, by their first words, and the argument at which they fail.
use Prim.Native.Nat.{ℕ, zero, suc, ◌+◌, ◌-◌, ◌%◌, ◌≤◌, ◌<◌}
use native.Mathlib.Omega.{arith}
use native.Mathlib.Decide.{dec_lt}
use mathlib.Core.Path.{◌≡◌, refl, sym as inv, ap, ◌∙◌, subst}
use mathlib.Core.Option.{some}
use mathlib.Core.List.{List, [], ◌∷◌}
use lib.ListN.{length, get_or, take, drop}
use Rattle.terms.specs.Node.{Symbol, arity, predicate, sym, Expr}
use Rattle.terms.specs.Row.{Row}
use Rattle.terms.specs.RowLaws.{row-long}
use Rattle.terms.specs.Rename.{rename, Apart}
use Rattle.terms.specs.Argument.{clash}
use Rattle.search.specs.Next.{Clause, Book, clause_at}
use Rattle.search.specs.Known.{symbol_for, Alike}
use Rattle.search.specs.Fail.{failing_between, failing}
use Rattle.search.proofs.FailLaws.{failing-named}
use Rattle.search.specs.Furthest.{Figures, furthest}
use Rattle.search.proofs.FurthestLaws.{Best, best-keep, best-take, furthest-is, unlike_failing}
use Rattle.words.specs.Word.{kind_of, arity_of, nodes}
use Rattle.words.specs.Flat.{flat}
use Rattle.words.specs.WordLaws.{node_pred}
use Rattle.words.specs.PackLaws.{same_word}
use Rattle.words.specs.Columns.{every}
use Rattle.words.specs.Held.{GoalIn, ClauseIn, BookOn}
use Rattle.words.specs.Lists.{Found}
use Rattle.words.specs.HeldLaws.{headed, first_kind}
use Rattle.positions.specs.Tables.{VerdictIn}
use Rattle.picking.specs.Laying.{Paired}
use Rattle.weighing.specs.Stuck.{Weighed}
use Rattle.picking.proofs.Problems.{goal_name, clause_name, names_apart, sides}
use Rattle.picking.proofs.Trials.{formula-length, left_word, right-word}
use Rattle.picking.proofs.Picks.{placed_at, head-placed, head-here, head_first}

-- the first node of words that hold a formula
starts_with : (l : List ℕ) (e : Expr) (g : List Expr) → nodes l ≡ flat (e ∷ g) → Row 1 e → kind_of (get_or l 0 0) ≡ 4 → (t : Expr) × (e ≡ sym (predicate (get_or l 0 0 % 65536) (arity_of (get_or l 0 0))) ∷ t)
starts_with l [] g i r k = absurd (omega (arith, row-long r))
starts_with [] (x ∷ e) g i r k = let z : ◌≡◌ {A = ℕ} 0 1 = cc in absurd (omega arith)
starts_with (u ∷ l) (x ∷ e) g i r k = (e, cc (node_pred u k))

-- the symbol that words begin with
module _ (formula head : List ℕ) (k : ℕ) (f : Expr) (c : Clause) (p : GoalIn formula 1 (f ∷ [])) (q : ClauseIn head k 0 (headed c)) where
  ours : symbol_for f ≡ some (predicate (get_or formula 0 0 % 65536) (arity_of (get_or formula 0 0)))
  ours = ap symbol_for (starts_with formula f [] p.is p.formulas.0 (first_kind 4096 formula f [] p.fit p.is p.atoms.0)).1

  theirs : symbol_for c.head ≡ some (predicate (get_or head 0 0 % 65536) (arity_of (get_or head 0 0)))
  theirs = ap symbol_for (starts_with head c.head [] q.is q.formulas.0 (first_kind 64 head c.head [] q.fit q.is q.atoms.0)).1

  pub alike_same : Alike f c.head → get_or head 0 0 ≡ get_or formula 0 0
  alike_same a =
      let kp = first_kind 4096 formula f [] p.fit p.is p.atoms.0 in
      let kq = first_kind 64 head c.head [] q.fit q.is q.atoms.0 in
      let e : some (predicate (get_or head 0 0 % 65536) (arity_of (get_or head 0 0))) ≡ some (predicate (get_or formula 0 0 % 65536) (arity_of (get_or formula 0 0))) =
      inv theirs ∙ a.head ∙ inv a.formula ∙ ours in
      let x : get_or head 0 0 % 65536 ≡ get_or formula 0 0 % 65536 = cc in
      let y : arity_of (get_or head 0 0) ≡ arity_of (get_or formula 0 0) = cc in
      same_word (get_or head 0 0) (get_or formula 0 0) (kq ∙ inv kp) y x

-- the number that the unifier answers, by any names that are apart
named : (α β : ℕ → ℕ) (s : Symbol) (f h a b : Expr) → f ≡ sym s ∷ a → h ≡ sym s ∷ b → Row 1 f → Row 1 h → Apart α β (f ∷ []) (h ∷ []) → clash (arity s) (drop 1 (rename α f)) (drop 1 (rename β h)) ≡ failing_between f h
named α β s f h a b ef eh p q x = rw (ef, eh) (failing-named s a b [] (rw ef at p) (rw eh at q) α β (rw (ef, eh) at x))

-- the formula and a head of its predicate and arity, laid side by side
module _ {formula head : List ℕ} {k : ℕ} {f : Expr} (c : Clause) (p : GoalIn formula 1 (f ∷ [])) (h : ClauseIn head k 0 (headed c)) {words : List ℕ} {n : ℕ} (b : Paired formula head words n)
    (same : get_or head 0 0 ≡ get_or formula 0 0) where
  abbrev w : List ℕ
  w = take n words

  one_word : get_or w 0 0 ≡ get_or w (length (rename goal_name f)) 0
  one_word = left_word c p h b ∙ inv same ∙ inv (right-word c p h b) ∙ ap (λ m. get_or w m 0) (inv (formula-length c p h b))

  pub number_is : (rows : List ℕ) {r : ℕ} (q : ℕ) → q ≡ n → VerdictIn (take q words) rows r → r ≡ failing f c
  number_is rows {r} q e v =
      let v' = subst (λ i. VerdictIn (take i words) rows r) e v in
      let s = sides formula head k f c p h words n b in
      let x = starts_with formula f [] p.is p.formulas.0 (first_kind 4096 formula f [] p.fit p.is p.atoms.0) in
      let y = starts_with head c.head [] h.is h.formulas.0 (first_kind 64 head c.head [] h.fit h.is h.atoms.0) in
      (v'.answer _ _ s).number (λ z. v'.other z _ _ s one_word) ∙ ap (λ u. clash (arity_of u) (drop 1 (rename goal_name f)) (drop 1 (rename clause_name c.head))) (left_word c p h b)
      ∙ named goal_name clause_name (predicate (get_or formula 0 0 % 65536) (arity_of (get_or formula 0 0))) f c.head x.0 y.0 x.1
      (y.1 ∙ ap (λ u. sym (predicate (u % 65536) (arity_of u)) ∷ y.0) same) p.formulas.0 h.formulas.0 (names_apart head _ 0 (headed c) h (f ∷ []))

-- The clause number i, beside the best so far.
module _ {formula book shelf : List ℕ} (i s e : ℕ) (es : (n : ℕ) → i < n → s ≡ get_or (every 4 256 n shelf) i 0) (ee : (n : ℕ) → i < n → e ≡ get_or (every 4 257 n shelf) i 0) (q p : ℕ) (eq : q ≡ get_or book s 0) (ep : p ≡ get_or formula 0 0)
    (f : Expr) (P : Book) (h : GoalIn formula 1 (f ∷ [])) (b : BookOn book shelf P) (l : i < length P) where
  abbrev head : ClauseIn (take (e - s) (drop s book)) (e - s) 0 (headed (clause_at P i))
  head = head-placed b i s e l es ee

  begins : get_or (take (e - s) (drop s book)) 0 0 ≡ get_or book s 0
  begins = head_first book s e (placed_at b i s e l es ee).begins

  pub one-predicate : q ≡ p → get_or (take (e - s) (drop s book)) 0 0 ≡ get_or formula 0 0
  one-predicate d = begins ∙ inv eq ∙ d ∙ ep

  other-fails : (q ≡ p → ⊥) → failing f (clause_at P i) ≡ 0
  other-fails n =
      unlike_failing f (clause_at P i) h.atoms.0 head.atoms.0 h.formulas.0 head.formulas.0
      (λ a. n (eq ∙ inv begins ∙ alike_same formula _ _ f (clause_at P i) h head a ∙ inv ep))

  pub weighed-other : (best : Figures) → (q ≡ p → ⊥) → Weighed best i (failing f (clause_at P i)) best
  weighed-other best n = record { kept = λ _. refl; taken = λ x. absurd (omega (arith, x, other-fails n)) }

  module _ (best : Figures) (k : ℕ) (is : k ≡ failing f (clause_at P i)) where
    pub weighed_better : best.argument < k → Weighed best i (failing f (clause_at P i)) (record { clause = i; argument = k })
    weighed_better x = record { kept = λ y. absurd (omega (arith, y, is)); taken = λ _. λ j. record { clause = i; argument = is j } }

    pub weighed_worse : k ≤ best.argument → Weighed best i (failing f (clause_at P i)) best
    weighed_worse x = record { kept = λ _. refl; taken = λ y. absurd (omega (arith, y, is)) }

-- so for every formula and book that the words hold
abbrev pub Foremost : List ℕ → List ℕ → List ℕ → ℕ → Figures → Type 0
Foremost formula book shelf i best = (f : Expr) (P : Book) → GoalIn formula 1 (f ∷ []) → BookOn book shelf P → Best (λ j. failing f (clause_at P j)) i best

weighed-best : {at : ℕ → ℕ} {i : ℕ} {best r : Figures} → Best at i best → Weighed best i (at i) r → Best at (suc i) r
weighed-best {at} {i} {best} {r} x w = elim (dec_lt best.argument (at i)) [
  | yes l ↦ subst (Best at (suc i)) (inv (w.taken l)) (best-take x l)
  | no l ↦ subst (Best at (suc i)) (inv (w.kept (omega arith))) (best-keep x (omega arith))
]

pub foremost-more : {formula book shelf : List ℕ} (i : ℕ) (best r : Figures) → ((P : Book) → BookOn book shelf P → i < length P) → Foremost formula book shelf i best
    → ((f : Expr) (P : Book) → GoalIn formula 1 (f ∷ []) → BookOn book shelf P → i < length P → Weighed best i (failing f (clause_at P i)) r) → Foremost formula book shelf (suc i) r
foremost-more i best r l x w f P h b = weighed-best (x f P h b) (w f P h b (l P b))

-- heads that begin with another word fail at no argument
module _ {formula book shelf : List ℕ} {f : Expr} {P : Book} (h : GoalIn formula 1 (f ∷ [])) (b : BookOn book shelf P) {u q r : ℕ} (eu : u ≡ get_or formula 0 0) (x : Found book shelf P u q r) where
  none_between : (j : ℕ) → q ≤ j → j < r → failing f (clause_at P j) ≡ 0
  none_between j a l =
      let i : j < length P = omega (arith, x.high) in
      let c = head-here b j i in
      unlike_failing f (clause_at P j) h.atoms.0 c.atoms.0 h.formulas.0 c.formulas.0
      (λ s. x.other j a l (inv (head_first book _ _ (b.held.placed j i).begins) ∙ alike_same formula _ _ f (clause_at P j) h c s ∙ inv eu))

  best-found : {best : Figures} → Best (λ j. failing f (clause_at P j)) q best → Best (λ j. failing f (clause_at P j)) r best
  best-found {best} y = up (r - q) r (omega (arith, x.low)) (omega arith)
    where
      up : (k m : ℕ) → m ≡ q + k → m ≤ r → Best (λ j. failing f (clause_at P j)) m best
      up zero m e l = let z : m ≡ q = omega arith in rw z y
      up (suc k) m e l =
          let z : m ≡ suc (q + k) = omega arith in
          rw z (best-keep (up k (q + k) refl (omega arith)) (omega (arith, none_between (q + k) (omega arith) (omega arith))))

pub foremost-found : {formula book shelf : List ℕ} {u : ℕ} (q r : ℕ) (best : Figures) → u ≡ get_or formula 0 0 → ((P : Book) → BookOn book shelf P → Found book shelf P u q r) → Foremost formula book shelf q best
    → Foremost formula book shelf r best
foremost-found q r best eu x y f P h b = best-found h b eu (x P b) (y f P h b)

pub foremost-all : {formula book shelf : List ℕ} (i : ℕ) (best : Figures) → Foremost formula book shelf i best → (f : Expr) (P : Book) → GoalIn formula 1 (f ∷ []) → BookOn book shelf P → i ≡ length P → best ≡ furthest P f
foremost-all i best x f P h b e = furthest-is P f best (subst (λ n. Best (λ j. failing f (clause_at P j)) n best) e (x f P h b))
