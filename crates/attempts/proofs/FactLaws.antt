-- A fact that stands in a goal word for word.
use Prim.Native.Nat.{ℕ, suc, ◌+◌, ◌-◌, ◌<◌, ◌≤◌}
use native.Mathlib.Omega.{arith}
use native.Mathlib.Decide.{dec_lt}
use mathlib.Core.Path.{◌≡◌, refl, sym as inv, ap, ◌∙◌, subst}
use mathlib.Core.Logic.{inl, inr}
use mathlib.Core.Bool.{true, false, true≢false}
use mathlib.Core.List.{List, [], ◌∷◌, ◌++◌, map-append, append-nil}
use lib.ListN.{length, get_or, take, drop, length-drop, take-append-drop}
use lib.Seq.{ext_get_or, get_or-take, get_or-drop, length-take-le}
use Rattle.terms.specs.Node.{var, sym, Expr}
use Rattle.terms.specs.Row.{Row, row_end, row_var}
use Rattle.terms.specs.RowLaws.{first-row}
use Rattle.terms.specs.Subst.{Subst, apply, itself, Unifies}
use Rattle.terms.specs.SubstLaws.{apply-on, apply-itself}
use Rattle.terms.specs.Rename.{rename}
use Rattle.terms.specs.RenameLaws.{rename_idle}
use Rattle.terms.specs.Number.{seen_after, number}
use Rattle.terms.proofs.NumberLaws.{number-is-rename}
use Rattle.terms.specs.Argument.{firsts}
use Rattle.search.specs.Next.{Clause, Book, Goal, Meets, clause_at}
use Rattle.words.specs.Word.{Valids, node, nodes}
use Rattle.words.specs.WordLaws.{in-fits, nodes-drop}
use Rattle.words.specs.HeldLaws.{headed}
use Rattle.words.specs.Columns.{every}
use Rattle.words.specs.Held.{ClauseIn, BookOn}
use Rattle.picking.proofs.Picks.{head-here, picked-here}
use Rattle.heap.specs.Heap.{rows}
use Rattle.heap.specs.HeapLaws.{row_inside}
use Rattle.trials.proofs.Heaps.{own_name}
use Rattle.heapgoals.specs.Holding.{used, Holds}
use Rattle.heapgoals.specs.HoldLaws.{held-row, held_first}
use Rattle.heapgoals.specs.declared.Standing.{Standing}
use Rattle.attempts.specs.Facts.{SameWords, Bare, Given}
use Rattle.attempts.specs.Trying.{Sought}
use Rattle.attempts.specs.declared.Found.TheVariants as Seen
use Rattle.attempts.proofs.Extending.{part-front}
use Rattle.attempts.proofs.Seeking.{Seeking}

-- what has no variable stays as it is
module _ (e : Expr) (bare : Bare e) where
  pub bare-apply : (σ : Subst) → apply σ e ≡ e
  bare-apply σ = apply-on σ itself e (λ v i. absurd (bare v i)) ∙ apply-itself e

  pub bare-number : number [] e ≡ e
  bare-number = number-is-rename [] e ∙ rename_idle _ e (λ v i. absurd (bare v i))

pub bare-seen : (seen : List ℕ) (e : Expr) → Bare e → seen_after seen e ≡ seen
bare-seen seen [] bare = refl
bare-seen seen (var v ∷ e) bare = absurd (bare v (inl refl))
bare-seen seen (sym s ∷ e) bare = bare-seen seen e bare

-- one word after another
module _ {heap head : List ℕ} {at : ℕ} where
  pub same_none : at ≤ length heap → SameWords heap at head 0
  same_none l = record { few = omega arith; inside = omega (arith, l); same = λ x h. absurd (omega (arith, h)); symbols = λ x h. absurd (omega (arith, h)) }

  pub same_more : {n : ℕ} → SameWords heap at head n → {u : ℕ} → u ≡ get_or head n 0 → u ≡ get_or heap (at + n) 0 → 33554432 ≤ u → n < length head → at + n < length heap → {m : ℕ} → m ≡ n + 1 → SameWords heap at head m
  same_more {n} a {u} here there plain l k {m} e = record {
    few = omega (arith, l, e);
    inside = omega (arith, k, e);
    same = λ x h. elim (dec_lt x n) [
      | yes b ↦ a.same x b
      | no b ↦ let z : x ≡ n = omega (arith, h, b, e) in ap (λ y. get_or heap (at + y) 0) z ∙ inv there ∙ here ∙ ap (λ y. get_or head y 0) (inv z)
    ];
    symbols = λ x h. elim (dec_lt x n) [
      | yes b ↦ a.symbols x b
      | no b ↦ let z : x ≡ n = omega (arith, h, b, e) in omega (arith, plain, here, ap (λ y. get_or head y 0) z)
    ];
  }

  pub same-all : {n : ℕ} → SameWords heap at head n → length head ≤ n → SameWords heap at head (length head)
  same-all a l = subst (SameWords heap at head) (omega (arith, a.few, l)) a

-- the row that stands there
module _ {heap head : List ℕ} {at : ℕ} (a : SameWords heap at head (length head)) where
  head-front : take (length head) (drop at heap) ≡ head
  head-front =
      let long = length-take-le (length head) (drop at heap) (omega (arith, length-drop at heap, a.inside)) in
      ext_get_or 0 (take (length head) (drop at heap)) head long (λ x l. let k : x < length head = omega (arith, l, long) in get_or-take (length head) (drop at heap) x 0 k ∙ get_or-drop at heap x 0 ∙ a.same x k)

  pub row-there : Row 1 (nodes head) → rows heap 1 at ≡ nodes head
  row-there row =
      let rest = drop (length head) (drop at heap) in
      ap (firsts 1) (inv (nodes-drop at heap) ∙ ap nodes (inv (take-append-drop (length head) (drop at heap)) ∙ ap (λ l. l ++ rest) head-front) ∙ map-append node head rest) ∙ first-row row (nodes rest)

  pub head-bare : Valids head → Bare (nodes head)
  head-bare valids v i = omega (arith, in-fits 0 v head (λ x l. record { valid = valids x l; below = λ z. absurd (omega (arith, z, a.symbols x l)) }) i)

-- the first formula is that fact
pub given-there : {words cells levels : List ℕ} {s : Standing} {f : Expr} {g a : Goal} → Holds words cells levels s (f ∷ g) a → {head : List ℕ} {k : ℕ} {c : Clause} → ClauseIn head k 0 (headed c) → c.body ≡ []
    → SameWords (used words s) s.at head (length head) → Given f c
given-there {words} {s = s} {f} h {head} {c = c} q none a = record { head = head-is ∙ same; body = none; bare = subst Bare same bare }
  where
    head-is : c.head ≡ nodes head
    head-is = inv (append-nil c.head) ∙ inv q.is

    bare : Bare (nodes head)
    bare = head-bare a (λ x l. (q.fit x l).valid)

    same : nodes head ≡ f
    same = inv (bare-number (nodes head) bare) ∙ ap (number []) (inv (bare-apply (nodes head) bare h.meaning) ∙ ap (apply h.meaning) (inv (row-there a (subst (Row 1) head-is q.formulas.0)))) ∙ held_first h

pub lent-room : {words cells levels : List ℕ} {s : Standing} {f : Expr} {g a : Goal} → Holds words cells levels s (f ∷ g) a → (s.at ≤ length (take (s.top - 0) (drop 0 words))) × (length (take (s.top - 0) (drop 0 words)) < 65536)
lent-room {words} {s = s} h = rw (part-front s.top words) (omega (arith, row_inside (used words s) 0 s.at (held-row h)), h.made.short)

pub no_body : (c : Clause) → 0 ≡ length c.body → c.body ≡ []
no_body c e = go c.body e
  where
    go : (l : Goal) → 0 ≡ length l → l ≡ []
    go [] e = refl
    go (f ∷ l) e = absurd (omega (arith, e))

-- the clause number i of a book, of whose entries the code has read these
module _ {book shelf : List ℕ} {P : Book} (o : BookOn book shelf P) (i b e : ℕ) (l : i < length P) (eb : (m : ℕ) → i < m → b ≡ get_or (every 4 256 m shelf) i 0) (ee : (m : ℕ) → i < m → e ≡ get_or (every 4 257 m shelf) i 0) where
  pub head-begins : b < e
  head-begins = omega (arith, eb (suc (length P)) (omega (arith, l)), ee (length P) l, (o.held.placed i l).begins)

  pub head-ends : e ≤ length book
  head-ends = omega (arith, ee (length P) l, (o.held.placed i l).ends, (o.held.placed i l).within)

  head-words : ClauseIn (take (e - b) (drop b book)) (e - b) 0 (headed (clause_at P i))
  head-words = rw (eb (suc (length P)) (omega (arith, l)), ee (length P) l) (head-here o i l)

  pub given-here : (n : ℕ) → ((m : ℕ) → i < m → n ≡ get_or (every 4 258 m shelf) i 0) → n ≤ 0 → {words cells levels : List ℕ} {s : Standing} {f : Expr} {g a : Goal} → Holds words cells levels s (f ∷ g) a
      → SameWords (take (s.top - 0) (drop 0 words)) s.at (take (e - b) (drop b book)) (length (take (e - b) (drop b book))) → Given f (clause_at P i)
  given-here n en none {words} {s = s} h a =
      given-there h head-words (no_body (clause_at P i) (omega (arith, none, en (length P) l, (o.held.placed i l).clause.body)))
      (subst (λ w. SameWords w s.at (take (e - b) (drop b book)) (length (take (e - b) (drop b book)))) (part-front s.top words) a)

-- such a fact meets the formula
pub given-unifies : {f : Expr} {c : Clause} → Given f c → Unifies itself (rename own_name f) (rename own_name c.head)
given-unifies x = (λ v. row_var row_end, ap (λ e. apply itself (rename own_name e)) (inv x.head))

pub given-meets : {f : Expr} {c : Clause} → Given f c → Meets f c
given-meets {f} {c} x = record {
  goal_names = own_name;
  clause_names = own_name;
  apart = record { left = λ v w i j e. e; right = λ v w i j e. e; shared = λ v w i j e. elim i [ inl k ↦ x.bare v k | inr k ↦ absurd k ] };
  unifier = itself;
  unifies = given-unifies x;
}

-- found as the first that fits
pub found-given : {book shelf words₀ cells₀ rows₀ levels₀ stack₀ : List ℕ} {s : Standing} {all u : ℕ} {words cells rows levels stack : List ℕ} {i : ℕ} → Seeking book shelf words₀ cells₀ rows₀ levels₀ stack₀ s all u words cells rows levels stack i
    → {P : Book} → BookOn book shelf P → {f : Expr} {g a : Goal} → Holds words₀ cells₀ levels₀ s (f ∷ g) a → i < length P → Given f (clause_at P i) → Sought P f book shelf (take s.top words₀) words cells₀ s cells rows (Seen.Given i)
found-given {i = i} k {P} o {f} {g} {a} h l x = (picked-here f P 0 i (omega arith) l (k.passing P f g a o h l) (given-meets x), l, x, k.cells_are)

pub not-true : {A : Type 0} → false ≡ true → A
not-true e = absurd (true≢false (inv e))
