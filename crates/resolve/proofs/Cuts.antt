-- One clause by itself, by the book's own shelf.
use Prim.Native.Nat.{ℕ, zero, suc, ◌+◌, ◌*◌, ◌-◌, ◌%◌, ◌≤◌, ◌<◌}
use native.Mathlib.Omega.{arith}
use mathlib.Core.Path.{◌≡◌, refl, sym as inv, ap, ◌∙◌, subst}
use mathlib.Core.Bool.{false, true≢false}
use mathlib.Core.List.{List, [], ◌∷◌}
use lib.ListN.{length, get_or, take, drop}
use lib.Seq.{length-take-le, get_or-take, take-take}
use Rattle.terms.specs.Node.{Expr}
use Rattle.search.specs.Next.{Book, Goal, Clauses, First, NoneMeets, Resolved, no_clause, clause_at}
use Rattle.search.specs.Step.{stuck, to, next}
use Rattle.search.specs.Answer.{small}
use Rattle.search.proofs.NextTheorem.{next_iff, stuck_iff}
use Rattle.search.proofs.SingleLaws.{clauses-drop}
use Rattle.words.specs.Columns.{every, every-length, every-at}
use Rattle.words.specs.Held.{GoalIn, Placed, starts, heads, bodies, BookOn}
use Rattle.words.specs.HeldLaws.{clauses-of}
use Rattle.words.specs.Linked.{cut-lists}
use Rattle.picking.specs.Picking.{Picked}
use Rattle.resolve.specs.declared.Move.{Move}
use Rattle.resolve.specs.declared.Move.TheVariants.{Stuck, Unknown, Full, Over, To}
use Rattle.resolve.specs.Advancing.{Follows, Alone}

-- A shelf cut behind the clause number k is of the book's first clauses, up to k.

clause-take : (n : ℕ) (P : Book) (i : ℕ) → i < n → clause_at (take n P) i ≡ clause_at P i
clause-take n P i l = get_or-take n P i no_clause l

-- a number of the rows that are left
cut-entry : (shelf : List ℕ) (n m r j i : ℕ) → i < n → i < m → 4 * i + j < r → get_or (every 4 j n (take r shelf)) i 0 ≡ get_or (every 4 j m shelf) i 0
cut-entry shelf n m r j i a b l = every-at 4 j n (take r shelf) i a ∙ get_or-take r shelf (4 * i + j) 0 l ∙ inv (every-at 4 j m shelf i b)

module _ {book shelf : List ℕ} {P : Book} (b : BookOn book shelf P) (k : ℕ) (l : k < length P) where
  pub first-clauses : length (take (suc k) P) ≡ suc k
  first-clauses = length-take-le (suc k) P l

  pub cut_shelf : BookOn book (take (4 * k + 264) shelf) (take (suc k) P)
  cut_shelf = record {
    long = length-take-le (4 * k + 264) shelf (omega (arith, b.long)) ∙ omega (arith, first-clauses);
    held = record {
      count = refl;
      few = omega (arith, first-clauses, b.held.few);
      starts_length = omega (arith, every-length 4 256 (suc n) cut);
      heads_length = omega (arith, every-length 4 257 n cut);
      bodies_length = omega (arith, every-length 4 258 n cut);
      placed = λ i h. placed i h;
    };
    linked = cut-lists (omega (arith, first-clauses))
        (λ x h. ap (λ y. get_or book y 0 % 256) (cut-entry shelf (suc n) (suc (length P)) (4 * k + 264) 256 x (omega arith) (omega (arith, first-clauses)) (omega (arith, first-clauses))))
        (λ h b. get_or-take (4 * k + 264) shelf h 0 (omega arith))
        (λ x h. cut-entry shelf n (length P) (4 * k + 264) 259 x h (omega (arith, first-clauses)) (omega (arith, first-clauses))) b.linked;
  }
    where
      n : ℕ
      n = length (take (suc k) P)

      cut : List ℕ
      cut = take (4 * k + 264) shelf

      placed : (i : ℕ) → i < n → Placed book (get_or (starts n cut) i 0) (get_or (heads n cut) i 0) (get_or (starts n cut) (suc i) 0) (get_or (bodies n cut) i 0) (clause_at (take (suc k) P) i)
      placed i h =
          let u : i < suc k = omega (arith, first-clauses) in
          rw (
            cut-entry shelf (suc n) (suc (length P)) (4 * k + 264) 256 i (omega arith) (omega arith) (omega arith),
            cut-entry shelf n (length P) (4 * k + 264) 257 i h (omega arith) (omega arith),
            cut-entry shelf (suc n) (suc (length P)) (4 * k + 264) 256 (suc i) (omega arith) (omega arith) (omega arith),
            cut-entry shelf n (length P) (4 * k + 264) 258 i h (omega arith) (omega arith),
            clause-take (suc k) P i u,
          ) (b.held.placed i (omega arith))

-- from k on there is that clause alone
only_one : (P : Book) (k : ℕ) → k < length P → drop k (take (suc k) P) ≡ clause_at P k ∷ []
only_one [] k l = absurd (omega arith)
only_one (c ∷ P) zero l = refl
only_one (c ∷ P) (suc k) l = only_one P k (omega arith)

-- where there is no answer, none is too big
no-answer-small : (b : Goal) → length b ≡ 0 → small b ≡ false → ⊥
unfolding small
no-answer-small [] e f = true≢false f
no-answer-small (x ∷ b) e f = absurd (omega arith)

-- that clause is tried, on the shelf that is cut
module _ {book shelf : List ℕ} {P : Book} (b : BookOn book shelf P) (k : ℕ) (l : k < length P) {formulas : ℕ} {goal : List ℕ} (f : Expr) (g : Goal) (p : GoalIn goal formulas (f ∷ g)) (i : ℕ)
    (picked : Picked f (take (suc k) P) k i) where
  alone-clauses : Clauses (clause_at P k ∷ [])
  alone-clauses = subst Clauses (only_one P k l) (clauses-drop k (take (suc k) P) (clauses-of (cut_shelf b k l).held))

  pub alone-stuck : k < i → next (clause_at P k ∷ []) (f ∷ g) ≡ stuck
  alone-stuck h =
      (stuck_iff (clause_at P k ∷ []) alone-clauses f g p.formulas.0).1 (subst (NoneMeets f) (only_one P k l) (picked.none (omega (arith, h, first-clauses b k l))))

  module _ (h : i ≤ k) where
    pub cut-within : i < length (take (suc k) P)
    cut-within = omega (arith, h, first-clauses b k l)

    alone-to : (r : Goal) → Resolved f g (clause_at (take (suc k) P) i) r → next (clause_at P k ∷ []) (f ∷ g) ≡ to (i - k) r
    alone-to r x =
        (next_iff (clause_at P k ∷ []) alone-clauses (f ∷ g) p.formulas (i - k) r).0
        (clause_at (take (suc k) P) i, subst (λ Q. First f Q (i - k) (clause_at (take (suc k) P) i)) (only_one P k l) (picked.found cut-within), x)

    pub alone : (out : List ℕ) (r : Move) → Follows (take (suc k) P) i f g [] out r → Alone P k (f ∷ g) out r
    alone out (Stuck j a) x = absurd x
    alone out Unknown x = absurd x
    alone out Full x = (i - k, x.0, alone-to x.0 x.1, x.2)
    alone out Over (r, b, o, fit, big) = absurd (no-answer-small b o.as_many big)
    alone out (To j r s n) (e, (h, b, o, fit, little, held, within)) = (i - k, h, alone-to h o.goal, fit, subst (λ w. GoalIn w n h) (take-take r (r + s) out (omega arith)) held.goal, omega arith)
