-- One more variable is bound: what the heap means then, and when it would mean nothing.
use Rattle.std.specs.Prelude.{ℕ, suc, ◌%◌, ◌<◌, ◌≡◌, refl, ◌↔◌, List, [], ◌∷◌, length, get_or, set}
use Rattle.std.proofs.Common.{arith, sym as inv, ap, ◌∙◌, subst, inl, inr, append-nil, length-set, get_or-set_same, get_or-set_other}
use Rattle.std.proofs.Math.Decide.{ℕ_discrete}
use Rattle.terms.specs.Node.{var, sym, Expr}
use Rattle.terms.specs.Row.{Row, row_var, row_sym, row_end}
use Rattle.terms.specs.Subst.{In, Subst, apply, after, itself, only}
use Rattle.terms.specs.SubstLaws.{in-length, apply-on, apply-after, apply-row, only-cases, only_same, only-proper, only_fixed}
use Rattle.words.specs.Word.{kind_of, Fits}
use Rattle.heap.specs.Heap.{rows, Whole, bound, Made, Solves, Solved}
use Rattle.heap.proofs.SolvedLaws.{solved-general}

-- The variable v, which is not bound, on the row at p.
module _ (heap cells : List ℕ) (v p : ℕ) (free : bound cells v ≡ 0) (inside : v < length cells) where
  abbrev more : List ℕ
  more = set cells v (suc p)

  bound-new : bound more v ≡ suc p
  bound-new = get_or-set_same cells v (suc p) 0 inside

  bound-old : (u : ℕ) → (u ≡ v → ⊥) → bound more u ≡ bound cells u
  bound-old u n = get_or-set_other cells v u (suc p) 0 n

  pub bind-made : Made heap cells → Whole heap 1 p → (kind_of (get_or heap p 0) ≡ 1 → get_or heap p 0 % 65536 < v) → Made heap more
  bind-made made whole low = record {
    fits = subst (λ n. Fits n heap) (inv (length-set cells v (suc p))) made.fits;
    short = made.short;
    whole = λ u q e. elim (ℕ_discrete u v) [ yes z ↦ subst (Whole heap 1) (same u q e z) whole | no n ↦ made.whole u q (inv (bound-old u n) ∙ e) ];
    lower = λ u q e k. elim (ℕ_discrete u v) [
      | yes z ↦ let o = same u q e z in omega (arith, low (ap (λ x. kind_of (get_or heap x 0)) o ∙ k), ap (λ x. get_or heap x 0 % 65536) o, z)
      | no n ↦ made.lower u q (inv (bound-old u n) ∙ e) k
    ];
  }
    where
      same : (u q : ℕ) → bound more u ≡ suc q → u ≡ v → p ≡ q
      same u q e z = omega (arith, bound-new, ap (bound more) z, e)

  -- just those solve it that solved it before and make the two equal
  pub bind_iff : (τ : Subst) → (Solves heap cells τ × (τ v ≡ apply τ (rows heap 1 p))) ↔ Solves heap more τ
  bind_iff τ = (
    λ x. record {
      proper = x.0.proper;
      stands = λ u q e. elim (ℕ_discrete u v) [
        | yes z ↦ let o : p ≡ q = omega (arith, bound-new, ap (bound more) z, e) in ap τ z ∙ x.1 ∙ ap (λ y. apply τ (rows heap 1 y)) o
        | no n ↦ x.0.stands u q (inv (bound-old u n) ∙ e)
      ];
    },
    λ y. (
      record {
        proper = y.proper;
        stands = λ u q e. elim (ℕ_discrete u v) [
          | yes z ↦ absurd (omega (arith, free, ap (bound cells) z, e))
          | no n ↦ y.stands u q (bound-old u n ∙ e)
        ];
      },
      y.stands v p bound-new,
    ),
  )

  module _ (made : Made heap cells) {θ : Subst} (s : Solved heap cells θ) (whole : Whole heap 1 p) where
    abbrev term : Expr
    term = apply θ (rows heap 1 p)

    pub bind-solved : ¬ In v term → Solved heap more (after (only v term) θ)
    bind-solved away = record {
      solves = (bind_iff (after (only v term) θ)).0 (
        record {
          proper = λ u. apply-row (only v term) (only-proper v term row) (s.solves.proper u);
          stands = λ u q e. ap (apply (only v term)) (s.solves.stands u q e) ∙ apply-after (only v term) θ (rows heap 1 q);
        },
        ap (apply (only v term)) (s.free v free) ∙ append-nil (only v term v) ∙ only_same v term ∙ inv (only_fixed v term away) ∙ apply-after (only v term) θ (rows heap 1 p),
      );
      free = λ u e. elim (ℕ_discrete v u) [
        | yes z ↦ absurd (omega (arith, bound-new, ap (bound more) z, e))
        | no n ↦ ap (apply (only v term)) (s.free u (inv (bound-old u (λ z. n (inv z))) ∙ e)) ∙ append-nil (only v term u) ∙ only-cases v term (λ x. x ≡ itself u) u (λ z. absurd (n z)) (λ m. refl)
      ];
    }
      where
        row : Row 1 term
        row = apply-row θ s.solves.proper whole

    -- a term that has v in it and is not v alone can't be made equal to v
    pub bind-none : In v term → ¬ (term ≡ itself v) → (τ : Subst) → Solves heap cells τ → ¬ (τ v ≡ apply τ (rows heap 1 p))
    bind-none i n τ t e =
        longer term (apply-row θ s.solves.proper whole) i n (e ∙ apply-on τ (after τ θ) (rows heap 1 p) (λ u j. solved-general made s τ t u) ∙ inv (apply-after τ θ (rows heap 1 p)))
      where
        row-none : {e : Expr} → Row 0 e → length e ≡ 0
        row-none row_end = refl

        longer : (e : Expr) → Row 1 e → In v e → ¬ (e ≡ itself v) → ¬ (τ v ≡ apply τ e)
        longer (var w ∷ []) r (inl z) n same = n (ap itself (inv z))
        longer (var w ∷ []) r (inr j) n same = absurd j
        longer (var w ∷ x ∷ e) (row_var r) i n same = absurd (omega (arith, row-none r))
        longer (sym c ∷ e) (row_sym r) i n same = omega (arith, in-length τ v e i, ap length same)
        longer [] r i n same = elim r [ ]
