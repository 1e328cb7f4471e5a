-- One word counted, and its count taken.
use Rattle.std.specs.Prelude.{ℕ, suc, ◌+◌, ◌-◌, ◌%◌, ◌<◌, ◌≤◌, ◌≡◌, refl, List, [], ◌∷◌, ◌++◌, length, get_or, set}
use Rattle.std.proofs.Common.{arith, sym as inv, ap, ◌∙◌, subst, get_or-set_same, get_or-set_other}
use Rattle.std.proofs.Math.Decide.{ℕ_discrete}
use Rattle.std.proofs.lemmas.List.{map-append}
use Rattle.terms.specs.Node.{Expr}
use Rattle.words.specs.Word.{kind_of, Plain, Fit, Fits, node, nodes}
use Rattle.words.specs.WordLaws.{node-var, node-sym, each_append, each_make, fits_more}
use Rattle.bounds.specs.Places.{weigh, times}
use Rattle.bounds.specs.Thrift.{away}
use Rattle.bounds.specs.Tally.{Tally, NotedOn, Took}
use Rattle.bounds.specs.WeighLaws.{weigh-append}
use Rattle.bounds.specs.ThriftLaws.{mark, mark-same, mark-other, away-in, away-out}
use Rattle.bounds.specs.declared.clauses.Noted.{Noted}
use Rattle.bounds.specs.declared.clauses.Taken.{Taken}

-- One word more weighs as its node does.
module _ (q : ℕ → ℕ) where
  weigh-on : (b : Expr) (w : List ℕ) (u : ℕ) → weigh q (b ++ nodes (w ++ (u ∷ []))) ≡ weigh q (b ++ nodes w) + weigh q (node u ∷ [])
  weigh-on b w u =
      omega (arith, weigh-append q b (nodes (w ++ (u ∷ []))), ap (weigh q) (map-append node w (u ∷ [])), weigh-append q (nodes w) (node u ∷ []), weigh-append q b (nodes w))

  weigh-symbol : (u : ℕ) → Plain u → weigh q (node u ∷ []) ≡ 0
  weigh-symbol u plain = let (s, e) = node-sym u plain in ap (λ n. weigh q (n ∷ [])) e

  weigh-variable : (u : ℕ) → kind_of u ≡ 1 → {x : ℕ} → x ≡ u % 65536 → weigh q (node u ∷ []) ≡ q x
  weigh-variable u k e = omega (arith, ap (λ n. weigh q (n ∷ [])) (node-var u k), ap q e)

names-on : (k : ℕ) (w : List ℕ) (u : ℕ) → Fits k w → Fit k u → Fits k (w ++ (u ∷ []))
names-on k w u f g = each_append (Fit k) w (u ∷ []) f (each_make (Fit k) u [] g (λ y h. absurd (omega arith)))

-- the same counts for as many of each variable
tally-like : {a b a' b' : Expr} {counts : List ℕ} → Tally a b counts → ((x : ℕ) → times x a' ≡ times x a) → ((x : ℕ) → times x b' ≡ times x b) → Tally a' b' counts
tally-like t p q = record {
  none = λ x z. t.none x (inv (p x) ∙ z);
  some = λ x n. t.some x (λ z. n (p x ∙ z));
  left = λ x n. omega (arith, t.left x (λ z. n (p x ∙ z)), p x, q x);
}

-- The word u, which fits.
module _ {u : ℕ} (fit : Fit 64 u) where
  -- a symbol changes nothing
  module _ (high : 33554432 ≤ u) where
    plain : Plain u
    plain k = omega (arith, k, high)

    bare : (k : ℕ) → Fit k u
    bare k = record { valid = fit.valid; below = λ z. absurd (plain z) }

    nothing : (q : ℕ → ℕ) (b : Expr) (w : List ℕ) → weigh q (b ++ nodes (w ++ (u ∷ []))) ≡ weigh q (b ++ nodes w)
    nothing q b w = omega (arith, weigh-on q b w u, weigh-symbol q u plain)

    pub note_symbol : {counts : List ℕ} {n : Noted} → NotedOn u counts n counts n
    note_symbol {n = n} w x = record {
      tally = tally-like x.tally (λ y. nothing (λ v. mark y v) [] w) (λ y. refl);
      places = x.places ∙ inv (nothing (λ v. 1) [] w);
      names = names-on n.names w u x.names (bare n.names);
      few = x.few;
    }

    pub take-symbol : {counts : List ℕ} {t : Taken} → Took (u ∷ []) counts t counts t
    take-symbol {t = t} = record {
      more = omega arith;
      taken = λ a b w x. record {
        tally = tally-like x.tally (λ y. refl) (λ y. nothing (λ v. mark y v) b w);
        fresh = x.fresh ∙ inv (nothing (away a (λ v. 1)) [] w);
        matched = x.matched ∙ inv (nothing (λ v. 1) [] w);
        names = names-on t.names w u x.names (bare t.names);
        few = x.few;
      };
    }

  -- the variable x
  module _ (low : u < 33554432) {x : ℕ} (is : x ≡ u % 65536) where
    kind : kind_of u ≡ 1
    kind = omega (arith, low, fit.valid.low)

    pub named-below : x < 64
    named-below = omega (arith, fit.below kind, is)

    variable-fit : {k : ℕ} → x < k → Fit k u
    variable-fit l = record { valid = fit.valid; below = λ z. omega (arith, l, is) }

    more-at : (q : ℕ → ℕ) (b : Expr) (w : List ℕ) → weigh q (b ++ nodes (w ++ (u ∷ []))) ≡ weigh q (b ++ nodes w) + q x
    more-at q b w = omega (arith, weigh-on q b w u, weigh-variable q u kind is)

    at_x : (b : Expr) (w : List ℕ) → times x (b ++ nodes (w ++ (u ∷ []))) ≡ times x (b ++ nodes w) + 1
    at_x b w = omega (arith, more-at (λ v. mark x v) b w, mark-same x x refl)

    at_other : (y : ℕ) → (y ≡ x → ⊥) → (b : Expr) (w : List ℕ) → times y (b ++ nodes (w ++ (u ∷ []))) ≡ times y (b ++ nodes w)
    at_other y n b w = omega (arith, more-at (λ v. mark y v) b w, mark-other y x n)

    -- a number that was above the names, or is above x
    module _ {k m : ℕ} (larger : (k ≤ m) × (x + 1 ≤ m) × ((j : ℕ) → k ≤ j → x + 1 ≤ j → m ≤ j)) where
      names-grow : (w : List ℕ) → Fits k w → Fits m (w ++ (u ∷ []))
      names-grow w f = names-on m w u (fits_more k m w larger.0 f) (variable-fit (omega (arith, larger.1)))

      names-few : k ≤ 64 → m ≤ 64
      names-few l = larger.2 64 l (omega (arith, named-below))

    module _ (counts : List ℕ) (long : length counts ≡ 64) where
      inside : x < length counts
      inside = omega (arith, long, named-below)

      -- what is set there
      set_at : (z : ℕ) → get_or (set counts x z) x 0 ≡ z
      set_at z = get_or-set_same counts x z 0 inside

      set-off : (z y : ℕ) → (y ≡ x → ⊥) → get_or (set counts x z) y 0 ≡ get_or counts y 0
      set-off z y n = get_or-set_other counts x y z 0 n

      -- it is once more in the head
      module _ (w : List ℕ) (t : Tally (nodes w) [] counts) {c z : ℕ} (larger : (get_or counts x 0 ≤ c) × (1 ≤ c) × ((j : ℕ) → get_or counts x 0 ≤ j → 1 ≤ j → c ≤ j)) (ez : z ≡ c + 1) where
        count_is : c ≡ suc (times x (nodes w))
        count_is = elim (ℕ_discrete (times x (nodes w)) 0) [
          | yes e ↦ omega (arith, larger.2 1 (omega (arith, t.none x e)) (omega arith), larger.1, e)
          | no n ↦ omega (arith, larger.2 (get_or counts x 0) (omega arith) (t.some x n), larger.0, t.left x n)
        ]

        tally_note : Tally (nodes (w ++ (u ∷ []))) [] (set counts x z)
        tally_note = record {
          none = λ y e. elim (ℕ_discrete y x) [
            | yes p ↦ absurd (omega (arith, e, at_x [] w, ap (λ v. times v (nodes (w ++ (u ∷ [])))) p))
            | no n ↦ set-off z y n ∙ t.none y (inv (at_other y n [] w) ∙ e)
          ];
          some = λ y m. elim (ℕ_discrete y x) [
            | yes p ↦ omega (arith, set_at z, ez, ap (λ v. get_or (set counts x z) v 0) p)
            | no n ↦ omega (arith, set-off z y n, t.some y (λ e. m (at_other y n [] w ∙ e)))
          ];
          left = λ y m. elim (ℕ_discrete y x) [
            | yes p ↦ omega (arith, set_at z, ez, ap (λ v. get_or (set counts x z) v 0) p, count_is, at_x [] w, ap (λ v. times v (nodes (w ++ (u ∷ [])))) p)
            | no n ↦ omega (arith, set-off z y n, t.left y (λ e. m (at_other y n [] w ∙ e)), at_other y n [] w)
          ];
        }

      -- it is not in the head
      module _ (a b : Expr) (w : List ℕ) (t : Tally a (b ++ nodes w) counts) where
        absent : get_or counts x 0 ≡ 0 → times x a ≡ 0
        absent e = elim (ℕ_discrete (times x a) 0) [ yes z ↦ z | no n ↦ absurd (omega (arith, t.some x n, e)) ]

        tally-fresh : get_or counts x 0 ≡ 0 → Tally a (b ++ nodes (w ++ (u ∷ []))) counts
        tally-fresh e = record {
          none = t.none;
          some = t.some;
          left = λ y m. elim (ℕ_discrete y x) [
            | yes p ↦ absurd (m (ap (λ v. times v a) p ∙ absent e))
            | no n ↦ omega (arith, t.left y m, at_other y n b w)
          ];
        }

        present : (get_or counts x 0 ≡ 0 → ⊥) → times x a ≡ 0 → ⊥
        present n z = n (t.none x z)

        -- it takes one of its counts
        tally-take : (get_or counts x 0 ≡ 0 → ⊥) → (get_or counts x 0 ≡ 1 → ⊥) → {z : ℕ} → z ≡ get_or counts x 0 - 1 → Tally a (b ++ nodes (w ++ (u ∷ []))) (set counts x z)
        tally-take n₀ n₁ {z} ez = record {
          none = λ y e. elim (ℕ_discrete y x) [
            | yes p ↦ absurd (present n₀ (ap (λ v. times v a) (inv p) ∙ e))
            | no n ↦ set-off z y n ∙ t.none y e
          ];
          some = λ y m. elim (ℕ_discrete y x) [
            | yes p ↦ omega (arith, set_at z, ez, n₀, n₁, ap (λ v. get_or (set counts x z) v 0) p)
            | no n ↦ omega (arith, set-off z y n, t.some y m)
          ];
          left = λ y m. elim (ℕ_discrete y x) [
            | yes p ↦
                omega (arith, set_at z, ez, n₀, ap (λ v. get_or (set counts x z) v 0) p, t.left x (present n₀), at_x b w, ap (λ v. times v (b ++ nodes (w ++ (u ∷ [])))) p, ap (λ v. times v a) p)
            | no n ↦ omega (arith, set-off z y n, t.left y m, at_other y n b w)
          ];
        }

      -- The word's turn: in the head; in the body.
      pub note_variable : {g c z k : ℕ} {n : Noted} → g ≡ get_or counts x 0 → (g ≤ c) × (1 ≤ c) × ((j : ℕ) → g ≤ j → 1 ≤ j → c ≤ j) → z ≡ c + 1
          → (n.names ≤ k) × (x + 1 ≤ k) × ((j : ℕ) → n.names ≤ j → x + 1 ≤ j → k ≤ j) → NotedOn u counts n (set counts x z) (record { places = n.places + 1; names = k })
      note_variable {c = c} eg larger ez k w y = record {
        tally = tally_note w y.tally (subst (λ g. (g ≤ c) × (1 ≤ c) × ((j : ℕ) → g ≤ j → 1 ≤ j → c ≤ j)) eg larger) ez;
        places = omega (arith, y.places, more-at (λ v. 1) [] w);
        names = names-grow k w y.names;
        few = names-few k y.few;
      }

      module _ {k : ℕ} {t : Taken} (names : (t.names ≤ k) × (x + 1 ≤ k) × ((j : ℕ) → t.names ≤ j → x + 1 ≤ j → k ≤ j)) where
        pub take-fresh : {g : ℕ} → g ≡ get_or counts x 0 → g ≡ 0 → Took (u ∷ []) counts t counts (record { matched = t.matched; fresh = t.fresh + 1; names = k })
        take-fresh eg ez = record {
          more = omega arith;
          taken = λ a b w y. record {
            tally = tally-fresh a b w y.tally (inv eg ∙ ez);
            fresh = omega (arith, y.fresh, more-at (away a (λ v. 1)) [] w, away-out a b (λ v. 1) x (absent a b w y.tally (inv eg ∙ ez)));
            matched = omega (arith, y.matched, more-at (λ v. 1) [] w);
            names = names-grow names w y.names;
            few = names-few names y.few;
          };
        }

        pub take-matched : {g : ℕ} → g ≡ get_or counts x 0 → (g ≡ 0 → ⊥) → (g ≡ 1 → ⊥) → {z : ℕ} → z ≡ g - 1
            → Took (u ∷ []) counts t (set counts x z) (record { matched = t.matched + 1; fresh = t.fresh; names = k })
        take-matched eg n₀ n₁ ez = record {
          more = omega arith;
          taken = λ a b w y. record {
            tally = tally-take a b w y.tally (λ z. n₀ (eg ∙ z)) (λ z. n₁ (eg ∙ z)) (omega (arith, eg, ez));
            fresh = omega (arith, y.fresh, more-at (away a (λ v. 1)) [] w, away-in a b (λ v. 1) x (present a b w y.tally (λ z. n₀ (eg ∙ z))));
            matched = omega (arith, y.matched, more-at (λ v. 1) [] w);
            names = names-grow names w y.names;
            few = names-few names y.few;
          };
        }
