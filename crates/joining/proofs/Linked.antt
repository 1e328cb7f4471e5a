-- What a link does to the state, by what the two classes have.
use Prim.Native.Nat.{ℕ, ◌+◌, ◌<◌}
use native.Mathlib.Omega.{arith}
use native.Mathlib.Decide.{ℕ_discrete}
use mathlib.Core.Path.{◌≡◌, refl, sym, ap, ◌∙◌}
use mathlib.Core.List.{List}
use lib.ListN.{length, get_or, set, length-set}
use lib.Seq.{get_or-set_same, get_or-set_other}
use Rattle.words.specs.Word.{kind_of, arity_of, Plain}
use Rattle.positions.specs.Classes.{root, Down, picked, Picked, Grouped, Label}
use Rattle.positions.specs.Steps.{roots, state, Ready, Args, Step, Fails}
use Rattle.positions.specs.RootLaws.{root_self}
use Rattle.positions.proofs.Links.{roots-set, down-set, moved, kept, agree-set, agree-meets, agree_keeps}

module _ (w up pick left right : List ℕ) (tail a b : ℕ) (ready : Ready w (state up pick left right tail)) (less : a < b) (inn : b < length w) (ra : get_or up a 0 ≡ a) (rb : get_or up b 0 ≡ b) where
  abbrev inu : b < length up
  inu = omega (arith, ready.grouped.up_length)

  dn : Down up
  dn = ready.grouped.down

  root_a : root up a ≡ a
  root_a = root_self up dn a ra

  root_b : root up b ≡ b
  root_b = root_self up dn b rb

  pub in_a : get_or pick a 0 < length w
  in_a = rw root_a at (ready.grouped.picks a (omega arith)).within

  pub in_b : get_or pick b 0 < length w
  in_b = rw root_b at (ready.grouped.picks b inn).within

  pick_a : root up (get_or pick a 0) ≡ a
  pick_a = rw root_a at (ready.grouped.picks a (omega arith)).same

  pick_b : root up (get_or pick b 0) ≡ b
  pick_b = rw root_b at (ready.grouped.picks b inn).same

  pub fewer : roots (set up b a) + 1 ≡ roots up
  fewer = roots-set up b a inu rb (λ e. omega arith)

  pub room : tail < length w
  room = omega (arith, fewer, ready.count)

  -- a position of the class of b, and of another
  mv : (x : ℕ) → root up x ≡ b → root (set up b a) x ≡ a
  mv = moved up dn a b less inu ra rb

  kp : (x : ℕ) → (root up x ≡ b → ⊥) → root (set up b a) x ≡ root up x
  kp = kept up dn a b less inu ra rb

  -- the word of a position of either class
  word_for : (r x : ℕ) → x < length w → root up x ≡ r → Plain (get_or w x 0) → get_or w x 0 ≡ get_or w (get_or pick r 0) 0
  word_for r x h e p = rw e at ((ready.grouped.picks x h).word p)

  -- no position of a class of variables alone is plain
  variables : (r x : ℕ) → x < length w → root up x ≡ r → (Plain (get_or w (get_or pick r 0) 0) → ⊥) → Plain (get_or w x 0) → ⊥
  variables r x h e v p = v (λ z. p (ap kind_of (word_for r x h e p) ∙ z))

  -- what holds of a position whose class is not b's and keeps its pick
  other : (pick' : List ℕ) (x : ℕ) → x < length w → (root up x ≡ b → ⊥) → get_or pick' (root up x) 0 ≡ get_or pick (root up x) 0 → Picked w (set up b a) pick' x
  other pick' x h n e =
      let g = ready.grouped.picks x h in
      let y : picked (set up b a) pick' x ≡ get_or pick (root up x) 0 = rw (kp x n) e in
      record {
        within = rw y g.within;
        same = rw (y, kp x n) (kp (get_or pick (root up x) 0) (λ z. n (sym g.same ∙ z)) ∙ g.same);
        word = λ p. rw y (g.word p);
      }

  regrouped : (pick' : List ℕ) → length pick' ≡ length w → ((x : ℕ) → x < length w → Picked w (set up b a) pick' x) → Grouped w (set up b a) pick'
  regrouped pick' l h = record {
    small = ready.grouped.small;
    up_length = length-set up b a ∙ ready.grouped.up_length;
    pick_length = l;
    down = down-set up dn a b less inu ra rb;
    picks = h;
  }

  -- the classes change, and no pair comes to wait
  changed : (pick' : List ℕ) → Grouped w (set up b a) pick'
      → ((x : ℕ) → x < length w → Plain (get_or w x 0) → (e : List ℕ) (f : Label) → Args f e (arity_of (get_or w x 0)) (picked up pick x) (picked (set up b a) pick' x))
      → Step w (state up pick left right tail) (λ f. f a ≡ f b) (state (set up b a) pick' left right tail)
  changed pick' grouped args = record {
    ready = record { grouped = grouped; left_length = ready.left_length; right_length = ready.right_length; count = omega (arith, fewer, ready.count); pairs = ready.pairs };
    grows = omega arith;
    left_kept = λ j h. refl;
    right_kept = λ j h. refl;
    sound = λ f g e. agree-set up dn a b less inu ra rb f g e;
    pair_sound = λ f g e j h i. absurd (omega arith);
    keeps = λ f g. agree_keeps up dn a b less inu ra rb f g;
    meets = λ f g. agree-meets up dn a b less inu ra rb f g;
    args = λ x h p e f g q. args x h p e f;
  }

  -- the class of b has variables alone
  pub bare-b : (Plain (get_or w (get_or pick b 0) 0) → ⊥) → Step w (state up pick left right tail) (λ f. f a ≡ f b) (state (set up b a) pick left right tail)
  bare-b v =
      changed pick
      (regrouped pick ready.grouped.pick_length (λ x h. elim (ℕ_discrete (root up x) b) [
        | yes e ↦ record {
          within = rw (mv x e) in_a;
          same = rw (mv x e) (kp (get_or pick a 0) (λ z. omega (arith, pick_a, z)) ∙ pick_a);
          word = λ p. absurd (variables b x h e v p);
        }
        | no n ↦ other pick x h n refl
      ]))
      (λ x h p e f. elim (ℕ_discrete (root up x) b) [ yes y ↦ absurd (variables b x h y v p) | no n ↦ λ i l. rw (kp x n) refl ])

  -- the class of a has variables alone, and that of b has not
  pub bare-a : (Plain (get_or w (get_or pick a 0) 0) → ⊥) → Step w (state up pick left right tail) (λ f. f a ≡ f b) (state (set up b a) (set pick a (get_or pick b 0)) left right tail)
  bare-a v =
      let hit : get_or (set pick a (get_or pick b 0)) a 0 ≡ get_or pick b 0 = get_or-set_same pick a (get_or pick b 0) 0 (omega (arith, ready.grouped.pick_length)) in
      changed (set pick a (get_or pick b 0))
      (regrouped (set pick a (get_or pick b 0)) (length-set pick a (get_or pick b 0) ∙ ready.grouped.pick_length) (λ x h. elim (ℕ_discrete (root up x) b) [
        | yes e ↦ record {
          within = rw (mv x e, hit) in_b;
          same = rw (mv x e, hit) (mv (get_or pick b 0) pick_b);
          word = λ p. rw (mv x e, hit) (word_for b x h e p);
        }
        | no n ↦ elim (ℕ_discrete (root up x) a) [
          | yes e ↦ record {
            within = rw (kp x n, e, hit) in_b;
            same = rw (kp x n, e, hit) (mv (get_or pick b 0) pick_b);
            word = λ p. absurd (variables a x h e v p);
          }
          | no m ↦ other (set pick a (get_or pick b 0)) x h n (get_or-set_other pick a (root up x) (get_or pick b 0) 0 m)
        ]
      ]))
      (λ x h p e f. elim (ℕ_discrete (root up x) b) [
        | yes y ↦ λ i l. rw (mv x y, hit, y) refl
        | no n ↦ elim (ℕ_discrete (root up x) a) [
          | yes y ↦ absurd (variables a x h y v p)
          | no m ↦ λ i l. rw (kp x n, get_or-set_other pick a (root up x) (get_or pick b 0) 0 m) refl
        ]
      ])

  -- both have others, of the same word
  pub both : Plain (get_or w (get_or pick a 0) 0) → get_or w (get_or pick a 0) 0 ≡ get_or w (get_or pick b 0) 0
      → Step w (state up pick left right tail) (λ f. f a ≡ f b) (state (set up b a) pick (set left tail (get_or pick a 0)) (set right tail (get_or pick b 0)) (tail + 1))
  both v eq =
      let hitL : get_or (set left tail (get_or pick a 0)) tail 0 ≡ get_or pick a 0 = get_or-set_same left tail (get_or pick a 0) 0 (omega (arith, ready.left_length, room)) in
      let hitR : get_or (set right tail (get_or pick b 0)) tail 0 ≡ get_or pick b 0 = get_or-set_same right tail (get_or pick b 0) 0 (omega (arith, ready.right_length, room)) in
      let missL : (j : ℕ) → j < tail → get_or (set left tail (get_or pick a 0)) j 0 ≡ get_or left j 0 = λ j h. get_or-set_other left tail j (get_or pick a 0) 0 (λ z. omega (arith, h, z)) in
      let missR : (j : ℕ) → j < tail → get_or (set right tail (get_or pick b 0)) j 0 ≡ get_or right j 0 = λ j h. get_or-set_other right tail j (get_or pick b 0) 0 (λ z. omega (arith, h, z)) in
      record {
        ready = record {
          grouped = regrouped pick ready.grouped.pick_length (λ x h. elim (ℕ_discrete (root up x) b) [
            | yes e ↦ record {
              within = rw (mv x e) in_a;
              same = rw (mv x e) (kp (get_or pick a 0) (λ z. omega (arith, pick_a, z)) ∙ pick_a);
              word = λ p. rw (mv x e) (word_for b x h e p ∙ sym eq);
            }
            | no n ↦ other pick x h n refl
          ]);
          left_length = length-set left tail (get_or pick a 0) ∙ ready.left_length;
          right_length = length-set right tail (get_or pick b 0) ∙ ready.right_length;
          count = omega (arith, fewer, ready.count);
          pairs = λ j h. elim (ℕ_discrete j tail) [
            | yes e ↦ record { left_fits = rw (e, hitL) in_a; right_in = rw (e, hitR) in_b; plain = rw (e, hitL) v; word = rw (e, hitL, hitR) eq }
            | no n ↦ let l : j < tail = omega arith in let g = ready.pairs j l in
                record { left_fits = rw (missL j l) g.left_fits; right_in = rw (missR j l) g.right_in; plain = rw (missL j l) g.plain; word = rw (missL j l, missR j l) g.word }
          ];
        };
        grows = omega arith;
        left_kept = missL;
        right_kept = missR;
        sound = λ f g e. agree-set up dn a b less inu ra rb f g e;
        pair_sound = λ f g e j h i. let y : j ≡ tail = omega arith in rw (y, hitL, hitR)
            (g (get_or pick a 0) (omega (arith, in_a, ready.grouped.up_length)) ∙ ap f pick_a ∙ e ∙ ap f (sym pick_b) ∙ sym (g (get_or pick b 0) (omega (arith, in_b, ready.grouped.up_length))));
        keeps = λ f g. agree_keeps up dn a b less inu ra rb f g;
        meets = λ f g. agree-meets up dn a b less inu ra rb f g;
        args = λ x h p e f g q. elim (ℕ_discrete (root up x) b) [
          | yes y ↦ λ i l.
              let k : Args f e (arity_of (get_or w (get_or pick a 0) 0)) (get_or pick a 0) (get_or pick b 0) = rw (hitL, hitR) at (q tail (omega arith) (omega arith)) in
              rw (mv x y, y) (sym (k i (omega (arith, l, ap arity_of (word_for b x h y p ∙ sym eq)))))
          | no n ↦ λ i l. rw (kp x n) refl
        ];
      }

  pub differ : Plain (get_or w (get_or pick a 0) 0) → Plain (get_or w (get_or pick b 0) 0) → (get_or w (get_or pick a 0) 0 ≡ get_or w (get_or pick b 0) 0 → ⊥) → Fails w (state up pick left right tail) (λ f. f a ≡ f b)
  differ va vb n f ap' g e =
      n (ap' (get_or pick a 0) (get_or pick b 0) in_a in_b va vb
      (g (get_or pick a 0) (omega (arith, in_a, ready.grouped.up_length)) ∙ ap f pick_a ∙ e ∙ ap f (sym pick_b) ∙ sym (g (get_or pick b 0) (omega (arith, in_b, ready.grouped.up_length)))))
