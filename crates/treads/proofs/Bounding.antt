-- How large the next goal and answer are at most.
use Prim.Native.Nat.{ℕ, ◌+◌, ◌*◌, ◌-◌, ◌<◌, ◌≤◌}
use native.Mathlib.Omega.{arith}
use mathlib.Core.Path.{◌≡◌, refl, sym as inv, ap, ap₂, ◌∙◌, subst}
use mathlib.Core.Logic.{◌⊎◌, inl, inr}
use mathlib.Core.List.{List, [], ◌∷◌, ◌++◌, map, map-append, append-nil, append_assoc}
use lib.ListN.{length, get_or, take, drop, length-map}
use lib.Seq.{take_at, drop_at}
use Rattle.terms.specs.Node.{Expr}
use Rattle.terms.specs.Subst.{InAny, Subst, apply, itself}
use Rattle.terms.specs.SubstLaws.{apply-on, map_same}
use Rattle.terms.specs.Rename.{rename}
use Rattle.terms.proofs.NumberLaws.{number-length}
use Rattle.search.specs.Next.{Clause, Goal}
use Rattle.search.specs.Room.{nodes}
use Rattle.words.specs.Word.{Fits, nodes as heap-nodes}
use Rattle.words.specs.WordLaws.{nodes-take, nodes-drop}
use Rattle.words.specs.Flat.{flat, flat-apply, flat-size}
use Rattle.words.specs.Held.{ClauseIn}
use Rattle.words.specs.HeldLaws.{head-length}
use Rattle.heap.specs.Heap.{rows, bound, Solved}
use Rattle.heap.proofs.SolvedLaws.{solved-one}
use Rattle.trials.specs.Trying.{trail}
use Rattle.bounds.specs.Places.{weigh, times, places, places_all, Seldom}
use Rattle.figures.specs.Figures.{first_of}
use Rattle.bounds.specs.Thrift.{fresh, Thrifty, Kept}
use Rattle.bounds.specs.Sizing.{Weighs}
use Rattle.bounds.specs.WeighLaws.{gain}
use Rattle.bounds.specs.GoalLaws.{nodes-append, places-flat, places-all-few, places-all-number, numbered-nodes, weigh-all-most}
use Rattle.bounds.specs.OftenLaws.{seldom-few, gain-few, often-under, number-seldom}
use Rattle.bounds.specs.RoomLaws.{room-leading, room-thrifty, places-thrifty, room-counted, places-counted, room-answer, often-thrifty}
use Rattle.bounds.specs.declared.Weight.{Weight}
use Rattle.heapgoals.specs.Holding.{answer_rows, used, Holds}
use Rattle.heapgoals.specs.ListLaws.{listed-flat}
use Rattle.heapgoals.specs.HoldLaws.{rest_rows, held_rows, held_first, first_meant, rest_meant, answer_meant, held_all, held_low, held-free}
use Rattle.heapgoals.specs.declared.Standing.{Standing}
use Rattle.attempts.specs.Trying.{laid, Fitted}
use Rattle.treads.specs.Stepping.{body_at, body_rows, next_rows, Bounded}
use Rattle.treads.specs.Adding.{head_long, ThriftyAdds, CountedAdds, Summed, Charged}
use Rattle.treads.specs.declared.sizing.Span.{Span}
use Rattle.treads.specs.declared.sizing.Added.{Added}
use Rattle.treads.specs.declared.sizing.Bounds.{Bounds}
use Rattle.attempts.proofs.Extending.{rename-length}
use Rattle.attempts.proofs.Laying.{whole-fits, unifier-meant, general}
use Rattle.treads.proofs.Nexts.{body_is, body-whole, found, σ, on-clause, goal_meant, next-meant, all-meant}
use Rattle.treads.proofs.Firsts.{first-map, first_flat, longer}

module _ {words before levels : List ℕ} {s : Standing} {f : Expr} {g a : Goal} (h : Holds words before levels s (f ∷ g) a) (clause : List ℕ) (c : Span) (d : Clause) (q : ClauseIn clause (c.head - c.start) c.bodies d) (room : s.base ≤ 8192) (short : s.top + length clause < 65536)
    (clause-long : length clause ≡ c.end - c.start) (ordered : (c.start < c.head) × (c.head ≤ c.end)) where
  abbrev heap : List ℕ
  heap = laid (used words s) s.base clause

  abbrev past : ℕ → ℕ
  past v = v + s.base

  abbrev body : Goal
  body = map (rename past) d.body

  abbrev F : Expr
  F = first_meant h

  abbrev G : Goal
  G = rest_meant h

  abbrev A : Goal
  A = answer_meant h

  -- the clause's words
  head-words : heap-nodes (take (head_long c) clause) ≡ d.head
  head-words = nodes-take (head_long c) clause ∙ ap (take (head_long c)) q.is ∙ take_at d.head (flat d.body) (head_long c) (inv q.head)

  body-words : heap-nodes (drop (head_long c) clause) ≡ flat d.body
  body-words = nodes-drop (head_long c) clause ∙ ap (drop (head_long c)) q.is ∙ drop_at d.head (flat d.body) (head_long c) (inv q.head)

  first-words : (n : ℕ) → n ≡ length (first_of d.body) → heap-nodes (take n (drop (head_long c) clause)) ≡ first_of d.body
  first-words n e = let (x, is) = first_flat d.body in nodes-take n (drop (head_long c) clause) ∙ ap (take n) (body-words ∙ is) ∙ take_at (first_of d.body) x n (inv e)

  pub first-long : length (first_of (body_rows heap s c)) ≡ length (first_of d.body)
  first-long = ap (λ l. length (first_of l)) (body_is h clause c d q room short) ∙ ap length (first-map (rename past) refl d.body) ∙ rename-length past (first_of d.body)

  -- goal and answer as they stand
  long-goal : length (f ∷ g) ≡ length (F ∷ G)
  long-goal = omega (arith, h.goal_many, ap length (held_rows h), length-map (rest_rows (used words s) levels s) (apply h.meaning))

  goal-sizes : (nodes (f ∷ g) ≡ nodes (F ∷ G)) × (nodes a ≡ nodes A)
  goal-sizes = numbered-nodes (f ∷ g) a (F ∷ G) A (inv (held_all h)) long-goal

  few-places : places_all (F ∷ (G ++ A)) ≤ s.variables
  few-places = omega (arith, places-all-number [] (F ∷ (G ++ A)), ap places_all (held_all h), h.variables)

  seldom-now : Seldom s.most (F ∷ (G ++ A))
  seldom-now = number-seldom (F ∷ (G ++ A)) (subst (Seldom s.most) (inv (held_all h)) h.often)

  first-size : length f ≡ length F
  first-size = ap length (inv (held_first h)) ∙ number-length [] F

  module _ {cells tables : List ℕ} {count : ℕ} (fitted : Fitted heap before s cells tables count) where
    abbrev z : (θ : Subst) × Solved heap cells θ
    z = found h clause c d q room short fitted

    abbrev τ : Subst
    τ = σ h clause c d q room short fitted

    -- a variable of goal and answer under the unifier
    at-free : (v : ℕ) → bound before v ≡ 0 → τ v ≡ z.0 v
    at-free v e =
        inv (append-nil (τ v)) ∙ ap (apply τ) (inv (h.solved.free v e) ∙ inv (append-nil (h.meaning v)))
        ∙ unifier-meant h clause (c.head - c.start) c.bodies d q room short fitted.more z.1 (itself v) ∙ append-nil (z.0 v)

    agree : (v : ℕ) → InAny v (F ∷ (G ++ A)) → τ v ≡ z.0 v
    agree v i = at-free v (held-free h v i)

    moved : (v : ℕ) → InAny v (F ∷ (G ++ A)) → (z.0 v ≡ itself v) ⊎ ((j : ℕ) × (j < count) × (get_or (trail tables) j 0 ≡ v))
    moved v i = elim (fitted.undoable.trailed.kept v (held_low h v i)) [ inl e ↦ inl (z.1.free v (e ∙ held-free h v i)) | inr (o, (j, l, under, e)) ↦ inr (j, under, e) ]

    module _ (grown : Weight) (y : Weighs heap cells s.base (trail tables) count grown) where
      least-of : (weight : Expr → ℕ) (most : ℕ) → ((v : ℕ) → weight (itself v) ≤ most) → ((i : ℕ) → i < count → weight (z.0 (get_or (trail tables) i 0)) ≤ most) → (v : ℕ) → InAny v (F ∷ (G ++ A)) → weight (τ v) ≤ most
      least-of weight most alone each v i = subst (λ e. weight e ≤ most) (inv (agree v i)) (elim (moved v i) [
        | inl e ↦ subst (λ x. weight x ≤ most) (inv e) (alone v)
        | inr (j, under, e) ↦ subst (λ x. weight (z.0 x) ≤ most) e (each j under)
      ])

      longest : (v : ℕ) → InAny v (F ∷ (G ++ A)) → length (τ v) ≤ grown.nodes
      longest = least-of length grown.nodes (λ v. y.grown.some) (λ i l. y.grown.long i l z.0 z.1)

      widest : (v : ℕ) → InAny v (F ∷ (G ++ A)) → places (τ v) ≤ grown.variables
      widest = least-of places grown.variables (λ v. y.one) (λ i l. y.grown.places i l z.0 z.1)

      sizes-now : (nodes (F ∷ G) ≤ s.nodes) × (nodes A ≤ s.found)
      sizes-now = (omega (arith, goal-sizes.0, h.goal_nodes), omega (arith, goal-sizes.1, h.answer_nodes))

      body-meant : map (apply z.0) (body_rows heap s c) ≡ map (apply τ) body
      body-meant = ap (map (apply z.0)) (body_is h clause c d q room short) ∙ on-clause h clause c d q room short fitted d.body

      apart : map (apply τ) (body ++ G) ≡ map (apply τ) body ++ map (apply τ) G
      apart = map-append (apply τ) body G

      together : map (apply τ) (body ++ G) ++ map (apply τ) A ≡ map (apply τ) body ++ map (apply τ) (G ++ A)
      together = ap (λ l. l ++ map (apply τ) A) apart ∙ append_assoc (map (apply τ) body) (map (apply τ) G) (map (apply τ) A) ∙ ap (λ l. map (apply τ) body ++ l) (inv (map-append (apply τ) G A))

      body-flat : apply z.0 (rows heap c.bodies (body_at s c)) ≡ flat (map (apply τ) body)
      body-flat = ap (apply z.0) (inv (listed-flat heap c.bodies (body_at s c) (body-whole h clause c d q room short))) ∙ inv (flat-apply z.0 (body_rows heap s c)) ∙ ap flat body-meant

      abbrev first : ℕ
      first = length (first_of (body_rows heap s c))

      lead_is : length (first_of (map (apply z.0) (body_rows heap s c))) ≡ length (apply τ (rename past (first_of d.body)))
      lead_is = ap (λ l. length (first_of l)) body-meant ∙ ap length (first-map (apply τ) refl body ∙ ap (apply τ) (first-map (rename past) refl d.body))

      lead_plain : first ≤ length (first_of (map (apply z.0) (body_rows heap s c)))
      lead_plain = omega (arith, lead_is, first-long, rename-length past (first_of d.body), longer τ (general h clause (c.head - c.start) c.bodies d q room short fitted.more z.1).unifies.0 (rename past (first_of d.body)))

      lead-kept : Kept (heap-nodes (take (head_long c) clause)) (heap-nodes (take first (drop (head_long c) clause))) → head_long c < s.least → s.least - head_long c + first ≤ length (first_of (map (apply z.0) (body_rows heap s c)))
      lead-kept kept under =
          let k = subst (λ x. Kept x (first_of d.body)) head-words (subst (Kept (heap-nodes (take (head_long c) clause))) (first-words first first-long) kept) in
          omega (arith, lead_is, first-long, room-leading F G A s.base (held_low h) d τ (general h clause (c.head - c.start) c.bodies d q room short fitted.more z.1) (first_of d.body) k, h.leading, first-size, q.head, under)

      -- what comes by what is bound
      module _ {extra places' times' : ℕ} (charged : Charged s grown count extra places' times') where
        gained : weigh (gain τ) (flat (F ∷ (G ++ A))) ≤ extra
        gained = subst (λ n. weigh (gain τ) (flat (F ∷ (G ++ A))) ≤ n) (inv charged.extra_is) (elim charged.for_is [
          | inl e ↦ subst (λ n. weigh (gain τ) (flat (F ∷ (G ++ A))) ≤ n * (grown.nodes - 1)) (inv e)
              (gain-few (F ∷ (G ++ A)) s.base s.most (held_low h) seldom-now τ z.0 agree (trail tables) count moved grown.nodes (λ j l. y.grown.long j l z.0 z.1))
          | inr e ↦ subst (λ n. weigh (gain τ) (flat (F ∷ (G ++ A))) ≤ n * (grown.nodes - 1)) (inv e) (weigh-all-most (gain τ) (grown.nodes - 1) s.variables (F ∷ (G ++ A)) (λ v i. omega (arith, longest v i)) few-places)
        ])

        spread : weigh (λ v. places (τ v)) (flat (F ∷ (G ++ A))) ≤ places'
        spread = omega (arith, weigh-all-most (λ v. places (τ v)) grown.variables s.variables (F ∷ (G ++ A)) widest few-places, charged.places_are)

        multiplied : (x : ℕ) → weigh (λ v. times x (τ v)) (flat (F ∷ (G ++ A))) ≤ s.most * times'
        multiplied x = subst (λ n. weigh (λ v. times x (τ v)) (flat (F ∷ (G ++ A))) ≤ s.most * n) (inv charged.times_are)
            (often-under (F ∷ (G ++ A)) s.base s.most (held_low h) seldom-now τ z.0 agree (trail tables) count moved x grown.times (y.old z.0 z.1 x) (y.new z.0 z.1 x))

      module _ (more : Added) (r : Bounds) {extra places' times' : ℕ} (charged : Charged s grown count extra places' times') (sum : Summed s more extra places' times' r) (how : ThriftyAdds clause s c first more ⊎ CountedAdds heap cells s c first more) where
        bare : ThriftyAdds clause s c first more → Thrifty d.head (flat d.body)
        bare t = subst (λ x. Thrifty x (flat d.body)) head-words (subst (Thrifty (heap-nodes (take (head_long c) clause))) body-words t.thrifty)

        counted-nodes : CountedAdds heap cells s c first more → more.nodes ≡ nodes (map (apply τ) body)
        counted-nodes k = k.nodes_are z.0 z.1 ∙ ap length body-flat ∙ flat-size (map (apply τ) body)

        counted-places : CountedAdds heap cells s c first more → more.variables ≡ places_all (map (apply τ) body)
        counted-places k = k.places_are z.0 z.1 ∙ ap places body-flat ∙ places-flat (map (apply τ) body)

        goal-bound : nodes (map (apply τ) body ++ map (apply τ) G) ≤ r.nodes
        goal-bound = elim how [
          | inl t ↦ omega (arith, room-thrifty F G A s.base (held_low h) d τ (general h clause (c.head - c.start) c.bodies d q room short fitted.more z.1) s.nodes s.found extra places' (gained charged) (spread charged) sizes-now.0 sizes-now.1 (bare t), sum.nodes_are, t.nodes_are, t.less_is, q.head, head-length clause (c.head - c.start) c.bodies d q, clause-long, ordered.0, ordered.1)
          | inr k ↦ omega (arith, room-counted F G A s.base (held_low h) d τ (general h clause (c.head - c.start) c.bodies d q room short fitted.more z.1) s.nodes s.found extra places' (gained charged) (spread charged) sizes-now.0 sizes-now.1, sum.nodes_are, k.less_is, counted-nodes k)
        ]

        answer-bound : nodes (map (apply τ) A) ≤ r.found
        answer-bound = omega (arith, room-answer F G A s.base (held_low h) d τ (general h clause (c.head - c.start) c.bodies d q room short fitted.more z.1) s.nodes s.found extra places' (gained charged) (spread charged) sizes-now.0 sizes-now.1, sum.found_is)

        places-bound : places_all (map (apply τ) body ++ map (apply τ) (G ++ A)) ≤ r.variables
        places-bound = elim sum.spread [
          | inl e ↦ elim how [
            | inl t ↦ omega (arith, places-thrifty F G A s.base (held_low h) d τ (general h clause (c.head - c.start) c.bodies d q room short fitted.more z.1) s.nodes s.found extra places' (gained charged) (spread charged) sizes-now.0 sizes-now.1 (bare t), e, t.fresh_is ∙ ap₂ fresh head-words body-words)
            | inr k ↦ omega (arith, places-counted F G A s.base (held_low h) d τ (general h clause (c.head - c.start) c.bodies d q room short fitted.more z.1) s.nodes s.found extra places' (gained charged) (spread charged) sizes-now.0 sizes-now.1, e, counted-places k)
          ]
          | inr e ↦ omega (arith, ap places_all together, places-all-few (map (apply τ) (body ++ G) ++ map (apply τ) A), nodes-append (map (apply τ) (body ++ G)) (map (apply τ) A), ap nodes apart, goal-bound, answer-bound, e)
        ]

        often-bound : Seldom r.most (map (apply τ) body ++ map (apply τ) (G ++ A))
        often-bound = elim sum.often.0 [
          | inl e ↦ seldom-few (map (apply τ) body ++ map (apply τ) (G ++ A)) (omega (arith, places-bound, e))
          | inr (some, own, most) ↦ elim how [
            | inl t ↦ record {
              each = λ x. often-thrifty F G A s.base (held_low h) d τ (general h clause (c.head - c.start) c.bodies d q room short fitted.more z.1) (bare t) x r.most
                  (omega (arith, multiplied charged x, most)) (omega (arith, own, t.fresh_is ∙ ap₂ fresh head-words body-words));
            }
            | inr k ↦ absurd (some k.less_is)
          ]
        ]

        lead-bound : r.least ≤ length (first_of (map (apply z.0) (body_rows heap s c)))
        lead-bound = elim how [
          | inl t ↦ elim t.leads [ inl e ↦ omega (arith, sum.least_is, e, lead_plain) | inr (kept, under, e) ↦ omega (arith, sum.least_is, e, lead-kept kept under) ]
          | inr k ↦ omega (arith, sum.least_is, k.leads, lead_plain)
        ]

        pub bounded_so : Fits more.names clause → more.names ≤ 64 → Bounded heap cells levels s c r
        bounded_so fit few = record {
          goal_nodes = λ θ y. subst (λ l. nodes l ≤ r.nodes) (inv (any θ y (next_rows heap levels s c) ∙ goal_meant h clause c d q room short fitted ∙ apart)) goal-bound;
          answer_nodes = λ θ y. subst (λ l. nodes l ≤ r.found) (inv (any θ y (answer_rows heap s) ∙ next-meant h clause c d q room short fitted)) answer-bound;
          places = λ θ y. subst (λ l. places_all l ≤ r.variables) (inv (any θ y (next_rows heap levels s c ++ answer_rows heap s) ∙ all-meant h clause c d q room short fitted ∙ together)) places-bound;
          often = λ θ y. subst (Seldom r.most) (inv (any θ y (next_rows heap levels s c ++ answer_rows heap s) ∙ all-meant h clause c d q room short fitted ∙ together)) often-bound;
          leading = λ θ y. subst (λ l. r.least ≤ length (first_of l)) (inv (any θ y (body_rows heap s c))) lead-bound;
          below = subst (λ n. Fits (s.base + n) heap) (inv sum.names_are) (whole-fits h clause (c.head - c.start) c.bodies d q room short more.names few fit);
          few = omega (arith, sum.names_are, few);
          goal_room = sum.goal_room;
          answer_room = sum.answer_room;
          places_room = omega (arith, sum.few, sum.goal_room, sum.answer_room);
          often_room = omega (arith, sum.often.1, sum.few, sum.goal_room, sum.answer_room);
        }
          where
            any : (θ : Subst) → Solved heap cells θ → (l : Goal) → map (apply θ) l ≡ map (apply z.0) l
            any θ y l = map_same (λ e. apply-on θ z.0 e (λ v i. solved-one fitted.more.made z.1 θ y v)) l
