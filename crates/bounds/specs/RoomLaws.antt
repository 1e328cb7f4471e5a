-- How large a next goal and answer are at most: goal and answer stand for F, G and A, a clause's variables are moved past theirs, and σ is a most general unifier of F and the clause's
-- head.
use Rattle.std.specs.Prelude.{ℕ, ◌+◌, ◌<◌, ◌≤◌, ◌≡◌, ◌∷◌, ◌++◌, map, length}
use Rattle.std.proofs.Common.{arith, sym as inv, ap, ◌∙◌, subst, inl, inr}
use Rattle.std.proofs.Math.Decide.{ℕ_discrete}
use Rattle.terms.specs.Node.{Expr}
use Rattle.terms.specs.Subst.{In, InAny, Subst, Proper, apply, itself, MostGeneral, in?}
use Rattle.terms.specs.SubstLaws.{in-apply}
use Rattle.terms.specs.Rename.{rename}
use Rattle.terms.specs.RenameLaws.{apply-rename, rename-apply}
use Rattle.search.specs.Next.{Clause, Goal}
use Rattle.search.specs.Room.{nodes}
use Rattle.words.specs.Flat.{flat, flat_append, flat-apply, flat-rename, flat-size}
use Rattle.bounds.specs.Places.{weigh, places, times, places_all}
use Rattle.bounds.specs.Thrift.{away, fresh, Thrifty, Kept}
use Rattle.bounds.specs.WeighLaws.{gain, weigh-append, weigh-apply, weigh-more, weigh-none, weigh-some, length-apply}
use Rattle.bounds.specs.ThriftLaws.{mark, mark-other, mark-most, in-times, out-times, away-in, away-out, weigh-thrifty, weigh-kept}
use Rattle.bounds.specs.UnifierLaws.{general-lone, lone-gain, lone-places, lone-apart}
use Rattle.bounds.specs.GoalLaws.{flat_in, places-flat, nodes-append, places-all-append, nodes-apply, places-all-apply}

module _ (F : Expr) (G A : Goal) (base : ℕ) (low : (v : ℕ) → InAny v (F ∷ (G ++ A)) → v < base) (c : Clause) where
  abbrev past : ℕ → ℕ
  past v = v + base

  module _ (σ : Subst) (general : MostGeneral σ F (rename past c.head)) where
    abbrev body : Goal
    body = map (apply σ) (map (rename past) c.body)

    ok : Proper σ
    ok = general.unifies.0

    -- what σ adds at the clause's variables
    abbrev gains : ℕ → ℕ
    gains v = gain σ (past v)

    abbrev spread : ℕ → ℕ
    spread v = places (σ (past v))

    past-in : (x : ℕ) (e : Expr) → In (past x) (rename past e) → In x e
    past-in x e i =
        let (w, j, k) = in-apply (past x) (λ y. itself (past y)) e (subst (In (past x)) (rename-apply past e) i) in
        elim k [ inl p ↦ subst (λ y. In y e) (omega (arith, p)) j | inr z ↦ absurd z ]

    -- a variable that is not in the head stays one
    module _ (x : ℕ) (z : ¬ In x c.head) where
      far : ¬ In (past x) F
      far i = omega (arith, low (past x) (inl i))

      off : ¬ In (past x) (rename past c.head)
      off i = z (past-in x c.head i)

      pub away-lone : (w : ℕ) × (σ (past x) ≡ itself w) × ((v : ℕ) → v < base → times w (σ v) ≡ 0)
      away-lone =
          let (w, is) = general-lone σ F (rename past c.head) general (past x) far off in
          (w, is, λ v l. lone-apart σ F (rename past c.head) general (past x) far off v (λ e. omega (arith, e, l)))

      away-gain : gains x ≡ 0
      away-gain = lone-gain σ F (rename past c.head) general (past x) far off

      away-spread : spread x ≡ 1
      away-spread = lone-places σ F (rename past c.head) general (past x) far off

    -- formula and head become equal
    same-long : length F + weigh (gain σ) F ≡ length c.head + weigh gains c.head
    same-long =
        inv (length-apply σ ok F) ∙ ap length (general.unifies.1 ∙ apply-rename past σ c.head) ∙ length-apply (λ v. σ (past v)) (λ v. ok (past v)) c.head

    same_weights : (w : ℕ → ℕ) → weigh (λ v. weigh w (σ v)) F ≡ weigh (λ v. weigh w (σ (past v))) c.head
    same_weights w = inv (weigh-apply w σ F) ∙ ap (weigh w) (general.unifies.1 ∙ apply-rename past σ c.head) ∙ weigh-apply w (λ v. σ (past v)) c.head

    body-flat : flat body ≡ apply (λ v. σ (past v)) (flat c.body)
    body-flat = flat-apply σ (map (rename past) c.body) ∙ ap (apply σ) (flat-rename past c.body) ∙ apply-rename past σ (flat c.body)

    body-nodes : nodes body ≡ length (flat c.body) + weigh gains (flat c.body)
    body-nodes = inv (flat-size body) ∙ ap length body-flat ∙ length-apply (λ v. σ (past v)) (λ v. ok (past v)) (flat c.body)

    body_weights : (w : ℕ → ℕ) → weigh w (flat body) ≡ weigh (λ v. weigh w (σ (past v))) (flat c.body)
    body_weights w = ap (weigh w) body-flat ∙ weigh-apply w (λ v. σ (past v)) (flat c.body)

    -- the first formula of a body that keeps the head's variables grows as the goal's did
    pub room-leading : (e : Expr) → Kept c.head e → length F + length e ≤ length (apply σ (rename past e)) + length c.head
    room-leading e kept =
        omega (arith, same-long, weigh-kept gains c.head e kept, ap length (apply-rename past σ e), length-apply (λ v. σ (past v)) (λ v. ok (past v)) e)

    -- what the body adds, where it is thrifty
    module _ (thrifty : Thrifty c.head (flat c.body)) where
      thrifty-nodes : nodes body + length c.head ≤ length F + weigh (gain σ) F + length (flat c.body)
      thrifty-nodes =
          omega (
            arith,
            same-long,
            body-nodes,
            weigh-thrifty c.head (flat c.body) thrifty gains,
            weigh-none (away c.head gains) (flat c.body) (λ v i. elim (in? v c.head) [
              | yes j ↦ away-in c.head (flat c.body) gains v (in-times v c.head j)
              | no n ↦ away-out c.head (flat c.body) gains v (out-times v c.head n) ∙ away-gain v n
            ]),
          )

      thrifty-places : places_all body ≤ weigh (λ v. places (σ v)) F + fresh c.head (flat c.body)
      thrifty-places =
          omega (
            arith,
            same_weights (λ v. 1),
            body_weights (λ v. 1),
            places-flat body,
            weigh-thrifty c.head (flat c.body) thrifty spread,
            weigh-more (away c.head spread) (away c.head (λ v. 1)) (flat c.body) (λ v i. elim (in? v c.head) [
              | yes j ↦ omega (arith, away-in c.head (flat c.body) spread v (in-times v c.head j))
              | no n ↦ omega (arith, away-out c.head (flat c.body) spread v (out-times v c.head n), away-out c.head (flat c.body) (λ v. 1) v (out-times v c.head n), away-spread v n)
            ]),
          )

      -- the body's own variables are nowhere before
      abbrev away_times : ℕ → ℕ
      away_times y = weigh (away c.head (λ v. times y (σ (past v)))) (flat c.body)

      own-few : (y : ℕ) → away_times y ≤ fresh c.head (flat c.body)
      own-few y = weigh-more (away c.head (λ v. times y (σ (past v)))) (away c.head (λ v. 1)) (flat c.body) (λ v i. elim (in? v c.head) [
        | yes j ↦ omega (arith, away-in c.head (flat c.body) (λ v. times y (σ (past v))) v (in-times v c.head j))
        | no n ↦
            let (w, is, apart) = away-lone v n in
            omega (
              arith,
              away-out c.head (flat c.body) (λ v. times y (σ (past v))) v (out-times v c.head n),
              away-out c.head (flat c.body) (λ v. 1) v (out-times v c.head n),
              ap (times y) is,
              mark-most y w,
            )
      ])

      own_alone : (y : ℕ) → (away_times y ≡ 0 → ⊥) → weigh (λ v. times y (σ v)) (flat (F ∷ (G ++ A))) ≡ 0
      own_alone y some =
          let (v, i, m) = weigh-some (away c.head (λ v. times y (σ (past v)))) (flat c.body) some in
          elim (in? v c.head) [
            | yes j ↦ absurd (m (away-in c.head (flat c.body) (λ v. times y (σ (past v))) v (in-times v c.head j)))
            | no n ↦
                let (w, is, apart) = away-lone v n in
                elim (ℕ_discrete y w) [
                  | yes p ↦ weigh-none (λ v. times y (σ v)) (flat (F ∷ (G ++ A))) (λ u k. ap (λ x. times x (σ u)) p ∙ apart u (low u (flat_in u (F ∷ (G ++ A)) k)))
                  | no q ↦ absurd (m (away-out c.head (flat c.body) (λ v. times y (σ (past v))) v (out-times v c.head n) ∙ ap (times y) is ∙ omega (arith, mark-other y w q)))
                ]
          ]

      -- so that none is more often than in goal and answer, or than all of them in the body
      pub often-thrifty : (y k : ℕ) → weigh (λ v. times y (σ v)) (flat (F ∷ (G ++ A))) ≤ k → fresh c.head (flat c.body) ≤ k → times y (flat (body ++ map (apply σ) (G ++ A))) ≤ k
      often-thrifty y k before own = elim (ℕ_discrete (away_times y) 0) [
        | yes z ↦ omega (arith, sum, z, before)
        | no n ↦ omega (arith, sum, own_alone y n, own-few y, own)
      ]
        where
          sum : times y (flat (body ++ map (apply σ) (G ++ A))) ≤ weigh (λ v. times y (σ v)) (flat (F ∷ (G ++ A))) + away_times y
          sum =
              omega (
                arith,
                ap (times y) (flat_append body (map (apply σ) (G ++ A))),
                weigh-append (mark y) (flat body) (flat (map (apply σ) (G ++ A))),
                ap (times y) (flat-apply σ (G ++ A)),
                weigh-apply (mark y) σ (flat (G ++ A)),
                same_weights (mark y),
                body_weights (mark y),
                weigh-thrifty c.head (flat c.body) thrifty (λ v. times y (σ (past v))),
                weigh-append (λ v. times y (σ v)) F (flat (G ++ A)),
              )

    -- the unifier adds so many nodes to goal and answer, and they have so many places of variables under it
    module _ (N M D W : ℕ) (gained : weigh (gain σ) (flat (F ∷ (G ++ A))) ≤ D) (spread-so : weigh (λ v. places (σ v)) (flat (F ∷ (G ++ A))) ≤ W)
        (goal_nodes : nodes (F ∷ G) ≤ N) (answer_nodes : nodes A ≤ M) where
      parts : (w : ℕ → ℕ) → weigh w (flat (F ∷ (G ++ A))) ≡ weigh w F + (weigh w (flat G) + weigh w (flat A))
      parts w = weigh-append w F (flat (G ++ A)) ∙ omega (arith, ap (weigh w) (flat_append G A), weigh-append w (flat G) (flat A))

      all-gains : weigh (gain σ) F + (weigh (gain σ) (flat G) + weigh (gain σ) (flat A)) ≤ D
      all-gains = subst (λ n. n ≤ D) (parts (gain σ)) gained

      all-places : weigh (λ v. places (σ v)) F + (weigh (λ v. places (σ v)) (flat G) + weigh (λ v. places (σ v)) (flat A)) ≤ W
      all-places = subst (λ n. n ≤ W) (parts (λ v. places (σ v))) spread-so

      rest-places : places_all (body ++ map (apply σ) (G ++ A)) ≡ places_all body + (weigh (λ v. places (σ v)) (flat G) + weigh (λ v. places (σ v)) (flat A))
      rest-places = places-all-append body (map (apply σ) (G ++ A))
          ∙ ap (λ n. places_all body + n) (places-all-apply σ (G ++ A) ∙ ap (weigh (λ v. places (σ v))) (flat_append G A) ∙ weigh-append (λ v. places (σ v)) (flat G) (flat A))

      pub room-answer : nodes (map (apply σ) A) ≤ M + D
      room-answer = omega (arith, nodes-apply σ A ok, all-gains, answer_nodes)

      pub room-thrifty : Thrifty c.head (flat c.body) → nodes (body ++ map (apply σ) G) + length c.head ≤ N + D + length (flat c.body)
      room-thrifty thrifty = omega (arith, nodes-append body (map (apply σ) G), nodes-apply σ G ok, thrifty-nodes thrifty, all-gains, goal_nodes)

      pub places-thrifty : Thrifty c.head (flat c.body) → places_all (body ++ map (apply σ) (G ++ A)) ≤ W + fresh c.head (flat c.body)
      places-thrifty thrifty = omega (arith, rest-places, thrifty-places thrifty, all-places)

      pub room-counted : nodes (body ++ map (apply σ) G) ≤ N + D + nodes body
      room-counted = omega (arith, nodes-append body (map (apply σ) G), nodes-apply σ G ok, all-gains, goal_nodes)

      pub places-counted : places_all (body ++ map (apply σ) (G ++ A)) ≤ W + places_all body
      places-counted = omega (arith, rest-places, all-places)
