-- What reading a query answers, told by what books, lists and texts are; and that this is what is computed.
use Rattle.std.specs.Prelude.{ℕ, ◌≤◌, ◌<◌, ◌≡◌, Bool, true, false, ◌&&◌, ◌⊎◌, List, [], ◌++◌, length, eqb, leb}
use Rattle.std.proofs.Math.Path.{refl}
use Rattle.std.proofs.Common.{sym as inv, ap, ◌∙◌, subst, true≢false, inl, inr, arith}
use borrow.Author.Tests.{leb-true, leb-false, le-leb, lt-leb, eqb-true, eqb-false, eq-eqb, ne_eqb}
use Rattle.terms.specs.Cases.{cases}
use Rattle.format.specs.Reading.{book_verdict, query_verdict}
use Rattle.format.specs.declared.Check.{Check}
use Rattle.format.specs.Decode.{book_of}
use Rattle.format.specs.Format.{Bytes, encode_goal}
use Rattle.format.specs.Arities.{book_uses, goal_uses, Suits}
use Rattle.format.proofs.Decoding.{book_of-good, book_of-one}
use Rattle.format.proofs.Meaning.{query-written}
use Rattle.grammar.specs.Syntax.{Formula}
use Rattle.grammar.specs.Names.{Sort, formulas_spots, list_of}
use Rattle.grammar.specs.Query.{Given, names_with, goal}
use Rattle.grammar.specs.GoodLaws.{query_good}
use Rattle.namelist.specs.List.{IsList}
use Rattle.namelist.specs.Table.{table_entries, table-list}
use Rattle.namelist.specs.SpeltLaws.{asks-fit}
use Rattle.asking.specs.Asking.{Outcome, read, refused, asking}
use Rattle.asking.proofs.Refusal.{Refusal}
use Rattle.asking.specs.Accepted.{Accepted}
use Rattle.asking.proofs.AskingLaws.{refusal-code, asking_iff, refusal_iff}
use Rattle.questions.specs.declared.ReadQuery.{ReadQuery}
use Rattle.questions.specs.Given.{Gives, given_from, gives, gives-means}
use Rattle.questions.proofs.GivenLaws.{gives-is, given_is}
use Rattle.questions.proofs.NewNames.{with_good, names-begin}
use Rattle.questions.specs.Outcome.{refusal, formula_at, suited, room, answered, filled, outcome, query_area, list_area}
use Rattle.readouts.proofs.ClashLaws.{formulas-uses}
use Rattle.questions.proofs.Place.{FormulaAt, place_is, formula-there}
use Rattle.questions.proofs.Kept.{Clashes, View, all_kept, clash, kept-view, kept-all, clash-kept, clash-low}
use Rattle.questions.specs.Is.{Is}

abbrev pub given_answer : Given → List Formula → ReadQuery
given_answer g fs = record { code = 0; place = 0; query = length (encode_goal (goal g fs)); names = length (list_of (names_with g fs)) }

module _ (text book names query list' : List ℕ) where
  abbrev good : Type 0
  good = (book_verdict book).code ≡ 0

  -- "first the book's codes; 45 a list not in C-13's form; then the text's; 17; last 43, an area too small"
  pub data Reads : ReadQuery → List ℕ → List ℕ → Type 0 where
    not_good : (good → ⊥) → Reads (refusal (book_verdict book).code (book_verdict book).place) query list'
    no_list : good → ((g : Given) → Gives names g → ⊥) → Reads (refusal 45 0) query list'
    bad_text : {g : Given} {c i : ℕ} → good → Gives names g → Refusal text c i → Reads (refusal c i) query list'
    two_arities : {g : Given} {fs : List Formula} {k at : ℕ} → good → Gives names g → Accepted text fs → Clashes (book_uses (book_of book)) (goal_uses (goal g fs)) k → FormulaAt text k at →
        Reads (refusal 17 at) query list'
    no_room : {g : Given} {fs : List Formula} → good → Gives names g → Accepted text fs → Suits (book_of book) (goal g fs) →
        (length query < length (encode_goal (goal g fs))) ⊎ (length list' < length (list_of (names_with g fs))) → Reads (refusal 43 0) query list'
    reads : {g : Given} {fs : List Formula} → good → Gives names g → Accepted text fs → Suits (book_of book) (goal g fs) → length (encode_goal (goal g fs)) ≤ length query →
        length (list_of (names_with g fs)) ≤ length list' → Reads (given_answer g fs) (filled (encode_goal (goal g fs)) query) (filled (list_of (names_with g fs)) list')

  -- What is computed, case by case

  pub is-not-good : (good → ⊥) → Is text book names query list' (refusal (book_verdict book).code (book_verdict book).place) query list'
  unfolding outcome query_area list_area
  is-not-good n = let z = ne_eqb (book_verdict book).code 0 n in record { answer = rw z refl; query_is = rw (z, z) refl; list_is = rw (z, z) refl }

  module _ (h : good) where
    zero-code : eqb (book_verdict book).code 0 ≡ true
    zero-code = eq-eqb (book_verdict book).code 0 h

    pub is-no-list : gives names ≡ false → Is text book names query list' (refusal 45 0) query list'
    unfolding outcome query_area list_area
    is-no-list n = record { answer = rw (zero-code, n) refl; query_is = rw (zero-code, n) refl; list_is = rw (zero-code, n) refl }

    module _ (w : gives names ≡ true) where
      pub is-bad-text : (c i : ℕ) → asking text ≡ refused c i → (c ≡ 0 → ⊥) → Is text book names query list' (refusal c i) query list'
      unfolding outcome query_area list_area
      is-bad-text c i e n =
          let z = ne_eqb c 0 n in
          record { answer = rw (zero-code, w, e) refl; query_is = rw (zero-code, w, e, z) refl; list_is = rw (zero-code, w, e, z) refl }

      module _ (fs : List Formula) (e : asking text ≡ read fs) where
        abbrev G : Given
        G = given_from names

        abbrev K : ℕ
        K = suited text book G fs

        pub is-two : (K ≡ length (goal_uses (goal G fs)) → ⊥) → Is text book names query list' (refusal 17 (formula_at text K)) query list'
        unfolding outcome query_area list_area answered
        is-two n =
            let z = ne_eqb K (length (goal_uses (goal G fs))) n in
            record { answer = rw (zero-code, w, e, z) refl; query_is = rw (zero-code, w, e, z) refl; list_is = rw (zero-code, w, e, z) refl }

        module _ (k : K ≡ length (goal_uses (goal G fs))) where
          kept-code : eqb K (length (goal_uses (goal G fs))) ≡ true
          kept-code = eq-eqb K (length (goal_uses (goal G fs))) k

          pub is-no-room : room text book G fs (length query) (length list') ≡ false → Is text book names query list' (refusal 43 0) query list'
          unfolding outcome query_area list_area answered
          is-no-room n =
              record { answer = rw (zero-code, w, e, kept-code, n) refl; query_is = rw (zero-code, w, e, kept-code, n) refl; list_is = rw (zero-code, w, e, kept-code, n) refl }

          pub is_read : room text book G fs (length query) (length list') ≡ true →
              Is text book names query list' (given_answer G fs) (filled (encode_goal (goal G fs)) query) (filled (list_of (names_with G fs)) list')
          unfolding outcome query_area list_area answered
          is_read n =
              record { answer = rw (zero-code, w, e, kept-code, n) refl; query_is = rw (zero-code, w, e, kept-code, n) refl; list_is = rw (zero-code, w, e, kept-code, n) refl }

  -- One outcome

  given-same : (g : Given) → Gives names g → given_from names ≡ g
  given-same g v = λ i k. given_is names g v k i

  no_second : (a b : Bool) → b ≡ false → (a && b) ≡ false
  no_second true b e = e
  no_second false b e = refl

  module _ (h : good) (w : gives names ≡ true) (fs : List Formula) (e : asking text ≡ read fs) where
    abbrev own : Given
    own = given_from names

    two_said : (k : ℕ) → Clashes (book_uses (book_of book)) (goal_uses (goal own fs)) k → Is text book names query list' (refusal 17 (formula_at text k)) query list'
    two_said k c =
        let q = clash-kept (book_uses (book_of book)) (goal_uses (goal own fs)) k c in
        subst (λ (j : ℕ). Is text book names query list' (refusal 17 (formula_at text j)) query list') q
        (is-two h w fs e (λ z. omega (arith, clash-low (book_uses (book_of book)) (goal_uses (goal own fs)) k c, q, z)))

    module _ (s : Suits (book_of book) (goal own fs)) where
      all : suited text book own fs ≡ length (goal_uses (goal own fs))
      all = kept-all (book_uses (book_of book)) (goal_uses (goal own fs)) s

      no-room-said : (length query < length (encode_goal (goal own fs))) ⊎ (length list' < length (list_of (names_with own fs))) → Is text book names query list' (refusal 43 0) query list'
      no-room-said (inl m) = is-no-room h w fs e all (rw (lt-leb (length (encode_goal (goal own fs))) (length query) m))
      no-room-said (inr m) =
          is-no-room h w fs e all
          (no_second (leb (length (encode_goal (goal own fs))) (length query)) (leb (length (list_of (names_with own fs))) (length list')) (lt-leb (length (list_of (names_with own fs))) (length list') m))

      read-said : length (encode_goal (goal own fs)) ≤ length query → length (list_of (names_with own fs)) ≤ length list' →
          Is text book names query list' (given_answer own fs) (filled (encode_goal (goal own fs)) query) (filled (list_of (names_with own fs)) list')
      read-said m n = is_read h w fs e all (rw (le-leb (length (encode_goal (goal own fs))) (length query) m, le-leb (length (list_of (names_with own fs))) (length list') n))

  -- whatever the relation says is what is computed
  pub reads-is : {r : ReadQuery} {q l : List ℕ} → Bytes names → Reads r q l → Is text book names query list' r q l
  reads-is bn (not_good n) = is-not-good n
  reads-is bn (no_list h n) = is-no-list h (cases (gives names) (λ e. absurd (n (given_from names) (gives-means names bn e))) (λ e. e))
  reads-is bn (bad_text {g} {c} {i} h v r) = is-bad-text h (gives-is names g v) c i ((refusal_iff text c i).1 r) (λ (z : c ≡ 0). omega (arith, z, refusal-code r))
  reads-is bn (two_arities {g} {fs} {k} h v a c f) =
      subst (λ (i : ℕ). Is text book names query list' (refusal 17 i) query list') (inv (place_is f))
      (two_said h (gives-is names g v) fs ((asking_iff text fs).1 a) k
      (subst (λ (x : Given). Clashes (book_uses (book_of book)) (goal_uses (goal x fs)) k) (inv (given-same g v)) c))
  reads-is bn (no_room {g} {fs} h v a s m) =
      no-room-said h (gives-is names g v) fs ((asking_iff text fs).1 a) (subst (λ (x : Given). Suits (book_of book) (goal x fs)) (inv (given-same g v)) s)
      (subst (λ (x : Given). (length query < length (encode_goal (goal x fs))) ⊎ (length list' < length (list_of (names_with x fs)))) (inv (given-same g v)) m)
  reads-is bn (reads {g} {fs} h v a s m n) =
      subst (λ (x : Given). Is text book names query list' (given_answer x fs) (filled (encode_goal (goal x fs)) query) (filled (list_of (names_with x fs)) list')) (given-same g v)
      (read-said h (gives-is names g v) fs ((asking_iff text fs).1 a) (subst (λ (x : Given). Suits (book_of book) (goal x fs)) (inv (given-same g v)) s)
      (subst (λ (x : Given). length (encode_goal (goal x fs)) ≤ length query) (inv (given-same g v)) m)
      (subst (λ (x : Given). length (list_of (names_with x fs)) ≤ length list') (inv (given-same g v)) n))

  -- no two outcomes
  pub read_once : {r r' : ReadQuery} {q q' l l' : List ℕ} → Bytes names → Reads r q l → Reads r' q' l' → (r ≡ r') × (q ≡ q') × (l ≡ l')
  read_once bn x y =
      let a = reads-is bn x in
      let b = reads-is bn y in
      (a.answer ∙ inv b.answer, a.query_is ∙ inv b.query_is, a.list_is ∙ inv b.list_is)

  -- What is computed is what the relation says

  abbrev Said : Type 0
  Said = Reads (outcome text book names query list') (query_area text book names query list') (list_area text book names query list')

  said : {r : ReadQuery} {q l : List ℕ} → Bytes names → Reads r q l → Said
  said {r} {q} {l} bn x =
      let a = reads-is bn x in
      subst (λ (z : List ℕ). Reads (outcome text book names query list') (query_area text book names query list') z) a.list_is
      (subst (λ (z : List ℕ). Reads (outcome text book names query list') z l) a.query_is (subst (λ (z : ReadQuery). Reads z q l) a.answer x))

  module _ (bb : Bytes book) (bn : Bytes names) (h : good) (w : gives names ≡ true) where
    given-here : Gives names (given_from names)
    given-here = gives-means names bn w

    room-said : (fs : List Formula) → Accepted text fs → Suits (book_of book) (goal (given_from names) fs) → Said
    room-said fs a s =
        let m = length (encode_goal (goal (given_from names) fs)) in
        let n = length (list_of (names_with (given_from names) fs)) in
        cases (leb m (length query))
        (λ p.
        cases (leb n (length list')) (λ q. said bn (reads h given-here a s (leb-true m (length query) p) (leb-true n (length list') q)))
        (λ q. said bn (no_room h given-here a s (inr (leb-false n (length list') q)))))
        (λ p. said bn (no_room h given-here a s (inl (leb-false m (length query) p))))

    view-said : (fs : List Formula) (k : ℕ) → Accepted text fs → View (book_uses (book_of book)) (goal_uses (goal (given_from names) fs)) k → Said
    view-said fs k a (all_kept o) = room-said fs a o
    view-said fs k a (clash c) =
        let f = formula-there text fs k a.asks (omega (arith, clash-low (book_uses (book_of book)) (goal_uses (goal (given_from names) fs)) k c, formulas-uses (names_with (given_from names) fs) [] fs)) in
        said bn (two_arities h given-here a c f)

    text-said : (o : Outcome) → asking text ≡ o → Said
    text-said (refused c i) e = said bn (bad_text h given-here ((refusal_iff text c i).0 e))
    text-said (read fs) e =
        view-said fs (suited text book (given_from names) fs) ((asking_iff text fs).0 e) (kept-view (book_uses (book_of book)) (goal_uses (goal (given_from names) fs)) (book_of-one book bb h))

  pub outcome-reads : Bytes book → Bytes names → Said
  outcome-reads bb bn =
      cases (eqb (book_verdict book).code 0)
      (λ z.
      let h = eqb-true (book_verdict book).code 0 z in
      cases (gives names) (λ w. text-said bb bn h w (asking text) refl) (λ w. said bn (no_list h (λ g v. true≢false (inv (gives-is names g v) ∙ w)))))
      (λ z. said bn (not_good (eqb-false (book_verdict book).code 0 z)))

-- What is read is good

-- its check answers 0
pub query-checked : (text book names : List ℕ) (g : Given) (fs : List Formula) → Bytes book → (book_verdict book).code ≡ 0 → Gives names g → Accepted text fs → Suits (book_of book) (goal g fs) →
    (query_verdict book (encode_goal (goal g fs))).code ≡ 0
query-checked text book names g fs bb h v a s =
    let b = book_of-good book bb h in
    ap (λ (l : List ℕ). (query_verdict l (encode_goal (goal g fs))).code) (inv b.1)
    ∙ ap (λ (c : Check). c.code) (query-written (book_of book) b.0 (goal g fs) (query_good g fs a.sized v.good.few) s)

-- the list is in C-13's form
pub list-formed : {text names : List ℕ} (g : Given) (fs : List Formula) → Gives names g → Accepted text fs → IsList (list_of (names_with g fs)) (table_entries (names_with g fs))
list-formed g fs v a = table-list 65535 (names_with g fs) (with_good g fs v.good (asks-fit fs a.asks a.sized) a.sized) (omega arith)

-- and has the given names with their numbers: they stand first
pub names-stay : (g : Given) (fs : List Formula) (k : Sort) → (more : List (List ℕ)) × (names_with g fs k ≡ g k ++ more)
names-stay g fs k = names-begin k (g k) (formulas_spots fs)
