-- The whole answer.
use Prim.Native.Nat.{ℕ, ◌≤◌, ◌<◌}
use mathlib.Core.Path.{◌≡◌, refl, sym as inv, ap, ◌∙◌, subst}
use mathlib.Core.Logic.{inl, inr}
use mathlib.Core.Bool.{Bool, true, false}
use mathlib.Core.List.{List, [], ◌∷◌, ◌++◌, append-nil}
use native.Mathlib.Omega.{arith}
use lib.ListN.{length, drop}
use Rattle.terms.specs.Node.{constant, compound, predicate, var, sym, Expr}
use Rattle.terms.specs.When.{◌⇒◌∣◌}
use Rattle.search.specs.Next as Next
use Rattle.search.specs.Room.{nodes}
use Rattle.words.specs.Flat.{flat, flat-size}
use Rattle.format.specs.declared.Check.{Check}
use Rattle.format.specs.declared.Record.{Record}
use Rattle.format.specs.Format.{encode, node_records, book_records, goal_records, encode_goal, AreFormulas, GoodGoal, Bytes}
use Rattle.format.specs.Reading.{book_verdict, query_verdict}
use Rattle.format.specs.Decode.{book_of, goal_of}
use Rattle.format.proofs.Decoding.{records-back, book_of-good, goal_of-good}
use Rattle.printing.specs.Named.{printed, printed_goal}
use Rattle.printing.specs.Renumbered.{book_nodes}
use Rattle.namelist.specs.List.{Entry, naming}
use Rattle.namelist.specs.ListLaws.{Stands}
use Rattle.namelist.specs.Bytes.{is_list, entries_of}
use Rattle.namelist.specs.Meaning.{list-means, list-stands}
use Rattle.namelist.specs.NamingLaws.{some, all_named}
use Rattle.grammar.specs.Names.{Constant, Compound, Predicate}
use Rattle.printouts.specs.declared.Turn.TheVariants.{Start}
use Rattle.printouts.specs.declared.Printout.{Printout}
use Rattle.printouts.specs.Walk.{walked}
use Rattle.printouts.proofs.WalkLaws.{walked-is, goal-walked}
use Rattle.printouts.specs.Laying.{Lays, reach, lay-front, measured, over_long}
use Rattle.printouts.specs.Outcome.{refusal, done, outcome, outcome_area, print_answer, print_area, goal_answer, goal_area}
use Rattle.printouts.specs.Answer.{answer_verdict, found_answer, found_area}
use Rattle.printouts.proofs.AnswerLaws.{GoodFound, found-good}
use Rattle.printouts.proofs.OutcomeLaws.{is-not-good, is-no-list, is-no-name, is-no-room, is-printed, long-is, short-is}
use Rattle.printer.specs.Parts.{items, records_named, Checked, Suited, PrintsImage}

pub checked : (names : List ℕ) (t : Bool) → Bytes names → t ≡ is_list names → Checked names t
checked names t bytes e = record { answer = e; stands = λ f. list-stands names (entries_of names) (list-means names bytes (inv e ∙ f)) }

pub listed_by : (names : List ℕ) (t : Bool) → Checked names t → t ≡ true → (l : List Entry) × Stands names 0 l
listed_by names t c good = (entries_of names, c.stands good)

module _ (image names area : List ℕ) (t : Bool) (c : Checked names t) where
  pub image-list : (r : Printout) → t ≡ false → r ≡ refusal 45 0 → PrintsImage image names area area r
  image-list r f e = subst (PrintsImage image names area area) (inv e) (record { is = λ found x text s. is-no-list found x text names area s.good (inv c.answer ∙ f) })

  module _ (good : t ≡ true) where
    yes-list : is_list names ≡ true
    yes-list = inv c.answer ∙ good

    stands : Stands names 0 (entries_of names)
    stands = c.stands good

    module _ (u : Bool) (named : (l : List Entry) → Stands names 0 l → u ≡ records_named l (items image)) where
      pub image-name : (r : Printout) → u ≡ false → r ≡ refusal 44 0 → PrintsImage image names area area r
      image-name r f e =
          subst (PrintsImage image names area area) (inv e)
          (record { is = λ found x text s. is-no-name found x text names area s.good yes-list (inv (s.named (entries_of names)) ∙ inv (named (entries_of names) stands) ∙ f) })

      module _ (all : u ≡ true) (n : ℕ) (long : (l : List Entry) → Stands names 0 l → n ≡ reach 0 (walked (naming l) Start [] (items image))) where
        abbrev w : List ℕ
        w = walked (naming (entries_of names)) Start [] (items image)

        yes-named : (x : Expr) → ((l : List Entry) → records_named l (items image) ≡ all_named l x) → all_named (entries_of names) x ≡ true
        yes-named x h = inv (h (entries_of names)) ∙ inv (named (entries_of names) stands) ∙ all

        pub image-long : (r : Printout) → 65536 < n → r ≡ refusal 46 0 → PrintsImage image names area area r
        image-long r h e =
            subst (PrintsImage image names area area) (inv e)
            (record {
              is = λ found x text s.
                  is-no-room found x text names area s.good yes-list (yes-named x s.named)
                  (long-is found x text names area (inl (subst (λ (v : List ℕ). 65536 < length v) (s.texts (naming (entries_of names))) (over_long w n (long (entries_of names) stands) h))));
            })

        module _ (short : n ≤ 65536) where
          n-is : n ≡ length w
          n-is = measured w n (long (entries_of names) stands) short

          pub image-room : (r : Printout) → length area < n → r ≡ refusal 46 0 → PrintsImage image names area area r
          image-room r h e =
              subst (PrintsImage image names area area) (inv e)
              (record {
                is = λ found x text s.
                    is-no-room found x text names area s.good yes-list (yes-named x s.named)
                    (long-is found x text names area (inr (subst (λ (v : List ℕ). length area < length v) (s.texts (naming (entries_of names))) (subst (λ (m : ℕ). length area < m) n-is h))));
              })

          pub image-done : (area' : List ℕ) (m : ℕ) (r : Printout) → n ≤ length area → ((l : List Entry) → Stands names 0 l → Lays area area' 0 m (walked (naming l) Start [] (items image))) → r ≡ done n →
              PrintsImage image names area area' r
          image-done area' m r h k e =
              subst (PrintsImage image names area area') (inv e)
              (record {
                is = λ found x text s.
                    let q : w ≡ text (naming (entries_of names)) = s.texts (naming (entries_of names)) in
                    let i = is-printed found x text names area s.good yes-list (yes-named x s.named)
                    (short-is found x text names area (subst (λ (v : List ℕ). length v ≤ 65536) q (omega (arith, n-is, short))) (subst (λ (v : List ℕ). length v ≤ length area) q (omega (arith, n-is, h)))) in
                    let o : area' ≡ w ++ drop (length w) area = (k (entries_of names) stands).area_is ∙ lay-front area w (omega (arith, n-is, short)) (omega (arith, n-is, h)) in
                    record {
                      answer = ap done (n-is ∙ ap length q) ∙ i.answer;
                      area_is = o ∙ ap (λ (v : List ℕ). v ++ drop (length v) area) q ∙ i.area_is;
                    };
              })

-- A book

nodes-named : (l : List Entry) (e : Expr) (rs : List Record) (x : Expr) → records_named l rs ≡ all_named l x → records_named l (node_records e ++ rs) ≡ all_named l (e ++ x)
nodes-named l [] rs x h = h
nodes-named l (var v ∷ e) rs x h = nodes-named l e rs x h
nodes-named l (sym (constant c) ∷ e) rs x h = ap (λ (b : Bool). some (naming l Constant c) ⇒ b ∣ false) (nodes-named l e rs x h)
nodes-named l (sym (compound f n) ∷ e) rs x h = ap (λ (b : Bool). some (naming l Compound f) ⇒ b ∣ false) (nodes-named l e rs x h)
nodes-named l (sym (predicate p n) ∷ e) rs x h = ap (λ (b : Bool). some (naming l Predicate p) ⇒ b ∣ false) (nodes-named l e rs x h)

book-named : (l : List Entry) (b : Next.Book) → records_named l (book_records b) ≡ all_named l (book_nodes b)
book-named l [] = refl
book-named l (c ∷ b) = nodes-named l (flat (c.head ∷ c.body)) (book_records b) (book_nodes b) (book-named l b)

module _ (book : List ℕ) (bytes : Bytes book) (found : Check) (is : found ≡ book_verdict book) (z : found.code ≡ 0) where
  code : (book_verdict book).code ≡ 0
  code = ap (λ (v : Check). v.code) (inv is) ∙ z

  items-are : items book ≡ book_records (book_of book)
  items-are = records-back book (book_records (book_of book)) (length book) 0 (omega arith) (inv (book_of-good book bytes code).1)

  pub book_image : book ≡ encode (items book)
  book_image = inv (book_of-good book bytes code).1 ∙ ap encode (inv items-are)

  suited : Suited book (book_verdict book) (book_nodes (book_of book)) (λ name. printed name (book_of book))
  suited =
      record {
        good = code;
        named = λ l. ap (records_named l) items-are ∙ book-named l (book_of book);
        texts = λ name. ap (walked name Start []) items-are ∙ walked-is name (book_of book) (book_of-good book bytes code).0;
      }

  pub book-printed : (names area area' : List ℕ) (r : Printout) → PrintsImage book names area area' r → (r ≡ print_answer book names area) × (area' ≡ print_area book names area)
  book-printed names area area' r p = let i = p.is (book_verdict book) (book_nodes (book_of book)) (λ name. printed name (book_of book)) suited in (i.answer, i.area_is)

pub book-refused : (book names area : List ℕ) (found : Check) (r : Printout) → found ≡ book_verdict book → (found.code ≡ 0 → ⊥) → r ≡ refusal found.code found.place →
    (r ≡ print_answer book names area) × (area ≡ print_area book names area)
book-refused book names area found r e n f =
    let i = is-not-good (book_verdict book) (book_nodes (book_of book)) (λ name. printed name (book_of book)) names area (λ z. n (ap (λ (v : Check). v.code) e ∙ z)) in
    (f ∙ ap (λ (v : Check). refusal v.code v.place) e ∙ i.answer, i.area_is)

-- A goal, or an answer

-- the image of formulas within a goal's sizes
module _ (found : Check) (goal : List ℕ) (formulas : AreFormulas (goal_of goal)) (size : nodes (goal_of goal) ≤ 4096) (image : encode_goal (goal_of goal) ≡ goal) where
  goal-items : items goal ≡ goal_records (goal_of goal)
  goal-items = records-back goal (goal_records (goal_of goal)) (length goal) 0 (omega arith) (inv image)

  formulas-image : goal ≡ encode (items goal)
  formulas-image = inv image ∙ ap encode (inv goal-items)

  goal-named : (l : List Entry) → records_named l (goal_records (goal_of goal)) ≡ all_named l (flat (goal_of goal))
  goal-named l =
      ap (records_named l) (inv (append-nil (node_records (flat (goal_of goal)))))
      ∙ nodes-named l (flat (goal_of goal)) [] [] refl ∙ ap (all_named l) (append-nil (flat (goal_of goal)))

  formulas-suited : found.code ≡ 0 → Suited goal found (flat (goal_of goal)) (λ name. printed_goal name (goal_of goal))
  formulas-suited z =
      record {
        good = z;
        named = λ l. ap (records_named l) goal-items ∙ goal-named l;
        texts = λ name. ap (walked name Start []) goal-items ∙ goal-walked name (goal_of goal) formulas (omega (arith, flat-size (goal_of goal), size));
      }

module _ (goal names area : List ℕ) (found : Check) where
  abbrev Told : Check → Printout → List ℕ → Type 0
  Told c r s =
      (r ≡ outcome c (flat (goal_of goal)) (λ name. printed_goal name (goal_of goal)) names area)
      × (s ≡ outcome_area c (flat (goal_of goal)) (λ name. printed_goal name (goal_of goal)) names area)

  formulas-printed : (area' : List ℕ) (r : Printout) → Suited goal found (flat (goal_of goal)) (λ name. printed_goal name (goal_of goal)) → PrintsImage goal names area area' r → Told found r area'
  formulas-printed area' r s p = let i = p.is found (flat (goal_of goal)) (λ name. printed_goal name (goal_of goal)) s in (i.answer, i.area_is)

  pub formulas-refused : (v : Check) (r : Printout) → found ≡ v → (found.code ≡ 0 → ⊥) → r ≡ refusal found.code found.place → Told v r area
  formulas-refused v r e n f =
      let i = is-not-good v (flat (goal_of goal)) (λ name. printed_goal name (goal_of goal)) names area (λ z. n (ap (λ (c : Check). c.code) e ∙ z)) in
      (f ∙ ap (λ (c : Check). refusal c.code c.place) e ∙ i.answer, i.area_is)

module _ (book goal : List ℕ) (bytes : Bytes goal) (found : Check) (z : found.code ≡ 0) where
  module _ (is : found ≡ query_verdict book goal) where
    query-code : (query_verdict book goal).code ≡ 0
    query-code = ap (λ (v : Check). v.code) (inv is) ∙ z

    good : GoodGoal (goal_of goal) × (encode_goal (goal_of goal) ≡ goal)
    good = let q = goal_of-good book goal bytes query-code in (q.0, q.1)

    pub goal_image : goal ≡ encode (items goal)
    goal_image = formulas-image found goal good.0.formulas good.0.fitting.size good.1

    pub goal-printed : (names area area' : List ℕ) (r : Printout) → PrintsImage goal names area area' r → (r ≡ goal_answer book goal names area) × (area' ≡ goal_area book goal names area)
    goal-printed names area area' r p =
        formulas-printed goal names area (query_verdict book goal) area' r (formulas-suited (query_verdict book goal) goal good.0.formulas good.0.fitting.size good.1 query-code) p

  module _ (is : found ≡ answer_verdict book goal) where
    answer-code : (answer_verdict book goal).code ≡ 0
    answer-code = ap (λ (v : Check). v.code) (inv is) ∙ z

    meant : GoodFound goal
    meant = found-good book goal bytes answer-code

    pub answer_image : goal ≡ encode (items goal)
    answer_image = formulas-image found goal meant.formulas meant.size meant.image

    pub answer-printed : (names area area' : List ℕ) (r : Printout) → PrintsImage goal names area area' r → (r ≡ found_answer book goal names area) × (area' ≡ found_area book goal names area)
    answer-printed names area area' r p =
        formulas-printed goal names area (answer_verdict book goal) area' r (formulas-suited (answer_verdict book goal) goal meant.formulas meant.size meant.image answer-code) p
