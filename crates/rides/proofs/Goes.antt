-- A ride from state to state.
use Prim.Native.Nat.{ℕ, ◌+◌, ◌≤◌, ◌<◌}
use native.Mathlib.Omega.{arith}
use mathlib.Core.Path.{◌≡◌, sym as inv, ap, ◌∙◌, subst}
use mathlib.Core.Bool.{Bool, true, false}
use mathlib.Core.List.{List, ◌∷◌}
use lib.ListN.{length, take}
use lib.Seq.{take-take}
use Rattle.terms.specs.Node.{Expr}
use Rattle.search.specs.Next.{Book, Goal}
use Rattle.search.specs.Answer.{next_answer}
use Rattle.words.specs.Word.{Fits, nodes}
use Rattle.words.specs.Held.{BookOn}
use Rattle.matching.specs.TrialLaws.{Free}
use Rattle.detector.specs.Detecting.{due}
use Rattle.states.specs.States.{Keeps}
use Rattle.states.specs.Visiting.{Visits, Saves}
use Rattle.states.proofs.Copies.{copied-length, copied-front}
use Rattle.states.proofs.Visits.{visited, no_loop, visits-after, moved-step}
use Rattle.heapgoals.specs.Holding.{Holds}
use Rattle.heapgoals.specs.declared.Standing.{Standing}
use Rattle.treads.specs.Stepping.{Treads}
use Rattle.rides.specs.Riding.{Starts, StandingAt, Went, Drawn, ForeseenFrom, KeepsSome, Something, onward_of}
use Rattle.std.specs.declared.option.Option.{Option}
use Rattle.std.specs.declared.option.Option.TheVariants.{None, Some}
use Rattle.rides.specs.declared.Start.{Start}
use Rattle.rides.specs.declared.Come.{Come}
use Rattle.rides.specs.declared.looking.Along.{Along}
use Rattle.rides.specs.declared.looking.Ahead.{Ahead}

-- a state of the search that is held on the heap
pub record Comes (P : Book) (q : Goal) (words cells levels saved : List ℕ) (s : Standing) (x : Along) : Type 0 where
  pub goal : Goal
  pub answer : Goal
  pub visits : Visits P q x.budget saved x.detector x.kept goal answer
  pub holds : Holds words cells levels s goal answer

-- what is known of every book and query that a ride may have started from
abbrev pub From : List ℕ → List ℕ → List ℕ → List ℕ → Start → (Book → Goal → Type 0) → Type 0
From book shelf words saved start X = (P : Book) (q : Goal) → BookOn book shelf P → Starts P q words saved start → X P q

abbrev pub Somewhere : List ℕ → List ℕ → List ℕ → List ℕ → Start → Type 0
Somewhere book shelf words saved start = (P : Book) × (q : Goal) × BookOn book shelf P × Starts P q words saved start

abbrev pub along : Start → Along
along start = record { detector = start.place.detector; kept = start.place.kept; budget = start.budget }

-- the state at the start
pub comes-first : (book shelf words cells levels saved : List ℕ) (start : Start) (s : Standing) → StandingAt words start s → Free cells → length cells ≡ 8256 → length levels ≡ 1028
    → From book shelf words saved start (λ P q. Comes P q words cells levels saved s (along start))
comes-first book shelf words cells levels saved start s h free cl ll P q b y = record {
  goal = y.opens.formula ∷ y.opens.rest;
  answer = _;
  visits = visited y.opens.here (y.opens.formula ∷ y.opens.rest) y.opens.is;
  holds = h P q saved y cells levels free cl ll;
}

-- fewer words of the front
pub front_less : {n m : ℕ} (a b : List ℕ) → n ≤ m → take m a ≡ take m b → take n a ≡ take n b
front_less {n} {m} a b l e = inv (take-take n m a l) ∙ ap (take n) e ∙ take-take n m b l

-- the formula is saved
pub saves : (f : Expr) (out saved saved' : List ℕ) (n k r : ℕ) (b : Bool) → n ≤ length out → n ≤ length saved → Keeps out n saved k b saved' r → Drawn f out n b → Saves f saved k b saved' r
saves f out saved saved' n k r true l m (z, e) d =
    let front : take n saved' ≡ take n out = copied-front out saved saved' n l z in
    rw e (ap nodes front ∙ d.0, subst (Fits 4096) (inv front) d.1, d.2, omega (arith, m, copied-length out saved saved' n l m z))
saves f out saved saved' n k r false l m h d = h

module _ (book shelf words₀ saved₀ : List ℕ) (start : Start) (words cells levels saved : List ℕ) (s : Standing) (x : Along)
    (there : Somewhere book shelf words₀ saved₀ start) (comes : From book shelf words₀ saved₀ start (λ P q. Comes P q words cells levels saved s x)) where
  abbrev here : Comes there.0 there.1 words cells levels saved s x
  here = comes there.0 there.1 there.2 there.3

  pub comes-kept : KeepsSome saved x.kept
  comes-kept = (here.visits.state.saved, here.visits.keeps)

  pub comes-something : Something words cells levels s
  comes-something = (here.goal, here.answer, here.holds)

  pub comes-few : s.formulas ≤ 512
  comes-few = here.holds.few

  module _ (levels' : List ℕ) (held : (g a : Goal) → Holds words cells levels s g a → Holds words cells levels' s g a) where
    pub held-something : Something words cells levels' s
    held-something = (here.goal, here.answer, held here.goal here.answer here.holds)

    -- the ride ends here
    pub held-went : (since : ℕ) (out : List ℕ) (r : Option Come) → x.budget ≡ start.budget
        → ((P : Book) (q : Goal) (saved : List ℕ) (g a : Goal) → Visits P q x.budget saved x.detector x.kept g a → Holds words cells levels' s g a → Went P q x.budget since saved out r)
        → From book shelf words₀ saved₀ start (λ P q. Went P q start.budget since saved out r)
    held-went since out r e went P q b y =
        let c = comes P q b y in
        subst (λ n. Went P q n since saved out r) e (went P q saved c.goal c.answer c.visits (held c.goal c.answer c.holds))

    -- it goes on
    module _ (out : List ℕ) (ahead : Ahead) (foreseen : (g a : Goal) → Holds words cells levels s g a → ForeseenFrom saved out x g ahead) where
      abbrev Steps : Goal → Goal → Type 0
      Steps g a = (f : Expr) × (r : Goal) × (g ≡ f ∷ r) × Holds words cells levels' s (f ∷ r) a

      first : (g a : Goal) → Holds words cells levels s g a → Steps g a
      first g a h = let (f, r, e, z) = foreseen g a h in (f, r, e, subst (λ y. Holds words cells levels' s y a) e (held g a h))

      pub step-asks : (P : Book) × (f : Expr) × (g : Goal) × (a : Goal) × BookOn book shelf P × Holds words cells levels' s (f ∷ g) a
      step-asks = let (f, r, e, h) = first here.goal here.answer here.holds in (there.0, f, r, here.answer, there.2, h)

      pub step-allowed : x.detector.step < x.budget
      step-allowed = let (f, r, e, z) = foreseen here.goal here.answer here.holds in omega (arith, z.apart.allowed, here.visits.allowed)

      module _ (words' cells' levels'' : List ℕ) (t : Option Standing)
          (trod : (P : Book) (f : Expr) (g a : Goal) → BookOn book shelf P → Holds words cells levels' s (f ∷ g) a → Treads P f g a words' cells' levels'' s t) where
        -- no step is made
        stays : t ≡ None → From book shelf words₀ saved₀ start (λ P q. Comes P q words' cells' levels'' saved s x)
        stays i P q b y =
            let c = comes P q b y in
            let (f, r, e, h) = first c.goal c.answer c.holds in
            record {
              goal = f ∷ r;
              answer = c.answer;
              visits = subst (λ g. Visits P q x.budget saved x.detector x.kept g c.answer) e c.visits;
              holds = subst (Treads P f r c.answer words' cells' levels'' s) i (trod P f r c.answer b h);
            }

        pub stays-something : t ≡ None → Something words' cells' levels'' s
        stays-something i = let c = stays i there.0 there.1 there.2 there.3 in (c.goal, c.answer, c.holds)

        pub stays-went : t ≡ None → (since : ℕ) (out' : List ℕ) (r : Option Come) → x.budget ≡ start.budget
            → ((P : Book) (q : Goal) (saved : List ℕ) (g a : Goal) → Visits P q x.budget saved x.detector x.kept g a → Holds words' cells' levels'' s g a → Went P q x.budget since saved out' r)
            → From book shelf words₀ saved₀ start (λ P q. Went P q start.budget since saved out' r)
        stays-went i since out' r e went P q b y =
            let c = stays i P q b y in
            subst (λ n. Went P q n since saved out' r) e (went P q saved c.goal c.answer c.visits c.holds)

        -- one is made, and the formula before it saved if that is due
        module _ (next : Standing) (went : t ≡ Some next) (saved' : List ℕ) (k : ℕ) (small : ahead.kept ≤ length out) (room : ahead.kept ≤ length saved)
            (kept : Keeps out ahead.kept saved x.kept ahead.due saved' k) (x' : Along) (is : x' ≡ onward_of x start.budget k s.formulas ahead.due) (same : x.budget ≡ start.budget) where
          abbrev y' : Along
          y' = onward_of x start.budget k s.formulas ahead.due

          goes : From book shelf words₀ saved₀ start (λ P q. Comes P q words' cells' levels'' saved' next y')
          goes P q b y =
              let c = comes P q b y in
              let (f, r, e, z) = foreseen c.goal c.answer c.holds in
              let a = c.answer in
              let v : Visits P q x.budget saved x.detector x.kept (f ∷ r) a = subst (λ g. Visits P q x.budget saved x.detector x.kept g a) e c.visits in
              let many : s.formulas ≡ length (f ∷ r) = c.holds.many ∙ ap length e in
              let (h, to, fit, little, held', higher) = subst (Treads P f r a words' cells' levels'' s) went (trod P f r a b (subst (λ g. Holds words cells levels' s g a) e (held c.goal a c.holds))) in
              record {
                goal = h;
                answer = next_answer P (f ∷ r) a;
                visits =
                    subst (λ n. Visits P q n saved' y'.detector k h (next_answer P (f ∷ r) a)) same
                    (visits-after v s.formulas many (no_loop v z.apart.other) (omega (arith, z.apart.allowed, v.allowed)) h to fit little ahead.due (z.due_is ∙ ap (due x.detector) (inv many)) saved' k
                    (saves f out saved saved' ahead.kept x.kept k ahead.due small room kept z.drawn));
                holds = held';
              }

          pub goes_on : From book shelf words₀ saved₀ start (λ P q. Comes P q words' cells' levels'' saved' next x')
          goes_on P q b y = subst (λ (i : Along). Comes P q words' cells' levels'' saved' next i) (inv is) (goes P q b y)

          pub goes-top : s.top ≤ next.top
          goes-top =
              let (f, r, e, h) = first here.goal here.answer here.holds in
              (subst (Treads there.0 f r here.answer words' cells' levels'' s) went (trod there.0 f r here.answer there.2 h)).5

          pub goes_step : x'.detector.step ≡ x.detector.step + 1
          goes_step = ap (λ (i : Along). i.detector.step) is ∙ moved-step ahead.due x.detector s.formulas

          pub goes-budget : x'.budget ≡ start.budget
          goes-budget = ap (λ (i : Along). i.budget) is
