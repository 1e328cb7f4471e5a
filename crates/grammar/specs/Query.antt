-- Queries as text: the same tokens, formulas separated by commas, a full stop at the end allowed; against a list of names, with new names numbered after it.
use Rattle.std.specs.Prelude.{ℕ, ◌≤◌, ◌≡◌, refl, List, [], ◌∷◌, length}
use Rattle.std.proofs.Common.{sym as inv, ap, ap₂, ◌∙◌, arith}
use Rattle.search.specs.Next as Next
use Rattle.grammar.specs.Token.{Token, comma, stop, Spells}
use Rattle.grammar.specs.TokenLaws.{spells_one}
use Rattle.grammar.specs.Syntax.{Formula, formula_then}
use Rattle.grammar.specs.SyntaxLaws.{Shut, formula-one}
use Rattle.grammar.specs.Names.{Sort, formulas_spots, names_after, numbered_all, list_of}
use Rattle.grammar.specs.Reading.{SmallFormulas}

-- formulas behind one, each behind a comma
abbrev pub more_then : List Formula → List Token → List Token
more_then [] r = r
more_then (f ∷ fs) r = comma ∷ formula_then f (more_then fs r)

-- "a full stop at the end allowed"
pub data End : Type 0 where
  open_end : End
  full_stop : End

abbrev pub ends_with : End → List Token
ends_with open_end = []
ends_with full_stop = stop ∷ []

-- a goal of no formula is written with no token
abbrev pub asked : List Formula → End → List Token
asked [] z = []
asked (f ∷ fs) z = formula_then f (more_then fs (ends_with z))

pub record Asks (text : List ℕ) (fs : List Formula) : Type 0 where
  pub ending : End
  pub spelt : Spells text (asked fs ending)

-- The names of the list, by their numbers, and those that are new behind them

abbrev pub Given : Type 0
Given = Sort → List (List ℕ)

abbrev pub names_with : Given → List Formula → Given
names_with given fs k = names_after k (given k) (formulas_spots fs)

abbrev pub goal : Given → List Formula → Next.Goal
goal given fs = numbered_all (names_with given fs) [] fs

-- "Goal: 512 formulas, 4,096 nodes"
pub record SizedQuery (fs : List Formula) : Type 0 where
  pub few : length fs ≤ 512
  pub formulas : SmallFormulas fs
  pub nodes : length (formulas_spots fs) ≤ 4096

pub record ReadingQuery (given : Given) (text : List ℕ) (g : Next.Goal) (list : List ℕ) : Type 0 where
  pub formulas : List Formula
  pub asks : Asks text formulas
  pub sized : SizedQuery formulas
  pub short : length text ≤ 65536
  pub goal_is : g ≡ goal given formulas
  pub list_is : list ≡ list_of (names_with given formulas)

-- One reading

more-shut : (fs : List Formula) (z : End) → Shut (more_then fs (ends_with z))
more-shut [] open_end = tt
more-shut [] full_stop = refl
more-shut (f ∷ fs) z = refl

more-one : (fs gs : List Formula) (y z : End) → more_then fs (ends_with y) ≡ more_then gs (ends_with z) → fs ≡ gs
more-one [] [] y z e = refl
more-one [] (g ∷ gs) open_end z e = let w : ◌≡◌ {A = ℕ} 0 1 = cc in absurd (omega arith)
more-one [] (g ∷ gs) full_stop z e = let w : ◌≡◌ {A = ℕ} 0 1 = cc in absurd (omega arith)
more-one (f ∷ fs) [] y open_end e = let w : ◌≡◌ {A = ℕ} 0 1 = cc in absurd (omega arith)
more-one (f ∷ fs) [] y full_stop e = let w : ◌≡◌ {A = ℕ} 0 1 = cc in absurd (omega arith)
more-one (f ∷ fs) (g ∷ gs) y z e =
    let h = formula-one f g (more_then fs (ends_with y)) (more_then gs (ends_with z)) (more-shut fs y) (more-shut gs z) (cc) in
    ap₂ ◌∷◌ h.0 (more-one fs gs y z h.1)

asked-one : (fs gs : List Formula) (y z : End) → asked fs y ≡ asked gs z → fs ≡ gs
asked-one [] [] y z e = refl
asked-one [] (g ∷ gs) y z e = let w : ◌≡◌ {A = ℕ} 0 1 = cc in absurd (omega arith)
asked-one (f ∷ fs) [] y z e = let w : ◌≡◌ {A = ℕ} 0 1 = cc in absurd (omega arith)
asked-one (f ∷ fs) (g ∷ gs) y z e =
    let h = formula-one f g (more_then fs (ends_with y)) (more_then gs (ends_with z)) (more-shut fs y) (more-shut gs z) e in
    ap₂ ◌∷◌ h.0 (more-one fs gs y z h.1)

pub asks-one : {text : List ℕ} (fs gs : List Formula) → Asks text fs → Asks text gs → fs ≡ gs
asks-one fs gs p q = asked-one fs gs p.ending q.ending (spells_one p.spelt q.spelt)

pub query-one : {given : Given} {text list list' : List ℕ} {g g' : Next.Goal} → ReadingQuery given text g list → ReadingQuery given text g' list' → (g ≡ g') × (list ≡ list')
query-one {given} p q =
    let same = asks-one p.formulas q.formulas p.asks q.asks in (
      p.goal_is ∙ ap (goal given) same ∙ inv q.goal_is,
      p.list_is ∙ ap (λ (fs : List Formula). list_of (names_with given fs)) same ∙ inv q.list_is,
    )
