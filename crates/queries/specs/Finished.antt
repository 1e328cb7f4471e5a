-- What is held when a query's text is laid down.
use Rattle.std.specs.Prelude.{ℕ, ◌≡◌, List, [], length}
use Rattle.format.specs.Reading.{book_verdict}
use Rattle.grammar.specs.Syntax.{Formula}
use Rattle.asking.specs.Accepted.{Accepted}
use Rattle.questions.specs.Given.{given_from}
use Rattle.questions.specs.Outcome.{uses, suited}
use Rattle.known.specs.declared.Known.{Known}
use Rattle.laying.specs.declared.Draft.{Draft}
use Rattle.laying.specs.PageLaws.{spots_all, formulas_bytes}
use Rattle.laying.specs.Words.{Kept, Knowing}
use Rattle.laying.specs.Adding.{Laid}

-- book, list and text are good
pub record Ready (text book names : List ℕ) (g : Known) : Type 0 where
  pub good : (book_verdict book).code ≡ 0
  pub knowing : Knowing names g
  pub formulas : List Formula
  pub accepted : Accepted text formulas

-- and the query's nodes stand in front
pub record Read (text book names table out : List ℕ) (g : Known) (d : Draft) : Type 0 where
  pub good : (book_verdict book).code ≡ 0
  pub knowing : Knowing names g
  pub laid : Laid text names table out d

-- by themselves, and each predicate has the arity that it had before
pub record Finished (text book names table nodes : List ℕ) (g : Known) (d : Draft) : Type 0 where
  pub good : (book_verdict book).code ≡ 0
  pub knowing : Knowing names g
  pub formulas : List Formula
  pub accepted : Accepted text formulas
  pub kept : Kept (given_from names) text table d (spots_all [] formulas)
  pub nodes_are : nodes ≡ formulas_bytes (given_from names) [] formulas
  pub count : d.formulas ≡ length formulas
  pub all_suit : suited text book (given_from names) formulas ≡ length (uses text book (given_from names) formulas)

pub record SomeFinished (text names table nodes : List ℕ) (g : Known) (d : Draft) : Type 0 where
  pub book : List ℕ
  pub finished : Finished text book names table nodes g d
