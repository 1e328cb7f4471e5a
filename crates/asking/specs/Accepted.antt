-- What a text is that is read as a query.
use Rattle.std.specs.Prelude.{ℕ, ◌≤◌, List, length}
use Rattle.grammar.specs.Syntax.{Formula}
use Rattle.grammar.specs.Query.{Asks, SizedQuery}

pub record Accepted (text : List ℕ) (fs : List Formula) : Type 0 where
  pub asks : Asks text fs
  pub sized : SizedQuery fs
  pub short : length text ≤ 65536
