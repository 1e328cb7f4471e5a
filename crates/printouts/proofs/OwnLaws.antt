-- C-13's own list is a name list.
use Rattle.std.specs.Prelude.{◌≤◌, List, [], length}
use Rattle.std.proofs.Common.{arith}
use Rattle.grammar.specs.Names.{Sort, list_of, text_spots, names}
use Rattle.grammar.specs.Syntax.{Rule}
use Rattle.namelist.specs.List.{IsList}
use Rattle.namelist.specs.Table.{EachFit, table_entries, table-list}
use Rattle.namelist.specs.Growing.{none_after}

pub own-list : (cs : List Rule) → ((k : Sort) → length (names cs k) ≤ 65536) → ((k : Sort) → EachFit (names cs k)) → IsList (list_of (names cs)) (table_entries (names cs))
own-list cs few fit = table-list 65536 (names cs) (record { few = few; fit = fit; apart = λ k. none_after k [] (text_spots cs) tt }) (omega arith)
