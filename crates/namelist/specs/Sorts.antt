-- The sorts of symbols (grammar, Names: `Sort`).
use Rattle.grammar.specs.Names as Names
use Rattle.namelist.specs.declared.Sort.{Sort}
use Rattle.namelist.specs.declared.Sort.TheVariants.{Constant, Compound, Predicate}

abbrev pub sort_named : Sort → Names.Sort
sort_named Constant = Names.Constant
sort_named Compound = Names.Compound
sort_named Predicate = Names.Predicate
