use Rattle.relisting.proofs.Whole.{sort-inside, sort-first, sort-start, sort-puts, sort-counted, sort-written}
use borrow.Author.Rules.{rules}
use Rattle.relisting.proofs.put_sort.Goals as goal

pub put_bytes-requires : goal.put_bytes-requires
put_bytes-requires c = (sort-inside _ _ _ _ _ c.requires, sort-first _ _ _ _ _ c.requires)

pub slice_bounds-rest-count : goal.slice_bounds-rest-count
slice_bounds-rest-count c = let z = sort-start _ _ _ _ _ c.requires _ c.put_bytes.ensures in search rules

pub slice_bounds-rest-start : goal.slice_bounds-rest-start
slice_bounds-rest-start c = let z = sort-start _ _ _ _ _ c.requires _ c.put_bytes.ensures in search rules

pub put_own-requires : goal.put_own-requires
put_own-requires c = sort-puts _ _ _ _ _ c.requires _ c.put_bytes.ensures

pub overflow_add-result : goal.overflow_add-result
overflow_add-result c = let z = sort-counted _ _ _ _ _ c.requires _ c.put_bytes.ensures _ _ c.put_own.ensures in search rules

pub returns : goal.returns
returns c = sort-written _ _ _ _ _ c.requires _ c.put_bytes.ensures _ _ c.put_own.ensures
