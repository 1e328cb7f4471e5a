use Rattle.relisting.proofs.Parts.{first-stands, second-stands, list-first, list-start, list-second, list-sum, list_start₂, list-third, list_written}
use mathlib.Core.Path.{refl}
use native.Mathlib.Omega.{arith}
use borrow.Author.Rules.{rules}
use Rattle.relisting.proofs.put_list.Goals as goal

pub skip-x-requires : goal.skip-x-requires
skip-x-requires c = first-stands _ _ _ (λ i. omega (arith, c.type_inv.names i)) _ _ _ c.requires.relists

pub skip-y-requires : goal.skip-y-requires
skip-y-requires c = second-stands _ _ _ (λ i. omega (arith, c.type_inv.names i)) _ _ _ c.requires.relists _ c.skip-x.ensures

pub put_sort-a-requires : goal.put_sort-a-requires
put_sort-a-requires c = list-first _ _ _ (λ i. omega (arith, c.type_inv.names i)) _ _ _ c.requires.relists _ c.skip-x.ensures _ c.skip-y.ensures _ _ _ c.constants_part.ensures refl refl _ c.requires.room

pub slice_bounds-rest-count : goal.slice_bounds-rest-count
slice_bounds-rest-count c = let z = list-start _ _ _ (λ i. omega (arith, c.type_inv.names i)) _ _ _ c.requires.relists _ c.skip-x.ensures _ c.skip-y.ensures _ _ _ c.constants_part.ensures refl refl _ c.requires.room _ _ c.put_sort-a.ensures in search rules

pub slice_bounds-rest-start : goal.slice_bounds-rest-start
slice_bounds-rest-start c = let z = list-start _ _ _ (λ i. omega (arith, c.type_inv.names i)) _ _ _ c.requires.relists _ c.skip-x.ensures _ c.skip-y.ensures _ _ _ c.constants_part.ensures refl refl _ c.requires.room _ _ c.put_sort-a.ensures in search rules

pub put_sort-b-requires : goal.put_sort-b-requires
put_sort-b-requires c = list-second _ _ _ (λ i. omega (arith, c.type_inv.names i)) _ _ _ c.requires.relists _ c.skip-x.ensures _ c.skip-y.ensures _ _ _ c.constants_part.ensures c.compounds_part.ensures refl _ c.requires.room _ _ c.put_sort-a.ensures

pub overflow_add-end : goal.overflow_add-end
overflow_add-end c = let z = list-sum _ _ _ (λ i. omega (arith, c.type_inv.names i)) _ _ _ c.requires.relists _ c.skip-x.ensures _ c.skip-y.ensures _ _ _ c.constants_part.ensures c.compounds_part.ensures refl _ c.requires.room _ _ c.put_sort-a.ensures _ _ _ c.put_sort-b.ensures refl in record { fits = omega (arith, z, c.requires.low) }

pub slice_bounds-last-count : goal.slice_bounds-last-count
slice_bounds-last-count c = let z = list_start₂ _ _ _ (λ i. omega (arith, c.type_inv.names i)) _ _ _ c.requires.relists _ c.skip-x.ensures _ c.skip-y.ensures _ _ _ c.constants_part.ensures c.compounds_part.ensures refl _ c.requires.room _ _ c.put_sort-a.ensures _ _ _ c.put_sort-b.ensures refl in search rules

pub slice_bounds-last-start : goal.slice_bounds-last-start
slice_bounds-last-start c = let z = list_start₂ _ _ _ (λ i. omega (arith, c.type_inv.names i)) _ _ _ c.requires.relists _ c.skip-x.ensures _ c.skip-y.ensures _ _ _ c.constants_part.ensures c.compounds_part.ensures refl _ c.requires.room _ _ c.put_sort-a.ensures _ _ _ c.put_sort-b.ensures refl in search rules

pub put_sort-requires : goal.put_sort-requires
put_sort-requires c = list-third _ _ _ (λ i. omega (arith, c.type_inv.names i)) _ _ _ c.requires.relists _ c.skip-x.ensures _ c.skip-y.ensures _ _ _ c.constants_part.ensures c.compounds_part.ensures c.predicates_part.ensures _ c.requires.room _ _ c.put_sort-a.ensures _ _ _ c.put_sort-b.ensures refl

pub overflow_add-result : goal.overflow_add-result
overflow_add-result c = let z = list_written _ _ _ (λ i. omega (arith, c.type_inv.names i)) _ _ _ c.requires.relists _ c.skip-x.ensures _ c.skip-y.ensures _ _ _ c.constants_part.ensures c.compounds_part.ensures c.predicates_part.ensures _ c.requires.room _ _ c.put_sort-a.ensures _ _ _ c.put_sort-b.ensures refl _ _ c.put_sort.ensures in record { fits = omega (arith, z.count, c.requires.low) }

pub returns : goal.returns
returns c = λ own h room. list_written _ _ _ (λ i. omega (arith, c.type_inv.names i)) _ _ own h _ c.skip-x.ensures _ c.skip-y.ensures _ _ _ c.constants_part.ensures c.compounds_part.ensures c.predicates_part.ensures _ room _ _ c.put_sort-a.ensures _ _ _ c.put_sort-b.ensures refl _ _ c.put_sort.ensures
