use native.Mathlib.Omega.{arith}
use Rattle.nametable.proofs.Numbers.{room-less, known-number, new-number}
use Rattle.nametable.proofs.number.Goals as goal

pub find-requires : goal.find-requires
find-requires c = record { by_index = c.requires.by_index; room = room-less _ c.requires.room; len_in_bounds = c.requires.len_in_bounds.0 }

pub returns-in-Some : goal.returns-in-Some
returns-in-Some c = λ names t. known-number names _ t _ _ (c.in-Some.ensures names t).0 (c.in-Some.ensures names t).1

pub returns : goal.returns
returns c = λ names t. new-number names _ t _ _ _ _ c.requires.room c.requires.len_in_bounds.0 c.add.ensures c.hash-h.ensures.0 c.hash-h.ensures.1 (c.in_default.ensures names t) (omega arith)
