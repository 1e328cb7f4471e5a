-- Proofs about the items and the sum.
pub mod Items
pub mod Sums
