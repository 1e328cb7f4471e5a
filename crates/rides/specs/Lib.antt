-- Several steps of a run on the heap.
pub mod Riding
