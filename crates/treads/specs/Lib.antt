-- The step by a clause that is tried on the heap (Stepping); what its body adds (Adding).
pub mod Stepping
pub mod Adding
