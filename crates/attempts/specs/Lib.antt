-- A clause tried on the heap (Trying), clauses passed over (Passing), and a fact that needs no trial (Facts).
pub mod Facts
pub mod Trying
pub mod Passing
