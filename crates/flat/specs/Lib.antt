-- Flat books (document 02, C-20): what they are (Flat), that the path stays flat (FlatLaws), the formulas that there are (Formulas). In proofs/: how few they are, and that
-- every path ends or passes a primitive cyclic goal (Theorem).
pub mod Flat
pub mod FlatLaws
pub mod Doubling
pub mod Formulas
