-- The flat profile (document 02, C-20): how many distinct predicates and constants a book has (Counts); what the checks answer (Profile); what is marked while they are counted (Marks).
-- In proofs/: no compound term (Plain); what a refusal means (Faulty); the laws of the counts (CountLaws); cases (Cases); and that a contract has one outcome (Once).
pub mod Counts
pub mod Marks
pub mod Profile
