-- What the proofs of the functions share, and the theorems on them, which are:
--   Refusals   a flat check answers another code than 0, with a place, just where its input is faulty there with that code (Faulty), and 0 just where its input is the
--              image of a good book, or of a good goal, without a compound term; an input is good or has one fault
--   Paths      the path of a good flat query by its good flat book stays flat, of the symbols of the two, and its run without limits closes
-- That the counts are those of distinct predicates and constants is in CountLaws, that no two outcomes satisfy a contract in Once.

-- The scan for a compound record, how far the plain check comes, and the first fault.
pub mod Scanning
pub mod Places
pub mod Rights
pub mod Answers
pub mod Refusals
-- Counting by marks; each answer of the functions.
pub mod Marking
pub mod Flattened
pub mod Paths
pub mod Cases
pub mod CountLaws
pub mod Faulty
pub mod Once
pub mod Plain
