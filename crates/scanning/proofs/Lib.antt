-- What the proofs of the functions share.
pub mod Records  -- one record
pub mod Meetings  -- records one by one
pub mod Books  -- the records of a book and of a goal
