-- The theorems on the checks, and what they share with the proofs of the functions. They are:
--   Meaning    a check answers 0 just where its input is the image of a good book that keeps one arity, or of a good goal that keeps one with its book, and then with its
--              clauses, or its nodes, as the count
--   Refusals   a check answers another code, with a place, just where its input is faulty there with that code; an input is good or has one fault
--   Decoding   an image is that of one book, or goal, only: of the one that `book_of`, or `goal_of`, computes
--   Premises   goodness gives what the theorems of the crate `search` ask for
--   Longest    a good query has 16,386 bytes at most
-- That no two outcomes satisfy a contract is in specs/Once.

-- The tests of a record, and the walk over the records.
pub mod Tests
pub mod Taken
pub mod Going
pub mod Codes
-- What a check's answer means: records and bytes; what may still come in a state; sizes and numbers; the first fault.
pub mod Items
pub mod Encoded
pub mod Numbering
pub mod Owed
pub mod Stepping
pub mod Beginnings
pub mod Told
pub mod Sizes
pub mod Keeping
pub mod GoodSizes
pub mod Tested
pub mod Failing
pub mod Standing
pub mod Answers
pub mod Lengths
pub mod Meaning
pub mod Refusals
pub mod Premises
pub mod Decoding
pub mod Longest
