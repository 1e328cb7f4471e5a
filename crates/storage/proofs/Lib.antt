-- Words: an area filled from its front, loading, writing. Theorems for those who use them:
--   Image      the bytes of a goal's words are its image, and have room; which goals can be written
--   Clauses    each clause of a stored book is found by its number
pub mod Filling
pub mod Loading
pub mod BookLoading
pub mod Image
pub mod Clauses
pub mod Ending
pub mod Placing
pub mod Writing
