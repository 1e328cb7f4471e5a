-- The reader on bytes: what a token does (Effect), what is held of the book (Kept), one pass over a text (Walking) from empty storage on (Start), and what it ends with: the
-- book's bytes (Book), and what the definition reads the text as (Outcome).
pub mod Effect
pub mod Kept
pub mod Walking
pub mod Start
pub mod Book
pub mod Outcome
