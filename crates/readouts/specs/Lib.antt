-- What reading a text answers and what that means (document 02, C-13 and C-18): where a formula stands (Place), the first that uses a predicate number with another arity (Clash), the
-- answer and the areas (Outcome). What is proved of it, in proofs/:
--   OutcomeLaws   what is computed is what is told (`outcome-reads`), and nothing else is (`read_once`)
--   Good          a book that is read is good (`read-checked`), and its names are a name list (`read_names`)
--   Back          what is printed is read as the same book, renumbered one to one (`printed-then-read`); read, printed and read again, it is as it was (`read-printed-read`)
pub mod Place
pub mod Clash
pub mod Outcome
pub mod Is
