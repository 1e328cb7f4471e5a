-- What reading a query's text against a book and its name list answers (Outcome), and what that means. What is proved of it, in proofs/:
--   OutcomeLaws   told by what books, lists and texts are, it is the same (`outcome-reads`), and one outcome (`read_once`); what is read is good by its book
--                 (`query-checked`), its list is in C-13's form (`list-formed`), and the given names keep their numbers (`names-stay`)
--   Codes         the codes (`query-listed`), and how large place and bytes are (`query-small`)
--   Back          a goal that is printed is read as the same goal, with the same names (`goal-printed-then-read`), an answer with its variables numbered afresh
--                 (`found-printed-then-read`)
pub mod Given
pub mod Outcome
pub mod Is
