-- The reader of a query's text (document 02, C-13; docs/DECISIONS.md) as a definition, token by token (Asking). What is proved of it, in proofs/:
--   AskingLaws   the texts that are read are exactly the grammar's within the sizes (`asking_iff`); a text is refused just where the refusal's relation holds (`refusal_iff`),
--                in one way only (`refusal-one`); the relation, told without the reader, is in Refusal and Unexpected
pub mod Asking
-- What is read is this (Accepted).
pub mod Accepted
pub mod Examples
