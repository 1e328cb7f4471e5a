-- Rules written as text (document 02, C-13). The grammar: Byte, Token, Syntax, Names, Reading, and Query for queries. What is proved of it: the files of laws, of which
--   SyntaxLaws   rules are read from their tokens in one way
--   TokenLaws    a text has one list of tokens, which Front computes piece by piece
--   GoodLaws     a book, or a goal, that is read is good
--   GrowLaws     names numbered as they come have the numbers that they have in the end
--   ListLaws     a name list is that of one table of names only
-- and the theorem "each with one reading" stands in Reading (`reading-one`) and in Query (`query-one`).
pub mod Byte
pub mod Token
pub mod Syntax
pub mod Front
pub mod ByteLaws
pub mod TokenLaws
pub mod FrontLaws
pub mod SyntaxLaws
pub mod Names
pub mod Reading
pub mod Query
pub mod NameLaws
pub mod GoodLaws
pub mod GrowLaws
pub mod ListLaws
pub mod Examples
