-- The reader of a text (document 02, C-13) as a definition, token by token: what it has read (Part), what it reads (Reader). What is proved of it, in proofs/:
--   ReadingLaws   the accepted texts are exactly the grammar's (`reading_iff`)
--   RefusalLaws   a text is refused just where the refusal's relation holds (`refusal_iff`), in one way only (`refusal-one`); the relations are in Refusal and Unexpected
pub mod Part
pub mod Reader
-- What is read is written in the text, and kept to the sizes.
pub mod PrintLaws
pub mod SizeLaws
pub mod Limits
-- Rules that keep to the sizes are read.
pub mod RunLaws
-- The nodes of what is read in part.
pub mod Draft
