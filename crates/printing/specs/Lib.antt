-- A book printed back as text (document 02, C-14). What is proved of it: the files of laws, here and in proofs/, and there Theorem.
pub mod Spacing
pub mod Named
pub mod NamedLaws
pub mod DigitLaws
pub mod FirstLaws
pub mod Renumbered
pub mod Fit
pub mod ImageLaws
pub mod Examples
