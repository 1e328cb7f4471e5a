-- What is kept of clauses, and its laws.
pub mod Figures
pub mod FigureLaws
