-- The numbers that C gets of printing and reading, and what they say.
pub mod Numbers
pub mod Figures
pub mod ReadFigures
pub mod QueryFigures
pub mod Once
pub mod RunAnswers
