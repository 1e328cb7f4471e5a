-- What the entries of the flat profile answer and leave (Outcome); the ways out of each (Ways), how big the figures for C are (Numbers); one outcome each (Once); each code is of the fixed list (Listed); what a flat run says (Says).
pub mod Outcome
pub mod Ways
pub mod Numbers
pub mod Once
pub mod Listed
pub mod Says
