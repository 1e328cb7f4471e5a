-- What a check answers (Reading), with document 01's cases (Cases); what a good book and a good goal are, and their images (Format); when predicate numbers keep one
-- arity, and what a check remembers of them (Arities, ArityLaws); the book and the goal of an image, computed (Decode); what a refusal means (Faulty); nodes, goals and
-- books as words (Words); and that a check's contract has one outcome (Once).
pub mod Reading
pub mod Cases
pub mod Format
pub mod Arities
pub mod ArityLaws
pub mod Decode
pub mod Faulty
pub mod Words
pub mod Once
