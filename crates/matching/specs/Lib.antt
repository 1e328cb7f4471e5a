-- What two rows come to (Meeting, MeetLaws); pairs of rows that are due (Pairs, PairLaws); the occur check
-- (Occurring); what a trial has bound (Binding); two rows made equal (Unifying, StepLaws, UnseenLaws, UnifyLaws); where all are free, by a
-- most general unifier (TrialLaws); a head made equal to a formula by its own variables, and by all (Heads, HeadLaws, FitLaws),
-- and what is bound for it weighed (Fitting, HangLaws). The files of laws but TrialLaws are in proofs/.
pub mod Meeting
pub mod Pairs
pub mod Occurring
pub mod Binding
pub mod Unifying
pub mod TrialLaws
pub mod Heads
pub mod Fitting
