-- From the end of a search to what a run answers and leaves.
pub mod Ending
