-- A goal and its answer held on the heap (Holding), rows each by themselves (ListLaws), and the laws of what is held (HoldLaws); a row as it comes to the heap (Rows); what is held told apart from a
-- saved formula (Telling), and written out (Showing).
pub mod Holding
pub mod ListLaws
pub mod Rows
pub mod HoldLaws
pub mod Telling
pub mod Showing
