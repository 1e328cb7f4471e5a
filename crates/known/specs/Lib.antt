-- Lists of names that leave no number out.
pub mod InTurn  -- entry by entry
pub mod TurnLaws  -- what the test says: it is that of questions, Given
pub mod Known  -- what the code answers
