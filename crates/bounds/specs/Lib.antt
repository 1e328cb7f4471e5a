-- Places of variables (Places); how large what rows stand for is (Sizing), counted (CountLaws).
pub mod Places
pub mod Sizing
pub mod CountLaws
-- What variables weigh (WeighLaws), and by how often they are there (Thrift, ThriftLaws); goals, what a most general unifier leaves alone, and how large the next goal is at most (GoalLaws, UnifierLaws, RoomLaws).
pub mod WeighLaws
pub mod Thrift
pub mod ThriftLaws
pub mod GoalLaws
pub mod UnifierLaws
pub mod RoomLaws
-- How often any one variable is there: in goals that are numbered, in what is bound (OftenLaws).
pub mod OftenLaws
-- The variables of a clause's head counted, and the counts taken by its body (Tally): a word (TallyLaws), words (TurnLaws), a clause (ClauseLaws).
pub mod Tally
pub mod TallyLaws
pub mod TurnLaws
pub mod ClauseLaws
