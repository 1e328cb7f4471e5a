pub mod FitLaws
pub mod HangLaws
pub mod HeadLaws
pub mod MeetLaws
pub mod PairLaws
pub mod StepLaws
pub mod UnifyLaws
pub mod UnseenLaws
