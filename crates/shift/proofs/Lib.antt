pub mod ReadingLaws
pub mod AskingLaws
pub mod Theorems
pub mod DoingLaws
pub mod Cases
