pub mod AnswerLaws
pub mod ShareLaws
pub mod Sums
pub mod Theorems
pub mod Removal
pub mod Cases
