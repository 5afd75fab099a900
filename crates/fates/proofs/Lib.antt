pub mod ToldLaws
pub mod FilledLaws
pub mod EachLaws
pub mod OutcomeLaws
pub mod Theorems
pub mod Cases
