pub mod LineLaws
pub mod SetLaws
pub mod TidyLaws
pub mod Theorems
pub mod Cases
