pub mod LineLaws
pub mod AccountLaws
pub mod Theorems
pub mod Cases
