pub mod LineLaws
pub mod ListLaws
pub mod OutcomeLaws
pub mod Cases
pub mod Theorems
