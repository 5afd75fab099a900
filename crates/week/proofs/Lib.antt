pub mod EndLaws
pub mod AreaLaws
pub mod TableLaws
pub mod CountingLaws
pub mod WeekLaws
pub mod Theorems
pub mod Cases
