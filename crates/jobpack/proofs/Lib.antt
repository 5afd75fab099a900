pub mod PackLaws
pub mod DigitRun
pub mod LineRun
pub mod LinesRun
pub mod Theorems
pub mod Cases
