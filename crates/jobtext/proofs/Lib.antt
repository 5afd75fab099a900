pub mod LineLaws
pub mod DumpLaws
pub mod LengthLaws
pub mod Theorems
pub mod Cases
