pub mod Ladder
pub mod Verdicts
pub mod Refusals
