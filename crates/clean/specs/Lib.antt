pub mod Verdicts
pub mod Outcome
pub mod Promises
pub mod Part
pub mod inside
