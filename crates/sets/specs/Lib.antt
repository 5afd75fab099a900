pub mod Verdicts
pub mod Area
pub mod Contains
pub mod Fates
pub mod Outcome
pub mod inside
pub mod Promises
