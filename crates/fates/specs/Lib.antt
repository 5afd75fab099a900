pub mod Fates
pub mod Outcome
pub mod inside
pub mod Promises
