pub mod Fates
pub mod Outcome
pub mod Inside
pub mod Promises
