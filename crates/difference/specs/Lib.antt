pub mod Walking
pub mod Lines
pub mod Outcome
pub mod Promises
pub mod inside
