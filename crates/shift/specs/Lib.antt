pub mod Steps
pub mod States
pub mod Replay
pub mod Outcome
pub mod Promises
pub mod inside
