pub mod Search
pub mod Starts
pub mod Promises
pub mod inside
