pub mod Lists
pub mod Calls
pub mod Rows
pub mod Outcome
pub mod Promises
pub mod inside
