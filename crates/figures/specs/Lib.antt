pub mod Halves
pub mod Entries
pub mod Batch
pub mod Joining
pub mod Adding
pub mod inside
pub mod Promises
