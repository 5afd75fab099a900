pub mod Cleaned
pub mod inside
