pub mod Walk
pub mod Rule
pub mod Promises
pub mod inside
