pub mod Commands
pub mod Faults
pub mod Outlines
pub mod Importing
pub mod Exporting
pub mod inside
pub mod Promises
