-- What is said of the exports.
pub mod Exports
