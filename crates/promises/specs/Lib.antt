-- What is promised: a page for each demand, then what C and Rust call, the scope's cases, and the idle programs. `Calls` has the words of these pages.
pub mod Demand1
pub mod Demand2
pub mod Demand3
pub mod Exports
pub mod Table
pub mod Idle
pub mod Calls
