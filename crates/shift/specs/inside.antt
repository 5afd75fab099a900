-- What the inner functions say to each other.
pub mod Heads
pub mod Asking
pub mod Doing
