-- What the inner functions say to each other.
pub mod Convex
pub mod Contains
pub mod Locate
