pub mod Convex
pub mod Clockwise
pub mod Contains
pub mod Locate
pub mod inside
