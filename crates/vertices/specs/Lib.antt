pub mod Vertices
pub mod inside
