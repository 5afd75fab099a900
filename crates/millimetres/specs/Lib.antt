pub mod Scale
pub mod inside
