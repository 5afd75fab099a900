pub mod Bits
pub mod Signs
pub mod Widths
pub mod inside
