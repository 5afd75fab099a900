pub mod Spans
pub mod Sets
pub mod Parts
pub mod Refusals
pub mod Answers
pub mod Contours
pub mod Shapes
pub mod inside
