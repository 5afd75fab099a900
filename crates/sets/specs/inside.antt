-- What the inner functions say to each other.
pub mod Contour
pub mod Shape
pub mod Shapes
pub mod Asked
