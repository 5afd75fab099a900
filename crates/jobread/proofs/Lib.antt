pub mod PlaceLaws
pub mod RunLaws
pub mod RowLaws
pub mod BoundLaws
