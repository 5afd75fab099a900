pub mod RowLaws
pub mod PlacedLaws
