pub mod SiftingLaws
pub mod CleanedLaws
pub mod GoingLaws
