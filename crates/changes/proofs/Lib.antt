pub mod LineLaws
pub mod CountLaws
pub mod PlaceLaws
pub mod ReadLaws
pub mod ChangeLaws
pub mod SameLaws
pub mod Theorems
pub mod Cases
