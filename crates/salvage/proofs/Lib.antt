pub mod FateLaws
pub mod FileLaws
pub mod SiftLaws
pub mod MendLaws
pub mod ShapeLaws
pub mod CutLaws
pub mod Theorems
pub mod Cases
