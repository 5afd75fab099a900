pub mod BitLaws
pub mod WordLaws
pub mod SignLaws
pub mod WidthLaws
pub mod CodeLaws
pub mod PenLaws
pub mod BroadLaws
pub mod Cases
