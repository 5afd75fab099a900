pub mod StepLaws
pub mod BodyLaws
pub mod ReadLaws
pub mod StandLaws
pub mod SmallestLaws
pub mod WriteLaws
pub mod PairLaws
pub mod Cases
