pub mod RoundLaws
pub mod FloatLaws
pub mod ProductLaws
pub mod UnitLaws
pub mod ExactLaws
pub mod Theorems
pub mod Cases
