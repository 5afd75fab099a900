pub mod ConvexLaws
pub mod ContainsLaws
pub mod OnEdge
pub mod LocateLaws
pub mod Theorems
pub mod Cases
pub mod BoxLaws
