pub mod WritingLaws
pub mod AlongLaws
pub mod KeptLaws
pub mod SettleLaws
pub mod DotLaws
