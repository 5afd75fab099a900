pub mod Names
pub mod Markup
pub mod Frame
pub mod Picture
pub mod inside
