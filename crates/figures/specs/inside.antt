-- What the inner functions say to each other.
pub mod Adding
