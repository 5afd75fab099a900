-- What the inner functions ask of their callers, and say to them.
pub mod Words
pub mod Pens
