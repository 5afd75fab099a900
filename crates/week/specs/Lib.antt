pub mod Files
pub mod Counting
pub mod Words
pub mod Table
