pub mod Records
pub mod Surveys
